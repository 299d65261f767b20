use Rattle.std.proofs.Common.{◌++◌, ◌∙◌, ap, sym, arith, append-nil}
use Rattle.make_image.proofs.FreeListLemmas.{blocks_from, blocks_after, no_blocks}
use Rattle.make_image.proofs.image.push_free_blocks.Goals as goal

pub loop-block-preserved : goal.loop-block-preserved
loop-block-preserved c = record {
  items = blocks_after c.loop-block.image.items _ _ _ _ _ c.in_ok-push_free_block.ensures.items (blocks_from c.loop-block.block (omega arith)) c.loop-block.invariant.items;
  len = omega (arith, c.in_ok-push_free_block.ensures.len);
}

pub returns-clause-items : goal.returns-clause-items
returns-clause-items c = sym (append-nil c.loop-block.image.items) ∙ ap (λ l. c.loop-block.image.items ++ l) (sym (no_blocks _ (omega arith))) ∙ c.loop-block.invariant.items
