use Rattle.std.proofs.Common.{false, ◌+◌, drop, get_or, length, ap, ◌∙◌, arith}
use Rattle.std.proofs.lemmas.List.{get_or_default}
use Rattle.buf_cache.specs.Cached.{written}
use Rattle.buf_cache.specs.declared.cache.Head.{Head}
use Rattle.buf_cache.proofs.SlotLemmas.{buffers_in, head_low, write_more, write_length}
use Rattle.buf_cache.proofs.cache.write_blocks.Goals as goal

no_head : Head
no_head = record { block = 0; slot = 0; is_changed = false }

pub write_block-requires-clause-block : goal.write_block-requires-clause-block
unfolding no_head
write_block-requires-clause-block c =
    let h = (head_low c.args.disk.now.items c.args.slots.now c.args.heads.now c.loop-k.k no_head c.requires c.loop-k-test.true).0 in
    let n = c.requires.cached.disk.count in
    let l = c.loop-k.invariant.long in
    omega (arith, h, n, l)

pub loop-k-preserved : goal.loop-k-preserved
unfolding no_head
loop-k-preserved c =
    let bs = buffers_in c.args.slots.now c.args.heads.now in
    let h = get_or c.args.heads.now c.loop-k.k no_head in
    record {
      rest = ap (written (drop (c.loop-k.k + 1) bs)) c.write_block.ensures
          ∙ write_more c.args.slots.now c.loop-k.disk.items (written bs c.args.disk.now.items) c.args.heads.now c.loop-k.k h c.loop-k-test.true
          (get_or_default c.args.heads.now c.loop-k.k no_head h c.loop-k-test.true) c.loop-k.invariant.rest;
      long = ap length c.write_block.ensures ∙ write_length c.args.slots.now c.loop-k.disk.items h ∙ c.loop-k.invariant.long;
    }
