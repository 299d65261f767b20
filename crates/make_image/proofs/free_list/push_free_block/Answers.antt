use Rattle.std.proofs.Common.{◌++◌, ◌∙◌, ap, arith}
use Rattle.std.proofs.lemmas.Result.{on_ok_weaker}
use Rattle.make_image.proofs.FreeListLemmas.{full_block, blank_block}
use Rattle.make_image.proofs.free_list.push_free_block.Goals as goal

pub returns-then-block-eq0-clause-items : goal.returns-then-block-eq0-clause-items
returns-then-block-eq0-clause-items c = on_ok_weaker c.push_full_list.result (λ e. e ∙ ap (λ l. c.args.image.now.items ++ l) (full_block c.args.block _ c.requires (omega arith) c.free_numbers.ensures)) c.push_full_list.ensures.items

pub returns-else-block-eq0-clause-items : goal.returns-else-block-eq0-clause-items
returns-else-block-eq0-clause-items c = on_ok_weaker c.push_padded.result (λ e. e ∙ ap (λ l. c.args.image.now.items ++ l) (blank_block c.args.block c.requires (λ z. omega arith))) c.push_padded.ensures.items
