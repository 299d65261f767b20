use Rattle.std.proofs.Common.{arith, ap, ◌∙◌}
use Rattle.make_image.specs.FreeBlocks.{number}
use Rattle.make_image.proofs.FreeListLemmas.{numbers_are}
use Rattle.make_image.proofs.free_list.free_numbers.Goals as goal

pub returns : goal.returns
returns c = numbers_are c.args.lowest c.loop-i.numbers c.requires.above c.requires.below c.loop-i.invariant.long (λ k h. c.loop-i.invariant.each k (omega arith) ∙ ap (λ t. number c.args.lowest t k) c.top-top.ensures)
