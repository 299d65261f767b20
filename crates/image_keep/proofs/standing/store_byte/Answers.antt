-- A byte that is written leaves what stands outside the data and the stack.
use Rattle.std.proofs.Common.{refl, slice_set}
use Rattle.image_keep.proofs.StandingParts.{byte_rest}
use Rattle.image_keep.proofs.standing.store_byte.Goals as goal

pub returns-clause-rest : goal.returns-clause-rest
returns-clause-rest c = λ k m off.
    byte_rest c.args.core.now (slice_set c.args.core.now c.args.place c.args.value) c.args.f.now c.args.place c.args.value k m c.requires.place refl off
