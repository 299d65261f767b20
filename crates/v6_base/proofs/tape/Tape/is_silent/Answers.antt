use Rattle.std.proofs.Common.{◌↔◌, subst}
use Rattle.std.specs.Prelude.{◌==◌, IsTrue}
use Rattle.v6_base.specs.Tape.{Recording, IsSilent}
use Rattle.v6_base.proofs.LineBytesLemmas.{silent_exactly}
use Rattle.v6_base.proofs.tape.Tape.is_silent.Goals as goal

pub returns : goal.returns
returns c =
    let P : Recording → Type 0 = λ r. IsTrue (c.self.inside.left == c.self.inside.byte_room) ↔ IsSilent r in
    subst P c.self.view_is (silent_exactly _ c.self.inside.entries.items _ _ _ c.self.invariant)
