use Rattle.std.proofs.Common.{subst}
use Rattle.v6_base.specs.Image.{AreBytes}
use Rattle.image_keep.specs.Line.{Lists, line_of}
use Rattle.image_keep.proofs.Joined.{joined_bytes}
use Rattle.image_keep.proofs.memory.Memory.see_bytes.Goals as goal

pub returns : goal.returns
returns c = subst (λ (m : Lists). AreBytes (line_of m)) c.self.view_is (joined_bytes c.self.inside.core c.self.inside.swap.items (subst AreBytes c.as_slice.ensures c.see_bytes.ensures) (rw c.deref.ensures.value at c.see_bytes-2.ensures))
