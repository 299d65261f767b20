use Rattle.std.proofs.Common.{◌≡◌, ◌∙◌, ap, subst}
use Rattle.unix_core.specs.State.{KernelState}
use Rattle.unix_core.specs.Memory.{kept_in}
use Rattle.unix_core.proofs.Memories.{told}
use Rattle.unix_core.proofs.kernel.Kernel.place.Goals as goal

pub returns-clause-told : goal.returns-clause-told
returns-clause-told c = λ started.
    let m = c.self.inside.machine in
    subst (λ (v : KernelState). v.kept ≡ kept_in v.system) c.self.view_is
    (told m.stage m.world c.self.invariant (ap (λ (v : KernelState). v.phase) c.self.view_is ∙ started) c.see_procs.ensures.rows c.see_procs.ensures.images)
