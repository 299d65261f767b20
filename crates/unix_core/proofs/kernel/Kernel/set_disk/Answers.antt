use Rattle.std.proofs.Common.{◌∙◌, ap, sym, subst}
use Rattle.abstract_unix.specs.Unix.{System}
use Rattle.unix_core.specs.State.{KernelState}
use Rattle.unix_core.specs.Parts.{system_at}
use Rattle.abstract_unix.specs.Runs.{event_of, Disk}
use Rattle.unix_core.proofs.BootKernelLemmas.{set, set_kernel, set_system}
use Rattle.abstract_unix.specs.Private.{AllUndisturbed}
use Rattle.unix_core.proofs.PrivateLemmas.{disk_private}
use Rattle.abstract_unix.specs.Shared.{AllTextsStay}
use Rattle.unix_core.proofs.StayingLemmas.{disk_stays}
use Rattle.unix_core.proofs.kernel.Kernel.set_disk.Goals as goal

pub invariant_of-self : goal.invariant_of-self
invariant_of-self c = let m = c.self.inside.machine in set_kernel m.world c.args.n c.requires.most m.stage c.self.invariant

pub returns-clause-next : goal.returns-clause-next
returns-clause-next c =
    let m = c.self.inside.machine in
    set_system m.world c.args.n c.requires.most ∙ ap (λ (v : KernelState). (event_of (Disk c.args.n) v.system).next) c.self.view_is

pub returns-clause-private : goal.returns-clause-private
returns-clause-private c =
    let m : System = c.args.self.now.system in
    subst (λ (n : System). AllUndisturbed m n) (sym (returns-clause-next c)) (disk_private m c.args.n)

pub returns-clause-texts : goal.returns-clause-texts
returns-clause-texts c =
    let m : System = c.args.self.now.system in
    subst (λ (n : System). AllTextsStay m n) (sym (returns-clause-next c)) (disk_stays m c.args.n)

-- All else is as it was.
pub returns-clause-others : goal.returns-clause-others
returns-clause-others c =
    let m = c.self.inside.machine in
    ap (λ (v : KernelState). record v { system = system_at (set m.world c.args.n c.requires.most) }) c.self.view_is
