use Rattle.std.proofs.Common.{◌∙◌, ap, sym, subst}
use Rattle.abstract_unix.specs.Unix.{System}
use Rattle.unix_core.specs.State.{KernelState}
use Rattle.unix_core.specs.Parts.{system_at}
use Rattle.abstract_unix.specs.Runs.{event_of, Switch}
use Rattle.unix_core.proofs.BootKernelLemmas.{switched, switched_kernel, switched_system}
use Rattle.abstract_unix.specs.Private.{AllUndisturbed}
use Rattle.unix_core.proofs.PrivateLemmas.{switched_private}
use Rattle.abstract_unix.specs.Shared.{AllTextsStay}
use Rattle.unix_core.proofs.StayingLemmas.{switched_stays}
use Rattle.unix_core.proofs.kernel.Kernel.set_switches.Goals as goal

pub invariant_of-self : goal.invariant_of-self
invariant_of-self c = let m = c.self.inside.machine in switched_kernel m.world c.args.w m.stage c.self.invariant

pub returns-clause-next : goal.returns-clause-next
returns-clause-next c =
    let m = c.self.inside.machine in
    switched_system m.world c.args.w ∙ ap (λ (v : KernelState). (event_of (Switch c.args.w) v.system).next) c.self.view_is

pub returns-clause-private : goal.returns-clause-private
returns-clause-private c =
    let m : System = c.args.self.now.system in
    subst (λ (n : System). AllUndisturbed m n) (sym (returns-clause-next c)) (switched_private m c.args.w)

pub returns-clause-texts : goal.returns-clause-texts
returns-clause-texts c =
    let m : System = c.args.self.now.system in
    subst (λ (n : System). AllTextsStay m n) (sym (returns-clause-next c)) (switched_stays m c.args.w)

-- All else is as it was.
pub returns-clause-others : goal.returns-clause-others
returns-clause-others c =
    let m = c.self.inside.machine in
    ap (λ (v : KernelState). record v { system = system_at (switched m.world c.args.w) }) c.self.view_is
