use Rattle.std.proofs.Common.{◌∙◌, ap, sym, subst}
use Rattle.v6_base.specs.Trace.{Took}
use Rattle.abstract_unix.specs.Unix.{System}
use Rattle.unix_core.specs.State.{KernelState}
use Rattle.unix_core.specs.Parts.{system_at}
use Rattle.unix_core.proofs.BootKernelLemmas.{system_alone}
use Rattle.abstract_unix.specs.Turn.{settled_after}
use Rattle.abstract_unix.specs.Outside.{typed_of}
use Rattle.abstract_unix.specs.Private.{AllUndisturbed}
use Rattle.unix_core.proofs.PrivateLemmas.{fifty_slots, typed_private}
use Rattle.abstract_unix.specs.Shared.{AllTextsStay}
use Rattle.unix_core.proofs.StayingLemmas.{typed_stays}
use Rattle.unix_core.proofs.kernel.Kernel.typed_on.Goals as goal

pub typed-requires-clause-started : goal.typed-requires-clause-started
typed-requires-clause-started g c = ap (λ (v : KernelState). v.phase) c.self.view_is ∙ c.requires.started

pub returns-clause-phase : goal.returns-clause-phase
returns-clause-phase g c = c.typed.ensures.takes.phase

pub returns-clause-next : goal.returns-clause-next
returns-clause-next g c = c.typed.ensures.takes.system ∙ ap (λ (k : KernelState). (settled_after (typed_of k.system c.args.l c.args.b)).next) c.self.view_is

pub returns-clause-private : goal.returns-clause-private
returns-clause-private g c =
    let m : System = c.args.self.now.system in
    let fifty = fifty_slots c.self.inside.machine.world m (ap (λ (v : KernelState). v.system) c.self.view_is) in
    subst (λ (n : System). AllUndisturbed m n) (sym (returns-clause-next g c)) (typed_private m fifty c.args.l c.args.b)

pub returns-clause-texts : goal.returns-clause-texts
returns-clause-texts g c =
    let m : System = c.args.self.now.system in
    subst (λ (n : System). AllTextsStay m n) (sym (returns-clause-next g c)) (typed_stays m c.args.l c.args.b)

pub returns-clause-items : goal.returns-clause-items
returns-clause-items g c =
    subst (λ (k : KernelState). Took (g.T.Trace.taken c.args.trace.now) (settled_after (typed_of k.system c.args.l c.args.b)).items (g.T.Trace.taken c.typed.new.trace))
    c.self.view_is c.typed.ensures.items

-- All else is as it was.
pub returns-clause-others : goal.returns-clause-others
returns-clause-others g c =
    let m = c.self.inside.machine in
    let n = c.typed.new.self in
    system_alone m.stage n.stage m.world n.world c.typed.ensures.images c.typed.ensures.tree (returns-clause-phase g c ∙ sym (ap (λ (v : KernelState). v.phase) c.self.view_is ∙ c.requires.started))
    ∙ ap (λ (v : KernelState). record v { system = system_at n.world }) c.self.view_is
