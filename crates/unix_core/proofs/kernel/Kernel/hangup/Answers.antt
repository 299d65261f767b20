use Rattle.std.proofs.Common.{◌∙◌, ap, sym, subst}
use Rattle.v6_base.specs.Trace.{Took}
use Rattle.abstract_unix.specs.Unix.{System}
use Rattle.unix_core.specs.State.{KernelState}
use Rattle.unix_core.specs.Parts.{system_at}
use Rattle.unix_core.proofs.BootKernelLemmas.{system_alone}
use Rattle.abstract_unix.specs.Turn.{settled_after}
use Rattle.abstract_unix.specs.Outside.{hangup_of}
use Rattle.abstract_unix.specs.Private.{AllUndisturbed}
use Rattle.unix_core.proofs.PrivateLemmas.{fifty_slots, hangup_private}
use Rattle.abstract_unix.specs.Shared.{AllTextsStay}
use Rattle.unix_core.proofs.StayingLemmas.{hangup_stays}
use Rattle.unix_core.proofs.kernel.Kernel.hangup.Goals as goal

pub hangup-requires-clause-started : goal.hangup-requires-clause-started
hangup-requires-clause-started g c = ap (λ (v : KernelState). v.phase) c.self.view_is ∙ c.requires.started

pub returns-clause-phase : goal.returns-clause-phase
returns-clause-phase g c = c.hangup.ensures.started

pub returns-clause-next : goal.returns-clause-next
returns-clause-next g c = c.hangup.ensures.takes.system ∙ ap (λ (k : KernelState). (settled_after (hangup_of k.system c.args.l)).next) c.self.view_is

pub returns-clause-private : goal.returns-clause-private
returns-clause-private g c =
    let m : System = c.args.self.now.system in
    let fifty = fifty_slots c.self.inside.machine.world m (ap (λ (v : KernelState). v.system) c.self.view_is) in
    subst (λ (n : System). AllUndisturbed m n) (sym (returns-clause-next g c)) (hangup_private m fifty c.args.l)

pub returns-clause-texts : goal.returns-clause-texts
returns-clause-texts g c =
    let m : System = c.args.self.now.system in
    subst (λ (n : System). AllTextsStay m n) (sym (returns-clause-next g c)) (hangup_stays m c.args.l)

pub returns-clause-items : goal.returns-clause-items
returns-clause-items g c =
    subst (λ (k : KernelState). Took (g.T.Trace.taken c.args.trace.now) (settled_after (hangup_of k.system c.args.l)).items (g.T.Trace.taken c.hangup.new.trace))
    c.self.view_is c.hangup.ensures.items

-- All else is as it was.
pub returns-clause-others : goal.returns-clause-others
returns-clause-others g c =
    let m = c.self.inside.machine in
    let n = c.hangup.new.self in
    system_alone m.stage n.stage m.world n.world c.hangup.ensures.images c.hangup.ensures.tree (returns-clause-phase g c ∙ sym (ap (λ (v : KernelState). v.phase) c.self.view_is ∙ c.requires.started))
    ∙ ap (λ (v : KernelState). record v { system = system_at n.world }) c.self.view_is
