use Rattle.std.proofs.Common.{◌∙◌, ap, sym, subst}
use Rattle.v6_base.specs.Trace.{Took}
use Rattle.abstract_unix.specs.Unix.{System}
use Rattle.unix_core.specs.State.{KernelState}
use Rattle.abstract_unix.specs.Endings.{phase_after}
use Rattle.abstract_unix.specs.Turn.{settled_after, ticked_by}
use Rattle.abstract_unix.specs.Outside.{tick_of}
use Rattle.abstract_unix.specs.Private.{TickUndisturbed}
use Rattle.unix_core.proofs.PrivateLemmas.{tick_private}
use Rattle.abstract_unix.specs.Shared.{AllTextsStay}
use Rattle.unix_core.proofs.StayingLemmas.{tick_stays}
use Rattle.unix_core.proofs.kernel.Kernel.tick.Goals as goal

pub tick-requires-clause-started : goal.tick-requires-clause-started
tick-requires-clause-started g c = ap (λ (v : KernelState). v.phase) c.self.view_is ∙ c.requires

pub returns-clause-phase : goal.returns-clause-phase
returns-clause-phase g c = c.tick.ensures.takes.phase ∙ ap (λ (k : KernelState). phase_after (settled_after (tick_of k.system)).ending) c.self.view_is

pub returns-clause-answer : goal.returns-clause-answer
returns-clause-answer g c = c.tick.ensures.answer ∙ ap (λ (k : KernelState). ticked_by (settled_after (tick_of k.system)).ending) c.self.view_is

pub returns-clause-items : goal.returns-clause-items
returns-clause-items g c =
    subst (λ (k : KernelState). Took (g.T.Trace.taken c.args.trace.now) (settled_after (tick_of k.system)).items (g.T.Trace.taken c.tick.new.trace))
    c.self.view_is c.tick.ensures.items

pub returns-clause-next : goal.returns-clause-next
returns-clause-next g c = c.tick.ensures.takes.system ∙ ap (λ (k : KernelState). (settled_after (tick_of k.system)).next) c.self.view_is

pub returns-clause-private : goal.returns-clause-private
returns-clause-private g c =
    let m : System = c.args.self.now.system in
    subst (λ (n : System). TickUndisturbed m n) (sym (returns-clause-next g c)) (tick_private m)

pub returns-clause-texts : goal.returns-clause-texts
returns-clause-texts g c =
    let m : System = c.args.self.now.system in
    subst (λ (n : System). AllTextsStay m n) (sym (returns-clause-next g c)) (tick_stays m)
