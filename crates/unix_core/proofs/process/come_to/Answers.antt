use Rattle.std.proofs.Common.{◌≤◌, refl, sym, ap, subst}
use Rattle.v6_base.specs.Trace.{Took}
use Rattle.v6_base.proofs.Took.{took_nothing}
use Rattle.pick_rules.specs.Logged.{logged}
use Rattle.pdp_step.specs.declared.outcome.Outcome.{Outcome}
use Rattle.unix_core.specs.declared.world.World.{World}
use Rattle.abstract_unix.specs.Turn.{comes_to, waits_in}
use Rattle.unix_core.specs.declared.slots.Slots.{Slots}
use Rattle.unix_core.specs.Slots.{HasWaited}
use Rattle.unix_core.specs.Parts.{unix_of, board_in, HasCome}
use Rattle.unix_core.proofs.CountLemmas.{has_not_waited}
use Rattle.unix_core.proofs.process.come_to.Goals as goal

pub returns-in-Call-clause-come : goal.returns-in-Call-clause-come
returns-in-Call-clause-come g c =
    let w : World = c.args.world.now in
    subst (λ (o : Outcome). HasCome (board_in w) (comes_to (unix_of w) c.args.fixed.now.slot o)
    c.call.result c.call.new.world) (sym c.in-Call.is)
    c.call.ensures.come

pub returns-in-Call-clause-items : goal.returns-in-Call-clause-items
returns-in-Call-clause-items g c =
    let w : World = c.args.world.now in
    subst (λ (o : Outcome). Took (g.T.Trace.taken c.args.trace.now)
    (logged (board_in w) (comes_to (unix_of w) c.args.fixed.now.slot o).effects).items
    (g.T.Trace.taken c.call.new.trace)) (sym c.in-Call.is) c.call.ensures.items

pub returns-in-Fault-clause-come : goal.returns-in-Fault-clause-come
returns-in-Fault-clause-come g c =
    let w : World = c.args.world.now in
    subst (λ (o : Outcome). HasCome (board_in w) (comes_to (unix_of w) c.args.fixed.now.slot o)
    c.fault.result c.fault.new.world) (sym c.in-Fault.is)
    c.fault.ensures.come

pub returns-in-Fault-clause-items : goal.returns-in-Fault-clause-items
returns-in-Fault-clause-items g c =
    let w : World = c.args.world.now in
    subst (λ (o : Outcome). Took (g.T.Trace.taken c.args.trace.now)
    (logged (board_in w) (comes_to (unix_of w) c.args.fixed.now.slot o).effects).items
    (g.T.Trace.taken c.fault.new.trace)) (sym c.in-Fault.is) c.fault.ensures.items

pub returns-in-Fault-clause-good : goal.returns-in-Fault-clause-good
returns-in-Fault-clause-good g c goes = (c.fault.ensures.ready goes).good

pub returns-in-Fault-clause-runs : goal.returns-in-Fault-clause-runs
returns-in-Fault-clause-runs g c goes other = (c.fault.ensures.ready goes).runs

pub returns-in-Next-clause-slots : goal.returns-in-Next-clause-slots
returns-in-Next-clause-slots g c goes =
    has_not_waited _ _ _ refl c.requires.waits (ap (λ (o : Outcome). waits_in (unix_of c.args.world.now) c.args.fixed.now.slot o) c.in-Next.is)

pub returns-in-Call-clause-slots : goal.returns-in-Call-clause-slots
returns-in-Call-clause-slots g c goes =
    let w : World = c.args.world.now in
    subst (λ (o : Outcome). HasWaited (waits_in (unix_of w) c.args.fixed.now.slot o) w.slots c.call.new.world.slots) (sym c.in-Call.is)
    (c.call.ensures.slots goes)

pub returns-in-Fault-clause-slots : goal.returns-in-Fault-clause-slots
returns-in-Fault-clause-slots g c goes =
    has_not_waited _ _ _ c.fault.ensures.slots c.requires.waits (ap (λ (o : Outcome). waits_in (unix_of c.args.world.now) c.args.fixed.now.slot o) c.in-Fault.is)

pub returns-in-Next-clause-items : goal.returns-in-Next-clause-items
returns-in-Next-clause-items g c =
    let w : World = c.args.world.now in
    took_nothing _ _ (ap (λ (o : Outcome). (logged (board_in w) (comes_to (unix_of w) c.args.fixed.now.slot o).effects).items) c.in-Next.is)

pub returns-in-Next-clause-within : goal.returns-in-Next-clause-within
returns-in-Next-clause-within g c = c.requires.waits.within

pub returns-in-Call-clause-within : goal.returns-in-Call-clause-within
returns-in-Call-clause-within g c = c.call.ensures.within

pub returns-in-Fault-clause-within : goal.returns-in-Fault-clause-within
returns-in-Fault-clause-within g c = subst (λ (x : Slots). x.left ≤ x.due) (sym c.fault.ensures.slots) c.requires.waits.within
