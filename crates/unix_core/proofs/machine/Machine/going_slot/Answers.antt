use Rattle.std.proofs.Common.{◌∙◌, ◌≤◌, ap, sym, subst}
use Rattle.v6_base.specs.Trace.{Took}
use Rattle.abstract_unix.specs.Unix.{System}
use Rattle.abstract_unix.specs.Turn.{Turn, turn, turned}
use Rattle.unix_core.specs.declared.world.World.{World}
use Rattle.unix_core.specs.declared.slots.Slots.{Slots}
use Rattle.unix_core.specs.Slots.{passed_in}
use Rattle.unix_core.specs.Parts.{system_at, phase_of, goes_on, Takes}
use Rattle.unix_core.proofs.TurnCounts.{goes_timed}
use Rattle.unix_core.proofs.PutLemmas.{good_alive}
use Rattle.unix_core.proofs.TurnLemmas.{turn_is, turn_takes, turn_items}
use Rattle.unix_core.proofs.TurnSteps.{user_slot}
use Rattle.unix_core.proofs.machine.Machine.going_slot.Goals as goal

pub end-requires-clause-slot : goal.end-requires-clause-slot
end-requires-clause-slot g c =
    let m = c.args.self.now in
    (good_alive m.world c.args.s (c.requires.kernel.resting c.requires.resting).good c.requires.runs c.requires.user).below

pub end-requires-clause-timed : goal.end-requires-clause-timed
end-requires-clause-timed g c goes =
    let w : World = c.args.self.now.world in
    let paused = c.requires.kernel.resting c.requires.resting in
    goes_timed w c.args.s (record { good = paused.good; runs = c.requires.runs; user = c.requires.user })
    (c.requires.kernel.counted (ap (λ t. goes_on (phase_of t)) c.requires.resting)).timed (paused.calls c.args.s c.requires.runs c.requires.user)
    c.go_on-ending.result c.go_on-ending.new.self.world c.go_on-ending.ensures.come c.go_on-ending.ensures.slots goes

pub end-requires-clause-within : goal.end-requires-clause-within
end-requires-clause-within g c = subst (λ (x : Slots). x.left ≤ x.due) (sym c.go_on-ending.ensures.slots) c.requires.kernel.within

pub end-requires-clause-fresh : goal.end-requires-clause-fresh
end-requires-clause-fresh g c goes = subst (λ (x : Slots). passed_in x ≤ 3000000000) (sym c.go_on-ending.ensures.slots) c.requires.fresh

pub returns-clause-answer : goal.returns-clause-answer
returns-clause-answer g c =
    let s = c.args.s in
    let m : System = system_at c.args.self.now.world in
    c.end.ensures.answer
    ∙ ap turned (sym (turn_is m s (turn m s) c.go_on-ending.result c.go_on-ending.new.self.world c.go_on-ending.ensures.come))
    ∙ ap turned (sym (user_slot m s c.requires.runs c.requires.user))

pub returns-clause-takes : goal.returns-clause-takes
returns-clause-takes g c =
    let s = c.args.s in
    let m : System = system_at c.args.self.now.world in
    let new = c.end.new.self in
    subst (λ (t : Turn). Takes t new.stage new.world) (sym (user_slot m s c.requires.runs c.requires.user))
    (turn_takes m s (turn m s) c.go_on-ending.result c.go_on-ending.new.self.world c.go_on-ending.ensures.come _ _ c.end.ensures.takes)

pub returns-clause-items : goal.returns-clause-items
returns-clause-items g c =
    let s = c.args.s in
    let m : System = system_at c.args.self.now.world in
    subst (λ (t : Turn). Took (g.T.Trace.taken c.args.trace.now) t.items (g.T.Trace.taken c.end.new.trace)) (sym (user_slot m s c.requires.runs c.requires.user))
    (turn_items m s (turn m s) c.go_on-ending.result c.go_on-ending.new.self.world c.go_on-ending.ensures.come _ _ _
    c.go_on-ending.ensures.items c.end.ensures.items)

pub returns-clause-frame : goal.returns-clause-frame
returns-clause-frame g c = g.met.T.Trace.goes_on _ _ _ c.go_on-ending.ensures.frame c.end.ensures.frame
