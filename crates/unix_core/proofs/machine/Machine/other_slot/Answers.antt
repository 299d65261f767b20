use Rattle.std.proofs.Common.{rules, ◌≡◌, ◌∙◌, Some, ap, subst}
use Rattle.v6_base.specs.Trace.{Took}
use Rattle.unix_core.specs.declared.world.World.{World}
use Rattle.abstract_unix.specs.Turn.{Turn, turned}
use Rattle.unix_core.specs.Parts.{phase_of, goes_on, Takes}
use Rattle.unix_core.proofs.IdleLemmas.{idle_so, idle_still, idle_turn, idle_told, swap_turn}
use Rattle.unix_core.proofs.machine.Machine.other_slot.Goals as goal

pub count_slot-requires-clause-started : goal.count_slot-requires-clause-started
count_slot-requires-clause-started g c = ap phase_of c.requires.resting

pub returns-in-None-clause-answer : goal.returns-in-None-clause-answer
returns-in-None-clause-answer g c = c.count_slot.ensures.answer ∙ idle_told c.args.self.now.world c.in-None.is

pub returns-in-None-clause-takes : goal.returns-in-None-clause-takes
returns-in-None-clause-takes g c =
    let w = c.args.self.now.world in
    let new = c.count_slot.new.self in
    subst (λ (t : Turn). Takes t new.stage new.world) (idle_turn w c.in-None.is)
    (c.count_slot.ensures.takes (idle_so w c.in-None.is) (idle_still w c.in-None.is))

pub returns-in-None-clause-items : goal.returns-in-None-clause-items
returns-in-None-clause-items g c =
    let w = c.args.self.now.world in
    subst (λ (t : Turn). Took (g.T.Trace.taken c.args.trace.now) t.items (g.T.Trace.taken c.count_slot.new.trace)) (idle_turn w c.in-None.is)
    (c.count_slot.ensures.items (idle_so w c.in-None.is) (idle_still w c.in-None.is))

pub swap_slot-requires-clause-good : goal.swap_slot-requires-clause-good
swap_slot-requires-clause-good g c = (c.requires.kernel.resting c.requires.resting).good

pub swap_slot-requires-clause-counted : goal.swap_slot-requires-clause-counted
swap_slot-requires-clause-counted g c = c.requires.kernel.counted (ap (λ t. goes_on (phase_of t)) c.requires.resting)

pub returns-in-Some-eq0-clause-answer : goal.returns-in-Some-eq0-clause-answer
returns-in-Some-eq0-clause-answer g c =
    let w : World = c.args.self.now.world in
    let runs : w.procs.table.running ≡ Some 0 = search rules in
    c.swap_slot.ensures.answer ∙ ap turned (swap_turn w runs)

pub returns-in-Some-eq0-clause-takes : goal.returns-in-Some-eq0-clause-takes
returns-in-Some-eq0-clause-takes g c =
    let w : World = c.args.self.now.world in
    let runs : w.procs.table.running ≡ Some 0 = search rules in
    let new = c.swap_slot.new.self in
    subst (λ (t : Turn). Takes t new.stage new.world) (swap_turn w runs) c.swap_slot.ensures.takes

pub returns-in-Some-eq0-clause-items : goal.returns-in-Some-eq0-clause-items
returns-in-Some-eq0-clause-items g c =
    let w : World = c.args.self.now.world in
    let runs : w.procs.table.running ≡ Some 0 = search rules in
    subst (λ (t : Turn). Took (g.T.Trace.taken c.args.trace.now) t.items (g.T.Trace.taken c.swap_slot.new.trace)) (swap_turn w runs) c.swap_slot.ensures.items
