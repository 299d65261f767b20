use Rattle.std.proofs.Common.{◌∙◌, [], ◌∷◌, if◌then◌else◌, replicate, refl, sym, ap}
use Rattle.std.proofs.lemmas.List.{append-nil}
use Rattle.fs_nodes.proofs.RestLemmas.{rest_then}
use Rattle.abstract_unix.specs.declared.ends.Ends.TheVariants.{AtEnd}
use Rattle.abstract_unix.specs.Endings.{phase_after}
use Rattle.abstract_unix.specs.Unix.{Timing, System}
use Rattle.abstract_unix.specs.Runs.{Slot, Tick}
use Rattle.abstract_unix.proofs.RunsLemmas.{tick_told}
use Rattle.abstract_unix.proofs.Uncounted.{tick_timing}
use Rattle.take_script.specs.Events.{stretch}
use Rattle.take_script.proofs.SlotLemmas.{run_none, run_event, run_more, run_last, run_as, ends_as}
use Rattle.take_script.proofs.slots.run_stretch.Goals as goal

-- The slots end the run.
pub returns-in_default-clause-run : goal.returns-in_default-clause-run
returns-in_default-clause-run g c =
    run_last _ _ _ _ _ _ _ [] (replicate c.args.count Slot) (if c.args.ticks then Tick ∷ [] else []) (stretch c.args.count c.args.ticks)
    (run_none _ _) c.in_default.not-AtEnd c.run_slots.ensures.run refl

-- The tick comes.
pub returns-then-ticks-clause-phase : goal.returns-then-ticks-clause-phase
returns-then-ticks-clause-phase g c =
    c.tick.ensures.phase
    ∙ ap phase_after
    (tick_told c.run_slots.new.kernel.system c.ends_by.result (λ is. c.ends_by.ensures.goes (c.tick.ensures.answer ∙ is))
    (λ kind is. c.ends_by.ensures.stops kind (c.tick.ensures.answer ∙ is)))

pub returns-then-ticks-clause-run : goal.returns-then-ticks-clause-run
returns-then-ticks-clause-run g c =
    let tick = c.tick.ensures in
    let ended =
    tick_told c.run_slots.new.kernel.system c.ends_by.result (λ is. c.ends_by.ensures.goes (tick.answer ∙ is))
    (λ kind is. c.ends_by.ensures.stops kind (tick.answer ∙ is)) in
    run_more _ _ _ _ _ _ _ (replicate c.args.count Slot) (Tick ∷ []) _
    (ends_as _ _ _ AtEnd _ _ _ c.in-AtEnd.is c.run_slots.ensures.run)
    (run_event c.run_slots.new.kernel.system _ Tick c.ends_by.result _ _ tick.next tick.items ended)
    (ap (stretch c.args.count) c.if-ticks.true)

pub returns-then-ticks-clause-passed : goal.returns-then-ticks-clause-passed
returns-then-ticks-clause-passed g c goes =
    let tick = c.tick.ensures in
    let ended =
    tick_told c.run_slots.new.kernel.system c.ends_by.result (λ is. c.ends_by.ensures.goes (tick.answer ∙ is))
    (λ kind is. c.ends_by.ensures.stops kind (tick.answer ∙ is)) in
    ap (λ (m : System). m.unix.timing.passed) tick.next
    ∙ ap (λ (t : Timing). t.passed) (tick_timing c.run_slots.new.kernel.system (ended ∙ goes))
    ∙ c.run_slots.ensures.passed c.in-AtEnd.is

pub returns-then-ticks-clause-rest : goal.returns-then-ticks-clause-rest
returns-then-ticks-clause-rest g c = rest_then _ _ _ c.run_slots.ensures.rest c.tick.ensures.rest

pub returns-then-ticks-clause-frame : goal.returns-then-ticks-clause-frame
returns-then-ticks-clause-frame g c = g.met.T.Trace.goes_on _ _ _ c.run_slots.ensures.frame c.tick.ensures.frame

-- No tick comes.
pub returns-clause-run : goal.returns-clause-run
returns-clause-run g c =
    run_as _ _ _ _ _ (replicate c.args.count Slot) _ (sym (append-nil (replicate c.args.count Slot)) ∙ ap (stretch c.args.count) (sym c.if-ticks.false))
    (ends_as _ _ _ AtEnd _ _ _ c.in-AtEnd.is c.run_slots.ensures.run)

pub returns-clause-passed : goal.returns-clause-passed
returns-clause-passed g c goes = c.run_slots.ensures.passed c.in-AtEnd.is

pub returns-clause-phase : goal.returns-clause-phase
returns-clause-phase g c = c.run_slots.ensures.phase ∙ ap phase_after c.in-AtEnd.is
