use Rattle.std.proofs.Common.{◌∙◌, [], ◌∷◌, sym, ap, subst, arith}
use Rattle.std.proofs.lemmas.List.Sums.{sum_by-cons}
use Rattle.script_text.specs.declared.script.Event as asked
use Rattle.script_text.specs.declared.script.Event.TheVariants as ask
use Rattle.script_text.specs.Script.{slots_of, AreRates}
use Rattle.abstract_unix.specs.Unix.{Timing, System}
use Rattle.abstract_unix.proofs.Uncounted.{tick_timing, byte_timing, hangup_timing, pace_passed}
use Rattle.abstract_unix.specs.Endings.{phase_after}
use Rattle.abstract_unix.specs.Runs.{Tick}
use Rattle.abstract_unix.proofs.RunsLemmas.{tick_told}
use Rattle.take_script.specs.Clocks.{clock_value}
use Rattle.take_script.specs.Events.{happens}
use Rattle.take_script.proofs.SlotLemmas.{run_event, run_as, run_whole}
use Rattle.take_script.proofs.slots.take_event.Goals as goal

pub returns-in-Tick-clause-phase : goal.returns-in-Tick-clause-phase
returns-in-Tick-clause-phase g c =
    c.tick.ensures.phase
    ∙ ap phase_after
    (tick_told c.args.kernel.now.system c.ends_by.result (λ is. c.ends_by.ensures.goes (c.tick.ensures.answer ∙ is))
    (λ kind is. c.ends_by.ensures.stops kind (c.tick.ensures.answer ∙ is)))

pub returns-in-Tick-clause-run : goal.returns-in-Tick-clause-run
returns-in-Tick-clause-run g c =
    let tick = c.tick.ensures in
    let ended =
    tick_told c.args.kernel.now.system c.ends_by.result (λ is. c.ends_by.ensures.goes (tick.answer ∙ is))
    (λ kind is. c.ends_by.ensures.stops kind (tick.answer ∙ is)) in
    run_whole _ _ _ _ _ _ (run_as _ _ _ _ _ _ _ (ap (happens (clock_value c.args.clock.now)) (sym c.in-Tick.is))
    (run_event c.args.kernel.now.system _ Tick c.ends_by.result _ _ tick.next tick.items ended))

-- What the kernel can take.
pub run_pieces-requires-clause-fresh : goal.run_pieces-requires-clause-fresh
run_pieces-requires-clause-fresh g c =
    let few = c.requires.can.fresh in
    let one = sum_by-cons slots_of c.args.event [] in
    let count = ap slots_of c.in-Run.is in
    omega (arith, few, one, count)

pub set_disk-requires-clause-most : goal.set_disk-requires-clause-most
set_disk-requires-clause-most g c =
    let all : AreRates (ask.Disk c.in-Disk.count ∷ []) = subst (λ (e : asked.Event). AreRates (e ∷ [])) c.in-Disk.is c.requires.can.rates in
    let most = all.0 in omega (arith, most)

-- a line's number is below 8
pub hangup-requires-clause-line : goal.hangup-requires-clause-line
hangup-requires-clause-line g c =
    let all : AreRates (ask.Hangup c.in-Hangup.l ∷ []) = subst (λ (e : asked.Event). AreRates (e ∷ [])) c.in-Hangup.is c.requires.can.rates in
    let few = all.0 in omega (arith, few)

-- How many slots have been taken then.
pub returns-in-Clock-clause-passed : goal.returns-in-Clock-clause-passed
returns-in-Clock-clause-passed g c goes uncut = let none = ap slots_of c.in-Clock.is in omega (arith, none)

pub returns-in-Run-clause-passed : goal.returns-in-Run-clause-passed
returns-in-Run-clause-passed g c goes uncut =
    let count = ap slots_of c.in-Run.is in let more = c.run_pieces.ensures.passed goes uncut in omega (arith, count, more)

pub returns-in-Tick-clause-passed : goal.returns-in-Tick-clause-passed
returns-in-Tick-clause-passed g c goes uncut =
    let none = ap slots_of c.in-Tick.is in
    let tick = c.tick.ensures in
    let ended =
    tick_told c.args.kernel.now.system c.ends_by.result (λ is. c.ends_by.ensures.goes (tick.answer ∙ is))
    (λ kind is. c.ends_by.ensures.stops kind (tick.answer ∙ is)) in
    let same = ap (λ (m : System). m.unix.timing.passed) tick.next
    ∙ ap (λ (t : Timing). t.passed) (tick_timing c.args.kernel.now.system (ended ∙ goes)) in
    omega (arith, none, same)

pub returns-in-Byte-clause-passed : goal.returns-in-Byte-clause-passed
returns-in-Byte-clause-passed g c goes uncut =
    let none = ap slots_of c.in-Byte.is in
    let same = ap (λ (m : System). m.unix.timing.passed) c.typed_on.ensures.next
    ∙ ap (λ (t : Timing). t.passed) (byte_timing c.args.kernel.now.system c.args.clock.now.line c.in-Byte.byte) in
    omega (arith, none, same)

pub returns-in-Pace-clause-passed : goal.returns-in-Pace-clause-passed
returns-in-Pace-clause-passed g c goes uncut =
    let none = ap slots_of c.in-Pace.is in
    let same = ap (λ (m : System). m.unix.timing.passed) c.set_pace.ensures.next ∙ pace_passed c.args.kernel.now.system c.in-Pace.count in
    omega (arith, none, same)

pub returns-in-Line-clause-passed : goal.returns-in-Line-clause-passed
returns-in-Line-clause-passed g c goes uncut = let none = ap slots_of c.in-Line.is in omega (arith, none)

pub returns-in-Hangup-clause-passed : goal.returns-in-Hangup-clause-passed
returns-in-Hangup-clause-passed g c goes uncut =
    let none = ap slots_of c.in-Hangup.is in
    let same = ap (λ (m : System). m.unix.timing.passed) c.hangup.ensures.next
    ∙ ap (λ (t : Timing). t.passed) (hangup_timing c.args.kernel.now.system c.in-Hangup.l) in
    omega (arith, none, same)

pub returns-in-Switch-clause-passed : goal.returns-in-Switch-clause-passed
returns-in-Switch-clause-passed g c goes uncut =
    let none = ap slots_of c.in-Switch.is in
    let same = ap (λ (m : System). m.unix.timing.passed) c.set_switches.ensures.next in
    omega (arith, none, same)

pub returns-in-Disk-clause-passed : goal.returns-in-Disk-clause-passed
returns-in-Disk-clause-passed g c goes uncut =
    let none = ap slots_of c.in-Disk.is in
    let same = ap (λ (m : System). m.unix.timing.passed) c.set_disk.ensures.next in
    omega (arith, none, same)
