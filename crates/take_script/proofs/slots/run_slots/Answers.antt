use Rattle.std.proofs.Common.{rules, arith, ◌≡◌, ◌+◌, ◌-◌, ◌∙◌, ap, sym, replicate}
use Rattle.fs_nodes.proofs.RestLemmas.{rest_stays, rest_then}
use Rattle.abstract_unix.specs.declared.ends.Ends.TheVariants as ends
use Rattle.abstract_unix.specs.declared.ends.Ends.TheVariants.{AtEnd}
use Rattle.abstract_unix.specs.Endings.{phase_after}
use Rattle.abstract_unix.specs.Runs.{Slot, event_of}
use Rattle.abstract_unix.specs.Unix.{System}
use Rattle.abstract_unix.proofs.RunsLemmas.{ending_told, turn_told}
use Rattle.abstract_unix.proofs.Passed.{slot_passed}
use Rattle.take_script.proofs.SlotLemmas.{run_none, run_event, run_more, run_last, one_more, some_more}
use Rattle.take_script.proofs.slots.run_slots.Goals as goal

pub slots-init : goal.slots-init
slots-init g c = record { run = run_none _ _; passed = omega arith; phase = c.requires.started; rest = rest_stays _; frame = g.met.T.Trace.stays _ }

pub turn-requires-clause-fresh : goal.turn-requires-clause-fresh
turn-requires-clause-fresh g c = omega (arith, c.requires.fresh, c.slots.invariant.passed, c.slots-test.true)

pub returns-in-Panic : goal.returns-in-Panic
returns-in-Panic g c =
    let turn = c.turn.ensures in
    let ended = turn_told (event_of Slot c.slots.kernel.system) ∙ ap ending_told (sym turn.answer ∙ c.in-Panic.is) in
    let one = run_event c.slots.kernel.system _ Slot (ends.Panic c.in-Panic.kind) _ _ turn.next turn.items ended in
    let left = c.args.count - (c.slots.counter + 1) in
    record {
      phase = turn.phase ∙ ap phase_after ended;
      run = run_last _ _ _ _ _ _ _ _ _ (replicate left Slot) _ c.slots.invariant.run (λ is. absurd (cc is)) one (some_more c.args.count c.slots.counter c.slots-test.true);
      passed = λ is. absurd (cc is);
      rest = rest_then _ _ _ c.slots.invariant.rest turn.rest;
      frame = g.met.T.Trace.goes_on _ _ _ c.slots.invariant.frame turn.frame;
    }

pub slots-preserved : goal.slots-preserved
slots-preserved g c =
    let turn = c.turn.ensures in
    let told : ending_told c.turn.result ≡ AtEnd = search rules in
    let goes = turn_told (event_of Slot c.slots.kernel.system) ∙ ap ending_told (sym turn.answer) ∙ told in
    let one = run_event c.slots.kernel.system _ Slot AtEnd _ _ turn.next turn.items goes in
    record {
      phase = turn.phase ∙ ap phase_after goes;
      run = run_more _ _ _ _ _ _ _ _ _ _ c.slots.invariant.run one (one_more c.slots.counter);
      passed = let more = ap (λ (m : System). m.unix.timing.passed) turn.next ∙ slot_passed c.slots.kernel.system goes in
          omega (arith, more, c.slots.invariant.passed);
      rest = rest_then _ _ _ c.slots.invariant.rest turn.rest;
      frame = g.met.T.Trace.goes_on _ _ _ c.slots.invariant.frame turn.frame;
    }
