use Rattle.std.proofs.Common.{◌∙◌, ap, refl, sym}
use Rattle.abstract_unix.specs.declared.ends.Ends.TheVariants.{AtEnd}
use Rattle.abstract_unix.specs.Endings.{phase_after}
use Rattle.fs_nodes.proofs.RestLemmas.{rest_then}
use Rattle.take_script.specs.Clocks.{clock_value}
use Rattle.take_script.proofs.SlotLemmas.{ends_as}
use Rattle.take_script.proofs.CanLemmas.{one_can, rest_can}
use Rattle.take_script.proofs.ClockLemmas.{taken_more, taken_cut, taken_last}
use Rattle.take_script.proofs.slots.run_events.Goals as goal

pub take_event-requires-clause-can : goal.take_event-requires-clause-can
take_event-requires-clause-can g c =
    one_can c.events.kernel.system c.args.events.now c.events.event-index _ _ c.events-test.true refl c.events.invariant.can

pub returns-in_default-clause-run : goal.returns-in_default-clause-run
returns-in_default-clause-run g c =
    taken_last c.args.events.now c.events.event-index (clock_value c.events.clock) _ _ _ _ _ _ c.events.invariant.taken
    _ _ c.events-test.true refl c.take_event.result c.in_default.not-AtEnd c.take_event.ensures.run

pub returns-then-is_cut-clause-phase : goal.returns-then-is_cut-clause-phase
returns-then-is_cut-clause-phase g c = c.take_event.ensures.phase ∙ ap phase_after c.in-AtEnd.is

pub returns-then-is_cut-clause-run : goal.returns-then-is_cut-clause-run
returns-then-is_cut-clause-run g c =
    taken_cut c.args.events.now c.events.event-index (clock_value c.events.clock) _ _ _ _ _ _ c.events.invariant.taken
    _ _ c.events-test.true refl AtEnd (sym c.is_cut.ensures ∙ c.if-is_cut.true) c.take_event.ensures.run.items

pub events-preserved : goal.events-preserved
events-preserved g c =
    let event = c.take_event.ensures in
    let goes = sym c.is_cut.ensures ∙ c.if-is_cut.false in
    let run = ends_as _ _ _ AtEnd _ _ _ c.in-AtEnd.is (event.run.uncut goes) in
    record {
      taken = taken_more c.args.events.now c.events.event-index (clock_value c.events.clock) _ _ _ _ _ _ c.events.invariant.taken
          _ _ c.events-test.true refl (clock_value c.take_event.new.clock) (event.clock c.in-AtEnd.is goes) run;
      can = rest_can c.events.kernel.system c.args.events.now c.events.event-index _ _ c.events-test.true refl c.events.invariant.can
          c.take_event.new.kernel.system (event.passed c.in-AtEnd.is goes);
      phase = event.phase ∙ ap phase_after c.in-AtEnd.is;
      rest = rest_then _ _ _ c.events.invariant.rest event.rest;
      frame = g.met.T.Trace.goes_on _ _ _ c.events.invariant.frame event.frame;
    }
