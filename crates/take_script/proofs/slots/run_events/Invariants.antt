use Rattle.std.proofs.Common.{◌≡◌, drop}
use Rattle.abstract_unix.specs.Unix.{Started}
use Rattle.abstract_unix.specs.Runs.{begun}
use Rattle.unix_core.specs.State.{KeepsRest}
use Rattle.take_script.specs.Clocks.{clock_value}
use Rattle.take_script.specs.Courses.{CanTake}
use Rattle.take_script.proofs.ClockLemmas.{HasTaken}
use Rattle.take_script.proofs.slots.run_events.Given as goal

abbrev pub invariant-events : goal.invariant-events
invariant-events g l = record {
  taken : HasTaken l.events l.event-index (clock_value l.clock) (begun l.initial.kernel.system) l.kernel.system (g.T.Trace.taken l.initial.trace) (g.T.Trace.taken l.trace);
  can : CanTake l.kernel.system (drop l.event-index l.events);
  phase : l.kernel.phase ≡ Started;
  rest : KeepsRest l.initial.kernel l.kernel;
  frame : g.T.Trace.leads_to l.initial.trace l.trace;
}
