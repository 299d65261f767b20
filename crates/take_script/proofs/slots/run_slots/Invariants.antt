use Rattle.std.proofs.Common.{◌≡◌, ◌+◌, replicate}
use Rattle.abstract_unix.specs.declared.ends.Ends.TheVariants.{AtEnd}
use Rattle.abstract_unix.specs.Unix.{Started}
use Rattle.abstract_unix.specs.Runs.{Slot, begun}
use Rattle.unix_core.specs.State.{KeepsRest}
use Rattle.take_script.specs.Courses.{HasRun}
use Rattle.take_script.proofs.slots.run_slots.Given as goal

abbrev pub invariant-slots : goal.invariant-slots
invariant-slots g l = record {
  run : HasRun (begun l.initial.kernel.system) (replicate l.counter Slot) AtEnd l.kernel.system (g.T.Trace.taken l.initial.trace) (g.T.Trace.taken l.trace);
  passed : l.kernel.system.unix.timing.passed ≡ l.initial.kernel.system.unix.timing.passed + l.counter;
  phase : l.kernel.phase ≡ Started;
  rest : KeepsRest l.initial.kernel l.kernel;
  frame : g.T.Trace.leads_to l.initial.trace l.trace;
}
