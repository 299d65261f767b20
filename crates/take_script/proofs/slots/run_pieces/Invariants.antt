use Rattle.std.proofs.Common.{◌≡◌, ◌≤◌, ◌+◌, ◌-◌}
use Rattle.script_text.specs.declared.script.Event.TheVariants as ask
use Rattle.abstract_unix.specs.declared.ends.Ends.TheVariants.{AtEnd}
use Rattle.abstract_unix.specs.Unix.{Started}
use Rattle.abstract_unix.specs.Runs.{begun}
use Rattle.unix_core.specs.State.{KeepsRest}
use Rattle.take_script.specs.Clocks.{clock_value, TicksAlike}
use Rattle.take_script.specs.Events.{happens, clock_after}
use Rattle.take_script.specs.Courses.{HasRun}
use Rattle.take_script.proofs.slots.run_pieces.Given as goal

-- so many slots are left, and the others have been taken
abbrev pub invariant-pieces : goal.invariant-pieces
invariant-pieces g l = record {
  run : HasRun (begun l.initial.kernel.system) (happens (clock_value l.initial.clock) (ask.Run (l.count - l.left))) AtEnd l.kernel.system
      (g.T.Trace.taken l.initial.trace) (g.T.Trace.taken l.trace);
  some : l.left ≤ l.count;
  clock : TicksAlike (clock_after (clock_value l.initial.clock) (ask.Run (l.count - l.left))) (clock_value l.clock);
  passed : l.kernel.system.unix.timing.passed ≡ l.initial.kernel.system.unix.timing.passed + (l.count - l.left);
  phase : l.kernel.phase ≡ Started;
  rest : KeepsRest l.initial.kernel l.kernel;
  frame : g.T.Trace.leads_to l.initial.trace l.trace;
}

abbrev pub decreases-pieces : goal.decreases-pieces
decreases-pieces g l = l.left
