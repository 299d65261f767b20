use Rattle.std.proofs.Common.{◌≡◌, ◌≤◌, ◌<◌, ◌+◌, ◌-◌, ◌%◌, flat_map}
use Rattle.std.specs.List.{range_with_len}
use Rattle.abstract_unix.specs.declared.ends.Ends.TheVariants.{AtEnd}
use Rattle.abstract_unix.specs.Unix.{Started}
use Rattle.abstract_unix.specs.Runs.{begun}
use Rattle.unix_core.specs.State.{KeepsRest}
use Rattle.take_script.specs.Events.{slot_numbered}
use Rattle.take_script.specs.Courses.{HasRun}
use Rattle.take_script.proofs.slots.run_clocked.Given as goal

-- so many slots are over, and a tick comes after so many more
abbrev pub invariant-ticks : goal.invariant-ticks
invariant-ticks g l = record {
  run : HasRun (begun l.initial.kernel.system) (flat_map (slot_numbered l.every) (range_with_len (l.since + 1) (l.count - l.left))) AtEnd l.kernel.system
      (g.T.Trace.taken l.initial.trace) (g.T.Trace.taken l.trace);
  some : l.left ≤ l.count;
  ahead : 0 < l.upto;
  upto : (l.since + (l.count - l.left) + l.upto) % l.every ≡ 0;
  most : l.upto ≤ l.every;
  passed : l.kernel.system.unix.timing.passed ≡ l.initial.kernel.system.unix.timing.passed + (l.count - l.left);
  phase : l.kernel.phase ≡ Started;
  rest : KeepsRest l.initial.kernel l.kernel;
  frame : g.T.Trace.leads_to l.initial.trace l.trace;
}

abbrev pub decreases-ticks : goal.decreases-ticks
decreases-ticks g l = l.left
