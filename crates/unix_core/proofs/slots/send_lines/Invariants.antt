use Rattle.std.proofs.Common.{◌≤◌, length}
use Rattle.tty_line.specs.Said.{sends}
use Rattle.unix_core.proofs.EachLine.{HasCalled}
use Rattle.unix_core.proofs.slots.send_lines.Given as goal

abbrev pub invariant-loop-l : goal.invariant-loop-l
invariant-loop-l g l = record {
  called : HasCalled sends l.l l.initial.lines l.lines l.initial.table l.table l.any (g.T.Trace.taken l.initial.trace) (g.T.Trace.taken l.trace);
  low : l.l ≤ length l.initial.lines;
  frame : g.T.Trace.leads_to l.initial.trace l.trace;
}
