use Rattle.unix_core.proofs.DiskWakes.{IsWoken}
use Rattle.unix_core.proofs.slots.wake_disks.Given as goal

abbrev pub invariant-loop-s : goal.invariant-loop-s
invariant-loop-s g l = record {
  woken : IsWoken l.passed l.s l.initial.procs l.procs l.woken (g.T.Trace.taken l.initial.trace) (g.T.Trace.taken l.trace);
  frame : g.T.Trace.leads_to l.initial.trace l.trace;
}
