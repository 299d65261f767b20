use Rattle.std.proofs.Common.{◌≡◌}
use Rattle.sys_procs.specs.Signals.{has_line}
use Rattle.sys_procs.specs.Handed.{AreProcs}
use Rattle.sys_procs.proofs.SentAll.{IsSent}
use Rattle.sys_procs.proofs.signals.signal_line.Given as goal

abbrev pub invariant-loop-s : goal.invariant-loop-s
invariant-loop-s g l = record {
  sent : IsSent (has_line l.fn.line) l.fn.sig l.s l.fn.p l.p (g.T.Trace.taken l.fn.trace) (g.T.Trace.taken l.trace);
  frame : g.T.Trace.leads_to l.fn.trace l.trace;
  images : l.p.images ≡ l.fn.p.images;
  agree : AreProcs l.p;
}
