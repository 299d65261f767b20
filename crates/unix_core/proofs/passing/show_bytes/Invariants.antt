use Rattle.std.proofs.Common.{take}
use Rattle.v6_base.specs.Trace.{Took, sent}
use Rattle.unix_core.proofs.passing.show_bytes.Given as goal

abbrev pub invariant-loop-i : goal.invariant-loop-i
invariant-loop-i g l = record {
  items : Took (g.T.Trace.taken l.fn.trace) (sent l.fn.l (take l.i l.bytes)) (g.T.Trace.taken l.trace);
  frame : g.T.Trace.leads_to l.fn.trace l.trace;
}
