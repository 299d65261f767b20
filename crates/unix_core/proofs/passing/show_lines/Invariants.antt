use Rattle.v6_base.specs.Trace.{Took}
use Rattle.unix_core.specs.Passing.{bytes_shown}
use Rattle.unix_core.proofs.passing.show_lines.Given as goal

abbrev pub invariant-loop-l : goal.invariant-loop-l
invariant-loop-l g l = record {
  items : Took (g.T.Trace.taken l.fn.trace) (bytes_shown 0 l.l l.fn.tape) (g.T.Trace.taken l.trace);
  frame : g.T.Trace.leads_to l.fn.trace l.trace;
}
