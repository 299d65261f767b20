use Rattle.swap_sched.proofs.PassLemmas.{InPass}
use Rattle.swap_sched.proofs.Still.{IsStill}
use Rattle.swap_sched.proofs.sched.pass.Given as goal

abbrev pub invariant-loop-n : goal.invariant-loop-n
invariant-loop-n g l = record {
  moves : InPass l.initial.table l.initial.images.kept (g.T.Trace.taken l.initial.trace) l.n l.table l.images.kept (g.T.Trace.taken l.trace);
  frame : g.T.Trace.leads_to l.initial.trace l.trace;
  still : IsStill l.initial.table l.table l.initial.images l.images;
}
