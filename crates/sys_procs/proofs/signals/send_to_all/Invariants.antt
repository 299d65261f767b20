use Rattle.std.proofs.Common.{◌≡◌, nat_lt, length}
use Rattle.fs_nodes.specs.FileSystem.{FileSystem}
use Rattle.sys_procs.specs.Process.{Process}
use Rattle.sys_procs.specs.Signals.{is_reached}
use Rattle.sys_procs.specs.inside.Sender.{IsSender}
use Rattle.sys_procs.specs.Handed.{AreProcs, handed}
use Rattle.sys_procs.proofs.SentAll.{IsSent, meant_below}
use Rattle.sys_procs.proofs.signals.send_to_all.Given as goal

abbrev pub invariant-loop-s : goal.invariant-loop-s
invariant-loop-s g l = record {
  sent : (who : Process) → IsSender l.fn.sender who
      → IsSent (is_reached l.fn.sender.slot who) l.fn.sig l.s l.fn.p l.p (g.T.Trace.taken l.fn.trace) (g.T.Trace.taken l.trace);
  found : (fs : FileSystem) (who : Process) → IsSender l.fn.sender who
      → l.found ≡ nat_lt 0 (length (meant_below (is_reached l.fn.sender.slot who) l.fn.sig l.s (handed l.fn.p fs).processes));
  frame : g.T.Trace.leads_to l.fn.trace l.trace;
  agree : AreProcs l.p;
}
