use Rattle.std.proofs.Common.{◌≡◌, ◌++◌, map, take}
use Rattle.v6_base.specs.Trace.{Took, Log}
use Rattle.v6_base.specs.declared.trace.TheConstants.{LINES}
use Rattle.pick_rules.specs.Table.{IsTable}
use Rattle.unix_core.specs.Passing.{all_woken, bytes_shown}
use Rattle.unix_core.proofs.passing.pass_on.Given as goal

abbrev pub invariant-loop-i : goal.invariant-loop-i
invariant-loop-i g l = record {
  good : IsTable l.table;
  table : l.table ≡ all_woken l.fn.table (take l.i l.entries);
  items : Took (g.T.Trace.taken l.fn.trace) (bytes_shown 0 LINES l.fn.tape ++ map Log (take l.i l.entries)) (g.T.Trace.taken l.trace);
  frame : g.T.Trace.leads_to l.fn.trace l.trace;
}
