use Rattle.std.proofs.Common.{◌≡◌}
use Rattle.v6_base.specs.Image.{Image}
use Rattle.v6_base.specs.Trace.{Took}
use Rattle.proc_tab.specs.declared.row.Row.{Row}
use Rattle.fs_nodes.specs.FileSystem.{SameRest}
use Rattle.sys_files.specs.Handed.{handed}
use Rattle.sys_files.specs.Sound.{IsSound, IsKept}
use Rattle.sys_files.proofs.ClosingLemmas.{closed_below}
use Rattle.sys_files.proofs.descriptors.close_all.Given as goal

abbrev pub invariant-loop-fd : goal.invariant-loop-fd
invariant-loop-fd g l = record {
  sound : (row : Row) (image : Image) → IsSound (handed l.f l.u row image);
  kept : (row : Row) (image : Image) → IsKept (handed l.fn.f l.fn.u row image) (handed l.f l.u row image);
  state : (row : Row) (image : Image) → handed l.f l.u row image ≡ (closed_below (handed l.fn.f l.fn.u row image) l.fd).state;
  items : (row : Row) (image : Image) → Took (g.T.Trace.taken l.fn.trace) (closed_below (handed l.fn.f l.fn.u row image) l.fd).items (g.T.Trace.taken l.trace);
  frame : g.T.Trace.leads_to l.fn.trace l.trace;
  blocks : SameRest l.fn.f.tree.nodes l.f.tree.nodes;
}
