use Rattle.std.proofs.Common.{◌≡◌, false, take}
use Rattle.std.specs.List.{list_any}
use Rattle.v6_base.specs.Image.{Image}
use Rattle.proc_tab.specs.declared.row.Row.{Row}
use Rattle.u_area.specs.declared.area.UArea.{UArea}
use Rattle.sys_files.specs.Handed.{handed}
use Rattle.sys_files.specs.Descriptors.{is_of_line}
use Rattle.sys_files.proofs.descriptors.is_line_open.Given as goal

abbrev pub invariant-loop-entry : goal.invariant-loop-entry
invariant-loop-entry l =
    (u : UArea) (row : Row) (image : Image) → list_any (is_of_line (handed l.f u row image) l.line) (take l.entry l.f.table) ≡ false
