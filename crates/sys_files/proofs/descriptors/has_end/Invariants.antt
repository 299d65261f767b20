use Rattle.std.proofs.Common.{◌≡◌, false, take}
use Rattle.std.specs.List.{list_any}
use Rattle.sys_files.specs.Pipes.{is_end_of}
use Rattle.sys_files.proofs.descriptors.has_end.Given as goal

abbrev pub invariant-loop-entry : goal.invariant-loop-entry
invariant-loop-entry l = list_any (is_end_of l.fn.ino) (take l.entry l.fn.table) ≡ false
