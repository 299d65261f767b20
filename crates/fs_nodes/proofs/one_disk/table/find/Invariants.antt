use Rattle.std.proofs.Common.{◌≡◌, take}
use Rattle.fs_nodes.specs.one_disk.Table.{entries_of}
use Rattle.fs_nodes.proofs.one_disk.table.find.Given as goal

abbrev pub invariant-loop-k : goal.invariant-loop-k
invariant-loop-k l = entries_of (take l.k l.table) l.ino ≡ 0
