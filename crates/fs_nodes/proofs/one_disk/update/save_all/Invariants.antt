use Rattle.fs_nodes.specs.one_disk.Table.{SavesAll}
use Rattle.fs_nodes.proofs.one_disk.update.save_all.Given as goal

abbrev pub invariant-loop-k : goal.invariant-loop-k
invariant-loop-k l = SavesAll l.fn.volume.state l.initial.table l.volume.state l.table l.k
