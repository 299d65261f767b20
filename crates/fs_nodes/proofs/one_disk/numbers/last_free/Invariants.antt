use Rattle.std.proofs.Common.{◌≡◌, ◌≤◌, length, take, reverse}
use Rattle.buf_cache.specs.Blocks.{WritesLate}
use Rattle.fs_laws.specs.Numbers.{drawn}
use Rattle.fs_nodes.specs.one_disk.FileSystem.{store_now}
use Rattle.fs_nodes.specs.one_disk.Table.{seen}
use Rattle.fs_nodes.proofs.one_disk.numbers.last_free.Given as goal

-- no number from `left` on is free
abbrev pub invariant-loop-left : goal.invariant-loop-left
invariant-loop-left l = record {
  same : l.volume.state ≡ l.fn.volume.state;
  stored : WritesLate l.fn.volume.stored l.fn.volume.state.blocks l.volume.stored;
  within : l.left ≤ length l.list;
  rest : drawn (store_now (seen l.fn.volume.state l.table)) (reverse l.list) ≡ drawn (store_now (seen l.fn.volume.state l.table)) (reverse (take l.left l.list));
}

abbrev pub decreases-loop-left : goal.decreases-loop-left
decreases-loop-left l = l.left
