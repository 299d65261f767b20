use Rattle.std.proofs.Common.{◌≡◌, ◌≤◌, ◌&&◌, not, length}
use Rattle.std.specs.List.{filter, range_with_len}
use Rattle.buf_cache.specs.Blocks.{WritesLate}
use Rattle.fs_laws.specs.Numbers.{is_free_number}
use Rattle.fs_nodes.specs.one_disk.FileSystem.{store_now}
use Rattle.fs_nodes.specs.one_disk.Numbers.{refers_to}
use Rattle.fs_nodes.specs.one_disk.Table.{seen}
use Rattle.fs_nodes.proofs.one_disk.numbers.refill.Given as goal

-- the numbers found are those so far
abbrev pub invariant-loop-below : goal.invariant-loop-below
invariant-loop-below l = record {
  same : l.volume.state ≡ l.fn.volume.state;
  stored : WritesLate l.fn.volume.stored l.fn.volume.state.blocks l.volume.stored;
  few : length l.found.items ≤ 100;
  found : l.found.items ≡ filter (λ i. is_free_number (store_now (seen l.fn.volume.state l.table)) i && not (refers_to l.table i)) (range_with_len 1 l.below);
}
