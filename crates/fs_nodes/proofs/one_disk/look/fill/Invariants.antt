use Rattle.std.proofs.Common.{◌≡◌, ◌+◌, ◌<◌, ℕ, slice_index, length}
use Rattle.fs_nodes.specs.one_disk.FileSystem.{near_byte}
use Rattle.fs_nodes.proofs.one_disk.look.fill.Given as goal

abbrev pub invariant-loop-k : goal.invariant-loop-k
invariant-loop-k l = (length l.buf ≡ 16) × ((j : ℕ) → j < l.k → slice_index l.buf j ≡ near_byte l.first l.second l.offset l.size (l.offset + j))
