use Rattle.std.proofs.Common.{◌≡◌, ◌+◌, ◌*◌, ◌<◌, ℕ, slice_index, length}
use Rattle.fs_codec.specs.Words.{word}
use Rattle.fs_codec.specs.Disk.{disk_of}
use Rattle.fs_codec.proofs.image.words_in.Given as goal

abbrev pub invariant-loop-k : goal.invariant-loop-k
invariant-loop-k l = record { size : length l.all ≡ 256; below : (j : ℕ) → j < l.k → slice_index l.all j ≡ word (disk_of l.image l.block) (0 + 2 * j) }
