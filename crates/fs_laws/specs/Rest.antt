-- What no change of files changes on a disk.
use Rattle.std.specs.Prelude.{◌≡◌, ◌≤◌, ℕ, List}
use Rattle.buf_cache.specs.Blocks.{block_at}
use Rattle.fs_codec.specs.Disk.{head}

-- The boot block, the size of the file system, and the blocks behind it are the same.
pub record SameAround (old new : List (List ℕ)) : Type 0 where
  pub boot : block_at new 0 ≡ block_at old 0
  pub i_size : (head (block_at new)).i_size ≡ (head (block_at old)).i_size
  pub f_size : (head (block_at new)).f_size ≡ (head (block_at old)).f_size
  pub behind : (n : ℕ) → (head (block_at old)).f_size ≤ n → block_at new n ≡ block_at old n
