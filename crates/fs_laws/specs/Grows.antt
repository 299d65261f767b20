-- One step of a file that takes blocks: it takes one that it lacks.
use Rattle.std.specs.Prelude.{◌≡◌, ◌≢◌, ℕ, true, false, ◌/◌, ◌<◌, ◌≤◌, length, replicate, slice_index}
use Rattle.bmap_path.specs.declared.BlockName.{BlockName}
use Rattle.bmap_path.specs.declared.BlockName.TheVariants.{Data, Ind, Dbl}
use Rattle.fs_codec.specs.Fields.{Inode}
use Rattle.fs_codec.specs.Modes.{is_large}
use Rattle.fs_codec.specs.Disk.{Disk}
use Rattle.fs_codec.specs.Held.{indirect_at, address}
use Rattle.fs_codec.specs.declared.layout.TheConstants.{BLOCK_SIZE, BLOCK_ADDRESSES}
use Rattle.fs_laws.specs.Gains.{Gains}
use Rattle.fs_laws.specs.Touch.{mode_with}

-- a file may have a block of this name
abbrev pub IsPlace : BlockName → Type 0
IsPlace (Data n) = n < 67328
IsPlace (Ind k) = k < 263
IsPlace Dbl = Unit {0}

-- The block that is to have the address of this one is there. A small file becomes large by its first indirect block.
abbrev pub IsOpen : Disk → Inode → BlockName → Type 0
IsOpen disk node (Data n) =
    (is_large node.mode ≡ true → indirect_at disk node (n / BLOCK_ADDRESSES) ≢ 0) × (is_large node.mode ≡ false → n < 8)
IsOpen disk node (Ind k) =
    (is_large node.mode ≡ true → 7 ≤ k → slice_index node.addr 7 ≢ 0) × (is_large node.mode ≡ false → k ≡ 0)
IsOpen disk node Dbl = is_large node.mode ≡ true

-- All but the mode and the addresses is the same in two inodes.
pub record SameButBlocks (node next : Inode) : Type 0 where
  pub nlink : next.nlink ≡ node.nlink
  pub uid : next.uid ≡ node.uid
  pub gid : next.gid ≡ node.gid
  pub size : next.size ≡ node.size
  pub actime : next.actime ≡ node.actime
  pub modtime : next.modtime ≡ node.modtime

-- A file gains a block. Its data blocks keep their bytes, and a new one is all zeros.
pub record Grows (old : Disk) (node : Inode) (new : Disk) (next : Inode) (p : BlockName) (b : ℕ) : Type 0 where
  pub gains : Gains old node new next p b
  pub mode : next.mode ≡ mode_with node.mode p
  pub long : length next.addr ≡ 8
  pub fields : SameButBlocks node next
  pub bytes : (n : ℕ) → address old node (Data n) ≢ 0
      → new (address old node (Data n)) ≡ old (address old node (Data n))
  pub fresh : (n : ℕ) → p ≡ Data n → new b ≡ replicate BLOCK_SIZE 0
