-- A disk without a fault, part by part.
use Rattle.std.specs.Prelude.{◌≡◌, ◌≢◌, ℕ, true, ◌+◌, ◌/◌, ◌≤◌, nat_eq, List, flat_map, count_by}
use Rattle.fs_codec.specs.Fields.{Inode}
use Rattle.fs_codec.specs.Modes.{is_directory}
use Rattle.fs_codec.specs.Disk.{Disk, is_data, inode, inode_count, inode_numbers}
use Rattle.fs_codec.specs.Held.{held_by, held_blocks}
use Rattle.fs_codec.specs.declared.layout.TheConstants.{BLOCK_INODES}
use Rattle.fs_laws.specs.Chain.{free, IsSound, SameZone}

-- the blocks that inodes hold
abbrev pub held : Disk → List ℕ
held disk = flat_map (held_by disk) (inode_numbers disk)

-- The free list is sound, inodes hold data blocks, no block is in two places, and inode 1 is a directory.
pub record IsWhole (disk : Disk) : Type 0 where
  pub sound : IsSound disk
  pub inside : (k : ℕ) → k ≢ 0 → 1 ≤ count_by (nat_eq k) (held disk) → is_data disk k ≡ true
  pub once : (k : ℕ) → k ≢ 0 → count_by (nat_eq k) (free disk) + count_by (nat_eq k) (held disk) ≤ 1
  pub root : is_directory (inode disk 1).mode ≡ true

-- These blocks are data blocks, none of them is free, and none of them comes twice.
pub record IsApart (disk : Disk) (blocks : List ℕ) : Type 0 where
  pub inside : (k : ℕ) → k ≢ 0 → 1 ≤ count_by (nat_eq k) blocks → is_data disk k ≡ true
  pub once : (k : ℕ) → k ≢ 0 → count_by (nat_eq k) (free disk) + count_by (nat_eq k) blocks ≤ 1

-- Only one file and free blocks have changed, if anything.
pub record ChangesFile (old new : Disk) (i : ℕ) : Type 0 where
  pub zone : SameZone old new
  pub nodes : (j : ℕ) → 1 ≤ j → j ≤ inode_count old → j ≢ i → inode new j ≡ inode old j
  pub blocks : (k : ℕ) → is_data old k ≡ true → count_by (nat_eq k) (free old) ≡ 0 → count_by (nat_eq k) (held_by old i) ≡ 0
      → new k ≡ old k

-- A file takes free blocks and gives blocks back, which leaves a disk in between, and then its inode is written. The
-- blocks that the file holds then, and the free ones, are among those of before.
pub record Rewrites (old between new : Disk) (i : ℕ) (node next : Inode) : Type 0 where
  pub zone : SameZone old between
  pub sound : IsSound new
  pub first : inode old i ≡ node
  pub count : (k : ℕ) → k ≢ 0
      → count_by (nat_eq k) (free between) + count_by (nat_eq k) (held_blocks between next)
      ≤ count_by (nat_eq k) (free old) + count_by (nat_eq k) (held_blocks old node)
  pub inside : (k : ℕ) → k ≢ 0 → 1 ≤ count_by (nat_eq k) (held_blocks between next) → is_data old k ≡ true
  pub others : (k : ℕ) → k ≢ 1 → count_by (nat_eq k) (free old) ≡ 0
      → (k ≢ 0 → count_by (nat_eq k) (held_blocks old node) ≡ 0) → between k ≡ old k
  pub here : inode new i ≡ next
  pub nodes : (j : ℕ) → 1 ≤ j → j ≢ i → inode new j ≡ inode between j
  pub blocks : (k : ℕ) → k ≢ (i + 31) / BLOCK_INODES → new k ≡ between k
  pub free : free new ≡ free between
  pub root : i ≡ 1 → is_directory next.mode ≡ true
