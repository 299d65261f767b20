-- The free list as the list of its blocks.
use Rattle.std.specs.Prelude.{◌≡◌, ◌≢◌, ℕ, true, ◌+◌, ◌*◌, ◌<◌, ◌≤◌, nat_eq, List, [], ◌∷◌, count_by, None}
use Rattle.fs_codec.specs.Words.{word}
use Rattle.fs_codec.specs.Disk.{Disk, head, is_data}
use Rattle.fs_codec.specs.Free.{Group, top, after, free_walk}
use Rattle.fs_codec.specs.Faults.{super_fault}
use Rattle.fs_codec.specs.declared.super_block.SuperBlock.{SuperBlock}
use Rattle.fs_codec.specs.declared.layout.TheConstants.{DISK_BLOCKS}

-- from this group on, these blocks are taken in this order, and then the list ends
abbrev pub IsChain : Disk → Group → List ℕ → Type 0
IsChain disk group [] = top disk group ≡ 0
IsChain disk group (b ∷ bs) = (top disk group ≡ b) × (b ≢ 0) × (is_data disk b ≡ true) × ((after disk group).left ≤ 100)
    × IsChain disk (after disk group) bs

-- the group of the super-block
abbrev pub first_group : Disk → Group
first_group disk = record { left = (head disk).nfree; block = 1; place = 4 }

-- the numbers that are left of two groups are the same
pub record SameGroup (old : Disk) (g : Group) (new : Disk) (h : Group) : Type 0 where
  pub left : h.left ≡ g.left
  pub numbers : (k : ℕ) → 0 < k → k ≤ g.left → word (new h.block) (h.place + 2 * k) ≡ word (old g.block) (g.place + 2 * k)

abbrev pub free : Disk → List ℕ
free disk = (free_walk disk).blocks

-- the super-block is good, and the free list ends and has each block once
pub record IsSound (disk : Disk) : Type 0 where
  pub super : super_fault DISK_BLOCKS (head disk) ≡ None
  pub walk : (free_walk disk).fault ≡ None
  pub once : (k : ℕ) → count_by (nat_eq k) (free disk) ≤ 1

-- all but the list of free blocks and the flags is the same in two super-blocks
pub record SameButFree (old new : SuperBlock) : Type 0 where
  pub i_size : new.i_size ≡ old.i_size
  pub f_size : new.f_size ≡ old.f_size
  pub ninode : new.ninode ≡ old.ninode
  pub inode : new.inode ≡ old.inode
  pub time : new.time ≡ old.time

-- what a super-block without a fault says
pub record IsGood (s : SuperBlock) : Type 0 where
  pub nodes : s.i_size ≢ 0
  pub zone : s.i_size + 2 ≤ s.f_size
  pub nfree : s.nfree ≤ 100
  pub ninode : s.ninode ≤ 100
  pub end : s.f_size ≤ DISK_BLOCKS

-- data blocks are where they were
pub record SameZone (old new : Disk) : Type 0 where
  pub i_size : (head new).i_size ≡ (head old).i_size
  pub f_size : (head new).f_size ≡ (head old).f_size

-- The first free block is taken.
pub record Takes (old : Disk) (b : ℕ) (new : Disk) : Type 0 where
  pub first : free old ≡ b ∷ free new
  pub zone : is_data old b ≡ true
  pub fresh : count_by (nat_eq b) (free new) ≡ 0
  pub still : SameZone old new
