-- An inode is written into its block.
use Rattle.std.specs.Prelude.{◌≡◌, ◌≢◌, ℕ, Bool, true, ◌+◌, ◌/◌, ◌≤◌, nat_eq, count_by, slice_set, Option}
use Rattle.buf_cache.specs.Blocks.{block_at}
use Rattle.fs_codec.specs.Fields.{Inode}
use Rattle.fs_codec.specs.Disk.{is_data, inode}
use Rattle.fs_codec.specs.Held.{held_blocks}
use Rattle.fs_codec.specs.Store.{Node}
use Rattle.fs_codec.specs.declared.layout.TheConstants.{BLOCK_INODES}
use Rattle.fs_laws.specs.Chain.{free, SameButFree, SameZone}
use Rattle.fs_laws.specs.Whole.{IsWhole, ChangesFile}
use Rattle.fs_blocks.specs.State.{State, disk, Fits, IsVolume}
use Rattle.fs_laws.specs.Rest.{SameAround}
use Rattle.fs_nodes.specs.one_disk.FileSystem.{store_now}

-- The inode of a number is this one now, and nothing else has changed.
pub record WritesInode (old : State) (i : ℕ) (node : Inode) (new : State) : Type 0 where
  pub here : inode (disk new) i ≡ node
  pub nodes : (j : ℕ) → 1 ≤ j → j ≢ i → inode (disk new) j ≡ inode (disk old) j
  pub blocks : (k : ℕ) → k ≢ (i + 31) / BLOCK_INODES → block_at new.blocks k ≡ block_at old.blocks k
  pub head : new.head ≡ old.head
  pub free : free (disk new) ≡ free (disk old)
  pub changed : new.changed ≡ old.changed
  pub volume : IsVolume new.blocks new.head

-- A file takes free blocks and gives blocks back, and its inode will be another. What it will hold and the free blocks
-- are among those of before, and no other block has changed.
pub record Carries (old : State) (node : Inode) (new : State) (next : Inode) : Type 0 where
  pub count : (k : ℕ) → k ≢ 0
      → count_by (nat_eq k) (free (disk new)) + count_by (nat_eq k) (held_blocks (disk new) next)
      ≤ count_by (nat_eq k) (free (disk old)) + count_by (nat_eq k) (held_blocks (disk old) node)
  pub inside : (k : ℕ) → k ≢ 0 → 1 ≤ count_by (nat_eq k) (held_blocks (disk new) next) → is_data (disk new) k ≡ true
  pub others : (k : ℕ) → count_by (nat_eq k) (free (disk old)) ≡ 0
      → (k ≢ 0 → count_by (nat_eq k) (held_blocks (disk old) node) ≡ 0) → block_at new.blocks k ≡ block_at old.blocks k
  pub head : SameButFree old.head new.head

-- What a file system comes to where the inode of a number is written: it has this node then, there is so much room, and
-- the super-block is marked or not.
pub record Writes (old : State) (i : ℕ) (node : Option Node) (room : ℕ) (mark : Bool) (new : State) : Type 0 where
  pub whole : IsWhole (disk new)
  pub changes : ChangesFile (disk old) (disk new) i
  pub fits : Fits new.head
  pub sizes : SameZone (block_at new.blocks) (disk new)
  pub store : store_now new ≡ record (store_now old) {
    nodes = slice_set (store_now old).nodes i node;
    room = room;
    mark = mark;
  }
  pub rest : SameAround old.blocks new.blocks
