-- How numbers are drawn, part by part.
use Rattle.std.specs.Prelude.{◌≡◌, ◌≢◌, ◌≤◌, ◌<◌, ◌⊎◌, ◌+◌, ◌-◌, ℕ, Bool, true, ◌==◌, ◌||◌, nat_lt, if◌then◌else◌, List, [], ◌∷◌, ◌++◌, length, reverse, slice_set, slice_index, Some, None, IsSome, is_some}
use Rattle.std.specs.List.{list_any}
use Rattle.v6_base.specs.declared.errno.Errno.{Errno}
use Rattle.v6_base.specs.declared.errno.Errno.TheVariants.{ENOSPC, ENFILE}
use Rattle.buf_cache.specs.Blocks.{block_at}
use Rattle.fs_codec.specs.Fields.{fields_of}
use Rattle.fs_codec.specs.Disk.{inode, inode_count}
use Rattle.fs_codec.specs.Store.{Node, Store}
use Rattle.fs_codec.specs.declared.layout.TheConstants.{LIST_SIZE}
use Rattle.fs_laws.specs.Numbers.{Draw, drawn, refill, draw, with_draw, with_node, new_node}
use Rattle.fs_laws.specs.Keys.{room_at}
use Rattle.fs_laws.specs.Chain.{free, SameZone}
use Rattle.fs_laws.specs.Whole.{IsWhole}
use Rattle.fs_laws.specs.Truncation.{names_held}
use Rattle.fs_blocks.specs.State.{State, disk, Fits, SameButSpare}
use Rattle.fs_laws.specs.Rest.{SameAround}
use Rattle.fs_nodes.specs.one_disk.FileSystem.{FileSystem, referenced}
use Rattle.fs_nodes.specs.declared.one_disk.table.Referenced.{Referenced}
use Rattle.fs_nodes.specs.one_disk.Inodes.{Writes}
use Rattle.fs_nodes.specs.one_disk.Table.{references_in, entries_of, seen, Stays, IsHeld}

-- an inode of this number is among these
abbrev pub refers_to : List Referenced → ℕ → Bool
refers_to table i = list_any (λ r. r.ino == i) table

-- an entry that is referred to once less
abbrev pub once_less : Referenced → Referenced
once_less entry = record entry { references = entry.references - 1 }

-- the list from which a number is drawn: that of the super-block, or the one with which that is filled
abbrev pub drawn_list : Store → (ℕ → Bool) → List ℕ
drawn_list store is_referenced =
    if is_some (drawn store (reverse store.spare)).number then store.spare else refill store is_referenced

-- a number is drawn from the end of this list, which with what is left becomes the store's, or none of them is free
abbrev pub drawn_from : Store → List ℕ → Store
drawn_from store numbers =
    let d : Draw = drawn store (reverse numbers) in
    if is_some d.number then record store { spare = d.spare; mark = true } else store

-- nothing is left of the list
abbrev pub emptied : Store → Store
emptied store = record store { spare = []; mark = store.mark || nat_lt 0 (length store.spare) }

-- a number is put at the end of the list, where there is room
abbrev pub pushed : Store → ℕ → Store
pushed store i =
    if nat_lt (length store.spare) LIST_SIZE then record store { spare = store.spare ++ (i ∷ []); mark = true } else store

-- Of a volume without a fault the list of free inodes has changed, if anything.
pub record ChangesList (old new : State) : Type 0 where
  pub whole : IsWhole (disk new)
  pub blocks : new.blocks ≡ old.blocks
  pub head : SameButSpare old.head new.head
  pub free : free (disk new) ≡ free (disk old)

-- What is so of a volume where one inode and its file have changed, and the list of free inodes.
pub record ChangesInode (old : State) (i : ℕ) (new : State) : Type 0 where
  pub whole : IsWhole (disk new)
  pub fits : Fits new.head
  pub sizes : SameZone (block_at new.blocks) (disk new)
  pub zone : SameZone (disk old) (disk new)
  pub nodes : (j : ℕ) → 1 ≤ j → j ≤ inode_count (disk old) → j ≢ i → inode (disk new) j ≡ inode (disk old) j
  pub rest : SameAround old.blocks new.blocks

-- An inode that has no entry has given its blocks back, and is free.
pub record Clears (old new : State) (entries : List Referenced) (i : ℕ) (file : Node) : Type 0 where
  pub held : IsHeld new entries
  pub writes : Writes (seen old entries) i None (length (free (disk (seen old entries))) + names_held file)
      (old.changed || nat_lt 0 (names_held file)) (seen new entries)

-- An entry that refers once to its inode goes. The file system is the same but for that reference, and the inode is as its
-- block has it.
pub record Releases (old new : State) (entries after : List Referenced) (entry : Referenced) : Type 0 where
  pub stays : Stays old new entries after
  pub references : references_in (inode_count (disk new)) after ≡ slice_set (references_in (inode_count (disk old)) entries)
      entry.ino (slice_index (references_in (inode_count (disk old)) entries) entry.ino - 1)
  pub none : entries_of after entry.ino ≡ 0
  pub inode : fields_of entry.node ≡ inode (disk (seen new after)) entry.ino

-- the draw of a number for a new inode
abbrev pub next_draw : FileSystem → Draw
next_draw fs = draw fs.store (λ i. nat_lt 0 (slice_index fs.references i))

-- There is a new node of this number, to which something refers once.
pub record MakesNode (old : FileSystem) (mode uid gid time i : ℕ) (new : FileSystem) : Type 0 where
  pub number : (next_draw old).number ≡ Some i
  pub few : referenced old.references < 100
  pub store : new.store ≡ with_node (with_draw old.store (next_draw old)) i (new_node mode uid gid time) (room_at old.store i)
  pub references : new.references ≡ slice_set old.references i 1

-- There is no free number, or a hundred nodes are referred to. A number that was drawn stays out of the list.
pub record MakesNone (old : FileSystem) (error : Errno) (new : FileSystem) : Type 0 where
  pub why : ((next_draw old).number ≡ None) × (error ≡ ENOSPC)
      ⊎ IsSome (next_draw old).number × (referenced old.references ≡ 100) × (error ≡ ENFILE)
  pub store : new.store ≡ with_draw old.store (next_draw old)
  pub references : new.references ≡ old.references
  pub blocks : new.blocks ≡ old.blocks
