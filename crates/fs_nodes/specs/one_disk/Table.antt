-- The inodes that are kept in memory, and how often each is referred to.
use Rattle.std.specs.Prelude.{◌≡◌, ◌≢◌, ℕ, ◌+◌, ◌<◌, ◌≤◌, ◌==◌, if◌then◌else◌, true, false, List, length, map, count_by, slice_set, slice_index_or}
use Rattle.std.specs.List.{range_with_len, sum_by, All}
use Rattle.buf_cache.specs.Blocks.{block_at, IsDisk}
use Rattle.fs_codec.specs.Fields.{Inode, fields_of}
use Rattle.fs_codec.specs.Disk.{Disk, inode, inode_count}
use Rattle.fs_codec.specs.declared.layout.TheConstants.{DISK_BLOCKS}
use Rattle.fs_codec.specs.declared.node.DiskNode.{DiskNode}
use Rattle.fs_laws.specs.Chain.{SameZone}
use Rattle.fs_laws.specs.Whole.{IsWhole}
use Rattle.fs_laws.specs.Placed.{Late, placed}
use Rattle.fs_blocks.specs.State.{State, Mounted, disk, Fits, IsVolume}
use Rattle.fs_nodes.specs.declared.one_disk.table.Referenced.{Referenced}
use Rattle.fs_laws.specs.Rest.{SameAround}
use Rattle.fs_nodes.specs.one_disk.FileSystem.{FileSystem, store_now}

-- how often an entry refers to the inode of a number
abbrev pub share : ℕ → Referenced → ℕ
share i entry = if entry.ino == i then entry.references else 0

-- how often the inode of a number is referred to
abbrev pub references_to : List Referenced → ℕ → ℕ
references_to entries i = sum_by (share i) entries

-- the same for the numbers from 0 to the last
unfoldable pub references_in : ℕ → List Referenced → List ℕ
references_in count entries = map (references_to entries) (range_with_len 0 (count + 1))

-- how many entries there are of a number
abbrev pub entries_of : List Referenced → ℕ → ℕ
entries_of entries i = count_by (λ entry. entry.ino == i) entries

-- An entry has the inode of its number as the disk has it, which is used and referred to.
pub record IsEntry (disk : Disk) (entry : Referenced) : Type 0 where
  pub low : 1 ≤ entry.ino
  pub high : entry.ino ≤ inode_count disk
  pub some : 1 ≤ entry.references
  pub few : entry.references < 65536
  pub used : entry.node.mode ≢ 0
  pub same : fields_of entry.node ≡ inode disk entry.ino

-- A table has such entries, and one of a number at most.
pub record IsTable (disk : Disk) (entries : List Referenced) : Type 0 where
  pub each : All (IsEntry disk) entries
  pub once : (i : ℕ) → entries_of entries i ≤ 1

-- A volume without a fault, with a table of its inodes. The super-block on the disk has the sizes of the one in memory.
pub record IsNodes (volume : State) (entries : List Referenced) : Type 0 where
  pub whole : IsWhole (disk volume)
  pub fits : Fits volume.head
  pub sizes : SameZone (block_at volume.blocks) (disk volume)
  pub table : IsTable (disk volume) entries

-- The number of an inode that is used.
pub record IsUsed (s : State) (i : ℕ) : Type 0 where
  pub low : 1 ≤ i
  pub high : i ≤ inode_count (disk s)
  pub used : (inode (disk s) i).mode ≢ 0

-- The table has the inode of a number.
pub record HasInode (s : State) (entries : List Referenced) (i : ℕ) (node : Inode) : Type 0 where
  pub some : 1 ≤ entries_of entries i
  pub used : IsUsed s i
  pub same : node ≡ inode (disk s) i

-- A file system on a volume, with a table of inodes, of which the disk has all.
abbrev pub file_system : State → List Referenced → FileSystem
file_system volume entries = record {
  store = store_now volume;
  references = references_in (inode_count (disk volume)) entries;
  blocks = volume.blocks;
  stored = volume.blocks;
}

-- an entry with another inode, which its block is still to get
abbrev pub with_inode : Referenced → DiskNode → Referenced
with_inode entry node = record entry { node = node; is_changed = true }

-- an entry whose inode its block has
abbrev pub clean : Referenced → Referenced
clean entry = record entry { is_changed = false }

-- the inodes of the entries, with their numbers
abbrev pub late_of : Referenced → Late
late_of entry = record { number = entry.ino; inode = fields_of entry.node }

abbrev pub lates_of : List Referenced → List Late
lates_of entries = map late_of entries

-- these blocks with each of these inodes in its place
unfoldable pub blocks_with : List (List ℕ) → List Late → List (List ℕ)
blocks_with blocks lates = map (λ n. placed lates n (block_at blocks n)) (range_with_len 0 DISK_BLOCKS)

-- A volume as it is seen over its table: the inode of each entry is in its place.
abbrev pub seen : State → List Referenced → State
seen volume entries = record volume { blocks = blocks_with volume.blocks (lates_of entries) }

-- A volume that is without a fault where the inodes of its table are in their places. An entry that has not changed has
-- its inode as the volume has it.
pub record IsHeld (volume : State) (entries : List Referenced) : Type 0 where
  pub nodes : IsNodes (seen volume entries) entries
  pub form : IsDisk volume.blocks
  pub volume_is : IsVolume volume.blocks volume.head
  pub long : All (λ entry. length entry.node.addr ≡ 8) entries
  pub same : All (λ entry. entry.is_changed ≡ false → fields_of entry.node ≡ inode (disk volume) entry.ino) entries

-- the file system of a volume with its table
abbrev pub files_of : Mounted → List Referenced → FileSystem
files_of volume entries =
    record (file_system (seen volume.state entries) entries) { blocks = volume.state.blocks; stored = volume.stored }

-- an entry that is referred to once more
abbrev pub once_more : Referenced → Referenced
once_more entry = record entry { references = entry.references + 1 }

-- The inode of a number is this one now, in the table.
pub record KeepsInode (old : List Referenced) (i : ℕ) (node : DiskNode) (new : List Referenced) : Type 0 where
  pub place : ℕ
  pub low : place < length old
  pub here : (entry : Referenced) → (slice_index_or old place entry).ino ≡ i
  pub is : (entry : Referenced) → new ≡ slice_set old place (with_inode (slice_index_or old place entry) node)

-- The file system is the same, while blocks of inodes and entries have changed.
pub record Stays (old new : State) (entries after : List Referenced) : Type 0 where
  pub held : IsHeld new after
  pub store : store_now (seen new after) ≡ store_now (seen old entries)
  pub head : new.head ≡ old.head
  pub changed : new.changed ≡ old.changed
  pub rest : SameAround old.blocks new.blocks

-- The first so many entries have been written into their blocks.
pub record SavesAll (old : State) (entries : List Referenced) (new : State) (after : List Referenced) (count : ℕ) : Type 0 where
  pub stays : Stays old new entries after
  pub done : (k : ℕ) (entry : Referenced) → k < count → k < length after → (slice_index_or after k entry).is_changed ≡ false
  pub references : (i : ℕ) → references_to after i ≡ references_to entries i
  pub long : length after ≡ length entries
