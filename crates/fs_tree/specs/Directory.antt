-- A directory is a file of entries of 16 bytes: directory(V), and namei in Lions' Commentary, `nami.c`.
use Rattle.std.specs.Prelude.{◌≡◌, ℕ, zero, suc, Bool, not, ◌+◌, ◌*◌, ◌/◌, ◌%◌, ◌<◌, ◌==◌, ◌&&◌, if◌then◌else◌, List, map, slice_index, Option, Some, None, is_some, unwrap_or, bytes_eq}
use Rattle.std.specs.List.{range_with_len}
use Rattle.fs_codec.specs.Fields.{entry_of}
use Rattle.fs_codec.specs.Store.{Node}
use Rattle.fs_codec.specs.declared.layout.TheConstants.{BLOCK_SIZE}
use Rattle.fs_codec.specs.declared.entry.DirEntry.{DirEntry}
use Rattle.fs_nodes.specs.FileSystem.{file_byte}
use Rattle.fs_tree.specs.declared.directory.Looked.{Looked}
use Rattle.fs_tree.specs.declared.directory.Looked.TheVariants.{Entry, Room}

-- the entry at a place; blocks that the file does not have read as zeros
unfoldable pub entry_at : Node → ℕ → DirEntry
entry_at node i = entry_of (map (λ k. file_byte node.size node.body (16 * i + k)) (range_with_len 0 16))

-- These are the bytes of block n of a directory.
pub record HasBlock (node : Node) (n : ℕ) (block : List ℕ) : Type 0 where
  pub bytes : (k : ℕ) → k < BLOCK_SIZE → slice_index block k ≡ slice_index node.body (BLOCK_SIZE * n + k)

-- how many entries a search looks at
abbrev pub entry_count : ℕ → ℕ
entry_count size = size % 65536 / 16

-- the least number below n that passes a test
unfoldable pub first_below : (ℕ → Bool) → ℕ → Option ℕ
first_below test zero = None
first_below test (suc n) =
    if is_some (first_below test n) then first_below test n else (if test n then Some n else None)

-- An entry whose inode number is 0 is empty.
unfoldable pub is_empty : Node → ℕ → Bool
is_empty node i = (entry_at node i).ino == 0

unfoldable pub is_named : Node → List ℕ → ℕ → Bool
is_named node name i = not (is_empty node i) && bytes_eq (entry_at node i).name name

-- The place for a new entry is the first empty one, or the one just after those that were looked at.
abbrev pub room_in : Node → ℕ
room_in node = unwrap_or (first_below (is_empty node) (entry_count node.size)) (entry_count node.size)

abbrev pub entry_or_room : Node → Option ℕ → Looked
entry_or_room node (Some i) = Entry i (entry_at node i).ino
entry_or_room node None = Room (room_in node)

-- What a search of a directory for a name comes to: the first entry of this name, or the place where there is room for one.
unfoldable pub looked : Node → List ℕ → Looked
looked node name = entry_or_room node (first_below (is_named node name) (entry_count node.size))
