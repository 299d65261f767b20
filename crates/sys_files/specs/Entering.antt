-- What a part of a call that enters or removes a name rests on, and what it keeps: `nami.c`, `iget.c` in Lions' book.
use Rattle.std.specs.Prelude.{◌≡◌, ◌+◌, ◌%◌, ◌<◌, ◌≤◌, ◌==◌, nat_le, if◌then◌else◌, ℕ, true, [], Some, Result, slice_index}
use Rattle.v6_base.specs.declared.answer.Answer.{Answer}
use Rattle.v6_base.specs.declared.errno.Errno.{Errno}
use Rattle.fs_codec.specs.Modes.{is_directory}
use Rattle.fs_codec.specs.Store.{Node}
use Rattle.fs_nodes.specs.Disks.{Disks}
use Rattle.fs_nodes.specs.Keys.{counts, node_numbered}
use Rattle.fs_nodes.specs.FileSystem.{FileSystem, SameRest}
use Rattle.fs_tree.specs.declared.made.Made.{Made}
use Rattle.fs_tree.specs.declared.made.Made.TheVariants as made
use Rattle.sys_files.specs.Handed.{Handed}
use Rattle.sys_files.specs.Did.{Did, check, is_done}

-- A directory is referred to, and an entry of it may begin at this byte.
pub record HasEntry (fs : FileSystem) (dir offset : ℕ) : Type 0 where
  pub referenced : 0 < slice_index fs.references dir
  pub directory : (node : Node) → node_numbered fs.store dir ≡ Some node → is_directory node.mode ≡ true
  pub begins : offset % 16 ≡ 0
  pub small : offset ≤ 65520

-- A name that may be new is that of an inode that is referred to, or there is room for its entry.
abbrev pub HasMade : FileSystem → Made → Type 0
HasMade fs (made.Found ino) = 0 < slice_index fs.references ino
HasMade fs (made.Room dir offset name) = HasEntry fs dir offset

-- A key is that of an inode of a disk, by how many inodes each has.
abbrev pub IsOnDisk : Disks ℕ → ℕ → ℕ → Type 0
IsOnDisk c dev key = (if nat_le key c.root then 0 else 1) ≡ dev

-- References, numbers and the blocks that no file has are as they were.
pub record SameReferences (old new : FileSystem) : Type 0 where
  pub references : (i : ℕ) → slice_index new.references i ≡ slice_index old.references i
  pub counts : counts new.store ≡ counts old.store
  pub blocks : SameRest old new

-- how many references more there are to an inode where there is one more to this inode
abbrev pub one_to : ℕ → ℕ → ℕ
one_to ino i = if ino == i then 1 else 0

-- The same, but for one reference more to this inode.
pub record OneReferenceMore (old : FileSystem) (ino : ℕ) (new : FileSystem) : Type 0 where
  pub references : (i : ℕ) → slice_index new.references i ≡ slice_index old.references i + one_to ino i
  pub counts : counts new.store ≡ counts old.store
  pub blocks : SameRest old new

-- The same, but for one reference more to a directory, and one more to an inode.
pub record TwoReferencesMore (old : FileSystem) (dir ino : ℕ) (new : FileSystem) : Type 0 where
  pub references : (i : ℕ)
      → slice_index new.references i ≡ slice_index old.references i + one_to dir i + one_to ino i
  pub counts : counts new.store ≡ counts old.store
  pub blocks : SameRest old new

-- a part of a call that is done, or refused
abbrev pub did_of : Handed → Result (Unit {0}) Errno → Did
did_of h result = check h result (λ done. is_done h)

-- a part of a call that answers this, and shows nothing
abbrev pub did_with : Handed → Answer → Did
did_with h answer = record { answer = answer; state = h; items = []; named = [] }
