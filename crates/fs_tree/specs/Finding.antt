-- A search changes nothing but references: what it names is referred to, once more. iget and iput in Lions' Commentary,
-- `iget.c`.
use Rattle.std.specs.Prelude.{ℕ, Bool, not, ◌+◌, ◌-◌, ◌||◌, ◌==◌, nat_lt, if◌then◌else◌, List, slice_index, slice_set, Option, Some, None, Result, Ok, Err}
use Rattle.v6_base.specs.Access.{then_do}
use Rattle.v6_base.specs.declared.errno.Errno.{Errno}
use Rattle.v6_base.specs.declared.errno.Errno.TheVariants.{ENFILE}
use Rattle.fs_codec.specs.Store.{Node}
use Rattle.fs_nodes.specs.Keys.{Stores, node_numbered, without_reference}
use Rattle.fs_nodes.specs.FileSystem.{FileSystem, referenced}
use Rattle.mount_tab.specs.Mounted.{MountTable}
use Rattle.fs_tree.specs.declared.user.User.{User}
use Rattle.fs_tree.specs.declared.made.Made.{Made}
use Rattle.fs_tree.specs.declared.made.Made.TheVariants as made
use Rattle.fs_tree.specs.Path.{way, found, to_make, to_remove}

-- The inodes of the file systems: their stores, and how often each is referred to, by its key.
pub record Inodes : Type 0 where
  pub store : Stores
  pub references : List ℕ

abbrev pub inodes_of : FileSystem → Inodes
inodes_of fs = record { store = fs.store; references = fs.references }

-- What a call answers, and what it makes of the inodes.
pub record Finding (A : Type 0) : Type 0 where
  pub answer : Result A Errno
  pub inodes : Inodes

-- An inode can be referred to once more, unless a hundred others are.
abbrev pub can_refer : Inodes → ℕ → Bool
can_refer n ino = nat_lt 0 (slice_index n.references ino) || nat_lt (referenced n.references) 100

abbrev pub with_reference : Inodes → ℕ → Inodes
with_reference n ino = record n { references = slice_set n.references ino (slice_index n.references ino + 1) }

abbrev pub refused : {A : Type 0} → Inodes → Errno → Finding A
refused n e = record { answer = Err e; inodes = n }

abbrev pub referring : {A : Type 0} → Inodes → ℕ → A → Finding A
referring n ino answer =
    if can_refer n ino then record { answer = Ok answer; inodes = with_reference n ino } else refused n ENFILE

-- The first use of a name: its inode is found.
abbrev pub finding : Inodes → Result ℕ Errno → Finding ℕ
finding n (Ok ino) = referring n ino ino
finding n (Err e) = refused n e

abbrev pub find_in : Inodes → MountTable → User → ℕ → List ℕ → Finding ℕ
find_in n mounts user dir bytes = finding n (then_do (way n.store mounts user dir bytes) (found n.store mounts))

-- The second: its inode is found, or the room for an entry.
abbrev pub named_by_made : Made → ℕ
named_by_made (made.Found ino) = ino
named_by_made (made.Room dir offset name) = dir

abbrev pub making : Inodes → Result Made Errno → Finding Made
making n (Ok answer) = referring n (named_by_made answer) answer
making n (Err e) = refused n e

abbrev pub make_in : Inodes → MountTable → List Bool → User → ℕ → List ℕ → Finding Made
make_in n mounts marks user dir bytes = making n (then_do (way n.store mounts user dir bytes) (to_make n.store mounts marks))

-- the store when a reference to an inode has gone, of so many
abbrev pub put_in : Stores → ℕ → ℕ → Option Node → Stores
put_in store ino count None = store
put_in store ino count (Some node) = if count == 1 then without_reference store ino node else store

abbrev pub put_back : Inodes → ℕ → Inodes
put_back n ino = record n {
  store = put_in n.store ino (slice_index n.references ino) (node_numbered n.store ino);
  references = slice_set n.references ino (slice_index n.references ino - 1);
}

-- The third: the entry of its inode is found. The directory is referred to first, and then the inode: where that one cannot be,
-- the reference to the directory goes again.
abbrev pub referring_both : Inodes → ℕ × ℕ × ℕ → Finding (ℕ × ℕ × ℕ)
referring_both n entry =
    if not (can_refer n entry.0) then refused n ENFILE
    else (
    if not (can_refer (with_reference n entry.0) entry.2) then refused (put_back (with_reference n entry.0) entry.0) ENFILE
    else record { answer = Ok entry; inodes = with_reference (with_reference n entry.0) entry.2 })

abbrev pub removing : Inodes → Result (ℕ × ℕ × ℕ) Errno → Finding (ℕ × ℕ × ℕ)
removing n (Ok entry) = referring_both n entry
removing n (Err e) = refused n e

abbrev pub remove_in : Inodes → MountTable → List Bool → User → ℕ → List ℕ → Finding (ℕ × ℕ × ℕ)
remove_in n mounts marks user dir bytes =
    removing n (then_do (way n.store mounts user dir bytes) (to_remove n.store mounts marks))
