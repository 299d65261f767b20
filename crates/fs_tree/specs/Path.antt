-- The search for a name: namei in Lions' Commentary, `nami.c`.
use Rattle.std.specs.Prelude.{ℕ, Bool, true, false, not, ◌*◌, ◌&&◌, ◌||◌, if◌then◌else◌, List, [], ◌∷◌, Option, Some, None, is_some, Result, Ok, Err}
use Rattle.v6_base.specs.Access.{then_do}
use Rattle.v6_base.specs.declared.errno.Errno.{Errno}
use Rattle.v6_base.specs.declared.errno.Errno.TheVariants.{ENOENT, EACCES, EFAULT, ENOTDIR}
use Rattle.fs_codec.specs.Modes.{is_directory}
use Rattle.fs_codec.specs.Store.{Node}
use Rattle.fs_nodes.specs.Keys.{Stores, node_numbered}
use Rattle.mount_tab.specs.Mounted.{MountTable, is_number, key_of, split_of, crossed}
use Rattle.fs_tree.specs.declared.user.User.{User}
use Rattle.fs_tree.specs.declared.user.Want.TheVariants.{Write, Execute}
use Rattle.fs_tree.specs.declared.directory.Looked.{Looked}
use Rattle.fs_tree.specs.declared.directory.Looked.TheVariants.{Entry, Room}
use Rattle.fs_tree.specs.declared.walk.Last.{Last}
use Rattle.fs_tree.specs.declared.walk.Way.{Way}
use Rattle.fs_tree.specs.declared.walk.Way.TheVariants.{Start, End}
use Rattle.fs_tree.specs.declared.made.Made.{Made}
use Rattle.fs_tree.specs.declared.made.Made.TheVariants as made
use Rattle.fs_tree.specs.Permission.{may_use, granted}
use Rattle.fs_tree.specs.Name.{is_whole, components, start_of}
use Rattle.fs_tree.specs.Directory.{looked}

-- the next step at the node of a number, where there is one
abbrev pub with_node_of : Option Node → (Node → Result Last Errno) → Result Last Errno
with_node_of None next = Err ENOENT
with_node_of (Some node) next = next node

-- The number of an inode that is used.
abbrev pub used_number : Stores → ℕ → Result ℕ Errno
used_number store ino = if is_some (node_numbered store ino) then Ok ino else Err ENOENT

-- The key of the inode of a number on the disk of a directory, where there is such an inode and it is used.
abbrev pub used_key : Stores → MountTable → ℕ → ℕ → Result ℕ Errno
used_key store mounts dev ino =
    if is_number mounts dev ino then used_number store (key_of mounts dev ino) else Err ENOENT

-- the key that a search of a directory found: an entry names a number of the directory's own disk
abbrev pub entry_number : Stores → MountTable → ℕ → Looked → Result ℕ Errno
entry_number store mounts dir (Entry i ino) = used_key store mounts (split_of mounts dir).0 ino
entry_number store mounts dir (Room i) = Err ENOENT

-- The same where the search goes on from there, or ends there: who comes to a directory that is covered is at the root of the
-- second disk.
abbrev pub reached : Stores → MountTable → ℕ → Looked → Result ℕ Errno
reached store mounts dir looked = then_do (entry_number store mounts dir looked) (λ key. Ok (crossed mounts key))

-- A component of a name is looked for: the node that was reached is a directory, the user may search it, the bytes of the
-- component and what ends them can be read, and then the entries are looked at.
abbrev pub looked_in : User → ℕ → List ℕ → Bool → Node → Result Last Errno
looked_in user dir name is_read node =
    if not (is_directory node.mode) then Err ENOTDIR
    else (if not (may_use node user Execute) then Err EACCES
    else (if not is_read then Err EFAULT
    else Ok (record { dir = dir; name = name; may_write = may_use node user Write; looked = looked node name })))

abbrev pub in_directory : Stores → User → ℕ → List ℕ → Bool → Result Last Errno
in_directory store user dir name is_read = with_node_of (node_numbered store dir) (looked_in user dir name is_read)

abbrev pub is_last : List (List ℕ) → Bool
is_last [] = true
is_last (next ∷ later) = false

-- The components of a name are looked for in order, each in the node that the one before names. A byte that cannot be read
-- is met at the last of them. The answer is what the search of the last directory comes to.
unfoldable pub walk : Stores → MountTable → User → Bool → ℕ → List (List ℕ) → Result Way Errno
walk store mounts user whole dir [] = Ok (Start dir)
walk store mounts user whole dir (name ∷ later) =
    then_do (in_directory store user dir name (not (is_last later) || whole)) (λ last.
    if is_last later then Ok (End last)
    else then_do (reached store mounts last.dir last.looked) (λ ino. walk store mounts user whole ino later))

-- A name is looked for from a directory. One that has no component names the start itself.
abbrev pub way : Stores → MountTable → User → ℕ → List ℕ → Result Way Errno
way store mounts user dir bytes =
    if is_last (components bytes) && not (is_whole bytes) then Err EFAULT
    else walk store mounts user (is_whole bytes) (crossed mounts (start_of dir bytes)) (components bytes)

-- The three uses of it. The first finds a node.
abbrev pub found : Stores → MountTable → Way → Result ℕ Errno
found store mounts (Start ino) = Ok ino
found store mounts (End last) = reached store mounts last.dir last.looked

-- What access answers to the user who wants to write the directory that was searched.
abbrev pub write_access : List Bool → Last → Result (Unit {0}) Errno
write_access marks last = granted marks last.dir Write last.may_write

-- The second finds a node, or the room for an entry of a directory that the user may write.
abbrev pub found_or_room : Stores → MountTable → List Bool → Last → Looked → Result Made Errno
found_or_room store mounts marks last (Entry i ino) =
    then_do (reached store mounts last.dir (Entry i ino)) (λ key. Ok (made.Found key))
found_or_room store mounts marks last (Room i) =
    then_do (write_access marks last) (λ may. Ok (made.Room last.dir (16 * i) last.name))

abbrev pub to_make : Stores → MountTable → List Bool → Way → Result Made Errno
to_make store mounts marks (Start ino) = Err ENOENT
to_make store mounts marks (End last) = found_or_room store mounts marks last last.looked

-- The third finds an entry of a directory that the user may write. The inode that it names is the one that is removed, also
-- where it is covered.
abbrev pub entry_to_remove : Stores → MountTable → List Bool → Last → Looked → Result (ℕ × ℕ × ℕ) Errno
entry_to_remove store mounts marks last (Entry i ino) =
    then_do (write_access marks last) (λ may.
    then_do (entry_number store mounts last.dir (Entry i ino)) (λ key. Ok (last.dir, 16 * i, key)))
entry_to_remove store mounts marks last (Room i) = Err ENOENT

abbrev pub to_remove : Stores → MountTable → List Bool → Way → Result (ℕ × ℕ × ℕ) Errno
to_remove store mounts marks (Start ino) = Err ENOENT
to_remove store mounts marks (End last) = entry_to_remove store mounts marks last last.looked
