-- Files are made, linked and unlinked: creat(II), mknod(II), link(II), unlink(II); Lions' Commentary, `creat` and `maknode` in
-- `sys2.c` and `iget.c`, `unlink` in `sys4.c`.
use Rattle.std.specs.Prelude.{ℕ, Bool, true, false, not, ◌+◌, ◌-◌, ◌==◌, ◌||◌, nat_lt, if◌then◌else◌, List, [], ◌∷◌, Option, Some, None, Result, Ok, Err, slice_index, slice_set, bit_and}
use Rattle.v6_base.specs.Access.{then_do}
use Rattle.v6_base.specs.declared.errno.Errno.{Errno}
use Rattle.v6_base.specs.declared.errno.Errno.TheVariants.{EPERM, EBUSY, EEXIST, EXDEV, EISDIR, ENFILE, ENOSPC, EMLINK}
use Rattle.fs_codec.specs.Bytes.{entry_bytes}
use Rattle.fs_codec.specs.Modes.{is_device, is_directory}
use Rattle.fs_codec.specs.Store.{Node}
use Rattle.fs_laws.specs.Numbers.{Draw, draw, new_node}
use Rattle.fs_laws.specs.Pieces.{Moving}
use Rattle.fs_nodes.specs.Keys.{store_on, key_on, references_on, room_at, with_node, with_fields, with_truncated}
use Rattle.fs_nodes.specs.FileSystem.{referenced}
use Rattle.fs_nodes.specs.Numbers.{with_draw}
use Rattle.mount_tab.specs.Mounted.{is_the}
use Rattle.fs_tree.specs.declared.user.User.{User}
use Rattle.fs_tree.specs.declared.user.Want.TheVariants.{Write}
use Rattle.fs_tree.specs.Name.{name_at}
use Rattle.fs_tree.specs.Permission.{access}
use Rattle.fs_tree.specs.Entries.{written, answer_to}
use Rattle.fs_tree.specs.Path.{way, to_remove}
use Rattle.fs_tree.specs.Finding.{Inodes, Finding, refused, removing}
use Rattle.sys_files.specs.Handed.{Handed, node_in, node_at, disk_of, number_of, user_of, with_inodes}
use Rattle.sys_files.specs.Did.{Did, fails, is_done, check, must, until_end, names, then_named, finds, makes}
use Rattle.sys_files.specs.Opening.{opens}

-- A new inode on a disk, to which the call refers. Its number stays out of that disk's list of free ones where a hundred are
-- referred to already.
abbrev pub new_known : Inodes → ℕ → ℕ → User → ℕ → Draw → ℕ → Finding ℕ
new_known n dev mode user now d key =
    if nat_lt (referenced n.references) 100 then record {
      answer = Ok key;
      inodes = record {
        store = with_node (with_draw n.store dev d) key (new_node mode user.uid user.gid now) (room_at n.store key);
        references = slice_set n.references key 1;
      };
    } else refused (record n { store = with_draw n.store dev d }) ENFILE

abbrev pub new_numbered : Inodes → ℕ → ℕ → User → ℕ → Draw → Option ℕ → Finding ℕ
new_numbered n dev mode user now d None = refused (record n { store = with_draw n.store dev d }) ENOSPC
new_numbered n dev mode user now d (Some ino) = new_known n dev mode user now d (key_on n.store dev ino)

abbrev pub new_in : Inodes → ℕ → ℕ → User → ℕ → Finding ℕ
new_in n dev mode user now =
    let d : Draw = draw (store_on n.store dev) (λ i. nat_lt 0 (slice_index (references_on n.store n.references dev) i)) in
    new_numbered n dev mode user now d d.number

-- Bytes of a directory are written.
abbrev pub entry_written : Inodes → ℕ → ℕ → List ℕ → ℕ → Finding (Unit {0})
entry_written n dir offset bytes now =
    let m : Moving (Unit {0}) = written n.store dir (node_in n.store dir) offset bytes now in
    record { answer = answer_to m.error; inodes = record n { store = with_node n.store dir m.node m.room } }

-- The call goes on where they are.
abbrev pub writes_entry : Handed → ℕ → ℕ → List ℕ → ℕ → (Handed → Did) → Did
writes_entry h dir offset bytes now next = then_named h (entry_written h.inodes dir offset bytes now) (λ h done. next h)

-- An inode of a directory's own disk is entered under a name, by its number there.
abbrev pub enters : Handed → ℕ → ℕ → List ℕ → ℕ → ℕ → (Handed → Did) → Did
enters h dir offset name ino now next =
    writes_entry h dir offset (entry_bytes (record { ino = number_of h ino; name = name })) now next

-- an inode has so many links from now on
abbrev pub links_in : Inodes → ℕ → ℕ → ℕ → Inodes
links_in n ino links now =
    let changed : Node = record (node_in n.store ino) { nlink = links; modtime = now } in
    record n { store = with_fields n.store ino changed }

abbrev pub with_links : Handed → ℕ → ℕ → ℕ → Handed
with_links h ino links now = with_inodes h (links_in h.inodes ino links now)

-- a new inode is entered, with one link
abbrev pub enters_new : Handed → ℕ → ℕ → List ℕ → ℕ → ℕ → (Handed → ℕ → Did) → Did
enters_new h dir offset name ino now next = enters h dir offset name ino now (λ h. next (with_links h ino 1 now) ino)

-- A new inode is made on the disk of its directory, and entered. Where it cannot be entered it goes again, since it has no link.
abbrev pub makes_node : Handed → ℕ → ℕ → List ℕ → ℕ → ℕ → (Handed → ℕ → Did) → Did
makes_node h dir offset name mode now next =
    then_named h (new_in h.inodes (disk_of h dir) mode (user_of h.u) now) (λ h ino.
    until_end ino (enters_new h dir offset name ino now next))

-- A file that is there gives its blocks back, where the user may write it and it is no directory, and is opened for writing.
abbrev pub opens_for_writing : Handed → ℕ → Did
opens_for_writing h ino = opens h ino (record { reading = false; writing = true; pipe = false })

abbrev pub truncated_in : Inodes → ℕ → ℕ → Inodes
truncated_in n ino now = record n { store = with_truncated n.store ino (node_in n.store ino) now }

abbrev pub with_no_blocks : Handed → ℕ → ℕ → Handed
with_no_blocks h ino now = with_inodes h (truncated_in h.inodes ino now)

abbrev pub opens_again : ℕ → Handed → ℕ → Did
opens_again now h ino =
    check h (access h.marks ino (node_at h ino) (user_of h.u) Write) (λ may.
    check h (must EISDIR (not (is_directory (node_at h ino).mode))) (λ file.
    opens_for_writing (with_no_blocks h ino now) ino))

-- A new file is opened for writing whatever its mode.
abbrev pub makes_file : ℕ → ℕ → Handed → ℕ → ℕ → List ℕ → Did
makes_file mode now h dir offset name = makes_node h dir offset name (bit_and mode 0o6777) now opens_for_writing

-- 8, creat: a name and a mode
abbrev pub creat_file : Handed → ℕ → ℕ → ℕ → Did
creat_file h name mode now = makes h name (opens_again now) (makes_file mode now)

-- a device has a number
abbrev pub device_in : Inodes → ℕ → ℕ → Inodes
device_in n ino device =
    let changed : Node = record (node_in n.store ino) { device = device } in
    if is_device (node_in n.store ino).mode then record n { store = with_fields n.store ino changed } else n

abbrev pub with_device : Handed → ℕ → ℕ → Handed
with_device h ino device = with_inodes h (device_in h.inodes ino device)

abbrev pub is_super_user : Handed → Bool
is_super_user h = h.u.uid == 0

-- a new name, for which there may be no inode yet
abbrev pub makes_new : Handed → ℕ → (Handed → ℕ → ℕ → List ℕ → Did) → Did
makes_new h name new = makes h name (λ h ino. fails h EEXIST) new

-- No new file is large.
abbrev pub makes_any : ℕ → ℕ → ℕ → Handed → ℕ → ℕ → List ℕ → Did
makes_any mode device now h dir offset name =
    makes_node h dir offset name (bit_and mode 0o167777) now (λ h ino. is_done (with_device h ino device))

-- 14, mknod: a name, a whole mode and the number of a device
abbrev pub mknod_at : Handed → ℕ → ℕ → ℕ → ℕ → Did
mknod_at h name mode device now =
    check h (must EPERM (is_super_user h)) (λ may.
    makes_new h name (makes_any mode device now))

-- only user 0 links and unlinks directories
abbrev pub may_link : Handed → ℕ → Bool
may_link h ino = not (is_directory (node_at h ino).mode) || is_super_user h

-- An inode has another name, in a directory of its own disk.
abbrev pub enters_again : ℕ → ℕ → Handed → ℕ → ℕ → List ℕ → Did
enters_again ino now h dir offset name =
    check h (must EXDEV (disk_of h ino == disk_of h dir)) (λ same.
    enters h dir offset name ino now (λ h.
    is_done (with_links h ino ((node_at h ino).nlink + 1) now)))

abbrev pub links_to : ℕ → ℕ → Handed → ℕ → Did
links_to new now h ino =
    check h (must EMLINK (nat_lt (node_at h ino).nlink 127)) (λ few.
    check h (must EPERM (may_link h ino)) (λ may.
    makes_new h new (enters_again ino now)))

-- 9, link: a name of a file, and another one for it
abbrev pub link_file : Handed → ℕ → ℕ → ℕ → Did
link_file h name new now = finds h name (links_to new now)

-- A directory that the second disk covers keeps its name.
abbrev pub is_covered : Handed → ℕ → Bool
is_covered h ino = is_the h.mounts.covered ino

-- an entry is empty when its inode number is 0
abbrev pub empties : ℕ → Handed → ℕ → ℕ → ℕ → Did
empties now h dir offset ino =
    check h (must EPERM (may_link h ino)) (λ may.
    check h (must EBUSY (not (is_covered h ino))) (λ free.
    writes_entry h dir offset (0 ∷ 0 ∷ []) now (λ h.
    is_done (with_links h ino ((node_at h ino).nlink - 1) now))))

-- The reference to the directory goes first.
abbrev pub removes : ℕ → Handed → ℕ × ℕ × ℕ → Did
removes now h (dir, offset, ino) = until_end ino (until_end dir (empties now h dir offset ino))

-- the entry that a name leads to
abbrev pub found_to_remove : Handed → ℕ → Result (ℕ × ℕ × ℕ) Errno
found_to_remove h name =
    then_do (way h.inodes.store h.mounts (user_of h.u) h.u.dir (name_at h.image name)) (to_remove h.inodes.store h.mounts h.marks)

-- The call names the directory of the entry, also where it can't refer to both.
abbrev pub names_directory : Result (ℕ × ℕ × ℕ) Errno → Did → Did
names_directory (Ok entry) did = names entry.0 did
names_directory (Err e) did = did

-- 10, unlink: a name. The inode goes with its last link and its last reference.
abbrev pub unlink_file : Handed → ℕ → ℕ → Did
unlink_file h name now =
    let found : Result (ℕ × ℕ × ℕ) Errno = found_to_remove h name in
    names_directory found (then_named h (removing h.inodes found) (removes now))
