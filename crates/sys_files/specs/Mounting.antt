-- The second disk is mounted on a directory, and unmounted: mount(II), umount(II); Lions' Commentary, `smount`, `sumount` and
-- `getmdev` in `sys3.c`.
use Rattle.std.specs.Prelude.{ℕ, Bool, not, ◌==◌, ◌&&◌, ◌||◌, nat_lt, if◌then◌else◌, Option, Some, None, is_none, Result, Ok, slice_index}
use Rattle.v6_base.specs.Access.{then_do}
use Rattle.v6_base.specs.declared.errno.Errno.{Errno}
use Rattle.v6_base.specs.declared.errno.Errno.TheVariants.{ENXIO, ENOTBLK, EBUSY, EINVAL}
use Rattle.fs_codec.specs.Modes.{file_type, is_directory}
use Rattle.fs_codec.specs.declared.modes.TheConstants.{IFBLK}
use Rattle.fs_codec.specs.Store.{Node}
use Rattle.fs_nodes.specs.Keys.{references_on}
use Rattle.fs_nodes.specs.FileSystem.{referenced}
use Rattle.fs_tree.specs.Name.{name_at}
use Rattle.fs_tree.specs.Finding.{find_in}
use Rattle.mount_tab.specs.Mounted.{has_second}
use Rattle.sys_files.specs.Handed.{Handed, node_at, user_of, let_go}
use Rattle.sys_files.specs.Did.{Did, fails, is_done, check, must, names, until_end, then_named, finds}

abbrev pub is_block_device : Node → Bool
is_block_device node = file_type node.mode == IFBLK

-- Disk 0 is the root's, and disk 1, where it is there, the second one.
abbrev pub is_disk : Handed → ℕ → Bool
is_disk h device = (device == 0) || ((device == 1) && has_second h.mounts)

-- the disk of a special file
abbrev pub disk_named : Handed → ℕ → Result ℕ Errno
disk_named h special =
    then_do (must ENOTBLK (is_block_device (node_at h special))) (λ block.
    then_do (must ENXIO (is_disk h (node_at h special).device)) (λ there.
    Ok (node_at h special).device))

-- The second disk can cover a directory to which nothing but the call refers.
abbrev pub can_cover : Handed → ℕ → ℕ → Bool
can_cover h device dir =
    not (device == 0) && is_none h.mounts.covered && (slice_index h.inodes.references dir == 1)
    && is_directory (node_at h dir).mode

abbrev pub with_covered : Handed → Option ℕ → Handed
with_covered h covered = record h { mounts = record h.mounts { covered = covered } }

-- The reference to a directory that is covered stays: it is the kernel's from then on.
abbrev pub covers : ℕ → Handed → ℕ → Did
covers device h dir =
    if can_cover h device dir then names dir (is_done (with_covered h (Some dir)))
    else until_end dir (fails h EBUSY)

abbrev pub mounts_disk : ℕ → Handed → ℕ → Did
mounts_disk name h device =
    then_named h (find_in h.inodes h.mounts (user_of h.u) h.u.dir (name_at h.image name)) (covers device)

-- The disk of a special file that was found is mounted on the directory of a name.
abbrev pub mounts_found : ℕ → Handed → ℕ → Did
mounts_found name h special = check h (disk_named h special) (mounts_disk name h)

-- 21, mount: the names of a special file and of a directory. A third word says whether the disk may be written: it isn't looked
-- at.
abbrev pub mount_on : Handed → ℕ → ℕ → Did
mount_on h special name = finds h special (mounts_found name)

-- whether an inode of the second disk is referred to
abbrev pub is_held : Handed → Bool
is_held h = nat_lt 0 (referenced (references_on h.inodes.store h.inodes.references 1))

-- The directory is uncovered, and the kernel's reference to it goes.
abbrev pub uncovers : Handed → Option ℕ → Did
uncovers h None = fails h EINVAL
uncovers h (Some dir) = until_end dir (is_done (with_covered h None))

abbrev pub unmounts : Handed → ℕ → Did
unmounts h device =
    check h (must EINVAL (not ((device == 1) && is_none h.mounts.covered))) (λ mounted.
    check h (must EBUSY (not (device == 0) && not (is_held h))) (λ free.
    uncovers h h.mounts.covered))

-- The reference to the special file goes before it is seen whether anything of the disk is in use.
abbrev pub unmounts_named : Handed → ℕ → Did
unmounts_named h special =
    let rest : Handed = let_go h special in
    names special (check rest (disk_named h special) (unmounts rest))

-- 22, umount: the name of a special file
abbrev pub umount_off : Handed → ℕ → Did
umount_off h special =
    then_named h (find_in h.inodes h.mounts (user_of h.u) h.u.dir (name_at h.image special)) unmounts_named
