-- What is told of a file: stat(II), fstat(II); Lions' Commentary, `stat1` in `sys3.c`.
use Rattle.std.specs.Prelude.{ℕ, ◌/◌, ◌%◌, if◌then◌else◌, List, [], ◌∷◌, ◌++◌, Option, Some, None}
use Rattle.v6_base.specs.Image.{Image}
use Rattle.v6_base.specs.Copy.{store_bytes}
use Rattle.v6_base.specs.declared.errno.Errno.TheVariants.{EFAULT}
use Rattle.fs_codec.specs.Bytes.{bytes_of, long_words}
use Rattle.fs_codec.specs.Modes.{is_device}
use Rattle.fs_codec.specs.Store.{Node}
use Rattle.sys_files.specs.Handed.{Handed, r0, node_at, disk_of, number_of, file_of}
use Rattle.sys_files.specs.Did.{Did, fails, is_done, check, finds}
use Rattle.sys_files.specs.Descriptors.{open_entry}

-- The 36 bytes of a file: the number of the disk that it is on and of its inode there, and then the inode as on a disk, with no
-- addresses but the number of a device.
abbrev pub status_bytes : ℕ → ℕ → Node → List ℕ
status_bytes dev ino node =
    bytes_of (dev ∷ ino ∷ node.mode ∷ [])
    ++ (node.nlink ∷ node.uid ∷ node.gid ∷ node.size / 65536 ∷ [])
    ++ bytes_of (node.size % 65536 ∷ (if is_device node.mode then node.device else 0) ∷ 0 ∷ 0 ∷ 0 ∷ 0 ∷ 0 ∷ 0 ∷ 0 ∷ [])
    ++ bytes_of (long_words node.actime) ++ bytes_of (long_words node.modtime)

-- bytes are put into the memory of the process, all of them or none
abbrev pub with_stored : Handed → Option Image → Did
with_stored h (Some image) = is_done (record h { image = image })
with_stored h None = fails h EFAULT

abbrev pub tells_status : Handed → ℕ → ℕ → Did
tells_status h ino at =
    with_stored h (store_bytes h.image at (status_bytes (disk_of h ino) (number_of h ino) (node_at h ino)))

-- 18, stat: a name and a buffer's address
abbrev pub stat_file : Handed → ℕ → ℕ → Did
stat_file h name at = finds h name (λ h ino. tells_status h ino at)

-- 28, fstat: of the number in R0, and a buffer's address
abbrev pub stat_open : Handed → ℕ → Did
stat_open h at = check h (open_entry h (r0 h)) (λ entry. tells_status h (file_of h entry).ino at)
