-- How often each inode of a system is referred to, which follows from the rest of it: `i_count` of `inode.h` in Lions'
-- Commentary.
use Rattle.std.specs.Prelude.{ℕ, Bool, false, ◌+◌, ◌==◌, ◌&&◌, not, if◌then◌else◌, List, Option, Some, None, map, count_by}
use Rattle.std.specs.List.{range_with_len}
use Rattle.fs_nodes.specs.Keys.{key_count}
use Rattle.mount_tab.specs.Mounted.{is_the}
use Rattle.sys_files.specs.Sound.{is_of}
use Rattle.sys_procs.specs.Process.{Process}
pub use Rattle.sys_procs.specs.TextTable.{is_text_of}
use Rattle.abstract_unix.specs.Unix.{Unix}

-- a process whose current directory is this inode; one that has ended has left it
abbrev pub is_in : ℕ → Option Process → Bool
is_in ino None = false
is_in ino (Some p) = not p.is_zombie && (p.u.dir == ino)

-- Open files, current directories and texts refer to inodes, and the kernel to inode 1 as the root and to the directory that the
-- second disk covers.
abbrev pub referrers : Unix → ℕ → ℕ
referrers u ino =
    count_by (is_of ino) u.files + count_by (is_in ino) u.processes + count_by (is_text_of ino) u.texts
    + (if ino == 1 then 1 else 0) + (if is_the u.covered ino then 1 else 0)

-- by keys of inodes, from 0 on
unfoldable pub references_of : Unix → List ℕ
references_of u = map (referrers u) (range_with_len 0 (key_count u.store + 1))
