-- The image of a process that a signal ends goes to the file `core`: core(V) of the UNIX Programmer's Manual; `core` in Lions'
-- Commentary, `sig.c`.
use Rattle.std.specs.Prelude.{ℕ, Bool, true, false, ◌+◌, ◌==◌, if◌then◌else◌, List, ◌++◌, length, replicate, codes}
use Rattle.v6_base.specs.declared.answer.Answer.{Answer}
use Rattle.v6_base.specs.declared.answer.Answer.TheVariants.{Ret, Fail, Sleep}
use Rattle.v6_base.specs.declared.errno.Errno.TheVariants.{EPERM, EACCES}
use Rattle.u_area.specs.Area.{area_bytes}
use Rattle.u_area.specs.declared.layout.TheConstants.{AREA_SIZE}
use Rattle.fs_codec.specs.Modes.{file_type}
use Rattle.fs_tree.specs.declared.user.Want.TheVariants.{Write}
use Rattle.fs_tree.specs.Permission.{access}
use Rattle.fs_tree.specs.Finding.{make_in}
use Rattle.sys_files.specs.Handed.{Handed, node_at, user_of}
use Rattle.sys_files.specs.Did.{Did, fails, is_done, check, must, then_named, by_made}
use Rattle.sys_files.specs.Making.{writes_entry, makes_node, with_no_blocks}

-- the name, with NULs behind it
abbrev pub core_name : List ℕ
core_name = codes "core" ++ replicate 60 0

abbrev pub is_plain : ℕ → Bool
is_plain mode = file_type mode == 0

-- The per-process area, then the data, then the stack. Each is written where what stands before it was written whole.
abbrev pub writes_parts : ℕ → Handed → ℕ → Did
writes_parts now h ino =
    let d = AREA_SIZE + length h.image.data in
    writes_entry h ino 0 (area_bytes h.u) now (λ h.
    writes_entry h ino AREA_SIZE h.image.data now (λ h.
    writes_entry h ino d h.image.stack now is_done))

-- A file that is there is used where it is plain and the user may write it; it gives its blocks back first. Into any other
-- nothing is written.
abbrev pub writes_over : ℕ → Handed → ℕ → Did
writes_over now h ino =
    check h (must EACCES (is_plain (node_at h ino).mode)) (λ plain.
    check h (access h.marks ino (node_at h ino) (user_of h.u) Write) (λ may.
    writes_parts now (with_no_blocks h ino now) ino))

-- Where there is none, one is made, which all may read and write.
abbrev pub writes_new : ℕ → Handed → ℕ → ℕ → List ℕ → Did
writes_new now h dir offset name = makes_node h dir offset name 0o666 now (writes_parts now)

abbrev pub writes_named : ℕ → Handed → Did
writes_named now h =
    then_named h (make_in h.inodes h.mounts h.marks (user_of h.u) h.u.dir core_name)
    (by_made (writes_over now) (writes_new now))

-- Where the effective user isn't the real one nothing is written. Nobody is told the error with which the writing ends.
unfoldable pub core_file : Handed → ℕ → Did
core_file h now = if h.u.uid == h.u.ruid then writes_named now h else fails h EPERM

-- whether the whole file was written
abbrev pub is_written : Answer → Bool
is_written (Ret r0 r1) = true
is_written (Fail e) = false
is_written (Sleep pri chan) = false
