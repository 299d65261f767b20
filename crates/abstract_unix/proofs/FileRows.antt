-- One walk over the rows of the calls on files.
use Rattle.std.proofs.Common.{◌≡◌, ◌≤◌, ℕ, Bool, true, false, List, slice_index, refl, inl}
use Rattle.std.specs.List.{All}
use Rattle.lines_eight.specs.Lines.{HasRoom}
use Rattle.sys_files.specs.Handed.{Handed}
use Rattle.sys_files.specs.Did.{Did}
use Rattle.sys_files.proofs.Steady.{Confined, steady_same, confined_walks}
use Rattle.sys_files.proofs.Walks.{Walks, Owns, owns_all, walk_read, walk_write, walk_open, walk_close, walk_creat, walk_link, walk_unlink, walk_chdir, walk_mknod, walk_chmod, walk_chown, walk_stat, walk_stat_open, walk_seek, walk_mount, walk_umount, walk_stty, walk_gtty, walk_sync, walk_dup, walk_pipe}
use Rattle.abstract_unix.specs.declared.calls.FileCall.{FileCall}
use Rattle.abstract_unix.specs.declared.calls.FileCall.TheVariants as file
use Rattle.abstract_unix.specs.Calls.{file_row}

-- the calls that open and close files, or enter a directory
abbrev pub moves_area : FileCall → Bool
moves_area file.Open = true
moves_area file.Close = true
moves_area file.Creat = true
moves_area file.Chdir = true
moves_area file.Dup = true
moves_area file.Pipe = true
moves_area call = false

-- the calls that may change the files of both disks: `sync` writes each, and a pipe is a new node of the first, wherever its
-- process is
abbrev pub is_of_both : FileCall → Bool
is_of_both file.Sync = true
is_of_both file.Pipe = true
is_of_both call = false

-- A fact that the words of the rows keep holds of what each row comes to.
pub walk_row : {P : Handed → Type 0} {Q : Did → Type 0} {Few Known Line Here : ℕ → Type 0} {Moves Both : Type 0} {slot : ℕ}
    → Walks P Q Few Known Line Here Moves Both slot → (call : FileCall) (h : Handed) (args : List ℕ) (now : ℕ)
    → Few (slice_index args 1) → (moves_area call ≡ true → Moves) → (is_of_both call ≡ true → Both) → Owns Here h → P h → Q (file_row call h slot args now)
walk_row k file.Read h a now few moves both own p = walk_read k h (slice_index a 0) (slice_index a 1) now own p
walk_row k file.Write h a now few moves both own p = walk_write k h (slice_index a 0) (slice_index a 1) now few own p
walk_row k file.Open h a now few moves both own p = walk_open k h (slice_index a 0) (slice_index a 1) (moves refl) p
walk_row k file.Close h a now few moves both own p = walk_close k h own (moves refl) p
walk_row k file.Creat h a now few moves both own p = walk_creat k h (slice_index a 0) (slice_index a 1) now (moves refl) p
walk_row k file.Link h a now few moves both own p = walk_link k h (slice_index a 0) (slice_index a 1) now p
walk_row k file.Unlink h a now few moves both own p = walk_unlink k h (slice_index a 0) now p
walk_row k file.Chdir h a now few moves both own p = walk_chdir k h (slice_index a 0) own (moves refl) p
walk_row k file.Mknod h a now few moves both own p = walk_mknod k h (slice_index a 0) (slice_index a 1) (slice_index a 2) now p
walk_row k file.Chmod h a now few moves both own p = walk_chmod k h (slice_index a 0) (slice_index a 1) now p
walk_row k file.Chown h a now few moves both own p = walk_chown k h (slice_index a 0) (slice_index a 1) now p
walk_row k file.Stat h a now few moves both own p = walk_stat k h (slice_index a 0) (slice_index a 1) p
walk_row k file.Seek h a now few moves both own p = walk_seek k h (slice_index a 0) (slice_index a 1) p
walk_row k file.Mount h a now few moves both own p = walk_mount k h (slice_index a 0) (slice_index a 1) p
walk_row k file.Umount h a now few moves both own p = walk_umount k h (slice_index a 0) p
walk_row k file.Fstat h a now few moves both own p = walk_stat_open k h (slice_index a 0) p
walk_row k file.Stty h a now few moves both own p = walk_stty k h (slice_index a 0) p
walk_row k file.Gtty h a now few moves both own p = walk_gtty k h (slice_index a 0) p
walk_row k file.Sync h a now few moves both own p = walk_sync k h now (both refl) p
walk_row k file.Dup h a now few moves both own p = walk_dup k h (moves refl) p
walk_row k file.Pipe h a now few moves both own p = walk_pipe k h now (inl (both refl)) (moves refl) p

-- What a call on files does is confined, where its second argument is a word and no more bytes wait on a line than there is room for.
pub row_confined : (call : FileCall) (h : Handed) (slot : ℕ) (args : List ℕ) (now : ℕ) → slice_index args 1 ≤ 65535 → All HasRoom h.lines
    → Confined slot h (file_row call h slot args now)
row_confined call h slot args now few room = walk_row (confined_walks h slot) call h args now few (λ moves. tt) (λ both. tt) (owns_all h) (steady_same h room)
