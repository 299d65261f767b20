-- Descriptors are given once more and closed: dup(II), close(II); Lions' Commentary, `fio.c` and `sys3.c`.
use Rattle.std.specs.Prelude.{◌≡◌, ℕ, Bool, false, not, ◌+◌, ◌<◌, ◌==◌, ◌&&◌, if◌then◌else◌, List, [], ◌∷◌, ◌++◌, Option, Some, None, Result, Ok, Err, slice_index, slice_set, fold}
use Rattle.std.specs.List.{range_with_len, list_any}
use Rattle.v6_base.specs.Trace.{Item, Log}
use Rattle.v6_base.specs.declared.answer.Answer.TheVariants.{Ret}
use Rattle.v6_base.specs.declared.entry.Chan.TheVariants.{Read, Write}
use Rattle.v6_base.specs.declared.entry.Entry.TheVariants.{Wake}
use Rattle.v6_base.specs.declared.errno.Errno.{Errno}
use Rattle.v6_base.specs.declared.errno.Errno.TheVariants.{EBADF, EMFILE}
use Rattle.open_files.specs.declared.file.OpenFile.{OpenFile}
use Rattle.open_files.specs.declared.file.Closed.{Closed}
use Rattle.open_files.specs.declared.file.Closed.TheVariants.{Still, Last}
use Rattle.open_files.specs.Files.{file_at, entry_of, free_number, with_more, with_change, closed, left}
use Rattle.pipe_ends.specs.declared.ends.Pipe.{Pipe}
use Rattle.tty_line.specs.Said as said
use Rattle.tty_line.specs.Said.{Said}
use Rattle.lines_eight.specs.Told.{told}
use Rattle.sys_files.specs.Handed.{Handed, r0, r1, node_at, file_of, line_of, line_at, with_line, with_number, let_go}
use Rattle.sys_files.specs.Did.{Did, returns, check, need}
use Rattle.sys_files.specs.Pipes.{pipe_of, with_pipe, without_pipe, has_end}

-- Each open file refers to its inode.
abbrev pub AreReferred : List (Option OpenFile) → List ℕ → Type 0
AreReferred files references =
    (entry : ℕ) (file : OpenFile) → file_at files entry ≡ Some file → 0 < slice_index references file.ino

-- the entry of an open number
abbrev pub open_entry : Handed → ℕ → Result ℕ Errno
open_entry h fd = if slice_index h.u.files fd == 0 then Err EBADF else Ok (entry_of h.u.files fd)

-- 41, dup: the number in R0 is given once more, as the lowest free one, which R0 takes
abbrev pub dup_file : Handed → Did
dup_file h =
    check h (open_entry h (r0 h)) (λ entry.
    check h (need EMFILE (free_number h.u.files)) (λ fd.
    returns (record h { files = with_change h.files entry (with_more 1); u = with_number h.u fd (entry + 1) }) fd))

-- What closing comes to: it always goes on.
pub record Closing : Type 0 where
  pub state : Handed
  pub items : List Item

-- a file of a line is open
abbrev pub is_number : ℕ → Option ℕ → Bool
is_number l None = false
is_number l (Some other) = other == l

abbrev pub is_of_line : Handed → ℕ → Option OpenFile → Bool
is_of_line h l None = false
is_of_line h l (Some file) = is_number l (line_of h (node_at h file.ino))

abbrev pub is_line_open : Handed → ℕ → Bool
is_line_open h l = list_any (is_of_line h l) h.files

-- With the last of its files a line is closed: the bytes that wait go out, what was typed is lost, and who waits is woken.
abbrev pub closes_line : Handed → Option ℕ → Closing
closes_line h None = record { state = h; items = [] }
closes_line h (Some l) =
    let s : Said = said.closed (line_at h l) in
    if is_line_open h l then record { state = h; items = [] } else record { state = with_line h l s.terminal; items = told l s }

abbrev pub line_closed : Handed → OpenFile → Closing
line_closed h file = closes_line h (line_of h (node_at h file.ino))

-- Each close of an end of a pipe, also one that leaves the end open, wakes those who wait for the pipe: writers, and then readers.
abbrev pub without_marks : Pipe → Pipe
without_marks p = record p { reader_waits = false; writer_waits = false }

abbrev pub with_roused : Handed → OpenFile → Handed
with_roused h file =
    if file.kind.pipe then record h { pipes = with_pipe h.pipes (without_marks (pipe_of h.pipes file.ino)) } else h

abbrev pub pipe_roused : OpenFile → List Item
pipe_roused file = if file.kind.pipe then Log (Wake (Write file.ino)) ∷ Log (Wake (Read file.ino)) ∷ [] else []

-- With the last of its ends the pipe is gone.
abbrev pub is_gone_with : Handed → OpenFile → Bool
is_gone_with h file = file.kind.pipe && not (has_end h.files file.ino)

abbrev pub with_gone : Handed → OpenFile → Handed
with_gone h file = if is_gone_with h file then record h { pipes = without_pipe h.pipes file.ino } else h

-- An end of a pipe wakes who waits. The entry is free with its last number: then a line is closed whose last file it was, and the
-- reference to the inode goes.
abbrev pub released : Handed → Closed → Closing
released h (Still file) = record { state = with_roused h file; items = pipe_roused file }
released h (Last file) =
    let rest : Handed = with_gone (with_roused h file) file in
    let c : Closing = line_closed rest file in
    record { state = let_go c.state file.ino; items = pipe_roused file ++ c.items }

-- what is told of the file that a number lets go
abbrev pub told_by : Handed → ℕ → Closed
told_by h fd = closed (file_of h (entry_of h.u.files fd))

-- The number names no file then, and its entry has what is left of it.
abbrev pub dropped : Handed → ℕ → Handed
dropped h fd = record h {
  files = slice_set h.files (entry_of h.u.files fd) (left (told_by h fd));
  u = with_number h.u fd 0;
}

-- a number lets its file go
abbrev pub closes : Handed → ℕ → Closing
closes h fd = released (dropped h fd) (told_by h fd)

-- 6, close: of the number in R0
abbrev pub close_file : Handed → Did
close_file h =
    check h (open_entry h (r0 h)) (λ entry.
    let c : Closing = closes h (r0 h) in
    record { answer = Ret (r0 h) (r1 h); state = c.state; items = c.items; named = [] })

-- all numbers of a process let their files go, in order
abbrev pub then_closes : Closing → ℕ → Closing
then_closes c fd =
    if slice_index c.state.u.files fd == 0 then c
    else (let next : Closing = closes c.state fd in record { state = next.state; items = c.items ++ next.items })

unfoldable pub close_all : Handed → Closing
close_all h = fold then_closes (record { state = h; items = [] }) (range_with_len 0 15)
