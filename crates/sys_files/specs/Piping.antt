-- Pipes are made, read and written: pipe(II), read(II), write(II); Lions' Commentary, `pipe.c`.
use Rattle.std.specs.Prelude.{ℕ, true, false, not, pos, ◌+◌, ◌-◌, ◌%◌, ◌&&◌, if◌then◌else◌, List, [], ◌∷◌, ◌++◌, Some, slice_set}
use Rattle.v6_base.specs.Trace.{Item, Log}
use Rattle.v6_base.specs.declared.answer.Answer.TheVariants.{Ret, Fail, Sleep}
use Rattle.v6_base.specs.declared.entry.Chan.{Chan}
use Rattle.v6_base.specs.declared.entry.Chan.TheVariants.{Read, Write}
use Rattle.v6_base.specs.declared.entry.Entry.TheVariants.{Wake, Signal}
use Rattle.v6_base.specs.declared.errno.Errno.TheVariants.{EMFILE, ENFILE, EPIPE}
use Rattle.fs_codec.specs.declared.modes.TheConstants.{IALLOC}
use Rattle.open_files.specs.declared.file.FileKind.{FileKind}
use Rattle.open_files.specs.Files.{free_number, free_entry, opened}
use Rattle.fs_tree.specs.Finding.{with_reference}
use Rattle.u_area.specs.declared.layout.TheConstants.{PIPE_READ, PIPE_WRITE}
use Rattle.sig_core.specs.declared.numbers.TheConstants.{SIGPIPE}
use Rattle.sig_core.specs.Signals.{posted}
use Rattle.pipe_ends.specs.declared.ends.Pipe.{Pipe}
use Rattle.pipe_ends.specs.declared.ends.Piped.{Piped}
use Rattle.pipe_ends.specs.declared.ends.Piped.TheVariants.{Done, Wait, Broken, Error}
use Rattle.pipe_ends.specs.Pipes.{ends_of}
use Rattle.pipe_ends.specs.Reads.{PipeRead, reads}
use Rattle.pipe_ends.specs.Writes.{PipeWrite, writes}
use Rattle.sys_files.specs.Handed.{Handed, file_of, with_number, with_store}
use Rattle.sys_files.specs.Did.{Did, fails, returns, check, need, unless_due, names, until_end, then_named}
use Rattle.sys_files.specs.Making.{new_in}
use Rattle.sys_files.specs.Pipes.{new_pipe, pipe_of, with_pipe}

-- the two ends
abbrev pub reading_end : FileKind
reading_end = record { reading = true; writing = false; pipe = true }

abbrev pub writing_end : FileKind
writing_end = record { reading = false; writing = true; pipe = true }

-- an end is open, under a number and in an entry, and its inode is referred to once more
abbrev pub with_end : Handed → ℕ → FileKind → ℕ → ℕ → Handed
with_end h ino kind fd entry = record h {
  inodes = with_reference h.inodes ino;
  files = slice_set h.files entry (Some (opened ino kind));
  u = with_number h.u fd (entry + 1);
}

-- The lowest free number and the lowest free entry of what there is now. A call that finds none leaves what there was before.
abbrev pub finds_place : Handed → Handed → (ℕ → ℕ → Did) → Did
finds_place h now next =
    check h (need EMFILE (free_number now.u.files)) (λ fd.
    check h (need ENFILE (free_entry now.files)) (λ entry.
    next fd entry))

-- the reading end, and then the writing one; R0 and R1 take their numbers
abbrev pub with_ends : Handed → ℕ → ℕ → ℕ → ℕ → ℕ → Handed
with_ends h ino fd entry next_fd next_entry =
    record (with_end (with_end h ino reading_end fd entry) ino writing_end next_fd next_entry) { pipes = h.pipes ++ new_pipe ino ∷ [] }

abbrev pub has_opened : Handed → ℕ → ℕ → ℕ → ℕ → ℕ → Did
has_opened h ino fd entry next_fd next_entry =
    record { answer = Ret fd next_fd; state = with_ends h ino fd entry next_fd next_entry; items = []; named = [] }

abbrev pub opens_ends : Handed → ℕ → Did
opens_ends h ino =
    finds_place h h (λ fd entry.
    finds_place h (with_end h ino reading_end fd entry) (λ next_fd next_entry.
    has_opened h ino fd entry next_fd next_entry))

-- 42, pipe: its inode is a plain file without a name on the root's disk, of user 0 and group 0. It goes again where an end
-- can't be opened. The call names the root.
abbrev pub pipe_new : Handed → ℕ → Did
pipe_new h now =
    names 1 (then_named h (new_in h.inodes 0 IALLOC (record { uid = 0; gid = 0 }) now) (λ h ino.
    until_end ino (opens_ends h ino)))

-- what a call shows before the rest
abbrev pub after : List Item → Did → Did
after items did = record did { items = items ++ did.items }

-- The call waits in a pipe, unless a signal is due: what it needs to go on is kept. The mark of who waits is set by then.
abbrev pub waits_in_pipe : Handed → Chan → ℕ → List ℕ → Did
waits_in_pipe h chan pending words = unless_due h (record {
  answer = Sleep (pos 1) chan;
  state = record h { u = record h.u { pending = pending; call = words } };
  items = [];
  named = [];
})

-- the entry, the address and the count as the call gave them, and how many bytes are left
abbrev pub words_of : ℕ → ℕ → ℕ → ℕ → List ℕ
words_of entry at count left = entry ∷ at ∷ count ∷ left ∷ 0 ∷ 0 ∷ 0 ∷ 0 ∷ []

-- The pipe of an entry. How many ends it has still is told by the references to its inode.
abbrev pub pipe_at : Handed → ℕ → Pipe
pipe_at h entry = pipe_of h.pipes (file_of h entry).ino

abbrev pub ends_at : Handed → ℕ → ℕ
ends_at h entry = ends_of h.inodes.references (pipe_at h entry)

-- Whoever waited for a pipe has been woken where its mark is gone: writers by a read, readers by a write.
abbrev pub woken_by_read : Pipe → Pipe → List Item
woken_by_read p now = if p.writer_waits && not now.writer_waits then Log (Wake (Write p.ino)) ∷ [] else []

abbrev pub woken_by_write : Pipe → Pipe → List Item
woken_by_write p now = if p.reader_waits && not now.reader_waits then Log (Wake (Read p.ino)) ∷ [] else []

-- what a read comes to
abbrev pub pipe_read : Handed → ℕ → ℕ → ℕ → ℕ → PipeRead
pipe_read h entry at count now = reads h.inodes.store (ends_at h entry) (pipe_at h entry) h.image at count now

abbrev pub with_pipe_read : Handed → PipeRead → Handed
with_pipe_read h r = record (with_store h r.store) { image = r.image; pipes = with_pipe h.pipes r.pipe }

-- and what it answers. No read is broken.
abbrev pub ends_read : Handed → ℕ → ℕ → ℕ → ℕ → Piped → Did
ends_read h ino entry at count (Done n) = returns h n
ends_read h ino entry at count (Wait left) = waits_in_pipe h (Read ino) PIPE_READ (words_of entry at count 0)
ends_read h ino entry at count Broken = fails h EPIPE
ends_read h ino entry at count (Error e) = fails h e

-- A read of an end of a pipe, from the beginning on or after a sleep: a read that waits has done nothing.
abbrev pub reads_pipe : Handed → ℕ → ℕ → ℕ → ℕ → Did
reads_pipe h entry at count now =
    let r : PipeRead = pipe_read h entry at count now in
    after (woken_by_read (pipe_at h entry) r.pipe)
    (ends_read (with_pipe_read h r) (pipe_at h entry).ino entry at count r.answer)

-- Nobody can read any more: the process has a signal, and the call is refused.
abbrev pub breaks : Handed → ℕ → Did
breaks h slot = record {
  answer = Fail EPIPE;
  state = record h { row = posted h.row SIGPIPE };
  items = Log (Signal slot SIGPIPE) ∷ [];
  named = [];
}

-- what a write comes to, of which so many bytes are left
abbrev pub pipe_write : Handed → ℕ → ℕ → ℕ → ℕ → ℕ → PipeWrite
pipe_write h entry at count left now =
    writes h.inodes.store (ends_at h entry) (pipe_at h entry) h.image ((at + (count - left)) % 65536) left now

abbrev pub with_pipe_write : Handed → PipeWrite → Handed
with_pipe_write h w = record (with_store h w.store) { pipes = with_pipe h.pipes w.pipe }

-- and what it answers, for the process of a slot. R0 takes the whole count, also after a sleep.
abbrev pub ends_write : Handed → ℕ → ℕ → ℕ → ℕ → ℕ → Piped → Did
ends_write h slot ino entry at count (Done n) = returns h count
ends_write h slot ino entry at count (Wait left) = waits_in_pipe h (Write ino) PIPE_WRITE (words_of entry at count left)
ends_write h slot ino entry at count Broken = breaks h slot
ends_write h slot ino entry at count (Error e) = fails h e

-- A write of an end of a pipe, from the beginning on, where all bytes are left, or after a sleep.
abbrev pub writes_pipe : Handed → ℕ → ℕ → ℕ → ℕ → ℕ → ℕ → Did
writes_pipe h slot entry at count left now =
    let w : PipeWrite = pipe_write h entry at count left now in
    after (woken_by_write (pipe_at h entry) w.pipe)
    (ends_write (with_pipe_write h w) slot (pipe_at h entry).ino entry at count w.answer)
