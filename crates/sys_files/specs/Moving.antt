-- Bytes are read and written: read(II), write(II), seek(II); Lions' Commentary, `rdwr` and `seek` in `sys2.c`.
use Rattle.std.specs.Prelude.{◌≡◌, ◌<◌, pos, ℕ, Bool, not, ◌+◌, ◌-◌, ◌*◌, ◌%◌, ◌^◌, ◌==◌, ◌||◌, nat_le, nat_lt, if◌then◌else◌, List, [], ◌∷◌, length, min, take, replicate, slice_index, Option, Some, None, unwrap_or}
use Rattle.v6_base.specs.Image.{Image}
use Rattle.v6_base.specs.Trace.{sent}
use Rattle.v6_base.specs.declared.answer.Answer.TheVariants.{Sleep}
use Rattle.v6_base.specs.declared.errno.Errno.{Errno}
use Rattle.v6_base.specs.declared.errno.Errno.TheVariants.{EBADF, EFAULT, ESPIPE}
use Rattle.fs_codec.specs.Modes.{is_device}
use Rattle.fs_codec.specs.Store.{Node}
use Rattle.u_area.specs.declared.layout.TheConstants.{NOTHING_PENDING, LINE_READ, LINE_WRITE, PIPE_READ}
use Rattle.fs_laws.specs.Pieces.{Moving, read_file, write_file}
use Rattle.fs_nodes.specs.Keys.{room_at, with_node}
use Rattle.fs_nodes.specs.Copy.{put_into, get_from}
use Rattle.fs_tree.specs.Name.{readable}
use Rattle.open_files.specs.declared.file.OpenFile.{OpenFile}
use Rattle.open_files.specs.Files.{file_at, with_change, with_offset}
use Rattle.tty_line.specs.declared.line.Took.{Took}
use Rattle.tty_line.specs.declared.line.Took.TheVariants.{Done, Wait, Fault}
use Rattle.tty_line.specs.Terminal.{Terminal}
use Rattle.tty_line.specs.Output.{shows, after_shown, written}
use Rattle.lines_eight.specs.Told.{keys_of, show_of}
use Rattle.tty_line.specs.Reading.{Reading, reads}
use Rattle.sys_files.specs.declared.files.Files.{Files}
use Rattle.sys_files.specs.Handed.{Handed, r0, node_at, file_of, line_of, line_at, with_line, with_store}
use Rattle.sys_files.specs.Did.{Did, fails, returns, is_done, check, must, unless_due}
use Rattle.sys_files.specs.Descriptors.{open_entry}
use Rattle.sys_files.specs.Piping.{reads_pipe, writes_pipe}

-- An entry is in use: this is its file, whose inode is referred to.
pub record IsFileOf (f : Files) (entry : ℕ) (file : OpenFile) : Type 0 where
  pub is : file_at f.table entry ≡ Some file
  pub referred : 0 < slice_index f.tree.nodes.references file.ino

-- what a read or a write of an open file has come to: its inode, and where the next one begins
abbrev pub with_moved : {Memory : Type 0} → Handed → ℕ → Moving Memory → Handed
with_moved h entry m =
    let file : OpenFile = file_of h entry in
    record (with_store h (with_node h.inodes.store file.ino m.node m.room)) {
      files = with_change h.files entry (with_offset ((file.offset + m.done) % 2 ^ 32));
    }

-- R0 takes the number of bytes, unless an error has ended it
abbrev pub gives_count : Handed → ℕ → Option Errno → Did
gives_count h count None = returns h count
gives_count h count (Some e) = fails h e

-- The call waits for keys of a line, at the priority of terminal input, unless a signal is due: its entry, address and count are
-- kept.
abbrev pub waits_for_keys : Handed → ℕ → ℕ → ℕ → ℕ → Did
waits_for_keys h l entry at count = unless_due h (record {
  answer = Sleep (pos 10) (keys_of l);
  state = record h { u = record h.u { pending = LINE_READ; call = entry ∷ at ∷ count ∷ 0 ∷ 0 ∷ 0 ∷ 0 ∷ 0 ∷ [] } };
  items = [];
  named = [];
})

-- The call waits for room on a line, at the priority of terminal output, unless a signal is due: how many bytes are done is kept too.
abbrev pub waits_for_room : Handed → ℕ → ℕ → ℕ → ℕ → ℕ → Did
waits_for_room h l entry at count done = unless_due h (record {
  answer = Sleep (pos 20) (show_of l);
  state = record h { u = record h.u { pending = LINE_WRITE; call = entry ∷ at ∷ count ∷ done ∷ 0 ∷ 0 ∷ 0 ∷ 0 ∷ [] } };
  items = [];
  named = [];
})

-- what a read of an entry comes to, and what the parts are then
abbrev pub read_of : Handed → ℕ → ℕ → ℕ → ℕ → Moving Image
read_of h entry at count now =
    let file : OpenFile = file_of h entry in
    read_file (put_into at) (node_at h file.ino) (room_at h.inodes.store file.ino) h.image file.offset count now

abbrev pub with_read : Handed → ℕ → Moving Image → Handed
with_read h entry m = record (with_moved h entry m) { image = m.memory }

-- What a read of a line comes to: bytes of what was typed, or the process waits until there are some.
abbrev pub line_read : Handed → ℕ → ℕ → ℕ → Reading
line_read h l at count = reads (line_at h l) h.image at count

abbrev pub with_line_read : Handed → ℕ → Reading → Handed
with_line_read h l reading = record (with_line h l reading.terminal) { image = reading.image }

abbrev pub takes_line : Handed → ℕ → ℕ → ℕ → ℕ → Took → Did
takes_line h l entry at count (Done n) = returns h n
takes_line h l entry at count Wait = waits_for_keys h l entry at count
takes_line h l entry at count Fault = fails h EFAULT

abbrev pub reads_line : Handed → ℕ → ℕ → ℕ → ℕ → Did
reads_line h l entry at count =
    let reading : Reading = line_read h l at count in
    takes_line (with_line_read h l reading) l entry at count reading.took

-- A read of a line also sets the time of its inode. The null device has no bytes.
abbrev pub reads_by : Handed → Option ℕ → ℕ → ℕ → ℕ → Moving Image → Did
reads_by h None entry at count m = gives_count h m.done m.error
reads_by h (Some l) entry at count m = reads_line h l entry at count

abbrev pub reads_from : Handed → ℕ → ℕ → ℕ → ℕ → Did
reads_from h entry at count now =
    let m : Moving Image = read_of h entry at count now in
    reads_by (with_read h entry m) (line_of h (node_at h (file_of h entry).ino)) entry at count m

-- 3, read: of the number in R0, of a buffer's address and a number of bytes. R0 takes the number of bytes read.
abbrev pub read_file_of : Handed → ℕ → ℕ → ℕ → Did
read_file_of h at count now =
    check h (open_entry h (r0 h)) (λ entry.
    check h (must EBADF (file_of h entry).kind.reading) (λ may.
    if (file_of h entry).kind.pipe then reads_pipe h entry at count now else reads_from h entry at count now))

-- A process that goes on with a call has none pending. It may have to wait again.
abbrev pub without_pending : Handed → Handed
without_pending h = record h { u = record h.u { pending = NOTHING_PENDING; call = replicate 8 0 } }

-- the line of a call that is gone on with, by the entry that was kept
abbrev pub line_kept : Handed → ℕ → ℕ
line_kept h entry = unwrap_or (line_of h (node_at h (file_of h entry).ino)) 0

-- What is written to a line is shown byte by byte, from the first that isn't done yet up to the first that cannot be read. Before a
-- byte that can be read there may be no room: then the process waits with it.
abbrev pub writes_line : Handed → ℕ → ℕ → ℕ → ℕ → ℕ → Did
writes_line h l entry at count done =
    let t : Terminal = line_at h l in
    let bytes : List ℕ = readable h.image ((at + done) % 65536) (count - done) in
    let n : ℕ = written t bytes in
    let after : Handed = with_line h l (after_shown t (take n bytes)) in
    record (if nat_lt n (length bytes) then waits_for_room after l entry at count (done + n)
    else (if done + n == count then returns after count else fails after EFAULT)) {
      items = sent l (shows t (take n bytes));
    }

-- what a write of an entry comes to
abbrev pub write_of : Handed → ℕ → ℕ → ℕ → ℕ → Moving (Unit {0})
write_of h entry at count now =
    let file : OpenFile = file_of h entry in
    write_file (get_from h.image at) (node_at h file.ino) (room_at h.inodes.store file.ino) tt file.offset count now

-- The null device takes all.
abbrev pub writes_by : Handed → Option ℕ → Bool → ℕ → ℕ → ℕ → Moving (Unit {0}) → Did
writes_by h None device entry at count m = gives_count h (if device then count else m.done) m.error
writes_by h (Some l) device entry at count m = writes_line h l entry at count 0

abbrev pub writes_to : Handed → ℕ → ℕ → ℕ → ℕ → Did
writes_to h entry at count now =
    let node : Node = node_at h (file_of h entry).ino in
    let m : Moving (Unit {0}) = write_of h entry at count now in
    writes_by (with_moved h entry m) (line_of h node) (is_device node.mode) entry at count m

-- 4, write: of the number in R0, of a buffer's address and a number of bytes. R0 takes the number of bytes written. A process that
-- writes to a pipe which nobody reads has a signal, by its slot.
abbrev pub write_file_of : Handed → ℕ → ℕ → ℕ → ℕ → Did
write_file_of h slot at count now =
    check h (open_entry h (r0 h)) (λ entry.
    check h (must EBADF (file_of h entry).kind.writing) (λ may.
    if (file_of h entry).kind.pipe then writes_pipe h slot entry at count count now else writes_to h entry at count now))

-- A process goes on with the call in which it slept, unless a signal is due: with a read or a write of a line, the write at the byte
-- where it stood, or with a read or a write of a pipe.
abbrev pub goes_on_line : Handed → ℕ → List ℕ → Did
goes_on_line h pending call =
    let l = line_kept h (slice_index call 0) in
    if pending == LINE_READ then reads_line h l (slice_index call 0) (slice_index call 1) (slice_index call 2)
    else writes_line h l (slice_index call 0) (slice_index call 1) (slice_index call 2) (slice_index call 3)

abbrev pub goes_on_pipe : Handed → ℕ → ℕ → List ℕ → ℕ → Did
goes_on_pipe h slot pending call now =
    if pending == PIPE_READ then reads_pipe h (slice_index call 0) (slice_index call 1) (slice_index call 2) now
    else writes_pipe h slot (slice_index call 0) (slice_index call 1) (slice_index call 2) (slice_index call 3) now

abbrev pub goes_on : Handed → ℕ → ℕ → Did
goes_on h slot now =
    let rest : Handed = without_pending h in
    let pending = h.u.pending in
    if (pending == LINE_READ) || (pending == LINE_WRITE) then goes_on_line rest pending h.u.call
    else goes_on_pipe rest slot pending h.u.call now

abbrev pub resumes : Handed → ℕ → ℕ → Did
resumes h slot now = unless_due (without_pending h) (goes_on h slot now)

-- a word with its sign, modulo 2^32
abbrev pub extended : ℕ → ℕ
extended word = if nat_le 0o100000 word then word + 2 ^ 32 - 65536 else word

-- The modes of seek: from the beginning, from the place, from the end; from 3 on the same in blocks. A mode above 5
-- counts as 5, and a negative one as 2.
abbrev pub seek_mode : ℕ → ℕ
seek_mode mode = if nat_le 0o100000 mode then 2 else min mode 5

abbrev pub seek_base : OpenFile → Node → ℕ → ℕ
seek_base file node mode = if mode % 3 == 0 then 0 else (if mode % 3 == 1 then file.offset else node.size)

abbrev pub seek_move : ℕ → ℕ → ℕ
seek_move offset mode = (if mode % 3 == 0 then offset else extended offset) * (if nat_le 3 mode then 512 else 1)

abbrev pub sought : OpenFile → Node → ℕ → ℕ → ℕ
sought file node offset mode = (seek_base file node mode + seek_move offset mode) % 2 ^ 32

-- 19, seek: of the number in R0, of an offset and a mode
abbrev pub seek_to : Handed → ℕ → ℕ → Did
seek_to h offset mode =
    check h (open_entry h (r0 h)) (λ entry.
    let file : OpenFile = file_of h entry in
    check h (must ESPIPE (not file.kind.pipe)) (λ may.
    is_done (record h {
      files = with_change h.files entry (with_offset (sought file (node_at h file.ino) offset (seek_mode mode)));
    })))
