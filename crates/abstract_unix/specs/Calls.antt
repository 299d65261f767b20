-- The system calls that are built: section II of the UNIX Programmer's Manual; Lions' Commentary, `sysent` and `trap`.
use Rattle.std.specs.Prelude.{ℕ, zero, suc, ◌+◌, ◌-◌, ◌*◌, ◌/◌, ◌%◌, ◌==◌, not, ◌&&◌, nat_lt, nat_le, Bool, true, false, if◌then◌else◌, List, [], ◌∷◌, ◌++◌, map, find, Option, Some, None, Result, Ok, Err, slice_index, slice_set}
use Rattle.std.specs.Option.{option_map, unwrap_or}
use Rattle.v6_base.specs.declared.entry.Chan.TheVariants.{Disk}
use Rattle.v6_base.specs.declared.errno.Errno.{Errno}
use Rattle.v6_base.specs.declared.errno.Errno.TheVariants.{ENOSYS}
use Rattle.v6_base.specs.Access.{load_word}
use Rattle.v6_base.specs.Image.{Image}
use Rattle.v6_base.specs.Trace.{Item, Log, sent, line_bytes, entries_of}
use Rattle.v6_base.specs.declared.trace.TheConstants.{LINES}
use Rattle.v6_base.specs.declared.answer.Answer.{Answer}
use Rattle.v6_base.specs.declared.answer.Answer.TheVariants.{Ret, Fail, Sleep}
use Rattle.v6_base.specs.declared.space.Trap.{Trap}
use Rattle.fs_codec.specs.Modes.{is_device}
use Rattle.pick_rules.specs.Effects.{Show, lifted}
use Rattle.pick_rules.specs.Priority.{pribio}
use Rattle.open_files.specs.declared.file.OpenFile.{OpenFile}
use Rattle.open_files.specs.Files.{shared}
use Rattle.u_area.specs.declared.area.UArea.{UArea}
use Rattle.u_area.specs.declared.layout.TheConstants.{DISK_WAIT}
use Rattle.u_area.specs.Pending.{is_on_files}
use Rattle.image_keep.specs.Running.{with_state}
use Rattle.sys_files.specs.Handed.{Handed, r0, node_at, file_of}
use Rattle.sys_files.specs.Did.{Did}
use Rattle.sys_files.specs.Descriptors.{Closing, open_entry, dup_file, close_file, close_all}
use Rattle.sys_files.specs.Making.{creat_file, mknod_at, link_file, unlink_file}
use Rattle.sys_files.specs.Modes.{stty_set, gtty_get}
use Rattle.sys_files.specs.Mounting.{mount_on, umount_off}
use Rattle.sys_files.specs.Moving.{read_file_of, write_file_of, seek_to, resumes}
use Rattle.sys_files.specs.Names.{chdir_to, chmod_to, chown_to, sync_all}
use Rattle.sys_files.specs.Opening.{open_file}
use Rattle.sys_files.specs.Piping.{pipe_new}
use Rattle.sys_files.specs.Status.{stat_file, stat_open}
use Rattle.sys_procs.specs.Process.{Process, register, image_of}
use Rattle.sys_procs.specs.TextTable.{marks_of}
use Rattle.sys_procs.specs.World.{World}
use Rattle.sys_procs.specs.Comes.{Comes}
use Rattle.sys_procs.specs.Frame.{exec_named}
use Rattle.sys_procs.specs.Break.{break_at, grow}
use Rattle.sys_procs.specs.ExecFile.{exec_file}
use Rattle.sys_procs.specs.Ids.{pid_of, set_uid, get_uid, set_gid, get_gid, switches, no_op, nice_to}
use Rattle.sys_procs.specs.Times.{time_now, set_time, times_to, sleep_for}
use Rattle.sys_procs.specs.Fork.{fork_one}
use Rattle.sys_procs.specs.Wait.{wait_child}
use Rattle.sys_procs.specs.Exit.{exit_status, end_proc}
use Rattle.sys_procs.specs.Resume.{awake, resume_proc}
use Rattle.sys_procs.specs.Signals.{kill_to, signal_set}
use Rattle.sig_core.specs.declared.numbers.TheConstants.{SIGSEG, SIGSYS}
use Rattle.abstract_unix.specs.declared.asked.Asked.{Asked}
use Rattle.abstract_unix.specs.declared.calls.FileCall.{FileCall}
use Rattle.abstract_unix.specs.declared.calls.FileCall.TheVariants as file
use Rattle.abstract_unix.specs.declared.calls.ProcessCall.{ProcessCall}
use Rattle.abstract_unix.specs.declared.calls.ProcessCall.TheVariants as process
use Rattle.abstract_unix.specs.declared.calls.SystemCall.{SystemCall}
use Rattle.abstract_unix.specs.declared.calls.SystemCall.TheVariants.{Indirect, Exit, Fork, Unknown, OnFiles, OnProcesses}
use Rattle.abstract_unix.specs.declared.calls.Sysent.{Sysent}
use Rattle.abstract_unix.specs.declared.ending.Ending.TheVariants.{Ended, Trapped, Slept}
use Rattle.mount_tab.specs.Mounted.{MountTable}
use Rattle.abstract_unix.specs.Unix.{Timing, Unix, mounts_of, process_of, with_process}
use Rattle.abstract_unix.specs.References.{references_of}
use Rattle.abstract_unix.specs.Errors.{error_number}
use Rattle.abstract_unix.specs.Steps.{Steps, returns, sleeps, signals, after_effects}

-- the parts of a Unix that a call of a process is handed
abbrev pub handed_of : Unix → Process → Handed
handed_of u p = record {
  inodes = record { store = u.store; references = references_of u };
  mounts = mounts_of u;
  marks = marks_of u.texts;
  files = u.files;
  pipes = u.pipes;
  lines = u.lines;
  u = p.u;
  row = p.row;
  image = image_of u.texts p;
}

-- the Unix with the parts as a call of the process of a slot has left them
abbrev pub with_handed : Unix → ℕ → Handed → Unix
with_handed u slot h = record u {
  store = h.inodes.store;
  covered = h.mounts.covered;
  files = h.files;
  pipes = h.pipes;
  lines = h.lines;
  processes = slice_set u.processes slot
      (Some (record (process_of u slot) { u = h.u; row = h.row; «data» = h.image.data; stack = h.image.stack }));
}

-- the parts of a Unix that a call on processes is handed, and the Unix as it has left them
abbrev pub world_of : Unix → World
world_of u = record {
  processes = u.processes;
  last_pid = u.last_pid;
  clock = u.clock;
  switches = u.switches;
  inodes = record { store = u.store; references = references_of u };
  texts = u.texts;
  limit = u.limit;
}

abbrev pub with_world : Unix → World → Unix
with_world u w = record u {
  processes = w.processes;
  last_pid = w.last_pid;
  clock = w.clock;
  store = w.inodes.store;
  texts = w.texts;
}

-- A word of a process's memory. One that can't be read is all ones.
abbrev pub word_or_ones : Result ℕ Trap → ℕ
word_or_ones (Ok word) = word
word_or_ones (Err trap) = 0o177777

abbrev pub word_at : Image → ℕ → ℕ
word_at image at = word_or_ones (load_word image (at % 65536))

-- the words that a call may take as its arguments, from an address on
abbrev pub arguments_at : Image → ℕ → List ℕ
arguments_at image at = word_at image at ∷ word_at image (at + 2) ∷ word_at image (at + 4) ∷ word_at image (at + 6) ∷ []

-- The call that a word names, which an indirect call leads to. A word that is no call's leads to number 63, which is no
-- call's number.
abbrev pub named_call : ℕ → ℕ
named_call word = if nat_le 0o104400 word && nat_le word 0o104477 then word % 64 else 63

-- What a call asks for, by its number and the PC, which has passed its word: its number and its arguments, and whether they
-- stand after the word of another call. Call 0 is indirect: the word after it is the address of that other call's word.
abbrev pub asked : Image → ℕ → ℕ → Asked
asked image pc number =
    if number == 0
    then record { number = named_call (word_at image (word_at image pc)); args = arguments_at image (word_at image pc + 2); is_indirect = true }
    else record { number = number; args = arguments_at image pc; is_indirect = false }

-- the words that the PC passes, for a call of so many arguments
abbrev pub words_passed : Asked → ℕ → ℕ
words_passed a count = if a.is_indirect then 1 else count

-- a call begins: C is cleared, and the PC passes so many words
abbrev pub entered_area : ℕ → UArea → UArea
entered_area count u = with_state u (slice_set u.r 7 ((slice_index u.r 7 + 2 * count) % 65536)) (u.cc - u.cc % 2)

-- a call is done: R0 and R1 take what it gives
abbrev pub given_area : ℕ → ℕ → UArea → UArea
given_area r0 r1 u = record u { r = slice_set (slice_set u.r 0 r0) 1 r1 }

-- a call is refused: C is set, and R0 takes the number of the error
abbrev pub refused_area : ℕ → UArea → UArea
refused_area number u = with_state u (slice_set u.r 0 number) (u.cc - u.cc % 2 + 1)

abbrev pub with_area : Unix → ℕ → (UArea → UArea) → Unix
with_area u slot rule =
    let p : Process = process_of u slot in with_process u slot (record p { u = rule p.u })

-- A call of the process of a slot is refused. An error of 100 or more makes a signal.
abbrev pub refuses : Unix → ℕ → ℕ → Steps
refuses u slot number =
    if nat_lt number 100 then returns (with_area u slot (refused_area number)) else signals u slot SIGSYS

-- What a call answers.
abbrev pub answers : Unix → ℕ → Answer → Steps
answers u slot (Ret r0 r1) = returns (with_area u slot (given_area r0 r1))
answers u slot (Fail e) = refuses u slot (error_number e)
answers u slot (Sleep pri chan) = sleeps u slot pri chan

-- what a call on files of the process of a slot does, by its row, over what it is handed, its arguments and the time
abbrev pub file_row : FileCall → Handed → ℕ → List ℕ → ℕ → Did
file_row file.Read h slot a now = read_file_of h (slice_index a 0) (slice_index a 1) now
file_row file.Write h slot a now = write_file_of h slot (slice_index a 0) (slice_index a 1) now
file_row file.Open h slot a now = open_file h (slice_index a 0) (slice_index a 1)
file_row file.Close h slot a now = close_file h
file_row file.Creat h slot a now = creat_file h (slice_index a 0) (slice_index a 1) now
file_row file.Link h slot a now = link_file h (slice_index a 0) (slice_index a 1) now
file_row file.Unlink h slot a now = unlink_file h (slice_index a 0) now
file_row file.Chdir h slot a now = chdir_to h (slice_index a 0)
file_row file.Mknod h slot a now = mknod_at h (slice_index a 0) (slice_index a 1) (slice_index a 2) now
file_row file.Chmod h slot a now = chmod_to h (slice_index a 0) (slice_index a 1) now
file_row file.Chown h slot a now = chown_to h (slice_index a 0) (slice_index a 1) now
file_row file.Stat h slot a now = stat_file h (slice_index a 0) (slice_index a 1)
file_row file.Seek h slot a now = seek_to h (slice_index a 0) (slice_index a 1)
file_row file.Mount h slot a now = mount_on h (slice_index a 0) (slice_index a 1)
file_row file.Umount h slot a now = umount_off h (slice_index a 0)
file_row file.Fstat h slot a now = stat_open h (slice_index a 0)
file_row file.Stty h slot a now = stty_set h (slice_index a 0)
file_row file.Gtty h slot a now = gtty_get h (slice_index a 0)
file_row file.Sync h slot a now = sync_all h now
file_row file.Dup h slot a now = dup_file h
file_row file.Pipe h slot a now = pipe_new h now

-- what a call on processes does, by its row, over the mount table, what it is handed, the slot and its arguments
abbrev pub process_row : ProcessCall → MountTable → World → ℕ → List ℕ → Comes
process_row process.Wait mounts w slot a = wait_child w slot
process_row process.Exec mounts w slot a = exec_file mounts w slot (slice_index a 0) (slice_index a 1)
process_row process.Time mounts w slot a = time_now w slot
process_row process.Break mounts w slot a = break_at w slot (slice_index a 0)
process_row process.Getpid mounts w slot a = pid_of w slot
process_row process.Setuid mounts w slot a = set_uid w slot
process_row process.Getuid mounts w slot a = get_uid w slot
process_row process.Stime mounts w slot a = set_time w slot
process_row process.Smdate mounts w slot a = no_op w slot
process_row process.Nice mounts w slot a = nice_to w slot
process_row process.Sleep mounts w slot a = sleep_for w slot
process_row process.Kill mounts w slot a = kill_to w slot (slice_index a 0)
process_row process.Csw mounts w slot a = switches w slot
process_row process.Times mounts w slot a = times_to w slot (slice_index a 0)
process_row process.Setgid mounts w slot a = set_gid w slot
process_row process.Getgid mounts w slot a = get_gid w slot
process_row process.Signal mounts w slot a = signal_set w slot (slice_index a 0) (slice_index a 1)

-- the inode that it names: that of the program which it executes
abbrev pub process_named : ProcessCall → MountTable → World → ℕ → List ℕ → List ℕ
process_named process.Exec mounts w slot a = exec_named mounts w slot (slice_index a 0)
process_named call mounts w slot a = []

-- What a call on files shows goes out when it is done: the bytes of each line, lowest line first, and then the lines of the log.
abbrev pub bytes_from : ℕ → ℕ → List Item → List Item
bytes_from l zero items = []
bytes_from l (suc count) items = sent l (line_bytes l items) ++ bytes_from (suc l) count items

abbrev pub in_order : List Item → List Item
in_order items = bytes_from 0 LINES items ++ map Log (entries_of items)

-- a call on files that has been entered, by its row
abbrev pub did_by : Unix → ℕ → Did → Steps
did_by u slot did = after_effects (map Show (in_order did.items)) (answers (with_handed u slot did.state) slot did.answer)

-- a call on processes that has been entered, by its row
abbrev pub came_by : Unix → ℕ → Comes → Steps
came_by u slot c = after_effects (map (lifted (with_world u)) c.effects) (answers (with_world u c.state) slot c.answer)

-- fork(II): the child has its parent's open files.
abbrev pub shares : List (Option OpenFile) → List ℕ → Answer → List (Option OpenFile)
shares files mine (Ret r0 r1) = shared files mine
shares files mine (Fail e) = files
shares files mine (Sleep pri chan) = files

abbrev pub forks : Unix → ℕ → Steps
forks u slot =
    let c : Comes = fork_one (world_of u) slot in
    let s : Steps = came_by u slot c in
    record s { unix = record s.unix { files = shares u.files (process_of u slot).u.files c.answer } }

-- An instruction wanted an address below the stack. Where the stack grows the instruction is done again, with the registers
-- that it had; else there is a signal.
abbrev pub grows : Unix → Comes → Steps
grows u c = record { effects = map (lifted (with_world u)) c.effects; unix = with_world u c.state; ending = Trapped }

abbrev pub grown_by : Unix → ℕ → Option Comes → Steps
grown_by u slot None = signals u slot SIGSEG
grown_by u slot (Some c) = grows u c

abbrev pub grows_to : Unix → ℕ → ℕ → Steps
grows_to u slot sp = grown_by u slot (grow (world_of u) slot sp)

-- the files of the process of a slot are closed
abbrev pub closes_all : Unix → ℕ → Closing
closes_all u slot = close_all (handed_of u (process_of u slot))

-- and then it ends with a status
abbrev pub exits_with : Unix → ℕ → ℕ → Steps
exits_with u slot status =
    let closed : Closing = closes_all u slot in
    let now : Unix = with_handed u slot closed.state in
    let c : Comes = end_proc (world_of now) slot status in
    record {
      effects = map Show (in_order closed.items) ++ map (lifted (with_world now)) c.effects;
      unix = with_world now c.state;
      ending = Ended;
    }

-- exit(II)
abbrev pub exits : Unix → ℕ → Steps
exits u slot = exits_with u slot (exit_status (process_of u slot))

-- The number of an open file names a plain file or a directory, and no pipe: a pipe's inode is plain too, but its bytes come
-- from a writer.
abbrev pub is_of_disk : Handed → Result ℕ Errno → Bool
is_of_disk h (Ok entry) =
    let file : OpenFile = file_of h entry in not file.kind.pipe && not (is_device (node_at h file.ino).mode)
is_of_disk h (Err e) = false

abbrev pub has_bytes : Answer → Bool
has_bytes (Ret r0 r1) = not (r0 == 0)
has_bytes (Fail e) = false
has_bytes (Sleep pri chan) = false

abbrev pub is_read : FileCall → Bool
is_read file.Read = true
is_read call = false

-- A read has taken bytes from the disk: R0 names the file before the call, and afterwards holds how many there were.
abbrev pub reads_disk : FileCall → Handed → Answer → Bool
reads_disk call h answer = is_read call && has_bytes answer && is_of_disk h (open_entry h (r0 h))

abbrev pub is_exec : ProcessCall → Bool
is_exec process.Exec = true
is_exec call = false

abbrev pub is_done : Answer → Bool
is_done (Ret r0 r1) = true
is_done (Fail e) = false
is_done (Sleep pri chan) = false

-- an exec has loaded its program
abbrev pub loads_program : ProcessCall → Answer → Bool
loads_program call answer = is_exec call && is_done answer

-- The pending call is a wait for the disk, up to the end of the slot of this number: its words keep that where sleep(II) keeps
-- its time.
abbrev pub waiting_area : ℕ → UArea → UArea
waiting_area n u = record u { pending = DISK_WAIT; call = 0 ∷ 0 ∷ 0 ∷ 0 ∷ n / 65536 ∷ n % 65536 ∷ 0 ∷ 0 ∷ [] }

abbrev pub waiting_until : ℕ → Process → Process
waiting_until n p = record p { u = waiting_area n p.u }

-- the slot isn't over in which the call was made, and the transfer takes so many more
abbrev pub disk_end : Timing → ℕ
disk_end t = t.passed + 1 + t.disk

abbrev pub waits_for_disk : Unix → ℕ → Unix
waits_for_disk u slot = with_process u slot (waiting_until (disk_end u.timing) (process_of u slot))

-- Where a transfer takes time, the turn of a call that has read the disk ends with a wait for it: `iowait` in Lions'
-- Commentary, `bio.c`.
abbrev pub takes_time : Bool → ℕ → Steps → Steps
takes_time has_read slot s =
    if has_read && not (s.unix.timing.disk == 0)
    then record s { unix = waits_for_disk s.unix slot; ending = Slept pribio (Disk slot) } else s

-- Whether a call that has been entered ends with a wait for the disk.
abbrev pub waits_in_call : Unix → ℕ → SystemCall → List ℕ → Bool
waits_in_call u slot (OnFiles call) args =
    let h : Handed = handed_of u (process_of u slot) in
    reads_disk call h (file_row call h slot args u.clock.time).answer && not (u.timing.disk == 0)
waits_in_call u slot (OnProcesses call) args =
    loads_program call (process_row call (mounts_of u) (world_of u) slot args).answer && not (u.timing.disk == 0)
waits_in_call u slot call args = false

-- A call that has been entered. An indirect call that leads to another does nothing.
abbrev pub does_call : Unix → ℕ → SystemCall → List ℕ → Steps
does_call u slot Indirect args = returns u
does_call u slot Exit args = exits u slot
does_call u slot Fork args = forks u slot
does_call u slot Unknown args = refuses u slot (error_number ENOSYS)
does_call u slot (OnFiles call) args =
    let h : Handed = handed_of u (process_of u slot) in
    let did : Did = file_row call h slot args u.clock.time in
    takes_time (reads_disk call h did.answer) slot (did_by u slot did)
does_call u slot (OnProcesses call) args =
    let c : Comes = process_row call (mounts_of u) (world_of u) slot args in
    takes_time (loads_program call c.answer) slot (came_by u slot c)

-- A line of the table of calls: a number; how many arguments follow the word of its call, and which call it is. What has no
-- line is no call, and takes no arguments.
pub record Line : Type 0 where
  pub number : ℕ
  pub entry : Sysent

abbrev pub call : ℕ → ℕ → SystemCall → Line
call number count which = record { number = number; entry = record { count = count; call = which } }

abbrev pub system_calls : List Line
system_calls =
    call 0 0 Indirect
    ∷ call 1 0 Exit
    ∷ call 2 0 Fork
    ∷ call 3 2 (OnFiles file.Read)
    ∷ call 4 2 (OnFiles file.Write)
    ∷ call 5 2 (OnFiles file.Open)
    ∷ call 6 0 (OnFiles file.Close)
    ∷ call 7 0 (OnProcesses process.Wait)
    ∷ call 8 2 (OnFiles file.Creat)
    ∷ call 9 2 (OnFiles file.Link)
    ∷ call 10 1 (OnFiles file.Unlink)
    ∷ call 11 2 (OnProcesses process.Exec)
    ∷ call 12 1 (OnFiles file.Chdir)
    ∷ call 13 0 (OnProcesses process.Time)
    ∷ call 14 3 (OnFiles file.Mknod)
    ∷ call 15 2 (OnFiles file.Chmod)
    ∷ call 16 2 (OnFiles file.Chown)
    ∷ call 17 1 (OnProcesses process.Break)
    ∷ call 18 2 (OnFiles file.Stat)
    ∷ call 19 2 (OnFiles file.Seek)
    ∷ call 20 0 (OnProcesses process.Getpid)
    ∷ call 21 3 (OnFiles file.Mount)
    ∷ call 22 1 (OnFiles file.Umount)
    ∷ call 23 0 (OnProcesses process.Setuid)
    ∷ call 24 0 (OnProcesses process.Getuid)
    ∷ call 25 0 (OnProcesses process.Stime)
    ∷ call 26 3 Unknown
    ∷ call 28 1 (OnFiles file.Fstat)
    ∷ call 30 1 (OnProcesses process.Smdate)
    ∷ call 31 1 (OnFiles file.Stty)
    ∷ call 32 1 (OnFiles file.Gtty)
    ∷ call 34 0 (OnProcesses process.Nice)
    ∷ call 35 0 (OnProcesses process.Sleep)
    ∷ call 36 0 (OnFiles file.Sync)
    ∷ call 37 1 (OnProcesses process.Kill)
    ∷ call 38 0 (OnProcesses process.Csw)
    ∷ call 41 0 (OnFiles file.Dup)
    ∷ call 42 0 (OnFiles file.Pipe)
    ∷ call 43 1 (OnProcesses process.Times)
    ∷ call 44 4 Unknown
    ∷ call 46 0 (OnProcesses process.Setgid)
    ∷ call 47 0 (OnProcesses process.Getgid)
    ∷ call 48 2 (OnProcesses process.Signal)
    ∷ []

abbrev pub no_call : Sysent
no_call = record { count = 0; call = Unknown }

unfoldable pub sysent_of : ℕ → Sysent
sysent_of number =
    unwrap_or (option_map (λ (l : Line). l.entry) (find (λ (l : Line). l.number == number) system_calls)) no_call

-- a call that is asked for, by its entry: the PC passes its words
abbrev pub does_asked : Unix → ℕ → Asked → Sysent → Steps
does_asked u slot a entry =
    does_call (with_area u slot (entered_area (words_passed a entry.count))) slot entry.call a.args

-- a call by its number, where the PC has passed its word
abbrev pub system_call : ℕ → Unix → ℕ → Steps
system_call number u slot =
    let p : Process = process_of u slot in
    let a : Asked = asked (image_of u.texts p) (register p 7) number in
    does_asked u slot a (sysent_of a.number)

-- A process that slept in a call goes on with it. One that waited for the disk has done its call.
abbrev pub resumed : Unix → ℕ → Steps
resumed u slot =
    if (process_of u slot).u.pending == DISK_WAIT then returns (with_process u slot (awake (process_of u slot))) else (
    if is_on_files (process_of u slot).u.pending then did_by u slot (resumes (handed_of u (process_of u slot)) slot u.clock.time)
    else came_by u slot (resume_proc (world_of u) slot))
