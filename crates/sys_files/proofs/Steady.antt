-- What a call on files leaves as it is: who its process is, its registers, times and handlers, and the sizes of its image.
-- `user.h` and `proc.h` in Lions' Commentary.
use Rattle.std.proofs.Common.{◌≡◌, ◌+◌, ◌*◌, ◌≤◌, ◌==◌, ◌++◌, ◌&&◌, ℕ, suc, Bool, true, false, not, cond, List, [], ◌∷◌, length, map, replicate, fold, slice_index, refl, sym, subst, ◌∙◌, inl, arith, slice_set, Option, Some, None}
use Rattle.std.specs.List.{All, range_with_len}
use Rattle.std.proofs.lemmas.Bool.{eqb-false}
use Rattle.std.proofs.lemmas.List.Elements.{All-nil, All-cons, All-set}
use Rattle.std.proofs.lemmas.List.FromFn.{length-range_with_len}
use Rattle.v6_base.specs.Trace.{Log, sent}
use Rattle.v6_base.specs.declared.entry.Chan.{Chan}
use Rattle.sig_core.specs.declared.numbers.TheConstants.{SIGPIPE, SIGKIL}
use Rattle.sig_core.specs.Signals.{is_signal, posted}
use Rattle.v6_base.specs.declared.entry.Chan.TheVariants.{Read, Write}
use Rattle.v6_base.specs.declared.entry.Entry.TheVariants.{Wake}
use Rattle.v6_base.proofs.Copies.{SameLengths, then_lengths, same_lengths}
use Rattle.proc_tab.specs.declared.row.Row.{Row}
use Rattle.u_area.specs.declared.layout.TheConstants.{LINE_READ, LINE_WRITE, NOTHING_PENDING}
use Rattle.u_area.specs.declared.area.UArea.{UArea}
use Rattle.open_files.specs.declared.file.Closed.{Closed}
use Rattle.open_files.specs.declared.file.Closed.TheVariants.{Still, Last}
use Rattle.sys_files.specs.Handed.{Handed, line_of, line_at, node_at}
use Rattle.sys_files.specs.Did.{Did}
use Rattle.sys_files.specs.Descriptors.{without_marks, with_roused, pipe_roused, is_gone_with, with_gone, is_line_open, Closing, closes_line, released, told_by, dropped, closes, then_closes, close_all}
use Rattle.sys_files.specs.Moving.{resumes}
use Rattle.sys_files.specs.Piping.{words_of}
use Rattle.sys_files.specs.Pipes.{pipe_of, with_pipe, without_pipe}
use Rattle.lines_eight.specs.Lines.{HasRoom}
use Rattle.lines_eight.specs.Told.{keys_of, show_of, wakes_if}
use Rattle.lines_eight.proofs.LinesLemmas.{room_any}
use Rattle.sys_files.proofs.Bounds.{IsOfFiles, IsOfCall, keys_of_files, show_of_files, AreFew, Fits, most_entries, most_bytes, few_none, few_up_to, few_then, few_sent, few_lines, few_told, fits_none, fits_lines, fits_shown}
use Rattle.sys_files.proofs.ReleasedLemmas.{shut}
use Rattle.sys_files.proofs.Walks.{Walks, CanResume, owns_all, walk_closes, walk_resume}
use Rattle.open_files.specs.declared.file.OpenFile.{OpenFile}
use Rattle.open_files.specs.Files.{entry_of}
use Rattle.tty_line.specs.Said as said

-- What stays of a row of the table of processes. A process gets a terminal with the first one that it opens, and a signal where
-- it writes to a pipe that nobody reads.
pub record SameRow (old new : Row) : Type 0 where
  pub pid : new.pid ≡ old.pid
  pub ppid : new.ppid ≡ old.ppid
  pub uid : new.uid ≡ old.uid

-- What stays of a per-process area: all but its open files, its directory and the call that goes on.
pub record SameArea (old new : UArea) : Type 0 where
  pub r : new.r ≡ old.r
  pub cc : new.cc ≡ old.cc
  pub uid : new.uid ≡ old.uid
  pub gid : new.gid ≡ old.gid
  pub ruid : new.ruid ≡ old.ruid
  pub rgid : new.rgid ≡ old.rgid
  pub text_size : new.text_size ≡ old.text_size
  pub data_size : new.data_size ≡ old.data_size
  pub stack_size : new.stack_size ≡ old.stack_size
  pub user_time : new.user_time ≡ old.user_time
  pub system_time : new.system_time ≡ old.system_time
  pub child_user : new.child_user ≡ old.child_user
  pub child_system : new.child_system ≡ old.child_system
  pub status : new.status ≡ old.status
  pub handlers : new.handlers ≡ old.handlers

-- What stays of the parts that a call is handed; and no more bytes wait on a line than there is room for.
pub record Steady (old new : Handed) : Type 0 where
  pub row : SameRow old.row new.row
  pub area : SameArea old.u new.u
  pub image : SameLengths old.image new.image
  pub marks : ◌≡◌ {A = List Bool} new.marks old.marks
  pub room : All HasRoom new.lines

-- A call that shows little, and leaves as it is what has to stay.
pub record Confined (slot : ℕ) (old : Handed) (did : Did) : Type 0 where
  pub fits : Fits slot did.items
  pub steady : Steady old did.state

-- All stays where nothing has changed.
same_row : (row : Row) → SameRow row row
same_row row = record { pid = refl; ppid = refl; uid = refl }

same_area : (u : UArea) → SameArea u u
same_area u = record {
  r = refl;
  cc = refl;
  uid = refl;
  gid = refl;
  ruid = refl;
  rgid = refl;
  text_size = refl;
  data_size = refl;
  stack_size = refl;
  user_time = refl;
  system_time = refl;
  child_user = refl;
  child_system = refl;
  status = refl;
  handlers = refl;
}

pub steady_same : (h : Handed) → All HasRoom h.lines → Steady h h
steady_same h room = record { row = same_row h.row; area = same_area h.u; image = same_lengths h.image; marks = refl; room = room }

-- The open files, the directory and the call that goes on are others.
area_changed : (old u : UArea) (files : List ℕ) (dir pending : ℕ) (call : List ℕ) → SameArea old u
    → SameArea old (record u { files = files; dir = dir; pending = pending; call = call })
area_changed old u files dir pending call s = record {
  r = s.r;
  cc = s.cc;
  uid = s.uid;
  gid = s.gid;
  ruid = s.ruid;
  rgid = s.rgid;
  text_size = s.text_size;
  data_size = s.data_size;
  stack_size = s.stack_size;
  user_time = s.user_time;
  system_time = s.system_time;
  child_user = s.child_user;
  child_system = s.child_system;
  status = s.status;
  handlers = s.handlers;
}

-- And with another call that goes on.
steady_pending : (old h : Handed) (pending : ℕ) (call : List ℕ) → Steady old h
    → Steady old (record h { u = record h.u { pending = pending; call = call } })
steady_pending old h pending call s = record {
  row = s.row;
  area = area_changed old.u h.u h.u.files h.u.dir pending call s.area;
  image = s.image;
  marks = s.marks;
  room = s.room;
}

-- And with other open files and another directory.
steady_moved : (old h : Handed) (files : List (Option OpenFile)) (numbers : List ℕ) (dir : ℕ) → Steady old h
    → Steady old (record h { files = files; u = record h.u { files = numbers; dir = dir } })
steady_moved old h files numbers dir s = record {
  row = s.row;
  area = area_changed old.u h.u numbers dir h.u.pending h.u.call s.area;
  image = s.image;
  marks = s.marks;
  room = s.room;
}

-- Another signal waits of a process.
signal_stays : (old row : Row) → SameRow old row → SameRow old (posted row SIGPIPE)
signal_stays old row s = by (is_signal SIGPIPE && not (row.sig == SIGKIL))
  where
    by : (b : Bool) → SameRow old (cond b (record row { sig = SIGPIPE }) row)
    by true = record { pid = s.pid; ppid = s.ppid; uid = s.uid }
    by false = s

-- Each row of a call on files is confined, and a write is while its number of bytes is a word.
pub confined_walks : (old : Handed) (slot : ℕ)
    → Walks (Steady old) (Confined slot old) (λ count. count ≤ 65535) (λ ino. Unit {0}) (λ line. Unit {0}) (λ key. Unit {0}) (Unit {0}) (Unit {0}) slot
confined_walks old slot = record {
  refused = λ h e s. record { fits = fits_none slot; steady = s };
  done = λ h a b s. record { fits = fits_none slot; steady = s };
  lets_go = λ ino d when. let c = when tt in record {
    fits = c.fits;
    steady = record { row = c.steady.row; area = c.steady.area; image = c.steady.image; marks = c.steady.marks; room = c.steady.room };
  };
  named = λ ino d when. let c = when tt in record { fits = c.fits; steady = c.steady };
  waits = λ h l entry at count calling line s. record {
    fits = fits_none slot;
    steady = steady_pending old h LINE_READ (entry ∷ at ∷ count ∷ 0 ∷ 0 ∷ 0 ∷ 0 ∷ 0 ∷ []) s;
  };
  waits_for_room = λ h l entry at count done calling line s. record {
    fits = fits_none slot;
    steady = steady_pending old h LINE_WRITE (entry ∷ at ∷ count ∷ done ∷ 0 ∷ 0 ∷ 0 ∷ 0 ∷ []) s;
  };
  waits_in_pipe = λ h chan pending entry at count left which of awaits s. record {
    fits = fits_none slot;
    steady = steady_pending old h pending (words_of entry at count left) s;
  };
  tells = λ entries d few all quiet c. record { fits = fits_lines slot entries (omega (arith, few)) all; steady = c.steady };
  lets_out = λ h l front back d few first second s quiet c. record {
    fits = few_up_to slot 4 1008 most_entries most_bytes (map Log front ++ (sent l (line_at h l).output ++ map Log back)) (omega arith) (omega arith)
        (few_told slot l front back (line_at h l).output few (room_any h.lines l s.room) first second);
    steady = c.steady;
  };
  showing = λ l line bytes count d long few c. record { fits = fits_shown slot l line bytes (omega (arith, long, few)); steady = c.steady };
  inodes = λ h inodes same touches s. record { row = s.row; area = s.area; image = s.image; marks = s.marks; room = s.room };
  made = λ h dir mode user now here s. record { row = s.row; area = s.area; image = s.image; marks = s.marks; room = s.room };
  opened = λ h ino kind fd entry plain number free here moves s. steady_moved old h _ (slice_set h.u.files fd (entry + 1)) h.u.dir s;
  ends = λ h ino fd entry next_fd next_entry above within number free next_number next_free here moves s. record {
    row = s.row;
    area = area_changed old.u h.u (slice_set (slice_set h.u.files fd (entry + 1)) next_fd (next_entry + 1)) h.u.dir
        h.u.pending h.u.call s.area;
    image = s.image;
    marks = s.marks;
    room = s.room;
  };
  given = λ h fd free named number moves s.
      steady_moved old h _ (slice_set h.u.files free (entry_of h.u.files fd + 1)) h.u.dir s;
  offset = λ h entry offset s. record { row = s.row; area = s.area; image = s.image; marks = s.marks; room = s.room };
  dropped = λ h fd named moves s. steady_moved old h _ (slice_set h.u.files fd 0) h.u.dir s;
  marked = λ h pipe s. record { row = s.row; area = s.area; image = s.image; marks = s.marks; room = s.room };
  gone = λ h ino none s. record { row = s.row; area = s.area; image = s.image; marks = s.marks; room = s.room };
  known = λ h entry is s. (tt, tt);
  numbered = λ h l other there s. tt;
  typewriter = λ h l t kept s. record {
    row = s.row;
    area = s.area;
    image = s.image;
    marks = s.marks;
    room = All-set HasRoom h.lines l t (kept (room_any h.lines l s.room)) s.room;
  };
  covered = λ h covered s. record { row = s.row; area = s.area; image = s.image; marks = s.marks; room = s.room };
  enters = λ h dir here moves s. steady_moved old h h.files h.u.files dir s;
  terminal = λ h tty s. record {
    row = record { pid = s.row.pid; ppid = s.row.ppid; uid = s.row.uid };
    area = s.area;
    image = s.image;
    marks = s.marks;
    room = s.room;
  };
  signalled = λ h s. record { row = signal_stays old.row h.row s.row; area = s.area; image = s.image; marks = s.marks; room = s.room };
  stored = λ h m same s. record {
    row = s.row;
    area = s.area;
    image = then_lengths old.image h.image m m s.image same refl;
    marks = s.marks;
    room = s.room;
  };
}

-- A call goes on in which a process slept.
pub resume_confined : (h : Handed) (slot now : ℕ) → All HasRoom h.lines → CanResume (λ count. count ≤ 65535) h → Confined slot h (resumes h slot now)
resume_confined h slot now room can =
    walk_resume (confined_walks h slot) h now can (owns_all h) (steady_pending h h NOTHING_PENDING (replicate 8 0) (steady_same h room))

-- A number lets its file go: four times at most is somebody woken, who waits for a pipe or for a line, and what waits on a line goes out.
roused_few : (slot ino : ℕ) (pipe : Bool) → AreFew slot 2 0 (cond pipe (Log (Wake (Write ino)) ∷ Log (Wake (Read ino)) ∷ []) [])
roused_few slot ino true =
    few_lines slot (Wake (Write ino) ∷ Wake (Read ino) ∷ [])
    (All-cons (IsOfCall slot) (Wake (Write ino)) (Wake (Read ino) ∷ []) (inl (Write ino, refl, tt))
    (All-cons (IsOfCall slot) (Wake (Read ino)) [] (inl (Read ino, refl, tt)) (All-nil (IsOfCall slot))))
roused_few slot ino false = few_up_to slot 0 0 2 0 [] (omega arith) (omega arith) (few_none slot)

woken_few : (slot : ℕ) (chan : Chan) (b : Bool) → IsOfFiles (λ ino. Unit {0}) (λ line. Unit {0}) chan → AreFew slot 1 0 (wakes_if b chan)
woken_few slot chan true of =
    few_lines slot (Wake chan ∷ []) (All-cons (IsOfCall slot) (Wake chan) [] (inl (chan, refl, of)) (All-nil (IsOfCall slot)))
woken_few slot chan false of = few_up_to slot 0 0 1 0 [] (omega arith) (omega arith) (few_none slot)

line_few : (slot : ℕ) (h : Handed) (line : Option ℕ) → All HasRoom h.lines → AreFew slot 2 1008 (closes_line h line).items
line_few slot h None room = few_up_to slot 0 0 2 1008 [] (omega arith) (omega arith) (few_none slot)
line_few slot h (Some l) room = by (is_line_open h l)
  where
    out : List ℕ
    out = (line_at h l).output

    by : (used : Bool) → AreFew slot 2 1008 (cond {A = Closing} used (record { state = h; items = [] }) (shut h l)).items
    by true = few_up_to slot 0 0 2 1008 [] (omega arith) (omega arith) (few_none slot)
    by false =
        let few = room_any h.lines l room in
        few_up_to slot (0 + (1 + 1)) (length out + (0 + 0)) 2 1008 (shut h l).items (omega arith) (omega (arith, few))
        (few_then slot 0 (length out) (1 + 1) (0 + 0) (sent l out) _ (few_sent slot l out)
        (few_then slot 1 0 1 0 (wakes_if true (keys_of l)) (wakes_if (said.closed (line_at h l)).show (show_of l))
        (woken_few slot (keys_of l) true (keys_of_files (λ ino. Unit {0}) (λ line. Unit {0}) l (λ other. tt)))
        (woken_few slot (show_of l) (said.closed (line_at h l)).show (show_of_files (λ ino. Unit {0}) (λ line. Unit {0}) l (λ other. tt)))))

rest_lines : (h : Handed) (file : OpenFile) → (with_gone (with_roused h file) file).lines ≡ h.lines
rest_lines h file = gone (is_gone_with (with_roused h file) file) ∙ roused file.kind.pipe
  where
    k : Handed
    k = with_roused h file

    gone : (b : Bool) → (cond {A = Handed} b (record k { pipes = without_pipe k.pipes file.ino }) k).lines ≡ k.lines
    gone true = refl
    gone false = refl

    roused : (b : Bool) → (cond {A = Handed} b (record h { pipes = with_pipe h.pipes (without_marks (pipe_of h.pipes file.ino)) }) h).lines ≡ h.lines
    roused true = refl
    roused false = refl

released_few : (slot : ℕ) (h : Handed) (told : Closed) → All HasRoom h.lines → AreFew slot 4 1008 (released h told).items
released_few slot h (Still file) room =
    few_up_to slot 2 0 4 1008 (pipe_roused file) (omega arith) (omega arith) (roused_few slot file.ino file.kind.pipe)
released_few slot h (Last file) room =
    let rest : Handed = with_gone (with_roused h file) file in
    few_up_to slot (2 + 2) (0 + 1008) 4 1008 _ (omega arith) (omega arith)
    (few_then slot 2 0 2 1008 (pipe_roused file) (closes_line rest (line_of rest (node_at rest file.ino))).items
    (roused_few slot file.ino file.kind.pipe)
    (line_few slot rest (line_of rest (node_at rest file.ino)) (subst (All HasRoom) (sym (rest_lines h file)) room)))

-- The numbers of a process let their files go, one after another: each shows so little.
record Shut (slot : ℕ) (h : Handed) (n : ℕ) (c : Closing) : Type 0 where
  steady : Steady h c.state
  few : AreFew slot (4 * n) (1008 * n) c.items

more_shut : (slot : ℕ) (h : Handed) (n : ℕ) (c : Closing) (fd : ℕ) → Shut slot h n c → Shut slot h (suc n) (then_closes c fd)
more_shut slot h n c fd shut = by (slice_index c.state.u.files fd == 0) refl
  where
    by : (none : Bool) → (slice_index c.state.u.files fd == 0) ≡ none → Shut slot h (suc n) (cond {A = Closing} none c
        (record { state = (closes c.state fd).state; items = c.items ++ (closes c.state fd).items }))
    by true is = record {
      steady = shut.steady;
      few = few_up_to slot (4 * n) (1008 * n) (4 * suc n) (1008 * suc n) c.items (omega arith) (omega arith) shut.few;
    }
    by false is =
        let some = eqb-false (slice_index c.state.u.files fd) 0 is in
        record {
          steady = (walk_closes (confined_walks h slot) c.state fd 0 0 (omega (arith, some)) tt tt shut.steady).steady;
          few = few_up_to slot (4 * n + 4) (1008 * n + 1008) (4 * suc n) (1008 * suc n) _ (omega arith) (omega arith)
              (few_then slot (4 * n) (1008 * n) 4 1008 c.items (closes c.state fd).items shut.few
              (released_few slot (dropped c.state fd) (told_by c.state fd) shut.steady.room));
        }

all_shut : (slot : ℕ) (h : Handed) (n : ℕ) (c : Closing) (fds : List ℕ) → Shut slot h n c → Shut slot h (n + length fds) (fold then_closes c fds)
all_shut slot h n c [] shut = subst (λ m. Shut slot h m c) (let same : n ≡ n + 0 = omega arith in same) shut
all_shut slot h n c (fd ∷ fds) shut =
    subst (λ m. Shut slot h m (fold then_closes c (fd ∷ fds))) (let same : suc n + length fds ≡ n + suc (length fds) = omega arith in same)
    (all_shut slot h (suc n) (then_closes c fd) fds (more_shut slot h n c fd shut))

close_all_shut : (slot : ℕ) (h : Handed) → All HasRoom h.lines → Shut slot h 15 (close_all h)
unfolding close_all
close_all_shut slot h room =
    let long : 0 + length (range_with_len 0 15) ≡ 15 = length-range_with_len 0 15 in
    subst (λ m. Shut slot h m (close_all h)) long
    (all_shut slot h 0 (record { state = h; items = [] }) (range_with_len 0 15) (record { steady = steady_same h room; few = few_none slot }))

pub close_all_fits : (slot : ℕ) (h : Handed) → All HasRoom h.lines → Fits slot (close_all h).items
close_all_fits slot h room =
    few_up_to slot (4 * 15) (1008 * 15) most_entries most_bytes (close_all h).items (omega arith) (omega arith) (close_all_shut slot h room).few

pub close_all_steady : (h : Handed) → All HasRoom h.lines → Steady h (close_all h).state
close_all_steady h room = (close_all_shut 0 h room).steady
