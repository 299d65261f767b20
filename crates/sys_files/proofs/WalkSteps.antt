-- What a walk over the rows of calls on files asks of each step that rows are made of.
use Rattle.std.proofs.Common.{◌≡◌, ◌≢◌, ◌<◌, ◌≤◌, ◌∙◌, ◌+◌, ◌-◌, ◌==◌, ◌||◌, ◌⊎◌, ℕ, Bool, true, false, cond, List, [], ◌∷◌, length, slice_index, slice_set, pos, is_some, unwrap_or, Option, Some, None, Ok, Err, refl, sym, ap, subst, inl, inr, arith, ◌++◌, map, fold}
use Rattle.std.proofs.lemmas.Bool.{eqb-false, eq-eqb}
use Rattle.v6_base.specs.Image.{Image}
use Rattle.v6_base.specs.Trace.{Log, sent}
use Rattle.v6_base.specs.declared.answer.Answer.TheVariants.{Ret, Sleep}
use Rattle.v6_base.specs.declared.entry.Chan.{Chan}
use Rattle.v6_base.specs.declared.entry.Chan.TheVariants as chan
use Rattle.v6_base.specs.declared.errno.Errno.{Errno}
use Rattle.v6_base.specs.declared.errno.Errno.TheVariants.{EBADF}
use Rattle.v6_base.proofs.Copies.{SameLengths}
use Rattle.u_area.specs.declared.layout.TheConstants.{LINE_READ, LINE_WRITE}
use Rattle.u_area.specs.Pending.{IsPipeCall}
use Rattle.fs_nodes.specs.Keys.{Stores, OnItsDisk, counts, key_count}
use Rattle.fs_tree.specs.declared.user.User.{User}
use Rattle.fs_tree.specs.Finding.{Inodes}
use Rattle.open_files.specs.declared.file.OpenFile.{OpenFile}
use Rattle.open_files.specs.declared.file.FileKind.{FileKind}
use Rattle.open_files.specs.declared.file.Closed.{Closed}
use Rattle.open_files.specs.declared.file.Closed.TheVariants.{Still, Last}
use Rattle.open_files.specs.Files as files
use Rattle.open_files.specs.Files.{entry_of, free_number, free_entry, with_change, with_more, with_fewer, with_offset, times}
use Rattle.tty_line.specs.Terminal.{Terminal}
use Rattle.tty_line.specs.Output.{shows}
use Rattle.lines_eight.specs.Lines.{HasRoom}
use Rattle.lines_eight.specs.Told.{keys_of, show_of}
use Rattle.sig_core.specs.Signals.{posted}
use Rattle.pipe_ends.specs.declared.ends.Pipe.{Pipe}
use Rattle.sys_files.specs.Handed.{Handed, no_file, file_of, disk_of, line_at, with_line, with_inodes, with_number}
use Rattle.sys_files.specs.Did.{Did, fails, must, need, until_end, names}
use Rattle.sys_files.specs.Descriptors.{open_entry, dropped, closes, Closing, then_closes, close_all}
use Rattle.sys_files.specs.Making.{new_in}
use Rattle.sys_files.specs.Mounting.{with_covered}
use Rattle.sys_files.specs.Pipes.{with_pipe, without_pipe, has_end}
use Rattle.sys_files.specs.Piping.{reading_end, with_end, with_ends, words_of, pipe_at}
use Rattle.std.specs.List.{All, range_with_len}
use Rattle.v6_base.specs.declared.entry.Entry.{Entry}
use Rattle.sig_core.specs.declared.numbers.TheConstants.{SIGPIPE}
use Rattle.sys_files.proofs.Bounds.{IsLineOf}
use Rattle.sys_files.proofs.NumberLemmas.{number_low}
use Rattle.sys_files.proofs.OffsetLemmas.{entry_same}
use Rattle.sys_files.proofs.OwedLemmas.{counted}

-- A read sleeps until keys come: its entry, address and count are kept.
abbrev pub asleep_for_keys : Handed → ℕ → ℕ → ℕ → ℕ → Did
asleep_for_keys h l entry at count = record {
  answer = Sleep (pos 10) (keys_of l);
  state = record h { u = record h.u { pending = LINE_READ; call = entry ∷ at ∷ count ∷ 0 ∷ 0 ∷ 0 ∷ 0 ∷ 0 ∷ [] } };
  items = [];
  named = [];
}

-- A write sleeps until there is room: how many bytes are done is kept too.
abbrev pub asleep_for_room : Handed → ℕ → ℕ → ℕ → ℕ → ℕ → Did
asleep_for_room h l entry at count done = record {
  answer = Sleep (pos 20) (show_of l);
  state = record h { u = record h.u { pending = LINE_WRITE; call = entry ∷ at ∷ count ∷ done ∷ 0 ∷ 0 ∷ 0 ∷ 0 ∷ [] } };
  items = [];
  named = [];
}

-- It sleeps in a pipe: what it needs to go on is kept.
abbrev pub asleep_in_pipe : Handed → Chan → ℕ → List ℕ → Did
asleep_in_pipe h chan pending words = record {
  answer = Sleep (pos 1) chan;
  state = record h { u = record h.u { pending = pending; call = words } };
  items = [];
  named = [];
}

-- a channel of a pipe whose inode is known
abbrev pub IsOfPipe : (ℕ → Type 0) → Chan → Type 0
IsOfPipe Known (chan.Read ino) = Known ino
IsOfPipe Known (chan.Write ino) = Known ino
IsOfPipe Known other = ⊥

-- A call waits: its entry is in use, the process has a number for it, and no more bytes are done, or left in a write of a pipe, than there were.
pub record IsCalling (h : Handed) (entry count left : ℕ) : Type 0 where
  pub there : is_some (files.file_at h.files entry) ≡ true
  pub named : 1 ≤ times h.u.files entry
  pub few : left ≤ count

-- It waits in a pipe: its entry is an end.
pub record IsAwaiting (h : Handed) (entry count left : ℕ) : Type 0 where
  pub pipe : (file_of h entry).kind.pipe ≡ true
  pub named : 1 ≤ times h.u.files entry
  pub few : left ≤ count

-- A call in which a process slept can go on.
pub record CanResume (Few : ℕ → Type 0) (h : Handed) : Type 0 where
  pub calling : IsCalling h (slice_index h.u.call 0) (slice_index h.u.call 2) (slice_index h.u.call 3)
  pub pipe : ((h.u.pending == LINE_READ) || (h.u.pending == LINE_WRITE)) ≡ false → (file_of h (slice_index h.u.call 0)).kind.pipe ≡ true
  pub few : Few (slice_index h.u.call 2 - slice_index h.u.call 3)

-- What a step changes of the stores: both, where the call may; or nothing; or the disk of a key that is the call's own.
pub record Within (Here : ℕ → Type 0) (old new : Stores) : Type 0 where
  pub key : ℕ
  pub here : Here key
  pub only : OnItsDisk old new key

abbrev pub Touches : (ℕ → Type 0) → Type 0 → Stores → Stores → Type 0
Touches Here Both old new = Both ⊎ ((new ≡ old) ⊎ Within Here old new)

-- a change of nothing, and one at a key of the call's own
pub nothing : {Here : ℕ → Type 0} {Both : Type 0} {old new : Stores} → new ≡ old → Touches Here Both old new
nothing same = inr (inl same)

pub own_key : {Here : ℕ → Type 0} {Both : Type 0} {old new : Stores} (key : ℕ) → Here key → OnItsDisk old new key
    → Touches Here Both old new
own_key key here only = inr (inr (record { key = key; here = here; only = only }))

-- The files of a process, the pipes that they are ends of, and its directory are its calls' own.
pub record Owns (Here : ℕ → Type 0) (h : Handed) : Type 0 where
  pub file : (entry : ℕ) → 1 ≤ times h.u.files entry → Here (file_of h entry).ino
  pub pipe : (entry : ℕ) → (file_of h entry).kind.pipe ≡ true → 1 ≤ times h.u.files entry → Here (pipe_at h entry).ino
  pub dir : Here h.u.dir

-- where nothing is asked of that
pub owns_all : (h : Handed) → Owns (λ key. Unit {0}) h
owns_all h = record { file = λ entry named. tt; pipe = λ entry is named. tt; dir = tt }

-- What has to be shown of the words of which the rows are made, of a fact of the parts and of a fact of what a row of the process
-- of a slot does. A write shows so many bytes at most as it has to write; the inodes of pipes that are open are known,
-- and so are the numbers of the lines that there are; the numbers and the directory of the process change in calls that may move
-- them; an inode that a call refers to for itself, or names, is its own where that is used.
pub record Walks (P : Handed → Type 0) (Q : Did → Type 0) (Few Known Line Here : ℕ → Type 0) (Moves Both : Type 0) (slot : ℕ) : Type 0 where
  pub refused : (h : Handed) (e : Errno) → P h → Q (fails h e)
  pub done : (h : Handed) (a b : ℕ) → P h → Q (record { answer = Ret a b; state = h; items = []; named = [] })
  pub lets_go : (ino : ℕ) (d : Did) → (Here ino → Q d) → Q (until_end ino d)
  pub named : (ino : ℕ) (d : Did) → (Here ino → Q d) → Q (names ino d)
  pub waits : (h : Handed) (l entry at count : ℕ) → IsCalling h entry count 0 → (l ≢ 0 → Line l) → P h → Q (asleep_for_keys h l entry at count)
  pub waits_for_room : (h : Handed) (l entry at count done : ℕ) → IsCalling h entry count done → (l ≢ 0 → Line l) → P h
      → Q (asleep_for_room h l entry at count done)
  pub waits_in_pipe : (h : Handed) (chan : Chan) (pending entry at count left : ℕ) → IsPipeCall pending
      → IsOfPipe Known chan
      → IsAwaiting h entry count left → P h → Q (asleep_in_pipe h chan pending (words_of entry at count left))
  pub tells : (entries : List Entry) (d : Did) → length entries ≤ 3 → All (IsLineOf Known Line slot) entries → d.items ≡ [] → Q d
      → Q (record d { items = map Log entries })
  pub lets_out : (h : Handed) (l : ℕ) (front back : List Entry) (d : Did) → length front + length back ≤ 4 → All (IsLineOf Known Line slot) front
      → All (IsLineOf Known Line slot) back → P h → d.items ≡ [] → Q d
      → Q (record d { items = map Log front ++ (sent l (line_at h l).output ++ map Log back) })
  pub showing : (l : ℕ) (line : Terminal) (bytes : List ℕ) (count : ℕ) (d : Did) → length bytes ≤ count → Few count → Q d
      → Q (record d { items = sent l (shows line bytes) })
  pub inodes : (h : Handed) (inodes : Inodes) → counts inodes.store ≡ counts h.inodes.store
      → Touches Here Both h.inodes.store inodes.store → P h → P (with_inodes h inodes)
  pub made : (h : Handed) (dir mode : ℕ) (user : User) (now : ℕ) → Here dir → P h
      → P (with_inodes h (new_in h.inodes (disk_of h dir) mode user now).inodes)
  pub opened : (h : Handed) (ino : ℕ) (kind : FileKind) (fd entry : ℕ) → kind.pipe ≡ false → free_number h.u.files ≡ Some fd
      → free_entry h.files ≡ Some entry
      → Here ino → Moves → P h
      → P (record h { files = slice_set h.files entry (Some (files.opened ino kind)); u = with_number h.u fd (entry + 1) })
  pub ends : (h : Handed) (ino fd entry next_fd next_entry : ℕ) → 1 ≤ ino → ino ≤ key_count h.inodes.store
      → free_number h.u.files ≡ Some fd → free_entry h.files ≡ Some entry
      → free_number (with_end h ino reading_end fd entry).u.files ≡ Some next_fd
      → free_entry (with_end h ino reading_end fd entry).files ≡ Some next_entry
      → Here ino → Moves → P h → P (with_ends h ino fd entry next_fd next_entry)
  pub given : (h : Handed) (fd free : ℕ) → 0 < slice_index h.u.files fd → free_number h.u.files ≡ Some free → Moves → P h
      → P (record h {
        files = with_change h.files (entry_of h.u.files fd) (with_more 1);
        u = with_number h.u free (entry_of h.u.files fd + 1);
      })
  pub offset : (h : Handed) (entry offset : ℕ) → P h → P (record h { files = with_change h.files entry (with_offset offset) })
  pub dropped : (h : Handed) (fd : ℕ) → 0 < slice_index h.u.files fd → Moves → P h → P (dropped h fd)
  pub marked : (h : Handed) (p : Pipe) → P h → P (record h { pipes = with_pipe h.pipes p })
  pub gone : (h : Handed) (ino : ℕ) → has_end h.files ino ≡ false → P h → P (record h { pipes = without_pipe h.pipes ino })
  pub known : (h : Handed) (entry : ℕ) → (file_of h entry).kind.pipe ≡ true → P h
      → Known (file_of h entry).ino × Known (pipe_at h entry).ino
  pub numbered : (h : Handed) (l : ℕ) → l ≢ 0 → l < length h.lines → P h → Line l
  pub typewriter : (h : Handed) (l : ℕ) (t : Terminal) → (HasRoom (line_at h l) → HasRoom t) → P h → P (with_line h l t)
  pub covered : (h : Handed) (covered : Option ℕ) → P h → P (with_covered h covered)
  pub enters : (h : Handed) (dir : ℕ) → Here dir → Moves → P h → P (record h { u = record h.u { dir = dir } })
  pub terminal : (h : Handed) (tty : ℕ) → P h → P (record h { row = record h.row { tty = tty } })
  pub signalled : (h : Handed) → P h → P (record h { row = posted h.row SIGPIPE })
  pub stored : (h : Handed) (m : Image) → SameLengths h.image m → P h → P (record h { image = m })

-- What a test gives, where it is passed.
pub need_some : {A : Type 0} (e : Errno) (o : Option A) (a : A) → need e o ≡ Ok a → o ≡ Some a
need_some e (Some x) a is = ap Some (cc is)
need_some e None a is = absurd (cc is)

pub entry_named : (h : Handed) (fd entry : ℕ) → open_entry h fd ≡ Ok entry
    → (0 < slice_index h.u.files fd) × (entry ≡ entry_of h.u.files fd)
entry_named h fd entry is = by (slice_index h.u.files fd == 0) refl is
  where
    by : (b : Bool) → (slice_index h.u.files fd == 0) ≡ b → cond b (Err EBADF) (Ok (entry_of h.u.files fd)) ≡ Ok entry
        → (0 < slice_index h.u.files fd) × (entry ≡ entry_of h.u.files fd)
    by true e f = absurd (cc f)
    by false e f = let some = eqb-false (slice_index h.u.files fd) 0 e in let same : entry_of h.u.files fd ≡ entry =
        cc f in (omega (arith, some), sym same)

-- and it names that entry
pub is_named : (h : Handed) (fd entry : ℕ) → open_entry h fd ≡ Ok entry → 1 ≤ times h.u.files entry
is_named h fd entry is =
    let here = entry_named h fd entry is in
    let some = here.0 in
    subst (λ e. 1 ≤ times h.u.files e) (sym here.1)
    (counted (λ number. number == entry_of h.u.files fd + 1) h.u.files fd 0 (number_low h.u.files fd some)
    (eq-eqb (slice_index h.u.files fd) (entry_of h.u.files fd + 1) (omega (arith, some))))

-- A test that was passed, and what is so of a file that is in use alone.
pub must_true : (e : Errno) (b : Bool) {u : Unit {0}} → must e b ≡ Ok u → b ≡ true
must_true e true is = refl
must_true e false is = absurd (cc is)

pub file_there : (h : Handed) (entry : ℕ) (so : OpenFile → Bool) → so (file_of h entry) ≡ true → so no_file ≡ false
    → is_some (files.file_at h.files entry) ≡ true
file_there h entry so is never = by (files.file_at h.files entry) is
  where
    by : (o : Option OpenFile) → so (unwrap_or o no_file) ≡ true → is_some o ≡ true
    by (Some file) e = refl
    by None e = let never_so : true ≡ false = sym e ∙ never in absurd (cc never_so)

-- The inode of a pipe that is told of is known.
abbrev pub IsNamedBy : (ℕ → Type 0) → Closed → Type 0
IsNamedBy Known (Still file) = file.kind.pipe ≡ true → Known file.ino
IsNamedBy Known (Last file) = file.kind.pipe ≡ true → Known file.ino

pub named_told : (Known : ℕ → Type 0) (file : OpenFile) → (file.kind.pipe ≡ true → Known file.ino) → IsNamedBy Known (files.closed file)
named_told Known file named = by (file.count == 1)
  where
    by : (last : Bool) → IsNamedBy Known (cond last (Last (with_fewer file)) (Still (with_fewer file)))
    by true = named
    by false = named

-- The inode of a file that has gone with a number is the call's own.
abbrev pub LetsGo : (ℕ → Type 0) → Closed → Type 0
LetsGo Here (Still file) = Unit {0}
LetsGo Here (Last file) = Here file.ino

pub own_told : (Here : ℕ → Type 0) (file : OpenFile) → Here file.ino → LetsGo Here (files.closed file)
own_told Here file here = by (file.count == 1)
  where
    by : (last : Bool) → LetsGo Here (cond last (Last (with_fewer file)) (Still (with_fewer file)))
    by true = here
    by false = tt

-- an entry is there still when its offset has changed
pub moved_there : (h : Handed) (entry place : ℕ) → is_some (files.file_at h.files entry) ≡ true
    → is_some (files.file_at (with_change h.files entry (with_offset place)) entry) ≡ true
moved_there h entry place there = entry_same is_some h.files entry place entry changed_some ∙ there
  where
    changed_some : (o : Option OpenFile) → is_some (files.changed (with_offset place) o) ≡ is_some o
    changed_some None = refl
    changed_some (Some file) = refl

-- All numbers of a process let their files go, one after another.
pub closes_all : (K : Closing → Type 0)
    → ((c : Closing) (fd : ℕ) → 0 < slice_index c.state.u.files fd → K c
    → K (record { state = (closes c.state fd).state; items = c.items ++ (closes c.state fd).items }))
    → (h : Handed) → K (record { state = h; items = [] }) → K (close_all h)
unfolding close_all
closes_all K next h begun = all (record { state = h; items = [] }) (range_with_len 0 15) begun
  where
    one : (c : Closing) (fd : ℕ) (b : Bool) → (slice_index c.state.u.files fd == 0) ≡ b → K c
        → K (cond {A = Closing} b c
        (record { state = (closes c.state fd).state; items = c.items ++ (closes c.state fd).items }))
    one c fd true e k = k
    one c fd false e k = let some = eqb-false (slice_index c.state.u.files fd) 0 e in next c fd (omega (arith, some)) k

    all : (c : Closing) (fds : List ℕ) → K c → K (fold then_closes c fds)
    all c [] k = k
    all c (fd ∷ fds) k = all (then_closes c fd) fds (one c fd (slice_index c.state.u.files fd == 0) refl k)
