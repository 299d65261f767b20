-- What a write comes to, by its tests, and what it keeps.
use Rattle.std.proofs.Common.{◌≡◌, ◌+◌, ◌-◌, ◌%◌, ◌^◌, ◌==◌, ◌||◌, ℕ, Bool, true, false, cond, pos, List, [], ◌∷◌, length, take, replicate, is_some, slice_index, Option, Some, None, Result, Ok, Err, if◌then◌else◌, nat_lt, refl, sym, ap, ◌∙◌, subst}
use Rattle.v6_base.specs.Trace.{Taken, Took, sent}
use Rattle.v6_base.specs.declared.answer.Answer.TheVariants.{Sleep}
use Rattle.v6_base.specs.declared.errno.Errno.{Errno}
use Rattle.v6_base.specs.declared.errno.Errno.TheVariants.{EBADF, EFAULT, EINTR}
use Rattle.v6_base.proofs.Took.{took_nothing}
use Rattle.fs_codec.specs.Modes.{is_device}
use Rattle.open_files.specs.declared.file.OpenFile.{OpenFile}
use Rattle.fs_laws.specs.Pieces.{Moving}
use Rattle.fs_tree.specs.Name.{readable}
use Rattle.sys_files.specs.Handed.{Handed, r0, node_at, file_of, line_of, line_at, with_line}
use Rattle.sys_files.specs.Did.{Did, fails, returns, check, must}
use Rattle.sys_files.specs.Descriptors.{open_entry}
use Rattle.u_area.specs.declared.layout.TheConstants.{LINE_READ, LINE_WRITE, PIPE_READ, NOTHING_PENDING}
use Rattle.sig_core.specs.Signals.{due}
use Rattle.lines_eight.specs.Told.{show_of}
use Rattle.tty_line.specs.declared.line.Took as of_line
use Rattle.tty_line.specs.declared.line.Took.TheVariants.{Done, Wait, Fault}
use Rattle.tty_line.specs.Reading.{Reading}
use Rattle.tty_line.specs.Output.{shows, after_shown, written}
use Rattle.sys_files.specs.Moving.{with_moved, gives_count, waits_for_room, line_read, with_line_read, takes_line, reads_line, write_of, writes_line, writes_by, writes_to, write_file_of}
use Rattle.sys_files.specs.Moving.{without_pending, line_kept, goes_on_line, goes_on_pipe, goes_on, resumes}
use Rattle.sys_files.specs.Piping.{reads_pipe, writes_pipe}
use Rattle.sys_files.specs.Sound.{IsSound, IsKept}
use Rattle.sys_files.proofs.KeptLemmas.{kept_same}
use Rattle.sys_files.proofs.OffsetLemmas.{kept_moved, moved_counts}
use Rattle.sys_files.proofs.PipeKeptLemmas.{pipe_read_kept, pipe_write_kept}
use Rattle.sys_files.proofs.ReadLemmas.{gives_state, gives_items, kept_waits}

-- the parts after bytes were shown
abbrev pub with_shown : Handed → ℕ → List ℕ → Handed
with_shown h l bytes = with_line h l (after_shown (line_at h l) bytes)

-- how a write of a line ends, when so many bytes more are taken, by whether it is stopped
abbrev pub ends_shown : Handed → ℕ → ℕ → ℕ → ℕ → ℕ → Bool → Bool → Did
ends_shown after l entry at count done stopped all =
    if stopped then waits_for_room after l entry at count done else (if all then returns after count else fails after EFAULT)

abbrev pub shows_as : Handed → ℕ → ℕ → ℕ → ℕ → ℕ → ℕ → List ℕ → Did
shows_as h l entry at count done n bytes =
    record (ends_shown (with_shown h l (take n bytes)) l entry at count (done + n) (nat_lt n (length bytes)) (done + n == count)) {
      items = sent l (shows (line_at h l) (take n bytes));
    }

-- what a write of a line comes to, by how many bytes are taken
pub shows_by : (h : Handed) (l entry at count done n : ℕ) → n ≡ written (line_at h l) (readable h.image ((at + done) % 65536) (count - done))
    → writes_line h l entry at count done ≡ shows_as h l entry at count done n (readable h.image ((at + done) % 65536) (count - done))
shows_by h l entry at count done n is =
    let bytes : List ℕ = readable h.image ((at + done) % 65536) (count - done) in
    sym (ap (λ m. shows_as h l entry at count done m bytes) is)

pub shows_case : (h : Handed) (l entry at count done n : ℕ) (stopped all : Bool) → n ≡ written (line_at h l) (readable h.image ((at + done) % 65536) (count - done))
    → nat_lt n (length (readable h.image ((at + done) % 65536) (count - done))) ≡ stopped → (done + n == count) ≡ all
    → writes_line h l entry at count done
    ≡ record (ends_shown (with_shown h l (take n (readable h.image ((at + done) % 65536) (count - done)))) l entry at count (done + n) stopped all) {
      items = sent l (shows (line_at h l) (take n (readable h.image ((at + done) % 65536) (count - done))));
    }
shows_case h l entry at count done n stopped all is stops whole =
    let bytes : List ℕ = readable h.image ((at + done) % 65536) (count - done) in
    shows_by h l entry at count done n is
    ∙ (λ i. record (ends_shown (with_shown h l (take n bytes)) l entry at count (done + n) (stops i) (whole i)) {
      items = sent l (shows (line_at h l) (take n bytes));
    })

-- A write of a line that waits keeps another call that goes on, unless a signal is due.
kept_room : (old h : Handed) (l entry at count done : ℕ) → IsKept old h
    → IsKept old (record h { u = record h.u { pending = LINE_WRITE; call = entry ∷ at ∷ count ∷ done ∷ 0 ∷ 0 ∷ 0 ∷ 0 ∷ [] } })
    → IsKept old (waits_for_room h l entry at count done).state
kept_room old h l entry at count done same waits = by (is_some (due h.row h.u))
  where
    by : (b : Bool) → IsKept old (cond {A = Did} b (fails h EINTR) (record {
      answer = Sleep (pos 20) (show_of l);
      state = record h { u = record h.u { pending = LINE_WRITE; call = entry ∷ at ∷ count ∷ done ∷ 0 ∷ 0 ∷ 0 ∷ 0 ∷ [] } };
      items = [];
      named = [];
    })).state
    by true = same
    by false = waits

kept_ends : (old after : Handed) (l entry at count done : ℕ) (stopped all : Bool) → IsKept old after
    → IsKept old (record after { u = record after.u { pending = LINE_WRITE; call = entry ∷ at ∷ count ∷ done ∷ 0 ∷ 0 ∷ 0 ∷ 0 ∷ [] } })
    → IsKept old (ends_shown after l entry at count done stopped all).state
kept_ends old after l entry at count done true all same waits = kept_room old after l entry at count done same waits
kept_ends old after l entry at count done false true same waits = same
kept_ends old after l entry at count done false false same waits = same

abbrev write_as : Handed → ℕ → ℕ → ℕ → ℕ → Option ℕ → Did
write_as h entry at count now line =
    let m : Moving (Unit {0}) = write_of h entry at count now in
    writes_by (with_moved h entry m) line (is_device (node_at h (file_of h entry).ino).mode) entry at count m

abbrev write_any : Handed → ℕ → ℕ → ℕ → ℕ → ℕ → Bool → Did
write_any h slot entry at count now pipe =
    if pipe then writes_pipe h slot entry at count count now else writes_to h entry at count now

abbrev write_if : Handed → ℕ → ℕ → ℕ → ℕ → ℕ → Bool → Did
write_if h slot entry at count now writing =
    check h (must EBADF writing) (λ may. write_any h slot entry at count now (file_of h entry).kind.pipe)

abbrev write_found : Handed → ℕ → ℕ → ℕ → ℕ → Result ℕ Errno → Did
write_found h slot at count now found = check h found (λ entry. write_if h slot entry at count now (file_of h entry).kind.writing)

pub write_shows : (h : Handed) (entry at count now l : ℕ) (file : OpenFile) → file ≡ file_of h entry → Some l ≡ line_of h (node_at h file.ino)
    → writes_line (with_moved h entry (write_of h entry at count now)) l entry at count 0 ≡ writes_to h entry at count now
write_shows h entry at count now l file is line =
    ap (write_as h entry at count now) (line ∙ ap (λ (x : OpenFile). line_of h (node_at h x.ino)) is)

pub write_gives : (h : Handed) (entry at count now : ℕ) (file : OpenFile) → file ≡ file_of h entry → None ≡ line_of h (node_at h file.ino)
    → gives_count (with_moved h entry (write_of h entry at count now))
    (if is_device (node_at h (file_of h entry).ino).mode then count else (write_of h entry at count now).done) (write_of h entry at count now).error
    ≡ writes_to h entry at count now
write_gives h entry at count now file is none =
    ap (write_as h entry at count now) (none ∙ ap (λ (x : OpenFile). line_of h (node_at h x.ino)) is)

pub took_given : (t : Taken) (h : Handed) (entry at count now : ℕ) (file : OpenFile) → file ≡ file_of h entry → None ≡ line_of h (node_at h file.ino)
    → Took t (writes_to h entry at count now).items t
took_given t h entry at count now file is none =
    let m : Moving (Unit {0}) = write_of h entry at count now in
    took_nothing t (writes_to h entry at count now).items
    (sym (ap (λ (d : Did). d.items) (write_gives h entry at count now file is none))
    ∙ gives_items (with_moved h entry m) (if is_device (node_at h (file_of h entry).ino).mode then count else m.done) m.error)

pub write_refused : (h : Handed) (slot at count now : ℕ) (e : Errno) → Err e ≡ open_entry h (r0 h)
    → fails h e ≡ write_file_of h slot at count now
write_refused h slot at count now e found = ap (write_found h slot at count now) found

module _ (h : Handed) (slot at count now entry : ℕ) (file : OpenFile) (found : Ok entry ≡ open_entry h (r0 h))
    (is : file ≡ file_of h entry) where
  pub write_not_open : file.kind.writing ≡ false → fails h EBADF ≡ write_file_of h slot at count now
  write_not_open writing =
      ap (write_if h slot entry at count now) (sym writing ∙ ap (λ (x : OpenFile). x.kind.writing) is) ∙ ap
      (write_found h slot at count now) found

  write_row : (pipe : Bool) → file.kind.writing ≡ true → file.kind.pipe ≡ pipe
      → write_any h slot entry at count now pipe ≡ write_file_of h slot at count now
  write_row pipe writing kind =
      ap (write_any h slot entry at count now) (sym kind ∙ ap (λ (x : OpenFile). x.kind.pipe) is)
      ∙ ap (write_if h slot entry at count now) (sym writing ∙ ap (λ (x : OpenFile). x.kind.writing) is) ∙ ap
      (write_found h slot at count now) found

  pub write_done : file.kind.writing ≡ true → file.kind.pipe ≡ false
      → writes_to h entry at count now ≡ write_file_of h slot at count now
  write_done writing plain = write_row false writing plain

  pub write_piped : file.kind.writing ≡ true → file.kind.pipe ≡ true
      → writes_pipe h slot entry at count count now ≡ write_file_of h slot at count now
  write_piped writing pipe = write_row true writing pipe

abbrev write_place : Handed → ℕ → ℕ → ℕ → ℕ → ℕ
write_place h entry at count now = ((file_of h entry).offset + (write_of h entry at count now).done) % 2 ^ 32

kept_as : (h : Handed) (entry at count now : ℕ) (line : Option ℕ) → IsSound h → IsKept h (write_as h entry at count now line).state
kept_as h entry at count now (Some l) sound =
    let after : Handed = with_moved h entry (write_of h entry at count now) in
    let bytes : List ℕ = readable after.image ((at + 0) % 65536) (count - 0) in
    let n : ℕ = written (line_at after l) bytes in
    kept_ends h (with_shown after l (take n bytes)) l entry at count (0 + n) (nat_lt n (length bytes)) (0 + n == count)
    (kept_moved h _ entry (write_place h entry at count now) sound refl refl refl refl refl refl
    (moved_counts h entry (write_of h entry at count now)))
    (kept_moved h _ entry (write_place h entry at count now) sound refl refl refl refl refl refl
    (moved_counts h entry (write_of h entry at count now)))
kept_as h entry at count now None sound =
    let m : Moving (Unit {0}) = write_of h entry at count now in
    subst (IsKept h) (sym (gives_state (with_moved h entry m) (if is_device (node_at h (file_of h entry).ino).mode then count else m.done) m.error))
    (kept_moved h (with_moved h entry m) entry (write_place h entry at count now) sound refl refl refl refl refl refl
    (moved_counts h entry m))

kept_any : (h : Handed) (slot entry at count now : ℕ) (pipe : Bool) → IsSound h
    → IsKept h (write_any h slot entry at count now pipe).state
kept_any h slot entry at count now true sound = pipe_write_kept h sound h.u.pending h.u.call slot entry at count count now
kept_any h slot entry at count now false sound = kept_as h entry at count now (line_of h (node_at h (file_of h entry).ino)) sound

kept_if : (h : Handed) (slot entry at count now : ℕ) (writing : Bool) → IsSound h
    → IsKept h (write_if h slot entry at count now writing).state
kept_if h slot entry at count now true sound = kept_any h slot entry at count now (file_of h entry).kind.pipe sound
kept_if h slot entry at count now false sound = kept_same h h sound refl refl refl refl refl refl refl

kept_found : (h : Handed) (slot at count now : ℕ) (found : Result ℕ Errno) → IsSound h
    → IsKept h (write_found h slot at count now found).state
kept_found h slot at count now (Ok entry) sound = kept_if h slot entry at count now (file_of h entry).kind.writing sound
kept_found h slot at count now (Err e) sound = kept_same h h sound refl refl refl refl refl refl refl

pub write_kept : (h : Handed) (slot at count now : ℕ) → IsSound h → IsKept h (write_file_of h slot at count now).state
write_kept h slot at count now sound = kept_found h slot at count now (open_entry h (r0 h)) sound

-- A call that is taken up again keeps all that is counted.
resumed_took : (h : Handed) (l : ℕ) (r : Reading) (entry at count : ℕ) (took : of_line.Took) → IsSound h
    → IsKept h (takes_line (with_line_read (without_pending h) l r) l entry at count took).state
resumed_took h l r entry at count (Done n) sound = kept_same h _ sound refl refl refl refl refl refl refl
resumed_took h l r entry at count Wait sound =
    kept_waits h (with_line_read (without_pending h) l r) l entry at count
    (kept_same h _ sound refl refl refl refl refl refl refl)
    (kept_same h _ sound refl refl refl refl refl refl refl)
resumed_took h l r entry at count Fault sound = kept_same h _ sound refl refl refl refl refl refl refl

resumed_wrote : (h : Handed) (l entry at count done : ℕ) → IsSound h → IsKept h (writes_line (without_pending h) l entry at count done).state
resumed_wrote h l entry at count done sound =
    let rest : Handed = without_pending h in
    let bytes : List ℕ = readable h.image ((at + done) % 65536) (count - done) in
    let n : ℕ = written (line_at rest l) bytes in
    kept_ends h (with_shown rest l (take n bytes)) l entry at count (done + n) (nat_lt n (length bytes)) (done + n == count)
    (kept_same h _ sound refl refl refl refl refl refl refl) (kept_same h _ sound refl refl refl refl refl refl refl)

abbrev pub lined_on : Handed → ℕ → List ℕ → Bool → Did
lined_on h l call reads =
    if reads then reads_line h l (slice_index call 0) (slice_index call 1) (slice_index call 2)
    else writes_line h l (slice_index call 0) (slice_index call 1) (slice_index call 2) (slice_index call 3)

lined_kept : (h : Handed) (call : List ℕ) (reads : Bool) → IsSound h
    → IsKept h (lined_on (without_pending h) (line_kept (without_pending h) (slice_index call 0)) call reads).state
lined_kept h call true sound =
    let rest : Handed = without_pending h in
    let l : ℕ = line_kept rest (slice_index call 0) in
    let r : Reading = line_read rest l (slice_index call 1) (slice_index call 2) in
    resumed_took h l r (slice_index call 0) (slice_index call 1) (slice_index call 2) r.took sound
lined_kept h call false sound =
    resumed_wrote h (line_kept (without_pending h) (slice_index call 0)) (slice_index call 0) (slice_index call 1) (slice_index call 2) (slice_index call 3) sound

-- So does a call on a pipe, and one that a signal breaks.
abbrev pub piped_on : Handed → ℕ → List ℕ → ℕ → Bool → Did
piped_on h slot call now reads =
    if reads then reads_pipe h (slice_index call 0) (slice_index call 1) (slice_index call 2) now
    else writes_pipe h slot (slice_index call 0) (slice_index call 1) (slice_index call 2) (slice_index call 3) now

abbrev resumed_by : Handed → ℕ → ℕ → Bool → Did → Did
resumed_by h slot now broken goes = if broken then fails (without_pending h) EINTR else goes

on_kept : (h : Handed) (slot now : ℕ) (line third fourth : Bool) → IsSound h
    → IsKept h (if line then lined_on (without_pending h) (line_kept (without_pending h) (slice_index h.u.call 0)) h.u.call third
    else piped_on (without_pending h) slot h.u.call now fourth).state
on_kept h slot now true third fourth sound = lined_kept h h.u.call third sound
on_kept h slot now false third true sound = pipe_read_kept h sound NOTHING_PENDING (replicate 8 0) _ _ _ now
on_kept h slot now false third false sound = pipe_write_kept h sound NOTHING_PENDING (replicate 8 0) slot _ _ _ _ now

kept_by : (h : Handed) (broken : Bool) (goes : Did) → IsSound h → IsKept h goes.state
    → IsKept h (if broken then fails (without_pending h) EINTR else goes).state
kept_by h true goes sound kept = kept_same h (without_pending h) sound refl refl refl refl refl refl refl
kept_by h false goes sound kept = kept

pub resumes_kept : (h : Handed) (slot now : ℕ) → IsSound h → IsKept h (resumes h slot now).state
resumes_kept h slot now sound =
    let p = h.u.pending in
    kept_by h (is_some (due h.row (without_pending h).u)) (goes_on h slot now) sound
    (on_kept h slot now ((p == LINE_READ) || (p == LINE_WRITE)) (p == LINE_READ) (p == PIPE_READ) sound)

-- What a call comes to that is taken up again, by its tests.
pub resume_broken : (h : Handed) (slot now : ℕ) → is_some (due h.row (without_pending h).u) ≡ true
    → fails (without_pending h) EINTR ≡ resumes h slot now
resume_broken h slot now broken = sym (ap (λ b. resumed_by h slot now b (goes_on h slot now)) broken)

module _ (h : Handed) (slot now : ℕ) (calm : is_some (due h.row (without_pending h).u) ≡ false) where
  goes : goes_on h slot now ≡ resumes h slot now
  goes = sym (ap (λ b. resumed_by h slot now b (goes_on h slot now)) calm)

  pub resume_lined : ((h.u.pending == LINE_READ) || (h.u.pending == LINE_WRITE)) ≡ true
      → goes_on_line (without_pending h) h.u.pending h.u.call ≡ resumes h slot now
  resume_lined is =
      sym (ap (λ b. if b then goes_on_line (without_pending h) h.u.pending h.u.call else goes_on_pipe (without_pending h) slot h.u.pending h.u.call now) is)
      ∙ goes

  pub resume_piped : (reads : Bool) → ((h.u.pending == LINE_READ) || (h.u.pending == LINE_WRITE)) ≡ false → (h.u.pending == PIPE_READ) ≡ reads
      → piped_on (without_pending h) slot h.u.call now reads ≡ resumes h slot now
  resume_piped reads other is =
      sym (ap (piped_on (without_pending h) slot h.u.call now) is)
      ∙ sym (ap (λ b. if b then goes_on_line (without_pending h) h.u.pending h.u.call else goes_on_pipe (without_pending h) slot h.u.pending h.u.call now) other)
      ∙ goes
