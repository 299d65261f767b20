-- What a read comes to, by its tests, and what it keeps.
use Rattle.std.proofs.Common.{◌≡◌, ◌+◌, ◌%◌, ◌^◌, ℕ, Bool, true, false, cond, pos, List, [], ◌∷◌, is_some, Option, Some, None, Result, Ok, Err, if◌then◌else◌, refl, sym, ap, ◌∙◌, subst}
use Rattle.v6_base.specs.Image.{Image}
use Rattle.v6_base.specs.declared.answer.Answer.{Answer}
use Rattle.v6_base.specs.declared.errno.Errno.{Errno}
use Rattle.v6_base.specs.declared.answer.Answer.TheVariants.{Sleep}
use Rattle.lines_eight.specs.Lines.{terminal_at, with_terminal}
use Rattle.lines_eight.specs.Told.{keys_of}
use Rattle.v6_base.specs.declared.errno.Errno.TheVariants.{EBADF, EINTR}
use Rattle.open_files.specs.declared.file.OpenFile.{OpenFile}
use Rattle.fs_laws.specs.Pieces.{Moving}
use Rattle.sys_files.specs.Handed.{Handed, r0, node_at, file_of, line_of}
use Rattle.sig_core.specs.Signals.{due}
use Rattle.sys_files.specs.Did.{Did, fails, check, must}
use Rattle.sys_files.specs.Descriptors.{open_entry}
use Rattle.u_area.specs.declared.layout.TheConstants.{LINE_READ}
use Rattle.u_area.specs.declared.area.UArea.{UArea}
use Rattle.tty_line.specs.declared.line.Took.{Took}
use Rattle.tty_line.specs.declared.line.Took.TheVariants.{Done, Wait, Fault}
use Rattle.tty_line.specs.Terminal.{Terminal}
use Rattle.tty_line.specs.Reading.{Reading, reads}
use Rattle.sys_files.specs.Moving.{gives_count, read_of, with_read, line_read, with_line_read, waits_for_keys, takes_line, reads_line, reads_by, reads_from, read_file_of}
use Rattle.sys_files.specs.Piping.{reads_pipe}
use Rattle.sys_files.specs.Sound.{IsSound, IsKept}
use Rattle.sys_files.specs.Entering.{did_with}
use Rattle.sys_files.proofs.KeptLemmas.{kept_same}
use Rattle.sys_files.proofs.OffsetLemmas.{kept_moved, moved_counts}
use Rattle.sys_files.proofs.PipeKeptLemmas.{pipe_read_kept}

-- a count, or an error, leaves the parts as they are, and shows nothing
pub gives_state : (h : Handed) (count : ℕ) (e : Option Errno) → (gives_count h count e).state ≡ h
gives_state h count None = refl
gives_state h count (Some e) = refl

pub gives_items : (h : Handed) (count : ℕ) (e : Option Errno) → (gives_count h count e).items ≡ []
gives_items h count None = refl
gives_items h count (Some e) = refl

pub gives_told : (h : Handed) (count : ℕ) (e : Option Errno) (a : Answer) → a ≡ (gives_count h count e).answer → gives_count h count e ≡ did_with h a
gives_told h count None a is = sym (ap (did_with h) is)
gives_told h count (Some e) a is = sym (ap (did_with h) is)

-- what a read of a line comes to, by what it took
pub line_is : (h : Handed) (l : ℕ) (lines : List Terminal) (image : Image) (entry at count : ℕ) (took : Took) → h.lines ≡ lines → h.image ≡ image
    → took ≡ (reads (terminal_at lines l) image at count).took
    → reads_line h l entry at count ≡ takes_line (with_line_read h l (reads (terminal_at lines l) image at count)) l entry at count took
line_is h l lines image entry at count took lines_same image_same is =
    ap (λ (r : Reading). takes_line (with_line_read h l r) l entry at count r.took)
    (ap (λ (ts : List Terminal). reads (terminal_at ts l) h.image at count) lines_same ∙ ap (λ (m : Image). reads (terminal_at lines l) m at count) image_same)
    ∙ sym (ap (takes_line (with_line_read h l (reads (terminal_at lines l) image at count)) l entry at count) is)

-- the parts after a read of a line, with what it answers
pub line_left : (h : Handed) (l : ℕ) (r : Reading) (old lines : List Terminal) (image : Image) (u : UArea) (answer : UArea → Answer) → h.lines ≡ old
    → lines ≡ with_terminal old l r.terminal → image ≡ r.image
    → h.u ≡ u → did_with (with_line_read h l r) (answer h.u) ≡ did_with (record h { lines = lines; u = u; image = image }) (answer u)
line_left h l r old lines image u answer old_same lines_same image_same u_same =
    let of_code = sym u_same in
    let now : lines ≡ with_terminal h.lines l r.terminal = lines_same ∙ ap (λ (ts : List Terminal). with_terminal ts l r.terminal) (sym old_same) in
    sym (λ i. did_with (record h { lines = now i; u = of_code i; image = image_same i }) (answer (of_code i)))

abbrev read_as : Handed → ℕ → ℕ → ℕ → ℕ → Option ℕ → Did
read_as h entry at count now line =
    let m : Moving Image = read_of h entry at count now in reads_by (with_read h entry m) line entry at count m

abbrev read_any : Handed → ℕ → ℕ → ℕ → ℕ → Bool → Did
read_any h entry at count now pipe = if pipe then reads_pipe h entry at count now else reads_from h entry at count now

abbrev read_if : Handed → ℕ → ℕ → ℕ → ℕ → Bool → Did
read_if h entry at count now reading =
    check h (must EBADF reading) (λ may. read_any h entry at count now (file_of h entry).kind.pipe)

abbrev read_found : Handed → ℕ → ℕ → ℕ → Result ℕ Errno → Did
read_found h at count now found = check h found (λ entry. read_if h entry at count now (file_of h entry).kind.reading)

pub read_of_line : (h : Handed) (entry at count now l : ℕ) (file : OpenFile) → file ≡ file_of h entry → Some l ≡ line_of h (node_at h file.ino)
    → reads_line (with_read h entry (read_of h entry at count now)) l entry at count ≡ reads_from h entry at count now
read_of_line h entry at count now l file is line =
    ap (read_as h entry at count now) (line ∙ ap (λ (x : OpenFile). line_of h (node_at h x.ino)) is)

pub read_gives : (h : Handed) (entry at count now : ℕ) (file : OpenFile) → file ≡ file_of h entry → None ≡ line_of h (node_at h file.ino)
    → gives_count (with_read h entry (read_of h entry at count now)) (read_of h entry at count now).done (read_of h entry at count now).error
    ≡ reads_from h entry at count now
read_gives h entry at count now file is none =
    ap (read_as h entry at count now) (none ∙ ap (λ (x : OpenFile). line_of h (node_at h x.ino)) is)

pub read_refused : (h : Handed) (at count now : ℕ) (e : Errno) → Err e ≡ open_entry h (r0 h) → fails h e ≡ read_file_of h at count now
read_refused h at count now e found = ap (read_found h at count now) found

pub read_not_open : (h : Handed) (at count now entry : ℕ) (file : OpenFile) → Ok entry ≡ open_entry h (r0 h) → file ≡ file_of h entry → file.kind.reading ≡ false
    → fails h EBADF ≡ read_file_of h at count now
read_not_open h at count now entry file found is reading =
    ap (read_if h entry at count now) (sym reading ∙ ap (λ (x : OpenFile). x.kind.reading) is) ∙ ap (read_found h at count now) found

module _ (h : Handed) (at count now entry : ℕ) (file : OpenFile) (found : Ok entry ≡ open_entry h (r0 h))
    (is : file ≡ file_of h entry)
    (reading : file.kind.reading ≡ true) where
  read_row : (pipe : Bool) → file.kind.pipe ≡ pipe → read_any h entry at count now pipe ≡ read_file_of h at count now
  read_row pipe kind =
      ap (read_any h entry at count now) (sym kind ∙ ap (λ (x : OpenFile). x.kind.pipe) is)
      ∙ ap (read_if h entry at count now) (sym reading ∙ ap (λ (x : OpenFile). x.kind.reading) is) ∙ ap
      (read_found h at count now) found

  pub read_done : file.kind.pipe ≡ false → reads_from h entry at count now ≡ read_file_of h at count now
  read_done plain = read_row false plain

  pub read_piped : file.kind.pipe ≡ true → reads_pipe h entry at count now ≡ read_file_of h at count now
  read_piped pipe = read_row true pipe

abbrev read_place : Handed → ℕ → ℕ → ℕ → ℕ → ℕ
read_place h entry at count now = ((file_of h entry).offset + (read_of h entry at count now).done) % 2 ^ 32

-- A sleep leaves another call that goes on, unless a signal is due.
pub kept_waits : (old h : Handed) (l entry at count : ℕ) → IsKept old h
    → IsKept old (record h { u = record h.u { pending = LINE_READ; call = entry ∷ at ∷ count ∷ 0 ∷ 0 ∷ 0 ∷ 0 ∷ 0 ∷ [] } })
    → IsKept old (waits_for_keys h l entry at count).state
kept_waits old h l entry at count same waits = by (is_some (due h.row h.u))
  where
    by : (b : Bool) → IsKept old (cond {A = Did} b (fails h EINTR) (record {
      answer = Sleep (pos 10) (keys_of l);
      state = record h { u = record h.u { pending = LINE_READ; call = entry ∷ at ∷ count ∷ 0 ∷ 0 ∷ 0 ∷ 0 ∷ 0 ∷ [] } };
      items = [];
      named = [];
    })).state
    by true = same
    by false = waits

kept_took : (h : Handed) (l entry at count now : ℕ) (r : Reading) (took : Took) → IsSound h
    → IsKept h (takes_line (with_line_read (with_read h entry (read_of h entry at count now)) l r) l entry at count took).state
kept_took h l entry at count now r (Done n) sound =
    kept_moved h _ entry (read_place h entry at count now) sound refl refl refl refl refl refl
    (moved_counts h entry (read_of h entry at count now))
kept_took h l entry at count now r Wait sound =
    kept_waits h (with_line_read (with_read h entry (read_of h entry at count now)) l r) l entry at count
    (kept_moved h _ entry (read_place h entry at count now) sound refl refl refl refl refl refl
    (moved_counts h entry (read_of h entry at count now)))
    (kept_moved h _ entry (read_place h entry at count now) sound refl refl refl refl refl refl
    (moved_counts h entry (read_of h entry at count now)))
kept_took h l entry at count now r Fault sound =
    kept_moved h _ entry (read_place h entry at count now) sound refl refl refl refl refl refl
    (moved_counts h entry (read_of h entry at count now))

kept_as : (h : Handed) (entry at count now : ℕ) (line : Option ℕ) → IsSound h → IsKept h (read_as h entry at count now line).state
kept_as h entry at count now (Some l) sound =
    let r : Reading = line_read (with_read h entry (read_of h entry at count now)) l at count in
    kept_took h l entry at count now r r.took sound
kept_as h entry at count now None sound =
    let m : Moving Image = read_of h entry at count now in
    subst (IsKept h) (sym (gives_state (with_read h entry m) m.done m.error))
    (kept_moved h (with_read h entry m) entry (read_place h entry at count now) sound refl refl refl refl refl refl
    (moved_counts h entry m))

kept_any : (h : Handed) (entry at count now : ℕ) (pipe : Bool) → IsSound h → IsKept h (read_any h entry at count now pipe).state
kept_any h entry at count now true sound = pipe_read_kept h sound h.u.pending h.u.call entry at count now
kept_any h entry at count now false sound = kept_as h entry at count now (line_of h (node_at h (file_of h entry).ino)) sound

kept_if : (h : Handed) (entry at count now : ℕ) (reading : Bool) → IsSound h → IsKept h (read_if h entry at count now reading).state
kept_if h entry at count now true sound = kept_any h entry at count now (file_of h entry).kind.pipe sound
kept_if h entry at count now false sound = kept_same h h sound refl refl refl refl refl refl refl

kept_found : (h : Handed) (at count now : ℕ) (found : Result ℕ Errno) → IsSound h → IsKept h (read_found h at count now found).state
kept_found h at count now (Ok entry) sound = kept_if h entry at count now (file_of h entry).kind.reading sound
kept_found h at count now (Err e) sound = kept_same h h sound refl refl refl refl refl refl refl

pub read_kept : (h : Handed) (at count now : ℕ) → IsSound h → IsKept h (read_file_of h at count now).state
read_kept h at count now sound = kept_found h at count now (open_entry h (r0 h)) sound
