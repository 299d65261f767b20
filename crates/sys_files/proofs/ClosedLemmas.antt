-- What dup and close keep.
use Rattle.std.proofs.Common.{◌≡◌, ℕ, Bool, true, false, ◌+◌, ◌<◌, ◌≤◌, ◌==◌, List, [], length, Option, Some, None, is_some, IsSome, cond, eqb, slice_index, slice_set, refl, sym, ap, ◌∙◌, subst, arith}
use Rattle.std.proofs.lemmas.Bool.{ne_eqb, eq-eqb, eqb-true, false≢true}
use Rattle.std.proofs.lemmas.List.Quantifiers.{position-Some}
use Rattle.v6_base.specs.declared.errno.Errno.TheVariants.{EBADF, EMFILE}
use Rattle.open_files.specs.declared.file.OpenFile.{OpenFile}
use Rattle.open_files.specs.declared.file.Closed.{Closed}
use Rattle.open_files.specs.declared.file.Closed.TheVariants.{Still, Last}
use Rattle.open_files.specs.Files.{file_at, entry_of, times, free_number, changed, with_more, with_fewer, left}
use Rattle.pipe_ends.specs.declared.ends.Pipe.{Pipe}
use Rattle.tty_line.specs.Terminal.{Terminal}
use Rattle.fs_tree.proofs.MountLemmas.{mounts_stay}
use Rattle.sys_files.specs.Handed.{Handed, r0, file_of, with_number, let_go}
use Rattle.sys_files.specs.Did.{need, fails}
use Rattle.sys_files.specs.Pipes.{ArePipes}
use Rattle.sys_files.specs.Sound.{is_of, numbers_of, IsSound, IsKept}
use Rattle.sys_files.specs.Descriptors.{open_entry, dup_file, line_closed, released, closes, close_file}
use Rattle.sys_files.proofs.PipeLemmas.{pipes_changed}
use Rattle.sys_files.proofs.StayingLemmas.{stays_then, stays_changed, stays_freed}
use Rattle.sys_files.proofs.ReleasedLemmas.{roused, gone, released_still, released_last, pipes_roused, pipes_gone}
use Rattle.sys_files.proofs.NumberLemmas.{number_low, given_times, taken_times, numbers_change, open_given, open_taken}
use Rattle.sys_files.proofs.CheckLemmas.{check_quiet, check_err}
use Rattle.sys_files.proofs.OwedLemmas.{count_changed, counted, used_low, file_referred}
use Rattle.sys_files.proofs.OwingLemmas.{IsKeptBut, kept_begins, kept_ends, kept_check, once_less, let_go_counts}
use Rattle.sys_files.proofs.DescriptorLemmas.{entry_is, entry_err, need_is, same_file}

-- A number is given to a file that is open.
pub kept_given : (old now : Handed) (taken : List ℕ) (fd entry : ℕ) (file : OpenFile) → IsKeptBut old now taken
    → fd < length now.u.files → slice_index now.u.files fd ≡ 0
    → file_at now.files entry ≡ Some file
    → IsKeptBut old (record now {
      files = slice_set now.files entry (Some (with_more 1 file));
      u = with_number now.u fd (entry + 1);
    }) taken
kept_given old now taken fd entry file k low none is =
    let here = used_low now.files entry file is in
    let count : numbers_of (file_at now.files entry) ≡ file.count = ap numbers_of is in
    let own = given_times now.u.files fd entry entry low none in
    let one : cond {A = ℕ} (eqb entry entry) 1 0 ≡ 1 = ap (λ t. cond {A = ℕ} t 1 0) (eq-eqb entry entry refl) in
    record {
      is_open = open_given now.files now.u.files fd entry (Some (with_more 1 file)) here refl k.is_open;
      numbers = λ e.
          let before = k.numbers e in
          let change = numbers_change now.files now.u.files (slice_set now.u.files fd (entry + 1)) entry
          (Some (with_more 1 file)) here (omega (arith, count, own, one))
          (λ i other. let at = given_times now.u.files fd entry i low none in
          let zero : cond {A = ℕ} (eqb entry i) 1 0 ≡ 0 = ap (λ t. cond {A = ℕ} t 1 0) (ne_eqb entry i other) in
          omega (arith, at, zero)) e in
          omega (arith, before, change);
      references = λ i.
          let before = k.references i in
          let change = count_changed (is_of i) now.files entry (Some (with_more 1 file)) None here in
          let was : cond {A = ℕ} (is_of i (file_at now.files entry)) 1 0 ≡ cond (is_of i (Some file)) 1 0 =
          ap (λ o. cond {A = ℕ} (is_of i o) 1 0) is in
          omega (arith, before, change, was);
      counts = k.counts;
      mounts = k.mounts;
      pipes = pipes_changed now.files now.pipes entry file (with_more 1 file) is refl refl k.pipes;
      others = stays_then old.files now.files (slice_set now.files entry (Some (with_more 1 file))) old.u.files k.others
          (stays_changed now.files entry file (with_more 1 file) is refl refl);
    }

pub dup_kept : (h : Handed) → IsSound h → IsKept h (dup_file h).state
dup_kept h sound = kept_ends h (dup_file h).state
    (kept_check h h [] (open_entry h (r0 h)) _ (kept_begins h sound) (λ entry opened.
    kept_check h h [] (need EMFILE (free_number h.u.files)) _ (kept_begins h sound) (λ fd free.
    let named = entry_is h (r0 h) entry opened in
    let used : IsSome (file_at h.files entry) = ap (λ e. is_some (file_at h.files e)) named.1 ∙ sound.is_open (r0 h) named.0 in
    let is = same_file h entry used in
    let P : Option OpenFile → Type 0 =
    λ o. IsKeptBut h (record h {
      files = slice_set h.files entry (changed (with_more 1) o);
      u = with_number h.u fd (entry + 1);
    }) [] in
    let first = position-Some (λ number. number == 0) h.u.files fd 0 (need_is EMFILE (free_number h.u.files) fd free) in
    subst P (sym is) (kept_given h h [] fd entry (file_of h entry) (kept_begins h sound) first.0
    (eqb-true (slice_index h.u.files fd) 0 first.1) is))))

-- It shows nothing.
pub dup_quiet : (h : Handed) → (dup_file h).items ≡ []
dup_quiet h = check_quiet h (open_entry h (r0 h)) _ (λ entry. check_quiet h (need EMFILE (free_number h.u.files)) _ (λ fd. refl))

-- A number that names an entry is counted, and its file has room for it.
named_once : (h : Handed) (fd entry : ℕ) → slice_index h.u.files fd ≡ entry + 1 → 1 ≤ times h.u.files entry
named_once h fd entry named = counted (λ number. number == entry + 1) h.u.files fd 0
    (number_low h.u.files fd (omega (arith, named))) (eq-eqb (slice_index h.u.files fd) (entry + 1) named)

-- A number is closed whose file other numbers name still.
kept_still : (h : Handed) (fd entry : ℕ) (file : OpenFile) (pipes : List Pipe) → IsSound h
    → slice_index h.u.files fd ≡ entry + 1 → file_at h.files entry ≡ Some file
    → ArePipes (slice_set h.files entry (Some (with_fewer file))) pipes
    → IsKept h (record h { files = slice_set h.files entry (Some (with_fewer file)); u = with_number h.u fd 0; pipes = pipes })
kept_still h fd entry file pipes sound named is are =
    let here = used_low h.files entry file is in
    let count : numbers_of (file_at h.files entry) ≡ file.count = ap numbers_of is in
    let own = taken_times h.u.files fd entry entry named in
    let one : cond {A = ℕ} (eqb entry entry) 1 0 ≡ 1 = ap (λ t. cond {A = ℕ} t 1 0) (eq-eqb entry entry refl) in
    let least = named_once h fd entry named in
    let most = sound.counted entry file is in
    record {
      is_open = open_taken h.files h.u.files fd entry (Some (with_fewer file)) here named
          (λ none. absurd (false≢true (sym none))) sound.is_open;
      numbers = numbers_change h.files h.u.files (slice_set h.u.files fd 0) entry (Some (with_fewer file)) here
          (omega (arith, count, own, one, least, most))
          (λ i other. let at = taken_times h.u.files fd entry i named in
          let zero : cond {A = ℕ} (eqb entry i) 1 0 ≡ 0 = ap (λ t. cond {A = ℕ} t 1 0) (ne_eqb entry i other) in
          omega (arith, at, zero));
      references = λ i.
          let change = count_changed (is_of i) h.files entry (Some (with_fewer file)) None here in
          let was : cond {A = ℕ} (is_of i (file_at h.files entry)) 1 0 ≡ cond (is_of i (Some file)) 1 0 =
          ap (λ o. cond {A = ℕ} (is_of i o) 1 0) is in
          omega (arith, change, was);
      counts = refl;
      mounts = sound.mounts;
      pipes = are;
      others = λ e f at fewer. stays_changed h.files entry file (with_fewer file) is refl refl e f at;
    }

-- The last number of a file is closed: its reference to the inode goes, and the lines may be others.
kept_last : (h : Handed) (fd entry : ℕ) (file : OpenFile) (pipes : List Pipe) (lines : List Terminal) → IsSound h
    → slice_index h.u.files fd ≡ entry + 1 → file_at h.files entry ≡ Some file
    → file.count ≡ 1 → ArePipes (slice_set h.files entry None) pipes
    → IsKept h (let_go (record h {
      files = slice_set h.files entry None;
      u = with_number h.u fd 0;
      pipes = pipes;
      lines = lines;
    }) file.ino)
kept_last h fd entry file pipes lines sound named is last are =
    let here = used_low h.files entry file is in
    let count : numbers_of (file_at h.files entry) ≡ file.count = ap numbers_of is in
    let own = taken_times h.u.files fd entry entry named in
    let one : cond {A = ℕ} (eqb entry entry) 1 0 ≡ 1 = ap (λ t. cond {A = ℕ} t 1 0) (eq-eqb entry entry refl) in
    let least = named_once h fd entry named in
    let most = sound.counted entry file is in
    record {
      is_open = open_taken h.files h.u.files fd entry None here named (λ none. omega (arith, most, last)) sound.is_open;
      numbers = numbers_change h.files h.u.files (slice_set h.u.files fd 0) entry None here
          (omega (arith, count, own, one, last))
          (λ i other. let at = taken_times h.u.files fd entry i named in
          let zero : cond {A = ℕ} (eqb entry i) 1 0 ≡ 0 = ap (λ t. cond {A = ℕ} t 1 0) (ne_eqb entry i other) in
          omega (arith, at, zero));
      references = λ i.
          let change = count_changed (is_of i) h.files entry None None here in
          let was : cond {A = ℕ} (is_of i (file_at h.files entry)) 1 0 ≡ cond (is_of i (Some file)) 1 0 =
          ap (λ o. cond {A = ℕ} (is_of i o) 1 0) is in
          let less = once_less h.inodes.references file.ino i (file_referred h entry file sound is) in
          omega (arith, change, was, less);
      counts = let_go_counts h file.ino;
      mounts = mounts_stay h.mounts h.inodes.store (let_go h file.ino).inodes.store (let_go_counts h file.ino) sound.mounts;
      pipes = are;
      others = stays_freed h.files h.u.files entry file is (omega (arith, last, least));
    }

pub closes_kept : (h : Handed) (fd : ℕ) → IsSound h → 0 < slice_index h.u.files fd → IsKept h (closes h fd).state
closes_kept h fd sound some = by (file.count == 1) refl
  where
    entry : ℕ
    entry = entry_of h.u.files fd

    file : OpenFile
    file = file_of h entry

    is : file_at h.files entry ≡ Some file
    is = same_file h entry (sound.is_open fd some)

    dropped_so : Option OpenFile → Handed
    dropped_so o = record h { files = slice_set h.files entry o; u = with_number h.u fd 0 }

    still : Closed → Handed
    still told = (released (dropped_so (left told)) told).state

    by : (t : Bool) → (file.count == 1) ≡ t → IsKept h (still (cond t (Last (with_fewer file)) (Still (with_fewer file))))
    by true last =
        let pipes = pipes_gone h.files h.pipes entry file is sound.pipes in
        subst (IsKept h) (sym (released_last (dropped_so None) (with_fewer file)))
        (kept_last h fd entry file (gone (slice_set h.files entry None) (roused h.pipes (with_fewer file)) (with_fewer file))
        (line_closed (record (dropped_so None) {
          pipes = gone (slice_set h.files entry None) (roused h.pipes (with_fewer file)) (with_fewer file);
        }) (with_fewer file)).state.lines
        sound (omega (arith, some)) is (eqb-true file.count 1 last) pipes)
    by false more =
        let now : List (Option OpenFile) = slice_set h.files entry (Some (with_fewer file)) in
        let pipes = pipes_changed h.files h.pipes entry file (with_fewer file) is refl refl sound.pipes in
        subst (IsKept h) (sym (released_still (dropped_so (Some (with_fewer file))) (with_fewer file)))
        (kept_still h fd entry file (roused h.pipes (with_fewer file)) sound (omega (arith, some)) is
        (pipes_roused now h.pipes (with_fewer file) pipes))

-- A number that is not open is not closed.
pub close_refused : (h : Handed) → slice_index h.u.files (r0 h) ≡ 0 → close_file h ≡ fails h EBADF
close_refused h none = check_err h (open_entry h (r0 h)) _ EBADF (entry_err h (r0 h) none)
