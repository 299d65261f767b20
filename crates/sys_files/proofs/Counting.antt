-- How the rows of calls on files count the numbers that name open files: each number that is given and taken is counted, each
-- number names
-- an entry in use, and a file of which another process has a number too stays open.
use Rattle.std.proofs.Common.{◌≡◌, ◌≢◌, ◌<◌, ◌≤◌, ◌+◌, ◌∙◌, ◌==◌, ℕ, Bool, true, false, cond, eqb, List, length, Option, Some, None, IsSome, is_some, is_none, unwrap_or, slice_index, slice_set, refl, sym, ap, subst, inl, inr, arith}
use Rattle.std.proofs.lemmas.Bool.{cases_eq, eq-eqb, ne_eqb, eqb-true, false≢true}
use Rattle.std.proofs.lemmas.List.{length-set, set-get_or}
use Rattle.std.proofs.lemmas.List.Quantifiers.{position-Some}
use Rattle.open_files.specs.declared.file.OpenFile.{OpenFile}
use Rattle.open_files.specs.declared.file.Closed.TheVariants.{Still, Last}
use Rattle.open_files.specs.Files.{file_at, times, entry_of, free_number, free_entry, opened, changed, with_more, with_offset, with_fewer, with_change, closed, left, AreOpen}
use Rattle.sys_files.specs.Handed.{Handed, no_file}
use Rattle.sys_files.specs.Sound.{numbers_of}
use Rattle.sys_files.specs.Descriptors.{close_all}
use Rattle.sys_files.specs.Piping.{reading_end, writing_end}
use Rattle.sys_files.proofs.OwedLemmas.{used_low, counted}
use Rattle.sys_files.proofs.NumberLemmas.{number_low, given_times, taken_times, set_here, set_there, numbers_change, open_given, open_taken}
use Rattle.sys_files.proofs.PipeLemmas.{free_other, set_other}
use Rattle.sys_files.proofs.StayingLemmas.{Stay, stays_there, stays_changed, stays_freed, stays_after}
use Rattle.sys_files.proofs.Walks.{Walks, walk_closes, closes_all}

-- From a table and numbers to others. No file had fewer numbers than the process has of it.
pub record Counted (files : List (Option OpenFile)) (mine : List ℕ) (new : List (Option OpenFile)) (its : List ℕ) : Type 0 where
  pub is_open : AreOpen new its
  pub numbers : (entry : ℕ) → numbers_of (file_at new entry) + times mine entry ≡ numbers_of
      (file_at files entry) + times its entry
  pub others : Stay files mine new
  pub long : length its ≡ length mine
  pub few : (entry : ℕ) → times mine entry ≤ numbers_of (file_at files entry)

pub counted_same : (files : List (Option OpenFile)) (mine : List ℕ) → AreOpen files mine
    → ((entry : ℕ) → times mine entry ≤ numbers_of (file_at files entry))
    → Counted files mine files mine
counted_same files mine is_open few = record {
  is_open = is_open;
  numbers = λ entry. refl;
  others = λ entry file is fewer. stays_there files entry file is;
  long = refl;
  few = few;
}

-- no more numbers are had now than are counted
now_few : (files new : List (Option OpenFile)) (mine its : List ℕ) → Counted files mine new its → (entry : ℕ)
    → times its entry ≤ numbers_of (file_at new entry)
now_few files new mine its k entry = let count = k.numbers entry in let few = k.few entry in omega (arith, count, few)

counted_then : (files new next : List (Option OpenFile)) (mine its own : List ℕ) → Counted files mine new its → AreOpen next own
    → ((entry : ℕ) → numbers_of (file_at next entry) + times its entry ≡ numbers_of (file_at new entry) + times own entry)
    → Stay new its next → length own ≡ length its → Counted files mine next own
counted_then files new next mine its own k is_open numbers others long = record {
  is_open = is_open;
  numbers = λ entry. let before = k.numbers entry in let change = numbers entry in omega (arith, before, change);
  others = stays_after files new next mine its k.others k.numbers others;
  long = long ∙ k.long;
  few = k.few;
}

-- where a free number and a free entry stand
number_place : (mine : List ℕ) (fd : ℕ) → free_number mine ≡ Some fd → (fd < length mine) × (slice_index mine fd ≡ 0)
number_place mine fd is = let first = position-Some (λ number. number == 0) mine fd 0 is in
    (first.0, eqb-true (slice_index mine fd) 0 first.1)

none_is : (o : Option OpenFile) → is_none o ≡ true → o ≡ None
none_is None is = refl
none_is (Some file) is = absurd (false≢true is)

entry_place : (files : List (Option OpenFile)) (entry : ℕ) → free_entry files ≡ Some entry
    → (entry < length files) × (file_at files entry ≡ None)
entry_place files entry is = let first = position-Some is_none files entry None is in
    (first.0, none_is (file_at files entry) first.1)

used_is : (o : Option OpenFile) → IsSome o → o ≡ Some (unwrap_or o no_file)
used_is (Some file) some = refl
used_is None some = absurd (false≢true some)

one : (a : ℕ) → cond {A = ℕ} (eqb a a) 1 0 ≡ 1
one a = ap (λ t. cond {A = ℕ} t 1 0) (eq-eqb a a refl)

no_one : (a b : ℕ) → a ≢ b → cond {A = ℕ} (eqb a b) 1 0 ≡ 0
no_one a b other = ap (λ t. cond {A = ℕ} t 1 0) (ne_eqb a b other)

module _ (files : List (Option OpenFile)) (mine : List ℕ) (new : List (Option OpenFile)) (its : List ℕ)
    (k : Counted files mine new its) where
  -- a file is opened, with one number
  counted_opened : (file : OpenFile) (fd entry : ℕ) → file.count ≡ 1 → free_number its ≡ Some fd → free_entry new ≡ Some entry
      → Counted files mine (slice_set new entry (Some file)) (slice_set its fd (entry + 1))
  counted_opened file fd entry once number free =
      let place = number_place its fd number in
      let room = entry_place new entry free in
      let own = given_times its fd entry entry place.0 place.1 in
      let none : numbers_of (file_at new entry) ≡ 0 = ap numbers_of room.1 in
      let count = one entry in
      counted_then files new (slice_set new entry (Some file)) mine its (slice_set its fd (entry + 1)) k
      (open_given new its fd entry (Some file) room.0 refl k.is_open)
      (numbers_change new its (slice_set its fd (entry + 1)) entry (Some file) room.0 (omega (arith, once, own, none, count))
      (λ i other. let at = given_times its fd entry i place.0 place.1 in let zero =
      no_one entry i other in omega (arith, at, zero)))
      (λ e f at fewer. stays_there (slice_set new entry (Some file)) e f
      (set_other new entry e (Some file) f (free_other new entry e f room.1 at) at))
      (length-set its fd (entry + 1))

  -- a file that is open is given one number more
  counted_given : (fd entry : ℕ) → IsSome (file_at new entry) → free_number its ≡ Some fd
      → Counted files mine (with_change new entry (with_more 1)) (slice_set its fd (entry + 1))
  counted_given fd entry used number =
      let file : OpenFile = unwrap_or (file_at new entry) no_file in
      let is : file_at new entry ≡ Some file = used_is (file_at new entry) used in
      let place = number_place its fd number in
      let here = used_low new entry file is in
      let own = given_times its fd entry entry place.0 place.1 in
      let count : numbers_of (file_at new entry) ≡ file.count = ap numbers_of is in
      let more = one entry in
      subst (λ o. Counted files mine (slice_set new entry (changed (with_more 1) o)) (slice_set its fd (entry + 1))) (sym is)
      (counted_then files new (slice_set new entry (Some (with_more 1 file))) mine its (slice_set its fd (entry + 1)) k
      (open_given new its fd entry (Some (with_more 1 file)) here refl k.is_open)
      (numbers_change new its (slice_set its fd (entry + 1)) entry (Some (with_more 1 file)) here
      (omega (arith, count, own, more))
      (λ i other. let at = given_times its fd entry i place.0 place.1 in let zero =
      no_one entry i other in omega (arith, at, zero)))
      (λ e f at fewer. stays_changed new entry file (with_more 1 file) is refl refl e f at)
      (length-set its fd (entry + 1)))

  -- a file that is open has another offset
  open_set : (entry : ℕ) (file : OpenFile) → entry < length new → AreOpen (slice_set new entry (Some file)) its
  open_set entry file low fd above = elim (cases_eq (entry_of its fd) entry) [
    | inl same ↦ ap (λ i. is_some (file_at (slice_set new entry (Some file)) i)) same
        ∙ ap is_some (set_here new entry (Some file) low)
    | inr other ↦ ap is_some (set_there new entry (entry_of its fd) (Some file) other) ∙ k.is_open fd above
  ]

  counted_offset : (entry offset : ℕ) → Counted files mine (with_change new entry (with_offset offset)) its
  counted_offset entry offset = by (file_at new entry) refl
    where
      by : (o : Option OpenFile) → file_at new entry ≡ o → Counted files mine
          (slice_set new entry (changed (with_offset offset) o)) its
      by None is = subst (λ l. Counted files mine l its) (sym (ap (slice_set new entry) (sym is) ∙ set-get_or new entry None)) k
      by (Some file) is =
          let here = used_low new entry file is in
          let count : numbers_of (file_at new entry) ≡ file.count = ap numbers_of is in
          counted_then files new (slice_set new entry (Some (with_offset offset file))) mine its its k
          (open_set entry (with_offset offset file) here)
          (numbers_change new its its entry (Some (with_offset offset file)) here (omega (arith, count)) (λ i other. refl))
          (λ e f at fewer. stays_changed new entry file (with_offset offset file) is refl refl e f at) refl

  -- a number lets its file go
  counted_left : (fd : ℕ) → 0 < slice_index its fd
      → Counted files mine (slice_set new (entry_of its fd) (left (closed (unwrap_or (file_at new (entry_of its fd)) no_file))))
      (slice_set its fd 0)
  counted_left fd above = by (file.count == 1) refl
    where
      entry : ℕ
      entry = entry_of its fd

      file : OpenFile
      file = unwrap_or (file_at new entry) no_file

      is : file_at new entry ≡ Some file
      is = used_is (file_at new entry) (k.is_open fd above)

      named : slice_index its fd ≡ entry + 1
      named = omega (arith, above)

      here : entry < length new
      here = used_low new entry file is

      count : numbers_of (file_at new entry) ≡ file.count
      count = ap numbers_of is

      least : 1 ≤ times its entry
      least = counted (λ number. number == entry + 1) its fd 0 (number_low its fd above)
          (eq-eqb (slice_index its fd) (entry + 1) named)

      most : times its entry ≤ numbers_of (file_at new entry)
      most = now_few files new mine its k entry

      own : times (slice_set its fd 0) entry + cond {A = ℕ} (eqb entry entry) 1 0 ≡ times its entry
      own = taken_times its fd entry entry named

      others : (i : ℕ) → entry ≢ i → times (slice_set its fd 0) i ≡ times its i
      others i other = let at = taken_times its fd entry i named in let zero = no_one entry i other in omega (arith, at, zero)

      by : (b : Bool) → (file.count == 1) ≡ b
          → Counted files mine (slice_set new entry (left (cond b (Last (with_fewer file)) (Still (with_fewer file)))))
          (slice_set its fd 0)
      by true e =
          let last = eqb-true file.count 1 e in
          let once = one entry in
          counted_then files new (slice_set new entry None) mine its (slice_set its fd 0) k
          (open_taken new its fd entry None here named (λ none. omega (arith, most, last, count)) k.is_open)
          (numbers_change new its (slice_set its fd 0) entry None here (omega (arith, count, own, once, last)) others)
          (stays_freed new its entry file is (omega (arith, last, least)))
          (length-set its fd 0)
      by false e =
          let once = one entry in
          counted_then files new (slice_set new entry (Some (with_fewer file))) mine its (slice_set its fd 0) k
          (open_taken new its fd entry (Some (with_fewer file)) here named (λ none. absurd (false≢true (sym none))) k.is_open)
          (numbers_change new its (slice_set its fd 0) entry (Some (with_fewer file)) here
          (omega (arith, count, own, once, least, most)) others)
          (λ x f at fewer. stays_changed new entry file (with_fewer file) is refl refl x f at)
          (length-set its fd 0)

-- Each row of a call on files counts so.
abbrev pub IsCounted : Handed → Handed → Type 0
IsCounted old h = Counted old.files old.u.files h.files h.u.files

pub counted_walks : (old : Handed) (slot : ℕ) → Walks (IsCounted old) (λ d. IsCounted old d.state) (λ count. Unit {0})
    (λ ino. Unit {0}) (λ line. Unit {0}) (λ key. Unit {0}) (Unit {0}) (Unit {0}) slot
counted_walks old slot = record {
  refused = λ h e p. p;
  done = λ h a b p. p;
  lets_go = λ ino d p. p tt;
  named = λ ino d p. p tt;
  waits = λ h l entry at count calling line p. p;
  waits_for_room = λ h l entry at count done calling line p. p;
  waits_in_pipe = λ h chan pending entry at count left which of awaits p. p;
  tells = λ entries d few all quiet p. p;
  lets_out = λ h l front back d few first second here quiet p. p;
  showing = λ l line bytes count d long few p. p;
  inodes = λ h inodes same touches p. p;
  made = λ h dir mode user now here p. p;
  opened = λ h ino kind fd entry plain number free here moves p. counted_opened old.files old.u.files h.files h.u.files p
      (opened ino kind) fd entry refl number free;
  ends = λ h ino fd entry next_fd next_entry above within number free next_number next_free here moves p.
      counted_opened old.files old.u.files (slice_set h.files entry (Some (opened ino reading_end)))
      (slice_set h.u.files fd (entry + 1))
      (counted_opened old.files old.u.files h.files h.u.files p (opened ino reading_end) fd entry refl number free)
      (opened ino writing_end) next_fd next_entry refl next_number next_free;
  given = λ h fd free named number moves p. counted_given old.files old.u.files h.files h.u.files p free (entry_of h.u.files fd)
      (p.is_open fd named) number;
  offset = λ h entry offset p. counted_offset old.files old.u.files h.files h.u.files p entry offset;
  dropped = λ h fd named moves p. counted_left old.files old.u.files h.files h.u.files p fd named;
  marked = λ h pipe p. p;
  gone = λ h ino none p. p;
  known = λ h entry is p. (tt, tt);
  numbered = λ h l other there p. tt;
  typewriter = λ h l t kept p. p;
  covered = λ h covered p. p;
  enters = λ h dir here moves p. p;
  terminal = λ h tty p. p;
  signalled = λ h p. p;
  stored = λ h m same p. p;
}

-- All numbers of a process let their files go, one after another.
pub close_all_counted : (h : Handed) → IsCounted h h → IsCounted h (close_all h).state
close_all_counted h k =
    closes_all (λ c. IsCounted h c.state) (λ c fd named p. walk_closes (counted_walks h 0) c.state fd 0 0 named tt tt p) h k
