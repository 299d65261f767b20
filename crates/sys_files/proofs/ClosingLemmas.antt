-- All numbers of a process are closed, one after another.
use Rattle.std.proofs.Common.{◌≡◌, ℕ, Bool, true, false, ◌+◌, ◌-◌, ◌<◌, ◌≤◌, ◌==◌, List, [], ◌∷◌, ◌++◌, length, Option, Some, None, cond, slice_index, slice_set, refl, sym, ap, ◌∙◌, subst, inl, inr, arith, fold}
use Rattle.std.specs.List.{range_with_len}
use Rattle.std.proofs.lemmas.Bool.{cases_eq, cases_lt}
use Rattle.std.proofs.lemmas.Option.{none-some, same_Some}
use Rattle.std.proofs.lemmas.List.FromFn.{map-range_with_len_more}
use Rattle.std.proofs.lemmas.List.{append-nil, map-id, set_past, get_or-set_same, get_or-set_other}
use Rattle.std.proofs.lemmas.List.Sums.{fold_push}
use Rattle.v6_base.specs.Image.{Image}
use Rattle.v6_base.specs.Trace.{Taken, Took}
use Rattle.v6_base.specs.declared.answer.Answer.{Answer}
use Rattle.v6_base.specs.declared.answer.Answer.TheVariants.{Ret, Fail}
use Rattle.v6_base.specs.declared.errno.Errno.{Errno}
use Rattle.v6_base.specs.declared.errno.Errno.TheVariants.{EBADF}
use Rattle.proc_tab.specs.declared.row.Row.{Row}
use Rattle.u_area.specs.declared.area.UArea.{UArea}
use Rattle.sys_files.specs.declared.files.Files.{Files}
use Rattle.open_files.specs.declared.file.OpenFile.{OpenFile}
use Rattle.open_files.specs.declared.file.Closed.{Closed}
use Rattle.open_files.specs.declared.file.Closed.TheVariants.{Still, Last}
use Rattle.open_files.specs.Files.{file_at, entry_of, times, with_fewer, closed, left, HaveRoom}
use Rattle.sys_files.specs.Handed.{Handed, handed, r0, r1, file_of}
use Rattle.sys_files.specs.Did.{Did, fails}
use Rattle.sys_files.specs.Sound.{numbers_of, IsSound, IsKept}
use Rattle.sys_files.specs.Does.{Does}
use Rattle.sys_files.specs.Descriptors.{Closing, open_entry, released, told_by, dropped, closes, then_closes, close_file, close_all}
use Rattle.sys_files.proofs.NumberLemmas.{free_times}
use Rattle.sys_files.proofs.CheckLemmas.{check_ok}
use Rattle.sys_files.proofs.DescriptorLemmas.{entry_ok, same_file, closes_open, closes_not}
use Rattle.sys_files.proofs.StayingLemmas.{stays_there, stays_after}
use Rattle.sys_files.proofs.ReleasedLemmas.{released_still, released_last}
use Rattle.sys_files.proofs.ClosedLemmas.{closes_kept, close_refused}
use Rattle.sys_files.proofs.DoesLemmas.{does_by}

-- Each number of the process is counted by its file, also where the entry is free.
times_few : (h : Handed) → IsSound h → (entry : ℕ) → times h.u.files entry ≤ numbers_of (file_at h.files entry)
times_few h sound entry = by (file_at h.files entry) refl
  where
    by : (o : Option OpenFile) → file_at h.files entry ≡ o → times h.u.files entry ≤ numbers_of o
    by (Some file) is = sound.counted entry file is
    by None is = let none = free_times h.files h.u.files entry sound.is_open is in omega (arith, none)

-- What holds before a call that keeps it holds after it, while there is room.
pub sound_after : (old new : Handed) → IsSound old → IsKept old new → HaveRoom new.files
    → ((i : ℕ) → slice_index new.inodes.references i ≤ 65500) → IsSound new
sound_after old new sound kept room few = record {
  is_open = kept.is_open;
  counted = λ entry file is.
      let most = times_few old sound entry in
      let count : numbers_of (file_at new.files entry) ≡ file.count = ap numbers_of is in
      let numbers = kept.numbers entry in
      omega (arith, most, count, numbers);
  room = room;
  referred = λ i. let most = sound.referred i in let r = kept.references i in omega (arith, most, r);
  few = few;
  pipes = kept.pipes;
  mounts = kept.mounts;
}

pub kept_then : (a b c : Handed) → IsKept a b → IsKept b c → IsKept a c
kept_then a b c first second = record {
  is_open = second.is_open;
  numbers = λ entry. let f = first.numbers entry in let s = second.numbers entry in omega (arith, f, s);
  references = λ i. let f = first.references i in let s = second.references i in omega (arith, f, s);
  counts = second.counts ∙ first.counts;
  mounts = second.mounts;
  pipes = second.pipes;
  others = stays_after a.files b.files c.files a.u.files b.u.files first.others first.numbers second.others;
}

pub kept_not : (h : Handed) → IsSound h → IsKept h h
kept_not h sound = record {
  is_open = sound.is_open;
  numbers = λ entry. refl;
  references = λ i. refl;
  counts = refl;
  mounts = sound.mounts;
  pipes = sound.pipes;
  others = λ entry file is fewer. stays_there h.files entry file is;
}

-- Closing leaves room.
room_set : (files : List (Option OpenFile)) (i : ℕ) (o : Option OpenFile) → HaveRoom files
    → ((file : OpenFile) → o ≡ Some file → file.count ≤ 65520) → HaveRoom (slice_set files i o)
room_set files i o all new entry file is = elim (cases_eq entry i) [
  | inl same ↦ elim (cases_lt i (length files)) [
    | inl low ↦ new file (sym (get_or-set_same files i o None low) ∙ (ap (file_at (slice_set files i o)) (sym same) ∙ is))
    | inr past ↦ all entry file (ap (λ l. file_at l entry) (sym (set_past files i o past)) ∙ is)
  ]
  | inr other ↦ all entry file (sym (get_or-set_other files i entry o None other) ∙ is)
]

left_few : (file rest : OpenFile) → file.count ≤ 65520 → left (closed file) ≡ Some rest → rest.count ≤ 65520
left_few file rest few is = by (file.count == 1) is
  where
    by : (t : Bool) → left (cond t (Last (with_fewer file)) (Still (with_fewer file))) ≡ Some rest → rest.count ≤ 65520
    by true is = absurd (none-some rest is)
    by false is = subst (λ (x : OpenFile). x.count ≤ 65520) (same_Some (with_fewer file) rest is) (omega (arith, few))

released_files : (h : Handed) (told : Closed) → (released h told).state.files ≡ h.files
released_files h (Still file) = ap (λ (k : Handed). k.files) (released_still h file)
released_files h (Last file) = ap (λ (k : Handed). k.files) (released_last h file)

less_at : (r : List ℕ) (i j : ℕ) → slice_index (slice_set r i (slice_index r i - 1)) j ≤ slice_index r j
less_at r i j = elim (cases_eq j i) [
  | inl same ↦ elim (cases_lt i (length r)) [
    | inl low ↦ let at = get_or-set_same r i (slice_index r i - 1) 0 low in let P : ℕ → Type 0 =
        λ k. slice_index (slice_set r i (slice_index r i - 1)) k ≤ slice_index r k in subst P (sym same) (omega (arith, at))
    | inr past ↦ let at : slice_index (slice_set r i (slice_index r i - 1)) j ≡ slice_index r j =
        ap (λ l. slice_index l j) (set_past r i (slice_index r i - 1) past) in omega (arith, at)
  ]
  | inr other ↦ let at = get_or-set_other r i j (slice_index r i - 1) 0 other in omega (arith, at)
]

released_few : (h : Handed) (told : Closed) (i : ℕ)
    → slice_index (released h told).state.inodes.references i ≤ slice_index h.inodes.references i
released_few h (Still file) i =
    let P : Handed → Type 0 = λ k. slice_index k.inodes.references i ≤ slice_index h.inodes.references i in
    subst P (sym (released_still h file)) (omega arith)
released_few h (Last file) i =
    let P : Handed → Type 0 = λ k. slice_index k.inodes.references i ≤ slice_index h.inodes.references i in
    subst P (sym (released_last h file)) (less_at h.inodes.references file.ino i)

pub closes_sound : (h : Handed) (fd : ℕ) → IsSound h → 0 < slice_index h.u.files fd → IsSound (closes h fd).state
closes_sound h fd sound some =
    let entry : ℕ = entry_of h.u.files fd in
    let file : OpenFile = file_of h entry in
    let is = same_file h entry (sound.is_open fd some) in
    let room : HaveRoom (dropped h fd).files =
    room_set h.files entry (left (told_by h fd)) sound.room
    (λ rest now. left_few file rest (sound.room entry file is) now) in
    let P : List (Option OpenFile) → Type 0 = HaveRoom in
    sound_after h (closes h fd).state sound (closes_kept h fd sound some)
    (subst P (sym (released_files (dropped h fd) (told_by h fd))) room)
    (λ i. let less = released_few (dropped h fd) (told_by h fd) i in let few = sound.few i in omega (arith, less, few))

-- one number more, whether it is open or not
pub next_kept : (c : Closing) (fd : ℕ) → IsSound c.state → IsKept c.state (then_closes c fd).state
next_kept c fd sound = elim (cases_eq (slice_index c.state.u.files fd) 0) [
  | inl none ↦ let P : Closing → Type 0 = λ d. IsKept c.state d.state in
      subst P (sym (closes_not c fd none)) (kept_not c.state sound)
  | inr some ↦ let P : Closing → Type 0 = λ d. IsKept c.state d.state in
      let used : 0 < slice_index c.state.u.files fd = omega (arith, some) in
      subst P (sym (closes_open c fd used)) (closes_kept c.state fd sound used)
]

pub next_sound : (c : Closing) (fd : ℕ) → IsSound c.state → IsSound (then_closes c fd).state
next_sound c fd sound = elim (cases_eq (slice_index c.state.u.files fd) 0) [
  | inl none ↦ let P : Closing → Type 0 = λ d. IsSound d.state in subst P (sym (closes_not c fd none)) sound
  | inr some ↦ let P : Closing → Type 0 = λ d. IsSound d.state in
      let used : 0 < slice_index c.state.u.files fd = omega (arith, some) in
      subst P (sym (closes_open c fd used)) (closes_sound c.state fd sound used)
]

-- what close comes to, by what closing the number comes to
abbrev answering : Closing → Answer → Did
answering c a = record { answer = a; state = c.state; items = c.items; named = [] }

abbrev only : Handed → Closing
only h = record { state = h; items = [] }

-- It leaves R1.
released_area : (h : Handed) (told : Closed) → (released h told).state.u ≡ h.u
released_area h (Still file) = ap (λ (k : Handed). k.u) (released_still h file)
released_area h (Last file) = ap (λ (k : Handed). k.u) (released_last h file)

module _ (h : Handed) {new : Handed} {start end : Taken} (sound : IsSound h) (state : new ≡ (then_closes (only h) (r0 h)).state)
    (items : Took start (then_closes (only h) (r0 h)).items end) where
  closed_as : (a result : Answer) → answering (then_closes (only h) (r0 h)) a ≡ close_file h → result ≡ a
      → Does h new result start end (close_file h)
  closed_as a result is answer =
      let P : Handed → Type 0 = λ k. IsKept h k in
      does_by (answering (then_closes (only h) (r0 h)) a) is answer state items
      (subst P (ap (λ (d : Did). d.state) is) (next_kept (only h) (r0 h) sound))

  pub closed_open : 0 < slice_index h.u.files (r0 h) → Does h new (Ret (r0 h) (r1 new)) start end (close_file h)
  closed_open some =
      let open_ = closes_open (only h) (r0 h) some in
      closed_as (Ret (r0 h) (r1 h)) (Ret (r0 h) (r1 new))
      (ap (λ (c : Closing). answering c (Ret (r0 h) (r1 h))) open_
      ∙ sym (check_ok h (open_entry h (r0 h)) _ (entry_of h.u.files (r0 h)) (entry_ok h (r0 h) some)))
      (ap (λ (k : Handed). Ret (r0 h) (r1 k)) (state ∙ ap (λ (c : Closing). c.state) open_)
      ∙ ap (λ (u : UArea). Ret (r0 h) (slice_index u.r 1)) (released_area (dropped h (r0 h)) (told_by h (r0 h))))

  pub closed_not : (e : Errno) → e ≡ EBADF → slice_index h.u.files (r0 h) ≡ 0 → Does h new (Fail e) start end (close_file h)
  closed_not e is none =
      closed_as (Fail e) (Fail e)
      (ap (λ (c : Closing). answering c (Fail e)) (closes_not (only h) (r0 h) none) ∙ ap (fails h) is
      ∙ sym (close_refused h none)) refl

-- What closing comes to does not depend on what was shown before it.
pub next_state : (c : Closing) (fd : ℕ)
    → (then_closes c fd).state ≡ (then_closes (record { state = c.state; items = [] }) fd).state
next_state c fd = by (slice_index c.state.u.files fd == 0)
  where
    by : (t : Bool) → (cond t c (record {
      state = (closes c.state fd).state;
      items = c.items ++ (closes c.state fd).items;
    })).state
        ≡ (cond {A = Closing} t (record { state = c.state; items = [] })
        (record { state = (closes c.state fd).state; items = [] ++ (closes c.state fd).items })).state
    by true = refl
    by false = refl

pub next_items : (c : Closing) (fd : ℕ)
    → (then_closes c fd).items ≡ c.items ++ (then_closes (record { state = c.state; items = [] }) fd).items
next_items c fd = by (slice_index c.state.u.files fd == 0)
  where
    by : (t : Bool) → (cond t c (record {
      state = (closes c.state fd).state;
      items = c.items ++ (closes c.state fd).items;
    })).items
        ≡ c.items ++ (cond {A = Closing} t (record { state = c.state; items = [] })
        (record { state = (closes c.state fd).state; items = [] ++ (closes c.state fd).items })).items
    by true = sym (append-nil c.items)
    by false = refl

-- the numbers below this one are closed
unfoldable pub closed_below : Handed → ℕ → Closing
closed_below h n = fold then_closes (record { state = h; items = [] }) (range_with_len 0 n)

pub below_none : (h : Handed) → closed_below h 0 ≡ record { state = h; items = [] }
unfolding closed_below
below_none h = refl

range_more : (n : ℕ) → range_with_len 0 (n + 1) ≡ range_with_len 0 n ++ n ∷ []
range_more n = sym (map-id (range_with_len 0 (n + 1))) ∙ map-range_with_len_more (λ i. i) 0 n n (omega arith)
    ∙ ap (λ l. l ++ n ∷ []) (map-id (range_with_len 0 n))

pub below_more : (h : Handed) (n : ℕ) → closed_below h (n + 1) ≡ then_closes (closed_below h n) n
unfolding closed_below
below_more h n = ap (fold then_closes (record { state = h; items = [] })) (range_more n)
    ∙ fold_push then_closes (record { state = h; items = [] }) (range_with_len 0 n) n

pub below_all : (h : Handed) → closed_below h 15 ≡ close_all h
unfolding closed_below close_all
below_all h = refl

-- What holds of the parts holds with each row and image.
pub sound_any : (f : Files) (u : UArea) (row other : Row) (image another : Image) → IsSound (handed f u row image)
    → IsSound (handed f u other another)
sound_any f u row other image another sound = record {
  is_open = sound.is_open;
  counted = sound.counted;
  room = sound.room;
  referred = sound.referred;
  few = sound.few;
  pipes = sound.pipes;
  mounts = sound.mounts;
}
