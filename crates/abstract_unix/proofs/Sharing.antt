-- fork(II): a child names the files that its parent does, and is where its parent is.
use Rattle.std.proofs.Common.{◌≡◌, ◌<◌, ◌+◌, ◌∙◌, ℕ, suc, Bool, cond, ◌==◌, if◌then◌else◌, List, [], ◌∷◌, length, get_or, set, fold, count_by, Option, Some, None, slice_index, refl, sym, ap, inl, inr, arith}
use Rattle.std.proofs.lemmas.Bool.{cases_lt, cases_eq, ne_eqb, eq-eqb}
use Rattle.std.proofs.lemmas.List.{get_or_past, get_or-set_same, get_or-set_other}
use Rattle.std.proofs.lemmas.List.FromFn.{get_or-map-range_with_len, length-map-range_with_len}
use Rattle.open_files.specs.declared.file.OpenFile.{OpenFile}
use Rattle.open_files.specs.Files.{AreOpen, file_at, times, changed, with_more, shared}
use Rattle.pipe_ends.specs.declared.ends.Pipe.{Pipe}
use Rattle.sys_files.specs.Sound.{is_of, numbers_of}
use Rattle.sys_files.specs.Pipes.{ArePipes}
use Rattle.sys_files.proofs.NumberLemmas.{free_times}
use Rattle.sys_files.proofs.PipeLemmas.{pipes_alike}
use Rattle.abstract_unix.specs.Unix.{Text}
use Rattle.abstract_unix.specs.Whole.{Told, names, stands, Owes}
use Rattle.abstract_unix.proofs.Owing.{names_set, stand_set, names_open, dir_referred, fifteen_set}

-- The files that are shared: each is named once more by each number of the parent.
more_numbers : (n : ℕ) (o : Option OpenFile) → (o ≡ None → n ≡ 0) → numbers_of (changed (with_more n) o) ≡ numbers_of o + n
more_numbers n None none = let zero = none refl in omega (arith, zero)
more_numbers n (Some file) none = refl

pub shared_at : (files : List (Option OpenFile)) (mine : List ℕ) (entry : ℕ) → entry < length files
    → file_at (shared files mine) entry ≡ changed (with_more (times mine entry)) (file_at files entry)
unfolding shared
shared_at files mine entry low =
    get_or-map-range_with_len (λ entry. changed (with_more (times mine entry)) (file_at files entry)) 0 (length files) entry entry None low (omega arith)

shared_length : (files : List (Option OpenFile)) (mine : List ℕ) → length (shared files mine) ≡ length files
unfolding shared
shared_length files mine = length-map-range_with_len (λ entry. changed (with_more (times mine entry)) (file_at files entry)) 0 (length files)

pub shared_numbers : (files : List (Option OpenFile)) (mine : List ℕ) (entry : ℕ) → AreOpen files mine
    → numbers_of (file_at (shared files mine) entry) ≡ numbers_of (file_at files entry) + times mine entry
shared_numbers files mine entry are = elim (cases_lt entry (length files)) [
  | inl low ↦
      ap numbers_of (shared_at files mine entry low)
      ∙ more_numbers (times mine entry) (file_at files entry) (λ none. free_times files mine entry are none)
  | inr past ↦
      let none : file_at files entry ≡ None = get_or_past files entry None past in
      let after : file_at (shared files mine) entry ≡ None = get_or_past (shared files mine) entry None (let same = shared_length files mine in omega (arith, past, same)) in
      let zero = free_times files mine entry are none in
      let a : numbers_of (file_at files entry) ≡ 0 = ap numbers_of none in
      let b : numbers_of (file_at (shared files mine) entry) ≡ 0 = ap numbers_of after in
      omega (arith, zero, a, b)
]

-- A file that is shared is the same but for its count.
is_of_more : (ino n : ℕ) (o : Option OpenFile) → is_of ino (changed (with_more n) o) ≡ is_of ino o
is_of_more ino n None = refl
is_of_more ino n (Some file) = refl

counts_like : (f : Option OpenFile → Bool) (xs ys : List (Option OpenFile)) (n : ℕ) → length xs ≡ length ys
    → ((i : ℕ) → i < length xs → f (get_or xs i None) ≡ f (get_or ys i None)) → fold (λ a x. a + cond (f x) 1 0) n xs ≡ fold (λ a x. a + cond (f x) 1 0) n ys
counts_like f [] [] n long each = refl
counts_like f [] (y ∷ ys) n long each = absurd (omega (arith, long))
counts_like f (x ∷ xs) [] n long each = absurd (omega (arith, long))
counts_like f (x ∷ xs) (y ∷ ys) n long each =
    let here : f x ≡ f y = each 0 (omega arith) in
    counts_like f xs ys (n + cond (f x) 1 0) (omega (arith, long)) (λ i low. each (suc i) (omega (arith, low)))
    ∙ ap (λ b. fold (λ a x. a + cond (f x) 1 0) (n + cond b 1 0) ys) here

shared_inodes : (files : List (Option OpenFile)) (mine : List ℕ) (ino : ℕ) → count_by (is_of ino) (shared files mine) ≡ count_by (is_of ino) files
shared_inodes files mine ino =
    counts_like (is_of ino) (shared files mine) files 0 (shared_length files mine)
    (λ i low. ap (is_of ino) (shared_at files mine i (let same = shared_length files mine in omega (arith, low, same))) ∙ is_of_more ino (times mine i) (file_at files i))

-- Each entry has the file that it had, named more often, or none.
pub shared_all : (files : List (Option OpenFile)) (mine : List ℕ) (entry : ℕ) → file_at (shared files mine) entry ≡ changed (with_more (times mine entry)) (file_at files entry)
shared_all files mine entry = elim (cases_lt entry (length files)) [
  | inl low ↦ shared_at files mine entry low
  | inr past ↦
      let long = shared_length files mine in
      get_or_past (shared files mine) entry None (omega (arith, past, long)) ∙ ap (changed (with_more (times mine entry))) (sym (get_or_past files entry None past))
]

-- So the same ends of pipes are open.
shared_pipes : (files : List (Option OpenFile)) (pipes : List Pipe) (mine : List ℕ) → ArePipes files pipes → ArePipes (shared files mine) pipes
shared_pipes files pipes mine are =
    pipes_alike files (shared files mine) pipes (λ entry. with_more (times mine entry)) (λ entry file. refl) (λ entry file. refl) (shared_all files mine) are

-- A reference is taken.
pub more_within : (l : List ℕ) (d ino : ℕ) → d < length l → slice_index (set l d (slice_index l d + 1)) ino ≡ slice_index l ino + (if d == ino then 1 else 0)
more_within l d ino within = elim (cases_eq ino d) [
  | inl here ↦
      let now : slice_index (set l d (slice_index l d + 1)) ino ≡ slice_index l d + 1 =
      ap (slice_index (set l d (slice_index l d + 1))) here ∙ get_or-set_same l d (slice_index l d + 1) 0 within in
      let was : slice_index l ino ≡ slice_index l d = ap (slice_index l) here in
      let one : ◌≡◌ {A = ℕ} (if d == ino then 1 else 0) 1 = ap (λ b. cond {A = ℕ} b 1 0) (eq-eqb d ino (sym here)) in
      omega (arith, now, was, one)
  | inr other ↦
      let same : slice_index (set l d (slice_index l d + 1)) ino ≡ slice_index l ino = get_or-set_other l d ino (slice_index l d + 1) 0 other in
      let none : ◌≡◌ {A = ℕ} (if d == ino then 1 else 0) 0 = ap (λ b. cond {A = ℕ} b 1 0) (ne_eqb d ino (λ e. other (sym e))) in
      omega (arith, same, none)
]

more_refs : (l : List ℕ) (d ino : ℕ) → 0 < slice_index l d → slice_index (set l d (slice_index l d + 1)) ino ≡ slice_index l ino + (if d == ino then 1 else 0)
more_refs l d ino some = elim (cases_lt d (length l)) [
  | inl low ↦ more_within l d ino low
  | inr high ↦ absurd (let none = get_or_past l d 0 high in omega (arith, none, some))
]

-- One more process, in a slot that is free, and one reference more.
pub child_owes : {covered : Option ℕ} (refs : List ℕ) (files : List (Option OpenFile)) (pipes : List Pipe) (texts : List (Option Text)) (ts : List (Option Told)) (s c : ℕ) (t : Told) → Owes covered refs files pipes texts ts
    → get_or ts s None ≡ Some t → get_or ts c None ≡ None → c < length ts
    → Owes covered (set refs t.dir (slice_index refs t.dir + 1)) (shared files t.files) pipes texts (set ts c (Some t))
child_owes refs files pipes texts ts s c t owed at free within = record {
  numbers = λ entry.
      let more = shared_numbers files t.files entry (names_open refs files pipes texts ts owed s t at) in
      let before = owed.numbers entry in
      let change = names_set ts c (Some t) entry within in
      let none = ap (names entry) free in
      omega (arith, more, before, change, none);
  referred = λ ino.
      let taken = more_refs refs t.dir ino (dir_referred refs files pipes texts ts owed s t at) in
      let before = owed.referred ino in
      let same = shared_inodes files t.files ino in
      let change = stand_set ts c (Some t) ino within in
      let none = ap (stands ino) free in
      omega (arith, taken, before, same, change, none);
  piped = shared_pipes files pipes t.files owed.piped;
  fifteen = fifteen_set ts c (Some t) owed.fifteen (λ x e. (let same : t ≡ x = cc e in ap (λ (y : Told). length y.files) (sym same) ∙ owed.fifteen s t at));
}
