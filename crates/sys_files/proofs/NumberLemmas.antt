-- The numbers of a process, and the entries that they name, when one of each changes.
use Rattle.std.proofs.Common.{◌≡◌, ◌≢◌, ℕ, Bool, true, false, ◌+◌, ◌-◌, ◌<◌, ◌≤◌, ◌==◌, List, [], ◌∷◌, length, get_or, cond, eqb, suc, count_by, Option, None, IsSome, is_some, slice_index, slice_set, refl, sym, ap, ◌∙◌, subst, inl, inr, arith}
use Rattle.std.proofs.lemmas.Bool.{eq-eqb, ne_eqb, cases_lt, cases_eq, false≢true}
use Rattle.std.proofs.lemmas.List.{get_or_past, set_past, get_or-set_same, get_or-set_other}
use Rattle.std.proofs.lemmas.List.Sums.{sum_by-cons}
use Rattle.open_files.specs.declared.file.OpenFile.{OpenFile}
use Rattle.open_files.specs.Files.{file_at, entry_of, times, AreOpen}
use Rattle.sys_files.specs.Sound.{numbers_of}
use Rattle.sys_files.proofs.OwedLemmas.{count_changed, counted}

-- A number that is not 0 is one of the list.
pub number_low : (mine : List ℕ) (fd : ℕ) → 0 < slice_index mine fd → fd < length mine
number_low mine fd some = elim (cases_lt fd (length mine)) [
  | inl low ↦ low
  | inr past ↦ let none : slice_index mine fd ≡ 0 = get_or_past mine fd 0 past in omega (arith, some, none)
]

one : (a b : ℕ) → a ≡ b → cond {A = ℕ} (eqb a b) 1 0 ≡ 1
one a b same = ap (λ t. cond {A = ℕ} t 1 0) (eq-eqb a b same)

no_one : (a b : ℕ) → a ≢ b → cond {A = ℕ} (eqb a b) 1 0 ≡ 0
no_one a b other = ap (λ t. cond {A = ℕ} t 1 0) (ne_eqb a b other)

-- A number that was 0 names an entry.
pub given_times : (mine : List ℕ) (fd entry e : ℕ) → fd < length mine → slice_index mine fd ≡ 0 → times (slice_set mine fd (entry + 1)) e ≡ times mine e + cond (eqb entry e) 1 0
given_times mine fd entry e low none =
    let changed = count_changed (λ number. number == e + 1) mine fd (entry + 1) 0 low in
    let before : cond {A = ℕ} (eqb (slice_index mine fd) (e + 1)) 1 0 ≡ 0 = no_one (slice_index mine fd) (e + 1) (λ is. omega (arith, is, none)) in
    elim (cases_eq entry e) [
      | inl same ↦ let now = one (entry + 1) (e + 1) (ap (λ n. n + 1) same) in let here = one entry e same in omega (arith, changed, before, now, here)
      | inr other ↦ let now = no_one (entry + 1) (e + 1) (λ is. other (omega (arith, is))) in let here = no_one entry e other in omega (arith, changed, before, now, here)
    ]

-- A number that named an entry is 0.
pub taken_times : (mine : List ℕ) (fd entry e : ℕ) → slice_index mine fd ≡ entry + 1 → times (slice_set mine fd 0) e + cond (eqb entry e) 1 0 ≡ times mine e
taken_times mine fd entry e is =
    let low = number_low mine fd (omega (arith, is)) in
    let changed = count_changed (λ number. number == e + 1) mine fd 0 0 low in
    let now : cond {A = ℕ} (eqb 0 (e + 1)) 1 0 ≡ 0 = no_one 0 (e + 1) (λ same. omega (arith, same)) in
    elim (cases_eq entry e) [
      | inl same ↦ let before = one (slice_index mine fd) (e + 1) (is ∙ ap (λ n. n + 1) same) in let here = one entry e same in omega (arith, changed, before, now, here)
      | inr other ↦ let before = no_one (slice_index mine fd) (e + 1) (λ named. other (omega (arith, is, named))) in let here = no_one entry e other in omega (arith, changed, before, now, here)
    ]

-- what stands in an entry when one has changed
pub set_here : (files : List (Option OpenFile)) (entry : ℕ) (o : Option OpenFile) → entry < length files → file_at (slice_set files entry o) entry ≡ o
set_here files entry o low = get_or-set_same files entry o None low

pub set_there : (files : List (Option OpenFile)) (entry e : ℕ) (o : Option OpenFile) → e ≢ entry → file_at (slice_set files entry o) e ≡ file_at files e
set_there files entry e o other = get_or-set_other files entry e o None other

-- Numbers are counted as they are given and taken, where that is so of the entry that changes.
pub numbers_change : (files : List (Option OpenFile)) (mine new : List ℕ) (entry : ℕ) (o : Option OpenFile) → entry < length files
    → numbers_of o + times mine entry ≡ numbers_of (file_at files entry) + times new entry → ((e : ℕ) → entry ≢ e → times new e ≡ times mine e)
    → (e : ℕ) → numbers_of (file_at (slice_set files entry o) e) + times mine e ≡ numbers_of (file_at files e) + times new e
numbers_change files mine new entry o low own others e = elim (cases_eq entry e) [
  | inl same ↦
      let P : ℕ → Type 0 = λ i. numbers_of (file_at (slice_set files entry o) i) + times mine i ≡ numbers_of (file_at files i) + times new i in
      let here : numbers_of (file_at (slice_set files entry o) entry) ≡ numbers_of o = ap numbers_of (set_here files entry o low) in
      subst P same (omega (arith, own, here))
  | inr other ↦
      let there : numbers_of (file_at (slice_set files entry o) e) ≡ numbers_of (file_at files e) = ap numbers_of (set_there files entry e o (λ is. other (sym is))) in
      let count = others e other in
      omega (arith, there, count)
]

used_set : (files : List (Option OpenFile)) (entry e : ℕ) (o : Option OpenFile) → entry < length files → IsSome o → IsSome (file_at files e) → IsSome (file_at (slice_set files entry o) e)
used_set files entry e o low some used = elim (cases_eq e entry) [
  | inl same ↦ ap (λ i. is_some (file_at (slice_set files entry o) i)) same ∙ (ap is_some (set_here files entry o low) ∙ some)
  | inr other ↦ ap is_some (set_there files entry e o other) ∙ used
]

-- each number still names an entry in use, when one more does
pub open_given : (files : List (Option OpenFile)) (mine : List ℕ) (fd entry : ℕ) (o : Option OpenFile) → entry < length files → IsSome o → AreOpen files mine
    → AreOpen (slice_set files entry o) (slice_set mine fd (entry + 1))
open_given files mine fd entry o low some all k used = elim (cases_eq k fd) [
  | inl same ↦ elim (cases_lt fd (length mine)) [
    | inl short ↦
        let now : slice_index (slice_set mine fd (entry + 1)) k ≡ entry + 1 = ap (slice_index (slice_set mine fd (entry + 1))) same ∙ get_or-set_same mine fd (entry + 1) 0 short in
        let there : entry_of (slice_set mine fd (entry + 1)) k ≡ entry = omega (arith, now) in
        ap (λ i. is_some (file_at (slice_set files entry o) i)) there ∙ (ap is_some (set_here files entry o low) ∙ some)
    | inr past ↦
        let before : slice_index (slice_set mine fd (entry + 1)) k ≡ slice_index mine k = ap (λ l. slice_index l k) (set_past mine fd (entry + 1) past) in
        by k before used
  ]
  | inr other ↦ by k (get_or-set_other mine fd k (entry + 1) 0 other) used
]
  where
    by : (k : ℕ) → slice_index (slice_set mine fd (entry + 1)) k ≡ slice_index mine k → 0 < slice_index (slice_set mine fd (entry + 1)) k
        → IsSome (file_at (slice_set files entry o) (entry_of (slice_set mine fd (entry + 1)) k))
    by k before used =
        ap (λ n. is_some (file_at (slice_set files entry o) (n - 1))) before
        ∙ used_set files entry (entry_of mine k) o low some (all k (omega (arith, before, used)))

-- and when one is 0 that named one, whose entry stays in use where another number names it
pub open_taken : (files : List (Option OpenFile)) (mine : List ℕ) (fd entry : ℕ) (o : Option OpenFile) → entry < length files → slice_index mine fd ≡ entry + 1
    → (is_some o ≡ false → times mine entry ≤ 1) → AreOpen files mine → AreOpen (slice_set files entry o) (slice_set mine fd 0)
open_taken files mine fd entry o low is last all k used = elim (cases_eq k fd) [
  | inl same ↦
      let now : slice_index (slice_set mine fd 0) k ≡ 0 = ap (slice_index (slice_set mine fd 0)) same ∙ get_or-set_same mine fd 0 0 (number_low mine fd (omega (arith, is))) in
      absurd (omega (arith, now, used))
  | inr other ↦
      let before : slice_index (slice_set mine fd 0) k ≡ slice_index mine k = get_or-set_other mine fd k 0 0 other in
      ap (λ n. is_some (file_at (slice_set files entry o) (n - 1))) before
      ∙ elim (cases_eq (entry_of mine k) entry) [
        | inl same ↦
            ap (λ i. is_some (file_at (slice_set files entry o) i)) same ∙ ap is_some (set_here files entry o low)
            ∙ another (is_some o) refl (omega (arith, before, used, same))
        | inr apart ↦ ap is_some (set_there files entry (entry_of mine k) o apart) ∙ all k (omega (arith, before, used))
      ]
]
  where
    another : (t : Bool) → is_some o ≡ t → slice_index (slice_set mine fd 0) k ≡ entry + 1 → t ≡ true
    another true some named = refl
    another false none named =
        let short = number_low (slice_set mine fd 0) k (omega (arith, named)) in
        let least = counted (λ number. number == entry + 1) (slice_set mine fd 0) k 0 short (eq-eqb (slice_index (slice_set mine fd 0) k) (entry + 1) named) in
        let all = taken_times mine fd entry entry is in
        let own = one entry entry refl in
        let most = last none in
        absurd (omega (arith, least, all, own, most))

-- Nothing is counted where nothing passes.
none_counted : {X : Type 0} (p : X → Bool) (xs : List X) (d : X) → ((k : ℕ) → k < length xs → p (get_or xs k d) ≡ false) → count_by p xs ≡ 0
none_counted p [] d none = refl
none_counted p (x ∷ xs) d none =
    let first : cond {A = ℕ} (p x) 1 0 ≡ 0 = ap (λ t. cond {A = ℕ} t 1 0) (none 0 (omega arith)) in
    let rest : count_by p xs ≡ 0 = none_counted p xs d (λ k low. none (suc k) (omega (arith, low))) in
    let both = sum_by-cons (λ y. cond (p y) 1 0) x xs in
    omega (arith, first, rest, both)

-- No number names a free entry.
pub free_times : (files : List (Option OpenFile)) (mine : List ℕ) (entry : ℕ) → AreOpen files mine → file_at files entry ≡ None → times mine entry ≡ 0
free_times files mine entry all free = none_counted (λ number. number == entry + 1) mine 0 (λ k low. ne_eqb (slice_index mine k) (entry + 1) (λ named.
    let used : is_some (file_at files (entry_of mine k)) ≡ true = all k (omega (arith, named)) in
    let same : entry_of mine k ≡ entry = omega (arith, named) in
    false≢true (sym (ap is_some free) ∙ (ap (λ i. is_some (file_at files i)) (sym same) ∙ used))))
