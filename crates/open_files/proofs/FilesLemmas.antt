-- What the changes to a table of open files leave of it.
use Rattle.std.proofs.Common.{◌≡◌, ◌≢◌, ℕ, ◌+◌, ◌-◌, ◌<◌, ◌≤◌, ◌==◌, false, List, map, length, take, replicate, get_or, Option, Some, None, IsSome, is_some, slice_index, slice_set, refl, sym, ap, ◌∙◌, subst, inl, inr, arith}
use Rattle.std.proofs.lemmas.Bool.{false≢true, ne_eqb, cases_lt, cases_eq}
use Rattle.std.proofs.lemmas.Bool.Decides.{eqb_tells}
use Rattle.std.proofs.lemmas.Option.{none-some, same_Some}
use Rattle.std.proofs.lemmas.List.{ext_get_or, length-set, get_or-set_same, get_or-set_other, get_or_past, set_past, length-take-le, get_or-replicate, length-replicate}
use Rattle.std.proofs.lemmas.List.FromFn.{length-map-range_with_len, get_or-map-range_with_len}
use Rattle.std.proofs.lemmas.List.Sums.{count_by-le-length, count_by_more_no, count_by_more_yes}
use Rattle.std.specs.List.{range_with_len}
use Rattle.open_files.specs.declared.file.OpenFile.{OpenFile}
use Rattle.open_files.specs.Files.{file_at, AreNamed, HaveRoom, changed, with_more, with_change, times, shared}

-- Each file of a table is named, also after one entry has changed.
pub named_set : (files : List (Option OpenFile)) (i : ℕ) (o : Option OpenFile) → AreNamed files → ((file : OpenFile) → o ≡ Some file → 1 ≤ file.count) → AreNamed (slice_set files i o)
named_set files i o all new entry file is = elim (cases_eq entry i) [
  | inl same ↦ elim (cases_lt i (length files)) [
    | inl low ↦ new file (sym (get_or-set_same files i o None low) ∙ (ap (λ e. get_or (slice_set files i o) e None) (sym same) ∙ is))
    | inr past ↦ all entry file (ap (λ l. get_or l entry None) (sym (set_past files i o past)) ∙ is)
  ]
  | inr other ↦ all entry file (sym (get_or-set_other files i entry o None other) ∙ is)
]

pub named_changed : (o : Option OpenFile) (f : OpenFile → OpenFile) → ((x : OpenFile) → 1 ≤ x.count → 1 ≤ (f x).count) → ((file : OpenFile) → o ≡ Some file → 1 ≤ file.count)
    → (file : OpenFile) → changed f o ≡ Some file → 1 ≤ file.count
named_changed None f keeps old file is = absurd (none-some file is)
named_changed (Some x) f keeps old file is = subst (λ (y : OpenFile). 1 ≤ y.count) (same_Some (f x) file is) (keeps x (old x refl))

more_named : (n : ℕ) (x : OpenFile) → 1 ≤ x.count → 1 ≤ (with_more n x).count
more_named n x some = omega (arith, some)

pub named_none : (n : ℕ) → AreNamed (replicate n None)
named_none n entry file is = elim (cases_lt entry n) [
  | inl low ↦ absurd (none-some file (sym (get_or-replicate n entry None None low) ∙ is))
  | inr past ↦ absurd (none-some file (sym (get_or_past (replicate n None) entry None (let l = length-replicate {A = Option OpenFile} n None in omega (arith, l, past))) ∙ is))
]

-- Each entry of a table after a process's numbers are counted once more.
pub shared_long : (files : List (Option OpenFile)) (mine : List ℕ) → length (shared files mine) ≡ length files
unfolding shared
shared_long files mine = length-map-range_with_len (λ entry. changed (with_more (times mine entry)) (file_at files entry)) 0 (length files)

pub shared_at : (files : List (Option OpenFile)) (mine : List ℕ) (entry : ℕ) → file_at (shared files mine) entry ≡ changed (with_more (times mine entry)) (file_at files entry)
unfolding shared
shared_at files mine entry = elim (cases_lt entry (length files)) [
  | inl low ↦ get_or-map-range_with_len (λ e. changed (with_more (times mine e)) (file_at files e)) 0 (length files) entry entry None low (omega arith)
  | inr past ↦
      get_or_past (map (λ e. changed (with_more (times mine e)) (file_at files e)) (range_with_len 0 (length files))) entry None (let l = length-map-range_with_len (λ e. changed (with_more (times mine e)) (file_at files e)) 0 (length files) in omega (arith, l, past))
      ∙ sym (ap (changed (with_more (times mine entry))) (get_or_past files entry None past))
]

shared_is : (files new : List (Option OpenFile)) (mine : List ℕ) → length new ≡ length files → ((entry : ℕ) → file_at new entry ≡ changed (with_more (times mine entry)) (file_at files entry)) → new ≡ shared files mine
shared_is files new mine long each = ext_get_or None new (shared files mine) (long ∙ sym (shared_long files mine)) (λ entry low. each entry ∙ sym (shared_at files mine entry))

more_none : (o : Option OpenFile) → o ≡ changed (with_more 0) o
more_none None = refl
more_none (Some file) = ap (λ n. Some (record file { count = n })) (omega arith)

more_twice : (n : ℕ) (o : Option OpenFile) → changed (with_more 1) (changed (with_more n) o) ≡ changed (with_more (n + 1)) o
more_twice n None = refl
more_twice n (Some file) = ap (λ k. Some (record file { count = k })) (omega arith)

pub shared_none : (files : List (Option OpenFile)) (mine : List ℕ) → files ≡ shared files (take 0 mine)
shared_none files mine = shared_is files files (take 0 mine) refl (λ entry. more_none (file_at files entry))

-- The next number counts for its own entry alone.
times_other : (mine : List ℕ) (k entry : ℕ) → k < length mine → slice_index mine k ≢ entry + 1 → times (take (k + 1) mine) entry ≡ times (take k mine) entry
times_other mine k entry low other = count_by_more_no (λ number. number == entry + 1) mine k 0 low (ne_eqb (slice_index mine k) (entry + 1) other)

times_own : (mine : List ℕ) (k entry : ℕ) → k < length mine → slice_index mine k ≡ entry + 1 → times (take (k + 1) mine) entry ≡ times (take k mine) entry + 1
times_own mine k entry low own = count_by_more_yes (λ number. number == entry + 1) mine k 0 low (elim (eqb_tells (slice_index mine k) (entry + 1)) [ inl h ↦ h.0 | inr h ↦ absurd (h.1 own) ])

-- A number that names no file counts for none.
pub shared_more_none : (files : List (Option OpenFile)) (mine : List ℕ) (k : ℕ) → k < length mine → slice_index mine k ≡ 0 → shared files (take k mine) ≡ shared files (take (k + 1) mine)
shared_more_none files mine k low none =
    shared_is files (shared files (take k mine)) (take (k + 1) mine) (shared_long files (take k mine)) (λ entry.
    shared_at files (take k mine) entry ∙ ap (λ t. changed (with_more t) (file_at files entry)) (sym (times_other mine k entry low (λ is. omega (arith, is, none)))))

pub shared_more : (files : List (Option OpenFile)) (mine : List ℕ) (k e : ℕ) → k < length mine → e < length files → slice_index mine k ≡ e + 1
    → with_change (shared files (take k mine)) e (with_more 1) ≡ shared files (take (k + 1) mine)
shared_more files mine k e low here is =
    let now : List (Option OpenFile) = shared files (take k mine) in
    let o : Option OpenFile = changed (with_more 1) (file_at now e) in
    shared_is files (with_change now e (with_more 1)) (take (k + 1) mine) (length-set now e o ∙ shared_long files (take k mine)) (λ entry. elim (cases_eq entry e) [
      | inl same ↦
          ap (λ i. get_or (slice_set now e o) i None) same
          ∙ (get_or-set_same now e o None (let l = shared_long files (take k mine) in omega (arith, l, here))
          ∙ (ap (changed (with_more 1)) (shared_at files (take k mine) e)
          ∙ (more_twice (times (take k mine) e) (file_at files e)
          ∙ (ap (λ t. changed (with_more t) (file_at files e)) (sym (times_own mine k e low is))
          ∙ ap (λ i. changed (with_more (times (take (k + 1) mine) i)) (file_at files i)) (sym same)))))
      | inr other ↦
          get_or-set_other now e entry o None other
          ∙ (shared_at files (take k mine) entry
          ∙ ap (λ t. changed (with_more t) (file_at files entry)) (sym (times_other mine k entry low (λ s. other (omega (arith, s, is))))))
    ])

pub named_shared : (files : List (Option OpenFile)) (mine : List ℕ) → AreNamed files → AreNamed (shared files mine)
named_shared files mine all entry file is =
    named_changed (file_at files entry) (with_more (times mine entry)) (more_named (times mine entry)) (all entry) file (sym (shared_at files mine entry) ∙ is)

-- An entry in use is one of the table, and is in use after the numbers are counted.
used_low : (files : List (Option OpenFile)) (e : ℕ) → IsSome (file_at files e) → e < length files
used_low files e used = elim (cases_lt e (length files)) [
  | inl low ↦ low
  | inr past ↦ absurd (false≢true (sym (ap is_some (get_or_past files e None past)) ∙ used))
]

used_changed : (o : Option OpenFile) (f : OpenFile → OpenFile) → IsSome o → IsSome (changed f o)
used_changed None f used = used
used_changed (Some x) f used = refl

pub used_shared : (files now : List (Option OpenFile)) (mine : List ℕ) (e : ℕ) → now ≡ shared files mine → IsSome (file_at files e) → IsSome (file_at now e)
used_shared files now mine e is used =
    ap (λ l. is_some (file_at l e)) is ∙ (ap is_some (shared_at files mine e) ∙ used_changed (file_at files e) (with_more (times mine e)) used)

few_changed : (o : Option OpenFile) (n : ℕ) → ((x : OpenFile) → o ≡ Some x → x.count ≤ 65520) → (file : OpenFile) → changed (with_more n) o ≡ Some file → file.count ≤ 65520 + n
few_changed None n few file is = absurd (none-some file is)
few_changed (Some x) n few file is = subst (λ (y : OpenFile). y.count ≤ 65520 + n) (same_Some (with_more n x) file is) (let h = few x refl in omega (arith, h))

-- While the fifteen numbers are counted, there is room for one more.
pub few_shared : (files now : List (Option OpenFile)) (mine : List ℕ) (k e : ℕ) → now ≡ shared files (take k mine) → HaveRoom files → k < length mine → length mine ≡ 15
    → (file : OpenFile) → file_at now e ≡ Some file → file.count < 65535
few_shared files now mine k e is few low long file here =
    let some : times (take k mine) e ≤ length (take k mine) = count_by-le-length (λ number. number == e + 1) (take k mine) in
    let part : length (take k mine) ≡ k = length-take-le k mine (omega (arith, low)) in
    let most : file.count ≤ 65520 + times (take k mine) e = few_changed (file_at files e) (times (take k mine) e) (few e) file (sym (shared_at files (take k mine) e) ∙ (ap (λ l. file_at l e) (sym is) ∙ here)) in
    omega (arith, some, part, most, low, long)

pub shared_step : (files now new : List (Option OpenFile)) (mine : List ℕ) (k : ℕ) → k < length mine → now ≡ shared files (take k mine) → 0 < slice_index mine k → IsSome (file_at files (slice_index mine k - 1))
    → new ≡ with_change now (slice_index mine k - 1) (with_more 1) → new ≡ shared files (take (k + 1) mine)
shared_step files now new mine k low is some used after =
    after ∙ (ap (λ l. with_change l (slice_index mine k - 1) (with_more 1)) is ∙ shared_more files mine k (slice_index mine k - 1) low (used_low files (slice_index mine k - 1) used) (omega (arith, some)))

pub shared_skip : (files now new : List (Option OpenFile)) (mine : List ℕ) (k : ℕ) → k < length mine → now ≡ shared files (take k mine) → slice_index mine k ≡ 0 → new ≡ now → new ≡ shared files (take (k + 1) mine)
shared_skip files now new mine k low is none same = same ∙ (is ∙ shared_more_none files mine k low none)

-- No entry past the last is in use.
pub past_unused : (files : List (Option OpenFile)) (entry : ℕ) → length files ≤ entry → is_some (file_at files entry) ≡ false
past_unused files entry past = ap is_some (get_or_past files entry None past)

-- A file that one number fewer names stays where one is left.
pub named_left : (files : List (Option OpenFile)) (i : ℕ) (x : OpenFile) → AreNamed files → 1 ≤ x.count → AreNamed (slice_set files i (Some x))
named_left files i x all some = named_set files i (Some x) all (λ file is. subst (λ (y : OpenFile). 1 ≤ y.count) (same_Some x file is) some)

pub named_gone : (files : List (Option OpenFile)) (i : ℕ) → AreNamed files → AreNamed (slice_set files i None)
named_gone files i all = named_set files i None all (λ file is. absurd (none-some file is))
