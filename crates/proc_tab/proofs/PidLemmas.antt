-- Of fifty-one pids one is free, and what the first of them is in words.
use Rattle.std.proofs.Common.{◌≡◌, ◌≢◌, ◌∙◌, ℕ, ◌<◌, ◌≤◌, nat_eq, Bool, true, false, not, cond, ◌||◌, List, [], ◌∷◌, map, length, get_or, Option, Some, None, is_some, IsSome, refl, sym, ap, subst, inl, inr, arith}
use Rattle.std.specs.List.{find, range_with_len, IsDistinct}
use Rattle.std.specs.Option.{option_map, unwrap_or}
use Rattle.std.specs.Set.{is_member}
use Rattle.std.proofs.lemmas.Cmp.{nat_eq_equiv}
use Rattle.std.proofs.lemmas.Bool.{eqb-true, eq-eqb, ne_eqb, false≢true, cases_lt}
use Rattle.std.proofs.lemmas.List.{length-map, get_or_past}
use Rattle.std.proofs.lemmas.List.FromFn.{length-map-range_with_len, get_or-map-range_with_len}
use Rattle.std.proofs.lemmas.List.Folds.{list_any_at}
use Rattle.std.proofs.lemmas.Map.Keys.{IsDistinct-from_apart}
use Rattle.std.proofs.lemmas.Map.Made.{length-le_from_is_member}
use Rattle.proc_tab.specs.declared.member.Member.{Member}
use Rattle.proc_tab.specs.Processes.{member_at, passes, row_of}
use Rattle.proc_tab.specs.Pids.{pid_after, has_pid, is_pid, next_pids, next_free_pid, fresh_pid, IsFresh}
use Rattle.proc_tab.proofs.SearchLemmas.{FindsIn, finds_in, find_mapped}

-- two of the fifty-one pids are never the same
apart : (last i j : ℕ) → i < j → j < 51 → pid_after last i ≢ pid_after last j
apart last i j l h e = omega arith

next_distinct : (last : ℕ) → IsDistinct nat_eq (next_pids last)
next_distinct last = IsDistinct-from_apart nat_eq (next_pids last) (λ i j d l h.
    let many : length (next_pids last) ≡ 51 = length-map-range_with_len (pid_after last) 0 51 in
    let low : j < 51 = omega (arith, many, h) in
    let one : get_or (next_pids last) i d ≡ pid_after last i = get_or-map-range_with_len (pid_after last) 0 51 i i d (omega arith) (omega arith) in
    let two : get_or (next_pids last) j d ≡ pid_after last j = get_or-map-range_with_len (pid_after last) 0 51 j j d low (omega arith) in
    ne_eqb (get_or (next_pids last) i d) (get_or (next_pids last) j d) (λ e. apart last i j l low (sym one ∙ (e ∙ two))))

-- the pids of the slots, with 0 where there is nobody
abbrev pids : List (Option Member) → List ℕ
pids slots = map (λ o. (row_of o).pid) slots

or_later : (a b : Bool) → b ≡ true → (a || b) ≡ true
or_later true b e = refl
or_later false b e = e

pid_listed : (slots : List (Option Member)) (pid : ℕ) → is_pid slots pid ≡ true → is_member nat_eq (pids slots) pid ≡ true
pid_listed [] pid e = absurd (cc e)
pid_listed (None ∷ slots) pid e = or_later (nat_eq pid 0) (is_member nat_eq (pids slots) pid) (pid_listed slots pid e)
pid_listed (Some m ∷ slots) pid e = by (nat_eq m.row.pid pid) refl e (pid_listed slots pid)
  where
    by : (b : Bool) → nat_eq m.row.pid pid ≡ b → (b || is_pid slots pid) ≡ true → (is_pid slots pid ≡ true → is_member nat_eq (pids slots) pid ≡ true)
        → (nat_eq pid m.row.pid || is_member nat_eq (pids slots) pid) ≡ true
    by true same h rest = ap (λ b. b || is_member nat_eq (pids slots) pid) (eq-eqb pid m.row.pid (sym (eqb-true m.row.pid pid same)))
    by false other h rest = or_later (nat_eq pid m.row.pid) (is_member nat_eq (pids slots) pid) (rest h)

-- a search that finds nothing has seen each one fail
none_passes : (test : ℕ → Bool) (xs : List ℕ) → find test xs ≡ None → (q : ℕ) → is_member nat_eq xs q ≡ true → test q ≡ false
none_passes test [] e q m = absurd (cc m)
none_passes test (x ∷ xs) e q m = by (test x) refl e (nat_eq q x) refl m (λ h. none_passes test xs h q)
  where
    by : (b : Bool) → test x ≡ b → cond b (Some x) (find test xs) ≡ None → (d : Bool) → nat_eq q x ≡ d → (d || is_member nat_eq xs q) ≡ true
        → (find test xs ≡ None → is_member nat_eq xs q ≡ true → test q ≡ false) → test q ≡ false
    by true t h d f n rest = absurd (cc h)
    by false t h true f n rest = ap test (eqb-true q x f) ∙ t
    by false t h false f n rest = rest h n

not_false : (b : Bool) → not b ≡ false → b ≡ true
not_false true e = refl
not_false false e = absurd (cc e)

not_true : (b : Bool) → not b ≡ true → b ≡ false
not_true true e = absurd (cc e)
not_true false e = refl

pub one_is_free : (slots : List (Option Member)) (last : ℕ) → length slots ≡ 50 → IsSome (next_free_pid slots last)
unfolding next_free_pid
one_is_free slots last long = by (find free (next_pids last)) refl
  where
    free : ℕ → Bool
    free pid = not (is_pid slots pid)

    by : (o : Option ℕ) → find free (next_pids last) ≡ o → IsSome o
    by (Some pid) e = refl
    by None e =
        let many : length (next_pids last) ≡ 51 = length-map-range_with_len (pid_after last) 0 51 in
        let few : length (pids slots) ≡ length slots = length-map slots (λ (o : Option Member). (row_of o).pid) in
        let within : length (next_pids last) ≤ length (pids slots) = length-le_from_is_member nat_eq_equiv (next_pids last) (pids slots) (next_distinct last)
        (λ q m. pid_listed slots q (not_false (is_pid slots q) (none_passes free (next_pids last) e q m))) in
        absurd (omega (arith, many, few, within, long))

-- whoever is in a slot has a pid
has_one : (slots : List (Option Member)) (s pid : ℕ) (m : Member) → member_at slots s ≡ Some m → m.row.pid ≡ pid → is_pid slots pid ≡ true
has_one slots s pid m here same = elim (cases_lt s (length slots)) [
  | inl low ↦ list_any_at (passes (has_pid pid)) slots s None low (ap (passes (has_pid pid)) here ∙ eq-eqb m.row.pid pid same)
  | inr past ↦ absurd (let none : member_at slots s ≡ None = get_or_past slots s None past in cc (none, here))
]

pub is_fresh : (slots : List (Option Member)) (last : ℕ) → length slots ≡ 50 → IsFresh slots last (fresh_pid slots last)
unfolding next_free_pid
is_fresh slots last long =
    subst (λ (o : Option ℕ). IsFresh slots last (unwrap_or o 0)) (sym mapped) (by (find free (range_with_len 0 51)) (finds_in free 51 0) (ap is_some (sym mapped) ∙ one_is_free slots last long))
  where
    free : ℕ → Bool
    free k = not (is_pid slots (pid_after last k))

    mapped : next_free_pid slots last ≡ option_map (pid_after last) (find free (range_with_len 0 51))
    mapped = find_mapped (λ pid. not (is_pid slots pid)) (pid_after last) (range_with_len 0 51)

    by : (o : Option ℕ) → FindsIn free 0 51 o → IsSome (option_map (pid_after last) o) → IsFresh slots last (unwrap_or (option_map (pid_after last) o) 0)
    by None none some = absurd (false≢true some)
    by (Some k) one some = record {
      positive = omega arith;
      small = omega arith;
      unused = λ s m here same. let no : is_pid slots (pid_after last k) ≡ false = not_true (is_pid slots (pid_after last k)) one.passes in
          let yes : is_pid slots (pid_after last k) ≡ true = has_one slots s (pid_after last k) m here same in
          false≢true (sym no ∙ yes);
      distance = k;
      is = refl;
      passed = λ j l. not_false (is_pid slots (pid_after last j)) (one.first j (omega arith) l);
    }
