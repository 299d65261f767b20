-- What a search from the lowest number up finds, in words.
use Rattle.std.proofs.Common.{◌≡◌, ◌∙◌, ℕ, zero, suc, ◌+◌, ◌<◌, ◌≤◌, Bool, true, false, cond, List, [], ◌∷◌, map, Option, Some, None, MatchOption, refl, sym, ap, subst, inl, inr, arith}
use Rattle.std.specs.List.{find, range_with_len}
use Rattle.std.specs.Option.{option_map}
use Rattle.std.proofs.lemmas.Bool.{cases_eq}
use Rattle.proc_tab.specs.declared.member.Member.{Member}
use Rattle.proc_tab.specs.declared.child.Child.{Child}
use Rattle.proc_tab.specs.Processes.{Processes, member_at, passes, lowest, Finds}
use Rattle.proc_tab.specs.Children.{is_child_of, is_dead_child_of, told_by, child, Tells}

-- the first number from a on, of n, that passes a test
pub record IsFirst (test : ℕ → Bool) (a n s : ℕ) : Type 0 where
  pub above : a ≤ s
  pub low : s < a + n
  pub passes : test s ≡ true
  pub first : (r : ℕ) → a ≤ r → r < s → test r ≡ false

abbrev pub FindsIn : (ℕ → Bool) → ℕ → ℕ → Option ℕ → Type 0
FindsIn test a n o = MatchOption o ((s : ℕ) → a ≤ s → s < a + n → test s ≡ false) (λ s. IsFirst test a n s)

none_further : (test : ℕ → Bool) (a n : ℕ) → test a ≡ false → ((s : ℕ) → a + 1 ≤ s → s < a + 1 + n → test s ≡ false)
    → (s : ℕ) → a ≤ s → s < a + suc n → test s ≡ false
none_further test a n e none s l h = elim (cases_eq a s) [
  | inl same ↦ ap test (sym same) ∙ e
  | inr other ↦ none s (omega (arith, other)) (omega arith)
]

first_further : (test : ℕ → Bool) (a n s : ℕ) → test a ≡ false → IsFirst test (a + 1) n s → IsFirst test a (suc n) s
first_further test a n s e one = record {
  above = let l = one.above in omega arith;
  low = let l = one.low in omega arith;
  passes = one.passes;
  first = λ r l h. elim (cases_eq a r) [
    | inl same ↦ ap test (sym same) ∙ e
    | inr other ↦ one.first r (omega (arith, other)) h
  ];
}

pub finds_in : (test : ℕ → Bool) (n a : ℕ) → FindsIn test a n (find test (range_with_len a n))
finds_in test zero a = λ s l h. absurd (omega arith)
finds_in test (suc n) a = by (test a) refl (find test (range_with_len (a + 1) n)) (finds_in test n (a + 1))
  where
    by : (b : Bool) → test a ≡ b → (o : Option ℕ) → FindsIn test (a + 1) n o → FindsIn test a (suc n) (cond b (Some a) o)
    by true e o h = record { above = omega arith; low = omega arith; passes = e; first = λ r l h. absurd (omega arith) }
    by false e None none = none_further test a n e none
    by false e (Some s) one = first_further test a n s e one

-- the same over what a function gives
pub find_mapped : {A B : Type 0} (test : B → Bool) (f : A → B) (xs : List A) → find test (map f xs) ≡ option_map f (find (λ x. test (f x)) xs)
find_mapped test f [] = refl
find_mapped test f (x ∷ xs) = by (test (f x)) (find_mapped test f xs)
  where
    by : (b : Bool) → find test (map f xs) ≡ option_map f (find (λ y. test (f y)) xs) → cond b (Some (f x)) (find test (map f xs)) ≡ option_map f (cond b (Some x) (find (λ y. test (f y)) xs))
    by true e = refl
    by false e = e

-- The lowest slot.
pub lowest_finds : (test : Option Member → Bool) (slots : List (Option Member)) → Finds test slots (lowest test slots)
unfolding lowest
lowest_finds test slots = by (find (λ s. test (member_at slots s)) (range_with_len 1 49)) (finds_in (λ s. test (member_at slots s)) 49 1)
  where
    by : (o : Option ℕ) → FindsIn (λ s. test (member_at slots s)) 1 49 o → Finds test slots o
    by None none = λ s l h. none s (omega arith) (omega arith)
    by (Some s) one = record {
      above = let l = one.above in omega arith;
      low = let l = one.low in omega arith;
      passes = one.passes;
      first = λ r l h. one.first r (omega arith) h;
    }

pub finds_by : (v : Processes) (slots : List (Option Member)) (last : ℕ) (test : Option Member → Bool) (o : Option ℕ) → record { slots = slots; last_pid = last } ≡ v
    → o ≡ lowest test slots → Finds test v.slots o
finds_by v slots last test o is e =
    let found : Finds test slots o = subst (λ (p : Option ℕ). Finds test slots p) (sym e) (lowest_finds test slots) in
    subst (λ (w : Processes). Finds test w.slots o) is found

-- What wait(II) is told.
pub tells : (slots : List (Option Member)) (pid : ℕ) → Tells slots pid (child slots pid)
tells slots pid =
    by (lowest (passes (is_child_of pid)) slots) (lowest (passes (is_dead_child_of pid)) slots)
    (lowest_finds (passes (is_child_of pid)) slots) (lowest_finds (passes (is_dead_child_of pid)) slots)
  where
    by : (o p : Option ℕ) → Finds (passes (is_child_of pid)) slots o → Finds (passes (is_dead_child_of pid)) slots p → Tells slots pid (told_by o p)
    by None p none h = none
    by (Some s) None one none = ((s, one.above, one.low, one.passes), none)
    by (Some s) (Some t) one two = two

pub told_is : (v : Processes) (slots : List (Option Member)) (last pid : ℕ) (o p : Option ℕ) (told : Child) → record { slots = slots; last_pid = last } ≡ v
    → o ≡ lowest (passes (is_child_of pid)) slots → p ≡ lowest (passes (is_dead_child_of pid)) slots → told ≡ told_by o p → told ≡ child v.slots pid
told_is v slots last pid o p told is e f g =
    let here : told ≡ child slots pid = g ∙ (ap (λ (q : Option ℕ). told_by q p) e ∙ ap (told_by (lowest (passes (is_child_of pid)) slots)) f) in
    here ∙ ap (λ (w : Processes). child w.slots pid) is

pub tells_by : (slots : List (Option Member)) (pid : ℕ) (told : Child) → told ≡ child slots pid → Tells slots pid told
tells_by slots pid told e = subst (λ (t : Child). Tells slots pid t) (sym e) (tells slots pid)
