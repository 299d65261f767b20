-- The least number of a list that passes a test.
use Rattle.std.proofs.Common.{◌≡◌, ◌≤◌, inl, inr, ℕ, Bool, true, false, cond, List, [], ◌∷◌, min, nat_eq, Option, Some, None, refl, ap, ◌∙◌, arith}
use Rattle.std.proofs.lemmas.Bool.{cases_lt}
use Rattle.std.proofs.lemmas.Bool.Decides.{eqb_tells}
use Rattle.std.specs.List.{filter, count_by}
use Rattle.fs_codec.specs.Faults.{least, lesser}
use Rattle.fs_codec.proofs.CountLemmas.{count-cons}

-- none passes; or this one does, and each that does is as great
abbrev pub IsLeast : (ℕ → Bool) → List ℕ → Option ℕ → Type 0
IsLeast p xs None = (k : ℕ) → 1 ≤ count_by (nat_eq k) xs → p k ≡ false
IsLeast p xs (Some m) = (p m ≡ true) × ((k : ℕ) → 1 ≤ count_by (nat_eq k) xs → p k ≡ true → m ≤ k)

-- a number that comes, and is not the first, comes after it
after_first : (k x : ℕ) (xs : List ℕ) → nat_eq k x ≡ false → 1 ≤ count_by (nat_eq k) (x ∷ xs) → 1 ≤ count_by (nat_eq k) xs
after_first k x xs other h = let no : cond {A = ℕ} (nat_eq k x) 1 0 ≡ 0 = ap (λ t. cond t 1 0) other in omega (arith, count-cons k x xs)

lesser_passes : (p : ℕ → Bool) (x y : ℕ) → p x ≡ true → p y ≡ true → p (min x y) ≡ true
lesser_passes p x y px py = elim (cases_lt x y) [ inl h ↦ (let e : min x y ≡ x = omega arith in ap p e ∙ px) | inr h ↦ (let e : min x y ≡ y = omega arith in ap p e ∙ py) ]

with_first : (p : ℕ → Bool) (x : ℕ) (xs : List ℕ) (o : Option ℕ) → p x ≡ true → IsLeast p xs o → IsLeast p (x ∷ xs) (lesser (Some x) o)
with_first p x xs None px is = (
  px,
  λ k h pk. elim (eqb_tells k x) [
    | inl e ↦ omega (arith, e.1)
    | inr e ↦ let fails : p k ≡ false = is k (after_first k x xs e.0 h) in absurd (cc)
  ],
)
with_first p x xs (Some y) px is = (
  lesser_passes p x y px is.0,
  λ k h pk. elim (eqb_tells k x) [
    | inl e ↦ omega (arith, e.1)
    | inr e ↦ let low : y ≤ k = is.1 k (after_first k x xs e.0 h) pk in omega arith
  ],
)

without_first : (p : ℕ → Bool) (x : ℕ) (xs : List ℕ) (o : Option ℕ) → p x ≡ false → IsLeast p xs o → IsLeast p (x ∷ xs) o
without_first p x xs None px is = λ k h. elim (eqb_tells k x) [ inl e ↦ ap p e.1 ∙ px | inr e ↦ is k (after_first k x xs e.0 h) ]
without_first p x xs (Some y) px is = (
  is.0,
  λ k h pk. elim (eqb_tells k x) [
    | inl e ↦ let same : p k ≡ false = ap p e.1 ∙ px in absurd (cc)
    | inr e ↦ is.1 k (after_first k x xs e.0 h) pk
  ],
)

by_first : (p : ℕ → Bool) (x : ℕ) (xs : List ℕ) (t : Bool) → p x ≡ t → IsLeast p xs (least (filter p xs)) → IsLeast p (x ∷ xs) (least (cond t (x ∷ filter p xs) (filter p xs)))
by_first p x xs true e is = with_first p x xs (least (filter p xs)) e is
by_first p x xs false e is = without_first p x xs (least (filter p xs)) e is

pub least_is : (p : ℕ → Bool) (xs : List ℕ) → IsLeast p xs (least (filter p xs))
least_is p [] = λ k h. absurd (omega arith)
least_is p (x ∷ xs) = by_first p x xs (p x) refl (least_is p xs)
