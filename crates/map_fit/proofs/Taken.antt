-- Units that are all taken.
use Rattle.std.proofs.Common.{◌≡◌, ◌+◌, ◌<◌, ◌≤◌, ◌⊎◌, inl, inr, ℕ, true, false, List, [], ◌∷◌, nat_le, refl, arith}
use Rattle.std.proofs.lemmas.Bool.{cases_lt, le-leb, leb-true, or_parts, or_from, or_left, or_right, or_cases, and_from, and_parts, both_ways}
use Rattle.std.specs.List.{list_all}
use Rattle.map_fit.specs.declared.holes.Hole.{Hole}
use Rattle.map_fit.specs.Free.{is_within, is_free, AreFrom}
use Rattle.map_fit.specs.Lists.{is_apart}
use Rattle.map_fit.proofs.Units.{in_true, in_below, in_above}

-- none is free of units that no hole has
pub apart_taken : (hs : List Hole) (at n x : ℕ) → list_all (is_apart at n) hs ≡ true → at ≤ x → x < at + n → is_free hs x ≡ false
apart_taken [] at n x e l m = refl
apart_taken (h ∷ hs) at n x e l m =
    let k = and_parts (is_apart at n h) (list_all (is_apart at n) hs) e in
    or_from (is_within h.at h.size x) (is_free hs x) (out (or_cases (nat_le (at + n) h.at) (nat_le (h.at + h.size) at) k.0)) (apart_taken hs at n x k.1 l m)
  where
    out : (nat_le (at + n) h.at ≡ true) ⊎ (nat_le (h.at + h.size) at ≡ true) → is_within h.at h.size x ≡ false
    out (inl a) = let b = leb-true (at + n) h.at a in in_below h.at h.size x (omega (arith, b, m))
    out (inr a) = let b = leb-true (h.at + h.size) at a in in_above h.at h.size x (omega (arith, b, l))

-- and no hole has units of which none is free
pub taken_apart : (low at n : ℕ) (hs : List Hole) → AreFrom low hs → 0 < n → ((x : ℕ) → at ≤ x → x < at + n → is_free hs x ≡ false) → list_all (is_apart at n) hs ≡ true
taken_apart low at n [] are p none = refl
taken_apart low at n (h ∷ hs) are p none =
    and_from (is_apart at n h) (list_all (is_apart at n) hs) one (taken_apart (h.at + h.size + 1) at n hs are.3 p rest)
  where
    some : 0 < h.size
    some = are.1

    rest : (x : ℕ) → at ≤ x → x < at + n → is_free hs x ≡ false
    rest x l m = (or_parts (is_within h.at h.size x) (is_free hs x) (none x l m)).1

    both : (x : ℕ) → at ≤ x → x < at + n → h.at ≤ x → x < h.at + h.size → ⊥
    both x l m a b = both_ways (is_free (h ∷ hs) x) (none x l m) (or_left (is_within h.at h.size x) (is_free hs x) (in_true h.at h.size x a b))

    one : is_apart at n h ≡ true
    one = elim (cases_lt h.at (at + n)) [
      | inr a ↦ or_left (nat_le (at + n) h.at) (nat_le (h.at + h.size) at) (le-leb (at + n) h.at a)
      | inl a ↦ elim (cases_lt at (h.at + h.size)) [
        | inr b ↦ or_right (nat_le (at + n) h.at) (nat_le (h.at + h.size) at) (le-leb (h.at + h.size) at b)
        | inl b ↦ elim (cases_lt at h.at) [
          | inl c ↦ absurd (both h.at (omega (arith, c)) a (omega arith) (omega (arith, some)))
          | inr c ↦ absurd (both at (omega arith) (omega (arith, p)) c b)
        ]
      ]
    ]
