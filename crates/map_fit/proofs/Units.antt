-- Units of holes and of ranges.
use Rattle.std.proofs.Common.{◌≡◌, ◌+◌, ◌<◌, ◌≤◌, ◌⊎◌, inl, inr, ℕ, zero, suc, true, false, ◌&&◌, List, [], ◌∷◌, length, nat_lt, nat_le, refl, sym, ap, ◌∙◌, arith}
use Rattle.std.proofs.lemmas.Bool.{cases_lt, lt-ltb, le-ltb, le-leb, lt-leb, ltb-true, ltb-false, leb-true, or_parts, or_from, or_left, or_right, or_cases, and_from, and_parts, both_ways, not-true, not_from_false}
use Rattle.std.specs.List.{list_any}
use Rattle.map_fit.specs.declared.holes.Hole.{Hole}
use Rattle.map_fit.specs.Fit.{Range, meets, is_clear}
use Rattle.map_fit.specs.Free.{is_within, is_free, AreFrom, ArePositive}
use Rattle.map_fit.specs.Lists.{hole_at, ends_at}

pub in_true : (at n x : ℕ) → at ≤ x → x < at + n → is_within at n x ≡ true
in_true at n x low high = and_from (nat_le at x) (nat_lt x (at + n)) (le-leb at x low) (lt-ltb x (at + n) high)

pub in_below : (at n x : ℕ) → x < at → is_within at n x ≡ false
in_below at n x low = ap (λ b. b && nat_lt x (at + n)) (lt-leb at x low)

pub in_above : (at n x : ℕ) → at + n ≤ x → is_within at n x ≡ false
in_above at n x high = ap (λ b. b && nat_lt x (at + n)) (le-leb at x (omega arith)) ∙ le-ltb x (at + n) high

pub in_low : (at n x : ℕ) → is_within at n x ≡ true → at ≤ x
in_low at n x e = leb-true at x (and_parts (nat_le at x) (nat_lt x (at + n)) e).0

pub in_high : (at n x : ℕ) → is_within at n x ≡ true → x < at + n
in_high at n x e = ltb-true x (at + n) (and_parts (nat_le at x) (nat_lt x (at + n)) e).1

-- where a unit lies
pub data Lies (at n x : ℕ) : Type 0 where
  Below : x < at → Lies at n x
  In : at ≤ x → x < at + n → Lies at n x
  Above : at + n ≤ x → Lies at n x

pub lies : (at n x : ℕ) → Lies at n x
lies at n x = elim (cases_lt x at) [
  | inl low ↦ Below low
  | inr from ↦ elim (cases_lt x (at + n)) [
    | inl high ↦ In from high
    | inr past ↦ Above past
  ]
]

pub weaker : (low from : ℕ) (hs : List Hole) → low ≤ from → AreFrom from hs → AreFrom low hs
weaker low from [] l are = tt
weaker low from (h ∷ hs) l are = let a : from ≤ h.at = are.0 in (omega arith, are.1, are.2, are.3)

-- below the first hole nothing is free
pub none_below : (low x : ℕ) (hs : List Hole) → AreFrom low hs → x < low → is_free hs x ≡ false
none_below low x [] are l = refl
none_below low x (h ∷ hs) are l =
    let a : low ≤ h.at = are.0 in
    or_from (is_within h.at h.size x) (is_free hs x) (in_below h.at h.size x (omega arith)) (none_below (h.at + h.size + 1) x hs are.3 (omega arith))

pub hole_low : (low i : ℕ) (hs : List Hole) → AreFrom low hs → i < length hs → low ≤ (hole_at hs i).at
hole_low low i [] are l = absurd (omega arith)
hole_low low zero (h ∷ hs) are l = are.0
hole_low low (suc i) (h ∷ hs) are l =
    let a : low ≤ h.at = are.0 in
    let b = hole_low (h.at + h.size + 1) i hs are.3 (omega arith) in
    omega (arith, b)

-- holes rise
pub hole_rises : (low i j : ℕ) (hs : List Hole) → AreFrom low hs → i ≤ j → j < length hs → (hole_at hs i).at ≤ (hole_at hs j).at
hole_rises low i j [] are le l = absurd (omega arith)
hole_rises low zero zero (h ∷ hs) are le l = omega arith
hole_rises low zero (suc j) (h ∷ hs) are le l =
    let b = hole_low (h.at + h.size + 1) j hs are.3 (omega arith) in
    omega (arith, b)
hole_rises low (suc i) zero (h ∷ hs) are le l = absurd (omega arith)
hole_rises low (suc i) (suc j) (h ∷ hs) are le l = hole_rises (h.at + h.size + 1) i j hs are.3 (omega arith) (omega arith)

pub hole_end : (low i : ℕ) (hs : List Hole) → AreFrom low hs → i < length hs → ends_at (hole_at hs i) ≤ 65535
hole_end low i [] are l = absurd (omega arith)
hole_end low zero (h ∷ hs) are l = are.2
hole_end low (suc i) (h ∷ hs) are l = hole_end (h.at + h.size + 1) i hs are.3 (omega arith)

pub hole_some : (low i : ℕ) (hs : List Hole) → AreFrom low hs → i < length hs → 0 < (hole_at hs i).size
hole_some low i [] are l = absurd (omega arith)
hole_some low zero (h ∷ hs) are l = are.1
hole_some low (suc i) (h ∷ hs) are l = hole_some (h.at + h.size + 1) i hs are.3 (omega arith)

-- the units of a hole are free
pub hole_free : (i x : ℕ) (hs : List Hole) → i < length hs → (hole_at hs i).at ≤ x → x < ends_at (hole_at hs i) → is_free hs x ≡ true
hole_free i x [] l low high = absurd (omega arith)
hole_free zero x (h ∷ hs) l low high = or_left (is_within h.at h.size x) (is_free hs x) (in_true h.at h.size x low high)
hole_free (suc i) x (h ∷ hs) l low high = or_right (is_within h.at h.size x) (is_free hs x) (hole_free i x hs (omega arith) low high)

-- Some free units in a row lie in one hole.
pub record IsInHole (hs : List Hole) (s n : ℕ) : Type 0 where
  pub index : ℕ
  pub small : index < length hs
  pub low : (hole_at hs index).at ≤ s
  pub high : s + n ≤ ends_at (hole_at hs index)

pub in_hole : (low s n : ℕ) (hs : List Hole) → AreFrom low hs → 0 < n → ((x : ℕ) → s ≤ x → x < s + n → is_free hs x ≡ true) → IsInHole hs s n
in_hole low s n [] are p free = absurd (both_ways false refl (free s (omega arith) (omega arith)))
in_hole low s n (h ∷ hs) are p free = at (lies h.at h.size s) (λ f. in_hole (h.at + h.size + 1) s n hs are.3 p f)
  where
    later : IsInHole hs s n → IsInHole (h ∷ hs) s n
    later rest = record { index = suc rest.index; small = let l = rest.small in omega (arith, l); low = rest.low; high = rest.high }

    at : Lies h.at h.size s → (((x : ℕ) → s ≤ x → x < s + n → is_free hs x ≡ true) → IsInHole hs s n) → IsInHole (h ∷ hs) s n
    at (Below l) rest =
        absurd (both_ways (is_free (h ∷ hs) s) (none_below h.at s (h ∷ hs) (omega arith, are.1, are.2, are.3) l) (free s (omega arith) (omega arith)))
    at (Above past) rest = later (rest (λ x l m.
        let f = free x l m in
        elim (or_cases (is_within h.at h.size x) (is_free hs x) f) [
          | inl e ↦ absurd (let a = in_high h.at h.size x e in omega (arith, a))
          | inr e ↦ e
        ]))
    at (In l m) rest = elim (cases_lt (h.at + h.size) (s + n)) [
      | inr fits ↦ record { index = zero; small = omega arith; low = l; high = fits }
      | inl over ↦ absurd (both_ways (is_free (h ∷ hs) (h.at + h.size))
          (or_from (is_within h.at h.size (h.at + h.size)) (is_free hs (h.at + h.size)) (in_above h.at h.size (h.at + h.size) (omega arith)) (none_below (h.at + h.size + 1) (h.at + h.size) hs are.3 (omega arith)))
          (free (h.at + h.size) (omega arith) (omega arith)))
    ]

-- a range that no units meet
pub meets_no : (s n : ℕ) (r : Range) → meets s n r ≡ false → (s + n ≤ r.at) ⊎ (r.at + r.size ≤ s)
meets_no s n r e = elim (cases_lt r.at (s + n)) [
  | inr before ↦ inl before
  | inl low ↦ inr (ltb-false s (r.at + r.size) (sym (ap (λ b. b && nat_lt s (r.at + r.size)) (lt-ltb r.at (s + n) low)) ∙ e))
]

pub no_meets : (s n : ℕ) (r : Range) → (s + n ≤ r.at) ⊎ (r.at + r.size ≤ s) → meets s n r ≡ false
no_meets s n r (inl before) = ap (λ b. b && nat_lt s (r.at + r.size)) (le-ltb r.at (s + n) before)
no_meets s n r (inr past) = elim (cases_lt r.at (s + n)) [
  | inl low ↦ ap (λ b. b && nat_lt s (r.at + r.size)) (lt-ltb r.at (s + n) low) ∙ le-ltb s (r.at + r.size) past
  | inr before ↦ ap (λ b. b && nat_lt s (r.at + r.size)) (le-ltb r.at (s + n) before)
]

pub clear_none : (taken : List Range) (n s : ℕ) → is_clear taken n s ≡ true → list_any (meets s n) taken ≡ false
unfolding is_clear
clear_none taken n s e = not-true (list_any (meets s n) taken) e

pub none_clear : (taken : List Range) (n s : ℕ) → list_any (meets s n) taken ≡ false → is_clear taken n s ≡ true
unfolding is_clear
none_clear taken n s e = not_from_false (list_any (meets s n) taken) e

each_none : (taken : List Range) (s n x : ℕ) → s ≤ x → x < s + n → list_any (meets s n) taken ≡ false → list_any (meets x 1) taken ≡ false
each_none [] s n x l m e = refl
each_none (r ∷ rs) s n x l m e =
    let k = or_parts (meets s n r) (list_any (meets s n) rs) e in
    or_from (meets x 1 r) (list_any (meets x 1) rs)
    (elim (meets_no s n r k.0) [
      | inl before ↦ no_meets x 1 r (inl (omega arith))
      | inr past ↦ no_meets x 1 r (inr (omega arith))
    ])
    (each_none rs s n x l m k.1)

-- Some units are clear exactly where each of them is, as no range is empty.
pub clear_each : (taken : List Range) (s n x : ℕ) → s ≤ x → x < s + n → is_clear taken n s ≡ true → is_clear taken 1 x ≡ true
clear_each taken s n x l m e = none_clear taken 1 x (each_none taken s n x l m (clear_none taken n s e))

none_each : (taken : List Range) (s n : ℕ) → ArePositive taken → 0 < n → ((x : ℕ) → s ≤ x → x < s + n → list_any (meets x 1) taken ≡ false) → list_any (meets s n) taken ≡ false
none_each [] s n pos p each = refl
none_each (r ∷ rs) s n pos p each =
    or_from (meets s n r) (list_any (meets s n) rs) first
    (none_each rs s n pos.1 p (λ x l m. (or_parts (meets x 1 r) (list_any (meets x 1) rs) (each x l m)).1))
  where
    here : (x : ℕ) → s ≤ x → x < s + n → (x + 1 ≤ r.at) ⊎ (r.at + r.size ≤ x)
    here x l m = meets_no x 1 r (or_parts (meets x 1 r) (list_any (meets x 1) rs) (each x l m)).0

    first : meets s n r ≡ false
    first = elim (cases_lt r.at (s + n)) [
      | inr before ↦ no_meets s n r (inl before)
      | inl low ↦ elim (cases_lt s r.at) [
        | inl under ↦ elim (here r.at (omega arith) low) [
          | inl a ↦ absurd (omega arith)
          | inr a ↦ absurd (let q : 0 < r.size = pos.0 in omega arith)
        ]
        | inr over ↦ elim (here s (omega arith) (omega arith)) [
          | inl a ↦ absurd (omega arith)
          | inr a ↦ no_meets s n r (inr a)
        ]
      ]
    ]

pub each_clear : (taken : List Range) (s n : ℕ) → ArePositive taken → 0 < n → ((x : ℕ) → s ≤ x → x < s + n → is_clear taken 1 x ≡ true) → is_clear taken n s ≡ true
each_clear taken s n pos p each = none_clear taken n s (none_each taken s n pos p (λ x l m. clear_none taken 1 x (each x l m)))
