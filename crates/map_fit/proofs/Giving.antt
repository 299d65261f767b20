-- What is given back, and that there are few holes.
use Rattle.std.proofs.Common.{◌≡◌, ◌≢◌, ◌+◌, ◌-◌, ◌<◌, ◌≤◌, ◌==◌, ◌⊎◌, inl, inr, ℕ, zero, suc, Bool, true, false, not, ◌&&◌, ◌||◌, cond, List, [], ◌∷◌, length, set, remove, insert, nat_lt, nat_le, refl, sym, ap, ◌∙◌, arith, subst}
use Rattle.std.proofs.lemmas.Bool.{cases_lt, le-leb, lt-leb, leb-true, leb-false, ltb-true, eqb-true, eqb-false, eq-eqb, ne_eqb, or_parts, or_from, or_left, or_right, or_cases, and_parts, both_ways, not-false}
use Rattle.std.proofs.lemmas.List.Sums.{fails_before_first, passes_at_first, prefix_len-le-length}
use Rattle.std.specs.List.{position_or_len, list_any}
use Rattle.map_fit.specs.declared.holes.Hole.{Hole}
use Rattle.map_fit.specs.Fit.{Range, meets, is_clear}
use Rattle.map_fit.specs.Free.{is_within, is_free, AreFrom, AreHoles, IsMap}
use Rattle.map_fit.specs.Lists.{hole_at, no_hole, ends_at, joined_at, given_at, IsPlace}
use Rattle.map_fit.proofs.Units.{in_true, in_below, in_above, Lies, Below, In, Above, lies, none_below, hole_low, hole_end, hole_free, hole_some, meets_no, clear_none}
use Rattle.map_fit.proofs.Taking.{is_free_in}

-- two ranges side by side are one
beside : (a n m x : ℕ) → is_within a (n + m) x ≡ (is_within a n x || is_within (a + n) m x)
beside a n m x = by (lies a n x)
  where
    by : Lies a n x → is_within a (n + m) x ≡ (is_within a n x || is_within (a + n) m x)
    by (Below l) = in_below a (n + m) x l ∙ sym (or_from (is_within a n x) (is_within (a + n) m x) (in_below a n x l) (in_below (a + n) m x (omega arith)))
    by (In l h) = in_true a (n + m) x l (omega arith) ∙ sym (or_left (is_within a n x) (is_within (a + n) m x) (in_true a n x l h))
    by (Above l) = elim (cases_lt x (a + n + m)) [
      | inl h ↦ in_true a (n + m) x (omega arith) (omega arith) ∙ sym (or_right (is_within a n x) (is_within (a + n) m x) (in_true (a + n) m x l h))
      | inr h ↦ in_above a (n + m) x (omega arith) ∙ sym (or_from (is_within a n x) (is_within (a + n) m x) (in_above a n x l) (in_above (a + n) m x h))
    ]

or_last : (a b : Bool) → (a || b) ≡ (b || a)
or_last true true = refl
or_last true false = refl
or_last false true = refl
or_last false false = refl

or_moves : (a b f : Bool) → ((a || b) || f) ≡ ((a || f) || b)
or_moves true b f = refl
or_moves false b f = or_last b f

or_joins : (a b f : Bool) → (a || (b || f)) ≡ ((a || b) || f)
or_joins true b f = refl
or_joins false b f = refl

joined_units : (hs : List Hole) (at n x : ℕ) → is_free (joined_at hs zero at n) x ≡ (is_within at n x || is_free hs x)
joined_units [] at n x = refl
joined_units (h ∷ hs) at n x = by (at + n == h.at) refl
  where
    by : (b : Bool) → (at + n == h.at) ≡ b
        → is_free (cond b (record { at = at; size = n + h.size } ∷ hs) (record { at = at; size = n } ∷ h ∷ hs)) x ≡ (is_within at n x || (is_within h.at h.size x || is_free hs x))
    by true e =
        let same : at + n ≡ h.at = eqb-true (at + n) h.at e in
        ap (λ b. b || is_free hs x) (beside at n h.size x ∙ ap (λ k. is_within at n x || is_within k h.size x) same)
        ∙ sym (or_joins (is_within at n x) (is_within h.at h.size x) (is_free hs x))
    by false e = refl

pub given_units : (hs : List Hole) (i at n x : ℕ) → is_free (given_at hs i at n) x ≡ (is_free hs x || is_within at n x)
given_units [] i at n x = or_last (is_within at n x) false
given_units (h ∷ hs) zero at n x = by (h.at + h.size == at) refl
  where
    by : (b : Bool) → (h.at + h.size == at) ≡ b
        → is_free (cond b (joined_at hs zero h.at (h.size + n)) (joined_at (h ∷ hs) zero at n)) x ≡ ((is_within h.at h.size x || is_free hs x) || is_within at n x)
    by true e =
        let same : h.at + h.size ≡ at = eqb-true (h.at + h.size) at e in
        joined_units hs h.at (h.size + n) x
        ∙ ap (λ b. b || is_free hs x) (beside h.at h.size n x ∙ ap (λ k. is_within h.at h.size x || is_within k n x) same)
        ∙ or_moves (is_within h.at h.size x) (is_within at n x) (is_free hs x)
    by false e = joined_units (h ∷ hs) at n x ∙ or_last (is_within at n x) (is_within h.at h.size x || is_free hs x)
given_units (h ∷ hs) (suc i) at n x =
    ap (λ b. is_within h.at h.size x || b) (given_units hs i at n x) ∙ or_joins (is_within h.at h.size x) (is_free hs x) (is_within at n x)

pub is_place : (hs : List Hole) (at : ℕ) → IsPlace hs at (position_or_len (λ h. nat_le at (h.at + h.size)) hs)
is_place hs at = record {
  small = bounded hs;
  before = λ k l. leb-false at (ends_at (hole_at hs k)) (fails_before_first (λ (h : Hole). nat_le at (h.at + h.size)) hs k no_hole l);
  here = λ l. leb-true at (ends_at (hole_at hs (position_or_len (λ h. nat_le at (h.at + h.size)) hs))) (passes_at_first (λ (h : Hole). nat_le at (h.at + h.size)) hs no_hole l);
}
  where
    bounded : (gs : List Hole) → position_or_len (λ h. nat_le at (h.at + h.size)) gs ≤ length gs
    bounded gs = prefix_len-le-length (λ (h : Hole). not (nat_le at (h.at + h.size))) gs

next_place : (h : Hole) (hs : List Hole) (at i : ℕ) → IsPlace (h ∷ hs) at (suc i) → IsPlace hs at i
next_place h hs at i p = record {
  small = let l = p.small in omega (arith, l);
  before = λ k l. p.before (suc k) (omega arith);
  here = λ l. p.here (omega arith);
}

abbrev AreTaken : List Hole → ℕ → ℕ → Type 0
AreTaken hs at n = (x : ℕ) → at ≤ x → x < at + n → is_free hs x ≡ false

taken_rest : (h : Hole) (hs : List Hole) (at n : ℕ) → AreTaken (h ∷ hs) at n → AreTaken hs at n
taken_rest h hs at n t x l m = (or_parts (is_within h.at h.size x) (is_free hs x) (t x l m)).1

-- holes that begin after a place, none of whose next units is free, begin after these
raised : (low at n : ℕ) (hs : List Hole) → AreFrom low hs → at ≤ low → AreTaken hs at n → AreFrom (at + n) hs
raised low at n [] are l t = tt
raised low at n (h ∷ hs) are l t =
    let a : low ≤ h.at = are.0 in
    let b : 0 < h.size = are.1 in
    let far : at + n ≤ h.at = elim (cases_lt h.at (at + n)) [
      | inr f ↦ f
      | inl near ↦ absurd (both_ways _ (t h.at (omega arith) near) (or_left (is_within h.at h.size h.at) (is_free hs h.at) (in_true h.at h.size h.at (omega arith) (omega arith))))
    ] in
    (far, are.1, are.2, are.3)

joined_from : (low at n : ℕ) (hs : List Hole) → low ≤ at → 0 < n → at + n ≤ 65535 → AreFrom (at + n) hs → AreFrom low (joined_at hs zero at n)
joined_from low at n [] l p m are = (l, p, m, tt)
joined_from low at n (h ∷ hs) l p m are = by (at + n == h.at) refl
  where
    by : (b : Bool) → (at + n == h.at) ≡ b → AreFrom low (cond b (record { at = at; size = n + h.size } ∷ hs) (record { at = at; size = n } ∷ h ∷ hs))
    by true e =
        let same : at + n ≡ h.at = eqb-true (at + n) h.at e in
        let b : h.at + h.size ≤ 65535 = are.2 in
        let k : h.at + h.size + 1 ≡ at + (n + h.size) + 1 = omega arith in
        (l, omega arith, omega arith, subst (λ j. AreFrom j hs) k are.3)
    by false e =
        let a : at + n ≤ h.at = are.0 in
        let ne : at + n ≡ h.at → ⊥ = eqb-false (at + n) h.at e in
        let far : at + n < h.at = elim (cases_lt (at + n) h.at) [ inl x ↦ x | inr y ↦ absurd (ne (omega arith)) ] in
        (l, p, m, (omega arith, are.1, are.2, are.3))

pub given_from : (low at n i : ℕ) (hs : List Hole) → AreFrom low hs → low ≤ at → 0 < n → at + n ≤ 65535 → IsPlace hs at i → AreTaken hs at n → AreFrom low (given_at hs i at n)
given_from low at n i [] are l p m place t = (l, p, m, tt)
given_from low at n zero (h ∷ hs) are l p m place t = by (h.at + h.size == at) refl
  where
    near : at ≤ h.at + h.size
    near = place.here (omega arith)

    some : 0 < h.size
    some = are.1

    by : (b : Bool) → (h.at + h.size == at) ≡ b → AreFrom low (cond b (joined_at hs zero h.at (h.size + n)) (joined_at (h ∷ hs) zero at n))
    by true e =
        let same : h.at + h.size ≡ at = eqb-true (h.at + h.size) at e in
        let up : AreFrom (at + n) hs = raised (h.at + h.size + 1) at n hs are.3 (omega arith) (taken_rest h hs at n t) in
        let k : at + n ≡ h.at + (h.size + n) = omega arith in
        joined_from low h.at (h.size + n) hs are.0 (omega arith) (omega arith) (subst (λ j. AreFrom j hs) k up)
    by false e =
        let ne : h.at + h.size ≡ at → ⊥ = eqb-false (h.at + h.size) at e in
        let over : at < h.at + h.size = elim (cases_lt at (h.at + h.size)) [ inl x ↦ x | inr y ↦ absurd (ne (omega arith)) ] in
        let hit = λ (x : ℕ) (a : at ≤ x) (b : x < at + n) (c : h.at ≤ x) (d : x < h.at + h.size).
        both_ways (is_free (h ∷ hs) x) (t x a b) (or_left (is_within h.at h.size x) (is_free hs x) (in_true h.at h.size x c d)) in
        let far : at + n ≤ h.at = elim (cases_lt h.at (at + n)) [
          | inr f ↦ f
          | inl close ↦ elim (cases_lt at h.at) [
            | inl a ↦ absurd (hit h.at (omega arith) close (omega arith) (omega arith))
            | inr a ↦ absurd (hit at (omega arith) (omega arith) a over)
          ]
        ] in
        joined_from low at n (h ∷ hs) l p m (far, are.1, are.2, are.3)
given_from low at n (suc i) (h ∷ hs) are l p m place t =
    let b : h.at + h.size < at = place.before zero (omega arith) in
    (are.0, are.1, are.2, given_from (h.at + h.size + 1) at n i hs are.3 (omega arith) p m (next_place h hs at i place) (taken_rest h hs at n t))

-- the code does so
pub join_after : (hs : List Hole) (i at n : ℕ) → i < length hs → at + n ≡ (hole_at hs i).at → set hs i (record { at = at; size = n + (hole_at hs i).size }) ≡ joined_at hs i at n
join_after [] i at n l e = absurd (omega arith)
join_after (h ∷ hs) zero at n l e = let s : (at + n == h.at) ≡ true = eq-eqb (at + n) h.at e in rw s refl
join_after (h ∷ hs) (suc i) at n l e = ap (λ t. h ∷ t) (join_after hs i at n (omega arith) e)

pub join_apart : (hs : List Hole) (i at n : ℕ) → i ≤ length hs → (i < length hs → at + n ≢ (hole_at hs i).at) → insert hs i (record { at = at; size = n }) ≡ joined_at hs i at n
join_apart [] zero at n l e = refl
join_apart [] (suc i) at n l e = absurd (omega arith)
join_apart (h ∷ hs) zero at n l e = let s : (at + n == h.at) ≡ false = ne_eqb (at + n) h.at (e (omega arith)) in rw s refl
join_apart (h ∷ hs) (suc i) at n l e = ap (λ t. h ∷ t) (join_apart hs i at n (omega arith) (λ m. e (omega arith)))

pub give_after : (hs : List Hole) (i at n : ℕ) → i < length hs → (hole_at hs i).at + (hole_at hs i).size ≡ at
    → joined_at (remove hs i) i (hole_at hs i).at ((hole_at hs i).size + n) ≡ given_at hs i at n
give_after [] i at n l e = absurd (omega arith)
give_after (h ∷ hs) zero at n l e = let s : (h.at + h.size == at) ≡ true = eq-eqb (h.at + h.size) at e in rw s refl
give_after (h ∷ hs) (suc i) at n l e = ap (λ t. h ∷ t) (give_after hs i at n (omega arith) e)

pub give_apart : (hs : List Hole) (i at n : ℕ) → i ≤ length hs → (i < length hs → (hole_at hs i).at + (hole_at hs i).size ≢ at) → joined_at hs i at n ≡ given_at hs i at n
give_apart [] i at n l e = refl
give_apart (h ∷ hs) zero at n l e = let s : (h.at + h.size == at) ≡ false = ne_eqb (h.at + h.size) at (e (omega arith)) in rw s refl
give_apart (h ∷ hs) (suc i) at n l e = ap (λ t. h ∷ t) (give_apart hs i at n (omega arith) (λ m. e (omega arith)))

-- Each hole but the first begins where a range ends, so there is at most one hole more than ranges.
abbrev EndsAt : ℕ → List Range → Type 0
EndsAt x [] = ⊥
EndsAt x (r ∷ rs) = (r.at + r.size ≡ x) ⊎ EndsAt x rs

abbrev one_if : Bool → ℕ → ℕ
one_if true k = suc k
one_if false k = k

-- how many ranges end at a place or after it
abbrev ends_from : ℕ → List Range → ℕ
ends_from low [] = 0
ends_from low (r ∷ rs) = one_if (nat_le low (r.at + r.size)) (ends_from low rs)

at_most : (b : Bool) (k n : ℕ) → k ≤ n → one_if b k ≤ suc n
at_most true k n l = omega arith
at_most false k n l = omega arith

ends_most : (low : ℕ) (rs : List Range) → ends_from low rs ≤ length rs
ends_most low [] = omega arith
ends_most low (r ∷ rs) = at_most (nat_le low (r.at + r.size)) (ends_from low rs) (length rs) (ends_most low rs)

fewer_ends : (low from : ℕ) (rs : List Range) → low ≤ from → ends_from from rs ≤ ends_from low rs
fewer_ends low from [] l = omega arith
fewer_ends low from (r ∷ rs) l = by (nat_le from (r.at + r.size)) (nat_le low (r.at + r.size)) refl refl (fewer_ends low from rs l)
  where
    by : (a b : Bool) → nat_le from (r.at + r.size) ≡ a → nat_le low (r.at + r.size) ≡ b → ends_from from rs ≤ ends_from low rs
        → one_if a (ends_from from rs) ≤ one_if b (ends_from low rs)
    by true true e f k = omega (arith, k)
    by true false e f k = absurd (let x = leb-true from (r.at + r.size) e in let y = leb-false low (r.at + r.size) f in omega (arith, x, y, l))
    by false true e f k = omega (arith, k)
    by false false e f k = k

counted : (low from x : ℕ) (rs : List Range) → low ≤ x → x < from → EndsAt x rs → suc (ends_from from rs) ≤ ends_from low rs
counted low from x [] l m h = absurd h
counted low from x (r ∷ rs) l m (inl e) =
    let a : nat_le from (r.at + r.size) ≡ false = lt-leb from (r.at + r.size) (omega arith) in
    let b : nat_le low (r.at + r.size) ≡ true = le-leb low (r.at + r.size) (omega arith) in
    let k = fewer_ends low from rs (omega arith) in
    rw (a, b) (omega (arith, k))
counted low from x (r ∷ rs) l m (inr h) =
    by (nat_le from (r.at + r.size)) (nat_le low (r.at + r.size)) refl refl (counted low from x rs l m h)
  where
    by : (a b : Bool) → nat_le from (r.at + r.size) ≡ a → nat_le low (r.at + r.size) ≡ b → suc (ends_from from rs) ≤ ends_from low rs
        → suc (one_if a (ends_from from rs)) ≤ one_if b (ends_from low rs)
    by true true e f k = omega (arith, k)
    by true false e f k = absurd (let x = leb-true from (r.at + r.size) e in let y = leb-false low (r.at + r.size) f in omega (arith, x, y, l, m))
    by false true e f k = omega (arith, k)
    by false false e f k = k

fewer : (low : ℕ) (hs : List Hole) (taken : List Range) → AreFrom low hs → ((i : ℕ) → i < length hs → EndsAt (hole_at hs i).at taken) → length hs ≤ ends_from low taken
fewer low [] taken are ends = omega arith
fewer low (h ∷ hs) taken are ends =
    let a : low ≤ h.at = are.0 in
    let k = fewer (h.at + h.size + 1) hs taken are.3 (λ i l. ends (suc i) (omega arith)) in
    let m = counted low (h.at + h.size + 1) h.at taken a (omega arith) (ends zero (omega arith)) in
    omega (arith, k, m)

ends_of : (taken : List Range) (x : ℕ) → list_any (meets x 1) taken ≡ true → list_any (meets (x + 1) 1) taken ≡ false → EndsAt (x + 1) taken
ends_of [] x e f = absurd (both_ways false refl e)
ends_of (r ∷ rs) x e f =
    let g = or_parts (meets (x + 1) 1 r) (list_any (meets (x + 1) 1) rs) f in
    elim (or_cases (meets x 1 r) (list_any (meets x 1) rs) e) [
      | inl m ↦
          (let k = and_parts (nat_lt r.at (x + 1)) (nat_lt x (r.at + r.size)) m in
          let low : r.at < x + 1 = ltb-true r.at (x + 1) k.0 in
          let high : x < r.at + r.size = ltb-true x (r.at + r.size) k.1 in
          elim (meets_no (x + 1) 1 r g.0) [
            | inl a ↦ absurd (omega arith)
            | inr a ↦ inl (omega arith)
          ])
      | inr m ↦ inr (ends_of rs x m g.1)
    ]

-- nothing is free just before a hole
before_free : (low i : ℕ) (hs : List Hole) → AreFrom low hs → 0 < low → i < length hs → is_free hs ((hole_at hs i).at - 1) ≡ false
before_free low i [] are p l = absurd (omega arith)
before_free low zero (h ∷ hs) are p l = let a : low ≤ h.at = are.0 in none_below h.at (h.at - 1) (h ∷ hs) (omega arith, are.1, are.2, are.3) (omega arith)
before_free low (suc i) (h ∷ hs) are p l =
    let a = hole_low (h.at + h.size + 1) i hs are.3 (omega arith) in
    or_from (is_within h.at h.size ((hole_at hs i).at - 1)) (is_free hs ((hole_at hs i).at - 1)) (in_above h.at h.size ((hole_at hs i).at - 1) (omega (arith, a)))
    (before_free (h.at + h.size + 1) i hs are.3 (omega arith) (omega arith))

taken_of : (taken : List Range) (x : ℕ) → is_clear taken 1 x ≡ false → list_any (meets x 1) taken ≡ true
unfolding is_clear
taken_of taken x e = not-false (list_any (meets x 1) taken) e

pub few_holes : (hs : List Hole) (taken : List Range) (first last : ℕ) → AreHoles hs → IsMap hs taken first last → length hs ≤ length taken + 1
few_holes [] taken first last are map = omega arith
few_holes (h ∷ hs) taken first last are map =
    let k = fewer (h.at + h.size + 1) hs taken are.3 each in
    let m = ends_most (h.at + h.size + 1) taken in
    omega (arith, k, m)
  where
    some : 0 < h.size
    some = are.1

    units : (x : ℕ) → is_free (h ∷ hs) x ≡ true → (first ≤ x) × (x ≤ last) × (is_clear taken 1 x ≡ true)
    units x e = is_free_in (h ∷ hs) taken first last x map e

    each : (i : ℕ) → i < length hs → EndsAt (hole_at hs i).at taken
    each i l =
        let x = (hole_at hs i).at in
        let far = hole_low (h.at + h.size + 1) i hs are.3 l in
        let none : is_free (h ∷ hs) (x - 1) ≡ false = or_from (is_within h.at h.size (x - 1)) (is_free hs (x - 1)) (in_above h.at h.size (x - 1) (omega (arith, far))) (before_free (h.at + h.size + 1) i hs are.3 (omega arith) l) in
        let begin = units h.at (or_left (is_within h.at h.size h.at) (is_free hs h.at) (in_true h.at h.size h.at (omega arith) (omega arith))) in
        let own = units x (or_right (is_within h.at h.size x) (is_free hs x) (hole_free i x hs l (omega arith) (let s = hole_some (h.at + h.size + 1) i hs are.3 l in omega (arith, s)))) in
        let low = begin.0 in
        let high = own.1 in
        let there : (nat_le first (x - 1) && (nat_le (x - 1) last && is_clear taken 1 (x - 1))) ≡ is_clear taken 1 (x - 1) =
        (let a : nat_le first (x - 1) ≡ true = le-leb first (x - 1) (omega (arith, low, far)) in
        let b : nat_le (x - 1) last ≡ true = le-leb (x - 1) last (omega (arith, high, far)) in
        rw (a, b) refl) in
        let met : list_any (meets (x - 1) 1) taken ≡ true = taken_of taken (x - 1) (sym there ∙ (sym (map.free (x - 1)) ∙ none)) in
        let same : x - 1 + 1 ≡ x = omega (arith, far) in
        let free : list_any (meets (x - 1 + 1) 1) taken ≡ false = ap (λ y. list_any (meets y 1) taken) same ∙ clear_none taken 1 x own.2 in
        subst (λ y. EndsAt y taken) same (ends_of taken (x - 1) met free)

pub ruleset joins = (join_after, join_apart)

removed_from : (low i : ℕ) (hs : List Hole) → AreFrom low hs → i < length (remove hs i) → ends_at (hole_at (remove hs i) i) ≤ 65535
removed_from low zero [] are l = absurd (omega arith)
removed_from low (suc i) [] are l = absurd (omega arith)
removed_from low zero (h ∷ hs) are l = hole_end (h.at + h.size + 1) zero hs are.3 l
removed_from low (suc i) (h ∷ hs) are l = removed_from (h.at + h.size + 1) i hs are.3 (omega arith)

pub removed_end : (hs : List Hole) (i : ℕ) → AreHoles hs → i < length (remove hs i) → ends_at (hole_at (remove hs i) i) ≤ 65535
removed_end hs i are l = removed_from 0 i hs are l

pub ends_in : (hs : List Hole) (i : ℕ) → AreHoles hs → i < length hs → ends_at (hole_at hs i) ≤ 65535
ends_in hs i are l = hole_end 0 i hs are l

pub ruleset gives = (give_after, give_apart, removed_end, ends_in)
