-- What is taken from the front of a hole.
use Rattle.std.proofs.Common.{◌≡◌, ◌+◌, ◌-◌, ◌<◌, ◌≤◌, ◌==◌, inl, inr, ℕ, zero, suc, Bool, true, false, not, ◌&&◌, ◌||◌, cond, List, [], ◌∷◌, length, set, remove, nat_le, position, Some, None, refl, sym, ap, ◌∙◌, arith, subst}
use Rattle.std.proofs.lemmas.Bool.{cases_lt, le-leb, leb-true, eqb-true, eqb-false, and_from, and_parts, both_ways, false_from_ne_true}
use Rattle.std.proofs.lemmas.List.Quantifiers.{position-Some}
use Rattle.std.proofs.lemmas.List.Sums.{fails_before_first}
use Rattle.std.proofs.lemmas.Grind.{common_steps}
use Rattle.std.specs.List.{position_or_len}
use Rattle.map_fit.specs.declared.holes.Hole.{Hole}
use Rattle.map_fit.specs.Fit.{Range, is_clear, first_fit}
use Rattle.map_fit.specs.Free.{is_within, is_free, AreFrom, AreHoles, IsMap}
use Rattle.map_fit.specs.Lists.{hole_at, no_hole, cut_at}
use Rattle.map_fit.proofs.Fits.{fit_is}
use Rattle.map_fit.proofs.Units.{in_true, in_below, in_above, in_high, Lies, Below, In, Above, lies, weaker, none_below, hole_low, hole_rises, hole_end, hole_free, in_hole, clear_each, each_clear}

not_false : (b : Bool) → (b && not false) ≡ b
not_false true = refl
not_false false = refl

not_true : (b : Bool) → (b && not true) ≡ false
not_true true = refl
not_true false = refl

-- what is free then
front_units : (h : Hole) (hs : List Hole) (n x : ℕ) (rest : Bool) → n ≤ h.size → is_free hs x ≡ rest → (x < h.at + h.size → rest ≡ false)
    → is_free (cond (h.size == n) hs (record { at = h.at + n; size = h.size - n } ∷ hs)) x ≡ ((is_within h.at h.size x || rest) && not (is_within h.at n x))
front_units h hs n x rest fits is none = by (h.size == n) refl
  where
    out : is_within h.at n x ≡ false → ((is_within h.at h.size x || rest) && not (is_within h.at n x)) ≡ (is_within h.at h.size x || rest)
    out e = ap (λ b. (is_within h.at h.size x || rest) && not b) e ∙ not_false (is_within h.at h.size x || rest)

    gone : is_within h.at n x ≡ true → ((is_within h.at h.size x || rest) && not (is_within h.at n x)) ≡ false
    gone e = ap (λ b. (is_within h.at h.size x || rest) && not b) e ∙ not_true (is_within h.at h.size x || rest)

    whole : h.size ≡ n → Lies h.at h.size x → is_free hs x ≡ ((is_within h.at h.size x || rest) && not (is_within h.at n x))
    whole e (Below l) = is ∙ sym (out (in_below h.at n x l) ∙ ap (λ b. b || rest) (in_below h.at h.size x l))
    whole e (Above l) = is ∙ sym (out (in_above h.at n x (omega arith)) ∙ ap (λ b. b || rest) (in_above h.at h.size x l))
    whole e (In l m) = is ∙ none m ∙ sym (gone (in_true h.at n x l (omega arith)))

    less : Lies h.at n x → (is_within (h.at + n) (h.size - n) x || is_free hs x) ≡ ((is_within h.at h.size x || rest) && not (is_within h.at n x))
    less (Below l) =
        ap (λ b. b || is_free hs x) (in_below (h.at + n) (h.size - n) x (omega arith)) ∙ is
        ∙ sym (out (in_below h.at n x l) ∙ ap (λ b. b || rest) (in_below h.at h.size x l))
    less (In l m) =
        ap (λ b. b || is_free hs x) (in_below (h.at + n) (h.size - n) x (omega arith)) ∙ (is ∙ none (omega arith))
        ∙ sym (gone (in_true h.at n x l m))
    less (Above l) = elim (cases_lt x (h.at + h.size)) [
      | inl m ↦ ap (λ b. b || is_free hs x) (in_true (h.at + n) (h.size - n) x (omega arith) (omega arith))
          ∙ sym (out (in_above h.at n x l) ∙ ap (λ b. b || rest) (in_true h.at h.size x (omega arith) m))
      | inr m ↦ ap (λ b. b || is_free hs x) (in_above (h.at + n) (h.size - n) x (omega arith)) ∙ is
          ∙ sym (out (in_above h.at n x l) ∙ ap (λ b. b || rest) (in_above h.at h.size x m))
    ]

    by : (b : Bool) → (h.size == n) ≡ b → is_free (cond b hs (record { at = h.at + n; size = h.size - n } ∷ hs)) x ≡ ((is_within h.at h.size x || rest) && not (is_within h.at n x))
    by true e = whole (eqb-true h.size n e) (lies h.at h.size x)
    by false e = less (lies h.at n x)

pub cut_units : (low i n x : ℕ) (hs : List Hole) → AreFrom low hs → i < length hs → n ≤ (hole_at hs i).size
    → is_free (cut_at hs i n) x ≡ (is_free hs x && not (is_within (hole_at hs i).at n x))
cut_units low i n x [] are l fits = absurd (omega arith)
cut_units low zero n x (h ∷ hs) are l fits =
    front_units h hs n x (is_free hs x) fits refl (λ m. none_below (h.at + h.size + 1) x hs are.3 (omega arith))
cut_units low (suc i) n x (h ∷ hs) are l fits =
    by (is_within h.at h.size x) refl (cut_units (h.at + h.size + 1) i n x hs are.3 (omega arith) fits) (hole_low (h.at + h.size + 1) i hs are.3 (omega arith))
  where
    by : (b : Bool) → is_within h.at h.size x ≡ b → is_free (cut_at hs i n) x ≡ (is_free hs x && not (is_within (hole_at hs i).at n x))
        → h.at + h.size + 1 ≤ (hole_at hs i).at → (b || is_free (cut_at hs i n) x) ≡ ((b || is_free hs x) && not (is_within (hole_at hs i).at n x))
    by false e rest far = rest
    by true e rest far =
        let m = in_high h.at h.size x e in
        sym (ap (λ b. true && not b) (in_below (hole_at hs i).at n x (omega (arith, m, far))))

pub cut_from : (low i n : ℕ) (hs : List Hole) → AreFrom low hs → i < length hs → n ≤ (hole_at hs i).size → AreFrom low (cut_at hs i n)
cut_from low i n [] are l fits = are
cut_from low zero n (h ∷ hs) are l fits = by (h.size == n) refl
  where
    by : (b : Bool) → (h.size == n) ≡ b → AreFrom low (cond b hs (record { at = h.at + n; size = h.size - n } ∷ hs))
    by true e = let a : low ≤ h.at = are.0 in weaker low (h.at + h.size + 1) hs (omega arith) are.3
    by false e =
        let a : low ≤ h.at = are.0 in
        let ne : h.size ≡ n → ⊥ = eqb-false h.size n e in
        let b : h.at + h.size ≤ 65535 = are.2 in
        let c : n < h.size = elim (cases_lt n h.size) [ inl x ↦ x | inr y ↦ absurd (ne (omega arith)) ] in
        let same : h.at + h.size + 1 ≡ h.at + n + (h.size - n) + 1 = omega arith in
        (omega arith, omega arith, omega arith, subst (λ k. AreFrom k hs) same are.3)
cut_from low (suc i) n (h ∷ hs) are l fits = (are.0, are.1, are.2, cut_from (h.at + h.size + 1) i n hs are.3 (omega arith) fits)

-- the code cuts so
pub cut_away : (hs : List Hole) (i n : ℕ) → i < length hs → (hole_at hs i).size ≡ n → remove hs i ≡ cut_at hs i n
cut_away [] i n l e = absurd (omega arith)
cut_away (h ∷ hs) zero n l e = let s : (h.size == n) ≡ true = same h.size n e in rw s refl
  where
    same : (a b : ℕ) → a ≡ b → (a == b) ≡ true
    same a b e = grind (arith, common_steps)
cut_away (h ∷ hs) (suc i) n l e = ap (λ t. h ∷ t) (cut_away hs i n (omega arith) e)

pub cut_less : (hs : List Hole) (i n : ℕ) → i < length hs → ((hole_at hs i).size ≡ n → ⊥) → set hs i (record { at = (hole_at hs i).at + n; size = (hole_at hs i).size - n }) ≡ cut_at hs i n
cut_less [] i n l e = absurd (omega arith)
cut_less (h ∷ hs) zero n l e = let s : (h.size == n) ≡ false = differ h.size n e in rw s refl
  where
    differ : (a b : ℕ) → (a ≡ b → ⊥) → (a == b) ≡ false
    differ a b e = grind (arith, common_steps)
cut_less (h ∷ hs) (suc i) n l e = ap (λ t. h ∷ t) (cut_less hs i n (omega arith) e)

-- what is found is first fit
pub is_free_in : (hs : List Hole) (taken : List Range) (first last x : ℕ) → IsMap hs taken first last → is_free hs x ≡ true → (first ≤ x) × (x ≤ last) × (is_clear taken 1 x ≡ true)
is_free_in hs taken first last x map e =
    let f = and_parts (nat_le first x) (nat_le x last && is_clear taken 1 x) (sym (map.free x) ∙ e) in
    let g = and_parts (nat_le x last) (is_clear taken 1 x) f.1 in
    (leb-true first x f.0, leb-true x last g.0, g.1)

free_of : (hs : List Hole) (taken : List Range) (first last x : ℕ) → IsMap hs taken first last → first ≤ x → x ≤ last → is_clear taken 1 x ≡ true → is_free hs x ≡ true
free_of hs taken first last x map l m e =
    map.free x ∙ and_from (nat_le first x) (nat_le x last && is_clear taken 1 x) (le-leb first x l) (and_from (nat_le x last) (is_clear taken 1 x) (le-leb x last m) e)

run_of : (hs : List Hole) (taken : List Range) (first last s n : ℕ) → IsMap hs taken first last → 0 < n → first ≤ s → s + n ≤ last + 1 → is_clear taken n s ≡ true
    → (x : ℕ) → s ≤ x → x < s + n → is_free hs x ≡ true
run_of hs taken first last s n map p l m e x low high = free_of hs taken first last x map (omega arith) (omega arith) (clear_each taken s n x low high e)

pub found_fit : (hs : List Hole) (taken : List Range) (first last n i : ℕ) → AreHoles hs → 0 < n → IsMap hs taken first last
    → position (λ h. nat_le n h.size) hs ≡ Some i → Some (hole_at hs i).at ≡ first_fit taken first last n
found_fit hs taken first last n i are p map is =
    let k = position-Some (λ h. nat_le n h.size) hs i no_hole is in
    let fits : n ≤ (hole_at hs i).size = leb-true n (hole_at hs i).size k.1 in
    let a = (hole_at hs i).at in
    let free = λ (x : ℕ) (l : a ≤ x) (m : x < a + n). hole_free i x hs k.0 l (omega arith) in
    let one = is_free_in hs taken first last a map (free a (omega arith) (omega arith)) in
    let end = is_free_in hs taken first last (a + n - 1) map (free (a + n - 1) (omega arith) (omega arith)) in
    fit_is taken first last n (Some a) (record {
      after = one.0;
      within = let e = end.1 in omega (arith, e);
      clear = each_clear taken a n map.positive p (λ x l m. (is_free_in hs taken first last x map (free x l m)).2);
      least = λ s l m. false_from_ne_true (is_clear taken n s) (λ e.
          let w = end.1 in
          let r = in_hole 0 s n hs are p (run_of hs taken first last s n map p l (omega (arith, w, m)) e) in
          let big : nat_le n (hole_at hs r.index).size ≡ true = (let x = r.low in let y = r.high in le-leb n (hole_at hs r.index).size (omega (arith, x, y))) in
          elim (cases_lt r.index i) [
            | inl before ↦ both_ways _ (k.2 r.index before) big
            | inr later ↦ (let x = hole_rises 0 i r.index hs are later r.small in let y = r.low in omega (arith, x, y, m))
          ]);
    })

pub none_fits : (hs : List Hole) (taken : List Range) (first last n : ℕ) → AreHoles hs → 0 < n → IsMap hs taken first last
    → position (λ h. nat_le n h.size) hs ≡ None → None ≡ first_fit taken first last n
none_fits hs taken first last n are p map is =
    fit_is taken first last n None (record {
      all = λ s l m. false_from_ne_true (is_clear taken n s) (λ e.
          let r = in_hole 0 s n hs are p (run_of hs taken first last s n map p l m e) in
          let big : nat_le n (hole_at hs r.index).size ≡ true = (let x = r.low in let y = r.high in le-leb n (hole_at hs r.index).size (omega (arith, x, y))) in
          let all : length hs ≤ position_or_len (λ h. nat_le n h.size) hs = past is in
          let small = r.small in
          both_ways _ (fails_before_first (λ (h : Hole). nat_le n h.size) hs r.index no_hole (omega (arith, all, small))) big);
    })
  where
    past : position (λ h. nat_le n h.size) hs ≡ None → length hs ≤ position_or_len (λ h. nat_le n h.size) hs
    past e = grind (arith, common_steps)

pub first_large : (hs : List Hole) (n i : ℕ) → position (λ h. nat_le n h.size) hs ≡ Some i → (i < length hs) × (n ≤ (hole_at hs i).size)
first_large hs n i e = let k = position-Some (λ (h : Hole). nat_le n h.size) hs i no_hole e in (k.0, leb-true n (hole_at hs i).size k.1)

pub cut_end : (hs : List Hole) (i : ℕ) → AreHoles hs → i < length hs → (hole_at hs i).at + (hole_at hs i).size ≤ 65535
cut_end hs i are l = hole_end 0 i hs are l

pub length_cut : (hs : List Hole) (i n : ℕ) → length (cut_at hs i n) ≤ length hs
length_cut [] i n = omega arith
length_cut (h ∷ hs) zero n = by (h.size == n)
  where
    by : (b : Bool) → length (cond b hs (record { at = h.at + n; size = h.size - n } ∷ hs)) ≤ suc (length hs)
    by true = omega arith
    by false = omega arith
length_cut (h ∷ hs) (suc i) n = let k = length_cut hs i n in omega (arith, k)

pub ruleset cuts = (cut_end, cut_away, cut_less)
