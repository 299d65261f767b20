-- The tail of an image that is cut is free.
use Rattle.std.proofs.Common.{◌≡◌, ◌≢◌, ℕ, ◌+◌, ◌-◌, ◌*◌, ◌<◌, ◌≤◌, ◌||◌, ◌⊎◌, ◌↔◌, inl, inr, List, length, Bool, true, false, refl, sym, ap, subst, ◌∙◌, arith}
use Rattle.std.proofs.lemmas.Bool.{both_ways, false_from_ne_true, or_cases, or_left, or_right}
use Rattle.v6_base.specs.declared.entry.Place.{Place}
use Rattle.v6_base.specs.declared.entry.Place.TheVariants.{Core, Swap}
use Rattle.map_fit.specs.declared.holes.Hole.{Hole}
use Rattle.map_fit.specs.Free.{is_free, is_within}
use Rattle.map_fit.proofs.Units.{Lies, Below, In, Above, lies, in_below, in_above, in_low, in_high, in_true}
use Rattle.image_keep.specs.declared.row.State.TheVariants as state
use Rattle.image_keep.specs.Memory.{Stock, row_at, place_at, place_size, swap_at, clicks_in, Spot, spot_by, row_spot, Owner, RowOf, OutOf, InOf, spot, AreApart, IsIn, IsSound}
use Rattle.image_keep.specs.Places.{blocks}
use Rattle.image_keep.specs.Maps.{AreMaps, IsFreeCore, IsFreeSwap, click, block}
use Rattle.image_keep.specs.Resized.{sized_row, core_tail, swap_tail}
use Rattle.image_keep.proofs.Writes.{put_row, row_same, row_other, same_owner}

pub none_within : (at n x : ℕ) (b : Bool) → n ≡ 0 → b ≡ (b || is_within at n x)
none_within at n x b z = by (lies at n x)
  where
    or_no : (a c : Bool) → c ≡ false → a ≡ (a || c)
    or_no true c e = refl
    or_no false c e = sym e

    by : Lies at n x → b ≡ (b || is_within at n x)
    by (Below l) = or_no b (is_within at n x) (in_below at n x l)
    by (In l h) = absurd (omega (arith, z, l, h))
    by (Above l) = or_no b (is_within at n x) (in_above at n x l)

-- one unit, where a range is cut to its front: whether the unit is of the tail
record Cut (q old new : Spot) (tail : Bool) : Type 0 where
  less : AreApart q old → AreApart q new
  ends : tail ≡ true → AreApart q new × ((p : Spot) → AreApart old p → AreApart q p)
  rest : tail ≡ false → AreApart q new → AreApart q old

far : (q old new : Spot) → AreApart q old → AreApart q new → Cut q old new false
far q old new a b = record { less = λ e. b; ends = λ e. absurd (both_ways false refl e); rest = λ e f. a }

core_cut : (c n m x : ℕ) → 1 ≤ c → 1 ≤ x → m ≤ n → Cut (click x) (record { at = 64 * (c - 1); size = 64 * n }) (record { at = 64 * (c - 1); size = 64 * m }) (is_within (c + m) (n - m) x)
core_cut c n m x low l less = record {
  less = smaller;
  ends = λ e. (let a = in_low (c + m) (n - m) x e in let b = in_high (c + m) (n - m) x e in (inr (omega (arith, a, low, l)), inner a b));
  rest = λ e. outer e (lies (c + m) (n - m) x);
}
  where
    smaller : AreApart (click x) (record { at = 64 * (c - 1); size = 64 * n }) → AreApart (click x) (record { at = 64 * (c - 1); size = 64 * m })
    smaller (inl e) = inl e
    smaller (inr e) = inr (omega arith)

    inner : c + m ≤ x → x < c + m + (n - m) → (p : Spot) → AreApart (record { at = 64 * (c - 1); size = 64 * n }) p → AreApart (click x) p
    inner a b p (inl e) = inl (omega (arith, a, b, e, less, low, l))
    inner a b p (inr e) = inr (omega (arith, a, e, low, l))

    outer : is_within (c + m) (n - m) x ≡ false → Lies (c + m) (n - m) x → AreApart (click x) (record { at = 64 * (c - 1); size = 64 * m }) → AreApart (click x) (record { at = 64 * (c - 1); size = 64 * n })
    outer e (Below a) (inl f) = inl f
    outer e (Below a) (inr f) = absurd (omega (arith, a, f, low, l))
    outer e (In a b) f = absurd (both_ways (is_within (c + m) (n - m) x) e (in_true (c + m) (n - m) x a b))
    outer e (Above a) f = inr (omega (arith, a, low, l, less))

block_cut : (core b n m x : ℕ) → 4000 ≤ b → 4000 ≤ x → m ≤ n → Cut (block core x) (record { at = swap_at core b; size = 512 * n }) (record { at = swap_at core b; size = 512 * m }) (is_within (b + m) (n - m) x)
block_cut core b n m x low l less = record {
  less = smaller;
  ends = λ e. (let a = in_low (b + m) (n - m) x e in let c = in_high (b + m) (n - m) x e in (inr (omega (arith, a, low, l)), inner a c));
  rest = λ e. outer e (lies (b + m) (n - m) x);
}
  where
    smaller : AreApart (block core x) (record { at = swap_at core b; size = 512 * n }) → AreApart (block core x) (record { at = swap_at core b; size = 512 * m })
    smaller (inl e) = inl e
    smaller (inr e) = inr (omega arith)

    inner : b + m ≤ x → x < b + m + (n - m) → (p : Spot) → AreApart (record { at = swap_at core b; size = 512 * n }) p → AreApart (block core x) p
    inner a c p (inl e) = inl (omega (arith, a, c, e, less, low, l))
    inner a c p (inr e) = inr (omega (arith, a, e, low, l))

    outer : is_within (b + m) (n - m) x ≡ false → Lies (b + m) (n - m) x → AreApart (block core x) (record { at = swap_at core b; size = 512 * m }) → AreApart (block core x) (record { at = swap_at core b; size = 512 * n })
    outer e (Below a) (inl f) = inl f
    outer e (Below a) (inr f) = absurd (omega (arith, a, f, low, l))
    outer e (In a c) f = absurd (both_ways (is_within (b + m) (n - m) x) e (in_true (b + m) (n - m) x a c))
    outer e (Above a) f = inr (omega (arith, a, low, l, less))

abbrev place_spot : ℕ → Place → ℕ → Spot
place_spot core place n = record { at = place_at core place; size = place_size place n }

core_cuts : (core : ℕ) (place : Place) (n m x : ℕ) → IsIn core place n → m ≤ n → 1 ≤ x → x ≤ core → Cut (click x) (place_spot core place n) (place_spot core place m) (core_tail place n m x)
core_cuts core (Core c) n m x i less l h = core_cut c n m x i.0 l less
core_cuts core (Swap b) n m x i less l h = far (click x) (place_spot core (Swap b) n) (place_spot core (Swap b) m) (inl (omega arith)) (inl (omega arith))

swap_cuts : (core : ℕ) (place : Place) (n m x : ℕ) → IsIn core place n → m ≤ n → 4000 ≤ x → Cut (block core x) (place_spot core place n) (place_spot core place m) (swap_tail place n m x)
swap_cuts core (Core c) n m x i less l = let a = i.0 in let b = i.1 in far (block core x) (place_spot core (Core c) n) (place_spot core (Core c) m) (inr (omega (arith, a, b))) (inr (omega (arith, a, b, less)))
swap_cuts core (Swap b) n m x i less l = block_cut core b (blocks n) (blocks m) x i.0 l (omega (arith, less))

core_in : (core : ℕ) (place : Place) (n m x : ℕ) → IsIn core place n → m ≤ n → core_tail place n m x ≡ true → (1 ≤ x) × (x ≤ core)
core_in core (Core c) n m x i less e = let a = in_low (c + m) (n - m) x e in let b = in_high (c + m) (n - m) x e in let j = i.0 in let k = i.1 in (omega (arith, a, j), omega (arith, b, k, less))
core_in core (Swap b) n m x i less e = absurd (both_ways false refl e)

swap_in : (core : ℕ) (place : Place) (n m x : ℕ) → IsIn core place n → m ≤ n → swap_tail place n m x ≡ true → (4000 ≤ x) × (x ≤ 4871)
swap_in core (Core c) n m x i less e = absurd (both_ways false refl e)
swap_in core (Swap b) n m x i less e = let a = in_low (b + blocks m) (blocks n - blocks m) x e in let c = in_high (b + blocks m) (blocks n - blocks m) x e in let j = i.0 in let k = i.1 in (omega (arith, a, j), omega (arith, c, k, less))

-- one map, where one owner keeps the front of its range
module _ (f g : Owner → Spot) (o : Owner) (same : (p : Owner) → p ≢ o → g p ≡ f p) (apart : (p : Owner) → p ≢ o → AreApart (f o) (f p)) where
  cut_map : (q : Spot) (was now tail : Bool) → ((was ≡ true) ↔ ((p : Owner) → AreApart q (f p))) → Cut q (f o) (g o) tail → now ≡ (was || tail) → (now ≡ true) ↔ ((p : Owner) → AreApart q (g p))
  cut_map q was now tail is cut step = (there, back)
    where
      either : ((was ≡ true) ⊎ (tail ≡ true)) → (p : Owner) → AreApart q (g p)
      either (inl k) p = elim (same_owner p o) [
        | inl d ↦ subst (λ y. AreApart q (g y)) (sym d) (cut.less (is.0 k o))
        | inr ne ↦ subst (AreApart q) (sym (same p ne)) (is.0 k p)
      ]
      either (inr k) p = elim (same_owner p o) [
        | inl d ↦ subst (λ y. AreApart q (g y)) (sym d) (cut.ends k).0
        | inr ne ↦ subst (AreApart q) (sym (same p ne)) ((cut.ends k).1 (f p) (apart p ne))
      ]

      there : now ≡ true → (p : Owner) → AreApart q (g p)
      there e = either (or_cases was tail (sym step ∙ e))

      back : ((p : Owner) → AreApart q (g p)) → now ≡ true
      back h = by tail refl
        where
          by : (b : Bool) → tail ≡ b → now ≡ true
          by true e = step ∙ or_right was tail e
          by false e = step ∙ or_left was tail (is.1 (λ p. elim (same_owner p o) [
            | inl d ↦ subst (λ y. AreApart q (f y)) (sym d) (cut.rest e (h o))
            | inr ne ↦ subst (AreApart q) (same p ne) (h p)
          ]))

-- a row keeps the front of its range
pub maps_cut : (v : Stock) (s d k : ℕ) (place : Place) (new : List ℕ) (core_map swap_map core_new swap_new : List Hole) → IsSound v → s < length v.rows → AreMaps v core_map swap_map → (row_at v.rows s).state ≡ state.Alive place → IsIn v.core place (clicks_in (row_at v.rows s))
    → 16 + d + k ≤ clicks_in (row_at v.rows s)
    → ((x : ℕ) → is_free core_new x ≡ (is_free core_map x || core_tail place (clicks_in (row_at v.rows s)) (16 + d + k) x))
    → ((x : ℕ) → is_free swap_new x ≡ (is_free swap_map x || swap_tail place (clicks_in (row_at v.rows s)) (16 + d + k) x))
    → AreMaps (put_row v s (sized_row (row_at v.rows s) place d k) new) core_new swap_new
maps_cut v s d k place new core_map swap_map core_new swap_new h l maps is inside less step_core step_swap = record {
  core = λ x. (core_there x, (λ f. (core_iff x f.0 f.1).1 f.2));
  swap = λ x. (swap_there x, (λ f. (swap_iff x f.0 f.1).1 f.2));
}
  where
    same : (p : Owner) → p ≢ RowOf s → spot (put_row v s (sized_row (row_at v.rows s) place d k) new) p ≡ spot v p
    same (RowOf u) ne = ap (row_spot v.core) (row_other v.rows s u (sized_row (row_at v.rows s) place d k) (λ e. ne (ap RowOf e)))
    same (OutOf t) ne = refl
    same (InOf t) ne = refl

    old : spot v (RowOf s) ≡ place_spot v.core place (clicks_in (row_at v.rows s))
    old = ap (λ st. spot_by v.core st (clicks_in (row_at v.rows s))) is

    mine : spot (put_row v s (sized_row (row_at v.rows s) place d k) new) (RowOf s) ≡ place_spot v.core place (16 + d + k)
    mine = ap (row_spot v.core) (row_same v.rows s (sized_row (row_at v.rows s) place d k) l)

    others : (p : Owner) → p ≢ RowOf s → AreApart (spot v (RowOf s)) (spot v p)
    others p ne = h.apart (RowOf s) p (λ e. ne (sym e))

    core_iff : (x : ℕ) → 1 ≤ x → x ≤ v.core → (is_free core_new x ≡ true) ↔ ((p : Owner) → AreApart (click x) (spot (put_row v s (sized_row (row_at v.rows s) place d k) new) p))
    core_iff x a b = cut_map (spot v) (spot (put_row v s (sized_row (row_at v.rows s) place d k) new)) (RowOf s) same others (click x) (is_free core_map x) (is_free core_new x) (core_tail place (clicks_in (row_at v.rows s)) (16 + d + k) x)
        ((λ e. ((maps.core x).0 e).2), (λ e. (maps.core x).1 (a, b, e)))
        (subst (λ y. Cut (click x) y (spot (put_row v s (sized_row (row_at v.rows s) place d k) new) (RowOf s)) (core_tail place (clicks_in (row_at v.rows s)) (16 + d + k) x)) (sym old)
        (subst (λ y. Cut (click x) (place_spot v.core place (clicks_in (row_at v.rows s))) y (core_tail place (clicks_in (row_at v.rows s)) (16 + d + k) x)) (sym mine)
        (core_cuts v.core place (clicks_in (row_at v.rows s)) (16 + d + k) x inside less a b)))
        (step_core x)

    swap_iff : (x : ℕ) → 4000 ≤ x → x ≤ 4871 → (is_free swap_new x ≡ true) ↔ ((p : Owner) → AreApart (block v.core x) (spot (put_row v s (sized_row (row_at v.rows s) place d k) new) p))
    swap_iff x a b = cut_map (spot v) (spot (put_row v s (sized_row (row_at v.rows s) place d k) new)) (RowOf s) same others (block v.core x) (is_free swap_map x) (is_free swap_new x) (swap_tail place (clicks_in (row_at v.rows s)) (16 + d + k) x)
        ((λ e. ((maps.swap x).0 e).2), (λ e. (maps.swap x).1 (a, b, e)))
        (subst (λ y. Cut (block v.core x) y (spot (put_row v s (sized_row (row_at v.rows s) place d k) new) (RowOf s)) (swap_tail place (clicks_in (row_at v.rows s)) (16 + d + k) x)) (sym old)
        (subst (λ y. Cut (block v.core x) (place_spot v.core place (clicks_in (row_at v.rows s))) y (swap_tail place (clicks_in (row_at v.rows s)) (16 + d + k) x)) (sym mine)
        (swap_cuts v.core place (clicks_in (row_at v.rows s)) (16 + d + k) x inside less a)))
        (step_swap x)

    core_there : (x : ℕ) → is_free core_new x ≡ true → IsFreeCore (put_row v s (sized_row (row_at v.rows s) place d k) new) x
    core_there x e = elim (or_cases (is_free core_map x) (core_tail place (clicks_in (row_at v.rows s)) (16 + d + k) x) (sym (step_core x) ∙ e)) [
      | inl w ↦ (let f = (maps.core x).0 w in (f.0, f.1, (core_iff x f.0 f.1).0 e))
      | inr w ↦ (let f = core_in v.core place (clicks_in (row_at v.rows s)) (16 + d + k) x inside less w in (f.0, f.1, (core_iff x f.0 f.1).0 e))
    ]

    swap_there : (x : ℕ) → is_free swap_new x ≡ true → IsFreeSwap (put_row v s (sized_row (row_at v.rows s) place d k) new) x
    swap_there x e = elim (or_cases (is_free swap_map x) (swap_tail place (clicks_in (row_at v.rows s)) (16 + d + k) x) (sym (step_swap x) ∙ e)) [
      | inl w ↦ (let f = (maps.swap x).0 w in (f.0, f.1, (swap_iff x f.0 f.1).0 e))
      | inr w ↦ (let f = swap_in v.core place (clicks_in (row_at v.rows s)) (16 + d + k) x inside less w in (f.0, f.1, (swap_iff x f.0 f.1).0 e))
    ]

-- the tail is not free before
pub tail_taken : (v : Stock) (s m : ℕ) (place : Place) (core_map swap_map : List Hole) → AreMaps v core_map swap_map → (row_at v.rows s).state ≡ state.Alive place → IsIn v.core place (clicks_in (row_at v.rows s)) → m ≤ clicks_in (row_at v.rows s)
    → ((x : ℕ) → core_tail place (clicks_in (row_at v.rows s)) m x ≡ true → is_free core_map x ≡ false) × ((x : ℕ) → swap_tail place (clicks_in (row_at v.rows s)) m x ≡ true → is_free swap_map x ≡ false)
tail_taken v s m place core_map swap_map maps is inside less = (
  (λ x e. false_from_ne_true (is_free core_map x) (λ f. let g = (maps.core x).0 f in core_off place inside x e (subst (AreApart (click x)) old (g.2 (RowOf s))))),
  (λ x e. false_from_ne_true (is_free swap_map x) (λ f. let g = (maps.swap x).0 f in swap_off place inside x e (subst (AreApart (block v.core x)) old (g.2 (RowOf s))))),
)
  where
    old : spot v (RowOf s) ≡ place_spot v.core place (clicks_in (row_at v.rows s))
    old = ap (λ st. spot_by v.core st (clicks_in (row_at v.rows s))) is

    core_off : (p : Place) → IsIn v.core p (clicks_in (row_at v.rows s)) → (x : ℕ) → core_tail p (clicks_in (row_at v.rows s)) m x ≡ true → AreApart (click x) (place_spot v.core p (clicks_in (row_at v.rows s))) → ⊥
    core_off (Core c) i x e a = (let u = in_low (c + m) (clicks_in (row_at v.rows s) - m) x e in let w = in_high (c + m) (clicks_in (row_at v.rows s) - m) x e in let j = i.0 in meet a u w j)
      where
        meet : AreApart (click x) (place_spot v.core (Core c) (clicks_in (row_at v.rows s))) → c + m ≤ x → x < c + m + (clicks_in (row_at v.rows s) - m) → 1 ≤ c → ⊥
        meet (inl b) u w j = omega (arith, b, u, w, j, less)
        meet (inr b) u w j = omega (arith, b, u, w, j, less)
    core_off (Swap b) i x e a = both_ways false refl e

    swap_off : (p : Place) → IsIn v.core p (clicks_in (row_at v.rows s)) → (x : ℕ) → swap_tail p (clicks_in (row_at v.rows s)) m x ≡ true → AreApart (block v.core x) (place_spot v.core p (clicks_in (row_at v.rows s))) → ⊥
    swap_off (Core c) i x e a = both_ways false refl e
    swap_off (Swap b) i x e a = (let u = in_low (b + blocks m) (blocks (clicks_in (row_at v.rows s)) - blocks m) x e in let w = in_high (b + blocks m) (blocks (clicks_in (row_at v.rows s)) - blocks m) x e in let j = i.0 in meet a u w j)
      where
        meet : AreApart (block v.core x) (place_spot v.core (Swap b) (clicks_in (row_at v.rows s))) → b + blocks m ≤ x → x < b + blocks m + (blocks (clicks_in (row_at v.rows s)) - blocks m) → 4000 ≤ b → ⊥
        meet (inl c) u w j = omega (arith, c, u, w, j, less)
        meet (inr c) u w j = omega (arith, c, u, w, j, less)
