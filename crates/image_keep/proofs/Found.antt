-- The place that is found is the one that first fit gives, and it is free.
use Rattle.std.proofs.Common.{◌≡◌, ℕ, ◌+◌, ◌-◌, ◌*◌, ◌<◌, ◌≤◌, ◌==◌, not, ◌⊎◌, inl, inr, List, cond, Bool, true, false, Option, Some, None, refl, sym, ap, subst, ◌∙◌, arith}
use Rattle.std.proofs.lemmas.Bool.{both_ways, eqb-false}
use Rattle.std.specs.Option.{option_map, option_or}
use Rattle.v6_base.specs.declared.entry.Place.{Place}
use Rattle.v6_base.specs.declared.entry.Place.TheVariants.{Core, Swap}
use Rattle.map_fit.specs.declared.holes.Hole.{Hole}
use Rattle.map_fit.specs.Fit.{Range, first_fit}
use Rattle.map_fit.specs.Free.{IsMap}
use Rattle.text_tab.specs.declared.row.TextRow.{TextRow}
use Rattle.text_tab.specs.Table.{text_at, row_of as text_row_of, row_at as text_row}
use Rattle.image_keep.specs.declared.row.Row.{Row}
use Rattle.image_keep.specs.Kept.{Kept, text_of}
use Rattle.image_keep.specs.Memory.{Stock, row_at, swap_at, place_at, place_size, Owner, spot, AreApart, shared_in, kept_of, IsIn, IsSound}
use Rattle.image_keep.specs.Places.{blocks, core_taken, swap_taken, core_fit, swap_fit, is_text_loaded, may_load, placed}
use Rattle.image_keep.specs.Maps.{AreMaps}
use Rattle.image_keep.specs.Finding.{may_stand}
use Rattle.image_keep.proofs.Places.{shared_at, core_found, swap_found, IsFound, core_map_is, swap_map_is}
use Rattle.image_keep.proofs.SwapIn.{text_of_row}
use Rattle.image_keep.proofs.InPlan.{core_kept}

stands : (line : List ℕ) (core : ℕ) (o : Option TextRow) → is_text_loaded (shared_in line core o) ≡ not ((text_row_of o).loaded == 0)
stands line core None = refl
stands line core (Some row) = refl

pub may_is : (v : Stock) (x : Option ℕ) → may_load (kept_of v) x ≡ may_stand v.texts x
may_is v None = refl
may_is v (Some t) = ap is_text_loaded (shared_at v t) ∙ stands v.line v.core (text_at v.texts t)

pub placed_is : (v : Stock) (k : Kept) (s n : ℕ) (core_map swap_map : List Hole) (may : Bool) (row : Row) (o : Option Place) → kept_of v ≡ k → IsSound v → AreMaps v core_map swap_map → row ≡ row_at v.rows s → may ≡ may_stand v.texts row.text
    → ((core_taken swap_taken : List Range) (core : ℕ) → IsMap core_map core_taken 1 core → IsMap swap_map swap_taken 4000 4871
    → o ≡ option_or (cond may (option_map Core (first_fit core_taken 1 core n)) None) (option_map Swap (first_fit swap_taken 4000 4871 (blocks n)))) → o ≡ placed k s n
unfolding placed core_fit swap_fit
placed_is v k s n core_map swap_map may row o view h maps at is fit =
    fit (core_taken (kept_of v)) (swap_taken (kept_of v)) v.core (core_map_is v core_map swap_map h maps) (swap_map_is v core_map swap_map h maps)
    ∙ ap (λ b. option_or (cond b (option_map Core (first_fit (core_taken (kept_of v)) 1 v.core n)) None) (option_map Swap (first_fit (swap_taken (kept_of v)) 4000 4871 (blocks n))))
    (is ∙ ap (λ (r : Row). may_stand v.texts r.text) at ∙ sym (ap (may_load (kept_of v)) (text_of_row v s) ∙ may_is v (row_at v.rows s).text))
    ∙ ap (λ c. option_or (cond (may_load (kept_of v) (text_of (kept_of v) s)) (option_map Core (first_fit (core_taken (kept_of v)) 1 c n)) None) (option_map Swap (first_fit (swap_taken (kept_of v)) 4000 4871 (blocks n)))) (sym (core_kept v))
    ∙ ap (λ j. option_or (cond (may_load j (text_of j s)) (option_map Core (first_fit (core_taken j) 1 j.core n)) None) (option_map Swap (first_fit (swap_taken j) 4000 4871 (blocks n)))) view

pub record PlaceFound (v : Stock) (s n : ℕ) (place : Place) : Type 0 where
  pub inside : IsIn v.core place n
  pub free : (o : Owner) → AreApart (record { at = place_at v.core place; size = place_size place n }) (spot v o)
  pub loaded : (c t : ℕ) → place ≡ Core c → (row_at v.rows s).text ≡ Some t → 0 < (text_row v.texts t).loaded

data Way (may : Bool) (c b : Option ℕ) (place : Place) : Type 0 where
  ToCore : (x : ℕ) → may ≡ true → c ≡ Some x → place ≡ Core x → Way may c b place
  ToSwap : (x : ℕ) → b ≡ Some x → place ≡ Swap x → Way may c b place

way : (may : Bool) (c b : Option ℕ) (place : Place) → option_or (cond may (option_map Core c) None) (option_map Swap b) ≡ Some place → Way may c b place
way true (Some x) b place e = ToCore x refl refl (let d : Core x ≡ place = cc e in sym d)
way true None (Some x) place e = ToSwap x refl (let d : Swap x ≡ place = cc e in sym d)
way true None None place e = absurd (cc e)
way false c (Some x) place e = ToSwap x refl (let d : Swap x ≡ place = cc e in sym d)
way false c None place e = absurd (cc e)

some_loaded : (n : ℕ) → not (n == 0) ≡ true → 0 < n
some_loaded n e = by (n == 0) refl e
  where
    by : (b : Bool) → (n == 0) ≡ b → not b ≡ true → 0 < n
    by true f g = absurd (both_ways false refl g)
    by false f g = let ne = eqb-false n 0 f in pos n ne
      where
        pos : (m : ℕ) → (m ≡ 0 → ⊥) → 0 < m
        pos m d = omega (arith, d)

found_by : (v : Stock) (s n : ℕ) (place : Place) → IsSound v → Way (may_load (kept_of v) (text_of (kept_of v) s)) (core_fit (kept_of v) n) (swap_fit (kept_of v) (blocks n)) place → PlaceFound v s n place
found_by v s n place h (ToCore x may fit is) =
    let f : IsFound v (64 * (x - 1)) (64 * n) 1 v.core x n = core_found v x n h fit in
    subst (PlaceFound v s n) (sym is) (record {
      inside = (f.low, f.high);
      free = f.free;
      loaded = λ c t e d. some_loaded (text_row v.texts t).loaded (sym (ap (may_stand v.texts) d) ∙ sym (ap (may_load (kept_of v)) (text_of_row v s) ∙ may_is v (row_at v.rows s).text) ∙ may);
    })
found_by v s n place h (ToSwap x fit is) =
    let f : IsFound v (swap_at v.core x) (512 * blocks n) 4000 4871 x (blocks n) = swap_found v x (blocks n) h fit in
    subst (PlaceFound v s n) (sym is) (record {
      inside = (f.low, f.high);
      free = f.free;
      loaded = λ c t e d. absurd (other x c e);
    })
  where
    other : (b c : ℕ) → Swap b ≡ Core c → ⊥
    other b c e = cc e

pub place_found : (v : Stock) (k : Kept) (s n : ℕ) (place : Place) → kept_of v ≡ k → IsSound v → placed k s n ≡ Some place → PlaceFound v s n place
unfolding placed
place_found v k s n place view h is =
    found_by v s n place h (way (may_load (kept_of v) (text_of (kept_of v) s)) (core_fit (kept_of v) n) (swap_fit (kept_of v) (blocks n)) place
    (ap (λ j. option_or (cond (may_load j (text_of j s)) (option_map Core (core_fit j n)) None) (option_map Swap (swap_fit j (blocks n)))) view ∙ is))

-- where a place is in the line
pub place_inside : (core n click : ℕ) (place : Place) (a w : ℕ) → IsIn core place n → 64 * click ≡ place_at core place → a ≡ 64 * core → w ≡ 64 * core + 446464
    → ((64 * (click + n) ≤ a) ⊎ (a ≤ 64 * click)) × (64 * (click + n) ≤ w)
place_inside core n click (Core c) a w i e f g = let x = i.0 in let y = i.1 in (inl (omega (arith, x, y, e, f)), omega (arith, x, y, e, g))
place_inside core n click (Swap b) a w i e f g = let x = i.0 in let y = i.1 in (inr (omega (arith, x, e, f)), omega (arith, x, y, e, g))

pub place_low : (core n click : ℕ) (place : Place) → IsIn core place n → core ≤ 3968 → 64 * click ≡ place_at core place → click ≤ 11000
place_low core n click (Core c) i l e = let x = i.0 in let y = i.1 in omega (arith, x, y, l, e)
place_low core n click (Swap b) i l e = let x = i.0 in let y = i.1 in omega (arith, x, y, l, e)

size_in_place : (place : Place) (n : ℕ) → 64 * n ≤ place_size place n
size_in_place (Core c) n = omega arith
size_in_place (Swap b) n = omega arith

-- ranges that are apart, in clicks of the line
pub clicks_apart : (core n m from to : ℕ) (p q : Place) → 64 * from ≡ place_at core p → 64 * to ≡ place_at core q → AreApart (record { at = place_at core q; size = place_size q n }) (record { at = place_at core p; size = place_size p m })
    → (from ≡ to) ⊎ ((from + m ≤ to) ⊎ (to + n ≤ from))
clicks_apart core n m from to p q e f (inl a) = let b = size_in_place q n in inr (inr (omega (arith, e, f, a, b)))
clicks_apart core n m from to p q e f (inr a) = let b = size_in_place p m in inr (inl (omega (arith, e, f, a, b)))

pub less_in : (core n m : ℕ) (place : Place) → IsIn core place n → m ≤ n → IsIn core place m
less_in core n m (Core c) i l = let j = i.1 in (i.0, omega (arith, j, l))
less_in core n m (Swap b) i l = let j = i.1 in (i.0, omega (arith, j, l))
