-- Whether core has room in one piece.
use Rattle.std.proofs.Common.{◌≡◌, ℕ, zero, suc, ◌+◌, ◌<◌, ◌≤◌, ◌==◌, ◌&&◌, ◌||◌, inl, inr, List, [], ◌∷◌, ◌++◌, get_or, flat_map, cond, Bool, true, false, Option, Some, None, nat_lt, refl, sym, ap, subst, ◌∙◌, arith}
use Rattle.std.specs.Option.{is_some}
use Rattle.std.specs.List.{list_any}
use Rattle.std.proofs.lemmas.Bool.{cases_lt, le-ltb, both_ways, eqb-false}
use Rattle.v6_base.specs.declared.entry.Place.TheVariants.{Core, Swap}
use Rattle.text_tab.specs.declared.row.TextRow.{TextRow}
use Rattle.text_tab.specs.Table.{text_at}
use Rattle.map_fit.specs.declared.holes.Hole.{Hole}
use Rattle.map_fit.specs.Fit.{Range, meets, is_clear, first_fit, IsFit}
use Rattle.map_fit.specs.Free.{IsMap}
use Rattle.map_fit.proofs.Units.{none_clear}
use Rattle.map_fit.proofs.Fits.{is_fit}
use Rattle.image_keep.specs.declared.row.State.{State}
use Rattle.image_keep.specs.declared.row.State.TheVariants as state
use Rattle.image_keep.specs.declared.row.Row.{Row}
use Rattle.image_keep.specs.Kept.{Nothing, Kept}
use Rattle.image_keep.specs.Memory.{Stock, row_at, shared_in, text_for, kept_of, IsText, IsSound}
use Rattle.image_keep.specs.Places.{range, core_of, core_of_text, core_taken, core_fit}
use Rattle.image_keep.specs.Maps.{AreMaps, InsideBy}
use Rattle.image_keep.proofs.Places.{slot_at, shared_at, core_by, core_is, inside_of, core_map_is}
use Rattle.image_keep.proofs.InPlan.{core_kept}

-- each range begins at the first click or behind it
BeginLate : List Range → Type 0
BeginLate [] = Unit {0}
BeginLate (r ∷ rs) = (1 ≤ r.at) × BeginLate rs

late_both : (xs ys : List Range) → BeginLate xs → BeginLate ys → BeginLate (xs ++ ys)
unfolding BeginLate
late_both [] ys p q = q
late_both (x ∷ xs) ys p q = (p.0, late_both xs ys p.1 q)

late_each : {X : Type 0} (f : X → List Range) (xs : List X) (d : X) → ((i : ℕ) → BeginLate (f (get_or xs i d))) → BeginLate (flat_map f xs)
unfolding BeginLate
late_each f [] d h = tt
late_each f (x ∷ xs) d h = late_both (f x) (flat_map f xs) (h zero) (late_each f xs d (λ i. h (suc i)))

core_late : (core : ℕ) (st : State) (n : ℕ) → InsideBy core st n → BeginLate (core_by st n)
unfolding BeginLate
core_late core state.Nothing n p = tt
core_late core (state.Alive (Core c)) n p = (p.0, tt)
core_late core (state.Alive (Swap b)) n p = tt
core_late core (state.Grave b) n p = tt

text_late : (line : List ℕ) (core : ℕ) (o : Option TextRow) → ((row : TextRow) → o ≡ Some row → IsText line core row) → BeginLate (core_of_text (shared_in line core o))
unfolding BeginLate
text_late line core None h = tt
text_late line core (Some row) h = by (row.loaded == 0) refl
  where
    by : (b : Bool) → (row.loaded == 0) ≡ b → BeginLate (cond b [] (range row.at row.clicks))
    by true e = tt
    by false e = (((h row refl).within (eqb-false row.loaded 0 e)).0, tt)

taken_late : (v : Stock) → IsSound v → BeginLate (core_taken (kept_of v))
taken_late v h = late_both (flat_map core_of (kept_of v).slots) (flat_map core_of_text (kept_of v).texts)
    (late_each core_of (kept_of v).slots Nothing (λ s.
    let r : Row = row_at v.rows s in
    subst BeginLate (sym (ap core_of (slot_at v s) ∙ core_is v.line v.core (text_for v.line v.core v.texts r.text) r.state r.data_size r.stack_size (h.rows s)))
    (core_late v.core r.state (16 + r.data_size + r.stack_size) (inside_of v.line v.core r.state r.data_size r.stack_size (h.rows s)))))
    (late_each core_of_text (kept_of v).texts None (λ t. subst (λ o. BeginLate (core_of_text o)) (sym (shared_at v t)) (text_late v.line v.core (text_at v.texts t) (h.texts t))))

none_meets : (rs : List Range) → BeginLate rs → list_any (meets 1 0) rs ≡ false
unfolding BeginLate
none_meets [] h = refl
none_meets (r ∷ rs) h =
    let a : nat_lt r.at 1 ≡ false = le-ltb r.at 1 h.0 in
    ap (λ b. (b && nat_lt 1 (r.at + r.size)) || list_any (meets 1 0) rs) a ∙ none_meets rs h.1

-- no clicks are always free in one piece
no_clicks : (v : Stock) → IsSound v → is_some (core_fit (kept_of v) 0) ≡ true
unfolding core_fit
no_clicks v h = by (first_fit (core_taken (kept_of v)) 1 (kept_of v).core 0) (is_fit (core_taken (kept_of v)) 1 (kept_of v).core 0)
  where
    by : (o : Option ℕ) → IsFit (core_taken (kept_of v)) 1 (kept_of v).core 0 o → is_some o ≡ true
    by None f = absurd (both_ways (is_clear (core_taken (kept_of v)) 0 1) (f.all 1 (omega arith) (omega arith)) (none_clear (core_taken (kept_of v)) 0 1 (none_meets (core_taken (kept_of v)) (taken_late v h))))
    by (Some c) f = refl

pub room_is : (v : Stock) (k : Kept) (n : ℕ) (core_map swap_map : List Hole) (b : Bool) → kept_of v ≡ k → IsSound v → AreMaps v core_map swap_map
    → (0 < n → (taken : List Range) (first last : ℕ) → IsMap core_map taken first last → b ≡ is_some (first_fit taken first last n)) → (n ≡ 0 → b ≡ true) → b ≡ is_some (core_fit k n)
unfolding core_fit
room_is v k n core_map swap_map b view h maps some none = elim (cases_lt 0 n) [
  | inl more ↦ some more (core_taken (kept_of v)) 1 v.core (core_map_is v core_map swap_map h maps)
      ∙ ap (λ c. is_some (first_fit (core_taken (kept_of v)) 1 c n)) (sym (core_kept v)) ∙ ap (λ (j : Kept). is_some (first_fit (core_taken j) 1 j.core n)) view
  | inr few ↦
      (let z : n ≡ 0 = omega (arith, few) in
      none z ∙ sym (no_clicks v h) ∙ ap (λ (j : Kept). is_some (core_fit j 0)) view ∙ ap (λ i. is_some (core_fit k i)) (sym z))
]
