-- What is kept of a process that has ended is read, and its block is free.
use Rattle.std.proofs.Common.{◌≡◌, ℕ, ◌+◌, ◌*◌, ◌<◌, ◌≤◌, ◌||◌, inl, inr, List, length, set, Bool, true, false, None, refl, sym, ap, subst, ◌∙◌, arith}
use Rattle.std.proofs.lemmas.Bool.{cases_lt}
use Rattle.std.proofs.lemmas.List.{get_or_past}
use Rattle.core_mem.specs.Bytes.{part}
use Rattle.u_area.specs.declared.area.UArea.{UArea}
use Rattle.u_area.specs.Area.{half_bytes, IsSized}
use Rattle.map_fit.specs.declared.holes.Hole.{Hole}
use Rattle.map_fit.specs.Free.{is_free, is_within}
use Rattle.image_keep.specs.declared.row.State.{State}
use Rattle.image_keep.specs.declared.row.State.TheVariants as state
use Rattle.image_keep.specs.declared.row.Row.{Row}
use Rattle.image_keep.specs.Kept.{Kept, Grave, keeping, with_keeping, Nothing, HasGrave, text_of, area_of}
use Rattle.image_keep.specs.Memory.{Stock, no_row, row_at, nothing_row, swap_at, clicks_in, text_for, keeping_by, kept_of, IsGrave, HoldsBy, IsSound}
use Rattle.image_keep.specs.Maps.{AreMaps, core_units, swap_units}
use Rattle.image_keep.specs.Counts.{IsCounted}
use Rattle.image_keep.proofs.Places.{slot_at}
use Rattle.image_keep.proofs.Leaving.{half_read}
use Rattle.image_keep.proofs.Ended.{Goes, freed, units_taken}

grave_state : (line : List ℕ) (core : ℕ) (text : List ℕ) (st : State) (d k : ℕ) (u : UArea) (b : ℕ) → keeping_by line core text st d k ≡ Grave u b → st ≡ state.Grave b
unfolding keeping_by
grave_state line core text state.Nothing d k u b e = absurd (cc e)
grave_state line core text (state.Alive place) d k u b e = absurd (cc e)
grave_state line core text (state.Grave y) d k u b e = let same : y ≡ b = cc e in ap state.Grave same

pub record GraveFacts (v : Stock) (s b : ℕ) : Type 0 where
  pub low : s < length v.rows
  pub is : (row_at v.rows s).state ≡ state.Grave b
  pub inside : (4000 ≤ b) × (b + 1 ≤ 4872)

pub grave_facts : (v : Stock) (k : Kept) (s : ℕ) → kept_of v ≡ k → IsSound v → (has : HasGrave k s) → GraveFacts v s has.1
grave_facts v k s view h has =
    let r : Row = row_at v.rows s in
    let is : r.state ≡ state.Grave has.1 = grave_state v.line v.core (text_for v.line v.core v.texts r.text) r.state r.data_size r.stack_size has.0 has.1 (sym (slot_at v s) ∙ ap (λ j. keeping j s) view ∙ has.2) in
    let g : IsGrave (part v.line (swap_at v.core has.1) 512) has.1 = subst (λ st. HoldsBy v.line v.core st r.data_size r.stack_size) is (h.rows s) in
    record { low = low_of is; is = is; inside = g.inside }
  where
    low_of : (row_at v.rows s).state ≡ state.Grave has.1 → s < length v.rows
    low_of e = elim (cases_lt s (length v.rows)) [
      | inl l ↦ l
      | inr past ↦ absurd (nothing (ap (λ (r : Row). r.state) (sym (get_or_past v.rows s no_row past)) ∙ e))
    ]
      where
        nothing : state.Nothing ≡ state.Grave has.1 → ⊥
        nothing d = cc d

one_block : (st : State) (x y : ℕ) → st ≡ state.Grave x → st ≡ state.Grave y → x ≡ y
one_block st x y e f = cc

pub grave_at : (v : Stock) (k : Kept) (s b : ℕ) (row : Row) → kept_of v ≡ k → IsSound v → HasGrave k s → row ≡ row_at v.rows s → row.state ≡ state.Grave b → GraveFacts v s b
grave_at v k s b row view h has at is =
    let f = grave_facts v k s view h has in
    subst (GraveFacts v s) (one_block (row_at v.rows s).state has.1 b f.is (sym (ap (λ (r : Row). r.state) at) ∙ is)) f

-- the block is taken
pub grave_taken : (v : Stock) (core_map swap_map : List Hole) (s b x : ℕ) → IsSound v → AreMaps v core_map swap_map → (row_at v.rows s).state ≡ state.Grave b → is_within b 1 x ≡ true → is_free swap_map x ≡ false
grave_taken v core_map swap_map s b x h maps is e =
    (units_taken v core_map swap_map s h maps).1 x (subst (λ st. swap_units st (clicks_in (row_at v.rows s)) x ≡ true) (sym is) e)

-- where the half is
pub grave_inside : (core b at a w : ℕ) → 4000 ≤ b → b + 1 ≤ 4872 → 64 * at ≡ swap_at core b → a ≡ 64 * core → w ≡ 64 * core + 446464 → (a ≤ 64 * at) × (64 * (at + 8) ≤ w)
grave_inside core b at a w l m e f g = (omega (arith, l, e, f), omega (arith, l, m, e, g))

pub half_sized : (v : Stock) (k : Kept) (s b : ℕ) → kept_of v ≡ k → IsSound v → (row_at v.rows s).state ≡ state.Grave b → IsSized (area_of k s)
half_sized v k s b view h is = subst (λ j. IsSized (area_of j s)) view (half_read v s b h is).1

pub half_got : (v : Stock) (k : Kept) (s b at : ℕ) (bytes : List ℕ) → kept_of v ≡ k → IsSound v → (row_at v.rows s).state ≡ state.Grave b → 64 * at ≡ swap_at v.core b → bytes ≡ part v.line (64 * at) 512 → bytes ≡ half_bytes (area_of k s)
half_got v k s b at bytes view h is e read =
    read ∙ ap (λ i. part v.line i 512) e ∙ (half_read v s b h is).0 ∙ ap (λ j. half_bytes (area_of j s)) view

or_no : (b : Bool) → b ≡ (b || false)
or_no true = refl
or_no false = refl

pub reaped : (v : Stock) (k : Kept) (s b : ℕ) (core_map swap_map swap_new : List Hole) (row : Row) (rows : List Row)
    → kept_of v ≡ k → IsSound v → AreMaps v core_map swap_map → IsCounted v.rows v.texts → GraveFacts v s b → text_of k s ≡ None → row ≡ row_at v.rows s
    → ((x : ℕ) → is_free swap_new x ≡ (is_free swap_map x || is_within b 1 x)) → rows ≡ set v.rows s (nothing_row row) → Goes v (record v { rows = rows }) core_map swap_new (with_keeping k s Nothing)
reaped v k s b core_map swap_map swap_new row rows view h maps c g bare at step rows_is =
    let is : row.state ≡ state.Grave b = ap (λ (r : Row). r.state) at ∙ g.is in
    freed v k s core_map swap_map core_map swap_new row rows view h maps c g.low bare at
    (λ x. or_no (is_free core_map x) ∙ sym (ap (λ st. is_free core_map x || core_units st (clicks_in row) x) is))
    (λ x. step x ∙ sym (ap (λ st. is_free swap_map x || swap_units st (clicks_in row) x) is))
    rows_is
