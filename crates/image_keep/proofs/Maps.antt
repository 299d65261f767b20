-- The maps when a row goes from its range to another that is apart from it, or when a text's ranges change.
use Rattle.std.proofs.Common.{◌≡◌, ◌≢◌, ◌↔◌, ℕ, ◌+◌, ◌-◌, ◌*◌, ◌<◌, ◌≤◌, ◌&&◌, ◌||◌, not, inl, inr, List, length, Bool, true, false, refl, sym, ap, subst, ◌∙◌, arith}
use Rattle.std.proofs.lemmas.Bool.{and_parts, and_from, or_cases, or_left, or_right, both_ways, not-true, not_from_false, false_from_ne_true}
use Rattle.v6_base.specs.declared.entry.Place.TheVariants.{Core, Swap}
use Rattle.map_fit.specs.declared.holes.Hole.{Hole}
use Rattle.map_fit.specs.Free.{is_free, is_within}
use Rattle.map_fit.proofs.Units.{in_true, in_low, in_high, Lies, Below, In, Above, lies}
use Rattle.image_keep.specs.declared.row.State.{State}
use Rattle.image_keep.specs.declared.row.State.TheVariants as state
use Rattle.image_keep.specs.declared.row.Row.{Row}
use Rattle.image_keep.specs.Memory.{Stock, row_at, swap_at, clicks_in, Spot, no_spot, spot_by, row_spot, Owner, RowOf, OutOf, InOf, spot, AreApart, IsSound}
use Rattle.image_keep.specs.Places.{blocks}
use Rattle.image_keep.specs.Maps.{click, block, IsFreeCore, IsFreeSwap, AreMaps, InsideBy, core_units, swap_units}
use Rattle.image_keep.proofs.Writes.{put_row, same_owner, row_same, row_other}
use Rattle.image_keep.proofs.Places.{inside_of}

-- a unit is one of a range's, or apart from it
pub record Tells (q : Spot) (b : Bool) (p : Spot) : Type 0 where
  pub off : b ≡ false → AreApart q p
  pub on : b ≡ true → AreApart q p → ⊥

pub tells_click : (c n x : ℕ) → 1 ≤ c → 1 ≤ x → Tells (click x) (is_within c n x) (record { at = 64 * (c - 1); size = 64 * n })
tells_click c n x a b = record { off = λ e. out (lies c n x) e; on = λ e. inn (in_low c n x e) (in_high c n x e) }
  where
    out : Lies c n x → is_within c n x ≡ false → AreApart (click x) (record { at = 64 * (c - 1); size = 64 * n })
    out (Below l) e = inl (omega arith)
    out (Above l) e = inr (omega arith)
    out (In l h) e = absurd (both_ways (is_within c n x) e (in_true c n x l h))

    inn : c ≤ x → x < c + n → AreApart (click x) (record { at = 64 * (c - 1); size = 64 * n }) → ⊥
    inn l h (inl k) = omega arith
    inn l h (inr k) = omega arith

pub tells_block : (core b n x : ℕ) → 4000 ≤ b → 4000 ≤ x → Tells (block core x) (is_within b n x) (record { at = swap_at core b; size = 512 * n })
tells_block core b n x a d = record { off = λ e. out (lies b n x) e; on = λ e. inn (in_low b n x e) (in_high b n x e) }
  where
    out : Lies b n x → is_within b n x ≡ false → AreApart (block core x) (record { at = swap_at core b; size = 512 * n })
    out (Below l) e = inl (omega arith)
    out (Above l) e = inr (omega arith)
    out (In l h) e = absurd (both_ways (is_within b n x) e (in_true b n x l h))

    inn : b ≤ x → x < b + n → AreApart (block core x) (record { at = swap_at core b; size = 512 * n }) → ⊥
    inn l h (inl k) = omega arith
    inn l h (inr k) = omega arith

pub tells_no : (q p : Spot) → AreApart q p → Tells q false p
tells_no q p a = record { off = λ e. a; on = λ e f. absurd (both_ways false refl e) }

pub core_tells : (core : ℕ) (st : State) (n x : ℕ) → InsideBy core st n → 1 ≤ x → x ≤ core → Tells (click x) (core_units st n x) (spot_by core st n)
core_tells core state.Nothing n x i a b = tells_no (click x) no_spot (inr (omega arith))
core_tells core (state.Alive (Core c)) n x i a b = tells_click c n x i.0 a
core_tells core (state.Alive (Swap y)) n x i a b = tells_no (click x) (record { at = swap_at core y; size = 512 * blocks n }) (inl (omega arith))
core_tells core (state.Grave y) n x i a b = tells_no (click x) (record { at = swap_at core y; size = 512 }) (inl (omega arith))

pub swap_tells : (core : ℕ) (st : State) (n x : ℕ) → InsideBy core st n → 4000 ≤ x → Tells (block core x) (swap_units st n x) (spot_by core st n)
swap_tells core state.Nothing n x i a = tells_no (block core x) no_spot (inr (omega arith))
swap_tells core (state.Alive (Core c)) n x i a = tells_no (block core x) (record { at = 64 * (c - 1); size = 64 * n }) (inr (let j = i.0 in let k = i.1 in omega (arith, j, k)))
swap_tells core (state.Alive (Swap y)) n x i a = tells_block core y (blocks n) x i.0 a
swap_tells core (state.Grave y) n x i a = tells_block core y 1 x i.0 a

-- the units of a state are inside, and so is each of them in its range
pub core_inside : (core : ℕ) (st : State) (n x : ℕ) → InsideBy core st n → core_units st n x ≡ true → (1 ≤ x) × (x ≤ core) × ((p : Spot) → AreApart (spot_by core st n) p → AreApart (click x) p)
core_inside core state.Nothing n x i e = absurd (both_ways false refl e)
core_inside core (state.Alive (Core c)) n x i e =
    let a = in_low c n x e in
    let b = in_high c n x e in
    let j = i.0 in
    let k = i.1 in
    (omega (arith, a, j), omega (arith, b, k), λ p f. inner p f a b j)
  where
    inner : (p : Spot) → AreApart (record { at = 64 * (c - 1); size = 64 * n }) p → c ≤ x → x < c + n → 1 ≤ c → AreApart (click x) p
    inner p (inl f) a b j = inl (omega arith)
    inner p (inr f) a b j = inr (omega arith)
core_inside core (state.Alive (Swap y)) n x i e = absurd (both_ways false refl e)
core_inside core (state.Grave y) n x i e = absurd (both_ways false refl e)

pub block_inside : (core b n x : ℕ) → 4000 ≤ b → b + n ≤ 4872 → is_within b n x ≡ true → (4000 ≤ x) × (x ≤ 4871) × ((p : Spot) → AreApart (record { at = swap_at core b; size = 512 * n }) p → AreApart (block core x) p)
block_inside core b n x j k e =
    let a = in_low b n x e in
    let d = in_high b n x e in
    (omega (arith, a, j), omega (arith, d, k), λ p f. inner p f a d)
  where
    inner : (p : Spot) → AreApart (record { at = swap_at core b; size = 512 * n }) p → b ≤ x → x < b + n → AreApart (block core x) p
    inner p (inl f) a d = inl (omega arith)
    inner p (inr f) a d = inr (omega arith)

pub swap_inside : (core : ℕ) (st : State) (n x : ℕ) → InsideBy core st n → swap_units st n x ≡ true → (4000 ≤ x) × (x ≤ 4871) × ((p : Spot) → AreApart (spot_by core st n) p → AreApart (block core x) p)
swap_inside core state.Nothing n x i e = absurd (both_ways false refl e)
swap_inside core (state.Alive (Core c)) n x i e = absurd (both_ways false refl e)
swap_inside core (state.Alive (Swap y)) n x i e = block_inside core y (blocks n) x i.0 i.1 e
swap_inside core (state.Grave y) n x i e = block_inside core y 1 x i.0 i.1 e

-- one map, where one owner's range is taken and its old one is given back
module _ (f g : Owner → Spot) (o : Owner) (same : (p : Owner) → p ≢ o → g p ≡ f p) (apart : (p : Owner) → p ≢ o → AreApart (f o) (f p)) (own : AreApart (f o) (g o)) where
  free_old : (q : Spot) → ((p : Owner) → AreApart q (g p)) → AreApart q (f o) → (p : Owner) → AreApart q (f p)
  free_old q new here p = elim (same_owner p o) [
    | inl e ↦ subst (λ y. AreApart q (f y)) (sym e) here
    | inr ne ↦ subst (AreApart q) (same p ne) (new p)
  ]

  free_new : (q : Spot) → ((p : Owner) → p ≢ o → AreApart q (f p)) → AreApart q (g o) → (p : Owner) → AreApart q (g p)
  free_new q old here p = elim (same_owner p o) [
    | inl e ↦ subst (λ y. AreApart q (g y)) (sym e) here
    | inr ne ↦ subst (AreApart q) (sym (same p ne)) (old p ne)
  ]

  pub one_map : (q : Spot) (was now taken given : Bool) → ((was ≡ true) ↔ ((p : Owner) → AreApart q (f p))) → Tells q taken (g o) → Tells q given (f o)
      → (given ≡ true → (p : Spot) → AreApart (f o) p → AreApart q p) → now ≡ ((was && not taken) || given) → (now ≡ true) ↔ ((p : Owner) → AreApart q (g p))
  one_map q was now taken given is t d inner step = (there, back)
    where
      there : now ≡ true → (p : Owner) → AreApart q (g p)
      there e = elim (or_cases (was && not taken) given (sym step ∙ e)) [
        | inl k ↦ (let m = and_parts was (not taken) k in free_new q (λ p ne. is.0 m.0 p) (t.off (not-true taken m.1)))
        | inr k ↦ free_new q (λ p ne. inner k (f p) (apart p ne)) (inner k (g o) own)
      ]

      back : ((p : Owner) → AreApart q (g p)) → now ≡ true
      back h = by given refl
        where
          by : (b : Bool) → given ≡ b → now ≡ true
          by true e = step ∙ or_right (was && not taken) given e
          by false e =
              step ∙ or_left (was && not taken) given
              (and_from was (not taken) (is.1 (free_old q h (d.off e))) (not_from_false taken (false_from_ne_true taken (λ x. t.on x (h o)))))

-- a row goes from its range to another
pub maps_put : (v : Stock) (s : ℕ) (row : Row) (new : List ℕ) (core_map swap_map core_new swap_new : List Hole) → IsSound v → s < length v.rows → AreMaps v core_map swap_map
    → InsideBy v.core row.state (clicks_in row) → AreApart (spot v (RowOf s)) (row_spot v.core row)
    → ((x : ℕ) → is_free core_new x ≡ ((is_free core_map x && not (core_units row.state (clicks_in row) x)) || core_units (row_at v.rows s).state (clicks_in (row_at v.rows s)) x))
    → ((x : ℕ) → is_free swap_new x ≡ ((is_free swap_map x && not (swap_units row.state (clicks_in row) x)) || swap_units (row_at v.rows s).state (clicks_in (row_at v.rows s)) x))
    → AreMaps (put_row v s row new) core_new swap_new
maps_put v s row new core_map swap_map core_new swap_new h l maps inside own step_core step_swap = record {
  core = λ x. (core_there x, core_back x);
  swap = λ x. (swap_there x, swap_back x);
}
  where
    old_in : InsideBy v.core (row_at v.rows s).state (clicks_in (row_at v.rows s))
    old_in = inside_of v.line v.core (row_at v.rows s).state (row_at v.rows s).data_size (row_at v.rows s).stack_size (h.rows s)

    same : (p : Owner) → p ≢ RowOf s → spot (put_row v s row new) p ≡ spot v p
    same (RowOf u) ne = ap (row_spot v.core) (row_other v.rows s u row (λ e. ne (ap RowOf e)))
    same (OutOf t) ne = refl
    same (InOf t) ne = refl

    mine : spot (put_row v s row new) (RowOf s) ≡ row_spot v.core row
    mine = ap (row_spot v.core) (row_same v.rows s row l)

    others : (p : Owner) → p ≢ RowOf s → AreApart (spot v (RowOf s)) (spot v p)
    others p ne = h.apart (RowOf s) p (λ e. ne (sym e))

    own2 : AreApart (spot v (RowOf s)) (spot (put_row v s row new) (RowOf s))
    own2 = subst (AreApart (spot v (RowOf s))) (sym mine) own

    core_iff : (x : ℕ) → 1 ≤ x → x ≤ v.core → (is_free core_new x ≡ true) ↔ ((p : Owner) → AreApart (click x) (spot (put_row v s row new) p))
    core_iff x a b = one_map (spot v) (spot (put_row v s row new)) (RowOf s) same others own2 (click x) (is_free core_map x) (is_free core_new x)
        (core_units row.state (clicks_in row) x) (core_units (row_at v.rows s).state (clicks_in (row_at v.rows s)) x)
        ((λ e. ((maps.core x).0 e).2), (λ e. (maps.core x).1 (a, b, e)))
        (subst (Tells (click x) (core_units row.state (clicks_in row) x)) (sym mine) (core_tells v.core row.state (clicks_in row) x inside a b))
        (core_tells v.core (row_at v.rows s).state (clicks_in (row_at v.rows s)) x old_in a b)
        (λ e p f. (core_inside v.core (row_at v.rows s).state (clicks_in (row_at v.rows s)) x old_in e).2 p f)
        (step_core x)

    core_there : (x : ℕ) → is_free core_new x ≡ true → IsFreeCore (put_row v s row new) x
    core_there x e = elim (or_cases (is_free core_map x && not (core_units row.state (clicks_in row) x)) (core_units (row_at v.rows s).state (clicks_in (row_at v.rows s)) x) (sym (step_core x) ∙ e)) [
      | inl k ↦
          (let m = (maps.core x).0 (and_parts (is_free core_map x) (not (core_units row.state (clicks_in row) x)) k).0 in
          (m.0, m.1, (core_iff x m.0 m.1).0 e))
      | inr k ↦
          (let m = core_inside v.core (row_at v.rows s).state (clicks_in (row_at v.rows s)) x old_in k in
          (m.0, m.1, (core_iff x m.0 m.1).0 e))
    ]

    core_back : (x : ℕ) → IsFreeCore (put_row v s row new) x → is_free core_new x ≡ true
    core_back x e = (core_iff x e.0 e.1).1 e.2

    swap_iff : (x : ℕ) → 4000 ≤ x → x ≤ 4871 → (is_free swap_new x ≡ true) ↔ ((p : Owner) → AreApart (block v.core x) (spot (put_row v s row new) p))
    swap_iff x a b = one_map (spot v) (spot (put_row v s row new)) (RowOf s) same others own2 (block v.core x) (is_free swap_map x) (is_free swap_new x)
        (swap_units row.state (clicks_in row) x) (swap_units (row_at v.rows s).state (clicks_in (row_at v.rows s)) x)
        ((λ e. ((maps.swap x).0 e).2), (λ e. (maps.swap x).1 (a, b, e)))
        (subst (Tells (block v.core x) (swap_units row.state (clicks_in row) x)) (sym mine) (swap_tells v.core row.state (clicks_in row) x inside a))
        (swap_tells v.core (row_at v.rows s).state (clicks_in (row_at v.rows s)) x old_in a)
        (λ e p f. (swap_inside v.core (row_at v.rows s).state (clicks_in (row_at v.rows s)) x old_in e).2 p f)
        (step_swap x)

    swap_there : (x : ℕ) → is_free swap_new x ≡ true → IsFreeSwap (put_row v s row new) x
    swap_there x e = elim (or_cases (is_free swap_map x && not (swap_units row.state (clicks_in row) x)) (swap_units (row_at v.rows s).state (clicks_in (row_at v.rows s)) x) (sym (step_swap x) ∙ e)) [
      | inl k ↦
          (let m = (maps.swap x).0 (and_parts (is_free swap_map x) (not (swap_units row.state (clicks_in row) x)) k).0 in
          (m.0, m.1, (swap_iff x m.0 m.1).0 e))
      | inr k ↦
          (let m = swap_inside v.core (row_at v.rows s).state (clicks_in (row_at v.rows s)) x old_in k in
          (m.0, m.1, (swap_iff x m.0 m.1).0 e))
    ]

    swap_back : (x : ℕ) → IsFreeSwap (put_row v s row new) x → is_free swap_new x ≡ true
    swap_back x e = (swap_iff x e.0 e.1).1 e.2

pub ruleset maps = (maps_put, one_map)
