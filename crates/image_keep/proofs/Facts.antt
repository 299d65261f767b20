-- What a method knows of the slot that it is called for.
use Rattle.std.proofs.Common.{◌≡◌, ℕ, ◌+◌, ◌*◌, ◌<◌, ◌≤◌, ◌==◌, inl, inr, List, [], ◌∷◌, length, map, flat_map, cond, Bool, true, false, Option, Some, None, IsSome, refl, sym, ap, subst, ◌∙◌, arith, length-append}
use Rattle.std.proofs.lemmas.Bool.{cases_lt, false_from_ne_true}
use Rattle.std.proofs.lemmas.List.{get_or_past, length-map}
use Rattle.v6_base.specs.declared.entry.Place.{Place}
use Rattle.v6_base.specs.declared.entry.Place.TheVariants.{Core, Swap}
use Rattle.core_mem.specs.Bytes.{part}
use Rattle.text_tab.specs.declared.row.TextRow.{TextRow}
use Rattle.text_tab.specs.Table.{text_at, row_at as text_row, row_of as text_row_of, IsUsed}
use Rattle.map_fit.specs.declared.holes.Hole.{Hole}
use Rattle.map_fit.specs.Fit.{Range}
use Rattle.map_fit.specs.Free.{is_free}
use Rattle.image_keep.specs.declared.row.State.{State}
use Rattle.image_keep.specs.declared.row.State.TheVariants as state
use Rattle.image_keep.specs.declared.row.Row.{Row}
use Rattle.image_keep.specs.Kept.{Keeping, Nothing, Alive, Grave, Held, Shared, Kept, keeping, place_in, HasImage}
use Rattle.image_keep.specs.Memory.{Stock, no_row, row_at, swap_at, place_at, clicks_in, spot_by, RowOf, spot, AreApart, text_for, keeping_by, keeping_in, shared_in, kept_of, IsIn, IsAlive, HoldsBy, IsText, IsSound}
use Rattle.image_keep.specs.Places.{blocks, core_of, swap_of, core_of_place, swap_of_place, core_of_text, swap_of_text, core_taken, swap_taken, range}
use Rattle.image_keep.specs.Maps.{block, AreMaps}
use Rattle.image_keep.specs.Moves.{need_in, need_for}
use Rattle.image_keep.specs.Counts.{IsCounted}
use Rattle.image_keep.proofs.Places.{slot_at}
use Rattle.image_keep.proofs.Counting.{few_loaded}

-- the state of a row, by what it means
state_of : (line : List ℕ) (core : ℕ) (text : List ℕ) (st : State) (d k : ℕ) (held : Held) (place : Place) → keeping_by line core text st d k ≡ Alive held → place_in (keeping_by line core text st d k) ≡ Some place → st ≡ state.Alive place
unfolding keeping_by
state_of line core text state.Nothing d k held place e f = absurd (cc f)
state_of line core text (state.Alive p) d k held place e f = let same : p ≡ place = cc f in ap state.Alive same
state_of line core text (state.Grave b) d k held place e f = absurd (cc e)

pub record Facts (v : Stock) (s : ℕ) (place : Place) : Type 0 where
  pub low : s < length v.rows
  pub is : (row_at v.rows s).state ≡ state.Alive place
  pub sizes : (row_at v.rows s).data_size + (row_at v.rows s).stack_size ≤ 1024
  pub inside : IsIn v.core place (clicks_in (row_at v.rows s))
  pub used : (t : ℕ) → (row_at v.rows s).text ≡ Some t → IsUsed v.texts t
  pub few : (t : ℕ) → (row_at v.rows s).text ≡ Some t → (text_row v.texts t).loaded < 65535
  pub text : (t : ℕ) → (row_at v.rows s).text ≡ Some t → IsText v.line v.core (text_row v.texts t)
  pub need : need_for v.texts (row_at v.rows s).text ≤ 6976

some_row : (o : Option TextRow) → IsSome o → o ≡ Some (text_row_of o)
some_row None e = absurd (cc e)
some_row (Some r) e = refl

small_need : (line : List ℕ) (core : ℕ) (o : Option TextRow) → ((row : TextRow) → o ≡ Some row → IsText line core row) → need_in o ≤ 6976
small_need line core None h = omega arith
small_need line core (Some row) h = by (row.loaded == 0)
  where
    by : (b : Bool) → cond b row.clicks 0 ≤ 6976
    by true = let o = (h row refl).out in let a = o.0 in let b = o.1 in omega (arith, a, b)
    by false = omega arith

pub facts : (v : Stock) (k : Kept) (s : ℕ) (place : Place) → kept_of v ≡ k → IsSound v → IsCounted v.rows v.texts → place_in (keeping k s) ≡ Some place → HasImage k s → Facts v s place
facts v k s place view h c at has =
    let r : Row = row_at v.rows s in
    let here : keeping (kept_of v) s ≡ keeping_in v.line v.core v.texts r = slot_at v s in
    let alive : keeping_in v.line v.core v.texts r ≡ Alive has.0 = sym here ∙ (ap (λ j. keeping j s) view ∙ has.1) in
    let there : place_in (keeping_in v.line v.core v.texts r) ≡ Some place = ap place_in (sym here ∙ ap (λ j. keeping j s) view) ∙ at in
    let is : r.state ≡ state.Alive place = state_of v.line v.core (text_for v.line v.core v.texts r.text) r.state r.data_size r.stack_size has.0 place alive there in
    let own : IsAlive (part v.line (place_at v.core place) (64 * (16 + r.data_size + r.stack_size))) v.core r.data_size r.stack_size place = subst (λ st. HoldsBy v.line v.core st r.data_size r.stack_size) is (h.rows s) in
    let seg = own.segments in
    let slots = h.slots in
    record {
      low = low_of is;
      is = is;
      sizes = omega (arith, seg);
      inside = own.inside;
      used = λ t e. c.used s t e;
      few = λ t e. (let f = few_loaded v.rows v.texts t (text_row v.texts t) c slots (some_row (text_at v.texts t) (c.used s t e)) in let g = f.1 in omega (arith, g));
      text = λ t e. h.texts t (text_row v.texts t) (some_row (text_at v.texts t) (c.used s t e));
      need = need_of r.text;
    }
  where
    low_of : (row_at v.rows s).state ≡ state.Alive place → s < length v.rows
    low_of e = elim (cases_lt s (length v.rows)) [
      | inl l ↦ l
      | inr past ↦ absurd (nothing (ap (λ (r : Row). r.state) (sym (get_or_past v.rows s no_row past)) ∙ e))
    ]
      where
        nothing : state.Nothing ≡ state.Alive place → ⊥
        nothing d = cc d

    need_of : (x : Option ℕ) → need_for v.texts x ≤ 6976
    need_of None = omega arith
    need_of (Some t) = small_need v.line v.core (text_at v.texts t) (h.texts t)

-- blocks that a row has are not free
pub taken_blocks : (v : Stock) (core_map swap_map : List Hole) (s b x : ℕ) → AreMaps v core_map swap_map → (row_at v.rows s).state ≡ state.Alive (Swap b) → 4000 ≤ b
    → b ≤ x → x < b + blocks (clicks_in (row_at v.rows s)) → is_free swap_map x ≡ false
taken_blocks v core_map swap_map s b x maps is low l m = false_from_ne_true (is_free swap_map x) (λ e.
    let f = (maps.swap x).0 e in
    let old : spot v (RowOf s) ≡ record { at = swap_at v.core b; size = 512 * blocks (clicks_in (row_at v.rows s)) } =
    ap (λ st. spot_by v.core st (clicks_in (row_at v.rows s))) is in
    elim (subst (AreApart (block v.core x)) old (f.2 (RowOf s))) [
      | inl a ↦ omega (arith, a, l, m, low)
      | inr a ↦ omega (arith, a, l, m, low)
    ])

-- there are at most ninety ranges
most_one : {X : Type 0} (f : X → List Range) (xs : List X) → ((x : X) → length (f x) ≤ 1) → length (flat_map f xs) ≤ length xs
most_one f [] h = omega arith
most_one f (x ∷ xs) h = let a = h x in let b = most_one f xs h in let c = length-append (f x) (flat_map f xs) in omega (arith, a, b, c)

one_place : (p : Place) (n : ℕ) → length (core_of_place p n) ≤ 1
one_place (Core c) n = omega arith
one_place (Swap b) n = omega arith

one_swap_place : (p : Place) (n : ℕ) → length (swap_of_place p n) ≤ 1
one_swap_place (Core c) n = omega arith
one_swap_place (Swap b) n = omega arith

one_core : (x : Keeping) → length (core_of x) ≤ 1
one_core Nothing = omega arith
one_core (Alive held) = one_place held.place (16 + held.u.data_size + held.u.stack_size)
one_core (Grave u b) = omega arith

one_swap : (x : Keeping) → length (swap_of x) ≤ 1
one_swap Nothing = omega arith
one_swap (Alive held) = one_swap_place held.place (16 + held.u.data_size + held.u.stack_size)
one_swap (Grave u b) = omega arith

one_core_text : (x : Option Shared) → length (core_of_text x) ≤ 1
one_core_text None = omega arith
one_core_text (Some x) = by (x.row.loaded == 0)
  where
    by : (b : Bool) → length (cond b [] (range x.row.at x.row.clicks)) ≤ 1
    by true = omega arith
    by false = omega arith

one_swap_text : (x : Option Shared) → length (swap_of_text x) ≤ 1
one_swap_text None = omega arith
one_swap_text (Some x) = omega arith

pub few_taken : (v : Stock) → length v.rows ≡ 50 → length v.texts ≡ 40 → (length (core_taken (kept_of v)) ≤ 90) × (length (swap_taken (kept_of v)) ≤ 90)
unfolding kept_of
few_taken v e f =
    let slots = map (keeping_in v.line v.core v.texts) v.rows in
    let texts = map (shared_in v.line v.core) v.texts in
    let a : length slots ≡ 50 = length-map v.rows (keeping_in v.line v.core v.texts) ∙ e in
    let b : length texts ≡ 40 = length-map v.texts (shared_in v.line v.core) ∙ f in
    let c = most_one core_of slots one_core in
    let d = most_one core_of_text texts one_core_text in
    let g = most_one swap_of slots one_swap in
    let i = most_one swap_of_text texts one_swap_text in
    let j = length-append (flat_map core_of slots) (flat_map core_of_text texts) in
    let k = length-append (flat_map swap_of slots) (flat_map swap_of_text texts) in
    (omega (arith, a, b, c, d, j), omega (arith, a, b, g, i, k))

-- the users of a slot's text, and those in core, are few
pub few_users : (v : Stock) (s : ℕ) (row : Row) → IsSound v → IsCounted v.rows v.texts → row ≡ row_at v.rows s → (t : ℕ) → row.text ≡ Some t → ((text_row v.texts t).users < 65535) × ((text_row v.texts t).loaded < 65535)
few_users v s row h c at t e =
    let f = few_loaded v.rows v.texts t (text_row v.texts t) c h.slots (some_row (text_at v.texts t) (c.used s t (sym (ap (λ (r : Row). r.text) at) ∙ e))) in
    let a = f.0 in
    let b = f.1 in
    (omega (arith, a), omega (arith, b))
