-- What first fit finds is free in the line, and the maps are maps of what is taken.
use Rattle.std.proofs.Common.{◌≡◌, ◌≢◌, ℕ, ◌+◌, ◌-◌, ◌*◌, ◌<◌, ◌≤◌, ◌==◌, ◌&&◌, ◌||◌, inl, inr, List, [], ◌∷◌, ◌++◌, map, flat_map, get_or, zero, suc, cond, Bool, true, false, nat_le, Option, Some, None, refl, sym, ap, subst, ◌∙◌, arith}
use Rattle.std.proofs.lemmas.Bool.{eqb-false, or_parts, or_from, le-leb, leb-true, and_from, and_parts}
use Rattle.std.specs.List.{list_any}
use Rattle.v6_base.specs.declared.entry.Place.TheVariants.{Core, Swap}
use Rattle.u_area.specs.Area.{fetched}
use Rattle.core_mem.specs.Bytes.{part}
use Rattle.text_tab.specs.declared.row.TextRow.{TextRow}
use Rattle.text_tab.specs.Table.{text_at}
use Rattle.map_fit.specs.declared.holes.Hole.{Hole}
use Rattle.map_fit.specs.Fit.{Range, meets, is_clear, first_fit, IsFirst, IsFit}
use Rattle.map_fit.specs.Free.{is_free, IsMap, ArePositive}
use Rattle.map_fit.proofs.Fits.{is_fit}
use Rattle.map_fit.proofs.Units.{meets_no, no_meets, clear_none, none_clear}
use Rattle.image_keep.specs.declared.row.State.{State}
use Rattle.image_keep.specs.declared.row.State.TheVariants as state
use Rattle.image_keep.specs.declared.row.Row.{Row}
use Rattle.image_keep.specs.Kept.{Nothing, Kept, keeping, shared}
use Rattle.image_keep.specs.Memory.{Stock, no_row, row_at, swap_at, place_at, no_spot, spot_by, out_spot, in_spot, Owner, RowOf, OutOf, InOf, spot, AreApart, text_for, keeping_by, keeping_in, shared_in, kept_of, HoldsBy, IsText, IsSound}
use Rattle.image_keep.specs.Places.{blocks, range, core_of, swap_of, core_of_place, swap_of_place, core_of_text, swap_of_text, core_taken, swap_taken, core_fit, swap_fit}
use Rattle.image_keep.specs.Maps.{click, block, AreMaps, InsideBy}

-- nothing passes a test in a list that is made of lists
any_front : {X : Type 0} (q : X → Bool) (xs ys : List X) → list_any q (xs ++ ys) ≡ false → (list_any q xs ≡ false) × (list_any q ys ≡ false)
any_front q [] ys e = (refl, e)
any_front q (x ∷ xs) ys e =
    let k = or_parts (q x) (list_any q (xs ++ ys)) e in
    let m = any_front q xs ys k.1 in
    (or_from (q x) (list_any q xs) k.0 m.0, m.1)

any_both : {X : Type 0} (q : X → Bool) (xs ys : List X) → list_any q xs ≡ false → list_any q ys ≡ false → list_any q (xs ++ ys) ≡ false
any_both q [] ys e f = f
any_both q (x ∷ xs) ys e f = let k = or_parts (q x) (list_any q xs) e in or_from (q x) (list_any q (xs ++ ys)) k.0 (any_both q xs ys k.1 f)

any_each : {X Y : Type 0} (q : Y → Bool) (f : X → List Y) (xs : List X) (d : X) → f d ≡ [] → list_any q (flat_map f xs) ≡ false → (i : ℕ) → list_any q (f (get_or xs i d)) ≡ false
any_each q f [] d none e i = ap (list_any q) none
any_each q f (x ∷ xs) d none e zero = (any_front q (f x) (flat_map f xs) e).0
any_each q f (x ∷ xs) d none e (suc i) = any_each q f xs d none (any_front q (f x) (flat_map f xs) e).1 i

each_any : {X Y : Type 0} (q : Y → Bool) (f : X → List Y) (xs : List X) (d : X) → ((i : ℕ) → list_any q (f (get_or xs i d)) ≡ false) → list_any q (flat_map f xs) ≡ false
each_any q f [] d h = refl
each_any q f (x ∷ xs) d h = any_both q (f x) (flat_map f xs) (h zero) (each_any q f xs d (λ i. h (suc i)))

pub map_at : {X Y : Type 0} (f : X → Y) (xs : List X) (d : X) (e : Y) (i : ℕ) → f d ≡ e → get_or (map f xs) i e ≡ f (get_or xs i d)
map_at f [] d e i is = sym is
map_at f (x ∷ xs) d e zero is = refl
map_at f (x ∷ xs) d e (suc i) is = map_at f xs d e i is

pub slot_at : (v : Stock) (s : ℕ) → keeping (kept_of v) s ≡ keeping_in v.line v.core v.texts (row_at v.rows s)
unfolding kept_of keeping_by
slot_at v s = map_at (keeping_in v.line v.core v.texts) v.rows no_row Nothing s refl

pub shared_at : (v : Stock) (t : ℕ) → shared (kept_of v) t ≡ shared_in v.line v.core (text_at v.texts t)
unfolding kept_of
shared_at v t = map_at (shared_in v.line v.core) v.texts None None t refl

-- what a row takes, by its state
abbrev pub core_by : State → ℕ → List Range
core_by state.Nothing n = []
core_by (state.Alive place) n = core_of_place place n
core_by (state.Grave b) n = []

abbrev swap_by : State → ℕ → List Range
swap_by state.Nothing n = []
swap_by (state.Alive place) n = swap_of_place place n
swap_by (state.Grave b) n = range b 1

pub core_is : (line : List ℕ) (core : ℕ) (text : List ℕ) (st : State) (d k : ℕ) → HoldsBy line core st d k → core_of (keeping_by line core text st d k) ≡ core_by st (16 + d + k)
unfolding keeping_by
core_is line core text state.Nothing d k h = refl
core_is line core text (state.Alive place) d k h =
    let e : 16 + (fetched (part (part line (place_at core place) (64 * (16 + d + k))) 0 1024)).data_size + (fetched (part (part line (place_at core place) (64 * (16 + d + k))) 0 1024)).stack_size ≡ 16 + d + k =
    (let a = h.data_size in let b = h.stack_size in rw (a, b) refl) in
    ap (core_of_place place) e
core_is line core text (state.Grave b) d k h = refl

swap_is : (line : List ℕ) (core : ℕ) (text : List ℕ) (st : State) (d k : ℕ) → HoldsBy line core st d k → swap_of (keeping_by line core text st d k) ≡ swap_by st (16 + d + k)
unfolding keeping_by
swap_is line core text state.Nothing d k h = refl
swap_is line core text (state.Alive place) d k h =
    let e : 16 + (fetched (part (part line (place_at core place) (64 * (16 + d + k))) 0 1024)).data_size + (fetched (part (part line (place_at core place) (64 * (16 + d + k))) 0 1024)).stack_size ≡ 16 + d + k =
    (let a = h.data_size in let b = h.stack_size in rw (a, b) refl) in
    ap (swap_of_place place) e
swap_is line core text (state.Grave b) d k h = refl

pub inside_of : (line : List ℕ) (core : ℕ) (st : State) (d k : ℕ) → HoldsBy line core st d k → InsideBy core st (16 + d + k)
inside_of line core state.Nothing d k h = tt
inside_of line core (state.Alive place) d k h = h.inside
inside_of line core (state.Grave b) d k h = h.inside

single : (q : Range → Bool) (r : Range) → (q r || false) ≡ false → q r ≡ false
single q r e = (or_parts (q r) false e).0

alone : (q : Range → Bool) (r : Range) → q r ≡ false → (q r || false) ≡ false
alone q r e = or_from (q r) false e refl

-- clicks that no row's range meets are apart from each row's range
core_apart : (core : ℕ) (st : State) (n c m : ℕ) → InsideBy core st n → 1 ≤ c → c + m ≤ core + 1 → list_any (meets c m) (core_by st n) ≡ false
    → AreApart (record { at = 64 * (c - 1); size = 64 * m }) (spot_by core st n)
core_apart core state.Nothing n c m i l w e = inr (omega arith)
core_apart core (state.Alive (Core x)) n c m i l w e = elim (meets_no c m (record { at = x; size = n }) (single (meets c m) (record { at = x; size = n }) e)) [
  | inl a ↦ inl (let j = i.0 in omega (arith, j))
  | inr a ↦ inr (let j = i.0 in omega (arith, j))
]
core_apart core (state.Alive (Swap b)) n c m i l w e = inl (omega arith)
core_apart core (state.Grave b) n c m i l w e = inl (omega arith)

core_meets : (core : ℕ) (st : State) (n x : ℕ) → InsideBy core st n → 1 ≤ x → AreApart (click x) (spot_by core st n) → list_any (meets x 1) (core_by st n) ≡ false
core_meets core state.Nothing n x i l a = refl
core_meets core (state.Alive (Core y)) n x i l (inl a) = alone (meets x 1) (record { at = y; size = n }) (no_meets x 1 (record { at = y; size = n }) (inl (let j = i.0 in omega (arith, j))))
core_meets core (state.Alive (Core y)) n x i l (inr a) = alone (meets x 1) (record { at = y; size = n }) (no_meets x 1 (record { at = y; size = n }) (inr (let j = i.0 in omega (arith, j))))
core_meets core (state.Alive (Swap b)) n x i l a = refl
core_meets core (state.Grave b) n x i l a = refl

swap_apart : (core : ℕ) (st : State) (n c m : ℕ) → InsideBy core st n → 4000 ≤ c → list_any (meets c m) (swap_by st n) ≡ false
    → AreApart (record { at = swap_at core c; size = 512 * m }) (spot_by core st n)
swap_apart core state.Nothing n c m i l e = inr (omega arith)
swap_apart core (state.Alive (Core x)) n c m i l e = inr (let j = i.0 in let k = i.1 in omega (arith, j, k))
swap_apart core (state.Alive (Swap b)) n c m i l e = elim (meets_no c m (record { at = b; size = blocks n }) (single (meets c m) (record { at = b; size = blocks n }) e)) [
  | inl a ↦ inl (let j = i.0 in omega (arith, j))
  | inr a ↦ inr (let j = i.0 in omega (arith, j))
]
swap_apart core (state.Grave b) n c m i l e = elim (meets_no c m (record { at = b; size = 1 }) (single (meets c m) (record { at = b; size = 1 }) e)) [
  | inl a ↦ inl (let j = i.0 in omega (arith, j))
  | inr a ↦ inr (let j = i.0 in omega (arith, j))
]

swap_meets : (core : ℕ) (st : State) (n x : ℕ) → InsideBy core st n → 4000 ≤ x → AreApart (block core x) (spot_by core st n) → list_any (meets x 1) (swap_by st n) ≡ false
swap_meets core state.Nothing n x i l a = refl
swap_meets core (state.Alive (Core y)) n x i l a = refl
swap_meets core (state.Alive (Swap b)) n x i l (inl a) = alone (meets x 1) (record { at = b; size = blocks n }) (no_meets x 1 (record { at = b; size = blocks n }) (inl (let j = i.0 in omega (arith, j))))
swap_meets core (state.Alive (Swap b)) n x i l (inr a) = alone (meets x 1) (record { at = b; size = blocks n }) (no_meets x 1 (record { at = b; size = blocks n }) (inr (let j = i.0 in omega (arith, j))))
swap_meets core (state.Grave b) n x i l (inl a) = alone (meets x 1) (record { at = b; size = 1 }) (no_meets x 1 (record { at = b; size = 1 }) (inl (let j = i.0 in omega (arith, j))))
swap_meets core (state.Grave b) n x i l (inr a) = alone (meets x 1) (record { at = b; size = 1 }) (no_meets x 1 (record { at = b; size = 1 }) (inr (let j = i.0 in omega (arith, j))))

in_apart : (core : ℕ) (t : TextRow) (c m : ℕ) → (t.loaded ≢ 0 → (1 ≤ t.at) × (t.at + t.clicks ≤ core + 1)) → 1 ≤ c → list_any (meets c m) (cond (t.loaded == 0) [] (range t.at t.clicks)) ≡ false
    → AreApart (record { at = 64 * (c - 1); size = 64 * m }) (in_spot (Some t))
in_apart core t c m i l e = by (t.loaded == 0) refl e
  where
    by : (z : Bool) → (t.loaded == 0) ≡ z → list_any (meets c m) (cond z [] (range t.at t.clicks)) ≡ false → AreApart (record { at = 64 * (c - 1); size = 64 * m }) (cond z no_spot (record { at = 64 * (t.at - 1); size = 64 * t.clicks }))
    by true z f = inr (omega arith)
    by false z f =
        let j = (i (eqb-false t.loaded 0 z)).0 in
        elim (meets_no c m (record { at = t.at; size = t.clicks }) (single (meets c m) (record { at = t.at; size = t.clicks }) f)) [
          | inl a ↦ inl (omega (arith, j))
          | inr a ↦ inr (omega (arith, j))
        ]

in_meets : (core : ℕ) (t : TextRow) (x : ℕ) → (t.loaded ≢ 0 → (1 ≤ t.at) × (t.at + t.clicks ≤ core + 1)) → 1 ≤ x → AreApart (click x) (in_spot (Some t))
    → list_any (meets x 1) (cond (t.loaded == 0) [] (range t.at t.clicks)) ≡ false
in_meets core t x i l e = by (t.loaded == 0) refl e
  where
    by : (z : Bool) → (t.loaded == 0) ≡ z → AreApart (click x) (cond z no_spot (record { at = 64 * (t.at - 1); size = 64 * t.clicks })) → list_any (meets x 1) (cond z [] (range t.at t.clicks)) ≡ false
    by true z f = refl
    by false z (inl a) = let j = (i (eqb-false t.loaded 0 z)).0 in alone (meets x 1) (record { at = t.at; size = t.clicks }) (no_meets x 1 (record { at = t.at; size = t.clicks }) (inl (omega (arith, j))))
    by false z (inr a) = let j = (i (eqb-false t.loaded 0 z)).0 in alone (meets x 1) (record { at = t.at; size = t.clicks }) (no_meets x 1 (record { at = t.at; size = t.clicks }) (inr (omega (arith, j))))

-- clicks of core that are clear are apart from all that anybody has
core_clear : (v : Stock) (c m : ℕ) → IsSound v → 1 ≤ c → c + m ≤ v.core + 1 → is_clear (core_taken (kept_of v)) m c ≡ true → (p : Owner)
    → AreApart (record { at = 64 * (c - 1); size = 64 * m }) (spot v p)
core_clear v c m h l w e (RowOf s) =
    let k : Kept = kept_of v in
    let parts = any_front (meets c m) (flat_map core_of k.slots) (flat_map core_of_text k.texts) (clear_none (core_taken k) m c e) in
    let one : list_any (meets c m) (core_of (keeping k s)) ≡ false = any_each (meets c m) core_of k.slots Nothing refl parts.0 s in
    let r : Row = row_at v.rows s in
    core_apart v.core r.state (16 + r.data_size + r.stack_size) c m (inside_of v.line v.core r.state r.data_size r.stack_size (h.rows s)) l w
    (sym (ap (list_any (meets c m)) (ap core_of (slot_at v s) ∙ core_is v.line v.core (text_for v.line v.core v.texts r.text) r.state r.data_size r.stack_size (h.rows s))) ∙ one)
core_clear v c m h l w e (OutOf t) = by (text_at v.texts t)
  where
    by : (o : Option TextRow) → AreApart (record { at = 64 * (c - 1); size = 64 * m }) (out_spot v.core o)
    by None = inr (omega arith)
    by (Some row) = inl (omega arith)
core_clear v c m h l w e (InOf t) = by (text_at v.texts t) (h.texts t) (sym (ap (λ o. list_any (meets c m) (core_of_text o)) (shared_at v t)) ∙ one)
  where
    parts : (list_any (meets c m) (flat_map core_of (kept_of v).slots) ≡ false) × (list_any (meets c m) (flat_map core_of_text (kept_of v).texts) ≡ false)
    parts = any_front (meets c m) (flat_map core_of (kept_of v).slots) (flat_map core_of_text (kept_of v).texts) (clear_none (core_taken (kept_of v)) m c e)

    one : list_any (meets c m) (core_of_text (shared (kept_of v) t)) ≡ false
    one = any_each (meets c m) core_of_text (kept_of v).texts None refl parts.1 t

    by : (o : Option TextRow) → ((row : TextRow) → o ≡ Some row → IsText v.line v.core row) → list_any (meets c m) (core_of_text (shared_in v.line v.core o)) ≡ false
        → AreApart (record { at = 64 * (c - 1); size = 64 * m }) (in_spot o)
    by None i f = inr (omega arith)
    by (Some row) i f = in_apart v.core row c m (i row refl).within l f

clear_core : (v : Stock) (x : ℕ) → IsSound v → 1 ≤ x → ((p : Owner) → AreApart (click x) (spot v p)) → is_clear (core_taken (kept_of v)) 1 x ≡ true
clear_core v x h l each =
    let k : Kept = kept_of v in
    none_clear (core_taken k) 1 x (any_both (meets x 1) (flat_map core_of k.slots) (flat_map core_of_text k.texts)
    (each_any (meets x 1) core_of k.slots Nothing row)
    (each_any (meets x 1) core_of_text k.texts None text))
  where
    row : (s : ℕ) → list_any (meets x 1) (core_of (keeping (kept_of v) s)) ≡ false
    row s =
        let r : Row = row_at v.rows s in
        ap (list_any (meets x 1)) (ap core_of (slot_at v s) ∙ core_is v.line v.core (text_for v.line v.core v.texts r.text) r.state r.data_size r.stack_size (h.rows s))
        ∙ core_meets v.core r.state (16 + r.data_size + r.stack_size) x (inside_of v.line v.core r.state r.data_size r.stack_size (h.rows s)) l (each (RowOf s))

    text_by : (o : Option TextRow) → ((row : TextRow) → o ≡ Some row → IsText v.line v.core row) → AreApart (click x) (in_spot o) → list_any (meets x 1) (core_of_text (shared_in v.line v.core o)) ≡ false
    text_by None i a = refl
    text_by (Some row) i a = in_meets v.core row x (i row refl).within l a

    text : (t : ℕ) → list_any (meets x 1) (core_of_text (shared (kept_of v) t)) ≡ false
    text t = ap (λ o. list_any (meets x 1) (core_of_text o)) (shared_at v t) ∙ text_by (text_at v.texts t) (h.texts t) (each (InOf t))

-- the same of blocks of the swap area
out_apart : (core : ℕ) (o : Option TextRow) (line : List ℕ) (c m : ℕ) → ((row : TextRow) → o ≡ Some row → IsText line core row) → 4000 ≤ c → list_any (meets c m) (swap_of_text (shared_in line core o)) ≡ false
    → AreApart (record { at = swap_at core c; size = 512 * m }) (out_spot core o)
out_apart core None line c m i l e = inr (omega arith)
out_apart core (Some t) line c m i l e =
    let j = (i t refl).out in
    let low = j.0 in
    elim (meets_no c m (record { at = t.block; size = blocks t.clicks }) (single (meets c m) (record { at = t.block; size = blocks t.clicks }) e)) [
      | inl a ↦ inl (omega (arith, low))
      | inr a ↦ inr (omega (arith, low))
    ]

out_meets : (core : ℕ) (o : Option TextRow) (line : List ℕ) (x : ℕ) → ((row : TextRow) → o ≡ Some row → IsText line core row) → 4000 ≤ x → AreApart (block core x) (out_spot core o)
    → list_any (meets x 1) (swap_of_text (shared_in line core o)) ≡ false
out_meets core None line x i l a = refl
out_meets core (Some t) line x i l (inl a) = let low = (i t refl).out.0 in alone (meets x 1) (record { at = t.block; size = blocks t.clicks }) (no_meets x 1 (record { at = t.block; size = blocks t.clicks }) (inl (omega (arith, low))))
out_meets core (Some t) line x i l (inr a) = let low = (i t refl).out.0 in alone (meets x 1) (record { at = t.block; size = blocks t.clicks }) (no_meets x 1 (record { at = t.block; size = blocks t.clicks }) (inr (omega (arith, low))))

swap_clear : (v : Stock) (c m : ℕ) → IsSound v → 4000 ≤ c → is_clear (swap_taken (kept_of v)) m c ≡ true → (p : Owner)
    → AreApart (record { at = swap_at v.core c; size = 512 * m }) (spot v p)
swap_clear v c m h l e (RowOf s) =
    let k : Kept = kept_of v in
    let parts = any_front (meets c m) (flat_map swap_of k.slots) (flat_map swap_of_text k.texts) (clear_none (swap_taken k) m c e) in
    let one : list_any (meets c m) (swap_of (keeping k s)) ≡ false = any_each (meets c m) swap_of k.slots Nothing refl parts.0 s in
    let r : Row = row_at v.rows s in
    swap_apart v.core r.state (16 + r.data_size + r.stack_size) c m (inside_of v.line v.core r.state r.data_size r.stack_size (h.rows s)) l
    (sym (ap (list_any (meets c m)) (ap swap_of (slot_at v s) ∙ swap_is v.line v.core (text_for v.line v.core v.texts r.text) r.state r.data_size r.stack_size (h.rows s))) ∙ one)
swap_clear v c m h l e (OutOf t) =
    let k : Kept = kept_of v in
    let parts = any_front (meets c m) (flat_map swap_of k.slots) (flat_map swap_of_text k.texts) (clear_none (swap_taken k) m c e) in
    let one : list_any (meets c m) (swap_of_text (shared k t)) ≡ false = any_each (meets c m) swap_of_text k.texts None refl parts.1 t in
    out_apart v.core (text_at v.texts t) v.line c m (h.texts t) l (sym (ap (λ o. list_any (meets c m) (swap_of_text o)) (shared_at v t)) ∙ one)
swap_clear v c m h l e (InOf t) = by (text_at v.texts t) (h.texts t)
  where
    by : (o : Option TextRow) → ((row : TextRow) → o ≡ Some row → IsText v.line v.core row) → AreApart (record { at = swap_at v.core c; size = 512 * m }) (in_spot o)
    by None i = inr (omega arith)
    by (Some row) i = at (row.loaded == 0) refl
      where
        at : (z : Bool) → (row.loaded == 0) ≡ z → AreApart (record { at = swap_at v.core c; size = 512 * m }) (cond z no_spot (record { at = 64 * (row.at - 1); size = 64 * row.clicks }))
        at true z = inr (omega arith)
        at false z = let j = (i row refl).within (eqb-false row.loaded 0 z) in let a = j.0 in let b = j.1 in inr (omega (arith, a, b))

clear_swap : (v : Stock) (x : ℕ) → IsSound v → 4000 ≤ x → ((p : Owner) → AreApart (block v.core x) (spot v p)) → is_clear (swap_taken (kept_of v)) 1 x ≡ true
clear_swap v x h l each =
    let k : Kept = kept_of v in
    none_clear (swap_taken k) 1 x (any_both (meets x 1) (flat_map swap_of k.slots) (flat_map swap_of_text k.texts)
    (each_any (meets x 1) swap_of k.slots Nothing row)
    (each_any (meets x 1) swap_of_text k.texts None text))
  where
    row : (s : ℕ) → list_any (meets x 1) (swap_of (keeping (kept_of v) s)) ≡ false
    row s =
        let r : Row = row_at v.rows s in
        ap (list_any (meets x 1)) (ap swap_of (slot_at v s) ∙ swap_is v.line v.core (text_for v.line v.core v.texts r.text) r.state r.data_size r.stack_size (h.rows s))
        ∙ swap_meets v.core r.state (16 + r.data_size + r.stack_size) x (inside_of v.line v.core r.state r.data_size r.stack_size (h.rows s)) l (each (RowOf s))

    text : (t : ℕ) → list_any (meets x 1) (swap_of_text (shared (kept_of v) t)) ≡ false
    text t = ap (λ o. list_any (meets x 1) (swap_of_text o)) (shared_at v t) ∙ out_meets v.core (text_at v.texts t) v.line x (h.texts t) l (each (OutOf t))

-- what first fit finds
pub record IsFound (v : Stock) (at size first last c m : ℕ) : Type 0 where
  pub low : first ≤ c
  pub high : c + m ≤ last + 1
  pub free : (p : Owner) → AreApart (record { at = at; size = size }) (spot v p)

first_of : (taken : List Range) (first last m c : ℕ) (o : Option ℕ) → IsFit taken first last m o → o ≡ Some c → IsFirst taken first last m c
first_of taken first last m c None f e = absurd (cc e)
first_of taken first last m c (Some x) f e = let same : x ≡ c = cc e in subst (IsFirst taken first last m) same f

pub core_found : (v : Stock) (c m : ℕ) → IsSound v → core_fit (kept_of v) m ≡ Some c → IsFound v (64 * (c - 1)) (64 * m) 1 v.core c m
unfolding core_fit kept_of
core_found v c m h e =
    let f : IsFirst (core_taken (kept_of v)) 1 v.core m c = first_of (core_taken (kept_of v)) 1 v.core m c (first_fit (core_taken (kept_of v)) 1 v.core m) (is_fit (core_taken (kept_of v)) 1 v.core m) e in
    record { low = f.after; high = f.within; free = core_clear v c m h f.after f.within f.clear }

pub swap_found : (v : Stock) (c m : ℕ) → IsSound v → swap_fit (kept_of v) m ≡ Some c → IsFound v (swap_at v.core c) (512 * m) 4000 4871 c m
unfolding swap_fit
swap_found v c m h e =
    let f : IsFirst (swap_taken (kept_of v)) 4000 4871 m c = first_of (swap_taken (kept_of v)) 4000 4871 m c (first_fit (swap_taken (kept_of v)) 4000 4871 m) (is_fit (swap_taken (kept_of v)) 4000 4871 m) e in
    record { low = f.after; high = f.within; free = swap_clear v c m h f.after f.clear }

-- no range is empty
positive_both : (xs ys : List Range) → ArePositive xs → ArePositive ys → ArePositive (xs ++ ys)
positive_both [] ys p q = q
positive_both (x ∷ xs) ys p q = (p.0, positive_both xs ys p.1 q)

positive_each : {X : Type 0} (f : X → List Range) (xs : List X) (d : X) → ((i : ℕ) → ArePositive (f (get_or xs i d))) → ArePositive (flat_map f xs)
positive_each f [] d h = tt
positive_each f (x ∷ xs) d h = positive_both (f x) (flat_map f xs) (h zero) (positive_each f xs d (λ i. h (suc i)))

core_positive : (st : State) (n : ℕ) → 0 < n → ArePositive (core_by st n)
core_positive state.Nothing n p = tt
core_positive (state.Alive (Core c)) n p = (p, tt)
core_positive (state.Alive (Swap b)) n p = tt
core_positive (state.Grave b) n p = tt

swap_positive : (st : State) (n : ℕ) → 0 < n → ArePositive (swap_by st n)
swap_positive state.Nothing n p = tt
swap_positive (state.Alive (Core c)) n p = tt
swap_positive (state.Alive (Swap b)) n p = (omega arith, tt)
swap_positive (state.Grave b) n p = (omega arith, tt)

pub taken_positive : (v : Stock) → IsSound v → ArePositive (core_taken (kept_of v)) × ArePositive (swap_taken (kept_of v))
taken_positive v h = (
  positive_both (flat_map core_of (kept_of v).slots) (flat_map core_of_text (kept_of v).texts) (positive_each core_of (kept_of v).slots Nothing core_row) (positive_each core_of_text (kept_of v).texts None core_text),
  positive_both (flat_map swap_of (kept_of v).slots) (flat_map swap_of_text (kept_of v).texts) (positive_each swap_of (kept_of v).slots Nothing swap_row) (positive_each swap_of_text (kept_of v).texts None swap_text),
)
  where
    core_row : (s : ℕ) → ArePositive (core_of (keeping (kept_of v) s))
    core_row s = let r : Row = row_at v.rows s in
        subst ArePositive (sym (ap core_of (slot_at v s) ∙ core_is v.line v.core (text_for v.line v.core v.texts r.text) r.state r.data_size r.stack_size (h.rows s)))
        (core_positive r.state (16 + r.data_size + r.stack_size) (omega arith))

    swap_row : (s : ℕ) → ArePositive (swap_of (keeping (kept_of v) s))
    swap_row s = let r : Row = row_at v.rows s in
        subst ArePositive (sym (ap swap_of (slot_at v s) ∙ swap_is v.line v.core (text_for v.line v.core v.texts r.text) r.state r.data_size r.stack_size (h.rows s)))
        (swap_positive r.state (16 + r.data_size + r.stack_size) (omega arith))

    in_positive : (z : Bool) (t : TextRow) → 0 < t.clicks → ArePositive (cond z [] (range t.at t.clicks))
    in_positive true t p = tt
    in_positive false t p = (p, tt)

    core_text_by : (o : Option TextRow) → ((row : TextRow) → o ≡ Some row → IsText v.line v.core row) → ArePositive (core_of_text (shared_in v.line v.core o))
    core_text_by None i = tt
    core_text_by (Some t) i = in_positive (t.loaded == 0) t (i t refl).some

    swap_text_by : (o : Option TextRow) → ((row : TextRow) → o ≡ Some row → IsText v.line v.core row) → ArePositive (swap_of_text (shared_in v.line v.core o))
    swap_text_by None i = tt
    swap_text_by (Some t) i = let p = (i t refl).some in (omega (arith, p), tt)

    core_text : (t : ℕ) → ArePositive (core_of_text (shared (kept_of v) t))
    core_text t = subst (λ o. ArePositive (core_of_text o)) (sym (shared_at v t)) (core_text_by (text_at v.texts t) (h.texts t))

    swap_text : (t : ℕ) → ArePositive (swap_of_text (shared (kept_of v) t))
    swap_text t = subst (λ o. ArePositive (swap_of_text o)) (sym (shared_at v t)) (swap_text_by (text_at v.texts t) (h.texts t))

same_bool : (a b : Bool) → (a ≡ true → b ≡ true) → (b ≡ true → a ≡ true) → a ≡ b
same_bool true true f g = refl
same_bool true false f g = sym (f refl)
same_bool false true f g = g refl
same_bool false false f g = refl

three : (first last x : ℕ) (b : Bool) → (nat_le first x && (nat_le x last && b)) ≡ true → (first ≤ x) × (x ≤ last) × (b ≡ true)
three first last x b e =
    let f = and_parts (nat_le first x) (nat_le x last && b) e in
    let g = and_parts (nat_le x last) b f.1 in
    (leb-true first x f.0, leb-true x last g.0, g.1)

of_three : (first last x : ℕ) (b : Bool) → first ≤ x → x ≤ last → b ≡ true → (nat_le first x && (nat_le x last && b)) ≡ true
of_three first last x b l m e = and_from (nat_le first x) (nat_le x last && b) (le-leb first x l) (and_from (nat_le x last) b (le-leb x last m) e)

-- The maps are maps of what is taken, so that what they give is first fit.
pub core_map_is : (v : Stock) (core_map swap_map : List Hole) → IsSound v → AreMaps v core_map swap_map → IsMap core_map (core_taken (kept_of v)) 1 v.core
core_map_is v core_map swap_map h maps = record {
  positive = (taken_positive v h).0;
  free = λ x. same_bool (is_free core_map x) (nat_le 1 x && (nat_le x v.core && is_clear (core_taken (kept_of v)) 1 x))
      (λ e. let f = (maps.core x).0 e in of_three 1 v.core x (is_clear (core_taken (kept_of v)) 1 x) f.0 f.1 (clear_core v x h f.0 f.2))
      (λ e. let f = three 1 v.core x (is_clear (core_taken (kept_of v)) 1 x) e in
      let w = f.1 in
      (maps.core x).1 (f.0, f.1, core_clear v x 1 h f.0 (omega (arith, w)) f.2));
}

pub swap_map_is : (v : Stock) (core_map swap_map : List Hole) → IsSound v → AreMaps v core_map swap_map → IsMap swap_map (swap_taken (kept_of v)) 4000 4871
swap_map_is v core_map swap_map h maps = record {
  positive = (taken_positive v h).1;
  free = λ x. same_bool (is_free swap_map x) (nat_le 4000 x && (nat_le x 4871 && is_clear (swap_taken (kept_of v)) 1 x))
      (λ e. let f = (maps.swap x).0 e in of_three 4000 4871 x (is_clear (swap_taken (kept_of v)) 1 x) f.0 f.1 (clear_swap v x h f.0 f.2))
      (λ e. let f = three 4000 4871 x (is_clear (swap_taken (kept_of v)) 1 x) e in
      (maps.swap x).1 (f.0, f.1, swap_clear v x 1 h f.0 f.2));
}
