-- What a write to one range leaves.
use Rattle.std.proofs.Common.{◌≡◌, ◌≢◌, ℕ, ◌+◌, ◌-◌, ◌*◌, ◌<◌, ◌≤◌, ◌⊎◌, inl, inr, List, [], ◌∷◌, length, take, drop, map, get_or, set, zero, suc, Option, Some, None, refl, sym, ap, subst, ◌∙◌, arith}
use Rattle.std.proofs.lemmas.Bool.{cases_eq, ne_eqb}
use Rattle.std.proofs.lemmas.List.{get_or-set_same, get_or-set_other, length-set}
use Rattle.v6_base.specs.declared.entry.Place.{Place}
use Rattle.v6_base.specs.declared.entry.Place.TheVariants.{Core, Swap}
use Rattle.core_mem.specs.Bytes.{part, over}
use Rattle.core_mem.proofs.Parts.{part_below, part_above, take-over, drop-over, length-over}
use Rattle.u_area.specs.Area.{fetched, widened}
use Rattle.text_tab.specs.declared.row.TextRow.{TextRow}
use Rattle.text_tab.specs.Table.{text_at}
use Rattle.image_keep.specs.declared.row.State.{State}
use Rattle.image_keep.specs.declared.row.State.TheVariants as state
use Rattle.image_keep.specs.declared.row.Row.{Row}
use Rattle.image_keep.specs.Kept.{Keeping, Alive, Grave, Shared, Kept, with_keeping}
use Rattle.image_keep.specs.Memory.{Stock, no_row, row_at, swap_at, place_at, place_size, Spot, no_spot, spot_by, row_spot, out_spot, in_spot, Owner, RowOf, OutOf, InOf, spot, AreApart, text_in, text_for, image_by, keeping_by, keeping_in, shared_in, kept_of, IsAlive, IsGrave, HoldsBy, Holds, IsText, IsSound}
use Rattle.image_keep.specs.Places.{blocks}

-- all is as it was below a and from e on
pub record Wrote (line new : List ℕ) (a e : ℕ) : Type 0 where
  pub below : take a new ≡ take a line
  pub above : drop e new ≡ drop e line
  pub size : length new ≡ length line

pub wrote_over : (line : List ℕ) (a e : ℕ) (ys : List ℕ) → a + length ys ≤ length line → a + length ys ≤ e → Wrote line (over line a ys) a e
wrote_over line a e ys fits l = record {
  below = take-over line a ys a (omega arith) fits;
  above = drop-over line a ys e l fits;
  size = length-over line a ys fits;
}

pub wrote_none : (line : List ℕ) (a e : ℕ) → Wrote line line a e
wrote_none line a e = record { below = refl; above = refl; size = refl }

abbrev pub IsOff : Spot → ℕ → ℕ → Type 0
IsOff p a e = (p.at + p.size ≤ a) ⊎ (e ≤ p.at)

pub part_off : (line new : List ℕ) (a e at size n : ℕ) → Wrote line new a e → IsOff (record { at = at; size = size }) a e → n ≤ size → part new at n ≡ part line at n
part_off line new a e at size n w (inl l) m = part_below new line a at n w.below (omega arith)
part_off line new a e at size n w (inr l) m = part_above new line e at n w.above l

fits_place : (place : Place) (n : ℕ) → 64 * n ≤ place_size place n
fits_place (Core click) n = omega arith
fits_place (Swap block) n = omega arith

-- the meaning of a row outside of what is written
pub keeping_off : (line new : List ℕ) (core a e : ℕ) (text : List ℕ) (st : State) (d k : ℕ) → Wrote line new a e → IsOff (spot_by core st (16 + d + k)) a e
    → keeping_by new core text st d k ≡ keeping_by line core text st d k
unfolding keeping_by
keeping_off line new core a e text state.Nothing d k w off = refl
keeping_off line new core a e text (state.Alive place) d k w off =
    let same : part new (place_at core place) (64 * (16 + d + k)) ≡ part line (place_at core place) (64 * (16 + d + k)) =
    part_off line new a e (place_at core place) (place_size place (16 + d + k)) (64 * (16 + d + k)) w off (fits_place place (16 + d + k)) in
    ap (λ bytes. Alive (record { u = fetched (part bytes 0 1024); image = image_by bytes d k text; place = place })) same
keeping_off line new core a e text (state.Grave block) d k w off =
    ap (λ bytes. Grave (fetched (widened bytes)) block) (part_off line new a e (swap_at core block) 512 512 w off (omega arith))

pub text_off : (line new : List ℕ) (core a e : ℕ) (o : Option TextRow) → Wrote line new a e → IsOff (out_spot core o) a e → text_in new core o ≡ text_in line core o
unfolding text_in
text_off line new core a e None w off = refl
text_off line new core a e (Some t) w off = part_off line new a e (swap_at core t.block) (512 * blocks t.clicks) (64 * t.clicks) w off (omega arith)

pub text_for_off : (line new : List ℕ) (core a e : ℕ) (texts : List (Option TextRow)) (o : Option ℕ) → Wrote line new a e → ((t : ℕ) → IsOff (out_spot core (text_at texts t)) a e)
    → text_for new core texts o ≡ text_for line core texts o
unfolding text_for
text_for_off line new core a e texts None w off = refl
text_for_off line new core a e texts (Some t) w off = text_off line new core a e (text_at texts t) w (off t)

pub shared_off : (line new : List ℕ) (core a e : ℕ) (o : Option TextRow) → Wrote line new a e → IsOff (out_spot core o) a e → shared_in new core o ≡ shared_in line core o
shared_off line new core a e None w off = refl
shared_off line new core a e (Some t) w off = ap (λ bytes. Some (record { row = t; bytes = bytes })) (text_off line new core a e (Some t) w off)

pub row_off : (line new : List ℕ) (core a e : ℕ) (texts : List (Option TextRow)) (row : Row) → Wrote line new a e → IsOff (row_spot core row) a e
    → ((t : ℕ) → IsOff (out_spot core (text_at texts t)) a e) → keeping_in new core texts row ≡ keeping_in line core texts row
row_off line new core a e texts row w off offs =
    ap (λ text. keeping_by new core text row.state row.data_size row.stack_size) (text_for_off line new core a e texts row.text w offs)
    ∙ keeping_off line new core a e (text_for line core texts row.text) row.state row.data_size row.stack_size w off

pub holds_off : (line new : List ℕ) (core a e : ℕ) (st : State) (d k : ℕ) → Wrote line new a e → IsOff (spot_by core st (16 + d + k)) a e → HoldsBy line core st d k → HoldsBy new core st d k
holds_off line new core a e state.Nothing d k w off h = tt
holds_off line new core a e (state.Alive place) d k w off h =
    subst (λ bytes. IsAlive bytes core d k place)
    (sym (part_off line new a e (place_at core place) (place_size place (16 + d + k)) (64 * (16 + d + k)) w off (fits_place place (16 + d + k)))) h
holds_off line new core a e (state.Grave block) d k w off h =
    subst (λ bytes. IsGrave bytes block) (sym (part_off line new a e (swap_at core block) 512 512 w off (omega arith))) h

pub in_loaded : (t : TextRow) → t.loaded ≢ 0 → in_spot (Some t) ≡ record { at = 64 * (t.at - 1); size = 64 * t.clicks }
in_loaded t ne = rw (ne_eqb t.loaded 0 ne) refl

pub is_text_off : (line new : List ℕ) (core a e : ℕ) (t : TextRow) → Wrote line new a e → IsOff (out_spot core (Some t)) a e → IsOff (in_spot (Some t)) a e → IsText line core t → IsText new core t
is_text_off line new core a e t w out off h = record {
  some = h.some;
  out = h.out;
  within = h.within;
  copy = λ ne.
      part_off line new a e (64 * (t.at - 1)) (64 * t.clicks) (64 * t.clicks) w (subst (λ p. IsOff p a e) (in_loaded t ne) off) (omega arith)
      ∙ h.copy ne
      ∙ sym (part_off line new a e (swap_at core t.block) (512 * blocks t.clicks) (64 * t.clicks) w out (omega arith));
}

-- lists of values that change at one index alone
pub same_map : {X Y : Type 0} (f g : X → Y) (xs : List X) (d : X) → ((k : ℕ) → g (get_or xs k d) ≡ f (get_or xs k d)) → map g xs ≡ map f xs
same_map f g [] d h = refl
same_map f g (x ∷ xs) d h =
    let a : g x ≡ f x = h 0 in
    let b = same_map f g xs d (λ k. h (suc k)) in
    cc

pub map_set_but : {X Y : Type 0} (f g : X → Y) (xs : List X) (d : X) (s : ℕ) (y : X) → ((k : ℕ) → k ≢ s → g (get_or xs k d) ≡ f (get_or xs k d)) → map g (set xs s y) ≡ set (map f xs) s (g y)
map_set_but f g [] d s y h = refl
map_set_but f g (x ∷ xs) d zero y h = ap (λ ys. g y ∷ ys) (same_map f g xs d (λ k. h (suc k) (λ e. omega arith)))
map_set_but f g (x ∷ xs) d (suc s) y h =
    let a : g x ≡ f x = h 0 (λ e. omega arith) in
    let b = map_set_but f g xs d s y (λ k ne. h (suc k) (λ e. ne (omega arith))) in
    cc

pub map_set_same : {X Y : Type 0} (f : X → Y) (xs : List X) (d : X) (s : ℕ) (y : X) → f y ≡ f (get_or xs s d) → map f (set xs s y) ≡ map f xs
map_set_same f [] d s y e = refl
map_set_same f (x ∷ xs) d zero y e = ap (λ z. z ∷ map f xs) e
map_set_same f (x ∷ xs) d (suc s) y e = ap (λ ys. f x ∷ ys) (map_set_same f xs d s y e)

-- who has a range
number : Owner → ℕ
number (RowOf s) = s
number (OutOf t) = t
number (InOf t) = t

pub row_numbers : (s u : ℕ) → RowOf s ≡ RowOf u → s ≡ u
unfolding number
row_numbers s u e = ap number e

pub out_numbers : (s u : ℕ) → OutOf s ≡ OutOf u → s ≡ u
unfolding number
out_numbers s u e = ap number e

pub in_numbers : (s u : ℕ) → InOf s ≡ InOf u → s ≡ u
unfolding number
in_numbers s u e = ap number e

pub same_owner : (o p : Owner) → (o ≡ p) ⊎ (o ≢ p)
same_owner (RowOf s) (RowOf u) = elim (cases_eq s u) [ inl e ↦ inl (ap RowOf e) | inr ne ↦ inr (λ e. ne (row_numbers s u e)) ]
same_owner (RowOf s) (OutOf u) = inr (λ e. cc e)
same_owner (RowOf s) (InOf u) = inr (λ e. cc e)
same_owner (OutOf s) (RowOf u) = inr (λ e. cc e)
same_owner (OutOf s) (OutOf u) = elim (cases_eq s u) [ inl e ↦ inl (ap OutOf e) | inr ne ↦ inr (λ e. ne (out_numbers s u e)) ]
same_owner (OutOf s) (InOf u) = inr (λ e. cc e)
same_owner (InOf s) (RowOf u) = inr (λ e. cc e)
same_owner (InOf s) (OutOf u) = inr (λ e. cc e)
same_owner (InOf s) (InOf u) = elim (cases_eq s u) [ inl e ↦ inl (ap InOf e) | inr ne ↦ inr (λ e. ne (in_numbers s u e)) ]

pub turned : (p q : Spot) → AreApart p q → AreApart q p
turned p q (inl l) = inr l
turned p q (inr l) = inl l

pub apart_none : (p : Spot) → AreApart no_spot p
apart_none p = inl (omega arith)

-- one owner gets another range
pub apart_changed : (f g : Owner → Spot) (o : Owner) → ((p : Owner) → p ≢ o → g p ≡ f p) → ((p : Owner) → p ≢ o → AreApart (g o) (f p))
    → ((p q : Owner) → p ≢ q → AreApart (f p) (f q)) → (p q : Owner) → p ≢ q → AreApart (g p) (g q)
apart_changed f g o same own all p q ne = elim (same_owner p o) [
  | inl e ↦
      (let n : q ≢ o = λ d. ne (e ∙ sym d) in
      subst (λ x. AreApart (g x) (g q)) (sym e) (subst (AreApart (g o)) (sym (same q n)) (own q n)))
  | inr n ↦ elim (same_owner q o) [
    | inl e ↦ subst (λ x. AreApart (g p) (g x)) (sym e) (subst (λ x. AreApart x (g o)) (sym (same p n)) (turned (g o) (f p) (own p n)))
    | inr m ↦ subst (λ x. AreApart x (g q)) (sym (same p n)) (subst (AreApart (f p)) (sym (same q m)) (all p q ne))
  ]
]

-- A row is another one, and bytes have been written to a range that nobody else has.
abbrev pub put_row : Stock → ℕ → Row → List ℕ → Stock
put_row v s row new = record v { line = new; rows = set v.rows s row }

abbrev pub IsOwn : Stock → Owner → ℕ → ℕ → Type 0
IsOwn v o a e = (p : Owner) → p ≢ o → IsOff (spot v p) a e

abbrev pub IsFreeFor : Stock → Owner → Spot → Type 0
IsFreeFor v o f = (p : Owner) → p ≢ o → AreApart f (spot v p)

pub row_same : (rows : List Row) (s : ℕ) (row : Row) → s < length rows → row_at (set rows s row) s ≡ row
row_same rows s row l = get_or-set_same rows s row no_row l

pub row_other : (rows : List Row) (s u : ℕ) (row : Row) → u ≢ s → row_at (set rows s row) u ≡ row_at rows u
row_other rows s u row ne = get_or-set_other rows s u row no_row ne

put_spot : (v : Stock) (s : ℕ) (row : Row) (new : List ℕ) (p : Owner) → p ≢ RowOf s → spot (put_row v s row new) p ≡ spot v p
put_spot v s row new (RowOf u) ne = ap (row_spot v.core) (row_other v.rows s u row (λ e. ne (ap RowOf e)))
put_spot v s row new (OutOf t) ne = refl
put_spot v s row new (InOf t) ne = refl

pub four : (a a' : List Keeping) (b b' : List (Option Shared)) (c c' : List (Option ℕ)) (n : ℕ) → a ≡ a' → b ≡ b' → c ≡ c' → (let x : Kept = record { slots = a; texts = b; users = c; core = n } in x) ≡ record { slots = a'; texts = b'; users = c'; core = n }
four a a' b b' c c' n e f g = cc

pub put_kept : (v : Stock) (s : ℕ) (row : Row) (new : List ℕ) (a e : ℕ) → Wrote v.line new a e → IsOwn v (RowOf s) a e → row.text ≡ (row_at v.rows s).text
    → kept_of (put_row v s row new) ≡ with_keeping (kept_of v) s (keeping_in new v.core v.texts row)
unfolding kept_of
put_kept v s row new a e w own same =
    four _ _ _ _ _ _ v.core
    (map_set_but (keeping_in v.line v.core v.texts) (keeping_in new v.core v.texts) v.rows no_row s row
    (λ u ne. row_off v.line new v.core a e v.texts (row_at v.rows u) w (own (RowOf u) (λ x. ne (row_numbers u s x))) (λ t. own (OutOf t) (λ x. cc x))))
    (same_map (shared_in v.line v.core) (shared_in new v.core) v.texts None (λ t. shared_off v.line new v.core a e (text_at v.texts t) w (own (OutOf t) (λ x. cc x))))
    (map_set_same (λ (r : Row). r.text) v.rows no_row s row same)

pub put_sound : (v : Stock) (s : ℕ) (row : Row) (new : List ℕ) (a e : ℕ) → IsSound v → s < length v.rows → Wrote v.line new a e → IsOwn v (RowOf s) a e
    → IsFreeFor v (RowOf s) (row_spot v.core row) → Holds new v.core row → IsSound (put_row v s row new)
put_sound v s row new a e h l w own free holds = record {
  slots = length-set v.rows s row ∙ h.slots;
  size = w.size ∙ h.size;
  least = h.least;
  most = h.most;
  rows = λ u. elim (cases_eq u s) [
    | inl here ↦ subst (λ r. Holds new v.core r) (sym (ap (row_at (set v.rows s row)) here ∙ row_same v.rows s row l)) holds
    | inr ne ↦ subst (λ r. Holds new v.core r) (sym (row_other v.rows s u row ne))
        (holds_off v.line new v.core a e (row_at v.rows u).state (row_at v.rows u).data_size (row_at v.rows u).stack_size w (own (RowOf u) (λ x. ne (row_numbers u s x))) (h.rows u))
  ];
  texts = λ t row there.
      is_text_off v.line new v.core a e row w
      (subst (λ o. IsOff (out_spot v.core o) a e) there (own (OutOf t) (λ x. cc x)))
      (subst (λ o. IsOff (in_spot o) a e) there (own (InOf t) (λ x. cc x)))
      (h.texts t row there);
  apart = apart_changed (spot v) (spot (put_row v s row new)) (RowOf s) (put_spot v s row new)
      (λ p ne. subst (λ r. AreApart (row_spot v.core r) (spot v p)) (sym (row_same v.rows s row l)) (free p ne))
      h.apart;
}
