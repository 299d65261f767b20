-- A slot gets a copy of another slot's image, and shares its text.
use Rattle.std.proofs.Common.{◌≡◌, ℕ, ◌+◌, ◌*◌, ◌<◌, ◌&&◌, ◌||◌, not, List, length, set, Bool, true, false, Option, Some, None, refl, sym, ap, subst, ◌∙◌, arith}
use Rattle.std.proofs.lemmas.Bool.{eq-eqb}
use Rattle.std.proofs.lemmas.List.{length-map, length-set}
use Rattle.std.proofs.lemmas.Option.{none-some}
use Rattle.v6_base.specs.declared.entry.Place.{Place}
use Rattle.v6_base.specs.declared.entry.Place.TheVariants.{Core, Swap}
use Rattle.core_mem.specs.Bytes.{part, over}
use Rattle.text_tab.specs.declared.row.TextRow.{TextRow}
use Rattle.text_tab.specs.Table.{row_at as text_row, IsUsed}
use Rattle.map_fit.specs.declared.holes.Hole.{Hole}
use Rattle.map_fit.specs.Free.{is_free}
use Rattle.image_keep.specs.declared.row.State.{State}
use Rattle.image_keep.specs.declared.row.State.TheVariants as state
use Rattle.image_keep.specs.declared.row.Row.{Row}
use Rattle.image_keep.specs.Kept.{Keeping, Nothing, Alive, Kept, HasImage, keeping, with_keeping, with_text_of, text_of, text_clicks, shared, changed, at_place, area_in, image_in, area_of, image_of}
use Rattle.image_keep.specs.Memory.{Stock, row_at, at_row, place_at, clicks_in, no_spot, spot_by, row_spot, RowOf, spot, AreApart, text_for, keeping_by, keeping_in, kept_of, IsSound}
use Rattle.image_keep.specs.Places.{placed}
use Rattle.image_keep.specs.Maps.{AreMaps, core_units, swap_units}
use Rattle.image_keep.specs.Finding.{found_core, found_swap}
use Rattle.image_keep.specs.Moves.{forked_row, forked_entries, forked_texts, forked_at}
use Rattle.image_keep.specs.Counts.{IsCounted, is_text, is_in_core, has_text, has_loaded}
use Rattle.image_keep.specs.Told.{IsTold, AreTold}
use Rattle.image_keep.proofs.Writes.{put_row, apart_none}
use Rattle.image_keep.proofs.Places.{slot_at}
use Rattle.image_keep.proofs.SwapIn.{text_of_row}
use Rattle.image_keep.proofs.Moves.{moved_line}
use Rattle.image_keep.proofs.Maps.{maps_put}
use Rattle.image_keep.proofs.Laid.{forked}
use Rattle.image_keep.proofs.Counting.{one, counted}
use Rattle.image_keep.proofs.Facts.{Facts}
use Rattle.image_keep.proofs.AreaSet.{at_place_of}
use Rattle.image_keep.proofs.Found.{PlaceFound, place_found}
use Rattle.image_keep.proofs.Recounting.{Recounted, text_forked, entry_counted}
use Rattle.image_keep.proofs.Told.{told_user, told_alive, told_shared, clicks_changed}

-- a slot that keeps nothing has a row without an image
pub nothing_state : (line : List ℕ) (core : ℕ) (text : List ℕ) (st : State) (d k : ℕ) → keeping_by line core text st d k ≡ Nothing → st ≡ state.Nothing
unfolding keeping_by
nothing_state line core text state.Nothing d k e = refl
nothing_state line core text (state.Alive place) d k e = absurd (cc e)
nothing_state line core text (state.Grave b) d k e = absurd (cc e)

pub nothing_row_is : (v : Stock) (k : Kept) (s : ℕ) → kept_of v ≡ k → keeping k s ≡ Nothing → (row_at v.rows s).state ≡ state.Nothing
nothing_row_is v k s view none =
    let r : Row = row_at v.rows s in
    nothing_state v.line v.core (text_for v.line v.core v.texts r.text) r.state r.data_size r.stack_size (sym (slot_at v s) ∙ ap (λ j. keeping j s) view ∙ none)

pub text_none : (v : Stock) (k : Kept) (s : ℕ) (x : Option ℕ) → kept_of v ≡ k → text_of k s ≡ x → (row_at v.rows s).text ≡ x
text_none v k s x view is = sym (text_of_row v s) ∙ ap (λ j. text_of j s) view ∙ is

-- a row without a text, before and after: no count changes
pub bare_counted : (rows : List Row) (texts : List (Option TextRow)) (s : ℕ) (row : Row) → s < length rows → IsCounted rows texts → (row_at rows s).text ≡ None → row.text ≡ None → IsCounted (set rows s row) texts
bare_counted rows texts s row l c old new = counted rows texts texts s row l c (record {
  used = λ t e. absurd (none-some t (sym new ∙ e));
  stays = λ u t ne e f. f;
  was = λ t other e. (
    other,
    e,
    ap (λ x. other.users + one (is_text t x)) (old ∙ sym new),
    ap (λ b. other.loaded + one b) (gone (is_in_core (row_at rows s).state) (is_text t (row_at rows s).text) (ap (is_text t) old) ∙ sym (gone (is_in_core row.state) (is_text t row.text) (ap (is_text t) new))),
  );
})
  where
    gone : (x y : Bool) → y ≡ false → (x && y) ≡ false
    gone true y e = e
    gone false y e = refl

-- a row with the same text, in core before and after, or out of core: no count changes
pub same_counted : (rows : List Row) (texts : List (Option TextRow)) (s : ℕ) (row : Row) → s < length rows → IsCounted rows texts → row.text ≡ (row_at rows s).text → row.state ≡ (row_at rows s).state → IsCounted (set rows s row) texts
same_counted rows texts s row l c text st = counted rows texts texts s row l c (record {
  used = λ t e. c.used s t (sym text ∙ e);
  stays = λ u t ne e f. f;
  was = λ t other e. (
    other,
    e,
    ap (λ x. other.users + one (is_text t x)) (sym text),
    ap (λ x. other.loaded + one (is_in_core (row_at rows s).state && is_text t x)) (sym text) ∙ ap (λ x. other.loaded + one (is_in_core x && is_text t row.text)) (sym st),
  );
})

forked_counted : (v : Stock) (to : ℕ) (r : Row) (q : Place) (x : Option ℕ) → to < length v.rows → IsCounted v.rows v.texts → r.text ≡ x → ((t : ℕ) → x ≡ Some t → IsUsed v.texts t) → (row_at v.rows to).text ≡ None
    → IsCounted (set v.rows to (at_row r q)) (forked_entries v.texts x q)
forked_counted v to r q None l c is used bare = bare_counted v.rows v.texts to (at_row r q) l c bare is
forked_counted v to r q (Some t) l c is used bare =
    let a : has_text t (row_at v.rows to) ≡ false = ap (is_text t) bare in
    let b : has_text t (at_row r q) ≡ true = ap (is_text t) is ∙ eq-eqb t t refl in
    let d : has_loaded t (row_at v.rows to) ≡ false = gone (is_in_core (row_at v.rows to).state) (is_text t (row_at v.rows to).text) a in
    let e : has_loaded t (at_row r q) ≡ is_in_core (state.Alive q) = with_true (is_in_core (state.Alive q)) (is_text t r.text) b in
    entry_counted v.rows v.texts to t (at_row r q) (forked_row q) l c (used t refl) is (λ u ne. ap (is_text u) bare)
    (users q ∙ ap (λ z. (text_row v.texts t).users + one z) (sym b) ∙ refl) (loaded q)
  where
    gone : (x y : Bool) → y ≡ false → (x && y) ≡ false
    gone true y e = e
    gone false y e = refl

    with_true : (x y : Bool) → y ≡ true → (x && y) ≡ x
    with_true true y e = e
    with_true false y e = refl

    none : one (has_text t (row_at v.rows to)) ≡ 0
    none = ap one (ap (is_text t) bare)

    none_loaded : one (has_loaded t (row_at v.rows to)) ≡ 0
    none_loaded = ap one (gone (is_in_core (row_at v.rows to).state) (is_text t (row_at v.rows to).text) (ap (is_text t) bare))

    users : (p : Place) → (forked_row p (text_row v.texts t)).users + one (has_text t (row_at v.rows to)) ≡ (text_row v.texts t).users + 1
    users (Core c) = let n = none in omega (arith, n)
    users (Swap b) = let n = none in omega (arith, n)

    loaded : (p : Place) → (forked_row p (text_row v.texts t)).loaded + one (has_loaded t (row_at v.rows to)) ≡ (text_row v.texts t).loaded + one (has_loaded t (at_row r p))
    loaded (Core c) = let n = none_loaded in let y : one (has_loaded t (at_row r (Core c))) ≡ 1 = ap one (ap (is_text t) is ∙ eq-eqb t t refl) in omega (arith, n, y)
    loaded (Swap b) = let n = none_loaded in omega (arith, n)

-- what is kept of a text that a child shares has as many clicks
forked_clicks : (q : Place) (row : TextRow) → (forked_row q row).clicks ≡ row.clicks
forked_clicks (Core c) row = refl
forked_clicks (Swap b) row = refl

told_forked : (k : Kept) (from to : ℕ) (q : Place) → HasImage k from → to < length k.slots → to < length k.users → AreTold k → AreTold (forked_at k from to (Some q))
told_forked k from to q has low seat told = by (text_of k from) refl
  where
    child : (clicks : ℕ) (text user : Option ℕ) → IsTold clicks user (keeping k from) → IsTold clicks text (Alive (record { u = area_of k from; image = image_of k from; place = q }))
    child clicks text user t = subst (λ y. IsTold clicks text (Alive (record { u = area_in y; image = image_in y; place = q }))) (sym has.1)
        (told_alive clicks text (record has.0 { place = q }) (t.text_size has.0 has.1) (t.segments has.0 has.1))

    by : (x : Option ℕ) → text_of k from ≡ x
        → AreTold (with_text_of (with_keeping (forked_texts k x q) to (Alive (record { u = area_of k from; image = image_of k from; place = q }))) to x)
    by None e = told_user k to (Alive (record { u = area_of k from; image = image_of k from; place = q })) None low seat told
        (child 0 None None (subst (λ o. IsTold (text_clicks k o) o (keeping k from)) e (told from)))
    by (Some t) e =
        let k1 : Kept = forked_texts k (Some t) q in
        let one_more : AreTold k1 = told_shared k t (changed (forked_row q) (shared k t)) (clicks_changed (forked_row q) (forked_clicks q) (shared k t)) told in
        told_user k1 to (Alive (record { u = area_of k from; image = image_of k from; place = q })) (Some t) low seat one_more
        (child (text_clicks k1 (Some t)) (Some t) (Some t) (subst (λ o. IsTold (text_clicks k1 o) o (keeping k from)) e (one_more from)))

-- what holds of the memory when it keeps this
pub record Stands (now : Stock) (core_map swap_map : List Hole) (k : Kept) : Type 0 where
  pub sound : IsSound now
  pub maps : AreMaps now core_map swap_map
  pub counted : IsCounted now.rows now.texts
  pub kept : kept_of now ≡ k
  pub told : AreTold (kept_of now)

long_kept : (v : Stock) → (length (kept_of v).slots ≡ length v.rows) × (length (kept_of v).users ≡ length v.rows)
unfolding kept_of
long_kept v = (length-map v.rows (keeping_in v.line v.core v.texts), length-map v.rows (λ (r : Row). r.text))

at_image : (k : Kept) (s : ℕ) (q : Place) → HasImage k s → at_place q (keeping k s) ≡ Alive (record { u = area_of k s; image = image_of k s; place = q })
at_image k s q has = subst (λ y. at_place q y ≡ Alive (record { u = area_in y; image = image_in y; place = q })) (sym has.1) refl

pub taking : (a b : Bool) → (a && not b) ≡ ((a && not b) || false)
taking true true = refl
taking true false = refl
taking false b = refl

pub forks : (v : Stock) (k : Kept) (from to n a b : ℕ) (p q : Place) (core_map swap_map core_new swap_new : List Hole) (row : Row) (line : List ℕ) (texts : List (Option TextRow)) (rows : List Row)
    → kept_of v ≡ k → IsSound v → AreMaps v core_map swap_map → IsCounted v.rows v.texts → AreTold (kept_of v) → to < length v.rows → HasImage k from → keeping k to ≡ Nothing → text_of k to ≡ None
    → row ≡ row_at v.rows from → row.state ≡ state.Alive p → n ≡ clicks_in row → placed k from n ≡ Some q → 64 * a ≡ place_at v.core p → 64 * b ≡ place_at v.core q
    → ((x : ℕ) → is_free core_new x ≡ (is_free core_map x && not (found_core (Some q) n x)))
    → ((x : ℕ) → is_free swap_new x ≡ (is_free swap_map x && not (found_swap (Some q) n x)))
    → line ≡ over v.line (64 * b) (part v.line (64 * a) (64 * n)) → texts ≡ forked_entries v.texts row.text q → rows ≡ set v.rows to (at_row row q)
    → Stands (record { line = line; core = v.core; rows = rows; texts = texts }) core_new swap_new (forked_at k from to (Some q))
forks v k from to n a b p q core_map swap_map core_new swap_new row line texts rows view h maps c told low has none bare at is size fit f t step_core step_swap line_is texts_is rows_is =
    let r : Row = row_at v.rows from in
    let z : n ≡ clicks_in r = size ∙ ap clicks_in at in
    let g : Facts v from p = at_place_of v k from row p view h c has at is in
    let found : PlaceFound v from (clicks_in r) q = place_found v k from (clicks_in r) q view h (ap (placed k from) (sym z) ∙ fit) in
    let empty : (row_at v.rows to).state ≡ state.Nothing = nothing_row_is v k to view none in
    let untexted : (row_at v.rows to).text ≡ None = text_none v k to None view bare in
    let one_is = forked v from to p q h low g.is found.inside (λ o ne. found.free o) in
    let v1 : Stock = put_row v to (at_row r q) (moved_line v r p q) in
    let own : spot v (RowOf to) ≡ no_spot = ap (λ st. spot_by v.core st (clicks_in (row_at v.rows to))) empty in
    let no_core : (x : ℕ) → core_units (row_at v.rows to).state (clicks_in (row_at v.rows to)) x ≡ false = λ x. ap (λ st. core_units st (clicks_in (row_at v.rows to)) x) empty in
    let no_swap : (x : ℕ) → swap_units (row_at v.rows to).state (clicks_in (row_at v.rows to)) x ≡ false = λ x. ap (λ st. swap_units st (clicks_in (row_at v.rows to)) x) empty in
    let maps1 : AreMaps v1 core_new swap_new = maps_put v to (at_row r q) (moved_line v r p q) core_map swap_map core_new swap_new h low maps found.inside
    (subst (λ x. AreApart x (row_spot v.core (at_row r q))) (sym own) (apart_none (row_spot v.core (at_row r q))))
    (λ x. step_core x ∙ ap (λ i. is_free core_map x && not (core_units (state.Alive q) i x)) z ∙ taking (is_free core_map x) (core_units (state.Alive q) (clicks_in r) x) ∙ ap (λ y. (is_free core_map x && not (core_units (state.Alive q) (clicks_in r) x)) || y) (sym (no_core x)))
    (λ x. step_swap x ∙ ap (λ i. is_free swap_map x && not (swap_units (state.Alive q) i x)) z ∙ taking (is_free swap_map x) (swap_units (state.Alive q) (clicks_in r) x) ∙ ap (λ y. (is_free swap_map x && not (swap_units (state.Alive q) (clicks_in r) x)) || y) (sym (no_swap x))) in
    let two : Recounted v1 (record v1 { texts = forked_entries v1.texts r.text q }) core_new swap_new (forked_texts (kept_of v1) r.text q) =
    text_forked v1 r.text q core_new swap_new one_is.0 maps1 (λ t e. g.used t e) (λ i t e d. (let m = found.loaded i t e d in λ j. omega (arith, j, m))) in
    let line2 : line ≡ moved_line v r p q = line_is ∙ ap (λ i. over v.line i (part v.line (64 * a) (64 * n))) t ∙ ap (λ i. over v.line (place_at v.core q) (part v.line i (64 * n))) f ∙ ap (λ i. over v.line (place_at v.core q) (part v.line (place_at v.core p) (64 * i))) z in
    let texts2 : texts ≡ forked_entries v.texts r.text q = texts_is ∙ ap (λ (i : Row). forked_entries v.texts i.text q) at in
    let rows2 : rows ≡ set v.rows to (at_row r q) = rows_is ∙ ap (λ i. set v.rows to (at_row i q)) at in
    let now : Stock = record v1 { texts = forked_entries v1.texts r.text q } in
    let same : (let x : Stock = record { line = line; core = v.core; rows = rows; texts = texts } in x) ≡ now = cc in
    let kept : kept_of now ≡ forked_at k from to (Some q) =
    two.kept ∙ ap (λ j. forked_texts j r.text q) one_is.1
    ∙ order (kept_of v) r.text q to (at_place q (keeping (kept_of v) from)) r.text
    ∙ ap (λ x. with_text_of (with_keeping (forked_texts (kept_of v) x q) to (at_place q (keeping (kept_of v) from))) to x) (sym (text_of_row v from))
    ∙ ap (λ j. with_text_of (with_keeping (forked_texts j (text_of j from) q) to (at_place q (keeping j from))) to (text_of j from)) view
    ∙ ap (λ x. with_text_of (with_keeping (forked_texts k (text_of k from) q) to x) to (text_of k from)) (at_image k from q has) in
    let wide = long_kept v in
    let good : Stands now core_new swap_new (forked_at k from to (Some q)) = record {
      sound = two.sound;
      maps = two.maps;
      counted = forked_counted v to r q r.text low c refl g.used untexted;
      kept = kept;
      told = subst AreTold (sym kept) (told_forked k from to q has (subst (λ j. to < length j.slots) view (subst (λ i. to < i) (sym wide.0) low)) (subst (λ j. to < length j.users) view (subst (λ i. to < i) (sym wide.1) low)) (subst AreTold view told));
    } in
    subst (λ x. Stands x core_new swap_new (forked_at k from to (Some q))) (sym same) good
  where
    order : (j : Kept) (x : Option ℕ) (place : Place) (s : ℕ) (y : Keeping) (user : Option ℕ) → forked_texts (with_text_of (with_keeping j s y) s user) x place ≡ with_text_of (with_keeping (forked_texts j x place) s y) s user
    order j None place s y user = refl
    order j (Some t) place s y user = refl

pub forked_long : (texts : List (Option TextRow)) (x : Option ℕ) (place : Place) → length (forked_entries texts x place) ≡ length texts
forked_long texts None place = refl
forked_long texts (Some t) place = length-set texts t (Some (forked_row place (text_row texts t)))
