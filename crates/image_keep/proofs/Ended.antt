-- A process ends, is waited for, or gives its image up.
use Rattle.std.proofs.Common.{◌≡◌, ℕ, ◌+◌, ◌*◌, ◌<◌, ◌≤◌, ◌&&◌, ◌||◌, not, List, length, set, Bool, true, false, Option, Some, None, refl, sym, ap, subst, ◌∙◌, arith}
use Rattle.std.proofs.lemmas.Bool.{false_from_ne_true}
use Rattle.std.proofs.lemmas.Option.{none-some}
use Rattle.v6_base.specs.declared.entry.Place.{Place}
use Rattle.core_mem.specs.Bytes.{part, over}
use Rattle.map_fit.specs.declared.holes.Hole.{Hole}
use Rattle.map_fit.specs.Fit.{Range, first_fit}
use Rattle.map_fit.specs.Free.{is_free, is_within, IsMap}
use Rattle.image_keep.specs.declared.row.State.{State}
use Rattle.image_keep.specs.declared.row.State.TheVariants as state
use Rattle.image_keep.specs.declared.row.Row.{Row}
use Rattle.image_keep.specs.Kept.{Kept, with_keeping, Nothing, Grave, HasImage, text_of, area_of}
use Rattle.image_keep.specs.Memory.{Stock, row_at, grave_row, nothing_row, swap_at, place_at, clicks_in, spot, RowOf, row_spot, kept_of, IsSound}
use Rattle.image_keep.specs.Places.{core_taken, swap_taken, swap_fit}
use Rattle.image_keep.specs.Maps.{AreMaps, InsideBy, core_units, swap_units}
use Rattle.image_keep.specs.Counts.{IsCounted, is_text, is_in_core, has_loaded}
use Rattle.image_keep.proofs.Writes.{put_row, turned, apart_none}
use Rattle.image_keep.proofs.Places.{core_map_is, swap_map_is, swap_found, IsFound, inside_of}
use Rattle.image_keep.proofs.SwapIn.{text_of_row}
use Rattle.image_keep.proofs.Maps.{maps_put, core_tells, swap_tells}
use Rattle.image_keep.proofs.Leaving.{dies, emptied}
use Rattle.image_keep.proofs.Counting.{counted}
use Rattle.image_keep.proofs.Facts.{Facts, few_taken}
use Rattle.image_keep.proofs.AreaSet.{at_place_of}

-- what a row has is not free
pub units_taken : (v : Stock) (core_map swap_map : List Hole) (s : ℕ) → IsSound v → AreMaps v core_map swap_map
    → ((x : ℕ) → core_units (row_at v.rows s).state (clicks_in (row_at v.rows s)) x ≡ true → is_free core_map x ≡ false)
    × ((x : ℕ) → swap_units (row_at v.rows s).state (clicks_in (row_at v.rows s)) x ≡ true → is_free swap_map x ≡ false)
units_taken v core_map swap_map s h maps = (
  (λ x e. false_from_ne_true (is_free core_map x) (λ f.
      let g = (maps.core x).0 f in
      (core_tells v.core (row_at v.rows s).state (clicks_in (row_at v.rows s)) x inside g.0 g.1).on e (g.2 (RowOf s)))),
  (λ x e. false_from_ne_true (is_free swap_map x) (λ f.
      let g = (maps.swap x).0 f in
      (swap_tells v.core (row_at v.rows s).state (clicks_in (row_at v.rows s)) x inside g.0).on e (g.2 (RowOf s)))),
)
  where
    inside : InsideBy v.core (row_at v.rows s).state (clicks_in (row_at v.rows s))
    inside = inside_of v.line v.core (row_at v.rows s).state (row_at v.rows s).data_size (row_at v.rows s).stack_size (h.rows s)

pub row_inside : (v : Stock) (s : ℕ) → IsSound v → InsideBy v.core (row_at v.rows s).state (clicks_in (row_at v.rows s))
row_inside v s h = inside_of v.line v.core (row_at v.rows s).state (row_at v.rows s).data_size (row_at v.rows s).stack_size (h.rows s)

-- there is room for a hole in both maps
pub both_room : (v : Stock) (core_map swap_map : List Hole) → IsSound v → AreMaps v core_map swap_map → length v.texts ≡ 40
    → ((taken : List Range) (first last : ℕ) → IsMap core_map taken first last → length core_map ≤ length taken + 1)
    → ((taken : List Range) (first last : ℕ) → IsMap swap_map taken first last → length swap_map ≤ length taken + 1) → (length core_map < 100) × (length swap_map < 100)
both_room v core_map swap_map h maps table a b =
    let most = few_taken v h.slots table in
    let c = most.0 in
    let d = most.1 in
    let e = a (core_taken (kept_of v)) 1 v.core (core_map_is v core_map swap_map h maps) in
    let f = b (swap_taken (kept_of v)) 4000 4871 (swap_map_is v core_map swap_map h maps) in
    (omega (arith, c, e), omega (arith, d, f))

-- what the map of the swap area gives
pub swap_fits : (v : Stock) (k : Kept) (core_map swap_map : List Hole) (n : ℕ) (o : Option ℕ) → kept_of v ≡ k → IsSound v → AreMaps v core_map swap_map
    → ((taken : List Range) (first last : ℕ) → IsMap swap_map taken first last → o ≡ first_fit taken first last n) → o ≡ swap_fit k n
unfolding swap_fit
swap_fits v k core_map swap_map n o view h maps e =
    e (swap_taken (kept_of v)) 4000 4871 (swap_map_is v core_map swap_map h maps) ∙ ap (λ j. first_fit (swap_taken j) 4000 4871 n) view

pub block_found : (v : Stock) (k : Kept) (b : ℕ) → kept_of v ≡ k → IsSound v → swap_fit k 1 ≡ Some b → IsFound v (swap_at v.core b) (512 * 1) 4000 4871 b 1
block_found v k b view h e = swap_found v b 1 h (ap (λ j. swap_fit j 1) view ∙ e)

-- a row without a text whose image goes: the counts of texts stay
pub state_counted : (v : Stock) (s : ℕ) (st : State) → s < length v.rows → (row_at v.rows s).text ≡ None → IsCounted v.rows v.texts → IsCounted (set v.rows s (record (row_at v.rows s) { state = st })) v.texts
state_counted v s st l none c = counted v.rows v.texts v.texts s (record (row_at v.rows s) { state = st }) l c (record {
  used = λ t e. absurd (none-some t (sym none ∙ e));
  stays = λ u t ne e f. f;
  was = λ t new e. (
    new,
    e,
    refl,
    (
        let a : is_text t (row_at v.rows s).text ≡ false = ap (is_text t) none in
        let b : has_loaded t (row_at v.rows s) ≡ false = gone (is_in_core (row_at v.rows s).state) (is_text t (row_at v.rows s).text) a in
        let d : has_loaded t (record (row_at v.rows s) { state = st }) ≡ false = gone (is_in_core st) (is_text t (row_at v.rows s).text) a in
        rw (b, d) refl),
  );
})
  where
    gone : (x y : Bool) → y ≡ false → (x && y) ≡ false
    gone true y e = e
    gone false y e = refl

gives : (a b : Bool) → (a || b) ≡ ((a && not false) || b)
gives true b = refl
gives false b = refl

pub record Goes (v now : Stock) (core_new swap_new : List Hole) (k : Kept) : Type 0 where
  pub sound : IsSound now
  pub maps : AreMaps now core_new swap_new
  pub counted : IsCounted now.rows now.texts
  pub kept : kept_of now ≡ k

pub ended : (v : Stock) (k : Kept) (s b from to : ℕ) (place : Place) (core_map swap_map swap_one core_new swap_new : List Hole) (row : Row) (line : List ℕ) (rows : List Row)
    → kept_of v ≡ k → IsSound v → AreMaps v core_map swap_map → IsCounted v.rows v.texts → HasImage k s → text_of k s ≡ None → row ≡ row_at v.rows s → row.state ≡ state.Alive place
    → swap_fit k 1 ≡ Some b → 64 * from ≡ place_at v.core place → 64 * to ≡ swap_at v.core b
    → ((x : ℕ) → is_free swap_one x ≡ (is_free swap_map x && not (is_within b 1 x)))
    → ((x : ℕ) → is_free core_new x ≡ (is_free core_map x || core_units row.state (clicks_in row) x))
    → ((x : ℕ) → is_free swap_new x ≡ (is_free swap_one x || swap_units row.state (clicks_in row) x))
    → line ≡ over v.line (64 * to) (part v.line (64 * from) 512) → rows ≡ set v.rows s (grave_row row b)
    → Goes v (record v { line = line; rows = rows }) core_new swap_new (with_keeping k s (Grave (area_of k s) b))
ended v k s b from to place core_map swap_map swap_one core_new swap_new row line rows view h maps c has bare at is fit f t first step_core step_swap line_is rows_is =
    let g : Facts v s place = at_place_of v k s row place view h c has at is in
    let r : Row = row_at v.rows s in
    let found : IsFound v (swap_at v.core b) (512 * 1) 4000 4871 b 1 = block_found v k b view h fit in
    let d = dies v s place b h g.low g.is found in
    let none : r.text ≡ None = sym (text_of_row v s) ∙ ap (λ j. text_of j s) view ∙ bare in
    let line2 : line ≡ over v.line (swap_at v.core b) (part v.line (place_at v.core place) 512) = line_is ∙ ap (λ i. over v.line i (part v.line (64 * from) 512)) t ∙ ap (λ i. over v.line (swap_at v.core b) (part v.line i 512)) f in
    let rows2 : rows ≡ set v.rows s (grave_row r b) = rows_is ∙ ap (λ q. set v.rows s (grave_row q b)) at in
    let now : Stock = put_row v s (grave_row r b) (over v.line (swap_at v.core b) (part v.line (place_at v.core place) 512)) in
    let same : (let x : Stock = record v { line = line; rows = rows } in x) ≡ now = cc in
    let low = found.low in
    let high = found.high in
    let good : Goes v now core_new swap_new (with_keeping k s (Grave (area_of k s) b)) = record {
      sound = d.0;
      maps = maps_put v s (grave_row r b) (over v.line (swap_at v.core b) (part v.line (place_at v.core place) 512)) core_map swap_map core_new swap_new h g.low maps
          (low, omega (arith, high)) (turned (row_spot v.core (grave_row r b)) (spot v (RowOf s)) (found.free (RowOf s)))
          (λ x. step_core x ∙ gives (is_free core_map x) (core_units row.state (clicks_in row) x) ∙ ap (λ (q : Row). (is_free core_map x && not false) || core_units q.state (clicks_in q) x) at)
          (λ x. step_swap x ∙ ap (λ y. y || swap_units row.state (clicks_in row) x) (first x) ∙ ap (λ (q : Row). (is_free swap_map x && not (is_within b 1 x)) || swap_units q.state (clicks_in q) x) at);
      counted = state_counted v s (state.Grave b) g.low none c;
      kept = d.1 ∙ ap (λ j. with_keeping j s (Grave (area_of j s) b)) view;
    } in
    subst (λ x. Goes v x core_new swap_new (with_keeping k s (Grave (area_of k s) b))) (sym same) good

-- A slot gives all back that it has.
pub freed : (v : Stock) (k : Kept) (s : ℕ) (core_map swap_map core_new swap_new : List Hole) (row : Row) (rows : List Row)
    → kept_of v ≡ k → IsSound v → AreMaps v core_map swap_map → IsCounted v.rows v.texts → s < length v.rows → text_of k s ≡ None → row ≡ row_at v.rows s
    → ((x : ℕ) → is_free core_new x ≡ (is_free core_map x || core_units row.state (clicks_in row) x))
    → ((x : ℕ) → is_free swap_new x ≡ (is_free swap_map x || swap_units row.state (clicks_in row) x))
    → rows ≡ set v.rows s (nothing_row row) → Goes v (record v { rows = rows }) core_new swap_new (with_keeping k s Nothing)
freed v k s core_map swap_map core_new swap_new row rows view h maps c low bare at step_core step_swap rows_is =
    let r : Row = row_at v.rows s in
    let d = emptied v s h low in
    let none : r.text ≡ None = sym (text_of_row v s) ∙ ap (λ j. text_of j s) view ∙ bare in
    let rows2 : rows ≡ set v.rows s (nothing_row r) = rows_is ∙ ap (λ q. set v.rows s (nothing_row q)) at in
    let now : Stock = put_row v s (nothing_row r) v.line in
    let same : (let x : Stock = record v { rows = rows } in x) ≡ now = cc in
    let good : Goes v now core_new swap_new (with_keeping k s Nothing) = record {
      sound = d.0;
      maps = maps_put v s (nothing_row r) v.line core_map swap_map core_new swap_new h low maps tt (turned (row_spot v.core (nothing_row r)) (spot v (RowOf s)) (apart_none (spot v (RowOf s))))
          (λ x. step_core x ∙ gives (is_free core_map x) (core_units row.state (clicks_in row) x) ∙ ap (λ (q : Row). (is_free core_map x && not false) || core_units q.state (clicks_in q) x) at)
          (λ x. step_swap x ∙ gives (is_free swap_map x) (swap_units row.state (clicks_in row) x) ∙ ap (λ (q : Row). (is_free swap_map x && not false) || swap_units q.state (clicks_in q) x) at);
      counted = state_counted v s state.Nothing low none c;
      kept = d.1 ∙ ap (λ j. with_keeping j s Nothing) view;
    } in
    subst (λ x. Goes v x core_new swap_new (with_keeping k s Nothing)) (sym same) good

pub or_false : (b : Bool) → (b || false) ≡ b
or_false true = refl
or_false false = refl

pub still_taken : (a b c : Bool) → b ≡ (a && not c) → a ≡ false → b ≡ false
still_taken a b c e f = e ∙ ap (λ x. x && not c) f
