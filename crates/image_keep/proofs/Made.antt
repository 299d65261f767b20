-- An image is made in a slot without one, beside the text that the slot has.
use Rattle.std.proofs.Common.{◌≡◌, ℕ, ◌+◌, ◌*◌, ◌<◌, ◌≤◌, ◌&&◌, ◌||◌, not, List, ◌++◌, length, drop, set, Bool, true, false, Option, Some, None, refl, sym, ap, subst, ◌∙◌, arith}
use Rattle.std.specs.Prelude.{replicate}
use Rattle.std.proofs.lemmas.Bool.{eq-eqb}
use Rattle.std.proofs.lemmas.List.{length-replicate}
use Rattle.v6_base.specs.declared.entry.Place.{Place}
use Rattle.v6_base.specs.declared.entry.Place.TheVariants.{Core, Swap}
use Rattle.v6_base.specs.Image.{Image, nseg}
use Rattle.core_mem.specs.Bytes.{over}
use Rattle.u_area.specs.Area.{area_bytes, IsSized}
use Rattle.text_tab.specs.declared.row.TextRow.{TextRow}
use Rattle.text_tab.specs.Table.{row_at as text_row, IsUsed}
use Rattle.map_fit.specs.declared.holes.Hole.{Hole}
use Rattle.map_fit.specs.Free.{is_free}
use Rattle.image_keep.specs.declared.row.State.TheVariants as state
use Rattle.image_keep.specs.declared.row.Row.{Row}
use Rattle.image_keep.specs.Area.{made_area}
use Rattle.image_keep.specs.Kept.{Keeping, Nothing, Alive, Kept, keeping, with_keeping, text_of, text_bytes, text_clicks, place_in, place_of}
use Rattle.image_keep.specs.Memory.{Stock, row_at, place_at, clicks_in, no_spot, spot_by, row_spot, RowOf, spot, AreApart, text_for, kept_of, IsSound}
use Rattle.image_keep.specs.Places.{placed, with_image_at, made_image}
use Rattle.image_keep.specs.Maps.{AreMaps, core_units, swap_units}
use Rattle.image_keep.specs.Finding.{found_core, found_swap}
use Rattle.image_keep.specs.Resized.{cleared_bytes, sized_row}
use Rattle.image_keep.specs.Moves.{moved_row, moved_entries, moved_texts, with_image_moved}
use Rattle.image_keep.specs.Counts.{IsCounted, is_text, is_in_core, has_text, has_loaded}
use Rattle.image_keep.specs.Told.{AreTold}
use Rattle.image_keep.proofs.Writes.{put_row, apart_none}
use Rattle.image_keep.proofs.SwapIn.{text_of_row}
use Rattle.image_keep.proofs.Maps.{maps_put}
use Rattle.image_keep.proofs.Laid.{IsLaid, laid_image}
use Rattle.image_keep.proofs.KeptForm.{text_is}
use Rattle.image_keep.proofs.Counting.{one, not_same}
use Rattle.image_keep.proofs.Overwriting.{over_again, drop_zeros, zeros_add}
use Rattle.image_keep.proofs.Found.{PlaceFound, place_found}
use Rattle.image_keep.proofs.Recounting.{Recounted, text_moved, entry_counted}
use Rattle.image_keep.proofs.Told.{told_slot, told_alive}
use Rattle.image_keep.proofs.Forking.{Stands, bare_counted, nothing_row_is, taking}
use Rattle.image_keep.proofs.Growing.{same_user, told_moved, moved_keeps}

-- a clear and then a u area over its front
pub cleared_line : (line l1 l2 : List ℕ) (at d n : ℕ) (area : List ℕ) → length area ≡ 1024 → 64 * (at + (16 + d + n)) ≤ length line → l1 ≡ over line (64 * at) (replicate (64 * (16 + d + n)) 0) → l2 ≡ over l1 (64 * at) area
    → l2 ≡ over line (64 * at) (cleared_bytes d n area)
cleared_line line l1 l2 at d n area long inside e f =
    let size : 64 * (16 + d + n) ≡ 1024 + (64 * d + 64 * n) = omega arith in
    let all = length-replicate {A = ℕ} (64 * (16 + d + n)) 0 in
    f ∙ ap (λ l. over l (64 * at) area) e
    ∙ over_again line (64 * at) (replicate (64 * (16 + d + n)) 0) area (omega (arith, long, all)) (omega (arith, inside, all))
    ∙ ap (λ i. over line (64 * at) (area ++ drop i (replicate {A = ℕ} (64 * (16 + d + n)) 0))) long
    ∙ ap (λ i. over line (64 * at) (area ++ drop 1024 (replicate {A = ℕ} i 0))) size
    ∙ ap (λ l. over line (64 * at) (area ++ l)) (drop_zeros 1024 (64 * d + 64 * n) ∙ zeros_add (64 * d) (64 * n))

made_counted : (v : Stock) (s : ℕ) (row : Row) (q : Place) (x : Option ℕ) → s < length v.rows → IsCounted v.rows v.texts → (row_at v.rows s).text ≡ x → row.text ≡ x → (row_at v.rows s).state ≡ state.Nothing → row.state ≡ state.Alive q → ((t : ℕ) → x ≡ Some t → IsUsed v.texts t)
    → IsCounted (set v.rows s row) (moved_entries v.texts x None q)
made_counted v s row q None low c old new was is used = bare_counted v.rows v.texts s row low c old new
made_counted v s row q (Some t) low c old new was is used =
    entry_counted v.rows v.texts s t row (moved_row None q) low c (used t refl) new (λ u ne. ap (is_text u) old ∙ not_same t u ne)
    (users q ∙ ap (λ o. (text_row v.texts t).users + one (is_text t o)) (old ∙ sym new))
    (ap (λ b. (moved_row None q (text_row v.texts t)).loaded + one b) (ap (λ st. is_in_core st && is_text t (row_at v.rows s).text) was)
    ∙ loaded q
    ∙ ap (λ b. (text_row v.texts t).loaded + one b) (sym whole))
  where
    with_true : (a b : Bool) → b ≡ true → (a && b) ≡ a
    with_true true b g = g
    with_true false b g = refl

    whole : has_loaded t row ≡ is_in_core (state.Alive q)
    whole = ap (λ st. is_in_core st && is_text t row.text) is ∙ with_true (is_in_core (state.Alive q)) (is_text t row.text) (ap (is_text t) new ∙ eq-eqb t t refl)

    users : (a : Place) → (moved_row None a (text_row v.texts t)).users + one (has_text t (row_at v.rows s)) ≡ (text_row v.texts t).users + one (has_text t (row_at v.rows s))
    users (Core c) = refl
    users (Swap b) = refl

    loaded : (a : Place) → (moved_row None a (text_row v.texts t)).loaded + one false ≡ (text_row v.texts t).loaded + one (is_in_core (state.Alive a))
    loaded (Core c) = omega arith
    loaded (Swap b) = refl

told_made : (k : Kept) (s t d n : ℕ) (x : Option ℕ) (image : Image) (q : Place) → text_of k s ≡ x → t ≡ text_clicks k x → nseg t + nseg d + nseg n ≤ 8 → AreTold k
    → AreTold (with_keeping (moved_texts k (text_of k s) None q) s (Alive (record { u = made_area t d n; image = image; place = q })))
told_made k s t d n x image q user size segments told =
    let j : Kept = moved_texts k (text_of k s) None q in
    told_slot j s (Alive (record { u = made_area t d n; image = image; place = q })) (told_moved k (text_of k s) None q told)
    (told_alive (text_clicks j (text_of j s)) (text_of j s) (record { u = made_area t d n; image = image; place = q })
    (size ∙ ap (text_clicks k) (sym user) ∙ sym (same_clicks (text_of k s) (text_of k s)) ∙ ap (λ o. text_clicks j o) (sym (same_text (text_of k s)))) segments)
  where
    same_text : (y : Option ℕ) → text_of (moved_texts k y None q) s ≡ text_of k s
    same_text None = refl
    same_text (Some i) = refl

    same_clicks : (y o : Option ℕ) → text_clicks (moved_texts k y None q) o ≡ text_clicks k o
    same_clicks y o = moved_keeps k y None q o

pub makes : (v : Stock) (k : Kept) (s t d n b : ℕ) (q : Place) (text : Option ℕ) (area : List ℕ) (core_map swap_map core_new swap_new : List Hole) (row : Row) (line : List ℕ) (texts : List (Option TextRow)) (rows : List Row)
    → kept_of v ≡ k → IsSound v → AreMaps v core_map swap_map → IsCounted v.rows v.texts → AreTold (kept_of v) → s < length v.rows → keeping k s ≡ Nothing → text ≡ text_of k s → t ≡ text_clicks k text → nseg t + nseg d + nseg n ≤ 8
    → row ≡ row_at v.rows s → IsSized (made_area t d n) → area ≡ area_bytes (made_area t d n) → length area ≡ 1024 → placed k s (16 + d + n) ≡ Some q → 64 * b ≡ place_at v.core q
    → ((x : ℕ) → is_free core_new x ≡ (is_free core_map x && not (found_core (Some q) (16 + d + n) x)))
    → ((x : ℕ) → is_free swap_new x ≡ (is_free swap_map x && not (found_swap (Some q) (16 + d + n) x)))
    → line ≡ over v.line (64 * b) (cleared_bytes d n area) → texts ≡ moved_entries v.texts text None q → rows ≡ set v.rows s (sized_row row q d n)
    → Stands (record { line = line; core = v.core; rows = rows; texts = texts }) core_new swap_new (with_image_moved k s (made_area t d n) (made_image (text_bytes k text) d n) (Some q))
makes v k s t d n b q text area core_map swap_map core_new swap_new row line texts rows view h maps c told low nothing text_is_of size segments here sized spelled long fit f step_core step_swap line_is texts_is rows_is =
    let r : Row = row_at v.rows s in
    let found : PlaceFound v s (16 + d + n) q = place_found v k s (16 + d + n) q view h fit in
    let empty : r.state ≡ state.Nothing = nothing_row_is v k s view nothing in
    let user : text ≡ r.text = text_is_of ∙ sym (ap (λ j. text_of j s) view) ∙ text_of_row v s in
    let new : Row = sized_row r q d n in
    let data_new : List ℕ = replicate (64 * d) 0 in
    let stack_new : List ℕ = replicate (64 * n) 0 in
    let is_laid : IsLaid new (made_area t d n) q area data_new stack_new = record {
      is = refl;
      area = long;
      bytes = length-replicate {A = ℕ} (64 * d) 0;
      stack = length-replicate {A = ℕ} (64 * n) 0;
      sized = sized;
      spelled = spelled;
      data_size = refl;
      stack_size = refl;
      segments = omega (arith, segments);
    } in
    let l = laid_image v s new (made_area t d n) q area data_new stack_new h low is_laid found.inside (λ o ne. found.free o) in
    let line1 : List ℕ = over v.line (place_at v.core q) (cleared_bytes d n area) in
    let v1 : Stock = put_row v s new line1 in
    let own : spot v (RowOf s) ≡ no_spot = ap (λ st. spot_by v.core st (clicks_in r)) empty in
    let no_core : (x : ℕ) → core_units r.state (clicks_in r) x ≡ false = λ x. ap (λ st. core_units st (clicks_in r) x) empty in
    let no_swap : (x : ℕ) → swap_units r.state (clicks_in r) x ≡ false = λ x. ap (λ st. swap_units st (clicks_in r) x) empty in
    let maps1 : AreMaps v1 core_new swap_new = maps_put v s new line1 core_map swap_map core_new swap_new h low maps found.inside
    (subst (λ x. AreApart x (row_spot v.core new)) (sym own) (apart_none (row_spot v.core new)))
    (λ x. step_core x ∙ taking (is_free core_map x) (core_units (state.Alive q) (16 + d + n) x) ∙ ap (λ y. (is_free core_map x && not (core_units (state.Alive q) (16 + d + n) x)) || y) (sym (no_core x)))
    (λ x. step_swap x ∙ taking (is_free swap_map x) (swap_units (state.Alive q) (16 + d + n) x) ∙ ap (λ y. (is_free swap_map x && not (swap_units (state.Alive q) (16 + d + n) x)) || y) (sym (no_swap x))) in
    let two : Recounted v1 (record v1 { texts = moved_entries v1.texts r.text None q }) core_new swap_new (moved_texts (kept_of v1) r.text None q) =
    text_moved v1 r.text None q core_new core_new swap_new l.0 maps1 (λ i e. c.used s i e) (λ e i x y. absurd (cc x)) (λ e i x y. (let m = found.loaded e i x y in λ z. omega (arith, z, m)))
    (λ y. sym (or_no (is_free core_new y))) in
    let line2 : line ≡ line1 = line_is ∙ ap (λ i. over v.line i (cleared_bytes d n area)) f in
    let texts2 : texts ≡ moved_entries v.texts r.text None q = texts_is ∙ ap (λ x. moved_entries v.texts x None q) user in
    let rows2 : rows ≡ set v.rows s new = rows_is ∙ ap (λ (i : Row). set v.rows s (sized_row i q d n)) here in
    let now : Stock = record v1 { texts = moved_entries v1.texts r.text None q } in
    let same : (let x : Stock = record { line = line; core = v.core; rows = rows; texts = texts } in x) ≡ now = cc in
    let bytes : text_for v.line v.core v.texts r.text ≡ text_bytes (kept_of v) text = sym (text_is v r.text) ∙ ap (text_bytes (kept_of v)) (sym user) in
    let stood : place_of k s ≡ None = ap place_in nothing in
    let kept : kept_of now ≡ with_image_moved k s (made_area t d n) (made_image (text_bytes k text) d n) (Some q) =
    two.kept ∙ ap (λ j. moved_texts j r.text None q) (l.1 ∙ same_user v s _ ∙ ap (λ i. with_keeping (kept_of v) s (Alive (record { u = made_area t d n; image = made_image i d n; place = q }))) bytes)
    ∙ made_order (kept_of v) r.text (Alive (record { u = made_area t d n; image = made_image (text_bytes (kept_of v) text) d n; place = q }))
    ∙ ap (λ x. with_keeping (moved_texts (kept_of v) x None q) s (Alive (record { u = made_area t d n; image = made_image (text_bytes (kept_of v) text) d n; place = q }))) (sym (text_of_row v s))
    ∙ ap (λ j. with_keeping (moved_texts j (text_of j s) None q) s (Alive (record { u = made_area t d n; image = made_image (text_bytes j text) d n; place = q }))) view
    ∙ ap (λ o. with_keeping (moved_texts k (text_of k s) o q) s (Alive (record { u = made_area t d n; image = made_image (text_bytes k text) d n; place = q }))) (sym stood) in
    let good : Stands now core_new swap_new (with_image_moved k s (made_area t d n) (made_image (text_bytes k text) d n) (Some q)) = record {
      sound = two.sound;
      maps = two.maps;
      counted = made_counted v s new q r.text low c refl refl empty refl (λ i e. c.used s i e);
      kept = kept;
      told = subst AreTold (sym (kept ∙ ap (λ o. with_image_at (moved_texts k (text_of k s) o q) s (made_area t d n) (made_image (text_bytes k text) d n) (Some q)) stood))
          (told_made k s t d n text (made_image (text_bytes k text) d n) q (sym text_is_of) size segments (subst AreTold view told));
    } in
    subst (λ x. Stands x core_new swap_new (with_image_moved k s (made_area t d n) (made_image (text_bytes k text) d n) (Some q))) (sym same) good
  where
    or_no : (x : Bool) → (x || false) ≡ x
    or_no true = refl
    or_no false = refl

    made_order : (j : Kept) (x : Option ℕ) (y : Keeping) → moved_texts (with_keeping j s y) x None q ≡ with_keeping (moved_texts j x None q) s y
    made_order j None y = refl
    made_order j (Some i) y = refl
