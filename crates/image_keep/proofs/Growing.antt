-- An image gets other sizes, where it stands or at another place.
use Rattle.std.proofs.Common.{◌≡◌, ◌≢◌, ℕ, ◌+◌, ◌-◌, ◌*◌, ◌<◌, ◌≤◌, ◌&&◌, ◌||◌, not, inl, inr, List, length, take, drop, set, get_or, cond, Bool, true, false, Option, Some, None, IsSome, refl, sym, ap, subst, ◌∙◌, arith}
use Rattle.std.specs.Prelude.{replicate}
use Rattle.std.proofs.lemmas.Bool.{eq-eqb, both_ways, le-leb, lt-leb}
use Rattle.std.proofs.lemmas.List.{length-append, length-take, length-drop, length-replicate, length-set, set-get_or}
use Rattle.v6_base.specs.declared.entry.Place.{Place}
use Rattle.v6_base.specs.declared.entry.Place.TheVariants.{Core, Swap}
use Rattle.v6_base.specs.Image.{Image, nseg}
use Rattle.v6_base.specs.Sizes.{cut_back, cut_front}
use Rattle.core_mem.specs.Bytes.{part, over}
use Rattle.core_mem.proofs.Parts.{part-part}
use Rattle.u_area.specs.declared.area.UArea.{UArea}
use Rattle.u_area.specs.Area.{area_bytes, IsSized}
use Rattle.text_tab.specs.declared.row.TextRow.{TextRow}
use Rattle.text_tab.specs.Table.{text_at, row_of as text_row_of, row_at as text_row, IsUsed}
use Rattle.map_fit.specs.declared.holes.Hole.{Hole}
use Rattle.map_fit.specs.Fit.{Range}
use Rattle.map_fit.specs.Free.{is_free, IsMap}
use Rattle.image_keep.specs.declared.row.State.TheVariants as state
use Rattle.image_keep.specs.declared.row.Row.{Row}
use Rattle.image_keep.specs.Kept.{Keeping, Nothing, Alive, Kept, HasImage, keeping, with_keeping, with_text_of, shared, changed, text_of, text_clicks, place_of, area_in, image_in, area_of, image_of, clicks_of}
use Rattle.image_keep.specs.Memory.{Stock, row_at, place_at, place_size, place_by, clicks_in, Spot, spot_by, row_spot, Owner, RowOf, spot, AreApart, text_for, image_by, kept_of, IsIn, IsText, IsSound}
use Rattle.image_keep.specs.Places.{core_taken, placed, with_image_at}
use Rattle.image_keep.specs.Maps.{AreMaps, core_units, swap_units}
use Rattle.image_keep.specs.Finding.{found_core, found_swap}
use Rattle.image_keep.specs.Growth.{area_resized, image_resized, expanded}
use Rattle.image_keep.specs.Resized.{resized_bytes, sized_row, core_tail, swap_tail}
use Rattle.image_keep.specs.Moves.{moved_row, moved_entries, moved_texts, moving_units, with_image_moved}
use Rattle.image_keep.specs.Counts.{IsCounted, is_text, is_in_core, has_text, has_loaded}
use Rattle.image_keep.specs.Told.{AreTold}
use Rattle.image_keep.proofs.Writes.{put_row, turned}
use Rattle.image_keep.proofs.Places.{slot_at, core_map_is}
use Rattle.image_keep.proofs.SwapIn.{text_of_row}
use Rattle.image_keep.proofs.Maps.{maps_put}
use Rattle.image_keep.proofs.Laid.{IsLaid, laid_image}
use Rattle.image_keep.proofs.Own.{own_means}
use Rattle.image_keep.proofs.Counting.{one, not_same}
use Rattle.image_keep.proofs.Facts.{Facts, few_taken, few_users}
use Rattle.image_keep.proofs.AreaSet.{at_place_of}
use Rattle.image_keep.proofs.SwapOut.{loaded_some, text_taken}
use Rattle.image_keep.proofs.Cutting.{maps_cut}
use Rattle.image_keep.proofs.Found.{PlaceFound, place_found}
use Rattle.image_keep.proofs.Recounting.{Recounted, text_moved, entry_counted, same_shared}
use Rattle.image_keep.proofs.KeptForm.{place_is}
use Rattle.image_keep.proofs.Told.{told_slot, told_alive, told_shared, clicks_changed, clicks_same}
use Rattle.image_keep.proofs.Forking.{Stands, bare_counted, same_counted}

long_back : (n : ℕ) (bytes : List ℕ) → length (cut_back n bytes) ≡ n
unfolding cut_back
long_back n bytes = let a = length-append (take n bytes) (replicate (n - length bytes) 0) in let b = length-take n bytes in let c = length-replicate {A = ℕ} (n - length bytes) 0 in omega (arith, a, b, c)

long_front : (n : ℕ) (bytes : List ℕ) → length (cut_front n bytes) ≡ n
unfolding cut_front
long_front n bytes = let a = length-append (replicate (n - length bytes) 0) (drop (length bytes - n) bytes) in let b = length-drop (length bytes - n) bytes in let c = length-replicate {A = ℕ} (n - length bytes) 0 in omega (arith, a, b, c)

-- a slot's text is the one that it has
pub same_user : (v : Stock) (s : ℕ) (y : Keeping) → with_text_of (with_keeping (kept_of v) s y) s (row_at v.rows s).text ≡ with_keeping (kept_of v) s y
same_user v s y =
    ap (λ (l : List (Option ℕ)). record (with_keeping (kept_of v) s y) { users = l }) (ap (set (kept_of v).users s) (sym (text_of_row v s)) ∙ set-get_or (kept_of v).users s None)

resized_so : (m : Image) (text bytes stack : List ℕ) (d k : ℕ) → (let i : Image = record { text = text; «data» = bytes; stack = stack } in m ≡ i)
    → (let i : Image = record { text = text; «data» = cut_back (64 * d) bytes; stack = cut_front (64 * k) stack } in i) ≡ image_resized m d k
resized_so m text bytes stack d k e = sym (ap (λ (i : Image). image_resized i d k) e)

-- what an image is, by where it stands
pub image_parts : (v : Stock) (s : ℕ) (p : Place) → (row_at v.rows s).state ≡ state.Alive p
    → (let i : Image = record { text = text_for v.line v.core v.texts (row_at v.rows s).text; «data» = part v.line (place_at v.core p + 1024) (64 * (row_at v.rows s).data_size); stack = part v.line (place_at v.core p + 1024 + 64 * (row_at v.rows s).data_size) (64 * (row_at v.rows s).stack_size) } in image_of (kept_of v) s ≡ i)
unfolding image_by
image_parts v s p is =
    let r : Row = row_at v.rows s in
    let at : ℕ = place_at v.core p in
    let n : ℕ = clicks_in r in
    let e : at + (1024 + 64 * r.data_size) ≡ at + 1024 + 64 * r.data_size = omega arith in
    ap image_in (slot_at v s ∙ own_means v s p v.line is)
    ∙ made (text_for v.line v.core v.texts r.text) _ _ _ _ (part-part v.line at (64 * n) 1024 (64 * r.data_size) (omega arith))
    (part-part v.line at (64 * n) (1024 + 64 * r.data_size) (64 * r.stack_size) (omega arith) ∙ ap (λ i. part v.line i (64 * r.stack_size)) e)
  where
    made : (t d d' k k' : List ℕ) → d ≡ d' → k ≡ k' → (let i : Image = record { text = t; «data» = d; stack = k } in i) ≡ record { text = t; «data» = d'; stack = k' }
    made t d d' k k' f g = cc

-- An image is laid with other sizes at a place that nobody else has.
pub resized_kept : (v : Stock) (s : ℕ) (p q : Place) (u : UArea) (d k : ℕ) (area : List ℕ) → IsSound v → s < length v.rows → (row_at v.rows s).state ≡ state.Alive p → u ≡ area_of (kept_of v) s
    → IsSized (area_resized u d k) → area ≡ area_bytes (area_resized u d k) → length area ≡ 1024 → nseg d + nseg k ≤ 8 → IsIn v.core q (16 + d + k)
    → ((o : Owner) → o ≢ RowOf s → AreApart (record { at = place_at v.core q; size = place_size q (16 + d + k) }) (spot v o))
    → IsSound (put_row v s (sized_row (row_at v.rows s) q d k) (over v.line (place_at v.core q) (resized_bytes v.line (place_at v.core p) (row_at v.rows s) d k area)))
    × (kept_of (put_row v s (sized_row (row_at v.rows s) q d k) (over v.line (place_at v.core q) (resized_bytes v.line (place_at v.core p) (row_at v.rows s) d k area)))
    ≡ with_keeping (kept_of v) s (Alive (record { u = area_resized (area_of (kept_of v) s) d k; image = image_resized (image_of (kept_of v) s) d k; place = q })))
resized_kept v s p q u d k area h low is own sized spelled long segments inside free =
    let r : Row = row_at v.rows s in
    let at : ℕ = place_at v.core p in
    let kept_data : List ℕ = cut_back (64 * d) (part v.line (at + 1024) (64 * r.data_size)) in
    let stack : List ℕ = cut_front (64 * k) (part v.line (at + 1024 + 64 * r.data_size) (64 * r.stack_size)) in
    let is_laid : IsLaid (sized_row r q d k) (area_resized u d k) q area kept_data stack = record {
      is = refl;
      area = long;
      bytes = long_back (64 * d) (part v.line (at + 1024) (64 * r.data_size));
      stack = long_front (64 * k) (part v.line (at + 1024 + 64 * r.data_size) (64 * r.stack_size));
      sized = sized;
      spelled = spelled;
      data_size = refl;
      stack_size = refl;
      segments = segments;
    } in
    let l = laid_image v s (sized_row r q d k) (area_resized u d k) q area kept_data stack h low is_laid inside free in (
      l.0,
      l.1 ∙ same_user v s _
          ∙ ap (λ (i : Image). with_keeping (kept_of v) s (Alive (record { u = area_resized u d k; image = i; place = q })))
          (resized_so (image_of (kept_of v) s) (text_for v.line v.core v.texts r.text) (part v.line (at + 1024) (64 * r.data_size)) (part v.line (at + 1024 + 64 * r.data_size) (64 * r.stack_size)) d k (image_parts v s p is))
          ∙ ap (λ (w : UArea). with_keeping (kept_of v) s (Alive (record { u = area_resized w d k; image = image_resized (image_of (kept_of v) s) d k; place = q }))) own,
    )

-- u areas tell their sizes afterwards
moved_clicks : (from : Option Place) (to : Place) (row : TextRow) → (moved_row from to row).clicks ≡ row.clicks
moved_clicks None (Core c) row = refl
moved_clicks None (Swap b) row = refl
moved_clicks (Some (Core c)) (Core d) row = refl
moved_clicks (Some (Core c)) (Swap b) row = refl
moved_clicks (Some (Swap b)) (Core c) row = refl
moved_clicks (Some (Swap b)) (Swap e) row = refl

pub told_moved : (k : Kept) (x : Option ℕ) (from : Option Place) (to : Place) → AreTold k → AreTold (moved_texts k x from to)
told_moved k None from to told = told
told_moved k (Some t) from to told = told_shared k t (changed (moved_row from to) (shared k t)) (clicks_changed (moved_row from to) (moved_clicks from to) (shared k t)) told

-- texts have as many clicks
pub moved_keeps : (k : Kept) (x : Option ℕ) (from : Option Place) (to : Place) (o : Option ℕ) → text_clicks (moved_texts k x from to) o ≡ text_clicks k o
moved_keeps k None from to o = refl
moved_keeps k (Some t) from to o = clicks_same k t (changed (moved_row from to) (shared k t)) o (clicks_changed (moved_row from to) (moved_clicks from to) (shared k t))

moved_same : (k : Kept) (x : Option ℕ) (from : Option Place) (to : Place) → (moved_texts k x from to).slots ≡ k.slots
moved_same k None from to = refl
moved_same k (Some t) from to = refl

told_resized : (k : Kept) (s d n : ℕ) (x : Option ℕ) (from : Option Place) (q : Place) → HasImage k s → nseg (area_of k s).text_size + nseg d + nseg n ≤ 8 → AreTold k
    → AreTold (with_keeping (moved_texts k x from q) s (Alive (record { u = area_resized (area_of k s) d n; image = image_resized (image_of k s) d n; place = q })))
told_resized k s d n x from q has segments told =
    let j : Kept = moved_texts k x from q in
    let t : AreTold j = told_moved k x from q told in
    let here : keeping j s ≡ Alive has.0 = ap (λ (l : List Keeping). get_or l s Nothing) (moved_same k x from q) ∙ has.1 in
    let size : (area_of k s).text_size ≡ text_clicks j (text_of j s) = ap (λ y. (area_in y).text_size) has.1 ∙ (t s).text_size has.0 here in
    told_slot j s (Alive (record { u = area_resized (area_of k s) d n; image = image_resized (image_of k s) d n; place = q })) t
    (told_alive (text_clicks j (text_of j s)) (text_of j s) (record { u = area_resized (area_of k s) d n; image = image_resized (image_of k s) d n; place = q }) size segments)

-- the counts of a row that goes from a place to another with its text
moved_counted : (v : Stock) (s : ℕ) (row : Row) (p q : Place) (x : Option ℕ) → s < length v.rows → IsCounted v.rows v.texts → (row_at v.rows s).text ≡ x → row.text ≡ x → (row_at v.rows s).state ≡ state.Alive p → row.state ≡ state.Alive q
    → ((c t : ℕ) → p ≡ Core c → x ≡ Some t → 0 < (text_row v.texts t).loaded) → ((t : ℕ) → x ≡ Some t → IsUsed v.texts t)
    → IsCounted (set v.rows s row) (moved_entries v.texts x (Some p) q)
moved_counted v s row p q None low c old new was is some used = bare_counted v.rows v.texts s row low c old new
moved_counted v s row p q (Some t) low c old new was is some used =
    entry_counted v.rows v.texts s t row (moved_row (Some p) q) low c (used t refl) new (λ u ne. ap (is_text u) old ∙ not_same t u ne)
    (users p q ∙ ap (λ b. (text_row v.texts t).users + one b) (ap (is_text t) (old ∙ sym new)))
    (ap (λ b. (moved_row (Some p) q (text_row v.texts t)).loaded + one b) (whole (row_at v.rows s) p was old)
    ∙ loaded p q (λ d e. some d t e refl)
    ∙ ap (λ b. (text_row v.texts t).loaded + one b) (sym (whole row q is new)))
  where
    whole : (r : Row) (place : Place) → r.state ≡ state.Alive place → r.text ≡ Some t → has_loaded t r ≡ is_in_core (state.Alive place)
    whole r place e f = ap (λ st. is_in_core st && is_text t r.text) e ∙ ap (λ o. is_in_core (state.Alive place) && is_text t o) f ∙ with_true (is_in_core (state.Alive place)) (is_text t (Some t)) (eq-eqb t t refl)
      where
        with_true : (a b : Bool) → b ≡ true → (a && b) ≡ a
        with_true true b g = g
        with_true false b g = refl

    users : (a b : Place) → (moved_row (Some a) b (text_row v.texts t)).users + one (has_text t (row_at v.rows s)) ≡ (text_row v.texts t).users + one (has_text t (row_at v.rows s))
    users (Core c) (Core d) = refl
    users (Core c) (Swap b) = refl
    users (Swap b) (Core c) = refl
    users (Swap b) (Swap d) = refl

    loaded : (a b : Place) → ((d : ℕ) → a ≡ Core d → 0 < (text_row v.texts t).loaded) → (moved_row (Some a) b (text_row v.texts t)).loaded + one (is_in_core (state.Alive a)) ≡ (text_row v.texts t).loaded + one (is_in_core (state.Alive b))
    loaded (Core c) (Core d) f = refl
    loaded (Core c) (Swap b) f = let g = f c refl in omega (arith, g)
    loaded (Swap b) (Core c) f = omega arith
    loaded (Swap b) (Swap d) f = refl

-- an image that is cut in its place
pub cuts : (v : Stock) (k : Kept) (s d n at : ℕ) (p : Place) (u : UArea) (area : List ℕ) (core_map swap_map core_new swap_new : List Hole) (row : Row) (line : List ℕ) (rows : List Row)
    → kept_of v ≡ k → IsSound v → AreMaps v core_map swap_map → IsCounted v.rows v.texts → AreTold (kept_of v) → HasImage k s → row ≡ row_at v.rows s → row.state ≡ state.Alive p
    → nseg (area_of k s).text_size + nseg d + nseg n ≤ 8 → 16 + d + n ≤ clicks_in row → u ≡ area_of k s → IsSized (area_resized u d n) → area ≡ area_bytes (area_resized u d n) → length area ≡ 1024 → 64 * at ≡ place_at v.core p
    → ((x : ℕ) → is_free core_new x ≡ (is_free core_map x || core_tail p (clicks_in row) (16 + d + n) x))
    → ((x : ℕ) → is_free swap_new x ≡ (is_free swap_map x || swap_tail p (clicks_in row) (16 + d + n) x))
    → line ≡ over v.line (64 * at) (resized_bytes v.line (64 * at) row d n area) → rows ≡ set v.rows s (sized_row row p d n)
    → Stands (record v { line = line; rows = rows }) core_new swap_new (with_image_at k s (area_resized (area_of k s) d n) (image_resized (image_of k s) d n) (Some p))
cuts v k s d n at p u area core_map swap_map core_new swap_new row line rows view h maps c told has here is segments less own sized spelled long place_is step_core step_swap line_is rows_is =
    let r : Row = row_at v.rows s in
    let g : Facts v s p = at_place_of v k s row p view h c has here is in
    let small : 16 + d + n ≤ clicks_in r = subst (λ (q : Row). 16 + d + n ≤ clicks_in q) here less in
    let inside : IsIn v.core p (16 + d + n) = less_inside v.core p (clicks_in r) (16 + d + n) g.inside small in
    let own2 : u ≡ area_of (kept_of v) s = own ∙ ap (λ j. area_of j s) (sym view) in
    let free = λ (o : Owner) (ne : o ≢ RowOf s). less_apart v.core p (clicks_in r) (16 + d + n) (spot v o) small (subst (λ y. AreApart y (spot v o)) (ap (λ st. spot_by v.core st (clicks_in r)) g.is) (h.apart (RowOf s) o (λ e. ne (sym e)))) in
    let laid_is = resized_kept v s p p u d n area h g.low g.is own2 sized spelled long (omega (arith, segments)) inside free in
    let now : Stock = put_row v s (sized_row r p d n) (over v.line (place_at v.core p) (resized_bytes v.line (place_at v.core p) r d n area)) in
    let line2 : line ≡ over v.line (place_at v.core p) (resized_bytes v.line (place_at v.core p) r d n area) = line_is ∙ ap (λ i. over v.line i (resized_bytes v.line i row d n area)) place_is ∙ ap (λ (q : Row). over v.line (place_at v.core p) (resized_bytes v.line (place_at v.core p) q d n area)) here in
    let rows2 : rows ≡ set v.rows s (sized_row r p d n) = rows_is ∙ ap (λ (q : Row). set v.rows s (sized_row q p d n)) here in
    let same : (let x : Stock = record v { line = line; rows = rows } in x) ≡ now = cc in
    let kept : kept_of now ≡ with_image_at k s (area_resized (area_of k s) d n) (image_resized (image_of k s) d n) (Some p) =
    laid_is.1 ∙ ap (λ j. with_keeping j s (Alive (record { u = area_resized (area_of j s) d n; image = image_resized (image_of j s) d n; place = p }))) view in
    let good : Stands now core_new swap_new (with_image_at k s (area_resized (area_of k s) d n) (image_resized (image_of k s) d n) (Some p)) = record {
      sound = laid_is.0;
      maps = maps_cut v s d n p (over v.line (place_at v.core p) (resized_bytes v.line (place_at v.core p) r d n area)) core_map swap_map core_new swap_new h g.low maps g.is g.inside small
          (λ x. step_core x ∙ ap (λ (q : Row). is_free core_map x || core_tail p (clicks_in q) (16 + d + n) x) here)
          (λ x. step_swap x ∙ ap (λ (q : Row). is_free swap_map x || swap_tail p (clicks_in q) (16 + d + n) x) here);
      counted = stays_counted v s (sized_row r p d n) p r.text g.low c refl refl g.is refl;
      kept = kept;
      told = subst AreTold (sym kept) (told_resized k s d n None None p has segments (subst AreTold view told));
    } in
    subst (λ x. Stands x core_new swap_new (with_image_at k s (area_resized (area_of k s) d n) (image_resized (image_of k s) d n) (Some p))) (sym same) good
  where
    less_inside : (core : ℕ) (place : Place) (a b : ℕ) → IsIn core place a → b ≤ a → IsIn core place b
    less_inside core (Core c) a b i l = let j = i.1 in (i.0, omega (arith, j, l))
    less_inside core (Swap c) a b i l = let j = i.1 in (i.0, omega (arith, j, l))

    less_apart : (core : ℕ) (place : Place) (a b : ℕ) (o : Spot) → b ≤ a → AreApart (record { at = place_at core place; size = place_size place a }) o → AreApart (record { at = place_at core place; size = place_size place b }) o
    less_apart core (Core c) a b o l (inl e) = inl (omega (arith, e, l))
    less_apart core (Core c) a b o l (inr e) = inr e
    less_apart core (Swap c) a b o l (inl e) = inl (omega (arith, e, l))
    less_apart core (Swap c) a b o l (inr e) = inr e

    stays_counted : (w : Stock) (i : ℕ) (new : Row) (place : Place) (x : Option ℕ) → i < length w.rows → IsCounted w.rows w.texts → (row_at w.rows i).text ≡ x → new.text ≡ x → (row_at w.rows i).state ≡ state.Alive place → new.state ≡ state.Alive place → IsCounted (set w.rows i new) w.texts
    stays_counted w i new place x low counts old is2 was now2 = same_counted w.rows w.texts i new low counts (is2 ∙ sym old) (now2 ∙ sym was)

-- What a text whose image goes from a place to another is asked.
pub record MovedText (texts : List (Option TextRow)) (x : Option ℕ) (p q : Place) (core_one : List Hole) : Type 0 where
  pub used : (t : ℕ) → x ≡ Some t → IsUsed texts t
  pub few : (t : ℕ) → x ≡ Some t → (text_row texts t).loaded < 65535
  pub some : (c t : ℕ) → p ≡ Core c → x ≡ Some t → 0 < (text_row texts t).loaded
  pub clicks : (t : ℕ) → x ≡ Some t → 0 < (text_row texts t).clicks
  pub small : (c t : ℕ) → p ≡ Core c → x ≡ Some t → (text_row texts t).at + (text_row texts t).clicks ≤ 65535
  pub taken : (y : ℕ) → moving_units texts x (Some p) q y ≡ true → is_free core_one y ≡ false
  pub room : length core_one < 100

-- An image that grows: first its row goes to the place that was found, then its text goes with it.
module _ (v : Stock) (k : Kept) (s d n a b : ℕ) (p q : Place) (u : UArea) (area : List ℕ) (core_map swap_map core_zero core_one swap_zero swap_one : List Hole) (row : Row)
    (view : kept_of v ≡ k) (h : IsSound v) (maps : AreMaps v core_map swap_map) (c : IsCounted v.rows v.texts) (told : AreTold (kept_of v)) (has : HasImage k s) (here : row ≡ row_at v.rows s) (is : row.state ≡ state.Alive p)
    (segments : nseg (area_of k s).text_size + nseg d + nseg n ≤ 8) (own : u ≡ area_of k s) (sized : IsSized (area_resized u d n)) (spelled : area ≡ area_bytes (area_resized u d n)) (long : length area ≡ 1024)
    (fit : placed k s (16 + d + n) ≡ Some q) (from_is : 64 * a ≡ place_at v.core p) (to_is : 64 * b ≡ place_at v.core q)
    (first_core : (x : ℕ) → is_free core_zero x ≡ (is_free core_map x && not (found_core (Some q) (16 + d + n) x)))
    (first_swap : (x : ℕ) → is_free swap_zero x ≡ (is_free swap_map x && not (found_swap (Some q) (16 + d + n) x)))
    (step_core : (x : ℕ) → is_free core_one x ≡ (is_free core_zero x || core_units row.state (clicks_in row) x))
    (step_swap : (x : ℕ) → is_free swap_one x ≡ (is_free swap_zero x || swap_units row.state (clicks_in row) x)) where
  abbrev r : Row
  r = row_at v.rows s

  abbrev line1 : List ℕ
  line1 = over v.line (place_at v.core q) (resized_bytes v.line (place_at v.core p) r d n area)

  abbrev v1 : Stock
  v1 = put_row v s (sized_row r q d n) line1

  g : Facts v s p
  g = at_place_of v k s row p view h c has here is

  found : PlaceFound v s (16 + d + n) q
  found = place_found v k s (16 + d + n) q view h fit

  laid_is : IsSound v1 × (kept_of v1 ≡ with_keeping (kept_of v) s (Alive (record { u = area_resized (area_of (kept_of v) s) d n; image = image_resized (image_of (kept_of v) s) d n; place = q })))
  laid_is = resized_kept v s p q u d n area h g.low g.is (own ∙ ap (λ j. area_of j s) (sym view)) sized spelled long (omega (arith, segments)) found.inside (λ o ne. found.free o)

  maps1 : AreMaps v1 core_one swap_one
  maps1 = maps_put v s (sized_row r q d n) line1 core_map swap_map core_one swap_one h g.low maps found.inside (turned (row_spot v.core (sized_row r q d n)) (spot v (RowOf s)) (found.free (RowOf s)))
      (λ x. step_core x ∙ ap (λ y. y || core_units row.state (clicks_in row) x) (first_core x) ∙ ap (λ (i : Row). (is_free core_map x && not (core_units (state.Alive q) (16 + d + n) x)) || core_units i.state (clicks_in i) x) here)
      (λ x. step_swap x ∙ ap (λ y. y || swap_units row.state (clicks_in row) x) (first_swap x) ∙ ap (λ (i : Row). (is_free swap_map x && not (swap_units (state.Alive q) (16 + d + n) x)) || swap_units i.state (clicks_in i) x) here)

  user : row.text ≡ r.text
  user = ap (λ (i : Row). i.text) here

  loaded_there : (e t : ℕ) → p ≡ Core e → r.text ≡ Some t → 0 < (text_row v.texts t).loaded
  loaded_there e t f x = loaded_some v s e t c g.low (g.is ∙ ap state.Alive f) x

  used_row : (o : Option TextRow) → IsSome o → o ≡ Some (text_row_of o)
  used_row None e = absurd (cc e)
  used_row (Some i) e = refl

  own_text : (t : ℕ) → r.text ≡ Some t → IsText v.line v.core (text_row v.texts t)
  own_text t e = h.texts t (text_row v.texts t) (used_row (text_at v.texts t) (c.used s t e))

  units_taken_of : (x : Option ℕ) (e f : Place) → ((t : ℕ) → x ≡ Some t → IsUsed v.texts t) → (y : ℕ) → moving_units v.texts x (Some e) f y ≡ true → is_free core_one y ≡ false
  units_taken_of x (Core e) (Core f) used y m = absurd (both_ways false refl m)
  units_taken_of x (Core e) (Swap f) used y m = text_taken v1 core_one swap_one x laid_is.0 maps1 used y m
  units_taken_of x (Swap e) f used y m = absurd (both_ways false refl m)

  pub moved_text : length v.texts ≡ 40 → ((taken : List Range) (first last : ℕ) → IsMap core_one taken first last → length core_one ≤ length taken + 1) → MovedText v.texts row.text p q core_one
  moved_text table few =
      let most = few_taken v1 laid_is.0.slots table in
      let i = most.0 in
      let j = few (core_taken (kept_of v1)) 1 v.core (core_map_is v1 core_one swap_one laid_is.0 maps1) in
      record {
        used = λ t e. c.used s t (sym user ∙ e);
        few = λ t e. (few_users v s row h c here t e).1;
        some = λ e t f x. loaded_there e t f (sym user ∙ x);
        clicks = λ t e. (own_text t (sym user ∙ e)).some;
        small = λ e t f x. (let w = (own_text t (sym user ∙ x)).within (λ z. (let m = loaded_there e t f (sym user ∙ x) in omega (arith, z, m))) in let l = w.1 in let z = h.most in omega (arith, l, z));
        taken = λ y m. units_taken_of row.text p q (λ t e. c.used s t (sym user ∙ e)) y m;
        room = omega (arith, i, j);
      }

  moved_order : (j : Kept) (x : Option ℕ) (e : Option Place) (f : Place) (y : Keeping) → moved_texts (with_keeping j s y) x e f ≡ with_keeping (moved_texts j x e f) s y
  moved_order j None e f y = refl
  moved_order j (Some t) e f y = refl

  pub grows : (core_new : List Hole) (line : List ℕ) (texts : List (Option TextRow)) (rows : List Row) → ((x : ℕ) → is_free core_new x ≡ (is_free core_one x || moving_units v.texts row.text (Some p) q x))
      → line ≡ over v.line (64 * b) (resized_bytes v.line (64 * a) row d n area) → texts ≡ moved_entries v.texts row.text (Some p) q → rows ≡ set v.rows s (sized_row row q d n)
      → Stands (record { line = line; core = v.core; rows = rows; texts = texts }) core_new swap_one (with_image_moved k s (area_resized (area_of k s) d n) (image_resized (image_of k s) d n) (Some q))
  grows core_new line texts rows step_text line_is texts_is rows_is =
      let two : Recounted v1 (record v1 { texts = moved_entries v1.texts r.text (Some p) q }) core_new swap_one (moved_texts (kept_of v1) r.text (Some p) q) =
      text_moved v1 r.text (Some p) q core_one core_new swap_one laid_is.0 maps1 g.used (λ e t f x. loaded_there e t (let y : p ≡ Core e = cc f in y) x) (λ e t f x. (let m = found.loaded e t f x in λ z. omega (arith, z, m)))
      (λ y. step_text y ∙ ap (λ x. is_free core_one y || moving_units v.texts x (Some p) q y) user) in
      let line2 : line ≡ line1 = line_is ∙ ap (λ i. over v.line i (resized_bytes v.line (64 * a) row d n area)) to_is ∙ ap (λ i. over v.line (place_at v.core q) (resized_bytes v.line i row d n area)) from_is ∙ ap (λ (i : Row). over v.line (place_at v.core q) (resized_bytes v.line (place_at v.core p) i d n area)) here in
      let texts2 : texts ≡ moved_entries v.texts r.text (Some p) q = texts_is ∙ ap (λ x. moved_entries v.texts x (Some p) q) user in
      let rows2 : rows ≡ set v.rows s (sized_row r q d n) = rows_is ∙ ap (λ (i : Row). set v.rows s (sized_row i q d n)) here in
      let now : Stock = record v1 { texts = moved_entries v1.texts r.text (Some p) q } in
      let same : (let x : Stock = record { line = line; core = v.core; rows = rows; texts = texts } in x) ≡ now = cc in
      let stood : place_of k s ≡ Some p = stands_at in
      let kept : kept_of now ≡ with_image_moved k s (area_resized (area_of k s) d n) (image_resized (image_of k s) d n) (Some q) =
      two.kept ∙ ap (λ j. moved_texts j r.text (Some p) q) laid_is.1
      ∙ moved_order (kept_of v) r.text (Some p) q _
      ∙ ap (λ x. with_keeping (moved_texts (kept_of v) x (Some p) q) s (Alive (record { u = area_resized (area_of (kept_of v) s) d n; image = image_resized (image_of (kept_of v) s) d n; place = q }))) (sym (text_of_row v s))
      ∙ ap (λ j. with_keeping (moved_texts j (text_of j s) (Some p) q) s (Alive (record { u = area_resized (area_of j s) d n; image = image_resized (image_of j s) d n; place = q }))) view
      ∙ ap (λ o. with_keeping (moved_texts k (text_of k s) o q) s (Alive (record { u = area_resized (area_of k s) d n; image = image_resized (image_of k s) d n; place = q }))) (sym stood) in
      let good : Stands now core_new swap_one (with_image_moved k s (area_resized (area_of k s) d n) (image_resized (image_of k s) d n) (Some q)) = record {
        sound = two.sound;
        maps = two.maps;
        counted = moved_counted v s (sized_row r q d n) p q r.text g.low c refl refl g.is refl loaded_there g.used;
        kept = kept;
        told = subst AreTold (sym kept) (told_resized k s d n (text_of k s) (place_of k s) q has segments (subst AreTold view told));
      } in
      subst (λ x. Stands x core_new swap_one (with_image_moved k s (area_resized (area_of k s) d n) (image_resized (image_of k s) d n) (Some q))) (sym same) good
    where
      stands_at : place_of k s ≡ Some p
      stands_at = sym (place_is v k s row view here) ∙ ap place_by is

pub moved_long : (texts : List (Option TextRow)) (x : Option ℕ) (from : Option Place) (to : Place) → length (moved_entries texts x from to) ≡ length texts
moved_long texts None from to = refl
moved_long texts (Some t) from to = length-set texts t (Some (moved_row from to (text_row texts t)))

-- A slot that doesn't grow keeps its place, and one that grows gets another.
pub expanded_cut : (k : Kept) (s n : ℕ) → n ≤ clicks_of (area_of k s) → expanded k s n ≡ place_of k s
unfolding expanded
expanded_cut k s n l = ap (λ b. cond b (place_of k s) (placed k s n)) (le-leb n (clicks_of (area_of k s)) l)

pub expanded_grown : (k : Kept) (s n : ℕ) → clicks_of (area_of k s) < n → expanded k s n ≡ placed k s n
unfolding expanded
expanded_grown k s n l = ap (λ b. cond b (place_of k s) (placed k s n)) (lt-leb n (clicks_of (area_of k s)) l)

stays_moved : (k : Kept) (x : Option ℕ) (p : Place) → moved_texts k x (Some p) p ≡ k
stays_moved k None p = refl
stays_moved k (Some t) (Core c) = same_shared k t
stays_moved k (Some t) (Swap b) = same_shared k t

pub moved_here : (k : Kept) (s : ℕ) (p : Place) (u : UArea) (m : Image) → place_of k s ≡ Some p → with_image_at k s u m (Some p) ≡ with_image_moved k s u m (Some p)
moved_here k s p u m at = ap (λ j. with_image_at j s u m (Some p)) (sym (stays_moved k (text_of k s) p)) ∙ ap (λ o. with_image_at (moved_texts k (text_of k s) o p) s u m (Some p)) (sym at)
