-- An image goes out of core, and leaves its text there, if others use it.
use Rattle.std.proofs.Common.{◌≡◌, ◌≢◌, ℕ, ◌+◌, ◌-◌, ◌*◌, ◌<◌, ◌≤◌, ◌==◌, ◌&&◌, ◌||◌, not, inl, inr, List, length, set, cond, Bool, true, false, Option, Some, None, IsSome, refl, sym, ap, subst, ◌∙◌, arith}
use Rattle.std.proofs.lemmas.Bool.{both_ways, false_from_ne_true, cases_lt, cases_eq, ne_eqb, eqb-true, eqb-false, eq-eqb}
use Rattle.std.proofs.lemmas.List.{get_or-set_same, get_or-set_other, get_or_past, length-set}
use Rattle.std.proofs.lemmas.Option.{none-some, same_Some}
use Rattle.v6_base.specs.declared.entry.Place.{Place}
use Rattle.v6_base.specs.declared.entry.Place.TheVariants.{Core, Swap}
use Rattle.text_tab.specs.declared.row.TextRow.{TextRow}
use Rattle.text_tab.specs.Table.{text_at, unloaded, with_change, row_of as text_row_of, row_at as text_row, IsUsed}
use Rattle.map_fit.specs.declared.holes.Hole.{Hole}
use Rattle.map_fit.specs.Fit.{Range}
use Rattle.map_fit.specs.Free.{is_free, is_within, IsMap}
use Rattle.image_keep.specs.declared.row.State.TheVariants as state
use Rattle.image_keep.specs.declared.row.Row.{Row}
use Rattle.core_mem.specs.Bytes.{part, over}
use Rattle.image_keep.specs.Kept.{Kept, Keeping, keeping, with_keeping, with_shared, text_of, at_place, changed, area_of, clicks_of}
use Rattle.image_keep.specs.Memory.{Stock, row_at, at_row, swap_at, place_at, place_size, clicks_in, row_spot, out_spot, in_spot, Owner, RowOf, OutOf, InOf, spot, AreApart, text_in, shared_in, kept_of, IsIn, IsText, IsSound}
use Rattle.image_keep.specs.Places.{blocks, swap_fit, core_taken}
use Rattle.image_keep.specs.Maps.{AreMaps, click, core_units, swap_units}
use Rattle.image_keep.specs.Moves.{leave_texts, leave_shared, last_units, leaving_units, swapped_out}
use Rattle.image_keep.specs.Counts.{IsCounted, is_text, is_in_core, has_text, has_loaded}
use Rattle.image_keep.proofs.Writes.{put_row, put_kept, turned, in_loaded}
use Rattle.image_keep.proofs.Entries.{put_text, text_counted, text_out, text_low, same_in}
use Rattle.image_keep.proofs.Places.{slot_at, shared_at, swap_found, IsFound, core_map_is}
use Rattle.image_keep.proofs.Moves.{Moves, moves, moved_line, off_of}
use Rattle.image_keep.proofs.SwapIn.{text_of_row, clicks_are}
use Rattle.image_keep.proofs.Maps.{maps_put, tells_click}
use Rattle.image_keep.proofs.Leaving.{entry_kept}
use Rattle.image_keep.proofs.TextMaps.{maps_same, text_leaves}
use Rattle.image_keep.proofs.Facts.{few_taken}
use Rattle.image_keep.proofs.Counting.{one, Counts, counted, count_at, not_same}

-- maps with the same units
pub maps_eq : (v : Stock) (core_map swap_map core_new : List Hole) → AreMaps v core_map swap_map → ((x : ℕ) → is_free core_new x ≡ is_free core_map x) → AreMaps v core_new swap_map
maps_eq v core_map swap_map core_new maps e = record {
  core = λ x. ((λ f. (maps.core x).0 (sym (e x) ∙ f)), (λ f. e x ∙ (maps.core x).1 f));
  swap = maps.swap;
}

abbrev pub leave : Stock → Option ℕ → Stock
leave v x = record v { texts = leave_texts v.texts x }

pub record LeftCore (v : Stock) (x : Option ℕ) (core_new swap_map : List Hole) : Type 0 where
  pub sound : IsSound (leave v x)
  pub maps : AreMaps (leave v x) core_new swap_map
  pub kept : kept_of (leave v x) ≡ leave_shared (kept_of v) x

or_no : (b : Bool) → (b || false) ≡ b
or_no true = refl
or_no false = refl

-- an entry with one user fewer in core, but not the last
pub still_spots : (v : Stock) (t : ℕ) (row new : TextRow) → text_at v.texts t ≡ Some row → new.clicks ≡ row.clicks → new.block ≡ row.block → new.at ≡ row.at → (new.loaded == 0) ≡ (row.loaded == 0)
    → (p : Owner) → spot (put_text v t (Some new) v.line) p ≡ spot v p
still_spots v t row new here c b a l (RowOf u) = refl
still_spots v t row new here c b a l (OutOf u) = elim (cases_eq u t) [
  | inl e ↦ ap (λ j. out_spot v.core (text_at (set v.texts t (Some new)) j)) e ∙ ap (out_spot v.core) (get_or-set_same v.texts t (Some new) None (text_low v.texts t row here)) ∙ rw (b, c) refl ∙ sym (ap (out_spot v.core) here) ∙ ap (λ j. out_spot v.core (text_at v.texts j)) (sym e)
  | inr ne ↦ ap (out_spot v.core) (get_or-set_other v.texts t u (Some new) None ne)
]
still_spots v t row new here c b a l (InOf u) = elim (cases_eq u t) [
  | inl e ↦ ap (λ j. in_spot (text_at (set v.texts t (Some new)) j)) e ∙ ap in_spot (get_or-set_same v.texts t (Some new) None (text_low v.texts t row here)) ∙ same_in row new c a l ∙ sym (ap in_spot here) ∙ ap (λ j. in_spot (text_at v.texts j)) (sym e)
  | inr ne ↦ ap in_spot (get_or-set_other v.texts t u (Some new) None ne)
]

left_row : (v : Stock) (t : ℕ) (row : TextRow) (core_map core_new swap_map : List Hole) → IsSound v → AreMaps v core_map swap_map → text_at v.texts t ≡ Some row → 0 < row.loaded
    → ((x : ℕ) → is_free core_new x ≡ (is_free core_map x || last_units row x))
    → IsSound (put_text v t (Some (unloaded row)) v.line) × AreMaps (put_text v t (Some (unloaded row)) v.line) core_new swap_map
    × (kept_of (put_text v t (Some (unloaded row)) v.line) ≡ with_shared (kept_of v) t (Some (record { row = unloaded row; bytes = text_in v.line v.core (Some row) })))
left_row v t row core_map core_new swap_map h maps here some step = by (row.loaded == 1) refl step
  where
    by : (b : Bool) → (row.loaded == 1) ≡ b → ((x : ℕ) → is_free core_new x ≡ (is_free core_map x || cond b (is_within row.at row.clicks x) false))
        → IsSound (put_text v t (Some (unloaded row)) v.line) × AreMaps (put_text v t (Some (unloaded row)) v.line) core_new swap_map
        × (kept_of (put_text v t (Some (unloaded row)) v.line) ≡ with_shared (kept_of v) t (Some (record { row = unloaded row; bytes = text_in v.line v.core (Some row) })))
    by true e s =
        let last : row.loaded ≡ 1 = eqb-true row.loaded 1 e in
        let none : row.loaded - 1 ≡ 0 = omega (arith, last) in
        (text_out v t row (unloaded row) h here refl refl none, text_leaves v t row (unloaded row) core_map core_new swap_map h maps here refl refl none (λ z. omega (arith, z, last)) s, entry_kept v t row (unloaded row) here refl refl)
    by false e s =
        let ne : row.loaded ≡ 1 → ⊥ = eqb-false row.loaded 1 e in
        let zeros : (row.loaded - 1 == 0) ≡ (row.loaded == 0) = ne_eqb (row.loaded - 1) 0 (λ z. ne (omega (arith, z, some))) ∙ sym (ne_eqb row.loaded 0 (λ z. omega (arith, z, some))) in (
          text_counted v t row (unloaded row) h here refl refl refl zeros,
          maps_same v (put_text v t (Some (unloaded row)) v.line) core_new swap_map refl (still_spots v t row (unloaded row) here refl refl refl zeros) (maps_eq v core_map swap_map core_new maps (λ x. s x ∙ or_no (is_free core_map x))),
          entry_kept v t row (unloaded row) here refl refl,
        )

pub left_core : (v : Stock) (x : Option ℕ) (core_map core_new swap_map : List Hole) → IsSound v → AreMaps v core_map swap_map → ((t : ℕ) → x ≡ Some t → IsUsed v.texts t) → ((t : ℕ) → x ≡ Some t → 0 < (text_row v.texts t).loaded)
    → ((y : ℕ) → is_free core_new y ≡ (is_free core_map y || leaving_units v.texts x y)) → LeftCore v x core_new swap_map
left_core v None core_map core_new swap_map h maps used some step = record { sound = h; maps = maps_eq v core_map swap_map core_new maps (λ y. step y ∙ or_no (is_free core_map y)); kept = refl }
left_core v (Some t) core_map core_new swap_map h maps used some step = by (text_at v.texts t) refl (used t refl)
  where
    by : (o : Option TextRow) → text_at v.texts t ≡ o → IsSome o → LeftCore v (Some t) core_new swap_map
    by None e u = absurd (cc u)
    by (Some row) e u =
        let more : 0 < row.loaded = subst (λ o. 0 < (text_row_of o).loaded) e (some t refl) in
        let k = left_row v t row core_map core_new swap_map h maps e more (λ y. step y ∙ ap (λ o. is_free core_map y || last_units (text_row_of o) y) e) in
        let same : (let z : Stock = leave v (Some t) in z) ≡ put_text v t (Some (unloaded row)) v.line = ap (λ o. record v { texts = set v.texts t (Some (unloaded (text_row_of o))) }) e in
        record {
          sound = subst IsSound (sym same) k.0;
          maps = subst (λ z. AreMaps z core_new swap_map) (sym same) k.1;
          kept = ap kept_of same ∙ k.2 ∙ sym (ap (λ o. with_shared (kept_of v) t (changed unloaded o)) (shared_at v t ∙ ap (shared_in v.line v.core) e));
        }

-- The row goes first, then it leaves its text.
pub record GoneOut (v now : Stock) (k : Kept) (s b : ℕ) (core_new swap_new : List Hole) : Type 0 where
  pub sound : IsSound now
  pub maps : AreMaps now core_new swap_new
  pub counted : IsCounted now.rows now.texts
  pub kept : kept_of now ≡ swapped_out k s (Some b)

abbrev pub out_row : Stock → ℕ → ℕ → ℕ → Stock
out_row v s c b = put_row v s (at_row (row_at v.rows s) (Swap b)) (moved_line v (row_at v.rows s) (Core c) (Swap b))

pub row_out : (v : Stock) (s c b : ℕ) (core_map swap_map core_one swap_one : List Hole) → IsSound v → AreMaps v core_map swap_map → s < length v.rows → (row_at v.rows s).state ≡ state.Alive (Core c)
    → IsFound v (swap_at v.core b) (512 * blocks (clicks_in (row_at v.rows s))) 4000 4871 b (blocks (clicks_in (row_at v.rows s)))
    → ((x : ℕ) → is_free core_one x ≡ ((is_free core_map x && not false) || core_units (row_at v.rows s).state (clicks_in (row_at v.rows s)) x))
    → ((x : ℕ) → is_free swap_one x ≡ ((is_free swap_map x && not (is_within b (blocks (clicks_in (row_at v.rows s))) x)) || swap_units (row_at v.rows s).state (clicks_in (row_at v.rows s)) x))
    → IsSound (out_row v s c b) × AreMaps (out_row v s c b) core_one swap_one × (kept_of (out_row v s c b) ≡ with_keeping (kept_of v) s (at_place (Swap b) (keeping (kept_of v) s)))
row_out v s c b core_map swap_map core_one swap_one h maps l is found step_core step_swap =
    let r : Row = row_at v.rows s in
    let low = found.low in
    let high = found.high in
    let inside : IsIn v.core (Swap b) (clicks_in r) = (low, omega (arith, high)) in
    let m : Moves v s r (Core c) (Swap b) = moves v s r (Core c) (Swap b) h l is (h.rows s) inside (λ p ne. found.free p) in (
      m.sound,
      maps_put v s (at_row r (Swap b)) (moved_line v r (Core c) (Swap b)) core_map swap_map core_one swap_one h l maps inside (turned (row_spot v.core (at_row r (Swap b))) (spot v (RowOf s)) (found.free (RowOf s))) step_core step_swap,
      put_kept v s (at_row r (Swap b)) (moved_line v r (Core c) (Swap b)) (place_at v.core (Swap b)) (place_at v.core (Swap b) + place_size (Swap b) (clicks_in r)) m.wrote
          (λ p ne. off_of (record { at = swap_at v.core b; size = 512 * blocks (clicks_in r) }) (spot v p) (swap_at v.core b + 512 * blocks (clicks_in r)) (found.free p) refl) refl
          ∙ ap (with_keeping (kept_of v) s) (m.means ∙ ap (at_place (Swap b)) (sym (slot_at v s))),
    )

-- a loaded row's text has a user in core
pub loaded_some : (v : Stock) (s c t : ℕ) → IsCounted v.rows v.texts → s < length v.rows → (row_at v.rows s).state ≡ state.Alive (Core c) → (row_at v.rows s).text ≡ Some t → 0 < (text_row v.texts t).loaded
loaded_some v s c t counts l is has =
    let e = counts.loaded t (text_row v.texts t) (there (text_at v.texts t) (counts.used s t has)) in
    let yes : has_loaded t (row_at v.rows s) ≡ true = ap (λ st. is_in_core st && is_text t (row_at v.rows s).text) is ∙ ap (is_text t) has ∙ eq-eqb t t refl in
    let k = count_at (has_loaded t) v.rows s l in
    at_least (has_loaded t (row_at v.rows s)) _ _ yes e k
  where
    there : (o : Option TextRow) → IsSome o → o ≡ Some (text_row_of o)
    there None g = absurd (cc g)
    there (Some r) g = refl

    at_least : (b : Bool) (n m : ℕ) → b ≡ true → n ≡ m → one b ≤ m → 0 < n
    at_least true n m e f g = omega (arith, f, g)
    at_least false n m e f g = absurd (cc e)

gives : (a b : Bool) → (a || b) ≡ ((a && not false) || b)
gives true b = refl
gives false b = refl

swapped : (k : Kept) (x : Option ℕ) (s : ℕ) (y : Keeping) → leave_shared (with_keeping k s y) x ≡ with_keeping (leave_shared k x) s y
swapped k None s y = refl
swapped k (Some t) s y = refl

-- the counts, when a row has left core
out_counted : (v : Stock) (s c b : ℕ) → IsCounted v.rows v.texts → s < length v.rows → (row_at v.rows s).state ≡ state.Alive (Core c)
    → IsCounted (set v.rows s (at_row (row_at v.rows s) (Swap b))) (leave_texts v.texts (row_at v.rows s).text)
out_counted v s c b counts l is = counted v.rows v.texts (leave_texts v.texts (row_at v.rows s).text) s (at_row (row_at v.rows s) (Swap b)) l counts (by (row_at v.rows s).text refl)
  where
    was_in : (t : ℕ) → has_loaded t (row_at v.rows s) ≡ is_text t (row_at v.rows s).text
    was_in t = ap (λ st. is_in_core st && is_text t (row_at v.rows s).text) is

    by : (x : Option ℕ) → (row_at v.rows s).text ≡ x → Counts v.rows v.texts (leave_texts v.texts x) s (at_row (row_at v.rows s) (Swap b))
    by None e = record {
      used = λ t f. absurd (none-some t (sym e ∙ f));
      stays = λ u t ne f g. g;
      was = λ t new f. (new, f, refl, (let y : is_text t (row_at v.rows s).text ≡ false = ap (is_text t) e in rw (was_in t, y) refl));
    }
    by (Some k) e = record {
      used = λ t f. (let d : k ≡ t = same_Some k t (sym e ∙ f) in keeps_used t (counts.used s t f));
      stays = λ u t ne f g. keeps_used t g;
      was = λ t new f. entry t new f;
    }
      where
        here : IsSome (text_at v.texts k)
        here = counts.used s k e

        past : (o : Option TextRow) → o ≡ None → IsSome o → ⊥
        past None d g = cc g
        past (Some r) d g = cc d

        entry_low : k < length v.texts
        entry_low = elim (cases_lt k (length v.texts)) [ inl y ↦ y | inr y ↦ absurd (past (text_at v.texts k) (get_or_past v.texts k None y) here) ]

        now : text_at (with_change v.texts k unloaded) k ≡ Some (unloaded (text_row_of (text_at v.texts k)))
        now = get_or-set_same v.texts k (Some (unloaded (text_row_of (text_at v.texts k)))) None entry_low

        some_is : (r : TextRow) → IsSome (Some r)
        some_is r = refl

        keeps_used : (t : ℕ) → IsUsed v.texts t → IsUsed (with_change v.texts k unloaded) t
        keeps_used t g = elim (cases_eq t k) [
          | inl d ↦ subst (λ j. IsUsed (with_change v.texts k unloaded) j) (sym d) (subst IsSome (sym now) (some_is (unloaded (text_row_of (text_at v.texts k)))))
          | inr ne ↦ subst IsSome (sym (get_or-set_other v.texts k t (Some (unloaded (text_row_of (text_at v.texts k)))) None ne)) g
        ]

        was_there : (o : Option TextRow) → IsSome o → o ≡ Some (text_row_of o)
        was_there None g = absurd (cc g)
        was_there (Some r) g = refl

        entry : (t : ℕ) (new : TextRow) → text_at (with_change v.texts k unloaded) t ≡ Some new → (old : TextRow) × (text_at v.texts t ≡ Some old)
            × (new.users + one (has_text t (row_at v.rows s)) ≡ old.users + one (has_text t (at_row (row_at v.rows s) (Swap b))))
            × (new.loaded + one (has_loaded t (row_at v.rows s)) ≡ old.loaded + one (has_loaded t (at_row (row_at v.rows s) (Swap b))))
        entry t new f = elim (cases_eq t k) [
          | inl d ↦
              (let same : new ≡ unloaded (text_row_of (text_at v.texts k)) = same_Some new (unloaded (text_row_of (text_at v.texts k))) (sym f ∙ ap (text_at (with_change v.texts k unloaded)) d ∙ now) in
              let u : new.users ≡ (text_row_of (text_at v.texts k)).users = ap (λ (r : TextRow). r.users) same in
              let z : new.loaded ≡ (text_row_of (text_at v.texts k)).loaded - 1 = ap (λ (r : TextRow). r.loaded) same in
              let more = loaded_some v s c k counts l is e in
              let y : is_text t (row_at v.rows s).text ≡ true = ap (is_text t) e ∙ eq-eqb k t (sym d) in
              (text_row_of (text_at v.texts k), ap (text_at v.texts) d ∙ was_there (text_at v.texts k) here, rw u refl, rw (was_in t, y, z) (omega (arith, more))))
          | inr ne ↦
              (let y : is_text t (row_at v.rows s).text ≡ false = ap (is_text t) e ∙ not_same k t ne in
              (new, sym (get_or-set_other v.texts k t (Some (unloaded (text_row_of (text_at v.texts k)))) None ne) ∙ f, refl, rw (was_in t, y) refl))
        ]

-- all that a call to go out does
pub gone_out : (v : Stock) (k : Kept) (s c b from to : ℕ) (core_map swap_map core_one core_new swap_one swap_new : List Hole) (row : Row) (n : ℕ) (line : List ℕ) (texts : List (Option TextRow)) (rows : List Row)
    → kept_of v ≡ k → IsSound v → AreMaps v core_map swap_map → IsCounted v.rows v.texts → s < length v.rows → (row_at v.rows s).state ≡ state.Alive (Core c) → row ≡ row_at v.rows s → n ≡ clicks_in row
    → swap_fit k (blocks n) ≡ Some b → 64 * from ≡ place_at v.core (Core c) → 64 * to ≡ swap_at v.core b
    → ((x : ℕ) → is_free swap_one x ≡ (is_free swap_map x && not (is_within b (blocks n) x)))
    → ((x : ℕ) → is_free core_one x ≡ (is_free core_map x || core_units row.state (clicks_in row) x))
    → ((x : ℕ) → is_free swap_new x ≡ (is_free swap_one x || swap_units row.state (clicks_in row) x))
    → ((x : ℕ) → is_free core_new x ≡ (is_free core_one x || leaving_units v.texts row.text x))
    → line ≡ over v.line (64 * to) (part v.line (64 * from) (64 * n)) → texts ≡ leave_texts v.texts row.text → rows ≡ set v.rows s (at_row (row_at v.rows s) (Swap b))
    → GoneOut v (record { line = line; core = v.core; rows = rows; texts = texts }) k s b core_new swap_new
unfolding swapped_out
gone_out v k s c b from to core_map swap_map core_one core_new swap_one swap_new row n line texts rows view h maps counts l is at size fit f t first step_core step_swap step_text line_is texts_is rows_is =
    let r : Row = row_at v.rows s in
    let z : n ≡ clicks_in r = size ∙ ap clicks_in at in
    let found : IsFound v (swap_at v.core b) (512 * blocks (clicks_in r)) 4000 4871 b (blocks (clicks_in r)) = swap_found v b (blocks (clicks_in r)) h (ap (λ j. swap_fit j (blocks (clicks_in r))) view ∙ ap (λ i. swap_fit k (blocks i)) (sym z) ∙ fit) in
    let went = row_out v s c b core_map swap_map core_one swap_new h maps l is found
    (λ x. step_core x ∙ gives (is_free core_map x) (core_units row.state (clicks_in row) x) ∙ ap (λ (q : Row). (is_free core_map x && not false) || core_units q.state (clicks_in q) x) at)
    (λ x. step_swap x ∙ ap (λ y. y || swap_units row.state (clicks_in row) x) (first x ∙ ap (λ i. is_free swap_map x && not (is_within b (blocks i) x)) z) ∙ ap (λ (q : Row). (is_free swap_map x && not (is_within b (blocks (clicks_in r)) x)) || swap_units q.state (clicks_in q) x) at) in
    let v1 : Stock = out_row v s c b in
    let left : LeftCore v1 r.text core_new swap_new = left_core v1 r.text core_one core_new swap_new went.0 went.1 (λ u e. counts.used s u e) (λ u e. loaded_some v s c u counts l is e)
    (λ y. step_text y ∙ ap (λ (q : Row). is_free core_one y || leaving_units v.texts q.text y) at) in
    let line2 : line ≡ moved_line v r (Core c) (Swap b) = line_is ∙ ap (λ i. over v.line i (part v.line (64 * from) (64 * n))) t ∙ ap (λ i. over v.line (swap_at v.core b) (part v.line i (64 * n))) f ∙ ap (λ i. over v.line (swap_at v.core b) (part v.line (64 * (c - 1)) (64 * i))) z in
    let texts2 : texts ≡ leave_texts v.texts r.text = texts_is ∙ ap (λ (q : Row). leave_texts v.texts q.text) at in
    let now : Stock = leave v1 r.text in
    let same : (let x : Stock = record { line = line; core = v.core; rows = rows; texts = texts } in x) ≡ now = cc in
    let keeps : (x : Option ℕ) → kept_of (leave v1 x) ≡ leave_shared (kept_of v1) x → kept_of (leave v1 x) ≡ with_keeping (leave_shared (kept_of v) x) s (at_place (Swap b) (keeping (kept_of v) s)) =
    (λ x e. e ∙ ap (λ j. leave_shared j x) went.2 ∙ swapped (kept_of v) x s (at_place (Swap b) (keeping (kept_of v) s))) in
    let good : GoneOut v now k s b core_new swap_new = record {
      sound = left.sound;
      maps = left.maps;
      counted = out_counted v s c b counts l is;
      kept = keeps r.text left.kept ∙ ap (λ x. with_keeping (leave_shared (kept_of v) x) s (at_place (Swap b) (keeping (kept_of v) s))) (sym (text_of_row v s))
          ∙ ap (λ j. with_keeping (leave_shared j (text_of j s)) s (at_place (Swap b) (keeping j s))) view;
    } in
    subst (λ x. GoneOut v x k s b core_new swap_new) (sym same) good

-- the clicks of a text whose last user leaves core are not free
pub text_taken : (v : Stock) (core_map swap_map : List Hole) (x : Option ℕ) → IsSound v → AreMaps v core_map swap_map → ((t : ℕ) → x ≡ Some t → IsUsed v.texts t) → (y : ℕ) → leaving_units v.texts x y ≡ true → is_free core_map y ≡ false
text_taken v core_map swap_map None h maps used y e = absurd (both_ways false refl e)
text_taken v core_map swap_map (Some t) h maps used y e = by (text_at v.texts t) refl (used t refl) e
  where
    by : (o : Option TextRow) → text_at v.texts t ≡ o → IsSome o → last_units (text_row v.texts t) y ≡ true → is_free core_map y ≡ false
    by None d u g = absurd (cc u)
    by (Some row) d u g = at (row.loaded == 1) refl (subst (λ o. last_units (text_row_of o) y ≡ true) d g)
      where
        at : (b : Bool) → (row.loaded == 1) ≡ b → cond b (is_within row.at row.clicks y) false ≡ true → is_free core_map y ≡ false
        at false q z = absurd (both_ways false refl z)
        at true q z = false_from_ne_true (is_free core_map y) (λ f.
            let m = (maps.core y).0 f in
            let some : row.loaded ≢ 0 = (λ j. let k = eqb-true row.loaded 1 q in omega (arith, j, k)) in
            let w = (h.texts t row d).within some in
            let place : spot v (InOf t) ≡ record { at = 64 * (row.at - 1); size = 64 * row.clicks } = ap in_spot d ∙ in_loaded row some in
            (tells_click row.at row.clicks y w.0 m.0).on z (subst (AreApart (click y)) place (m.2 (InOf t))))

pub record OutText (texts : List (Option TextRow)) (x : Option ℕ) (core_one : List Hole) : Type 0 where
  pub used : (t : ℕ) → x ≡ Some t → IsUsed texts t
  pub some : (t : ℕ) → x ≡ Some t → 0 < (text_row texts t).loaded
  pub clicks : (t : ℕ) → x ≡ Some t → 0 < (text_row texts t).clicks
  pub small : (t : ℕ) → x ≡ Some t → (text_row texts t).at + (text_row texts t).clicks ≤ 65535
  pub taken : (y : ℕ) → leaving_units texts x y ≡ true → is_free core_one y ≡ false
  pub room : length core_one < 100

pub out_text : (v : Stock) (k : Kept) (s c b : ℕ) (core_map swap_map core_one swap_one swap_new : List Hole) (row : Row) (n : ℕ)
    → kept_of v ≡ k → IsSound v → AreMaps v core_map swap_map → IsCounted v.rows v.texts → length v.texts ≡ 40 → s < length v.rows → (row_at v.rows s).state ≡ state.Alive (Core c) → row ≡ row_at v.rows s → n ≡ clicks_in row → swap_fit k (blocks n) ≡ Some b
    → ((x : ℕ) → is_free swap_one x ≡ (is_free swap_map x && not (is_within b (blocks n) x)))
    → ((x : ℕ) → is_free core_one x ≡ (is_free core_map x || core_units row.state (clicks_in row) x))
    → ((x : ℕ) → is_free swap_new x ≡ (is_free swap_one x || swap_units row.state (clicks_in row) x))
    → ((taken : List Range) (first last : ℕ) → IsMap core_one taken first last → length core_one ≤ length taken + 1) → OutText v.texts row.text core_one
out_text v k s c b core_map swap_map core_one swap_one swap_new row n view h maps counts table l is at size fit first step_core step_swap few =
    let r : Row = row_at v.rows s in
    let z : n ≡ clicks_in r = size ∙ ap clicks_in at in
    let found : IsFound v (swap_at v.core b) (512 * blocks (clicks_in r)) 4000 4871 b (blocks (clicks_in r)) = swap_found v b (blocks (clicks_in r)) h (ap (λ j. swap_fit j (blocks (clicks_in r))) view ∙ ap (λ i. swap_fit k (blocks i)) (sym z) ∙ fit) in
    let went = row_out v s c b core_map swap_map core_one swap_new h maps l is found
    (λ x. step_core x ∙ gives (is_free core_map x) (core_units row.state (clicks_in row) x) ∙ ap (λ (q : Row). (is_free core_map x && not false) || core_units q.state (clicks_in q) x) at)
    (λ x. step_swap x ∙ ap (λ y. y || swap_units row.state (clicks_in row) x) (first x ∙ ap (λ i. is_free swap_map x && not (is_within b (blocks i) x)) z) ∙ ap (λ (q : Row). (is_free swap_map x && not (is_within b (blocks (clicks_in r)) x)) || swap_units q.state (clicks_in q) x) at) in
    let v1 : Stock = out_row v s c b in
    let most = few_taken v1 (went.0).slots table in
    let a = most.0 in
    let d = few (core_taken (kept_of v1)) 1 v.core (core_map_is v1 core_one swap_new went.0 went.1) in
    let same = ap (λ (q : Row). q.text) at in
    record {
      used = λ t e. counts.used s t (sym same ∙ e);
      some = λ t e. loaded_some v s c t counts l is (sym same ∙ e);
      clicks = λ t e. (own t (sym same ∙ e)).some;
      small = λ t e. (let w = (own t (sym same ∙ e)).within (λ j. (let m = loaded_some v s c t counts l is (sym same ∙ e) in omega (arith, j, m))) in let i = w.1 in let j = h.most in omega (arith, i, j));
      taken = λ y e. text_taken v1 core_one swap_new row.text went.0 went.1 (λ t f. counts.used s t (sym same ∙ f)) y e;
      room = omega (arith, a, d);
    }
  where
    there : (o : Option TextRow) → IsSome o → o ≡ Some (text_row_of o)
    there None g = absurd (cc g)
    there (Some q) g = refl

    own : (t : ℕ) → (row_at v.rows s).text ≡ Some t → IsText v.line v.core (text_row v.texts t)
    own t e = h.texts t (text_row v.texts t) (there (text_at v.texts t) (counts.used s t e))

pub out_none : (k : Kept) (s : ℕ) → swapped_out k s None ≡ k
unfolding swapped_out
out_none k s = refl

pub out_clicks : (v : Stock) (k : Kept) (s : ℕ) (place : Place) (row : Row) (n : ℕ) → kept_of v ≡ k → IsSound v → (row_at v.rows s).state ≡ state.Alive place → row ≡ row_at v.rows s → n ≡ clicks_in row → clicks_of (area_of k s) ≡ n
out_clicks v k s place row n view h is at size = ap (λ j. clicks_of (area_of j s)) (sym view) ∙ clicks_are v s place h is ∙ ap clicks_in (sym at) ∙ sym size

pub out_long : (texts : List (Option TextRow)) (x : Option ℕ) → length (leave_texts texts x) ≡ length texts
out_long texts None = refl
out_long texts (Some t) = length-set texts t (Some (unloaded (text_row texts t)))
