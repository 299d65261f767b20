-- A slot leaves its text, as the call knows it.
use Rattle.std.proofs.Common.{◌≡◌, ◌≢◌, ℕ, ◌+◌, ◌-◌, ◌*◌, ◌<◌, ◌≤◌, ◌==◌, ◌&&◌, ◌||◌, inl, inr, List, length, get_or, set, cond, Bool, true, false, count_by, Option, Some, None, IsSome, refl, sym, ap, subst, ◌∙◌, arith}
use Rattle.std.proofs.lemmas.Bool.{cases_lt, cases_eq, both_ways, false_from_ne_true, eqb-true, eq-eqb}
use Rattle.std.proofs.lemmas.List.{get_or-set_same, get_or-set_other, get_or_past, set-set, length-map, map-set}
use Rattle.std.proofs.lemmas.Option.{none-some, same_Some}
use Rattle.v6_base.specs.declared.entry.Place.TheVariants.{Core, Swap}
use Rattle.core_mem.specs.Bytes.{part}
use Rattle.u_area.specs.declared.area.UArea.{UArea}
use Rattle.u_area.specs.Area.{area_bytes, IsSized}
use Rattle.u_area.proofs.AreaLemmas.{fetched_is}
use Rattle.map_fit.specs.declared.holes.Hole.{Hole}
use Rattle.map_fit.specs.Free.{is_free, is_within}
use Rattle.text_tab.specs.declared.row.TextRow.{TextRow}
use Rattle.text_tab.specs.declared.left.Left.{Left}
use Rattle.text_tab.specs.declared.left.Left.TheVariants as left_is
use Rattle.text_tab.specs.Table.{text_at, unloaded, left, remaining, detached, row_at as text_row, row_of as text_row_of, IsUsed}
use Rattle.image_keep.specs.declared.row.State.{State}
use Rattle.image_keep.specs.declared.row.State.TheVariants as state
use Rattle.image_keep.specs.declared.row.Row.{Row}
use Rattle.image_keep.specs.Kept.{Kept, Shared, keeping, with_keeping, shared, with_shared, text_of, with_text_of, area_of, changed}
use Rattle.image_keep.specs.Memory.{Stock, no_row, row_at, given_text, swap_at, place_at, is_alive, OutOf, spot, out_spot, AreApart, text_in, text_for, keeping_by, shared_in, kept_of, IsText, IsSound, keeping_in}
use Rattle.image_keep.specs.Places.{blocks}
use Rattle.image_keep.specs.Maps.{AreMaps, block}
use Rattle.image_keep.specs.Moves.{leave_texts, leave_shared, leaving_units}
use Rattle.image_keep.specs.Counts.{IsCounted, is_text, is_in_core, has_text, has_loaded}
use Rattle.image_keep.specs.Kept.{bytes_in}
use Rattle.image_keep.specs.SharedTexts.{textless, is_loaded, left_core, with_row, shared_left, with_left_text, row_of_text, row_in}
use Rattle.image_keep.specs.Leaves.{textless_at, textless_line, IsStoredBy, IsLongBy, loaded_text, gone_units}
use Rattle.image_keep.proofs.Writes.{put_row, wrote_none}
use Rattle.image_keep.proofs.Entries.{put_text, text_counted, text_gone, text_low}
use Rattle.image_keep.proofs.Places.{slot_at, shared_at}
use Rattle.image_keep.proofs.Own.{area_read}
use Rattle.image_keep.proofs.SharedTexts.{text_row_sound}
use Rattle.image_keep.proofs.Leaving.{leaves_row, put_text_kept, entry_kept, gone_kept, nobody_else}
use Rattle.image_keep.proofs.Maps.{tells_block}
use Rattle.image_keep.proofs.TextMaps.{maps_same, text_goes}
use Rattle.image_keep.proofs.SwapOut.{leave, left_core as text_unloaded, LeftCore, still_spots, text_taken, loaded_some}
use Rattle.image_keep.proofs.Counting.{one, count_set, count_at, counted, not_same}
use Rattle.image_keep.proofs.Ended.{Goes}
use Rattle.image_keep.proofs.TextSearch.{row_is}
use Rattle.image_keep.proofs.SwapIn.{text_of_row}
use Rattle.image_keep.proofs.NewText.{row_text, none_counted, text_is, no_load, text_row_spots}

-- The row.
plain_means : (line : List ℕ) (core : ℕ) (text text2 : List ℕ) (st : State) (d k : ℕ) → is_alive st ≡ false → keeping_by line core text st d k ≡ textless (keeping_by line core text2 st d k)
unfolding keeping_by
plain_means line core text text2 state.Nothing d k e = refl
plain_means line core text text2 (state.Alive place) d k e = absurd (both_ways true e refl)
plain_means line core text text2 (state.Grave b) d k e = refl

abbrev pub left_stock : Stock → ℕ → Stock
left_stock v s = put_row v s (given_text (row_at v.rows s) None) (textless_line v.line v.core (row_at v.rows s).state)

pub row_left : (v : Stock) (s : ℕ) → IsSound v → s < length v.rows → IsLongBy v.line v.core (row_at v.rows s).state
    → IsSound (left_stock v s) × (kept_of (left_stock v s) ≡ with_text_of (with_keeping (kept_of v) s (textless (keeping (kept_of v) s))) s None)
row_left v s h l long = by (row_at v.rows s).state refl long
  where
    plain : is_alive (row_at v.rows s).state ≡ false
        → kept_of (put_row v s (given_text (row_at v.rows s) None) v.line) ≡ with_text_of (with_keeping (kept_of v) s (textless (keeping (kept_of v) s))) s None
    plain e =
        let r : Row = row_at v.rows s in
        put_text_kept v s (given_text r None) v.line 0 0 (wrote_none v.line 0 0) (λ p ne. inr (omega arith))
        ∙ ap (λ x. with_text_of (with_keeping (kept_of v) s x) s None)
        (plain_means v.line v.core (text_for v.line v.core v.texts None) (text_for v.line v.core v.texts r.text) r.state r.data_size r.stack_size e ∙ sym (ap textless (slot_at v s)))

    by : (st : State) → (row_at v.rows s).state ≡ st → IsLongBy v.line v.core st
        → IsSound (put_row v s (given_text (row_at v.rows s) None) (textless_line v.line v.core st))
        × (kept_of (put_row v s (given_text (row_at v.rows s) None) (textless_line v.line v.core st)) ≡ with_text_of (with_keeping (kept_of v) s (textless (keeping (kept_of v) s))) s None)
    by state.Nothing e big = (text_row_sound v s None h l, plain (ap is_alive e))
    by (state.Alive place) e big =
        let read = area_read v s place h e in
        let st = read.0 in
        let is : area_of (kept_of v) s ≡ st.0 = read.1 ∙ fetched_is (part v.line (place_at v.core place) 1024) st.0 st.1 st.2 in
        leaves_row v s place (area_bytes (textless_at v.line v.core place)) h l e (subst IsSized (sym is) st.1)
        (ap (λ (x : UArea). area_bytes (record x { text_size = 0 })) (sym read.1)) big
    by (state.Grave b) e big = (text_row_sound v s None h l, plain (ap is_alive e))

-- where the u area stands, it is one
pub stored_by : (v : Stock) (s : ℕ) → IsSound v → IsStoredBy v.line v.core (row_at v.rows s).state
stored_by v s h = by (row_at v.rows s).state refl
  where
    by : (st : State) → (row_at v.rows s).state ≡ st → IsStoredBy v.line v.core st
    by state.Nothing e = tt
    by (state.Alive place) e = (area_read v s place h e).0
    by (state.Grave b) e = tt

-- The entry.
maps_swap : (v : Stock) (core_map swap_map swap_new : List Hole) → AreMaps v core_map swap_map → ((x : ℕ) → is_free swap_new x ≡ is_free swap_map x) → AreMaps v core_map swap_new
maps_swap v core_map swap_map swap_new maps e = record {
  core = maps.core;
  swap = λ x. ((λ f. (maps.swap x).0 (sym (e x) ∙ f)), (λ f. e x ∙ (maps.swap x).1 f));
}

or_no : (b : Bool) → (b || false) ≡ b
or_no true = refl
or_no false = refl

pub record EntryLeft (w : Stock) (t : ℕ) (row : TextRow) (o : Option TextRow) (core_map swap_new : List Hole) : Type 0 where
  pub sound : IsSound (put_text w t o w.line)
  pub maps : AreMaps (put_text w t o w.line) core_map swap_new
  pub kept : kept_of (put_text w t o w.line) ≡ with_shared (kept_of w) t (with_row (text_in w.line w.core (Some row)) o)

pub entry_left : (w : Stock) (t : ℕ) (row : TextRow) (l : Left) (core_map swap_map swap_new : List Hole) → IsSound w → AreMaps w core_map swap_map → text_at w.texts t ≡ Some row
    → (l ≡ left_is.Gone → (row.loaded ≡ 0) × ((u : ℕ) → (row_at w.rows u).text ≢ Some t)) → ((x : ℕ) → is_free swap_new x ≡ (is_free swap_map x || gone_units l row x))
    → EntryLeft w t row (remaining l row) core_map swap_new
entry_left w t row left_is.Used core_map swap_map swap_new h maps here gone step =
    let new : TextRow = record row { users = row.users - 1 } in
    record {
      sound = text_counted w t row new h here refl refl refl refl;
      maps = maps_same w (put_text w t (Some new) w.line) core_map swap_new refl (still_spots w t row new here refl refl refl refl) (maps_swap w core_map swap_map swap_new maps (λ x. step x ∙ or_no (is_free swap_map x)));
      kept = entry_kept w t row new here refl refl;
    }
entry_left w t row left_is.Kept core_map swap_map swap_new h maps here gone step =
    let new : TextRow = record row { users = row.users - 1 } in
    record {
      sound = text_counted w t row new h here refl refl refl refl;
      maps = maps_same w (put_text w t (Some new) w.line) core_map swap_new refl (still_spots w t row new here refl refl refl refl) (maps_swap w core_map swap_map swap_new maps (λ x. step x ∙ or_no (is_free swap_map x)));
      kept = entry_kept w t row new here refl refl;
    }
entry_left w t row left_is.Gone core_map swap_map swap_new h maps here gone step =
    let g = gone refl in
    let low = text_low w.texts t row here in
    record {
      sound = text_gone w t h low;
      maps = text_goes w t row core_map swap_map swap_new h maps here g.0 step;
      kept = gone_kept w t low g.1;
    }

-- The table, when the slot's user in core has left.
in_core_is : (st : State) (y : Option ℕ) (t : ℕ) → loaded_text st y ≡ Some t → y ≡ Some t
in_core_is state.Nothing y t e = absurd (none-some t e)
in_core_is (state.Alive (Core c)) y t e = e
in_core_is (state.Alive (Swap b)) y t e = absurd (none-some t e)
in_core_is (state.Grave b) y t e = absurd (none-some t e)

in_core_at : (st : State) (y : Option ℕ) (t : ℕ) → loaded_text st y ≡ Some t → (c : ℕ) × (st ≡ state.Alive (Core c))
in_core_at state.Nothing y t e = absurd (none-some t e)
in_core_at (state.Alive (Core c)) y t e = (c, refl)
in_core_at (state.Alive (Swap b)) y t e = absurd (none-some t e)
in_core_at (state.Grave b) y t e = absurd (none-some t e)

entry_then : (texts : List (Option TextRow)) (st : State) (t : ℕ) (row : TextRow) → text_at texts t ≡ Some row → text_at (leave_texts texts (loaded_text st (Some t))) t ≡ Some (left_core (is_in_core st) row)
entry_then texts state.Nothing t row e = e
entry_then texts (state.Alive (Core c)) t row e = get_or-set_same texts t (Some (unloaded (text_row texts t))) None (text_low texts t row e) ∙ ap (λ o. Some (unloaded (text_row_of o))) e
entry_then texts (state.Alive (Swap b)) t row e = e
entry_then texts (state.Grave b) t row e = e

other_then : (texts : List (Option TextRow)) (st : State) (t u : ℕ) → u ≢ t → text_at (leave_texts texts (loaded_text st (Some t))) u ≡ text_at texts u
other_then texts state.Nothing t u ne = refl
other_then texts (state.Alive (Core c)) t u ne = get_or-set_other texts t u (Some (unloaded (text_row texts t))) None ne
other_then texts (state.Alive (Swap b)) t u ne = refl
other_then texts (state.Grave b) t u ne = refl

shared_then : (k : Kept) (st : State) (t : ℕ) (y : Option Shared) → with_shared (leave_shared k (loaded_text st (Some t))) t y ≡ with_shared k t y
shared_then k state.Nothing t y = refl
shared_then k (state.Alive (Core c)) t y = ap (λ x. record k { texts = x }) (set-set k.texts t (changed unloaded (shared k t)) y)
shared_then k (state.Alive (Swap b)) t y = refl
shared_then k (state.Grave b) t y = refl

same_left : (b : Bool) (row : TextRow) (sticky : Bool) → left (left_core b row) sticky ≡ left row sticky
same_left true row sticky = refl
same_left false row sticky = refl

same_text : (line : List ℕ) (core : ℕ) (b : Bool) (row : TextRow) → text_in line core (Some (left_core b row)) ≡ text_in line core (Some row)
unfolding text_in
same_text line core true row = refl
same_text line core false row = refl

same_users : (b : Bool) (row : TextRow) → (left_core b row).users ≡ row.users
same_users true row = refl
same_users false row = refl

loaded_means : (line : List ℕ) (core : ℕ) (text : List ℕ) (st : State) (d k : ℕ) → is_loaded (keeping_by line core text st d k) ≡ is_in_core st
unfolding keeping_by
loaded_means line core text state.Nothing d k = refl
loaded_means line core text (state.Alive (Core c)) d k = refl
loaded_means line core text (state.Alive (Swap b)) d k = refl
loaded_means line core text (state.Grave b) d k = refl

gone_one : (row : TextRow) (sticky : Bool) → left row sticky ≡ left_is.Gone → row.users ≡ 1
gone_one row sticky e = by (row.users == 1) refl e
  where
    by : (b : Bool) → (row.users == 1) ≡ b → cond b (cond sticky left_is.Kept left_is.Gone) left_is.Used ≡ left_is.Gone → row.users ≡ 1
    by true d f = eqb-true row.users 1 d
    by false d f = absurd (cc f)

-- The counts.
module _ (v : Stock) (s t : ℕ) (row : TextRow) (sticky : Bool) (l : s < length v.rows) (c : IsCounted v.rows v.texts) (has : (row_at v.rows s).text ≡ Some t) (here : text_at v.texts t ≡ Some row) where
  abbrev r : Row
  r = row_at v.rows s

  abbrev row_then : TextRow
  row_then = left_core (is_in_core (row_at v.rows s).state) row

  abbrev texts_then : List (Option TextRow)
  texts_then = leave_texts v.texts (loaded_text (row_at v.rows s).state (Some t))

  abbrev texts_now : List (Option TextRow)
  texts_now = set texts_then t (remaining (left row_then sticky) row_then)

  abbrev rows_now : List Row
  rows_now = set v.rows s (given_text r None)

  mine : has_text t r ≡ true
  mine = ap (is_text t) has ∙ eq-eqb t t refl

  pub users_some : 0 < row.users
  users_some =
      let a = c.users t row here in
      let b = count_at (has_text t) v.rows s l in
      let d : one (has_text t r) ≡ 1 = ap one mine in
      omega (arith, a, b, d)

  loaded_then : row_then.loaded + one (has_loaded t r) ≡ row.loaded
  loaded_then = by (is_in_core r.state) refl
    where
      by : (b : Bool) → is_in_core r.state ≡ b → (left_core b row).loaded + one (b && is_text t r.text) ≡ row.loaded
      by true e =
          let a = c.loaded t row here in
          let b = count_at (has_loaded t) v.rows s l in
          let d : one (has_loaded t r) ≡ 1 = ap one (ap (λ x. x && is_text t r.text) e ∙ mine) in
          let f : one (is_text t r.text) ≡ 1 = ap one mine in
          omega (arith, a, b, d, f)
      by false e = omega arith

  pub nobody_now : left row_then sticky ≡ left_is.Gone → (u : ℕ) → (row_at rows_now u).text ≢ Some t
  nobody_now e = nobody_else v.rows s t l has (sym (c.users t row here) ∙ sym (same_users (is_in_core r.state) row) ∙ gone_one row_then sticky e)

  pub none_loaded : left row_then sticky ≡ left_is.Gone → row_then.loaded ≡ 0
  none_loaded e =
      let z : count_by (has_loaded t) rows_now ≡ 0 = none_counted (has_loaded t) rows_now (λ u. no_load (row_at rows_now u).state (is_text t (row_at rows_now u).text)
      (false_from_ne_true (is_text t (row_at rows_now u).text) (λ f. nobody_now e u (text_is t (row_at rows_now u).text f)))) in
      let n = count_set (has_loaded t) v.rows s (given_text r None) l in
      let y : one (has_loaded t (given_text r None)) ≡ 0 = ap one (no_load r.state false refl) in
      let a = c.loaded t row here in
      let b = loaded_then in
      omega (arith, z, n, y, a, b)

  entry_now : text_at texts_now t ≡ remaining (left row_then sticky) row_then
  entry_now = get_or-set_same texts_then t (remaining (left row_then sticky) row_then) None (text_low texts_then t row_then (entry_then v.texts r.state t row here))

  other_now : (u : ℕ) → u ≢ t → text_at texts_now u ≡ text_at v.texts u
  other_now u ne = get_or-set_other texts_then t u (remaining (left row_then sticky) row_then) None ne ∙ other_then v.texts r.state t u ne

  stays_used : (u : ℕ) → u ≢ s → (row_at v.rows u).text ≡ Some t → IsSome (remaining (left row_then sticky) row_then)
  stays_used u ne f = by (left row_then sticky) refl
    where
      by : (x : Left) → left row_then sticky ≡ x → IsSome (remaining x row_then)
      by left_is.Used e = refl
      by left_is.Kept e = refl
      by left_is.Gone e = absurd (nobody_now e u (ap (λ (q : Row). q.text) (get_or-set_other v.rows s u (given_text r None) no_row ne) ∙ f))

  was_now : (x : ℕ) (new : TextRow) → text_at texts_now x ≡ Some new → (old : TextRow) × (text_at v.texts x ≡ Some old)
      × (new.users + one (has_text x r) ≡ old.users + one (has_text x (given_text r None)))
      × (new.loaded + one (has_loaded x r) ≡ old.loaded + one (has_loaded x (given_text r None)))
  was_now x new f = elim (cases_eq x t) [
    | inl e ↦ at x e (by (left row_then sticky) (sym entry_now ∙ sym (ap (text_at texts_now) e) ∙ f))
    | inr ne ↦
        (let y : is_text x r.text ≡ false = ap (is_text x) has ∙ not_same t x ne in
        let a : one (has_text x r) ≡ 0 = ap one y in
        let b : one (has_loaded x r) ≡ 0 = ap one (no_load r.state (is_text x r.text) y) in
        let d : one (has_loaded x (given_text r None)) ≡ 0 = ap one (no_load r.state false refl) in
        (new, sym (other_now x ne) ∙ f, omega (arith, a), omega (arith, b, d)))
  ]
    where
      by : (left_now : Left) → remaining left_now row_then ≡ Some new → new ≡ record row_then { users = row_then.users - 1 }
      by left_is.Used e = same_Some new (record row_then { users = row_then.users - 1 }) (sym e)
      by left_is.Kept e = same_Some new (record row_then { users = row_then.users - 1 }) (sym e)
      by left_is.Gone e = absurd (none-some new e)

      at : (x : ℕ) → x ≡ t → new ≡ record row_then { users = row_then.users - 1 } → (old : TextRow) × (text_at v.texts x ≡ Some old)
          × (new.users + one (has_text x r) ≡ old.users + one (has_text x (given_text r None)))
          × (new.loaded + one (has_loaded x r) ≡ old.loaded + one (has_loaded x (given_text r None)))
      at x e same =
          let u : new.users ≡ row_then.users - 1 = ap (λ (q : TextRow). q.users) same in
          let w : row_then.users ≡ row.users = same_users (is_in_core r.state) row in
          let some = users_some in
          let a : one (has_text x r) ≡ 1 = ap (λ j. one (has_text j r)) e ∙ ap one mine in
          let z : new.loaded ≡ row_then.loaded = ap (λ (q : TextRow). q.loaded) same in
          let b : row_then.loaded + one (has_loaded x r) ≡ row.loaded = ap (λ j. row_then.loaded + one (has_loaded j r)) e ∙ loaded_then in
          let d : one (has_loaded x (given_text r None)) ≡ 0 = ap one (no_load r.state false refl) in
          (row, ap (text_at v.texts) e ∙ here, omega (arith, u, w, some, a), omega (arith, z, b, d))

  pub left_counted : IsCounted rows_now texts_now
  left_counted = counted v.rows v.texts texts_now s (given_text r None) l c (record {
    used = λ x f. absurd (none-some x f);
    stays = λ u x ne f g. elim (cases_eq x t) [
      | inl e ↦ subst IsSome (sym (ap (text_at texts_now) e ∙ entry_now)) (stays_used u ne (f ∙ ap Some e))
      | inr other ↦ subst IsSome (sym (other_now x other)) g
    ];
    was = was_now;
  })

some_row : (o : Option TextRow) → IsSome o → o ≡ Some (text_row_of o)
some_row None e = absurd (cc e)
some_row (Some x) e = refl

-- what is known of the slot and of its text
pub record HasText (v : Stock) (s t : ℕ) : Type 0 where
  pub low : s < length v.rows
  pub has : (row_at v.rows s).text ≡ Some t
  pub here : text_at v.texts t ≡ Some (text_row v.texts t)

pub has_text_of : (v : Stock) (k : Kept) (s t : ℕ) → kept_of v ≡ k → IsCounted v.rows v.texts → text_of k s ≡ Some t → HasText v s t
has_text_of v k s t view c e =
    let has : (row_at v.rows s).text ≡ Some t = row_text v k s (Some t) view e in
    record { low = low_of has; has = has; here = some_row (text_at v.texts t) (c.used s t has) }
  where
    low_of : (row_at v.rows s).text ≡ Some t → s < length v.rows
    low_of f = elim (cases_lt s (length v.rows)) [
      | inl l ↦ l
      | inr past ↦ absurd (none-some t (ap (λ (q : Row). q.text) (sym (get_or_past v.rows s no_row past)) ∙ f))
    ]

-- for the text's clicks
pub record Unloads (v : Stock) (x : Option ℕ) (core_map : List Hole) : Type 0 where
  pub used : (t : ℕ) → x ≡ Some t → IsUsed v.texts t
  pub some : (t : ℕ) → x ≡ Some t → 0 < (text_row v.texts t).loaded
  pub clicks : (t : ℕ) → x ≡ Some t → 0 < (text_row v.texts t).clicks
  pub small : (t : ℕ) → x ≡ Some t → (text_row v.texts t).at + (text_row v.texts t).clicks ≤ 65535
  pub taken : (y : ℕ) → leaving_units v.texts x y ≡ true → is_free core_map y ≡ false

pub unloads : (v : Stock) (s : ℕ) (row : Row) (core_map swap_map : List Hole) → IsSound v → AreMaps v core_map swap_map → IsCounted v.rows v.texts → s < length v.rows → row ≡ row_at v.rows s → Unloads v (loaded_text row.state row.text) core_map
unloads v s row core_map swap_map h maps c l at =
    subst (λ (q : Row). Unloads v (loaded_text q.state q.text) core_map) (sym at) (record {
      used = used;
      some = some;
      clicks = λ t e. (own t e).some;
      small = λ t e. (let w = (own t e).within (λ j. (let m = some t e in omega (arith, j, m))) in let i = w.1 in let j = h.most in omega (arith, i, j));
      taken = λ y e. text_taken v core_map swap_map (loaded_text (row_at v.rows s).state (row_at v.rows s).text) h maps used y e;
    })
  where
    used : (t : ℕ) → loaded_text (row_at v.rows s).state (row_at v.rows s).text ≡ Some t → IsUsed v.texts t
    used t e = c.used s t (in_core_is (row_at v.rows s).state (row_at v.rows s).text t e)

    some : (t : ℕ) → loaded_text (row_at v.rows s).state (row_at v.rows s).text ≡ Some t → 0 < (text_row v.texts t).loaded
    some t e =
        let a = in_core_at (row_at v.rows s).state (row_at v.rows s).text t e in
        loaded_some v s a.0 t c l a.1 (in_core_is (row_at v.rows s).state (row_at v.rows s).text t e)

    own : (t : ℕ) → loaded_text (row_at v.rows s).state (row_at v.rows s).text ≡ Some t → IsText v.line v.core (text_row v.texts t)
    own t e = h.texts t (text_row v.texts t) (some_row (text_at v.texts t) (used t e))

-- for its blocks
pub record Detaches (row : TextRow) (swap_map : List Hole) : Type 0 where
  pub users : 0 < row.users
  pub clicks : 0 < row.clicks
  pub small : row.block + blocks row.clicks ≤ 65535
  pub taken : (x : ℕ) → is_within row.block (blocks row.clicks) x ≡ true → is_free swap_map x ≡ false

left_core_detaches : (b : Bool) (row : TextRow) (swap_map : List Hole) → Detaches row swap_map → Detaches (left_core b row) swap_map
left_core_detaches true row swap_map d = record { users = d.users; clicks = d.clicks; small = d.small; taken = d.taken }
left_core_detaches false row swap_map d = d

pub detaches : (v : Stock) (s t : ℕ) (row : Row) (core_map swap_map : List Hole) (texts : List (Option TextRow)) → IsSound v → AreMaps v core_map swap_map → IsCounted v.rows v.texts → HasText v s t → row ≡ row_at v.rows s
    → texts ≡ leave_texts v.texts (loaded_text row.state row.text) → IsUsed texts t × Detaches (text_row texts t) swap_map
detaches v s t row core_map swap_map texts h maps c f at is =
    let x : TextRow = text_row v.texts t in
    let b : Bool = is_in_core (row_at v.rows s).state in
    let now : text_at texts t ≡ Some (left_core (is_in_core (row_at v.rows s).state) x) =
    ap (λ y. text_at y t) (is ∙ ap (λ (q : Row). leave_texts v.texts (loaded_text q.state q.text)) at ∙ ap (λ y. leave_texts v.texts (loaded_text (row_at v.rows s).state y)) f.has) ∙ entry_then v.texts (row_at v.rows s).state t x f.here in
    let own : IsText v.line v.core x = h.texts t x f.here in
    let out = own.out in
    let high = out.1 in
    let d : Detaches x swap_map = record {
      users = users_some v s t x true f.low c f.has f.here;
      clicks = own.some;
      small = omega (arith, high);
      taken = λ y e. false_from_ne_true (is_free swap_map y) (λ g.
          let m = (maps.swap y).0 g in
          let place : spot v (OutOf t) ≡ record { at = swap_at v.core x.block; size = 512 * blocks x.clicks } = ap (out_spot v.core) f.here in
          (tells_block v.core x.block (blocks x.clicks) y out.0 m.0).on e (subst (AreApart (block v.core y)) place (m.2 (OutOf t))));
    } in (
      subst IsSome (sym now) (some_is (left_core b x)),
      subst (λ o. Detaches (text_row_of o) swap_map) (sym now) (left_core_detaches b x swap_map d),
    )
  where
    some_is : (q : TextRow) → IsSome (Some q)
    some_is q = refl

-- all that the call does
pub text_left : (v : Stock) (k : Kept) (s t : ℕ) (sticky : Bool) (core_map core_new swap_map swap_new : List Hole) (row : Row) (line : List ℕ) (texts texts2 : List (Option TextRow)) (rows : List Row)
    → kept_of v ≡ k → IsSound v → AreMaps v core_map swap_map → IsCounted v.rows v.texts → HasText v s t → row ≡ row_at v.rows s
    → line ≡ textless_line v.line v.core row.state → IsLongBy v.line v.core row.state → rows ≡ set v.rows s (given_text (row_at v.rows s) None)
    → texts ≡ leave_texts v.texts (loaded_text row.state row.text) → ((x : ℕ) → is_free core_new x ≡ (is_free core_map x || leaving_units v.texts (loaded_text row.state row.text) x))
    → texts2 ≡ detached texts t sticky → ((x : ℕ) → is_free swap_new x ≡ (is_free swap_map x || gone_units (left (text_row texts t) sticky) (text_row texts t) x))
    → Goes v (record { line = line; core = v.core; rows = rows; texts = texts2 }) core_new swap_new (with_left_text k s sticky (Some t))
unfolding with_left_text
text_left v k s t sticky core_map core_new swap_map swap_new row line texts texts2 rows view h maps c f at line_is long rows_is texts_is step_core texts2_is step_swap =
    let r : Row = row_at v.rows s in
    let x : TextRow = text_row v.texts t in
    let b : Bool = is_in_core r.state in
    let x1 : TextRow = left_core b x in
    let gives : Option ℕ = loaded_text r.state (Some t) in
    let big : IsLongBy v.line v.core r.state = subst (λ (q : Row). IsLongBy v.line v.core q.state) at long in
    let one = row_left v s h f.low big in
    let v1 : Stock = left_stock v s in
    let maps1 : AreMaps v1 core_map swap_map = maps_same v v1 core_map swap_map refl (text_row_spots v s None (textless_line v.line v.core r.state) f.low) maps in
    let user : loaded_text row.state row.text ≡ gives = ap (λ (q : Row). loaded_text q.state q.text) at ∙ ap (loaded_text r.state) f.has in
    let u : Unloads v gives core_map = subst (λ y. Unloads v y core_map) user (unloads v s row core_map swap_map h maps c f.low at) in
    let two : LeftCore v1 gives core_new swap_map = text_unloaded v1 gives core_map core_new swap_map one.0 maps1 u.used u.some (λ y. step_core y ∙ ap (λ z. is_free core_map y || leaving_units v.texts z y) user) in
    let v2 : Stock = leave v1 gives in
    let texts1 : texts ≡ leave_texts v.texts gives = texts_is ∙ ap (leave_texts v.texts) user in
    let here : text_at v2.texts t ≡ Some x1 = entry_then v.texts r.state t x f.here in
    let row1 : text_row texts t ≡ x1 = ap (λ y. text_row y t) texts1 ∙ ap text_row_of here in
    let three : EntryLeft v2 t x1 (remaining (left x1 sticky) x1) core_new swap_new =
    entry_left v2 t x1 (left x1 sticky) core_new swap_map swap_new two.sound two.maps here
    (λ e. (none_loaded v s t x sticky f.low c f.has f.here e, nobody_now v s t x sticky f.low c f.has f.here e))
    (λ y. step_swap y ∙ ap (λ q. is_free swap_map y || gone_units (left q sticky) q y) row1) in
    let line2 : line ≡ textless_line v.line v.core r.state = line_is ∙ ap (λ (q : Row). textless_line v.line v.core q.state) at in
    let rest : texts2 ≡ set (leave_texts v.texts gives) t (remaining (left x1 sticky) x1) =
    texts2_is ∙ ap (λ y. set y t (remaining (left (text_row texts t) sticky) (text_row texts t))) texts1 ∙ ap (λ q. set (leave_texts v.texts gives) t (remaining (left q sticky) q)) row1 in
    let now : Stock = put_text v2 t (remaining (left x1 sticky) x1) v2.line in
    let same : (let y : Stock = record { line = line; core = v.core; rows = rows; texts = texts2 } in y) ≡ now = cc in
    let k1 : Kept = with_text_of (with_keeping (kept_of v) s (textless (keeping (kept_of v) s))) s None in
    let entry : shared (kept_of v) t ≡ Some (record { row = x; bytes = text_in v.line v.core (Some x) }) = shared_at v t ∙ ap (shared_in v.line v.core) f.here in
    let entry1 : shared (kept_of v1) t ≡ Some (record { row = x; bytes = text_in v1.line v.core (Some x) }) = shared_at v1 t ∙ ap (shared_in v1.line v.core) f.here in
    let bytes : text_in v1.line v.core (Some x) ≡ text_in v.line v.core (Some x) = ap bytes_in (sym entry1 ∙ ap (λ j. shared j t) one.1 ∙ entry) in
    let bytes1 : text_in v2.line v2.core (Some x1) ≡ text_in v.line v.core (Some x) = same_text v1.line v.core b x ∙ bytes in
    let in_core : is_loaded (keeping (kept_of v) s) ≡ b = ap is_loaded (slot_at v s) ∙ loaded_means v.line v.core (text_for v.line v.core v.texts r.text) r.state r.data_size r.stack_size in
    let left_is : shared_left (is_loaded (keeping (kept_of v) s)) sticky (shared (kept_of v) t) ≡ with_row (text_in v.line v.core (Some x)) (remaining (left x1 sticky) x1) =
    ap (λ y. shared_left y sticky (shared (kept_of v) t)) in_core ∙ ap (shared_left b sticky) entry ∙ ap (λ y. with_row (text_in v.line v.core (Some x)) (remaining y x1)) (sym (same_left b x sticky)) in
    let good : Goes v now core_new swap_new (with_left_text k s sticky (Some t)) = record {
      sound = three.sound;
      maps = three.maps;
      counted = left_counted v s t x sticky f.low c f.has f.here;
      kept = three.kept
          ∙ ap (λ y. with_shared (kept_of v2) t (with_row y (remaining (left x1 sticky) x1))) bytes1
          ∙ ap (λ j. with_shared j t (with_row (text_in v.line v.core (Some x)) (remaining (left x1 sticky) x1))) (two.kept ∙ ap (λ j. leave_shared j gives) one.1)
          ∙ shared_then k1 r.state t (with_row (text_in v.line v.core (Some x)) (remaining (left x1 sticky) x1))
          ∙ ap (λ y. with_shared k1 t y) (sym left_is)
          ∙ ap (λ j. with_left_text j s sticky (Some t)) view;
    } in
    subst (λ y. Goes v y core_new swap_new (with_left_text k s sticky (Some t))) (sym same) good

-- the text of the slot, as its row has it
pub text_named : (v : Stock) (k : Kept) (s t : ℕ) (row : Row) → kept_of v ≡ k → row ≡ row_at v.rows s → row.text ≡ Some t → text_of k s ≡ Some t
text_named v k s t row view at e = sym (ap (λ j. text_of j s) view) ∙ text_of_row v s ∙ ap (λ (q : Row). q.text) (sym at) ∙ e

pub told_answer : (v : Stock) (k : Kept) (s t : ℕ) (sticky : Bool) (row : Row) (texts : List (Option TextRow)) → kept_of v ≡ k → text_of k s ≡ Some t → HasText v s t → row ≡ row_at v.rows s
    → texts ≡ leave_texts v.texts (loaded_text row.state row.text) → left (text_row texts t) sticky ≡ left (row_of_text k (text_of k s)) sticky
told_answer v k s t sticky row texts view named f at is =
    let x : TextRow = text_row v.texts t in
    let b : Bool = is_in_core (row_at v.rows s).state in
    let now : text_at texts t ≡ Some (left_core (is_in_core (row_at v.rows s).state) x) =
    ap (λ y. text_at y t) (is ∙ ap (λ (q : Row). leave_texts v.texts (loaded_text q.state q.text)) at ∙ ap (λ y. leave_texts v.texts (loaded_text (row_at v.rows s).state y)) f.has) ∙ entry_then v.texts (row_at v.rows s).state t x f.here in
    ap (λ o. left (text_row_of o) sticky) now ∙ same_left b x sticky ∙ ap (λ q. left q sticky) (row_is v k t view) ∙ sym (ap (λ o. left (row_of_text k o) sticky) named)

-- An entry goes only where no other slot has the text.
users_then : (v : Stock) (s u : ℕ) → text_of (with_text_of (kept_of v) s None) u ≡ (row_at (set v.rows s (given_text (row_at v.rows s) None)) u).text
unfolding kept_of
users_then v s u =
    ap (λ l. get_or l u None) (sym (map-set (λ (r : Row). r.text) v.rows s (given_text (row_at v.rows s) None)))
    ∙ text_of_row (put_row v s (given_text (row_at v.rows s) None) v.line) u

pub others_stay : (v : Stock) (k : Kept) (s t : ℕ) (sticky : Bool) → kept_of v ≡ k → IsCounted v.rows v.texts → HasText v s t
    → (u : ℕ) → text_of (with_text_of k s None) u ≡ Some t → (y : Shared) → shared k t ≡ Some y → left y.row sticky ≢ left_is.Gone
others_stay v k s t sticky view c f u e y here gone =
    let x : TextRow = text_row v.texts t in
    let is : x ≡ y.row = row_is v k t view ∙ ap row_in here in
    nobody_now v s t x sticky f.low c f.has f.here (same_left (is_in_core (row_at v.rows s).state) x sticky ∙ ap (λ q. left q sticky) is ∙ gone) u
    (sym (users_then v s u) ∙ ap (λ j. text_of (with_text_of j s None) u) view ∙ e)

pub kept_long : (v : Stock) (k : Kept) → kept_of v ≡ k → (length k.slots ≡ length v.rows) × (length k.users ≡ length v.rows)
unfolding kept_of
kept_long v k view = (
  sym (ap (λ (j : Kept). length j.slots) view) ∙ length-map v.rows (keeping_in v.line v.core v.texts),
  sym (ap (λ (j : Kept). length j.users) view) ∙ length-map v.rows (λ (r : Row). r.text),
)
