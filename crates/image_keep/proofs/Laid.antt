-- An image is laid at a free place: a new one, a grown one, a copy; and a byte of an image is read or written.
use Rattle.std.proofs.Common.{◌≡◌, ◌≢◌, ℕ, ◌+◌, ◌-◌, ◌*◌, ◌<◌, ◌≤◌, List, ◌++◌, length, take, drop, slice_index, Some, refl, sym, ap, subst, ◌∙◌, arith, append_assoc, length-append}
use Rattle.std.proofs.lemmas.List.{take_at, drop_at, take_all, get_or-take, get_or-drop}
use Rattle.v6_base.specs.declared.entry.Place.{Place}
use Rattle.v6_base.specs.Image.{Image, nseg}
use Rattle.core_mem.specs.Bytes.{part, over}
use Rattle.core_mem.proofs.Parts.{part-over_same}
use Rattle.u_area.specs.declared.area.UArea.{UArea}
use Rattle.u_area.specs.Area.{fetched, area_bytes, IsSized}
use Rattle.u_area.proofs.AreaLemmas.{fetched_is}
use Rattle.text_tab.specs.declared.row.TextRow.{TextRow}
use Rattle.text_tab.specs.Table.{text_at}
use Rattle.image_keep.specs.declared.row.State.TheVariants as state
use Rattle.image_keep.specs.declared.row.Row.{Row}
use Rattle.image_keep.specs.Kept.{Alive, keeping, with_keeping, with_text_of, at_place}
use Rattle.image_keep.specs.Memory.{Stock, row_at, at_row, place_at, place_size, clicks_in, spot_by, Owner, RowOf, OutOf, spot, AreApart, text_in, text_for, image_by, keeping_by, kept_of, IsIn, IsAlive, HoldsBy, IsSound}
use Rattle.image_keep.proofs.Writes.{Wrote, wrote_over, put_row, put_sound, text_for_off}
use Rattle.image_keep.proofs.Places.{slot_at}
use Rattle.image_keep.proofs.Moves.{Moves, moves, moved_line, off_of, size_in, fits_in}
use Rattle.image_keep.proofs.Leaving.{put_text_kept}

first_part : (a y : List ℕ) (n : ℕ) → length a ≡ n → part (a ++ y) 0 n ≡ a
unfolding part
first_part a y n e = take_at a y n e

next_part : (a d y : List ℕ) (i n : ℕ) → length a ≡ i → length d ≡ n → part (a ++ (d ++ y)) i n ≡ d
unfolding part
next_part a d y i n e f = ap (take n) (drop_at a (d ++ y) i e) ∙ take_at d y n f

last_part : (a d y : List ℕ) (i n : ℕ) → length a + length d ≡ i → length y ≡ n → part (a ++ (d ++ y)) i n ≡ y
unfolding part
last_part a d y i n e f =
    let l : length (a ++ d) ≡ i = length-append a d ∙ e in
    rw (← append_assoc a d y) (ap (take n) (drop_at (a ++ d) y i l) ∙ take_all n y (omega arith))

abbrev pub laid : List ℕ → List ℕ → List ℕ → List ℕ
laid a d k = a ++ (d ++ k)

pub record IsLaid (r : Row) (u : UArea) (place : Place) (a d k : List ℕ) : Type 0 where
  pub is : r.state ≡ state.Alive place
  pub area : length a ≡ 1024
  pub bytes : length d ≡ 64 * r.data_size
  pub stack : length k ≡ 64 * r.stack_size
  pub sized : IsSized u
  pub spelled : a ≡ area_bytes u
  pub data_size : u.data_size ≡ r.data_size
  pub stack_size : u.stack_size ≡ r.stack_size
  pub segments : nseg r.data_size + nseg r.stack_size ≤ 8

-- An image at a place that is free, for the slot's old image or none: exec, growth, fork.
pub laid_image : (v : Stock) (s : ℕ) (r : Row) (u : UArea) (place : Place) (a d k : List ℕ) → IsSound v → s < length v.rows → IsLaid r u place a d k → IsIn v.core place (clicks_in r)
    → ((p : Owner) → p ≢ RowOf s → AreApart (record { at = place_at v.core place; size = place_size place (clicks_in r) }) (spot v p))
    → IsSound (put_row v s r (over v.line (place_at v.core place) (laid a d k)))
    × (kept_of (put_row v s r (over v.line (place_at v.core place) (laid a d k)))
    ≡ with_text_of (with_keeping (kept_of v) s (Alive (record { u = u; image = record { text = text_for v.line v.core v.texts r.text; «data» = d; stack = k }; place = place }))) s r.text)
unfolding keeping_by image_by
laid_image v s r u place a d k h l is inside free =
    let n : ℕ = clicks_in r in
    let f = fits_in v.core n 0 place inside in
    let z = h.size in
    let x = is.area in
    let y = is.bytes in
    let q = is.stack in
    let long : length (laid a d k) ≡ 64 * n = length-append a (d ++ k) ∙ (let e = length-append d k in omega (arith, x, y, q, e)) in
    let new = over v.line (place_at v.core place) (laid a d k) in
    let m = size_in place n in
    let w : Wrote v.line new (place_at v.core place) (place_at v.core place + place_size place n) =
    wrote_over v.line (place_at v.core place) (place_at v.core place + place_size place n) (laid a d k) (omega (arith, f, z, long)) (omega (arith, long, m)) in
    let there : part new (place_at v.core place) (64 * n) ≡ laid a d k = part-over_same v.line (place_at v.core place) (laid a d k) (64 * n) long (omega (arith, f, z)) in
    let off = λ (p : Owner) (ne : p ≢ RowOf s). off_of (record { at = place_at v.core place; size = place_size place n }) (spot v p) (place_at v.core place + place_size place n) (free p ne) refl in
    let one : part (laid a d k) 0 1024 ≡ a = first_part a (d ++ k) 1024 x in
    let two : part (laid a d k) 1024 (64 * r.data_size) ≡ d = next_part a d k 1024 (64 * r.data_size) x y in
    let three : part (laid a d k) (1024 + 64 * r.data_size) (64 * r.stack_size) ≡ k = last_part a d k (1024 + 64 * r.data_size) (64 * r.stack_size) (omega (arith, x, y)) q in
    let read : fetched (part (part new (place_at v.core place) (64 * n)) 0 1024) ≡ u = ap (λ b. fetched (part b 0 1024)) there ∙ ap fetched one ∙ fetched_is a u is.sized is.spelled in
    let holds : IsAlive (part new (place_at v.core place) (64 * n)) v.core r.data_size r.stack_size place = record {
      inside = inside;
      stored = (u, is.sized, ap (λ b. part b 0 1024) there ∙ one ∙ is.spelled);
      data_size = ap (λ (i : UArea). i.data_size) read ∙ is.data_size;
      stack_size = ap (λ (i : UArea). i.stack_size) read ∙ is.stack_size;
      segments = is.segments;
    } in
    let text : text_for new v.core v.texts r.text ≡ text_for v.line v.core v.texts r.text = text_for_off v.line new v.core (place_at v.core place) (place_at v.core place + place_size place n) v.texts r.text w (λ t. off (OutOf t) (λ e. cc e)) in (
      put_sound v s r new (place_at v.core place) (place_at v.core place + place_size place n) h l w off
          (subst (λ st. (p : Owner) → p ≢ RowOf s → AreApart (spot_by v.core st n) (spot v p)) (sym is.is) free)
          (subst (λ st. HoldsBy new v.core st r.data_size r.stack_size) (sym is.is) holds),
      put_text_kept v s r new (place_at v.core place) (place_at v.core place + place_size place n) w off
          ∙ ap (λ i. with_text_of (with_keeping (kept_of v) s i) s r.text)
          (ap (λ st. keeping_by new v.core (text_for new v.core v.texts r.text) st r.data_size r.stack_size) is.is
          ∙ ap (λ i. Alive (record { u = i; image = image_by (part new (place_at v.core place) (64 * n)) r.data_size r.stack_size (text_for new v.core v.texts r.text); place = place })) read
          ∙ ap (λ i. Alive (record { u = u; image = i; place = place }))
          (made (text_for new v.core v.texts r.text) (text_for v.line v.core v.texts r.text) _ d _ k text (ap (λ b. part b 1024 (64 * r.data_size)) there ∙ two) (ap (λ b. part b (1024 + 64 * r.data_size) (64 * r.stack_size)) there ∙ three))),
    )
  where
    made : (t t' d d' k k' : List ℕ) → t ≡ t' → d ≡ d' → k ≡ k' → (let i : Image = record { text = t; «data» = d; stack = k } in i) ≡ record { text = t'; «data» = d'; stack = k' }
    made t t' d d' k k' e f g = cc

-- A copy in another slot shares the text.
pub forked : (v : Stock) (from to : ℕ) (p q : Place) → IsSound v → to < length v.rows → (row_at v.rows from).state ≡ state.Alive p → IsIn v.core q (clicks_in (row_at v.rows from))
    → ((o : Owner) → o ≢ RowOf to → AreApart (record { at = place_at v.core q; size = place_size q (clicks_in (row_at v.rows from)) }) (spot v o))
    → IsSound (put_row v to (at_row (row_at v.rows from) q) (moved_line v (row_at v.rows from) p q))
    × (kept_of (put_row v to (at_row (row_at v.rows from) q) (moved_line v (row_at v.rows from) p q)) ≡ with_text_of (with_keeping (kept_of v) to (at_place q (keeping (kept_of v) from))) to (row_at v.rows from).text)
forked v from to p q h l is inside free =
    let r : Row = row_at v.rows from in
    let m : Moves v to r p q = moves v to r p q h l is (h.rows from) inside free in (
      m.sound,
      put_text_kept v to (at_row r q) (moved_line v r p q) (place_at v.core q) (place_at v.core q + place_size q (clicks_in r)) m.wrote
          (λ o ne. off_of (record { at = place_at v.core q; size = place_size q (clicks_in r) }) (spot v o) (place_at v.core q + place_size q (clicks_in r)) (free o ne) refl)
          ∙ ap (λ x. with_text_of (with_keeping (kept_of v) to x) to r.text) (m.means ∙ ap (at_place q) (sym (slot_at v from))),
    )

-- The text that a process in core reads is the copy in core.
pub text_copy : (v : Stock) (t i : ℕ) (row : TextRow) → IsSound v → text_at v.texts t ≡ Some row → row.loaded ≢ 0 → i < 64 * row.clicks
    → slice_index (text_for v.line v.core v.texts (Some t)) i ≡ slice_index v.line (64 * (row.at - 1) + i)
unfolding text_for text_in part
text_copy v t i row h here some low =
    let copy = (h.texts t row here).copy some in
    ap (λ o. slice_index (text_in v.line v.core o) i) here
    ∙ ap (λ x. slice_index x i) (sym copy)
    ∙ get_or-take (64 * row.clicks) (drop (64 * (row.at - 1)) v.line) i 0 low ∙ get_or-drop (64 * (row.at - 1)) v.line i 0
