-- Bytes of one image change where it stands.
use Rattle.std.proofs.Common.{◌≡◌, ℕ, ◌+◌, ◌*◌, ◌<◌, ◌≤◌, inl, inr, List, length, drop, set, refl, sym, ap, subst, ◌∙◌, arith}
use Rattle.std.proofs.lemmas.List.{set-get_or}
use Rattle.v6_base.specs.declared.entry.Place.{Place}
use Rattle.v6_base.specs.Image.{Image}
use Rattle.core_mem.specs.Bytes.{part, over}
use Rattle.core_mem.proofs.Parts.{part-over_same, part_above, part-part, take-over, drop-over, length-over}
use Rattle.u_area.specs.declared.area.UArea.{UArea}
use Rattle.u_area.specs.Area.{fetched, area_bytes, IsSized, IsStored}
use Rattle.u_area.proofs.AreaLemmas.{fetched_is}
use Rattle.image_keep.specs.declared.row.State.TheVariants as state
use Rattle.image_keep.specs.declared.row.Row.{Row}
use Rattle.image_keep.specs.Kept.{Alive, with_keeping, described, with_area, area_in, area_of}
use Rattle.image_keep.specs.Memory.{Stock, no_row, row_at, place_at, place_size, clicks_in, spot_by, RowOf, OutOf, spot, AreApart, text_for, image_by, keeping_by, keeping_in, kept_of, IsAlive, HoldsBy, IsSound}
use Rattle.image_keep.proofs.Writes.{Wrote, text_for_off, put_row, put_kept, put_sound, IsOwn}
use Rattle.image_keep.proofs.Places.{slot_at}
use Rattle.image_keep.proofs.Moves.{size_in, fits_in}

same_rows : (rows : List Row) (s : ℕ) → set rows s (row_at rows s) ≡ rows
same_rows rows s = set-get_or rows s no_row

-- what an image's bytes become, where only its own range changes
pub record OwnWrite (v : Stock) (s : ℕ) (place : Place) (new : List ℕ) : Type 0 where
  pub wrote : Wrote v.line new (place_at v.core place) (place_at v.core place + 64 * clicks_in (row_at v.rows s))
  pub is : (row_at v.rows s).state ≡ state.Alive place
  pub stored : IsStored (part new (place_at v.core place) 1024)
  pub data_size : (fetched (part new (place_at v.core place) 1024)).data_size ≡ (row_at v.rows s).data_size
  pub stack_size : (fetched (part new (place_at v.core place) 1024)).stack_size ≡ (row_at v.rows s).stack_size

abbrev pub with_line : Stock → List ℕ → Stock
with_line v new = record v { line = new }

pub own_off : (v : Stock) (s : ℕ) (place : Place) → IsSound v → (row_at v.rows s).state ≡ state.Alive place
    → IsOwn v (RowOf s) (place_at v.core place) (place_at v.core place + 64 * clicks_in (row_at v.rows s))
own_off v s place h is p ne =
    let n : ℕ = clicks_in (row_at v.rows s) in
    let own : spot v (RowOf s) ≡ record { at = place_at v.core place; size = place_size place n } = ap (λ st. spot_by v.core st n) is in
    let m = size_in place n in
    elim (subst (λ x. AreApart x (spot v p)) own (h.apart (RowOf s) p (λ e. ne (sym e)))) [
      | inl a ↦ inr (omega (arith, a, m))
      | inr a ↦ inl a
    ]

pub front : (line : List ℕ) (at n : ℕ) → 16 ≤ n → part (part line at (64 * n)) 0 1024 ≡ part line at 1024
front line at n l = part-part line at (64 * n) 0 1024 (omega arith) ∙ (let e : at + 0 ≡ at = omega arith in ap (λ i. part line i 1024) e)

pub own_sound : (v : Stock) (s : ℕ) (place : Place) (new : List ℕ) → IsSound v → s < length v.rows → OwnWrite v s place new → IsSound (with_line v new)
own_sound v s place new h l w =
    let r : Row = row_at v.rows s in
    let n : ℕ = clicks_in r in
    let own : IsAlive (part v.line (place_at v.core place) (64 * n)) v.core r.data_size r.stack_size place = subst (λ st. HoldsBy v.line v.core st r.data_size r.stack_size) w.is (h.rows s) in
    let f : part (part new (place_at v.core place) (64 * n)) 0 1024 ≡ part new (place_at v.core place) 1024 = front new (place_at v.core place) n (omega arith) in
    let holds : IsAlive (part new (place_at v.core place) (64 * n)) v.core r.data_size r.stack_size place = record {
      inside = own.inside;
      stored = subst IsStored (sym f) w.stored;
      data_size = ap (λ b. (fetched b).data_size) f ∙ w.data_size;
      stack_size = ap (λ b. (fetched b).stack_size) f ∙ w.stack_size;
      segments = own.segments;
    } in
    let put : IsSound (put_row v s r new) = put_sound v s r new (place_at v.core place) (place_at v.core place + 64 * n) h l w.wrote (own_off v s place h w.is)
    (λ p ne. h.apart (RowOf s) p (λ e. ne (sym e)))
    (subst (λ st. HoldsBy new v.core st r.data_size r.stack_size) (sym w.is) holds) in
    subst (λ rows. IsSound (record v { line = new; rows = rows })) (same_rows v.rows s) put

pub own_kept : (v : Stock) (s : ℕ) (place : Place) (new : List ℕ) → IsSound v → OwnWrite v s place new → kept_of (with_line v new) ≡ with_keeping (kept_of v) s (keeping_in new v.core v.texts (row_at v.rows s))
own_kept v s place new h w =
    ap (λ rows. kept_of (record v { line = new; rows = rows })) (sym (same_rows v.rows s))
    ∙ put_kept v s (row_at v.rows s) new (place_at v.core place) (place_at v.core place + 64 * clicks_in (row_at v.rows s)) w.wrote (own_off v s place h w.is) refl

-- what such a row means
pub own_means : (v : Stock) (s : ℕ) (place : Place) (line : List ℕ) → (row_at v.rows s).state ≡ state.Alive place
    → keeping_in line v.core v.texts (row_at v.rows s) ≡ Alive (record {
      u = fetched (part line (place_at v.core place) 1024);
      image = image_by (part line (place_at v.core place) (64 * clicks_in (row_at v.rows s))) (row_at v.rows s).data_size (row_at v.rows s).stack_size (text_for line v.core v.texts (row_at v.rows s).text);
      place = place;
    })
unfolding keeping_by
own_means v s place line is =
    let r : Row = row_at v.rows s in
    ap (λ st. keeping_by line v.core (text_for line v.core v.texts r.text) st r.data_size r.stack_size) is
    ∙ ap (λ b. Alive (record { u = fetched b; image = image_by (part line (place_at v.core place) (64 * clicks_in r)) r.data_size r.stack_size (text_for line v.core v.texts r.text); place = place }))
    (front line (place_at v.core place) (clicks_in r) (omega arith))

pub text_stays : (v : Stock) (s : ℕ) (place : Place) (new : List ℕ) → IsSound v → OwnWrite v s place new → text_for new v.core v.texts (row_at v.rows s).text ≡ text_for v.line v.core v.texts (row_at v.rows s).text
text_stays v s place new h w = text_for_off v.line new v.core (place_at v.core place) (place_at v.core place + 64 * clicks_in (row_at v.rows s)) v.texts (row_at v.rows s).text w.wrote (λ t. own_off v s place h w.is (OutOf t) (λ e. cc e))

-- another u area
pub area_write : (v : Stock) (s : ℕ) (place : Place) (u : UArea) (bytes : List ℕ) → IsSound v → (row_at v.rows s).state ≡ state.Alive place → IsSized u → bytes ≡ area_bytes u → length bytes ≡ 1024
    → u.data_size ≡ (row_at v.rows s).data_size → u.stack_size ≡ (row_at v.rows s).stack_size → OwnWrite v s place (over v.line (place_at v.core place) bytes)
area_write v s place u bytes h is sized spelled long d k =
    let r : Row = row_at v.rows s in
    let n : ℕ = clicks_in r in
    let own : IsAlive (part v.line (place_at v.core place) (64 * n)) v.core r.data_size r.stack_size place = subst (λ st. HoldsBy v.line v.core st r.data_size r.stack_size) is (h.rows s) in
    let f = fits_in v.core n 0 place own.inside in
    let z = h.size in
    let fits : place_at v.core place + length bytes ≤ length v.line = omega (arith, f, z, long) in
    let there : part (over v.line (place_at v.core place) bytes) (place_at v.core place) 1024 ≡ bytes = part-over_same v.line (place_at v.core place) bytes 1024 long (omega (arith, fits, long)) in
    let read : fetched (part (over v.line (place_at v.core place) bytes) (place_at v.core place) 1024) ≡ u = ap fetched there ∙ fetched_is bytes u sized spelled in
    record {
      wrote = record {
        below = take-over v.line (place_at v.core place) bytes (place_at v.core place) (omega arith) fits;
        above = drop-over v.line (place_at v.core place) bytes (place_at v.core place + 64 * n) (omega (arith, long)) fits;
        size = length-over v.line (place_at v.core place) bytes fits;
      };
      is = is;
      stored = (u, sized, there ∙ spelled);
      data_size = ap (λ (x : UArea). x.data_size) read ∙ d;
      stack_size = ap (λ (x : UArea). x.stack_size) read ∙ k;
    }

pub same_image : (line new : List ℕ) (at d k : ℕ) (text text2 : List ℕ) → drop (at + 1024) new ≡ drop (at + 1024) line → text2 ≡ text
    → image_by (part new at (64 * (16 + d + k))) d k text2 ≡ image_by (part line at (64 * (16 + d + k))) d k text
unfolding image_by
same_image line new at d k text text2 above e =
    let one : part (part new at (64 * (16 + d + k))) 1024 (64 * d) ≡ part (part line at (64 * (16 + d + k))) 1024 (64 * d) =
    part-part new at (64 * (16 + d + k)) 1024 (64 * d) (omega arith) ∙ part_above new line (at + 1024) (at + 1024) (64 * d) above (omega arith) ∙ sym (part-part line at (64 * (16 + d + k)) 1024 (64 * d) (omega arith)) in
    let two : part (part new at (64 * (16 + d + k))) (1024 + 64 * d) (64 * k) ≡ part (part line at (64 * (16 + d + k))) (1024 + 64 * d) (64 * k) =
    part-part new at (64 * (16 + d + k)) (1024 + 64 * d) (64 * k) (omega arith) ∙ part_above new line (at + 1024) (at + (1024 + 64 * d)) (64 * k) above (omega arith) ∙ sym (part-part line at (64 * (16 + d + k)) (1024 + 64 * d) (64 * k) (omega arith)) in
    made text2 text _ _ _ _ e one two
  where
    made : (t t' d d' k k' : List ℕ) → t ≡ t' → d ≡ d' → k ≡ k' → (let m : Image = record { text = t; «data» = d; stack = k } in m) ≡ record { text = t'; «data» = d'; stack = k' }
    made t t' d d' k k' a b c = cc

pub area_kept : (v : Stock) (s : ℕ) (place : Place) (u : UArea) (bytes : List ℕ) → IsSound v → (row_at v.rows s).state ≡ state.Alive place → IsSized u → bytes ≡ area_bytes u → length bytes ≡ 1024
    → u.data_size ≡ (row_at v.rows s).data_size → u.stack_size ≡ (row_at v.rows s).stack_size → kept_of (with_line v (over v.line (place_at v.core place) bytes)) ≡ with_area (kept_of v) s u
unfolding with_area
area_kept v s place u bytes h is sized spelled long d k =
    let r : Row = row_at v.rows s in
    let n : ℕ = clicks_in r in
    let new = over v.line (place_at v.core place) bytes in
    let w : OwnWrite v s place new = area_write v s place u bytes h is sized spelled long d k in
    let own : IsAlive (part v.line (place_at v.core place) (64 * n)) v.core r.data_size r.stack_size place = subst (λ st. HoldsBy v.line v.core st r.data_size r.stack_size) is (h.rows s) in
    let f = fits_in v.core n 0 place own.inside in
    let z = h.size in
    let fits : place_at v.core place + length bytes ≤ length v.line = omega (arith, f, z, long) in
    let there : part new (place_at v.core place) 1024 ≡ bytes = part-over_same v.line (place_at v.core place) bytes 1024 long (omega (arith, fits, long)) in
    let read : fetched (part new (place_at v.core place) 1024) ≡ u = ap fetched there ∙ fetched_is bytes u sized spelled in
    let above : drop (place_at v.core place + 1024) new ≡ drop (place_at v.core place + 1024) v.line = drop-over v.line (place_at v.core place) bytes (place_at v.core place + 1024) (omega (arith, long)) fits in
    own_kept v s place new h w
    ∙ ap (with_keeping (kept_of v) s)
    (own_means v s place new is
    ∙ ap (λ x. Alive (record { u = x; image = image_by (part new (place_at v.core place) (64 * n)) r.data_size r.stack_size (text_for new v.core v.texts r.text); place = place })) read
    ∙ ap (λ x. Alive (record { u = u; image = x; place = place }))
    (same_image v.line new (place_at v.core place) r.data_size r.stack_size (text_for v.line v.core v.texts r.text) (text_for new v.core v.texts r.text) above (text_stays v s place new h w))
    ∙ sym (ap (described u) (slot_at v s ∙ own_means v s place v.line is)))

-- the u area that stands there
pub area_read : (v : Stock) (s : ℕ) (place : Place) → IsSound v → (row_at v.rows s).state ≡ state.Alive place
    → IsStored (part v.line (place_at v.core place) 1024) × (area_of (kept_of v) s ≡ fetched (part v.line (place_at v.core place) 1024))
area_read v s place h is =
    let r : Row = row_at v.rows s in
    let own : IsAlive (part v.line (place_at v.core place) (64 * clicks_in r)) v.core r.data_size r.stack_size place = subst (λ st. HoldsBy v.line v.core st r.data_size r.stack_size) is (h.rows s) in
    (subst IsStored (front v.line (place_at v.core place) (clicks_in r) (omega arith)) own.stored, ap area_in (slot_at v s ∙ own_means v s place v.line is))
