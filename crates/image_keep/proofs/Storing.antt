-- Bytes of the data or of the stack are written where the image stands, and read there.
use Rattle.std.proofs.Common.{◌≡◌, ℕ, suc, ◌+◌, ◌*◌, ◌<◌, ◌≤◌, inl, inr, List, [], ◌∷◌, ◌++◌, length, take, drop, set, Option, refl, sym, ap, subst, ◌∙◌, arith, append_assoc}
use Rattle.std.proofs.lemmas.List.{set_split}
use Rattle.v6_base.specs.declared.entry.Place.{Place}
use Rattle.v6_base.specs.Image.{Image}
use Rattle.v6_base.specs.Runs.{run_set}
use Rattle.core_mem.specs.Bytes.{part, over}
use Rattle.core_mem.proofs.Parts.{part-over_apart, part-part, take-over, drop-over, length-over}
use Rattle.u_area.specs.declared.area.UArea.{UArea}
use Rattle.u_area.specs.Area.{fetched, IsStored}
use Rattle.image_keep.specs.declared.row.State.TheVariants as state
use Rattle.image_keep.specs.declared.row.Row.{Row}
use Rattle.image_keep.specs.Kept.{Keeping, Nothing, Alive, Grave, Kept, keeping, with_keeping, imaged, with_image, image_in, image_of}
use Rattle.image_keep.specs.Memory.{Stock, row_at, place_at, clicks_in, text_for, image_by, kept_of, IsAlive, HoldsBy, IsSound}
use Rattle.image_keep.specs.Told.{IsTold, AreTold}
use Rattle.image_keep.proofs.Places.{slot_at}
use Rattle.image_keep.proofs.Moves.{fits_in}
use Rattle.image_keep.proofs.Own.{OwnWrite, with_line, own_sound, own_kept, own_means, front, text_stays}
use Rattle.image_keep.proofs.SharedTexts.{part_filled}
use Rattle.image_keep.proofs.Growing.{image_parts}
use Rattle.image_keep.proofs.Told.{told_slot, told_alive}

-- one byte, and a run of bytes, as a write over a list
pub set_over : (xs : List ℕ) (i b : ℕ) → i < length xs → set xs i b ≡ over xs i (b ∷ [])
unfolding over
set_over xs i b low = set_split xs i b low ∙ (let e : suc i ≡ i + 1 = omega arith in ap (λ n. take i xs ++ (b ∷ drop n xs)) e)

pub run_over : (xs : List ℕ) (i : ℕ) (ys : List ℕ) → over xs i ys ≡ run_set xs i ys
unfolding over run_set
run_over xs i ys = sym (append_assoc (take i xs) ys (drop (i + length ys) xs))

-- a write behind the u area
pub range_write : (v : Stock) (s : ℕ) (place : Place) (i : ℕ) (bytes : List ℕ) → IsSound v → (row_at v.rows s).state ≡ state.Alive place → 1024 ≤ i → i + length bytes ≤ 64 * clicks_in (row_at v.rows s)
    → OwnWrite v s place (over v.line (place_at v.core place + i) bytes)
range_write v s place i bytes h is low high =
    let r : Row = row_at v.rows s in
    let n : ℕ = clicks_in r in
    let own : IsAlive (part v.line (place_at v.core place) (64 * n)) v.core r.data_size r.stack_size place = subst (λ st. HoldsBy v.line v.core st r.data_size r.stack_size) is (h.rows s) in
    let at : ℕ = place_at v.core place in
    let new = over v.line (at + i) bytes in
    let f = fits_in v.core n 0 place own.inside in
    let z = h.size in
    let fits : at + i + length bytes ≤ length v.line = omega (arith, f, z, high) in
    let same : part new at 1024 ≡ part v.line at 1024 = part-over_apart v.line (at + i) bytes at 1024 fits (inl (omega (arith, low))) in
    let g : part (part v.line at (64 * n)) 0 1024 ≡ part v.line at 1024 = front v.line at n (omega arith) in
    record {
      wrote = record {
        below = take-over v.line (at + i) bytes at (omega arith) fits;
        above = drop-over v.line (at + i) bytes (at + 64 * n) (omega (arith, high)) fits;
        size = length-over v.line (at + i) bytes fits;
      };
      is = is;
      stored = subst IsStored (g ∙ sym same) own.stored;
      data_size = ap (λ x. (fetched x).data_size) (same ∙ sym g) ∙ own.data_size;
      stack_size = ap (λ x. (fetched x).stack_size) (same ∙ sym g) ∙ own.stack_size;
    }

-- the image after a write that leaves its u area
pub image_put : (v : Stock) (s : ℕ) (place : Place) (new kept_data kept_stack : List ℕ) → IsSound v → OwnWrite v s place new → part new (place_at v.core place) 1024 ≡ part v.line (place_at v.core place) 1024
    → part new (place_at v.core place + 1024) (64 * (row_at v.rows s).data_size) ≡ kept_data → part new (place_at v.core place + 1024 + 64 * (row_at v.rows s).data_size) (64 * (row_at v.rows s).stack_size) ≡ kept_stack
    → kept_of (with_line v new) ≡ with_image (kept_of v) s (record (image_of (kept_of v) s) { «data» = kept_data; stack = kept_stack })
unfolding with_image image_by
image_put v s place new kept_data kept_stack h w area one two =
    let r : Row = row_at v.rows s in
    let n : ℕ = clicks_in r in
    let at : ℕ = place_at v.core place in
    let e : at + (1024 + 64 * r.data_size) ≡ at + 1024 + 64 * r.data_size = omega arith in
    let d : part (part new at (64 * n)) 1024 (64 * r.data_size) ≡ kept_data = part-part new at (64 * n) 1024 (64 * r.data_size) (omega arith) ∙ one in
    let k : part (part new at (64 * n)) (1024 + 64 * r.data_size) (64 * r.stack_size) ≡ kept_stack = part-part new at (64 * n) (1024 + 64 * r.data_size) (64 * r.stack_size) (omega arith) ∙ ap (λ i. part new i (64 * r.stack_size)) e ∙ two in
    own_kept v s place new h w
    ∙ ap (with_keeping (kept_of v) s)
    (own_means v s place new w.is
    ∙ so (fetched (part new at 1024)) (fetched (part v.line at 1024)) (text_for new v.core v.texts r.text) (text_for v.line v.core v.texts r.text) (part (part new at (64 * n)) 1024 (64 * r.data_size)) (part (part new at (64 * n)) (1024 + 64 * r.data_size) (64 * r.stack_size)) (ap fetched area) (text_stays v s place new h w) d k
    ∙ sym (ap (λ x. imaged (record (image_in x) { «data» = kept_data; stack = kept_stack }) x) (slot_at v s ∙ own_means v s place v.line w.is)))
  where
    so : (u u2 : UArea) (t t2 d k : List ℕ) → u ≡ u2 → t ≡ t2 → d ≡ kept_data → k ≡ kept_stack
        → Alive (record { u = u; image = record { text = t; «data» = d; stack = k }; place = place }) ≡ Alive (record { u = u2; image = record { text = t2; «data» = kept_data; stack = kept_stack }; place = place })
    so u u2 t t2 d k a b c e = cc

-- bytes of the data, and of the stack
module _ (v : Stock) (s : ℕ) (place : Place) (i : ℕ) (bytes : List ℕ) (h : IsSound v) (low : s < length v.rows) (is : (row_at v.rows s).state ≡ state.Alive place) where
  own_of : IsAlive (part v.line (place_at v.core place) (64 * clicks_in (row_at v.rows s))) v.core (row_at v.rows s).data_size (row_at v.rows s).stack_size place
  own_of = subst (λ st. HoldsBy v.line v.core st (row_at v.rows s).data_size (row_at v.rows s).stack_size) is (h.rows s)

  room_of : place_at v.core place + 64 * clicks_in (row_at v.rows s) ≤ length v.line
  room_of = let f = fits_in v.core (clicks_in (row_at v.rows s)) 0 place own_of.inside in let z = h.size in omega (arith, f, z)

  parts : (let m : Image = record { text = text_for v.line v.core v.texts (row_at v.rows s).text; «data» = part v.line (place_at v.core place + 1024) (64 * (row_at v.rows s).data_size); stack = part v.line (place_at v.core place + 1024 + 64 * (row_at v.rows s).data_size) (64 * (row_at v.rows s).stack_size) } in image_of (kept_of v) s ≡ m)
  parts = image_parts v s place is

  pub data_put : i + length bytes ≤ 64 * (row_at v.rows s).data_size
      → IsSound (with_line v (over v.line (place_at v.core place + 1024 + i) bytes))
      × (kept_of (with_line v (over v.line (place_at v.core place + 1024 + i) bytes)) ≡ with_image (kept_of v) s (record (image_of (kept_of v) s) { «data» = run_set (image_of (kept_of v) s).data i bytes }))
  data_put fits =
      let r : Row = row_at v.rows s in
      let at : ℕ = place_at v.core place in
      let l = room_of in
      let e : at + (1024 + i) ≡ at + 1024 + i = omega arith in
      let w : OwnWrite v s place (over v.line (at + 1024 + i) bytes) = subst (λ j. OwnWrite v s place (over v.line j bytes)) e (range_write v s place (1024 + i) bytes h is (omega arith) (omega (arith, fits))) in
      let room_is : at + 1024 + i + length bytes ≤ length v.line = omega (arith, fits, l) in
      let new = over v.line (at + 1024 + i) bytes in
      let area : part new at 1024 ≡ part v.line at 1024 = part-over_apart v.line (at + 1024 + i) bytes at 1024 room_is (inl (omega arith)) in
      let one : part new (at + 1024) (64 * r.data_size) ≡ run_set (image_of (kept_of v) s).data i bytes =
      part_filled v.line (at + 1024) (64 * r.data_size) i bytes fits (omega (arith, l)) ∙ run_over (part v.line (at + 1024) (64 * r.data_size)) i bytes ∙ ap (λ (m : Image). run_set m.data i bytes) (sym parts) in
      let two : part new (at + 1024 + 64 * r.data_size) (64 * r.stack_size) ≡ (image_of (kept_of v) s).stack =
      part-over_apart v.line (at + 1024 + i) bytes (at + 1024 + 64 * r.data_size) (64 * r.stack_size) room_is (inr (omega (arith, fits))) ∙ ap (λ (m : Image). m.stack) (sym parts) in
      (own_sound v s place new h low w, image_put v s place new _ _ h w area one two)

  pub stack_put : i + length bytes ≤ 64 * (row_at v.rows s).stack_size
      → IsSound (with_line v (over v.line (place_at v.core place + 1024 + 64 * (row_at v.rows s).data_size + i) bytes))
      × (kept_of (with_line v (over v.line (place_at v.core place + 1024 + 64 * (row_at v.rows s).data_size + i) bytes)) ≡ with_image (kept_of v) s (record (image_of (kept_of v) s) { stack = run_set (image_of (kept_of v) s).stack i bytes }))
  stack_put fits =
      let r : Row = row_at v.rows s in
      let at : ℕ = place_at v.core place in
      let l = room_of in
      let e : at + (1024 + 64 * r.data_size + i) ≡ at + 1024 + 64 * r.data_size + i = omega arith in
      let w : OwnWrite v s place (over v.line (at + 1024 + 64 * r.data_size + i) bytes) = subst (λ j. OwnWrite v s place (over v.line j bytes)) e (range_write v s place (1024 + 64 * r.data_size + i) bytes h is (omega arith) (omega (arith, fits))) in
      let room_is : at + 1024 + 64 * r.data_size + i + length bytes ≤ length v.line = omega (arith, fits, l) in
      let new = over v.line (at + 1024 + 64 * r.data_size + i) bytes in
      let area : part new at 1024 ≡ part v.line at 1024 = part-over_apart v.line (at + 1024 + 64 * r.data_size + i) bytes at 1024 room_is (inl (omega arith)) in
      let one : part new (at + 1024) (64 * r.data_size) ≡ (image_of (kept_of v) s).data =
      part-over_apart v.line (at + 1024 + 64 * r.data_size + i) bytes (at + 1024) (64 * r.data_size) room_is (inl (omega arith)) ∙ ap (λ (m : Image). m.data) (sym parts) in
      let two : part new (at + 1024 + 64 * r.data_size) (64 * r.stack_size) ≡ run_set (image_of (kept_of v) s).stack i bytes =
      part_filled v.line (at + 1024 + 64 * r.data_size) (64 * r.stack_size) i bytes fits (omega (arith, l)) ∙ run_over (part v.line (at + 1024 + 64 * r.data_size) (64 * r.stack_size)) i bytes ∙ ap (λ (m : Image). run_set m.stack i bytes) (sym parts) in
      (own_sound v s place new h low w, image_put v s place new _ _ h w area one two)

-- u areas tell the same when an image is another one
told_imaged : (clicks : ℕ) (text : Option ℕ) (x : Keeping) (m : Image) → IsTold clicks text x → IsTold clicks text (imaged m x)
told_imaged clicks text Nothing m h = h
told_imaged clicks text (Alive held) m h = told_alive clicks text (record held { image = m }) (h.text_size held refl) (h.segments held refl)
told_imaged clicks text (Grave u b) m h = h

pub told_image : (i j k : Kept) (s : ℕ) (m : Image) → i ≡ k → j ≡ with_image k s m → AreTold i → AreTold j
unfolding with_image
told_image i j k s m view is told = let t : AreTold k = subst AreTold view told in subst AreTold (sym is) (told_slot k s (imaged m (keeping k s)) t (told_imaged _ _ (keeping k s) m (t s)))
