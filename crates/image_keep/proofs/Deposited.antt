-- A byte that was put into an image stands in core or in the swap area.
use Rattle.std.proofs.Common.{◌≡◌, ◌∙◌, ℕ, ◌+◌, ◌-◌, ◌*◌, ◌<◌, Bool, true, false, List, ◌++◌, length, set, get_or, slice_index, refl, sym, ap, subst, arith}
use Rattle.std.proofs.lemmas.List.{get_or_append_left, get_or-append_right, get_or-set_same, length-set}
use Rattle.v6_base.specs.declared.entry.Place.{Place}
use Rattle.v6_base.specs.declared.entry.Place.TheVariants.{Core, Swap}
use Rattle.v6_base.specs.declared.named.Named.{Named}
use Rattle.v6_base.specs.declared.named.Named.TheVariants.{InText, InData, InStack}
use Rattle.v6_base.specs.declared.named.Named.TheVariants as named_is
use Rattle.v6_base.specs.Image.{Image}
use Rattle.v6_base.specs.Access.{with_byte, image_after}
use Rattle.v6_base.specs.Words.{IsWithin, IsStorable}
use Rattle.core_mem.specs.Bytes.{part}
use Rattle.core_mem.proofs.Parts.{length-part}
use Rattle.u_area.specs.declared.area.UArea.{UArea}
use Rattle.u_area.specs.Area.{area_bytes}
use Rattle.u_area.proofs.AreaLemmas.{fetched_is}
use Rattle.image_keep.specs.Kept.{Kept, Held, Has, HasImage, HasSizes, IsKept, area_in, image_in, area_of, image_of, imaged, Alive, clicks_of}
use Rattle.image_keep.specs.Memory.{Stock, row_at, place_at, clicks_in, kept_of, IsSound}
use Rattle.image_keep.specs.Counts.{IsCounted}
use Rattle.image_keep.specs.Holds.{image_bytes}
use Rattle.image_keep.specs.Deposits.{is_out, first_byte, bytes_before, StandsAt, with_byte_of, HasByte}
use Rattle.image_keep.proofs.Frames.{slot_imaged}
use Rattle.image_keep.proofs.Moves.{fits_in}
use Rattle.image_keep.proofs.Own.{area_read}
use Rattle.image_keep.proofs.Reading.{part_byte}
use Rattle.image_keep.proofs.Facts.{Facts}
use Rattle.image_keep.proofs.AreaSet.{known}

-- a byte behind the u area, and one behind the data too
behind : (xs area rest : List ℕ) (a n j : ℕ) → part xs a n ≡ area ++ rest → length area ≡ 1024 → 1024 + j < n → slice_index xs (a + (1024 + j)) ≡ slice_index rest j
behind xs area rest a n j e long low =
    let back : 1024 + j - 1024 ≡ j = omega arith in
    sym (part_byte xs a n (1024 + j) low) ∙ ap (λ l. slice_index l (1024 + j)) e ∙ get_or-append_right area rest 1024 (1024 + j) 0 long (omega arith) ∙ ap (λ i. get_or rest i 0) back

abbrev after_put : Held → Named → ℕ → Held
after_put held byte b = record held { image = image_after held.image (with_byte held.image byte b) }

put_there : (xs : List ℕ) (a b : ℕ) (held : Held) (byte : Named) → IsStorable byte → IsWithin held.image byte → length (area_bytes held.u) ≡ 1024 → HasSizes held.u held.image
    → part xs a (64 * clicks_of held.u) ≡ image_bytes (after_put held byte b) → slice_index xs (a + bytes_before held.image byte) ≡ b
put_there xs a b held (InText i) kind low long sizes e = absurd kind
put_there xs a b held (InData i) kind low long sizes e =
    let d = sizes.data_size in
    let k = sizes.stack_size in
    let ds : List ℕ = held.image.data in
    let same = length-set ds i b in
    behind xs (area_bytes held.u) (set ds i b ++ held.image.stack) a (64 * clicks_of held.u) i e long (omega (arith, low, d, k))
    ∙ get_or_append_left (set ds i b) held.image.stack 0 i (omega (arith, low, same)) ∙ get_or-set_same ds i b 0 low
put_there xs a b held (InStack i) kind low long sizes e =
    let d = sizes.data_size in
    let k = sizes.stack_size in
    let ds : List ℕ = held.image.data in
    let ks : List ℕ = held.image.stack in
    let assoc : 1024 + length ds + i ≡ 1024 + (length ds + i) = omega arith in
    let back : length ds + i - length ds ≡ i = omega arith in
    ap (λ j. slice_index xs (a + j)) assoc
    ∙ behind xs (area_bytes held.u) (ds ++ set ks i b) a (64 * clicks_of held.u) (length ds + i) e long (omega (arith, low, d, k))
    ∙ get_or-append_right ds (set ks i b) (length ds) (length ds + i) 0 refl (omega arith) ∙ ap (λ j. get_or (set ks i b) j 0) back ∙ get_or-set_same ks i b 0 low
put_there xs a b held named_is.Nothing kind low long sizes e = absurd kind

-- the slot has the image with that byte
slot_put : (k : Kept) (s b : ℕ) (held : Held) (byte : Named) → Has k s held → Has (with_byte_of k s byte b) s (after_put held byte b)
unfolding with_byte_of
slot_put k s b held byte has =
    let m : Image = image_after (image_of k s) (with_byte (image_of k s) byte b) in
    slot_imaged k s m ∙ ap (imaged m) has ∙ ap (λ i. Alive (record held { image = image_after i (with_byte i byte b) })) (ap image_in has)

module _ (k : Kept) (s b at : ℕ) (held : Held) (byte : Named) (has : Has k s held) (long : length (area_bytes held.u) ≡ 1024) (sizes : HasSizes held.u held.image) where
  by_place : (swap : Bool) (place : Place) → held.place ≡ place → is_out place ≡ swap → IsStorable byte → IsWithin held.image byte → at ≡ first_byte place + bytes_before held.image byte → HasByte (with_byte_of k s byte b) swap at b
  by_place false (Core c) e side kind low there = λ core holds. ap (slice_index core) there ∙ put_there core (64 * (c - 1)) b held byte kind low long sizes (holds.images s (after_put held byte b) c (slot_put k s b held byte has) e)
  by_place true (Core c) e side kind low there = absurd (cc side)
  by_place false (Swap c) e side kind low there = absurd (cc side)
  by_place true (Swap c) e side kind low there = λ area holds. ap (slice_index area) there ∙ put_there area (512 * (c - 4000)) b held byte kind low long sizes (holds.images s (after_put held byte b) c (slot_put k s b held byte has) e)

-- a u area has 1,024 bytes
area_long : (v : Stock) (k : Kept) (s : ℕ) → kept_of v ≡ k → IsSound v → IsCounted v.rows v.texts → HasImage k s → length (area_bytes (area_of k s)) ≡ 1024
area_long v k s view h c has =
    let place : Place = has.0.place in
    let f : Facts v s place = known v k s view h c has in
    let read = area_read v s place h f.is in
    let stored = read.0 in
    let g = fits_in v.core (clicks_in (row_at v.rows s)) 0 place f.inside in
    let z = h.size in
    let u : area_of k s ≡ stored.0 = ap (λ j. area_of j s) (sym view) ∙ read.1 ∙ fetched_is (part v.line (place_at v.core place) 1024) stored.0 stored.1 stored.2 in
    ap (λ (i : UArea). length (area_bytes i)) u ∙ ap length (sym stored.2) ∙ length-part v.line (place_at v.core place) 1024 (omega (arith, g, z))

pub there : (v : Stock) (k new : Kept) (s at b : ℕ) (swap : Bool) (byte : Named) → kept_of v ≡ k → IsSound v → IsCounted v.rows v.texts → IsKept k → (has : HasImage k s) → StandsAt has.0 swap at byte → new ≡ with_byte_of k s byte b → HasByte new swap at b
there v k new s at b swap byte view h c kept has st is =
    let sizes : HasSizes has.0.u has.0.image = subst (λ x. HasSizes (area_in x) (image_in x)) has.1 (kept.sizes s has) in
    let long : length (area_bytes has.0.u) ≡ 1024 = ap (λ x. length (area_bytes (area_in x))) (sym has.1) ∙ area_long v k s view h c has in
    subst (λ j. HasByte j swap at b) (sym is) (by_place k s b at has.0 byte has.1 long sizes swap has.0.place refl st.side st.kind st.within st.there)
