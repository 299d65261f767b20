-- What an address names is read where the image stands.
use Rattle.std.proofs.Common.{◌≡◌, ◌≢◌, ℕ, ◌+◌, ◌-◌, ◌*◌, ◌<◌, ◌≤◌, ◌==◌, List, length, drop, slice_index, cond, Bool, true, false, Option, Some, None, Ok, refl, sym, ap, subst, ◌∙◌, arith}
use Rattle.std.proofs.lemmas.Bool.{eqb-false}
use Rattle.std.proofs.lemmas.List.{get_or-take, get_or-drop}
use Rattle.v6_base.specs.declared.entry.Place.{Place}
use Rattle.v6_base.specs.declared.named.Named.{Named}
use Rattle.v6_base.specs.declared.named.Named.TheVariants as named_is
use Rattle.v6_base.specs.Image.{Image, named, named_by}
use Rattle.v6_base.specs.Access.{byte_at}
use Rattle.v6_base.specs.Words.{IsWithin}
use Rattle.v6_base.proofs.Copies.{SameLengths}
use Rattle.core_mem.specs.Bytes.{part}
use Rattle.core_mem.proofs.Parts.{length-part}
use Rattle.text_tab.specs.declared.row.TextRow.{TextRow}
use Rattle.text_tab.specs.Table.{text_at}
use Rattle.image_keep.specs.declared.row.Row.{Row}
use Rattle.image_keep.specs.declared.starts.Starts.{Starts}
use Rattle.image_keep.specs.Kept.{Held, Keeping, Nothing, Alive, Grave, Kept, keeping, imaged, with_image, image_of, shared, text_of, place_in}
use Rattle.image_keep.specs.Memory.{Stock, row_at, swap_at, place_at, clicks_in, text_in, text_for, shared_in, kept_of, IsSound}
use Rattle.image_keep.specs.Counts.{IsCounted}
use Rattle.image_keep.specs.Starts.{data_start, shared_start, text_start, AreStarts, IsThere, start_of}
use Rattle.image_keep.proofs.Frames.{alive_image, alive_low, keeping_same, with_image_same, with_image_alive}
use Rattle.image_keep.proofs.Places.{shared_at}
use Rattle.image_keep.proofs.Moves.{fits_in}
use Rattle.image_keep.proofs.SwapIn.{text_of_row}
use Rattle.image_keep.proofs.Facts.{Facts, facts}
use Rattle.image_keep.proofs.InPlan.{core_kept}
use Rattle.image_keep.proofs.Growing.{image_parts}
use Rattle.image_keep.proofs.Laid.{text_copy}

-- what is found is what the address names
pub find_is : (k : Kept) (s : ℕ) (x : Starts) (v : ℕ) → AreStarts k s x → named_by x.text_len x.data_len (65536 - x.stack_start) v ≡ named (image_of k s) v
find_is k s x v a =
    let z = a.stack_start in
    let n : 65536 - x.stack_start ≡ length (image_of k s).stack = omega (arith, z) in
    ap (λ t. named_by t x.data_len (65536 - x.stack_start) v) a.text_len
    ∙ ap (λ d. named_by (length (image_of k s).text) d (65536 - x.stack_start) v) a.data_len
    ∙ ap (λ i. named_by (length (image_of k s).text) (length (image_of k s).data) i v) n

pub there_within : (k : Kept) (s : ℕ) (x : Starts) (p : Named) → AreStarts k s x → IsThere x p → IsWithin (image_of k s) p
there_within k s x (named_is.InText i) a h = let l = a.text_len in omega (arith, l, h)
there_within k s x (named_is.InData i) a h = let l = a.data_len in omega (arith, l, h)
there_within k s x (named_is.InStack i) a h = let l = a.stack_start in omega (arith, l, h)
there_within k s x named_is.Nothing a h = tt

pub part_byte : (xs : List ℕ) (q n i : ℕ) → i < n → slice_index (part xs q n) i ≡ slice_index xs (q + i)
unfolding part
part_byte xs q n i low = get_or-take n (drop q xs) i 0 low ∙ get_or-drop q xs i 0

-- the facts of a slot with these starts
pub record Stand (v : Stock) (k : Kept) (s : ℕ) (x : Starts) : Type 0 where
  pub place : Place
  pub facts : Facts v s place
  pub image : x.image ≡ place_at v.core place + 1024
  pub data_len : x.data_len ≡ 64 * (row_at v.rows s).data_size
  pub parts : (let m : Image = record { text = text_for v.line v.core v.texts (row_at v.rows s).text; «data» = part v.line (place_at v.core place + 1024) (64 * (row_at v.rows s).data_size); stack = part v.line (place_at v.core place + 1024 + 64 * (row_at v.rows s).data_size) (64 * (row_at v.rows s).stack_size) } in image_of k s ≡ m)
  pub data_long : length (image_of k s).data ≡ 64 * (row_at v.rows s).data_size
  pub stack_long : length (image_of k s).stack ≡ 64 * (row_at v.rows s).stack_size
  pub room : place_at v.core place + 64 * clicks_in (row_at v.rows s) ≤ length v.line

data_start_is : (core : ℕ) (x : Keeping) (held : Held) → x ≡ Alive held → data_start core x ≡ place_at core held.place + 1024
data_start_is core x held e = ap (data_start core) e

pub stand : (v : Stock) (k : Kept) (s : ℕ) (x : Starts) → kept_of v ≡ k → IsSound v → IsCounted v.rows v.texts → AreStarts k s x → Stand v k s x
stand v k s x view h c a =
    let has = alive_image k s a.alive in
    let place : Place = has.0.place in
    let f : Facts v s place = facts v k s place view h c (ap place_in has.1) has in
    let r : Row = row_at v.rows s in
    let parts_are = ap (λ j. image_of j s) (sym view) ∙ image_parts v s place f.is in
    let g = fits_in v.core (clicks_in r) 0 place f.inside in
    let z = h.size in
    let room_is : place_at v.core place + 64 * clicks_in r ≤ length v.line = omega (arith, g, z) in
    let long : (q n : ℕ) → q + n ≤ length v.line → length (part v.line q n) ≡ n = λ q n l. length-part v.line q n l in
    let d : length (image_of k s).data ≡ 64 * r.data_size = ap (λ (m : Image). length m.data) parts_are ∙ long (place_at v.core place + 1024) (64 * r.data_size) (omega (arith, room_is)) in
    record {
      place = place;
      facts = f;
      image = a.image ∙ data_start_is k.core (keeping k s) has.0 has.1 ∙ ap (λ n. place_at n place + 1024) (sym (ap (λ (j : Kept). j.core) view) ∙ core_kept v);
      data_len = a.data_len ∙ d;
      parts = parts_are;
      data_long = d;
      stack_long = ap (λ (m : Image). length m.stack) parts_are ∙ long (place_at v.core place + 1024 + 64 * r.data_size) (64 * r.stack_size) (omega (arith, room_is));
      room = room_is;
    }

none_there : (v : Stock) (t i : ℕ) → text_at v.texts t ≡ None → i < length (text_in v.line v.core (text_at v.texts t)) → ⊥
unfolding text_in
none_there v t i e l = let l2 = subst (λ o. i < length (text_in v.line v.core o)) e l in omega (arith, l2)

text_few : (v : Stock) (t i : ℕ) (row : TextRow) → IsSound v → text_at v.texts t ≡ Some row → i < length (text_in v.line v.core (text_at v.texts t)) → i < 64 * row.clicks
unfolding text_in
text_few v t i row h e l =
    let l2 = subst (λ o. i < length (text_in v.line v.core o)) e l in
    let o = (h.texts t row e).out in
    let a = o.0 in
    let b = o.1 in
    let z = h.size in
    let n = length-part v.line (swap_at v.core row.block) (64 * row.clicks) (omega (arith, a, b, z)) in
    omega (arith, l2, n)

out_byte : (v : Stock) (t i : ℕ) (row : TextRow) → IsSound v → text_at v.texts t ≡ Some row → i < 64 * row.clicks
    → (swap_at v.core row.block + i < length v.line) × (slice_index (text_for v.line v.core v.texts (Some t)) i ≡ slice_index v.line (swap_at v.core row.block + i))
unfolding text_for text_in
out_byte v t i row h e l =
    let o = (h.texts t row e).out in
    let a = o.0 in
    let b = o.1 in
    let z = h.size in
    (omega (arith, a, b, z, l), ap (λ q. slice_index (text_in v.line v.core q) i) e ∙ part_byte v.line (swap_at v.core row.block) (64 * row.clicks) i l)

in_byte : (v : Stock) (t i : ℕ) (row : TextRow) → IsSound v → text_at v.texts t ≡ Some row → row.loaded ≢ 0 → i < 64 * row.clicks
    → (64 * (row.at - 1) + i < length v.line) × (slice_index (text_for v.line v.core v.texts (Some t)) i ≡ slice_index v.line (64 * (row.at - 1) + i))
in_byte v t i row h e some l =
    let w = (h.texts t row e).within some in
    let a = w.0 in
    let b = w.1 in
    let z = h.size in
    (omega (arith, a, b, z, l), text_copy v t i row h e some l)

-- bytes of a text are read in core, where it is there, and else in its blocks
text_byte : (v : Stock) (x : Option ℕ) (i : ℕ) → IsSound v → i < length (text_for v.line v.core v.texts x)
    → (text_start (kept_of v) x + i < length v.line) × (slice_index (text_for v.line v.core v.texts x) i ≡ slice_index v.line (text_start (kept_of v) x + i))
unfolding text_for
text_byte v None i h low = absurd (omega (arith, low))
text_byte v (Some t) i h low = by (text_at v.texts t) refl low
  where
    begin : (o : Option TextRow) → text_at v.texts t ≡ o → text_start (kept_of v) (Some t) ≡ shared_start v.core (shared_in v.line v.core o)
    begin o e = ap (λ n. shared_start n (shared (kept_of v) t)) (core_kept v) ∙ ap (shared_start v.core) (shared_at v t ∙ ap (shared_in v.line v.core) e)

    found : (row : TextRow) → text_at v.texts t ≡ Some row → (b : Bool) → (row.loaded == 0) ≡ b → i < 64 * row.clicks
        → (cond b (swap_at v.core row.block) (64 * (row.at - 1)) + i < length v.line) × (slice_index (text_for v.line v.core v.texts (Some t)) i ≡ slice_index v.line (cond b (swap_at v.core row.block) (64 * (row.at - 1)) + i))
    found row e true is low = out_byte v t i row h e low
    found row e false is low = in_byte v t i row h e (eqb-false row.loaded 0 is) low

    by : (o : Option TextRow) → text_at v.texts t ≡ o → i < length (text_in v.line v.core (text_at v.texts t))
        → (text_start (kept_of v) (Some t) + i < length v.line) × (slice_index (text_for v.line v.core v.texts (Some t)) i ≡ slice_index v.line (text_start (kept_of v) (Some t) + i))
    by None e l = absurd (none_there v t i e l)
    by (Some row) e l =
        let f = found row e (row.loaded == 0) refl (text_few v t i row h e l) in
        subst (λ n. (n + i < length v.line) × (slice_index (text_for v.line v.core v.texts (Some t)) i ≡ slice_index v.line (n + i))) (sym (begin (Some row) e)) f

-- The byte that is named stands in the line.
pub byte_read : (v : Stock) (k : Kept) (s : ℕ) (x : Starts) (p : Named) → kept_of v ≡ k → IsSound v → IsCounted v.rows v.texts → AreStarts k s x → IsWithin (image_of k s) p → p ≢ named_is.Nothing
    → (start_of x p < length v.line) × (byte_at (image_of k s) p ≡ Ok (slice_index v.line (start_of x p)))
byte_read v k s x (named_is.InText i) view h c a low some =
    let f : Stand v k s x = stand v k s x view h c a in
    let r : Row = row_at v.rows s in
    let text : (image_of k s).text ≡ text_for v.line v.core v.texts r.text = ap (λ (m : Image). m.text) f.parts in
    let l : i < length (text_for v.line v.core v.texts r.text) = subst (λ t. i < length t) text low in
    let at : x.text ≡ text_start (kept_of v) r.text = a.text ∙ ap (λ j. text_start j (text_of j s)) (sym view) ∙ ap (text_start (kept_of v)) (text_of_row v s) in
    let b = text_byte v r.text i h l in
    (subst (λ n. n + i < length v.line) (sym at) b.0, ap (λ t. Ok (slice_index t i)) text ∙ ap Ok (b.1 ∙ ap (λ n. slice_index v.line (n + i)) (sym at)))
byte_read v k s x (named_is.InData i) view h c a low some =
    let f : Stand v k s x = stand v k s x view h c a in
    let r : Row = row_at v.rows s in
    let long = f.data_long in
    let room = f.room in
    let at = f.image in (
      omega (arith, at, low, long, room),
      ap (λ (m : Image). Ok (slice_index m.data i)) f.parts ∙ ap Ok (part_byte v.line (place_at v.core f.place + 1024) (64 * r.data_size) i (omega (arith, low, long)) ∙ ap (λ n. slice_index v.line (n + i)) (sym at)),
    )
byte_read v k s x (named_is.InStack i) view h c a low some =
    let f : Stand v k s x = stand v k s x view h c a in
    let r : Row = row_at v.rows s in
    let long = f.stack_long in
    let room = f.room in
    let at = f.image in
    let d = f.data_len in
    let same : place_at v.core f.place + 1024 + 64 * r.data_size + i ≡ x.image + x.data_len + i = omega (arith, at, d) in (
      omega (arith, at, low, long, room, d),
      ap (λ (m : Image). Ok (slice_index m.stack i)) f.parts ∙ ap Ok (part_byte v.line (place_at v.core f.place + 1024 + 64 * r.data_size) (64 * r.stack_size) i (omega (arith, low, long)) ∙ ap (slice_index v.line) same),
    )
byte_read v k s x named_is.Nothing view h c a low some = absurd (some refl)

-- stores leave the starts
alive_start : (core : ℕ) (x : Keeping) (m : Image) → data_start core (imaged m x) ≡ data_start core x
alive_start core Nothing m = refl
alive_start core (Alive held) m = refl
alive_start core (Grave u b) m = refl

pub starts_after : (k : Kept) (s : ℕ) (x : Starts) (m : Image) → AreStarts k s x → SameLengths (image_of k s) m → AreStarts (with_image k s m) s x
unfolding with_image
starts_after k s x m a same =
    let now : image_of (with_image k s m) s ≡ m = with_image_same k s m a.alive in
    let low : s < length k.slots = alive_low k.slots s a.alive in
    let z = a.stack_start in
    let n : length (image_of (with_image k s m) s).stack ≡ length (image_of k s).stack = ap (λ (i : Image). length i.stack) now ∙ same.stack in
    record {
      alive = with_image_alive k s s m ∙ a.alive;
      text = a.text;
      image = a.image ∙ sym (alive_start k.core (keeping k s) m) ∙ ap (data_start k.core) (sym (keeping_same k s (imaged m (keeping k s)) low));
      text_len = a.text_len ∙ sym (ap (λ (i : Image). length i.text) now ∙ same.text);
      data_len = a.data_len ∙ sym (ap (λ (i : Image). length i.data) now ∙ same.data);
      stack_start = omega (arith, z, n);
      core = a.core;
    }
