-- What is kept has its form: images in whole clicks and eight segments, each with the bytes of its slot's text.
use Rattle.std.proofs.Common.{◌≡◌, ℕ, ◌+◌, ◌*◌, ◌<◌, ◌≤◌, List, length, Option, Some, None, refl, sym, ap, subst, ◌∙◌, arith}
use Rattle.std.proofs.lemmas.List.{length-map}
use Rattle.std.proofs.lemmas.List.Elements.{All-take, All-drop}
use Rattle.v6_base.specs.Image.{IsImage, AreBytes}
use Rattle.v6_base.proofs.Formed.{formed_empty}
use Rattle.core_mem.specs.Bytes.{part}
use Rattle.core_mem.proofs.Parts.{length-part}
use Rattle.u_area.specs.Area.{fetched}
use Rattle.text_tab.specs.declared.row.TextRow.{TextRow}
use Rattle.text_tab.specs.Table.{text_at}
use Rattle.image_keep.specs.declared.row.State.{State}
use Rattle.image_keep.specs.declared.row.State.TheVariants as state
use Rattle.image_keep.specs.declared.row.Row.{Row}
use Rattle.image_keep.specs.Kept.{Held, Keeping, Nothing, Alive, Grave, Kept, HasSizes, HasImage, IsKept, keeping, image_in, image_of, area_in, area_of, text_of, text_bytes, text_clicks, bytes_in, shared_clicks, place_of, place_in as place_kept}
use Rattle.image_keep.specs.Memory.{Stock, row_at, swap_at, place_at, place_by, text_in, text_for, image_by, keeping_by, keeping_in, shared_in, kept_of, HoldsBy, IsText, IsSound}
use Rattle.image_keep.specs.SharedTexts.{AreLong}
use Rattle.image_keep.specs.Told.{IsTold, AreTold}
use Rattle.image_keep.proofs.Places.{slot_at, shared_at}
use Rattle.image_keep.proofs.Moves.{fits_in}
use Rattle.image_keep.proofs.SwapIn.{text_of_row}

-- a part of bytes is bytes
pub part_bytes : (line : List ℕ) (at n : ℕ) → AreBytes line → AreBytes (part line at n)
unfolding part
part_bytes line at n are = All-take (λ byte. byte < 256) n _ (All-drop (λ byte. byte < 256) at line are)

record HasForm (held : Held) (text : List ℕ) : Type 0 where
  text_is : held.image.text ≡ text
  data_long : length held.image.data ≡ 64 * held.u.data_size
  stack_long : length held.image.stack ≡ 64 * held.u.stack_size
  data_are : AreBytes held.image.data
  stack_are : AreBytes held.image.stack

form_of : (line : List ℕ) (core : ℕ) (text : List ℕ) (st : State) (d k : ℕ) (held : Held) → length line ≡ 64 * core + 446464 → AreBytes line → HoldsBy line core st d k → keeping_by line core text st d k ≡ Alive held → HasForm held text
unfolding keeping_by image_by
form_of line core text state.Nothing d k held z are h e = absurd (cc e)
form_of line core text (state.Alive place) d k held z are h e =
    let b : List ℕ = part line (place_at core place) (64 * (16 + d + k)) in
    let f = fits_in core (16 + d + k) 0 place h.inside in
    let long : length b ≡ 64 * (16 + d + k) = length-part line (place_at core place) (64 * (16 + d + k)) (omega (arith, f, z)) in
    let bytes : AreBytes b = part_bytes line (place_at core place) (64 * (16 + d + k)) are in
    let same : record { u = fetched (part b 0 1024); image = image_by b d k text; place = place } ≡ held = cc e in
    subst (λ (i : Held). HasForm i text) same (record {
      text_is = refl;
      data_long = length-part b 1024 (64 * d) (omega (arith, long)) ∙ ap (λ n. 64 * n) (sym h.data_size);
      stack_long = length-part b (1024 + 64 * d) (64 * k) (omega (arith, long)) ∙ ap (λ n. 64 * n) (sym h.stack_size);
      data_are = part_bytes b 1024 (64 * d) bytes;
      stack_are = part_bytes b (1024 + 64 * d) (64 * k) bytes;
    })
form_of line core text (state.Grave b) d k held z are h e = absurd (cc e)

image_formed : (x : Keeping) (text : List ℕ) (clicks : ℕ) (user : Option ℕ) → AreBytes text → length text ≡ 64 * clicks → IsTold clicks user x → ((held : Held) → x ≡ Alive held → HasForm held text) → IsImage (image_in x)
image_formed Nothing text clicks user are long told form = formed_empty
image_formed (Alive held) text clicks user are long told form =
    let f : HasForm held text = form held refl in
    let t : held.u.text_size ≡ clicks = told.text_size held refl in
    let n = told.segments held refl in
    let a : length held.image.text ≡ 64 * held.u.text_size = ap length f.text_is ∙ long ∙ ap (λ n. 64 * n) (sym t) in
    let b = f.data_long in
    let c = f.stack_long in
    record {
      text_clicks = omega (arith, a);
      data_clicks = omega (arith, b);
      stack_clicks = omega (arith, c);
      segments = omega (arith, a, b, c, n);
      text_bytes = subst AreBytes (sym f.text_is) are;
      data_bytes = f.data_are;
      stack_bytes = f.stack_are;
    }
image_formed (Grave u b) text clicks user are long told form = formed_empty

text_in_long : (line : List ℕ) (core : ℕ) (o : Option TextRow) → length line ≡ 64 * core + 446464 → ((row : TextRow) → o ≡ Some row → IsText line core row) → length (text_in line core o) ≡ 64 * shared_clicks (shared_in line core o)
unfolding text_in
text_in_long line core None z h = refl
text_in_long line core (Some row) z h =
    let o = (h row refl).out in
    let a = o.0 in
    let b = o.1 in
    length-part line (swap_at core row.block) (64 * row.clicks) (omega (arith, a, b, z))

text_in_bytes : (line : List ℕ) (core : ℕ) (o : Option TextRow) → AreBytes line → AreBytes (text_in line core o)
unfolding text_in
text_in_bytes line core None are = λ k d low. absurd (omega arith)
text_in_bytes line core (Some row) are = part_bytes line (swap_at core row.block) (64 * row.clicks) are

shared_text : (line : List ℕ) (core : ℕ) (o : Option TextRow) → bytes_in (shared_in line core o) ≡ text_in line core o
unfolding text_in
shared_text line core None = refl
shared_text line core (Some row) = refl

-- the text of a slot, its length and its bytes
pub text_is : (v : Stock) (x : Option ℕ) → text_bytes (kept_of v) x ≡ text_for v.line v.core v.texts x
unfolding text_for
text_is v None = refl
text_is v (Some t) = ap bytes_in (shared_at v t) ∙ shared_text v.line v.core (text_at v.texts t)

pub text_long : (v : Stock) (x : Option ℕ) → IsSound v → length (text_for v.line v.core v.texts x) ≡ 64 * text_clicks (kept_of v) x
unfolding text_for
text_long v None h = refl
text_long v (Some t) h = text_in_long v.line v.core (text_at v.texts t) h.size (h.texts t) ∙ ap (λ o. 64 * shared_clicks o) (sym (shared_at v t))

pub all_long : (v : Stock) (k : Kept) → kept_of v ≡ k → IsSound v → AreLong k
all_long v k view h = subst AreLong view (λ t. ap length (text_is v (Some t)) ∙ text_long v (Some t) h)

text_are : (v : Stock) (x : Option ℕ) → AreBytes v.line → AreBytes (text_for v.line v.core v.texts x)
unfolding text_for
text_are v None are = λ k d low. absurd (omega arith)
text_are v (Some t) are = text_in_bytes v.line v.core (text_at v.texts t) are

module _ (v : Stock) (h : IsSound v) (table : length v.texts ≡ 40) (told : AreTold (kept_of v)) (are : AreBytes v.line) where
  slot_form : (s : ℕ) (held : Held) → keeping (kept_of v) s ≡ Alive held → HasForm held (text_for v.line v.core v.texts (row_at v.rows s).text)
  slot_form s held e =
      let r : Row = row_at v.rows s in
      form_of v.line v.core (text_for v.line v.core v.texts r.text) r.state r.data_size r.stack_size held h.size are (h.rows s) (sym (slot_at v s) ∙ e)

  slot_text : (s : ℕ) → length (text_for v.line v.core v.texts (row_at v.rows s).text) ≡ 64 * text_clicks (kept_of v) (text_of (kept_of v) s)
  slot_text s = text_long v (row_at v.rows s).text h ∙ ap (λ x. 64 * text_clicks (kept_of v) x) (sym (text_of_row v s))

  slot_sizes : (s : ℕ) → HasImage (kept_of v) s → HasSizes (area_of (kept_of v) s) (image_of (kept_of v) s)
  slot_sizes s has =
      let f = slot_form s has.0 has.1 in
      subst (λ x. HasSizes (area_in x) (image_in x)) (sym has.1) (record {
        text_size = ap length f.text_is ∙ slot_text s ∙ ap (λ n. 64 * n) (sym ((told s).text_size has.0 has.1));
        data_size = f.data_long;
        stack_size = f.stack_long;
      })

  slots_long : length (kept_of v).slots ≡ 50
  unfolding kept_of
  slots_long = length-map v.rows (keeping_in v.line v.core v.texts) ∙ h.slots

  texts_long : length (kept_of v).texts ≡ 40
  unfolding kept_of
  texts_long = length-map v.texts (shared_in v.line v.core) ∙ table

  users_long : length (kept_of v).users ≡ 50
  unfolding kept_of
  users_long = length-map v.rows (λ (r : Row). r.text) ∙ h.slots

  core_is : (kept_of v).core ≡ v.core
  unfolding kept_of
  core_is = refl

  pub kept_form : IsKept (kept_of v)
  kept_form = record {
    slots = slots_long;
    table = texts_long;
    seats = users_long;
    least = subst (λ n. 64 ≤ n) (sym core_is) h.least;
    most = subst (λ n. n ≤ 3968) (sym core_is) h.most;
    text = λ s has. (let f = slot_form s has.0 has.1 in
        ap (λ x. (image_in x).text) has.1 ∙ f.text_is ∙ sym (ap (text_bytes (kept_of v)) (text_of_row v s) ∙ text_is v (row_at v.rows s).text));
    sizes = slot_sizes;
    formed = λ s. image_formed (keeping (kept_of v) s) (text_for v.line v.core v.texts (row_at v.rows s).text) (text_clicks (kept_of v) (text_of (kept_of v) s)) (text_of (kept_of v) s)
        (text_are v (row_at v.rows s).text are) (slot_text s) (told s) (slot_form s);
  }

pub kept_holds : (v : Stock) (k : Kept) → kept_of v ≡ k → IsSound v → length v.texts ≡ 40 → AreTold (kept_of v) → AreBytes v.line → IsKept k
kept_holds v k view h table told are = subst IsKept view (kept_form v h table told are)

-- where a slot's image stands
place_means : (line : List ℕ) (core : ℕ) (text : List ℕ) (st : State) (d k : ℕ) → place_kept (keeping_by line core text st d k) ≡ place_by st
unfolding keeping_by
place_means line core text state.Nothing d k = refl
place_means line core text (state.Alive place) d k = refl
place_means line core text (state.Grave b) d k = refl

pub place_is : (v : Stock) (k : Kept) (s : ℕ) (row : Row) → kept_of v ≡ k → row ≡ row_at v.rows s → place_by row.state ≡ place_of k s
place_is v k s row view at =
    let r : Row = row_at v.rows s in
    ap (λ (q : Row). place_by q.state) at
    ∙ sym (place_means v.line v.core (text_for v.line v.core v.texts r.text) r.state r.data_size r.stack_size)
    ∙ ap place_kept (sym (slot_at v s)) ∙ ap (λ j. place_of j s) view

-- a slot is one of fifty rows
pub row_low : (v : Stock) (s : ℕ) → IsSound v → s < 50 → s < length v.rows
row_low v s h low = subst (λ n. s < n) (sym h.slots) low
