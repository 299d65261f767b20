-- Where the parts of an image stand is found by its row and by the table of texts.
use Rattle.std.proofs.Common.{◌≡◌, ℕ, ◌+◌, ◌-◌, ◌*◌, ◌≤◌, ◌==◌, ◌⊎◌, inl, inr, List, length, cond, Bool, true, false, Option, Some, None, IsSome, refl, sym, ap, subst, ◌∙◌, arith}
use Rattle.std.proofs.lemmas.Bool.{eqb-false}
use Rattle.std.proofs.lemmas.Option.{same_Some}
use Rattle.v6_base.specs.declared.entry.Place.{Place}
use Rattle.v6_base.specs.Image.{Image, nseg}
use Rattle.u_area.specs.declared.area.UArea.{UArea}
use Rattle.core_mem.specs.Bytes.{part}
use Rattle.core_mem.proofs.Parts.{length-part}
use Rattle.u_area.specs.Area.{fetched}
use Rattle.text_tab.specs.declared.row.TextRow.{TextRow}
use Rattle.text_tab.specs.Table.{text_at, row_of as text_row_of, row_at as text_row, IsUsed}
use Rattle.image_keep.specs.declared.row.State.TheVariants as state
use Rattle.image_keep.specs.declared.row.Row.{Row}
use Rattle.image_keep.specs.declared.starts.Starts.{Starts}
use Rattle.image_keep.specs.Kept.{Kept, HasImage, shared, shared_clicks, text_of, text_clicks, image_of, place_in}
use Rattle.image_keep.specs.Memory.{Stock, row_at, swap_at, place_at, place_by, clicks_in, shared_in, kept_of, IsAlive, HoldsBy, IsText, IsSound}
use Rattle.image_keep.specs.Counts.{IsCounted}
use Rattle.image_keep.specs.Told.{AreTold}
use Rattle.image_keep.specs.Starts.{data_start, shared_start, text_start, text_clicks_in, row_start, start_in, AreStarts}
use Rattle.image_keep.proofs.Frames.{image_alive}
use Rattle.image_keep.proofs.Places.{slot_at, shared_at}
use Rattle.image_keep.proofs.Moves.{fits_in}
use Rattle.image_keep.proofs.Own.{own_means, front}
use Rattle.image_keep.proofs.SwapIn.{text_of_row}
use Rattle.image_keep.proofs.InPlan.{core_kept}
use Rattle.image_keep.proofs.Facts.{Facts}
use Rattle.image_keep.proofs.AreaSet.{at_place_of}
use Rattle.image_keep.proofs.Growing.{image_parts}
use Rattle.image_keep.proofs.KeptForm.{text_long, place_is}

pub side_to : (core start n a r : ℕ) → (start + n ≤ 64 * core) ⊎ (64 * core ≤ start) → r ≡ start → a ≡ 64 * core → (r + n ≤ a) ⊎ (a ≤ r)
side_to core start n a r (inl l) e f = inl (omega (arith, l, e, f))
side_to core start n a r (inr l) e f = inr (omega (arith, l, e, f))

starts_by : (line : List ℕ) (core : ℕ) (o : Option TextRow) → IsSome o → row_start core (text_row_of o) ≡ shared_start core (shared_in line core o)
starts_by line core None u = absurd (cc u)
starts_by line core (Some row) u = refl

-- where a text is read
pub start_is : (v : Stock) (x : Option ℕ) → ((t : ℕ) → x ≡ Some t → IsUsed v.texts t) → start_in v.texts v.core x ≡ text_start (kept_of v) x
start_is v None used = refl
start_is v (Some t) used = starts_by v.line v.core (text_at v.texts t) (used t refl) ∙ sym (ap (λ c. shared_start c (shared (kept_of v) t)) (core_kept v) ∙ ap (shared_start v.core) (shared_at v t))

low_by : (core : ℕ) (row : TextRow) (line : List ℕ) → core ≤ 3968 → IsText line core row → row_start core row ≤ 1000000
low_by core row line most h = by (row.loaded == 0) refl
  where
    by : (b : Bool) → (row.loaded == 0) ≡ b → cond b (swap_at core row.block) (64 * (row.at - 1)) ≤ 1000000
    by true e = let o = h.out in let a = o.1 in omega (arith, a, most)
    by false e = inside (h.within (eqb-false row.loaded 0 e))
      where
        inside : (1 ≤ row.at) × (row.at + row.clicks ≤ core + 1) → 64 * (row.at - 1) ≤ 1000000
        inside w = let a = w.1 in omega (arith, a, most)

pub start_low : (v : Stock) (x : Option ℕ) → v.core ≤ 3968 → ((t : ℕ) → x ≡ Some t → IsText v.line v.core (text_row v.texts t)) → start_in v.texts v.core x ≤ 1000000
start_low v None most own = omega arith
start_low v (Some t) most own = low_by v.core (text_row v.texts t) v.line most (own t refl)

clicks_by : (line : List ℕ) (core : ℕ) (o : Option TextRow) → IsSome o → (text_row_of o).clicks ≡ shared_clicks (shared_in line core o)
clicks_by line core None u = absurd (cc u)
clicks_by line core (Some row) u = refl

pub clicks_are_in : (v : Stock) (x : Option ℕ) → ((t : ℕ) → x ≡ Some t → IsUsed v.texts t) → text_clicks_in v.texts x ≡ text_clicks (kept_of v) x
clicks_are_in v None used = refl
clicks_are_in v (Some t) used = clicks_by v.line v.core (text_at v.texts t) (used t refl) ∙ ap shared_clicks (sym (shared_at v t))

-- the sizes of an image fit the eight segments
pub segments_fit : (v : Stock) (k : Kept) (s t : ℕ) (row : Row) (place : Place) → kept_of v ≡ k → IsSound v → IsCounted v.rows v.texts → AreTold (kept_of v) → HasImage k s → row ≡ row_at v.rows s → row.state ≡ state.Alive place → t ≡ text_clicks_in v.texts row.text
    → nseg t + nseg row.data_size + nseg row.stack_size ≤ 8
segments_fit v k s t row place view h c told has here is size =
    let r : Row = row_at v.rows s in
    let g : Facts v s place = at_place_of v k s row place view h c has here is in
    let own : IsAlive (part v.line (place_at v.core place) (64 * clicks_in r)) v.core r.data_size r.stack_size place = subst (λ st. HoldsBy v.line v.core st r.data_size r.stack_size) g.is (h.rows s) in
    let means = slot_at v s ∙ own_means v s place v.line g.is in
    let f = front v.line (place_at v.core place) (clicks_in r) (omega arith) in
    let tl = told s in
    let user : text_of (kept_of v) s ≡ row.text = text_of_row v s ∙ sym (ap (λ (q : Row). q.text) here) in
    let used = λ (i : ℕ) (e : row.text ≡ Some i). c.used s i (sym (ap (λ (q : Row). q.text) here) ∙ e) in
    let clicks : text_clicks (kept_of v) (text_of (kept_of v) s) ≡ t = ap (text_clicks (kept_of v)) user ∙ sym (clicks_are_in v row.text used) ∙ sym size in
    let u : UArea = fetched (part v.line (place_at v.core place) 1024) in
    let ts : u.text_size ≡ t = tl.text_size _ means ∙ clicks in
    let ds : u.data_size ≡ row.data_size = ap (λ b. (fetched b).data_size) (sym f) ∙ own.data_size ∙ sym (ap (λ (q : Row). q.data_size) here) in
    let ks : u.stack_size ≡ row.stack_size = ap (λ b. (fetched b).stack_size) (sym f) ∙ own.stack_size ∙ sym (ap (λ (q : Row). q.stack_size) here) in
    subst (λ i. nseg i + nseg row.data_size + nseg row.stack_size ≤ 8) ts
    (subst (λ i. nseg u.text_size + nseg i + nseg row.stack_size ≤ 8) ds
    (subst (λ i. nseg u.text_size + nseg u.data_size + nseg i ≤ 8) ks (tl.segments _ means)))

pub starts_are : (v : Stock) (k : Kept) (s click t text image : ℕ) (row : Row) (place : Place) (x : Starts) → kept_of v ≡ k → IsSound v → IsCounted v.rows v.texts → HasImage k s → row ≡ row_at v.rows s → row.state ≡ state.Alive place
    → 64 * click ≡ place_at v.core place → t ≡ text_clicks_in v.texts row.text → text ≡ start_in v.texts v.core row.text → image ≡ 64 * click + 1024
    → x.text ≡ text → x.image ≡ image → x.text_len ≡ 64 * t → x.data_len ≡ 64 * row.data_size → x.stack_start + 64 * row.stack_size ≡ 65536 → x.core ≡ 64 * v.core → AreStarts k s x
starts_are v k s click t text image row place x view h c has here is at size text_is image_is a b d e f size_is =
    let r : Row = row_at v.rows s in
    let g : Facts v s place = at_place_of v k s row place view h c has here is in
    let parts_are = ap (λ j. image_of j s) (sym view) ∙ image_parts v s place g.is in
    let used = λ (i : ℕ) (z : row.text ≡ Some i). c.used s i (sym (ap (λ (q : Row). q.text) here) ∙ z) in
    let user : row.text ≡ text_of k s = ap (λ (q : Row). q.text) here ∙ sym (text_of_row v s) ∙ ap (λ j. text_of j s) view in
    let w = fits_in v.core (clicks_in r) 0 place g.inside in
    let z = h.size in
    let room : place_at v.core place + 64 * clicks_in r ≤ length v.line = omega (arith, w, z) in
    let core : v.core ≡ k.core = sym (core_kept v) ∙ ap (λ (j : Kept). j.core) view in
    let held_place : has.0.place ≡ place = same_here in
    let dl : length (image_of k s).data ≡ 64 * r.data_size = ap (λ (m : Image). length m.data) parts_are ∙ length-part v.line (place_at v.core place + 1024) (64 * r.data_size) (omega (arith, room)) in
    let sl : length (image_of k s).stack ≡ 64 * r.stack_size = ap (λ (m : Image). length m.stack) parts_are ∙ length-part v.line (place_at v.core place + 1024 + 64 * r.data_size) (64 * r.stack_size) (omega (arith, room)) in
    let tl : length (image_of k s).text ≡ 64 * t = ap (λ (m : Image). length m.text) parts_are ∙ text_long v r.text h
    ∙ ap (λ o. 64 * text_clicks (kept_of v) o) (sym (ap (λ (q : Row). q.text) here)) ∙ ap (λ n. 64 * n) (sym (clicks_are_in v row.text used) ∙ sym size) in
    let ds = ap (λ (q : Row). q.data_size) here in
    let ks = ap (λ (q : Row). q.stack_size) here in
    record {
      alive = image_alive k s has;
      text = a ∙ text_is ∙ start_is v row.text used ∙ ap (λ j. text_start j row.text) view ∙ ap (text_start k) user;
      image = b ∙ image_is ∙ ap (λ n. n + 1024) at ∙ ap (λ p. place_at v.core p + 1024) (sym held_place) ∙ ap (λ n. place_at n has.0.place + 1024) core ∙ sym (ap (data_start k.core) has.1);
      text_len = d ∙ sym tl;
      data_len = e ∙ ap (λ n. 64 * n) ds ∙ sym dl;
      stack_start = omega (arith, f, ks, sl);
      core = size_is ∙ ap (λ n. 64 * n) core;
    }
  where
    same_here : has.0.place ≡ place
    same_here = same_some (sym (ap place_in has.1) ∙ sym (place_is v k s row view here) ∙ ap place_by is)
      where
        same_some : Some has.0.place ≡ Some place → has.0.place ≡ place
        same_some z = same_Some has.0.place place z
