-- Where the parts of an image start, it stands as what is kept says.
use Rattle.std.proofs.Common.{◌≡◌, ◌⊎◌, ℕ, ◌+◌, ◌-◌, ◌*◌, ◌/◌, ◌%◌, ◌<◌, ◌≤◌, ◌==◌, inl, inr, cond, Bool, true, false, Option, Some, None, List, [], length, refl, sym, ap, subst, ◌∙◌, arith}
use Rattle.std.proofs.lemmas.Bool.{eqb-false}
use Rattle.v6_base.specs.declared.entry.Place.{Place}
use Rattle.v6_base.specs.Image.{Image, nseg, IsImage, data_base}
use Rattle.core_mem.specs.Bytes.{part}
use Rattle.core_mem.proofs.Parts.{length-part}
use Rattle.text_tab.specs.declared.row.TextRow.{TextRow}
use Rattle.text_tab.specs.Table.{text_at}
use Rattle.image_keep.specs.declared.row.Row.{Row}
use Rattle.image_keep.specs.declared.row.State.TheVariants as state
use Rattle.image_keep.specs.declared.starts.Starts.{Starts}
use Rattle.image_keep.specs.declared.standing.Standing.{Standing}
use Rattle.image_keep.specs.Kept.{Kept, image_of, text_of, shared}
use Rattle.image_keep.specs.Memory.{Stock, row_at, swap_at, place_at, clicks_in, text_in, text_for, shared_in, kept_of, out_spot, in_spot, OutOf, InOf, IsSound}
use Rattle.image_keep.specs.Counts.{IsCounted}
use Rattle.image_keep.specs.Starts.{AreStarts, text_start, shared_start}
use Rattle.image_keep.specs.Standing.{standing_image, Follows}
use Rattle.image_keep.proofs.Writes.{IsOff}
use Rattle.image_keep.proofs.Own.{own_off}
use Rattle.image_keep.proofs.Places.{shared_at}
use Rattle.image_keep.proofs.InPlan.{core_kept}
use Rattle.image_keep.proofs.SwapIn.{text_of_row}
use Rattle.image_keep.proofs.Reading.{Stand, stand}
use Rattle.image_keep.proofs.Landing.{StandsAs}

-- a text is read where it starts, and stands off the image
pub record TextStands (line bytes : List ℕ) (at low high : ℕ) : Type 0 where
  pub room : at + length bytes ≤ length line
  pub there : part line at (length bytes) ≡ bytes
  pub off : low < at + length bytes → high ≤ at

no_text_stands : (v : Stock) (bytes : List ℕ) (low high : ℕ) → length bytes ≡ 0 → part v.line 0 0 ≡ bytes → TextStands v.line bytes 0 low high
no_text_stands v bytes low high none is = record {
  room = omega (arith, none);
  there = ap (part v.line 0) none ∙ is;
  off = λ l. absurd (omega (arith, l, none));
}

spot_off : (at n size low high : ℕ) → n ≤ size → (at + size ≤ low) ⊎ (high ≤ at) → low < at + n → high ≤ at
spot_off at n size low high le (inl h) l = absurd (omega (arith, le, h, l))
spot_off at n size low high le (inr h) l = h

text_stands : (v : Stock) (s : ℕ) (place : Place) (o : Option ℕ) → IsSound v → (row_at v.rows s).state ≡ state.Alive place
    → TextStands v.line (text_for v.line v.core v.texts o) (text_start (kept_of v) o) (place_at v.core place) (place_at v.core place + 64 * clicks_in (row_at v.rows s))
unfolding text_for text_in part
text_stands v s place None h is = no_text_stands v _ _ _ refl (nothing v.line)
  where
    nothing : (line : List ℕ) → part line 0 0 ≡ []
    nothing line = refl
text_stands v s place (Some t) h is = by (text_at v.texts t) refl
  where
    low : ℕ
    low = place_at v.core place

    high : ℕ
    high = place_at v.core place + 64 * clicks_in (row_at v.rows s)

    begin : (o : Option TextRow) → text_at v.texts t ≡ o → text_start (kept_of v) (Some t) ≡ shared_start v.core (shared_in v.line v.core o)
    begin o e = ap (λ n. shared_start n (shared (kept_of v) t)) (core_kept v) ∙ ap (shared_start v.core) (shared_at v t ∙ ap (shared_in v.line v.core) e)

    none_stands : TextStands v.line (text_in v.line v.core None) 0 low high
    none_stands = no_text_stands v _ _ _ refl refl

    out_stands : (row : TextRow) → text_at v.texts t ≡ Some row → TextStands v.line (text_in v.line v.core (Some row)) (swap_at v.core row.block) low high
    out_stands row e =
        let o = (h.texts t row e).out in let a = o.0 in let b = o.1 in let z = h.size in
        let n = length-part v.line (swap_at v.core row.block) (64 * row.clicks) (omega (arith, a, b, z)) in
        let off = own_off v s place h is (OutOf t) (λ q. cc q) in
        record {
          room = omega (arith, n, a, b, z);
          there = ap (part v.line (swap_at v.core row.block)) n;
          off = λ l. spot_off (swap_at v.core row.block) (64 * row.clicks) (512 * ((row.clicks + 7) / 8)) low high (omega arith) (subst (λ q. IsOff (out_spot v.core q) low high) e off) (omega (arith, l, n));
        }

    in_stands : (row : TextRow) → text_at v.texts t ≡ Some row → (row.loaded == 0) ≡ false → TextStands v.line (text_in v.line v.core (Some row)) (64 * (row.at - 1)) low high
    in_stands row e loaded =
        let some = eqb-false row.loaded 0 loaded in
        let o = (h.texts t row e).out in let a = o.0 in let b = o.1 in let z = h.size in
        let w = (h.texts t row e).within some in let c = w.0 in let d = w.1 in
        let n = length-part v.line (swap_at v.core row.block) (64 * row.clicks) (omega (arith, a, b, z)) in
        let off = own_off v s place h is (InOf t) (λ q. cc q) in
        record {
          room = omega (arith, n, c, d, z);
          there = ap (part v.line (64 * (row.at - 1))) n ∙ (h.texts t row e).copy some;
          off = λ l. spot_off (64 * (row.at - 1)) (64 * row.clicks) (64 * row.clicks) low high (omega arith) (rw loaded at (subst (λ q. IsOff (in_spot q) low high) e off)) (omega (arith, l, n));
        }

    found : (row : TextRow) → text_at v.texts t ≡ Some row → (b : Bool) → (row.loaded == 0) ≡ b → TextStands v.line (text_in v.line v.core (Some row)) (cond b (swap_at v.core row.block) (64 * (row.at - 1))) low high
    found row e true is_out = out_stands row e
    found row e false is_in = in_stands row e is_in

    by : (o : Option TextRow) → text_at v.texts t ≡ o → TextStands v.line (text_in v.line v.core (text_at v.texts t)) (text_start (kept_of v) (Some t)) low high
    by None e = subst (λ n. TextStands v.line (text_in v.line v.core (text_at v.texts t)) n low high) (sym (begin None e)) (subst (λ o. TextStands v.line (text_in v.line v.core o) 0 low high) (sym e) none_stands)
    by (Some row) e = subst (λ n. TextStands v.line (text_in v.line v.core (text_at v.texts t)) n low high) (sym (begin (Some row) e)) (subst (λ o. TextStands v.line (text_in v.line v.core o) (shared_start v.core (shared_in v.line v.core (Some row))) low high) (sym e) (found row e (row.loaded == 0) refl))

-- the segments of an image leave room between data and stack
segments_room : (t d k : ℕ) → t % 64 ≡ 0 → d % 64 ≡ 0 → k % 64 ≡ 0 → nseg (t / 64) + nseg (d / 64) + nseg (k / 64) ≤ 8 → (t ≤ data_base t) × (data_base t + d + k ≤ 65536)
segments_room t d k a b c few = (omega arith, omega arith)

pub stands_as : (v : Stock) (k : Kept) (s : ℕ) (x : Starts) (f : Standing) → kept_of v ≡ k → IsSound v → IsCounted v.rows v.texts → IsImage (image_of k s) → AreStarts k s x → Follows f x → StandsAs v k s x f
unfolding standing_image
stands_as v k s x f view h c formed a g =
    let d : Stand v k s x = stand v k s x view h c a in
    let row : Row = row_at v.rows s in
    let text : (image_of k s).text ≡ text_for v.line v.core v.texts row.text = ap (λ (m : Image). m.text) d.parts in
    let at : x.text ≡ text_start (kept_of v) row.text = a.text ∙ ap (λ j. text_start j (text_of j s)) (sym view) ∙ ap (text_start (kept_of v)) (text_of_row v s) in
    let t0 = text_stands v s d.place row.text h d.facts.is in
    let t1 : TextStands v.line (image_of k s).text f.text (place_at v.core d.place) (place_at v.core d.place + 64 * clicks_in row) = subst (λ b. TextStands v.line b f.text (place_at v.core d.place) (place_at v.core d.place + 64 * clicks_in row)) (sym text) (subst (λ n. TextStands v.line (text_for v.line v.core v.texts row.text) n (place_at v.core d.place) (place_at v.core d.place + 64 * clicks_in row)) (sym at ∙ sym g.text) t0) in
    let tl : f.text_len ≡ length (image_of k s).text = g.text_len ∙ a.text_len in
    let seg = segments_room (length (image_of k s).text) (length (image_of k s).data) (length (image_of k s).stack) formed.text_clicks formed.data_clicks formed.stack_clicks formed.segments in
    let s0 = seg.0 in let s1 = seg.1 in
    let room = t1.room in let off = t1.off in
    let im = d.image in let gd = g.data in let dl = g.data_len in let dd = d.data_len in let dlong = d.data_long in let slong = d.stack_long in let ss = g.stack_start in let xs = a.stack_start in let e = g.end in let ga = g.area in let r = d.room in
    let z = h.size in let most = h.most in
    let tc = formed.text_clicks in let dc = formed.data_clicks in let sc = formed.stack_clicks in
    let base : f.base ≡ data_base f.text_len = g.base ∙ x.is_base ∙ ap data_base (sym g.text_len) in
    let base_is : f.base ≡ data_base (length (image_of k s).text) = base ∙ ap data_base tl in
    let dlen : f.data_len ≡ length (image_of k s).data = dl ∙ a.data_len in
    let one : part v.line f.text f.text_len ≡ (image_of k s).text = ap (part v.line f.text) tl ∙ t1.there in
    let fd : f.data ≡ place_at v.core d.place + 1024 = gd ∙ im in
    let fe : f.data_end ≡ place_at v.core d.place + 1024 + 64 * row.data_size = omega (arith, e, fd, dl, dd) in
    let fs : 65536 - f.stack_start ≡ 64 * row.stack_size = omega (arith, ss, xs, slong) in
    let two : part v.line f.data f.data_len ≡ (image_of k s).data = (λ i. part v.line (fd i) ((dl ∙ dd) i)) ∙ sym (ap (λ (m : Image). m.data) d.parts) in
    let three : part v.line f.data_end (65536 - f.stack_start) ≡ (image_of k s).stack = (λ i. part v.line (fe i) (fs i)) ∙ sym (ap (λ (m : Image). m.stack) d.parts) in
    record {
      inside = record {
        small = omega (arith, z, most);
        text_in = omega (arith, room, tl);
        stack_in = omega (arith, fe, fs, ss, xs, slong, r);
        area = ga;
        end = e;
        text_apart = λ l. (let q = off (omega (arith, l, tl, ga, fd)) in omega (arith, q, fe, fs, ss, xs, slong));
        base = base;
        text_below = omega (arith, s0, tl, base_is);
        data_below = omega (arith, s1, base_is, dlen, ss, xs);
        stack_below = omega (arith, ss, xs);
        text_even = omega (arith, tl, tc);
        data_even = omega (arith, dlen, dc);
        stack_even = omega (arith, ss, xs, sc);
        odd = g.odd;
        nought = g.nought;
        code_end = g.code_end;
        stack = g.stack;
        bare = g.bare;
        pure = g.pure;
      };
      image = λ i. record { text = one i; «data» = two i; stack = three i };
      data_at = gd;
      data_len = dl;
      stack_start = ss;
    }
