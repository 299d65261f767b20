-- A run of bytes that an address names stands in one piece, in core or in the swap area.
use Rattle.std.proofs.Common.{◌≡◌, ◌≢◌, ℕ, ◌+◌, ◌-◌, ◌*◌, ◌<◌, ◌≤◌, ◌==◌, ◌⊎◌, inl, inr, List, length, take, drop, cond, Bool, true, false, Option, Some, None, refl, sym, ap, subst, ◌∙◌, arith}
use Rattle.std.proofs.lemmas.Bool.{eqb-false}
use Rattle.v6_base.specs.declared.entry.Place.{Place}
use Rattle.v6_base.specs.declared.entry.Place.TheVariants.{Core, Swap}
use Rattle.v6_base.specs.declared.named.Named.{Named}
use Rattle.v6_base.specs.declared.named.Named.TheVariants as named_is
use Rattle.v6_base.specs.Image.{Image}
use Rattle.v6_base.specs.Words.{IsWithin}
use Rattle.v6_base.specs.Runs.{room, run_at}
use Rattle.core_mem.specs.Bytes.{part}
use Rattle.core_mem.proofs.Parts.{part-part, length-part}
use Rattle.text_tab.specs.declared.row.TextRow.{TextRow}
use Rattle.text_tab.specs.Table.{text_at}
use Rattle.image_keep.specs.declared.row.Row.{Row}
use Rattle.image_keep.specs.declared.starts.Starts.{Starts}
use Rattle.image_keep.specs.Kept.{Kept, shared, image_of, text_of}
use Rattle.image_keep.specs.Memory.{Stock, row_at, swap_at, place_at, clicks_in, text_in, text_for, shared_in, kept_of, IsIn, IsSound}
use Rattle.image_keep.specs.Counts.{IsCounted}
use Rattle.image_keep.specs.Starts.{shared_start, text_start, AreStarts, start_of}
use Rattle.image_keep.proofs.Places.{shared_at}
use Rattle.image_keep.proofs.SwapIn.{text_of_row}
use Rattle.image_keep.proofs.InPlan.{core_kept}
use Rattle.image_keep.proofs.Reading.{Stand, stand}

pub record Run (line : List ℕ) (core start n : ℕ) (bytes : List ℕ) : Type 0 where
  pub side : (start + n ≤ 64 * core) ⊎ (64 * core ≤ start)
  pub inside : start + n ≤ length line
  pub is : part line start n ≡ bytes

opened : (ys : List ℕ) (i n : ℕ) → part ys i n ≡ take n (drop i ys)
unfolding part
opened ys i n = refl

part_of_part : (xs : List ℕ) (q m i n : ℕ) → i + n ≤ m → part xs (q + i) n ≡ take n (drop i (part xs q m))
part_of_part xs q m i n l = sym (part-part xs q m i n l) ∙ opened (part xs q m) i n

-- of a text
out_run : (v : Stock) (t i n : ℕ) (row : TextRow) → IsSound v → text_at v.texts t ≡ Some row → i + n ≤ 64 * row.clicks
    → Run v.line v.core (swap_at v.core row.block + i) n (take n (drop i (text_for v.line v.core v.texts (Some t))))
unfolding text_for text_in
out_run v t i n row h e l =
    let o = (h.texts t row e).out in
    let a = o.0 in
    let b = o.1 in
    let z = h.size in
    record {
      side = inr (omega (arith, a));
      inside = omega (arith, a, b, z, l);
      is = part_of_part v.line (swap_at v.core row.block) (64 * row.clicks) i n l ∙ ap (λ q. take n (drop i (text_in v.line v.core q))) (sym e);
    }

in_run : (v : Stock) (t i n : ℕ) (row : TextRow) → IsSound v → text_at v.texts t ≡ Some row → row.loaded ≢ 0 → i + n ≤ 64 * row.clicks
    → Run v.line v.core (64 * (row.at - 1) + i) n (take n (drop i (text_for v.line v.core v.texts (Some t))))
unfolding text_for text_in
in_run v t i n row h e some l =
    let w = (h.texts t row e).within some in
    let a = w.0 in
    let b = w.1 in
    let z = h.size in
    record {
      side = inl (omega (arith, a, b, l));
      inside = omega (arith, a, b, z, l);
      is = part_of_part v.line (64 * (row.at - 1)) (64 * row.clicks) i n l ∙ ap (λ b. take n (drop i b)) ((h.texts t row e).copy some) ∙ ap (λ q. take n (drop i (text_in v.line v.core q))) (sym e);
    }

long_text : (v : Stock) (t : ℕ) (row : TextRow) → IsSound v → text_at v.texts t ≡ Some row → length (text_for v.line v.core v.texts (Some t)) ≡ 64 * row.clicks
unfolding text_for text_in
long_text v t row h e =
    let o = (h.texts t row e).out in
    let a = o.0 in
    let b = o.1 in
    let z = h.size in
    ap (λ q. length (text_in v.line v.core q)) e ∙ length-part v.line (swap_at v.core row.block) (64 * row.clicks) (omega (arith, a, b, z))

no_text_long : (v : Stock) (t : ℕ) → text_at v.texts t ≡ None → length (text_for v.line v.core v.texts (Some t)) ≡ 0
unfolding text_for text_in
no_text_long v t e = ap (λ q. length (text_in v.line v.core q)) e

none_long : (v : Stock) → length (text_for v.line v.core v.texts None) ≡ 0
unfolding text_for
none_long v = refl

text_run : (v : Stock) (x : Option ℕ) (i n : ℕ) → IsSound v → 0 < n → i + n ≤ length (text_for v.line v.core v.texts x) → Run v.line v.core (text_start (kept_of v) x + i) n (take n (drop i (text_for v.line v.core v.texts x)))
text_run v None i n h some low = absurd (let z = none_long v in omega (arith, low, some, z))
text_run v (Some t) i n h some low = by (text_at v.texts t) refl
  where
    begin : (o : Option TextRow) → text_at v.texts t ≡ o → text_start (kept_of v) (Some t) ≡ shared_start v.core (shared_in v.line v.core o)
    begin o e = ap (λ c. shared_start c (shared (kept_of v) t)) (core_kept v) ∙ ap (shared_start v.core) (shared_at v t ∙ ap (shared_in v.line v.core) e)

    found : (row : TextRow) → text_at v.texts t ≡ Some row → i + n ≤ 64 * row.clicks → (b : Bool) → (row.loaded == 0) ≡ b
        → Run v.line v.core (cond b (swap_at v.core row.block) (64 * (row.at - 1)) + i) n (take n (drop i (text_for v.line v.core v.texts (Some t))))
    found row e l true is = out_run v t i n row h e l
    found row e l false is = in_run v t i n row h e (eqb-false row.loaded 0 is) l

    by : (o : Option TextRow) → text_at v.texts t ≡ o → Run v.line v.core (text_start (kept_of v) (Some t) + i) n (take n (drop i (text_for v.line v.core v.texts (Some t))))
    by None e = absurd (let z = no_text_long v t e in omega (arith, low, some, z))
    by (Some row) e =
        let z = long_text v t row h e in
        subst (λ j. Run v.line v.core (j + i) n (take n (drop i (text_for v.line v.core v.texts (Some t))))) (sym (begin (Some row) e)) (found row e (omega (arith, low, z)) (row.loaded == 0) refl)

-- what stands in an image's range is in one list
one_side : (core c n start m : ℕ) (place : Place) → IsIn core place n → place_at core place ≤ start → start + m ≤ place_at core place + 64 * n → (start + m ≤ 64 * core) ⊎ (64 * core ≤ start)
one_side core c n start m (Core d) i a b = let x = i.0 in let y = i.1 in inl (omega (arith, x, y, a, b))
one_side core c n start m (Swap d) i a b = let x = i.0 in inr (omega (arith, x, a))

pub run_read : (v : Stock) (k : Kept) (s n : ℕ) (x : Starts) (p : Named) → kept_of v ≡ k → IsSound v → IsCounted v.rows v.texts → AreStarts k s x → IsWithin (image_of k s) p → n ≤ room (image_of k s) p → 0 < n
    → Run v.line v.core (start_of x p) n (run_at (image_of k s) p n)
run_read v k s n x (named_is.InText i) view h c a low few some =
    let f : Stand v k s x = stand v k s x view h c a in
    let r : Row = row_at v.rows s in
    let text : (image_of k s).text ≡ text_for v.line v.core v.texts r.text = ap (λ (m : Image). m.text) f.parts in
    let size : length (image_of k s).text ≡ length (text_for v.line v.core v.texts r.text) = ap length text in
    let at : x.text ≡ text_start (kept_of v) r.text = a.text ∙ ap (λ j. text_start j (text_of j s)) (sym view) ∙ ap (text_start (kept_of v)) (text_of_row v s) in
    subst (λ t. Run v.line v.core (x.text + i) n (take n (drop i t))) (sym text)
    (subst (λ j. Run v.line v.core (j + i) n (take n (drop i (text_for v.line v.core v.texts r.text)))) (sym at) (text_run v r.text i n h some (omega (arith, few, low, size))))
run_read v k s n x (named_is.InData i) view h c a low few some =
    let f : Stand v k s x = stand v k s x view h c a in
    let r : Row = row_at v.rows s in
    let long = f.data_long in
    let at = f.image in
    let room_is = f.room in
    let same : x.image + i ≡ place_at v.core f.place + 1024 + i = omega (arith, at) in
    record {
      side = one_side v.core 0 (clicks_in r) (x.image + i) n f.place f.facts.inside (omega (arith, at)) (omega (arith, at, low, few, long));
      inside = omega (arith, at, low, few, long, room_is);
      is = ap (λ j. part v.line j n) same ∙ part_of_part v.line (place_at v.core f.place + 1024) (64 * r.data_size) i n (omega (arith, low, few, long)) ∙ ap (λ (m : Image). take n (drop i m.data)) (sym f.parts);
    }
run_read v k s n x (named_is.InStack i) view h c a low few some =
    let f : Stand v k s x = stand v k s x view h c a in
    let r : Row = row_at v.rows s in
    let long = f.stack_long in
    let at = f.image in
    let d = f.data_len in
    let room_is = f.room in
    let same : x.image + x.data_len + i ≡ place_at v.core f.place + 1024 + 64 * r.data_size + i = omega (arith, at, d) in
    record {
      side = one_side v.core 0 (clicks_in r) (x.image + x.data_len + i) n f.place f.facts.inside (omega (arith, at)) (omega (arith, at, d, low, few, long));
      inside = omega (arith, at, d, low, few, long, room_is);
      is = ap (λ j. part v.line j n) same ∙ part_of_part v.line (place_at v.core f.place + 1024 + 64 * r.data_size) (64 * r.stack_size) i n (omega (arith, low, few, long)) ∙ ap (λ (m : Image). take n (drop i m.stack)) (sym f.parts);
    }
run_read v k s n x named_is.Nothing view h c a low few some = absurd (omega (arith, few, some))
