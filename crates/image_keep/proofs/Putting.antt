-- What is named is written where it stands.
use Rattle.std.proofs.Common.{◌≡◌, ◌≢◌, ℕ, ◌+◌, ◌*◌, ◌<◌, ◌≤◌, List, [], ◌∷◌, length, slice_set, sym, ap, subst, ◌∙◌, arith}
use Rattle.v6_base.specs.declared.named.Named.{Named}
use Rattle.v6_base.specs.declared.named.Named.TheVariants as named_is
use Rattle.v6_base.specs.Image.{Image}
use Rattle.v6_base.specs.Access.{with_byte, image_after}
use Rattle.v6_base.specs.Words.{IsWithin, IsStorable}
use Rattle.v6_base.specs.Runs.{room, run_set, with_run}
use Rattle.v6_base.proofs.RunLemmas.{run_lengths}
use Rattle.core_mem.specs.Bytes.{over}
use Rattle.image_keep.specs.declared.starts.Starts.{Starts}
use Rattle.image_keep.specs.Kept.{Kept, with_image, image_of}
use Rattle.image_keep.specs.Memory.{Stock, row_at, place_at, kept_of, IsSound}
use Rattle.image_keep.specs.Counts.{IsCounted}
use Rattle.image_keep.specs.Told.{AreTold}
use Rattle.image_keep.specs.Starts.{AreStarts, IsLow, start_of}
use Rattle.image_keep.proofs.Own.{with_line}
use Rattle.image_keep.proofs.Storing.{set_over, run_over, data_put, stack_put, told_image}
use Rattle.image_keep.proofs.Reading.{Stand, stand, starts_after}

-- places in the lists are low
pub low_of : (k : Kept) (s : ℕ) (x : Starts) (p : Named) → AreStarts k s x → IsWithin (image_of k s) p → IsLow p
low_of k s x (named_is.InText i) a h = let l = a.text_len in let n = x.text_in in omega (arith, l, h, n)
low_of k s x (named_is.InData i) a h = let l = a.data_len in let n = x.data_in in omega (arith, l, h, n)
low_of k s x (named_is.InStack i) a h = let l = a.stack_start in omega (arith, l, h)
low_of k s x named_is.Nothing a h = tt

pub storable_some : (p : Named) → IsStorable p → p ≢ named_is.Nothing
storable_some (named_is.InText i) is e = is
storable_some (named_is.InData i) is e = cc e
storable_some (named_is.InStack i) is e = cc e
storable_some named_is.Nothing is e = is

-- a run of one byte
pub byte_run : (m : Image) (p : Named) (b : ℕ) → IsWithin m p → IsStorable p → with_run m p (b ∷ []) ≡ image_after m (with_byte m p b)
byte_run m (named_is.InText i) b low is = absurd is
byte_run m (named_is.InData i) b low is = ap (λ l. record m { «data» = l }) (sym (run_over m.data i (b ∷ [])) ∙ sym (set_over m.data i b low))
byte_run m (named_is.InStack i) b low is = ap (λ l. record m { stack = l }) (sym (run_over m.stack i (b ∷ [])) ∙ sym (set_over m.stack i b low))
byte_run m named_is.Nothing b low is = absurd is

pub one_room : (m : Image) (p : Named) → IsWithin m p → IsStorable p → 1 ≤ room m p
one_room m (named_is.InText i) low is = absurd is
one_room m (named_is.InData i) low is = omega (arith, low)
one_room m (named_is.InStack i) low is = omega (arith, low)
one_room m named_is.Nothing low is = absurd is

run_put : (v : Stock) (k : Kept) (s : ℕ) (x : Starts) (p : Named) (bytes : List ℕ) → kept_of v ≡ k → IsSound v → IsCounted v.rows v.texts → AreStarts k s x → IsWithin (image_of k s) p → IsStorable p → length bytes ≤ room (image_of k s) p → 0 < length bytes
    → IsSound (with_line v (over v.line (start_of x p) bytes)) × (kept_of (with_line v (over v.line (start_of x p) bytes)) ≡ with_image k s (with_run (image_of k s) p bytes))
run_put v k s x (named_is.InText i) bytes view h c a low is few some = absurd is
run_put v k s x (named_is.InData i) bytes view h c a low is few some =
    let f : Stand v k s x = stand v k s x view h c a in
    let long = f.data_long in
    let at : place_at v.core f.place + 1024 + i ≡ x.image + i = ap (λ n. n + i) (sym f.image) in
    let g = data_put v s f.place i bytes h f.facts.low f.facts.is (omega (arith, few, long, low)) in
    subst (λ j. IsSound (with_line v (over v.line j bytes)) × (kept_of (with_line v (over v.line j bytes)) ≡ with_image k s (with_run (image_of k s) (named_is.InData i) bytes))) at
    (g.0, g.1 ∙ ap (λ (j : Kept). with_image j s (record (image_of j s) { «data» = run_set (image_of j s).data i bytes })) view)
run_put v k s x (named_is.InStack i) bytes view h c a low is few some =
    let f : Stand v k s x = stand v k s x view h c a in
    let long = f.stack_long in
    let m = f.image in
    let d = f.data_len in
    let at : place_at v.core f.place + 1024 + 64 * (row_at v.rows s).data_size + i ≡ x.image + x.data_len + i = omega (arith, m, d) in
    let g = stack_put v s f.place i bytes h f.facts.low f.facts.is (omega (arith, few, long, low)) in
    subst (λ j. IsSound (with_line v (over v.line j bytes)) × (kept_of (with_line v (over v.line j bytes)) ≡ with_image k s (with_run (image_of k s) (named_is.InStack i) bytes))) at
    (g.0, g.1 ∙ ap (λ (j : Kept). with_image j s (record (image_of j s) { stack = run_set (image_of j s).stack i bytes })) view)
run_put v k s x named_is.Nothing bytes view h c a low is few some = absurd is

pub record Put (now : Stock) (k : Kept) (s : ℕ) (x : Starts) : Type 0 where
  pub sound : IsSound now
  pub kept : kept_of now ≡ k
  pub told : AreTold (kept_of now)
  pub starts : AreStarts k s x

pub puts : (v : Stock) (k : Kept) (s : ℕ) (x : Starts) (p : Named) (bytes line : List ℕ) → kept_of v ≡ k → IsSound v → IsCounted v.rows v.texts → AreTold (kept_of v) → AreStarts k s x → IsWithin (image_of k s) p → IsStorable p → length bytes ≤ room (image_of k s) p → 0 < length bytes
    → line ≡ over v.line (start_of x p) bytes → Put (with_line v line) (with_image k s (with_run (image_of k s) p bytes)) s x
puts v k s x p bytes line view h c told a low is few some line_is =
    let g = run_put v k s x p bytes view h c a low is few some in
    let made : Put (with_line v (over v.line (start_of x p) bytes)) (with_image k s (with_run (image_of k s) p bytes)) s x = record {
      sound = g.0;
      kept = g.1;
      told = told_image (kept_of v) (kept_of (with_line v (over v.line (start_of x p) bytes))) k s (with_run (image_of k s) p bytes) view g.1 told;
      starts = starts_after k s x (with_run (image_of k s) p bytes) a (run_lengths (image_of k s) p bytes few some);
    } in
    subst (λ l. Put (with_line v l) (with_image k s (with_run (image_of k s) p bytes)) s x) (sym line_is) made

-- the same of one byte
pub puts_byte : (v : Stock) (k : Kept) (s : ℕ) (x : Starts) (p : Named) (b : ℕ) (line : List ℕ) → kept_of v ≡ k → IsSound v → IsCounted v.rows v.texts → AreTold (kept_of v) → AreStarts k s x → IsWithin (image_of k s) p → IsStorable p
    → start_of x p < length v.line → line ≡ slice_set v.line (start_of x p) b → Put (with_line v line) (with_image k s (image_after (image_of k s) (with_byte (image_of k s) p b))) s x
puts_byte v k s x p b line view h c told a low is inside line_is =
    subst (λ m. Put (with_line v line) (with_image k s m) s x) (byte_run (image_of k s) p b low is)
    (puts v k s x p (b ∷ []) line view h c told a low is (one_room (image_of k s) p low is) (omega arith) (line_is ∙ set_over v.line (start_of x p) b inside))
