-- A word that is named stands in one list of bytes, and is read and written there.
use Rattle.std.proofs.Common.{◌≡◌, ◌≢◌, ℕ, ◌+◌, ◌*◌, ◌/◌, ◌%◌, ◌≤◌, ◌⊎◌, List, length, slice_index, slice_set, Ok, refl, sym, ap, subst, ◌∙◌, arith}
use Rattle.v6_base.specs.declared.named.Named.{Named}
use Rattle.v6_base.specs.declared.named.Named.TheVariants as named_is
use Rattle.v6_base.specs.Image.{Image}
use Rattle.v6_base.specs.Access.{byte_at, with_byte, image_after}
use Rattle.v6_base.specs.Words.{IsWithin, IsStorable, next_byte, word_set, with_word}
use Rattle.v6_base.specs.Runs.{room}
use Rattle.image_keep.specs.declared.starts.Starts.{Starts}
use Rattle.image_keep.specs.Kept.{Kept, image_of, with_image}
use Rattle.image_keep.specs.Memory.{Stock, kept_of, IsSound}
use Rattle.image_keep.specs.Counts.{IsCounted}
use Rattle.image_keep.specs.Told.{AreTold}
use Rattle.image_keep.specs.Starts.{AreStarts, start_of}
use Rattle.image_keep.proofs.Frames.{with_image_same}
use Rattle.image_keep.proofs.Own.{with_line}
use Rattle.image_keep.proofs.Reading.{byte_read}
use Rattle.image_keep.proofs.RunsRead.{Run, run_read}
use Rattle.image_keep.proofs.Words.{put_twice}
use Rattle.image_keep.proofs.Putting.{Put, puts_byte, storable_some}
use Rattle.std.proofs.lemmas.List.{length-set}

-- the byte after one that is named
pub two_room : (m : Image) (p : Named) → IsWithin m (next_byte p) → p ≢ named_is.Nothing → 2 ≤ room m p
two_room m (named_is.InText i) low some = omega (arith, low)
two_room m (named_is.InData i) low some = omega (arith, low)
two_room m (named_is.InStack i) low some = omega (arith, low)
two_room m named_is.Nothing low some = absurd (some refl)

next_some : (p : Named) → p ≢ named_is.Nothing → next_byte p ≢ named_is.Nothing
next_some (named_is.InText i) some e = cc e
next_some (named_is.InData i) some e = cc e
next_some (named_is.InStack i) some e = cc e
next_some named_is.Nothing some e = some refl

next_storable : (p : Named) → IsStorable p → IsStorable (next_byte p)
next_storable (named_is.InText i) is = is
next_storable (named_is.InData i) is = is
next_storable (named_is.InStack i) is = is
next_storable named_is.Nothing is = is

next_start : (x : Starts) (p : Named) → p ≢ named_is.Nothing → start_of x (next_byte p) ≡ start_of x p + 1
next_start x (named_is.InText i) some = omega arith
next_start x (named_is.InData i) some = omega arith
next_start x (named_is.InStack i) some = omega arith
next_start x named_is.Nothing some = absurd (some refl)

next_within : (m : Image) (p : Named) (b : ℕ) → IsWithin m (next_byte p) → IsStorable p → IsWithin (image_after m (with_byte m p b)) (next_byte p)
next_within m (named_is.InText i) b low is = absurd is
next_within m (named_is.InData i) b low is = let e = length-set m.data i b in omega (arith, low, e)
next_within m (named_is.InStack i) b low is = let e = length-set m.stack i b in omega (arith, low, e)
next_within m named_is.Nothing b low is = absurd is

pub record Word (v : Stock) (m : Image) (at : ℕ) (p : Named) : Type 0 where
  pub side : (at + 2 ≤ 64 * v.core) ⊎ (64 * v.core ≤ at)
  pub inside : at + 2 ≤ length v.line
  pub low : byte_at m p ≡ Ok (slice_index v.line at)
  pub high : byte_at m (next_byte p) ≡ Ok (slice_index v.line (at + 1))

pub word_read : (v : Stock) (k : Kept) (s : ℕ) (x : Starts) (p : Named) → kept_of v ≡ k → IsSound v → IsCounted v.rows v.texts → AreStarts k s x → IsWithin (image_of k s) p → IsWithin (image_of k s) (next_byte p) → p ≢ named_is.Nothing
    → Word v (image_of k s) (start_of x p) p
word_read v k s x p view h c a low next some =
    let r : Run v.line v.core (start_of x p) 2 _ = run_read v k s 2 x p view h c a low (two_room (image_of k s) p next some) (omega arith) in
    record {
      side = r.side;
      inside = r.inside;
      low = (byte_read v k s x p view h c a low some).1;
      high = (byte_read v k s x (next_byte p) view h c a next (next_some p some)).1 ∙ ap (λ i. Ok (slice_index v.line i)) (next_start x p some);
    }

pub puts_word : (v : Stock) (k : Kept) (s : ℕ) (x : Starts) (p : Named) (w : ℕ) (line : List ℕ) → kept_of v ≡ k → IsSound v → IsCounted v.rows v.texts → AreTold (kept_of v) → AreStarts k s x → IsWithin (image_of k s) p → IsWithin (image_of k s) (next_byte p) → IsStorable p
    → line ≡ word_set v.line (start_of x p) w → Put (with_line v line) (with_image k s (image_after (image_of k s) (with_word (image_of k s) p w))) s x
puts_word v k s x p w line view h c told a low next is line_is =
    let some = storable_some p is in
    let m : Image = image_of k s in
    let half : Image = image_after m (with_byte m p (w % 256)) in
    let first : List ℕ = slice_set v.line (start_of x p) (w % 256) in
    let read : Word v m (start_of x p) p = word_read v k s x p view h c a low next some in
    let fits = read.inside in
    let one : Put (with_line v first) (with_image k s half) s x = puts_byte v k s x p (w % 256) first view h c told a low is (omega (arith, fits)) refl in
    let long = length-set v.line (start_of x p) (w % 256) in
    let at = next_start x p some in
    let there : IsWithin (image_of (with_image k s half) s) (next_byte p) = subst (λ i. IsWithin i (next_byte p)) (sym (with_image_same k s half a.alive)) (next_within m p (w % 256) next is) in
    let two : Put (with_line v line) (with_image (with_image k s half) s (image_after (image_of (with_image k s half) s) (with_byte (image_of (with_image k s half) s) (next_byte p) (w / 256)))) s x =
    puts_byte (with_line v first) (with_image k s half) s x (next_byte p) (w / 256) line one.kept one.sound c one.told one.starts there (next_storable p is) (omega (arith, fits, long, at))
    (line_is ∙ ap (λ i. slice_set first i (w / 256)) (sym at)) in
    subst (λ j. Put (with_line v line) j s x) (put_twice k (with_image k s half) _ s w p (next_byte p) a.alive is refl refl refl) two
