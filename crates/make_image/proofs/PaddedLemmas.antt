-- Lists padded with zeros, and lists that are put after one another.
use Rattle.std.proofs.Common.{◌≡◌, ◌+◌, ◌-◌, ◌<◌, ◌≤◌, ℕ, List, [], ◌∷◌, ◌++◌, length, take, drop, slice_index, refl, sym, ap, ◌∙◌, append_assoc, arith, length-append, length-take, take_all}
use Rattle.std.specs.Prelude.{replicate}
use Rattle.std.proofs.lemmas.List.{length-replicate, take-append-drop}
use Rattle.std.proofs.lemmas.Grind.{common_steps}
use Rattle.fs_codec.specs.Words.{word}
use Rattle.fs_codec.specs.Fields.{super_of}
use Rattle.fs_codec.specs.Bytes.{bytes_of, super_bytes}
use Rattle.fs_codec.proofs.BytesLemmas.{part, part_whole, bytes_of_word, super_bytes_of}
use Rattle.make_image.specs.Padded.{padded}

-- what is put after a list twice is put after it once
pub appended : {A : Type 0} (old mid new x y z : List A) → mid ≡ old ++ x → new ≡ mid ++ y → z ≡ x ++ y → new ≡ old ++ z
appended old mid new x y z first second both = second ∙ ap (λ l. l ++ y) first ∙ append_assoc old x y ∙ ap (λ l. old ++ l) (sym both)

-- a list that is put after another, and what resizing then puts after it
pub padded_resized : (old more all : List ℕ) (end n size : ℕ) → all ≡ old ++ more → length more ≤ size → end ≡ length old + size → n ≡ length all → take end all ++ replicate (end - n) 0 ≡ old ++ padded size more
unfolding padded
padded_resized old more all end n size is within ends counts =
    let long : length all ≡ length old + length more = ap length is ∙ length-append old more in
    let whole : take end all ≡ all = take_all end all (omega arith) in
    let gap : end - n ≡ size - length more = omega arith in
    rw (whole, gap, is) (append_assoc old more (replicate (size - length more) 0))

pub length-padded : (size : ℕ) (list : List ℕ) → length list ≤ size → length (padded size list) ≡ size
unfolding padded
length-padded size list h = simp (length-append, length-replicate) (omega arith)

pub get_or-padded : (size : ℕ) (list : List ℕ) (k : ℕ) → slice_index (padded size list) k ≡ slice_index list k
unfolding padded
get_or-padded size list k = grind (arith, common_steps)

-- a block whose first bytes are the super-block's
pub padded_super : (b : List ℕ) → length b ≡ 512 → ((k : ℕ) → slice_index b k < 256) → drop 416 b ≡ replicate 96 0 → b ≡ padded 512 (super_bytes (super_of b))
unfolding padded
padded_super b h fits rest =
    let spelled : super_bytes (super_of b) ≡ part 0 416 b = super_bytes_of b h fits in
    let first : part 0 416 b ≡ take 416 b = unfold part in refl in
    let long : length (take 416 b) ≡ 416 = simp length-take (omega arith) in
    let gap : 512 - length (take 416 b) ≡ 96 = omega arith in
    sym (take-append-drop 416 b) ∙ sym (rw (spelled, first, gap, rest) refl)

-- a word in two bytes
pub bytes_of_pair : (b : List ℕ) (w : ℕ) → length b ≡ 2 → ((k : ℕ) → slice_index b k < 256) → word b 0 ≡ w → b ≡ bytes_of (w ∷ [])
bytes_of_pair b w h fits is = sym (bytes_of_word b 0 w (omega arith) fits (sym is) ∙ part_whole b 2 h)
