-- The bytes of an image from a place on are taken piece by piece.
use Rattle.std.proofs.Common.{◌≡◌, ◌∙◌, ℕ, ◌+◌, ◌-◌, ◌<◌, List, [], ◌++◌, length, slice_index, inl, inr, refl, ap, arith, length-append}
use Rattle.std.proofs.lemmas.Bool.{cases_lt}
use Rattle.std.proofs.lemmas.List.{get_or_append_left, get_or-append_right}
use Rattle.std.proofs.lemmas.List.FromFn.{length-map-range_with_len, get_or-map-range_with_len}
use Rattle.fs_codec.specs.Words.{bytes_from}
use Rattle.fs_codec.proofs.ImageLemmas.{bytes_by_places}

pub length-bytes_from : (image : List ℕ) (at n : ℕ) → length (bytes_from image at n) ≡ n
unfolding bytes_from
length-bytes_from image at n = length-map-range_with_len (λ k. slice_index image (at + k)) 0 n

byte_of : (image : List ℕ) (at n k : ℕ) → k < n → slice_index (bytes_from image at n) k ≡ slice_index image (at + k)
unfolding bytes_from
byte_of image at n k low = get_or-map-range_with_len (λ k. slice_index image (at + k)) 0 n k k 0 low (omega arith)

pub none_yet : (image : List ℕ) (at : ℕ) → [] ≡ bytes_from image at 0
unfolding bytes_from
none_yet image at = refl

-- what comes next
pub bytes_more : (image : List ℕ) (at m n : ℕ) → bytes_from image at m ++ bytes_from image (at + m) n ≡ bytes_from image at (m + n)
bytes_more image at m n = bytes_by_places image (first ++ next) at (m + n) total each
  where
    first : List ℕ
    first = bytes_from image at m

    next : List ℕ
    next = bytes_from image (at + m) n

    total : length (first ++ next) ≡ m + n
    total =
        let both = length-append first next in
        let one = length-bytes_from image at m in
        let two = length-bytes_from image (at + m) n in
        omega (arith, both, one, two)

    each : (k : ℕ) → k < m + n → slice_index (first ++ next) k ≡ slice_index image (at + k)
    each k low = elim (cases_lt k m) [
      | inl here ↦
          let one = length-bytes_from image at m in
          get_or_append_left first next 0 k (omega (arith, here, one)) ∙ byte_of image at m k here
      | inr past ↦
          let same : at + m + (k - m) ≡ at + k = omega (arith, past) in
          get_or-append_right first next m k 0 (length-bytes_from image at m) past
          ∙ byte_of image (at + m) n (k - m) (omega (arith, low, past)) ∙ ap (slice_index image) same
    ]
