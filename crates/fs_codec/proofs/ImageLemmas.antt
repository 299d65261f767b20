-- What stands in an image is what stands on its disk.
use Rattle.std.proofs.Common.{◌≡◌, ◌+◌, ◌-◌, ◌*◌, ◌<◌, ◌≤◌, ℕ, Bool, true, false, nat_lt, List, ◌++◌, length, slice_index, slice_range, drop, replicate, length-drop, ap, refl, sym, ◌∙◌, arith}
use Rattle.std.specs.Prelude.{min}
use Rattle.std.proofs.lemmas.Bool.{ltb-true, ltb-false}
use Rattle.std.proofs.lemmas.List.{get_or-drop, get_or-take, length-take, get_or_append_left, get_or-append_right, get_or-replicate, get_or_past, length-append, length-replicate}
use Rattle.std.proofs.lemmas.List.FromFn.{fill_by_all, get_or-map-range_with_len, length-map-range_with_len}
use Rattle.fs_codec.specs.Words.{word, bytes_from}
use Rattle.fs_codec.specs.Disk.{disk_of}

pub bytes_by_places : (bytes list : List ℕ) (at n : ℕ) → length list ≡ n → ((k : ℕ) → k < n → slice_index list k ≡ slice_index bytes (at + k)) → list ≡ bytes_from bytes at n
unfolding bytes_from
bytes_by_places bytes list at n long each = fill_by_all (λ k. slice_index bytes (at + k)) list n 0 long each

-- what is there, and zeros past its end
pub there_and_zeros : (bytes there zeros : List ℕ) (at n s e : ℕ) → s ≡ min at (length bytes) → e ≡ min (at + n) (length bytes) → there ≡ slice_range bytes s e → zeros ≡ replicate (n - (e - s)) 0 → there ++ zeros ≡ bytes_from bytes at n
there_and_zeros bytes there zeros at n s e first last is_there are_zeros = bytes_by_places bytes (there ++ zeros) at n total each where
  long : length there ≡ e - s
  long = ap length is_there ∙ length-take (e - s) (drop s bytes) ∙ omega (arith, length-drop s bytes, first, last)

  total : length (there ++ zeros) ≡ n
  total = omega (arith, length-append there zeros, long, ap length are_zeros, length-replicate {A = ℕ} (n - (e - s)) 0, first, last)

  at_place : (k : ℕ) (b : Bool) → nat_lt k (e - s) ≡ b → k < n → slice_index (there ++ zeros) k ≡ slice_index bytes (at + k)
  at_place k true h small =
      let near : k < e - s = ltb-true k (e - s) h in
      let same : s + k ≡ at + k = omega (arith, first, last) in
      get_or_append_left there zeros 0 k (omega (arith, long)) ∙ ap (λ l. slice_index l k) is_there ∙ get_or-take (e - s) (drop s bytes) k 0 near ∙ get_or-drop s bytes k 0 ∙ ap (slice_index bytes) same
  at_place k false h small =
      let far : e - s ≤ k = ltb-false k (e - s) h in
      let past : length bytes ≤ at + k = omega (arith, first, last) in
      let here : slice_index (there ++ zeros) k ≡ slice_index zeros (k - (e - s)) = get_or-append_right there zeros (e - s) k 0 long far in
      let zero : slice_index zeros (k - (e - s)) ≡ 0 = ap (λ l. slice_index l (k - (e - s))) are_zeros ∙ get_or-replicate (n - (e - s)) (k - (e - s)) 0 0 (omega arith) in
      here ∙ zero ∙ sym (get_or_past bytes (at + k) 0 past)

  each : (k : ℕ) → k < n → slice_index (there ++ zeros) k ≡ slice_index bytes (at + k)
  each k small = at_place k (nat_lt k (e - s)) refl small

pub byte_of_disk : (bytes : List ℕ) (block k : ℕ) → k < 512 → slice_index (disk_of bytes block) k ≡ slice_index bytes (512 * block + k)
unfolding disk_of bytes_from
byte_of_disk bytes block k h = get_or-map-range_with_len (λ k. slice_index bytes (512 * block + k)) 0 512 k k 0 h (omega arith)

length-disk_of : (bytes : List ℕ) (block : ℕ) → length (disk_of bytes block) ≡ 512
unfolding disk_of bytes_from
length-disk_of bytes block = length-map-range_with_len (λ k. slice_index bytes (512 * block + k)) 0 512

pub word_of_disk : (bytes : List ℕ) (block at low high : ℕ) → at ≤ 510 → low ≡ slice_index bytes (512 * block + at) → high ≡ slice_index bytes (512 * block + at + 1) → low + 256 * high ≡ word (disk_of bytes block) at
word_of_disk bytes block at low high h is_low is_high =
    let l : slice_index (disk_of bytes block) at ≡ slice_index bytes (512 * block + at) = byte_of_disk bytes block at (omega arith) in
    let same : 512 * block + (at + 1) ≡ 512 * block + at + 1 = omega arith in
    let u : slice_index (disk_of bytes block) (at + 1) ≡ slice_index bytes (512 * block + at + 1) = byte_of_disk bytes block (at + 1) (omega arith) ∙ ap (slice_index bytes) same in
    omega arith

pub part_of_disk : (bytes : List ℕ) (block place : ℕ) → place + 32 ≤ 512 → slice_range (disk_of bytes block) place (place + 32) ≡ bytes_from bytes (512 * block + place) 32
part_of_disk bytes block place h =
    let part : List ℕ = slice_range (disk_of bytes block) place (place + 32) in
    let size : place + 32 - place ≡ 32 = omega arith in
    let long : length part ≡ 32 = simp (length-take, length-drop, length-disk_of bytes block) (omega arith) in
    bytes_by_places bytes part (512 * block + place) 32 long (λ k small.
    get_or-take (place + 32 - place) (drop place (disk_of bytes block)) k 0 (omega arith) ∙ get_or-drop place (disk_of bytes block) k 0
    ∙ byte_of_disk bytes block (place + k) (omega arith) ∙ ap (slice_index bytes) (omega arith))
