-- What is written out as bytes is what the bytes are read as.
use Rattle.std.proofs.Common.{◌≡◌, ◌+◌, ◌*◌, ◌/◌, ◌%◌, ◌<◌, ◌≤◌, ℕ, zero, suc, List, [], ◌∷◌, ◌++◌, length, take, drop, slice_index, refl, sym, ap, ◌∙◌, add-one, arith, drop-cons, take_all, add-zero}
use Rattle.std.specs.Prelude.{map}
use Rattle.std.specs.List.{range_with_len}
use Rattle.std.proofs.lemmas.List.{drop-drop, take_more}
use Rattle.std.proofs.Math.Seq.{take-add}
use Rattle.fs_codec.specs.Words.{word, long, words}
use Rattle.fs_codec.specs.Fields.{super_of, inode_of, entry_of}
use Rattle.fs_codec.specs.Bytes.{bytes_of, long_words, super_bytes, inode_bytes, entry_bytes}

-- n bytes from a place on
unfoldable pub part : ℕ → ℕ → List ℕ → List ℕ
part at n b = take n (drop at b)

pub part_join : (at n m : ℕ) (b : List ℕ) → part at n b ++ part (at + n) m b ≡ part at (n + m) b
unfolding part
part_join at n m b = ap (λ l. take n (drop at b) ++ take m l) (sym (drop-drop n at b)) ∙ sym (take-add n m (drop at b))

pub part_cons : (at n : ℕ) (b : List ℕ) → at < length b → slice_index b at ∷ part (at + 1) n b ≡ part at (n + 1) b
unfolding part
part_cons at n b h =
    let e : drop at b ≡ slice_index b at ∷ drop (suc at) b = drop-cons b at 0 h in
    rw e (simp add-one)

pub part_whole : (b : List ℕ) (n : ℕ) → length b ≡ n → part 0 n b ≡ b
unfolding part
part_whole b n h = grind (arith, take_all)

pub two_more : (b : List ℕ) (p m low high : ℕ) (rest : List ℕ) → p + 2 ≤ length b → low ≡ slice_index b p → high ≡ slice_index b (p + 1) → rest ≡ part (p + 2) m b → low ∷ high ∷ rest ≡ part p (m + 2) b
two_more b p m low high rest h l g r =
    let first : slice_index b p ∷ part (p + 1) (m + 1) b ≡ part p (m + 1 + 1) b = part_cons p (m + 1) b (omega arith) in
    let second : slice_index b (p + 1) ∷ part (p + 1 + 1) m b ≡ part (p + 1) (m + 1) b = part_cons (p + 1) m b (omega arith) in
    let place : p + 1 + 1 ≡ p + 2 = omega arith in
    let size : m + 1 + 1 ≡ m + 2 = omega arith in
    cc

-- words written out are the bytes that they were read from
bytes_of_range : (b : List ℕ) (at i n : ℕ) → at + 2 * (i + n) ≤ length b → ((k : ℕ) → slice_index b k < 256) → bytes_of (map (λ k. word b (at + 2 * k)) (range_with_len i n)) ≡ part (at + 2 * i) (2 * n) b
unfolding part bytes_of
bytes_of_range b at i zero h fits = refl
bytes_of_range b at i (suc n) h fits =
    let rest : bytes_of (map (λ k. word b (at + 2 * k)) (range_with_len (i + 1) n)) ≡ part (at + 2 * (i + 1)) (2 * n) b = bytes_of_range b at (i + 1) n (omega arith) fits in
    let place : at + 2 * (i + 1) ≡ at + 2 * i + 2 = omega arith in
    let size : 2 * n + 2 ≡ 2 * suc n = omega arith in
    let low : slice_index b (at + 2 * i) < 256 = fits (at + 2 * i) in
    let high : slice_index b (at + 2 * i + 1) < 256 = fits (at + 2 * i + 1) in
    two_more b (at + 2 * i) (2 * n) _ _ _ (omega arith) (omega arith) (omega arith) (rest ∙ ap (λ p. part p (2 * n) b) place) ∙ ap (λ m. part (at + 2 * i) m b) size

pub bytes_of_words : (b : List ℕ) (at n : ℕ) → at + 2 * n ≤ length b → ((k : ℕ) → slice_index b k < 256) → bytes_of (words b at n) ≡ part at (2 * n) b
unfolding words
bytes_of_words b at n h fits =
    let start : at + 2 * 0 ≡ at = add-zero at in
    bytes_of_range b at 0 n (omega arith) fits ∙ ap (λ p. part p (2 * n) b) start

pub bytes_of_word : (b : List ℕ) (at w : ℕ) → at + 2 ≤ length b → ((k : ℕ) → slice_index b k < 256) → w ≡ word b at → bytes_of (w ∷ []) ≡ part at 2 b
unfolding part bytes_of
bytes_of_word b at w h fits is =
    let low : slice_index b at < 256 = fits at in
    let high : slice_index b (at + 1) < 256 = fits (at + 1) in
    two_more b at 0 _ _ [] h (omega arith) (omega arith) refl

bytes_of_two : (b : List ℕ) (at v w : ℕ) → at + 4 ≤ length b → ((k : ℕ) → slice_index b k < 256) → v ≡ word b at → w ≡ word b (at + 2) → bytes_of (v ∷ w ∷ []) ≡ part at 4 b
unfolding part bytes_of
bytes_of_two b at v w h fits i j =
    let a : slice_index b at < 256 = fits at in
    let c : slice_index b (at + 1) < 256 = fits (at + 1) in
    let d : slice_index b (at + 2) < 256 = fits (at + 2) in
    let e : slice_index b (at + 2 + 1) < 256 = fits (at + 2 + 1) in
    two_more b at 2 _ _ _ (omega arith) (omega arith) (omega arith) (two_more b (at + 2) 0 _ _ [] (omega arith) (omega arith) (omega arith) refl)

pub bytes_of_long : (b : List ℕ) (at n : ℕ) → at + 4 ≤ length b → ((k : ℕ) → slice_index b k < 256) → n ≡ long b at → bytes_of (long_words n) ≡ part at 4 b
bytes_of_long b at n h fits is =
    let d : slice_index b (at + 2) < 256 = fits (at + 2) in
    let e : slice_index b (at + 2 + 1) < 256 = fits (at + 2 + 1) in
    bytes_of_two b at _ _ h fits (omega arith) (omega arith)

three_words : (b : List ℕ) (at : ℕ) → at + 6 ≤ length b → ((k : ℕ) → slice_index b k < 256) → bytes_of (word b at ∷ word b (at + 2) ∷ word b (at + 4) ∷ []) ≡ part at 6 b
unfolding part bytes_of
three_words b at h fits =
    let a : slice_index b at < 256 = fits at in
    let c : slice_index b (at + 1) < 256 = fits (at + 1) in
    let more : at + 2 + 2 ≡ at + 4 = omega arith in
    two_more b at 4 _ _ _ (omega arith) (omega arith) (omega arith) (bytes_of_two b (at + 2) _ _ (omega arith) fits refl (ap (word b) (sym more)))

-- four bytes are a part
pub four : (b : List ℕ) (at : ℕ) → at + 4 ≤ length b → slice_index b at ∷ slice_index b (at + 1) ∷ slice_index b (at + 2) ∷ slice_index b (at + 3) ∷ [] ≡ part at 4 b
unfolding part
four b at h =
    let place : at + 2 + 1 ≡ at + 3 = omega arith in
    two_more b at 2 _ _ _ (omega arith) refl refl (two_more b (at + 2) 0 _ _ [] (omega arith) refl (ap (slice_index b) (sym place)) refl)

pub entry_bytes_of : (b : List ℕ) → length b ≡ 16 → ((k : ℕ) → slice_index b k < 256) → entry_bytes (entry_of b) ≡ b
unfolding entry_bytes
entry_bytes_of b h fits =
    let ino : bytes_of (word b 0 ∷ []) ≡ part 0 2 b = bytes_of_word b 0 _ (omega arith) fits refl in
    let name : part 2 14 b ≡ take 14 (drop 2 b) = unfold part in refl in
    let joined : part 0 2 b ++ part 2 14 b ≡ part 0 16 b = part_join 0 2 14 b in
    let whole : part 0 16 b ≡ b = part_whole b 16 h in
    rw (ino, ← name, joined) whole

pub inode_bytes_of : (b : List ℕ) → length b ≡ 32 → ((k : ℕ) → slice_index b k < 256) → inode_bytes (inode_of b) ≡ b
unfolding inode_bytes
inode_bytes_of b h fits =
    let size_low : slice_index b 6 < 256 = fits 6 in
    let size_high : slice_index b 7 < 256 = fits 7 in
    let mode : bytes_of (word b 0 ∷ []) ≡ part 0 2 b = bytes_of_word b 0 _ (omega arith) fits refl in
    let top : (65536 * slice_index b 5 + word b 6) / 65536 ≡ slice_index b 5 = omega arith in
    let bottom : (65536 * slice_index b 5 + word b 6) % 65536 ≡ word b 6 = omega arith in
    let single : slice_index b 2 ∷ slice_index b 3 ∷ slice_index b 4 ∷ slice_index b 5 ∷ [] ≡ part 2 4 b = four b 2 (omega arith) in
    let size : bytes_of (word b 6 ∷ []) ≡ part 6 2 b = bytes_of_word b 6 _ (omega arith) fits refl in
    let addr : bytes_of (words b 8 8) ≡ part 8 16 b = bytes_of_words b 8 8 (omega arith) fits in
    let actime : bytes_of (long_words (long b 24)) ≡ part 24 4 b = bytes_of_long b 24 _ (omega arith) fits refl in
    let modtime : bytes_of (long_words (long b 28)) ≡ part 28 4 b = bytes_of_long b 28 _ (omega arith) fits refl in
    rw (top, bottom, mode, single, size, addr, actime, modtime, part_join 0 2 4 b, part_join 0 6 2 b, part_join 0 8 16 b, part_join 0 24 4 b, part_join 0 28 4 b) (part_whole b 32 h)

pub super_bytes_of : (b : List ℕ) → length b ≡ 512 → ((k : ℕ) → slice_index b k < 256) → super_bytes (super_of b) ≡ part 0 416 b
unfolding super_bytes
super_bytes_of b h fits =
    let size_low : slice_index b 412 < 256 = fits 412 in
    let first : bytes_of (word b 0 ∷ word b 2 ∷ word b 4 ∷ []) ≡ part 0 6 b = three_words b 0 (omega arith) fits in
    let free : bytes_of (words b 6 100) ≡ part 6 200 b = bytes_of_words b 6 100 (omega arith) fits in
    let ninode : bytes_of (word b 206 ∷ []) ≡ part 206 2 b = bytes_of_word b 206 _ (omega arith) fits refl in
    let inode : bytes_of (words b 208 100) ≡ part 208 200 b = bytes_of_words b 208 100 (omega arith) fits in
    let flags : slice_index b 408 ∷ slice_index b 409 ∷ slice_index b 410 ∷ slice_index b 411 ∷ [] ≡ part 408 4 b = four b 408 (omega arith) in
    let time : bytes_of (long_words (long b 412)) ≡ part 412 4 b = bytes_of_long b 412 _ (omega arith) fits refl in
    rw (first, free, ninode, inode, flags, time, part_join 0 6 200 b, part_join 0 206 2 b, part_join 0 208 200 b, part_join 0 408 4 b, part_join 0 412 4 b) refl

pub length-bytes_of : (words : List ℕ) → length (bytes_of words) ≡ 2 * length words
unfolding bytes_of
length-bytes_of [] = refl
length-bytes_of (w ∷ ws) =
    let more : length (bytes_of ws) ≡ 2 * length ws = length-bytes_of ws in
    omega arith

pub bytes_of-append : (xs ys : List ℕ) → bytes_of (xs ++ ys) ≡ bytes_of xs ++ bytes_of ys
unfolding bytes_of
bytes_of-append [] ys = refl
bytes_of-append (x ∷ xs) ys = ap (λ l. x % 256 ∷ x / 256 ∷ l) (bytes_of-append xs ys)

pub bytes_of_more : (ws : List ℕ) (i : ℕ) → i < length ws → bytes_of (take (i + 1) ws) ≡ bytes_of (take i ws) ++ bytes_of (slice_index ws i ∷ [])
bytes_of_more ws i h = ap bytes_of (take_more ws i 0 h) ∙ bytes_of-append (take i ws) (slice_index ws i ∷ [])
