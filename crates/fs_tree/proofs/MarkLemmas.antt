-- Marks as bits of words: which bit is whose, and what becomes of the marks when a word changes.
use Rattle.std.proofs.Common.{◌≡◌, ◌≢◌, ◌∙◌, ◌<◌, ◌/◌, ◌%◌, ◌==◌, ℕ, Bool, false, List, length, get_or, set, slice_index, replicate, sym, ap, inl, inr, arith}
use Rattle.std.specs.Int.{bit_at}
use Rattle.std.proofs.lemmas.Bool.{cases_eq}
use Rattle.std.proofs.lemmas.List.{ext_get_or, length-set, length-replicate, get_or-set_same, get_or-set_other, get_or-replicate}
use Rattle.std.proofs.lemmas.List.FromFn.{get_or-map-range_with_len, length-map-range_with_len}
use Rattle.std.proofs.lemmas.Nat.Bits.{bit_at-zero}
use Rattle.fs_tree.specs.declared.marks.TheConstants.{INODE_NUMBERS}
use Rattle.fs_tree.specs.Marks.{no_marks, marks_in}

-- whether a bit of such words is set
abbrev pub bit_of : List ℕ → ℕ → Bool
bit_of words i = bit_at (slice_index words (i / 64)) (i % 64) == 1

pub mark_at : (words : List ℕ) (ino : ℕ) → ino < 65536 → get_or (marks_in words) ino false ≡ bit_of words ino
unfolding marks_in
mark_at words ino low =
    get_or-map-range_with_len (λ i. bit_at (slice_index words (i / 64)) (i % 64) == 1) 0 INODE_NUMBERS ino ino false low (omega arith)

length_marks : (words : List ℕ) → length (marks_in words) ≡ 65536
unfolding marks_in
length_marks words =
    length-map-range_with_len (λ i. bit_at (slice_index words (i / 64)) (i % 64) == 1) 0 INODE_NUMBERS

-- Another word stands in the place of one, which differs from it in the bit of one inode at most.
module _ (words : List ℕ) (ino word : ℕ) (mark : Bool) (low : ino < 65536) (long : length words ≡ 1024)
    (is : (bit_at word (ino % 64) == 1) ≡ mark)
    (others : (k : ℕ) → k < 64 → k ≢ ino % 64 → bit_at word k ≡ bit_at (slice_index words (ino / 64)) k) where
  abbrev new : List ℕ
  new = set words (ino / 64) word

  here : slice_index new (ino / 64) ≡ word
  here = get_or-set_same words (ino / 64) word 0 (omega (arith, low, long))

  -- the bit of the inode
  own : bit_of new ino ≡ mark
  own = ap (λ w. bit_at w (ino % 64) == 1) here ∙ is

  -- a bit of that word
  beside : (i : ℕ) → i / 64 ≡ ino / 64 → i ≢ ino → bit_of new i ≡ bit_of words i
  beside i same other =
      ap (λ n. bit_at (slice_index new n) (i % 64) == 1) same
      ∙ ap (λ w. bit_at w (i % 64) == 1) here
      ∙ ap (λ b. b == 1) (others (i % 64) (omega arith) (λ e. other (omega (arith, same, e))))
      ∙ sym (ap (λ n. bit_at (slice_index words n) (i % 64) == 1) same)

  -- a bit of another
  apart : (i : ℕ) → i / 64 ≢ ino / 64 → bit_of new i ≡ bit_of words i
  apart i other = ap (λ w. bit_at w (i % 64) == 1) (get_or-set_other words (ino / 64) (i / 64) word 0 other)

  stays : (i : ℕ) → i ≢ ino → bit_of new i ≡ bit_of words i
  stays i other = elim (cases_eq (i / 64) (ino / 64)) [
    | inl same ↦ beside i same other
    | inr differ ↦ apart i differ
  ]

  told : (i : ℕ) → i < 65536 → bit_of new i ≡ get_or (set (marks_in words) ino mark) i false
  told i small = elim (cases_eq i ino) [
    | inl is_it ↦
        ap (bit_of new) is_it ∙ own
        ∙ sym (get_or-set_same (marks_in words) ino mark false (omega (arith, low, length_marks words)))
        ∙ sym (ap (λ n. get_or (set (marks_in words) ino mark) n false) is_it)
    | inr other ↦
        stays i other ∙ sym (mark_at words i small) ∙ sym (get_or-set_other (marks_in words) ino i mark false other)
  ]

  each : (i : ℕ) → i < 65536 → get_or (marks_in new) i false ≡ get_or (set (marks_in words) ino mark) i false
  each i small = mark_at new i small ∙ told i small

  pub marks_with : marks_in new ≡ set (marks_in words) ino mark
  marks_with =
      ext_get_or false (marks_in new) (set (marks_in words) ino mark)
      (length_marks new ∙ sym (length-set (marks_in words) ino mark ∙ length_marks words))
      (λ i inside. each i (omega (arith, inside, length_marks new)))

-- no bit is set
zeros : List ℕ
zeros = replicate 1024 0

no_bit : (i : ℕ) → i < 65536 → bit_of zeros i ≡ false
unfolding zeros
no_bit i small =
    ap (λ w. bit_at w (i % 64) == 1) (get_or-replicate 1024 (i / 64) 0 0 (omega (arith, small)))
    ∙ ap (λ b. b == 1) (bit_at-zero (i % 64))

pub none_marked : marks_in (replicate 1024 0) ≡ no_marks
unfolding zeros no_marks
none_marked =
    ext_get_or false (marks_in zeros) (replicate INODE_NUMBERS false)
    (length_marks zeros ∙ sym (length-replicate INODE_NUMBERS false))
    (λ i inside. let small : i < 65536 = omega (arith, inside, length_marks zeros) in
    mark_at zeros i small ∙ no_bit i small ∙ sym (get_or-replicate INODE_NUMBERS i false false small))
