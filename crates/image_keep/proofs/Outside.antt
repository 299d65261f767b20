-- A write to the data or to the stack of a slot's image leaves each other byte of core and of the swap area.
use Rattle.std.proofs.Common.{◌≡◌, ◌∙◌, ℕ, ◌+◌, ◌≤◌, List, ◌++◌, length, slice_set, sym, ap, arith}
use Rattle.std.proofs.lemmas.List.{take-set-le, drop-set-lt}
use Rattle.v6_base.specs.declared.named.Named.{Named}
use Rattle.v6_base.specs.declared.named.Named.TheVariants as named_is
use Rattle.v6_base.specs.Words.{IsWithin, IsStorable, next_byte, word_set}
use Rattle.v6_base.specs.Runs.{room}
use Rattle.core_mem.specs.Bytes.{over}
use Rattle.core_mem.proofs.Parts.{take-over, drop-over}
use Rattle.image_keep.specs.declared.starts.Starts.{Starts}
use Rattle.image_keep.specs.Kept.{keeping, image_of}
use Rattle.image_keep.specs.State.{ImagesState}
use Rattle.image_keep.specs.Starts.{data_start, AreStarts, start_of}
use Rattle.image_keep.specs.Lent.{around, outside_of}
use Rattle.image_keep.specs.Stepped.{over_outside}
use Rattle.image_keep.proofs.Putting.{one_room, storable_some}
use Rattle.image_keep.proofs.WordsRead.{two_room}

-- one byte, and a run of bytes, of a range
around_set : (xs : List ℕ) (at n i b : ℕ) → at ≤ i → i + 1 ≤ at + n → around (slice_set xs i b) at n ≡ around xs at n
around_set xs at n i b low high = λ j. take-set-le at xs i b low j ++ drop-set-lt (at + n) xs i b (omega (arith, high)) j

around_over : (xs ys : List ℕ) (at n i : ℕ) → at ≤ i → i + length ys ≤ at + n → i + length ys ≤ length xs → around (over xs i ys) at n ≡ around xs at n
around_over xs ys at n i low high inside = λ j. take-over xs i ys at low inside j ++ drop-over xs i ys (at + n) high inside j

module _ (old new : ImagesState) (s : ℕ) (x : Starts) (was : AreStarts old.kept s x) (is : AreStarts new.kept s x) (core : length new.core ≡ length old.core) where
  abbrev size : ℕ
  size = length (image_of old.kept s).data + length (image_of old.kept s).stack

  -- what is named stands in the range
  in_range : (p : Named) (n : ℕ) → IsWithin (image_of old.kept s) p → IsStorable p → n ≤ room (image_of old.kept s) p
      → (x.image ≤ start_of x p) × (start_of x p + n ≤ x.image + size)
  in_range (named_is.InText i) n low storable few = absurd storable
  in_range (named_is.InData i) n low storable few = (omega arith, omega (arith, low, few))
  in_range (named_is.InStack i) n low storable few = let d = was.data_len in (omega arith, omega (arith, low, few, d))
  in_range named_is.Nothing n low storable few = absurd storable

  same_size : length (image_of new.kept s).data + length (image_of new.kept s).stack ≡ size
  same_size =
      let a = was.data_len in let b = is.data_len in
      let c = was.stack_start in let d = is.stack_start in
      omega (arith, a, b, c, d)

  stays : around (new.core ++ new.swap) x.image size ≡ around (old.core ++ old.swap) x.image size → outside_of new s ≡ outside_of old s
  unfolding outside_of
  stays same =
      let bytes : around (new.core ++ new.swap) (data_start new.kept.core (keeping new.kept s)) (length (image_of new.kept s).data + length (image_of new.kept s).stack)
      ≡ around (old.core ++ old.swap) (data_start old.kept.core (keeping old.kept s)) size =
      (λ j. around (new.core ++ new.swap) (sym is.image j) (same_size j)) ∙ same ∙ ap (λ a. around (old.core ++ old.swap) a size) was.image in
      λ j. record { core = core j; bytes = bytes j }

  -- the same where bytes have been put in front of the range
  pub fronted : (at : ℕ) (bytes : List ℕ)
      → around (new.core ++ new.swap) x.image size ≡ over (around (old.core ++ old.swap) x.image size) at bytes
      → outside_of new s ≡ over_outside (outside_of old s) at bytes
  unfolding outside_of
  fronted at bytes same =
      let put : around (new.core ++ new.swap) (data_start new.kept.core (keeping new.kept s)) (length (image_of new.kept s).data + length (image_of new.kept s).stack)
      ≡ over (around (old.core ++ old.swap) (data_start old.kept.core (keeping old.kept s)) size) at bytes =
      (λ j. around (new.core ++ new.swap) (sym is.image j) (same_size j)) ∙ same
      ∙ ap (λ a. over (around (old.core ++ old.swap) a size) at bytes) was.image in
      λ j. record { core = core j; bytes = put j }

  pub byte_outside : (p : Named) (b : ℕ) → IsWithin (image_of old.kept s) p → IsStorable p
      → new.core ++ new.swap ≡ slice_set (old.core ++ old.swap) (start_of x p) b → outside_of new s ≡ outside_of old s
  byte_outside p b low storable line =
      let r = in_range p 1 low storable (one_room (image_of old.kept s) p low storable) in
      stays (ap (λ l. around l x.image size) line ∙ around_set (old.core ++ old.swap) x.image size (start_of x p) b r.0 r.1)

  pub word_outside : (p : Named) (w : ℕ) → IsWithin (image_of old.kept s) p → IsWithin (image_of old.kept s) (next_byte p) → IsStorable p
      → new.core ++ new.swap ≡ word_set (old.core ++ old.swap) (start_of x p) w → outside_of new s ≡ outside_of old s
  word_outside p w low next storable line =
      let r = in_range p 2 low storable (two_room (image_of old.kept s) p next (storable_some p storable)) in
      let a = r.0 in let b = r.1 in
      stays (ap (λ l. around l x.image size) line
      ∙ around_set _ x.image size (start_of x p + 1) _ (omega (arith, a)) (omega (arith, b))
      ∙ around_set (old.core ++ old.swap) x.image size (start_of x p) _ a (omega (arith, b)))

  pub part_outside : (p : Named) (bytes : List ℕ) → IsWithin (image_of old.kept s) p → IsStorable p → length bytes ≤ room (image_of old.kept s) p
      → start_of x p + length bytes ≤ length (old.core ++ old.swap)
      → new.core ++ new.swap ≡ over (old.core ++ old.swap) (start_of x p) bytes → outside_of new s ≡ outside_of old s
  part_outside p bytes low storable few inside line =
      let r = in_range p (length bytes) low storable few in
      stays (ap (λ l. around l x.image size) line ∙ around_over (old.core ++ old.swap) bytes x.image size (start_of x p) r.0 r.1 inside)
