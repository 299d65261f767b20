-- What the disk has where blocks are written late.
use Rattle.std.proofs.Common.{◌≡◌, ◌⊎◌, ℕ, inl, inr, List, [], refl, ap, ◌∙◌, subst, arith}
use Rattle.std.proofs.lemmas.List.{same_lists, get_or_default}
use Rattle.buf_cache.specs.Blocks.{block_at, IsDisk, WritesLate}

pub late_stays : (stored blocks : List (List ℕ)) → WritesLate stored blocks stored
late_stays stored blocks = record { count = refl; each = λ n low. inl refl }

-- Blocks are written late, and once more, while they stay the same.
pub late_again : (stored blocks middle between after : List (List ℕ)) → between ≡ blocks
    → WritesLate stored blocks middle → WritesLate middle between after → WritesLate stored blocks after
late_again stored blocks middle between after same first second =
    record { count = second.count ∙ first.count; each = λ n low. one n (second.each n low) (first.each n low) } where
      one : (n : ℕ) → (block_at after n ≡ block_at middle n) ⊎ (block_at after n ≡ block_at between n)
          → (block_at middle n ≡ block_at stored n) ⊎ (block_at middle n ≡ block_at blocks n)
          → (block_at after n ≡ block_at stored n) ⊎ (block_at after n ≡ block_at blocks n)
      one n (inl e) (inl f) = inl (e ∙ f)
      one n (inl e) (inr f) = inr (e ∙ f)
      one n (inr e) f = inr (e ∙ ap (λ (l : List (List ℕ)). block_at l n) same)

-- Where the disk has all blocks already, it has them still.
pub late_same : (blocks after : List (List ℕ)) → IsDisk blocks → WritesLate blocks blocks after → after ≡ blocks
late_same blocks after is late =
    let long = late.count in
    let count = is.count in
    same_lists after blocks long (λ n d low.
    get_or_default after n d [] low ∙ one (late.each n (omega (arith, long, count, low))) ∙ get_or_default blocks n [] d (omega (arith, long, low))) where
      one : {A : Type 0} {x y : A} → (x ≡ y) ⊎ (x ≡ y) → x ≡ y
      one (inl h) = h
      one (inr h) = h

pub late_twice : (blocks stored middle between after : List (List ℕ)) → IsDisk blocks → stored ≡ blocks → between ≡ blocks
    → WritesLate stored blocks middle → WritesLate middle between after → after ≡ blocks
late_twice blocks stored middle between after is same still first second =
    let one : middle ≡ blocks = late_same blocks middle is (subst (λ s. WritesLate s blocks middle) same first) in
    late_same blocks after is (subst (λ s. WritesLate s blocks after) one (subst (λ b. WritesLate middle b after) still second))
