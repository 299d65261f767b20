-- A list made from numbers, in two parts.
use Rattle.std.proofs.Common.{◌≡◌, ◌+◌, ℕ, zero, suc, List, ◌++◌, sym, ap, ◌∙◌, append_assoc, arith}
use Rattle.std.specs.List.{flat_map, range_with_len}

-- a list made from numbers is made of that from the first n of them and that from the others
pub flat_split : {X : Type 0} (f : ℕ → List X) (a n m : ℕ) → flat_map f (range_with_len a (n + m)) ≡ flat_map f (range_with_len a n) ++ flat_map f (range_with_len (a + n) m)
flat_split f a zero m =
    let none : zero + m ≡ m = omega arith in
    let first : a ≡ a + zero = omega arith in
    ap (λ k. flat_map f (range_with_len a k)) none ∙ ap (λ b. flat_map f (range_with_len b m)) first
flat_split f a (suc n) m =
    let next : suc n + m ≡ suc (n + m) = omega arith in
    let from : a + 1 + n ≡ a + suc n = omega arith in
    ap (λ k. flat_map f (range_with_len a k)) next ∙ ap (λ l. f a ++ l) (flat_split f (a + 1) n m)
    ∙ sym (append_assoc (f a) (flat_map f (range_with_len (a + 1) n)) (flat_map f (range_with_len (a + 1 + n) m)))
    ∙ ap (λ b. (f a ++ flat_map f (range_with_len (a + 1) n)) ++ flat_map f (range_with_len b m)) from
