-- A rule for each of the first slots, and for one more.
use Rattle.std.proofs.Common.{◌≡◌, ◌∙◌, ℕ, zero, suc, ◌+◌, fold, sym, ap, arith}
use Rattle.std.specs.List.{range_with_len}

fold_suc : {A : Type 0} (rule : A → ℕ → A) (n from : ℕ) (a : A) → fold rule a (range_with_len from (suc n)) ≡ rule (fold rule a (range_with_len from n)) (from + n)
fold_suc rule zero from a = let e : from ≡ from + 0 = omega arith in ap (rule a) e
fold_suc rule (suc n) from a =
    let e : from + 1 + n ≡ from + suc n = omega arith in
    fold_suc rule n (from + 1) (rule a from) ∙ ap (rule (fold rule (rule a from) (range_with_len (from + 1) n))) e

pub fold_next : {A : Type 0} (rule : A → ℕ → A) (a b c : A) (n : ℕ) → b ≡ fold rule a (range_with_len 0 n) → c ≡ rule b n → c ≡ fold rule a (range_with_len 0 (n + 1))
fold_next rule a b c n e f =
    let g : n + 1 ≡ suc n = omega arith in
    let h : 0 + n ≡ n = omega arith in
    f ∙ ap (λ x. rule x n) e ∙ ap (rule (fold rule a (range_with_len 0 n))) (sym h) ∙ sym (fold_suc rule n 0 a) ∙ ap (λ k. fold rule a (range_with_len 0 k)) (sym g)
