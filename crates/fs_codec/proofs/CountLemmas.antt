-- How often a number comes in a list.
use Rattle.std.proofs.Common.{◌≡◌, ◌+◌, ◌||◌, ℕ, Bool, true, false, cond, List, [], ◌∷◌, ◌++◌, nat_eq, nat_lt, refl, sym, ap, ◌∙◌, zero-add, arith}
use Rattle.std.proofs.lemmas.Bool.{lt-ltb}
use Rattle.std.proofs.lemmas.List.Sums.{sum_by-cons, sum_by-append}
use Rattle.std.specs.List.{count_by, list_any}

pub count-cons : (b x : ℕ) (xs : List ℕ) → count_by (nat_eq b) (x ∷ xs) ≡ cond (nat_eq b x) 1 0 + count_by (nat_eq b) xs
count-cons b x xs = sum_by-cons (λ y. cond (nat_eq b y) 1 0) x xs

pub count-append : (b : ℕ) (xs ys : List ℕ) → count_by (nat_eq b) (xs ++ ys) ≡ count_by (nat_eq b) xs + count_by (nat_eq b) ys
count-append b xs ys = sum_by-append (λ y. cond (nat_eq b y) 1 0) xs ys

any_step : (t a : Bool) (n : ℕ) → a ≡ nat_lt 0 n → (t || a) ≡ nat_lt 0 (cond t 1 0 + n)
any_step true a n h = sym (lt-ltb 0 (1 + n) (omega arith))
any_step false a n h = h ∙ ap (nat_lt 0) (sym (zero-add n))

-- what is met is counted
pub any_count : (b : ℕ) (xs : List ℕ) → list_any (nat_eq b) xs ≡ nat_lt 0 (count_by (nat_eq b) xs)
any_count b [] = refl
any_count b (x ∷ xs) = any_step (nat_eq b x) (list_any (nat_eq b) xs) (count_by (nat_eq b) xs) (any_count b xs) ∙ ap (nat_lt 0) (sym (count-cons b x xs))
