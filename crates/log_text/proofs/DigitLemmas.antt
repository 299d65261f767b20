-- The decimal digits of a number of at most 32 bits.
use Rattle.std.proofs.Common.{◌≡◌, ◌≤◌, ◌<◌, ◌+◌, ◌/◌, ◌%◌, ◌^◌, ℕ, List, [], ◌∷◌, ◌++◌, length, ap, sym, ◌∙◌, append_assoc, arith, length-append}
use Rattle.std.specs.Fmt.{decimal}
use Rattle.std.proofs.lemmas.Fmt.{decimal_digit, decimal_step, length-decimal-le}

pub one_digit : (n : ℕ) → n < 10 → decimal n ≡ (48 + n) ∷ []
one_digit n small = decimal_digit n small

pub last_digit : (n : ℕ) → 10 ≤ n → n < 2 ^ 32 → decimal n ≡ decimal (n / 10) ++ (48 + n % 10) ∷ []
last_digit n large below = decimal_step n large (omega arith)

pub length-last_digit : (n : ℕ) → 10 ≤ n → n < 2 ^ 32 → length (decimal n) ≡ length (decimal (n / 10)) + 1
length-last_digit n large below = simp (last_digit n large below, length-append) (omega arith)

pub ten_digits : (n : ℕ) → n < 2 ^ 32 → length (decimal n) ≤ 10
ten_digits n below = length-decimal-le 10 n (omega arith) (omega arith) (omega arith)

-- the front of the number's digits is written, and then its last digit
pub digits_more : (old new : List ℕ) (n : ℕ) → new ≡ old ++ decimal (n / 10) → 10 ≤ n → n < 2 ^ 32
    → new ++ (48 + n % 10) ∷ [] ≡ old ++ decimal n
digits_more old new n front large below =
    ap (λ x. x ++ (48 + n % 10) ∷ []) front ∙ append_assoc old (decimal (n / 10)) ((48 + n % 10) ∷ [])
    ∙ ap (λ x. old ++ x) (sym (last_digit n large below))

pub at_most_ten_more : (old new : List ℕ) (n : ℕ) → new ≡ old ++ decimal n → n < 2 ^ 32
    → length new ≤ length old + 10
at_most_ten_more old new n is below = omega (arith, simp length-append at (ap length is), ten_digits n below)
