-- Decimal and octal digits, and the number that they write.
use Rattle.std.proofs.Common.{◌≡◌, ◌≤◌, ◌<◌, ◌+◌, ◌*◌, ◌-◌, ◌^◌, ◌==◌, ◌&&◌, nat_le, ℕ, true, List, [], ◌∷◌, length, take, get_or, arith}
use Rattle.std.proofs.lemmas.Grind.{common_steps}
use Rattle.std.proofs.lemmas.Int.Digits.{digits_value-lt, digits_value_more}
use Rattle.std.proofs.lemmas.Str.Parse.{digits_value-take-le, digit_at}
use Rattle.std.proofs.lemmas.Str.{digit_value_digit}
use Rattle.std.proofs.Math.Nat.{pow-le-pow_right}
use Rattle.std.specs.List.{list_all}
use Rattle.std.specs.Char.{is_ascii_digit, digit_value}
use Rattle.std.specs.Str.Parse.{digits_value, AllDigits}
use Rattle.std.proofs.lemmas.Bool.Decides.{nat_tests}
use Rattle.script_text.specs.Number.{is_number, is_octal_digit}

digit_of : (d : ℕ) → is_ascii_digit d ≡ true → digit_value d < 10
digit_of d pass = grind (arith, common_steps)

first_passes : (d : ℕ) (ds : List ℕ) → list_all is_ascii_digit (d ∷ ds) ≡ true → is_ascii_digit d ≡ true
first_passes d ds pass = grind (arith, common_steps)

rest_passes : (d : ℕ) (ds : List ℕ) → list_all is_ascii_digit (d ∷ ds) ≡ true → list_all is_ascii_digit ds ≡ true
rest_passes d ds pass = grind (arith, common_steps)

all_digits : (ds : List ℕ) → list_all is_ascii_digit ds ≡ true → AllDigits 10 ds
all_digits [] pass = tt
all_digits (d ∷ ds) pass = (digit_of d (first_passes d ds pass), all_digits ds (rest_passes d ds pass))

-- one digit more
pub value_more : (ds : List ℕ) (i : ℕ) → i < length ds → list_all is_ascii_digit ds ≡ true
    → digits_value 10 (take (i + 1) ds) ≡ digits_value 10 (take i ds) * 10 + (get_or ds i 0 - 48)
value_more ds i inside pass =
    let digit = digit_at ds i (all_digits ds pass) inside in
    let value = digit_value_digit (get_or ds i 0) digit in
    let more = digits_value_more 10 ds i inside in
    omega arith

-- each front of at most nine digits is a small number
pub value_small : (ds : List ℕ) (i : ℕ) → length ds ≤ 9 → list_all is_ascii_digit ds ≡ true
    → digits_value 10 (take i ds) < 1000000000
value_small ds i short pass =
    let whole = digits_value-lt 10 ds (all_digits ds pass) in
    let front = digits_value-take-le 10 ds i (omega arith) in
    let power : 10 ^ length ds ≤ 10 ^ 9 = pow-le-pow_right (omega arith) short in
    omega arith

octal_digit : (d : ℕ) → is_octal_digit d ≡ true → digit_value d < 8
octal_digit d pass = grind (arith, common_steps)

first_octal : (d : ℕ) (ds : List ℕ) → list_all is_octal_digit (d ∷ ds) ≡ true → is_octal_digit d ≡ true
first_octal d ds pass = grind (arith, common_steps)

rest_octal : (d : ℕ) (ds : List ℕ) → list_all is_octal_digit (d ∷ ds) ≡ true → list_all is_octal_digit ds ≡ true
rest_octal d ds pass = grind (arith, common_steps)

all_octal : (ds : List ℕ) → list_all is_octal_digit ds ≡ true → AllDigits 8 ds
all_octal [] pass = tt
all_octal (d ∷ ds) pass = (octal_digit d (first_octal d ds pass), all_octal ds (rest_octal d ds pass))

-- they are decimal digits too
as_decimal : (ds : List ℕ) → AllDigits 8 ds → AllDigits 10 ds
as_decimal [] pass = tt
as_decimal (d ∷ ds) pass = (let below : digit_value d < 10 = omega (arith, pass.0) in below, as_decimal ds pass.1)

-- one octal digit more
pub octal_more : (ds : List ℕ) (i : ℕ) → i < length ds → list_all is_octal_digit ds ≡ true
    → digits_value 8 (take (i + 1) ds) ≡ digits_value 8 (take i ds) * 8 + (get_or ds i 0 - 48)
octal_more ds i inside pass =
    let digit = digit_at ds i (as_decimal ds (all_octal ds pass)) inside in
    let value = digit_value_digit (get_or ds i 0) digit in
    let more = digits_value_more 8 ds i inside in
    omega arith

-- each front of at most six octal digits is a small number
pub octal_small : (ds : List ℕ) (i : ℕ) → length ds ≤ 6 → list_all is_octal_digit ds ≡ true
    → digits_value 8 (take i ds) < 262144
octal_small ds i short pass =
    let whole = digits_value-lt 8 ds (all_octal ds pass) in
    let front = digits_value-take-le 8 ds i (omega arith) in
    let power : 8 ^ length ds ≤ 8 ^ 6 = pow-le-pow_right (omega arith) short in
    omega arith

-- a number of one to nine digits
pub number_small : (text : List ℕ) → is_number text ≡ true → digits_value 10 text < 1000000000
number_small text is =
    let short : length text ≤ 9 = grind (arith, nat_tests) in
    let pass : list_all is_ascii_digit text ≡ true = grind (arith, nat_tests) in
    let whole = digits_value-lt 10 text (all_digits text pass) in
    let power : 10 ^ length text ≤ 10 ^ 9 = pow-le-pow_right (omega arith) short in
    omega arith

-- a digit of at most 7
pub digit_small : (text : List ℕ) → ((length text == 1) && list_all is_octal_digit text && nat_le (digits_value 8 text) 7) ≡ true → digits_value 8 text < 8
digit_small text is = let few : digits_value 8 text ≤ 7 = grind (arith, nat_tests) in omega (arith, few)
