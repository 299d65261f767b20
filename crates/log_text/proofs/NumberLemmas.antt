-- Decimal digits that are read as a number.
use Rattle.std.proofs.Common.{◌≡◌, ◌<◌, ◌^◌, ℕ, true, false, List, length, Some, None, Ok, Err, Result, MatchOption, MatchResult, Bor, sym, ap, ◌∙◌, subst, arith, rules}
use Rattle.std.specs.List.{list_all}
use Rattle.std.specs.Char.{is_ascii_digit}
use Rattle.std.specs.Result.{result_ok}
use Rattle.std.specs.Str.{IsUtf8}
use Rattle.std.specs.Str.Parse.{digits_value, ParsesUnsigned}
use Rattle.std.proofs.lemmas.Str.{IsUtf8-from_ascii}
use Rattle.std.proofs.lemmas.Str.Parse.{IsNumeralModel, numerals_by_value, parse_digits}
use Rattle.std.proofs.lemmas.Fmt.{IsAscii-from_digits}
use Rattle.std.proofs.lemmas.Bool.Decides.{nat_tests}
use Rattle.log_text.specs.inside.Reading.{IsDigits, number_of}

abbrev AreDigits : List ℕ → Type 0
AreDigits ds = list_all is_ascii_digit ds ≡ true

pub own : IsNumeralModel AreDigits (digits_value 10)
own = numerals_by_value AreDigits (search rules)

pub as_text : {E : Type 0} (Q : E → Type 0) (word : List ℕ) (r : Result (Bor (List ℕ)) E)
    → list_all is_ascii_digit word ≡ true
    → MatchResult r (λ text. (text.now ≡ word) × IsUtf8 word) (λ e. (IsUtf8 word → ⊥) × Q e)
    → MatchOption (result_ok r) (list_all is_ascii_digit word ≡ false) (IsDigits word)
as_text Q word (Ok text) pass read = (pass, read.0)
as_text Q word (Err e) pass read =
    absurd (read.0 (IsUtf8-from_ascii word (IsAscii-from_digits word (own.to word pass))))

is_number : (k : ℕ) (word : List ℕ) → list_all is_ascii_digit word ≡ true → 0 < length word
    → digits_value 10 word < 2 ^ k
    → number_of k word ≡ Some (digits_value 10 word)
is_number k word pass some below = rw pass (grind (arith, nat_tests))

is_none : (k : ℕ) (word : List ℕ) → list_all is_ascii_digit word ≡ true
    → ((0 < length word) × (digits_value 10 word < 2 ^ k) → ⊥)
    → None ≡ number_of k word
is_none k word pass none = rw pass (grind (arith, nat_tests))

pub read_number : {E : Type 0} (k : ℕ) (word text : List ℕ) (r : Result ℕ E)
    → (list_all is_ascii_digit word ≡ true) × (text ≡ word)
    → ParsesUnsigned k 10 text r → result_ok r ≡ number_of k word
read_number {E} k word text (Ok n) pass parses =
    let whole = subst (λ w. ParsesUnsigned {E = E} k 10 w (Ok n)) pass.1 parses in
    let read = parse_digits own {E = E} k word (Ok n) whole pass.0 in
    ap Some read.1 ∙ sym (is_number k word pass.0 read.0.0 read.0.1)
read_number {E} k word text (Err e) pass parses =
    let whole = subst (λ w. ParsesUnsigned {E = E} k 10 w (Err e)) pass.1 parses in
    is_none k word pass.0 (parse_digits own k word (Err e) whole pass.0)

pub number_is : (k : ℕ) (word : List ℕ) (n : ℕ) → list_all is_ascii_digit word ≡ true → 0 < length word
    → digits_value 10 word ≡ n → n < 2 ^ k
    → number_of k word ≡ Some n
number_is k word n pass some value below =
    is_number k word pass some (subst (λ m. m < 2 ^ k) (sym value) below) ∙ ap Some value
