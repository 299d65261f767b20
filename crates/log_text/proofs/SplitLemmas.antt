-- Words that were joined by spaces, and hold none, come apart again; a few short ones are short together.
use Rattle.std.proofs.Common.{◌≡◌, ◌≤◌, ◌<◌, ◌+◌, ◌*◌, ◌^◌, ℕ, Bool, true, false, not, ◌&&◌, List, [], ◌∷◌, ◌++◌, length, nat_le, eqb, refl, ap, ◌∙◌, arith, length-append}
use Rattle.std.proofs.lemmas.Bool.{leb-true, le-leb, and_from}
use Rattle.std.specs.List.{All, list_all}
use Rattle.std.specs.Fmt.{decimal}
use Rattle.std.specs.Str.Parse.{AllDigits}
use Rattle.std.specs.Char.{digit_value}
use Rattle.std.proofs.lemmas.Bool.Decides.{nat_tests}
use Rattle.std.proofs.lemmas.Fmt.{decimal_is_IsNumeral}
use Rattle.std.proofs.lemmas.List.Splits.{slice_split_at, slice_split_none}
use Rattle.std.proofs.lemmas.List.Sums.{AllPass-from_list_all}
use Rattle.std.proofs.lemmas.Str.Parse.{digit_from_value}
use Rattle.v6_base.specs.LogLine.{spaced}
use Rattle.log_text.specs.inside.Reading.{words_of}

abbrev is_space : ℕ → Bool
is_space byte = eqb byte 32

abbrev has_none : List ℕ → Bool
has_none word = list_all (λ byte. not (is_space byte)) word

-- a word without a space, of twelve bytes at most
abbrev pub is_whole : List ℕ → Bool
is_whole word = has_none word && nat_le (length word) 12

-- from one word to six
abbrev pub are_words : List (List ℕ) → Bool
are_words [] = false
are_words (word ∷ words) = nat_le (length words) 5 && (is_whole word && list_all is_whole words)

both : (a b : Bool) → (a && b) ≡ true → (a ≡ true) × (b ≡ true)
both true b pass = (refl, pass)
both false b pass = cc

not_true : (a : Bool) → not a ≡ true → a ≡ false
not_true true pass = cc
not_true false pass = refl

no_space : (word : List ℕ) → is_whole word ≡ true → All (λ byte. is_space byte ≡ false) word
no_space word pass = λ k d inside.
    not_true _ (AllPass-from_list_all (λ byte. not (is_space byte)) word (both (has_none word) _ pass).0 k d inside)

comes_apart : (word : List ℕ) (words : List (List ℕ))
    → is_whole word ≡ true → list_all is_whole words ≡ true
    → words_of (spaced (word ∷ words)) ≡ word ∷ words
comes_apart word [] here there = slice_split_none is_space word (no_space word here)
comes_apart word (next ∷ words) here there =
    let parts = both (is_whole next) (list_all is_whole words) there in
    slice_split_at is_space word 32 (spaced (next ∷ words)) (no_space word here) refl
    ∙ ap (λ rest. word ∷ rest) (comes_apart next words parts.0 parts.1)

pub come_apart : (words : List (List ℕ)) → are_words words ≡ true → words_of (spaced words) ≡ words
come_apart [] pass = cc
come_apart (word ∷ words) pass =
    let parts = both (is_whole word) (list_all is_whole words) (both (nat_le (length words) 5) _ pass).1 in
    comes_apart word words parts.0 parts.1

of_twelve : (word : List ℕ) → is_whole word ≡ true → length word ≤ 12
of_twelve word pass = leb-true (length word) 12 (both (has_none word) _ pass).1

thirteen_each : (word : List ℕ) (words : List (List ℕ))
    → is_whole word ≡ true → list_all is_whole words ≡ true
    → length (spaced (word ∷ words)) ≤ 12 + 13 * length words
thirteen_each word [] here there = let few = of_twelve word here in omega (arith, few)
thirteen_each word (next ∷ words) here there =
    let few = of_twelve word here in
    let parts = both (is_whole next) (list_all is_whole words) there in
    let more = thirteen_each next words parts.0 parts.1 in
    let whole = length-append word (32 ∷ spaced (next ∷ words)) in
    omega (arith, few, more, whole)

-- six such words make a line of 77 bytes at most
pub are_short : (words : List (List ℕ)) → are_words words ≡ true → length (spaced words) ≤ 80
are_short [] pass = cc
are_short (word ∷ words) pass =
    let parts = both (nat_le (length words) 5) _ pass in
    let each = both (is_whole word) (list_all is_whole words) parts.1 in
    let few = leb-true (length words) 5 parts.0 in
    let more = thirteen_each word words each.0 each.1 in
    omega (arith, few, more)

digit_no_space : (digit : ℕ) → digit_value digit < 10 → is_space digit ≡ false
digit_no_space digit is = let range = digit_from_value digit is in grind (arith, nat_tests)

digits_have_none : (digits : List ℕ) → AllDigits 10 digits → has_none digits ≡ true
digits_have_none [] pass = refl
digits_have_none (digit ∷ digits) pass = rw (digit_no_space digit pass.0) (digits_have_none digits pass.1)

pub decimal_has_none : (n : ℕ) → n < 2 ^ 64 → has_none (decimal n) ≡ true
decimal_has_none n below = digits_have_none (decimal n) (decimal_is_IsNumeral n below).0.1

-- a word of a front without a space and a number
pub whole_with : (front : List ℕ) (n : ℕ) → has_none front ≡ true → has_none (decimal n) ≡ true → length front + length (decimal n) ≤ 12
    → is_whole (front ++ decimal n) ≡ true
whole_with front n here there few =
    and_from (has_none (front ++ decimal n)) (nat_le (length (front ++ decimal n)) 12) (joined front here)
    (le-leb _ 12 (let whole = length-append front (decimal n) in omega (arith, few, whole)))
  where
    joined : (xs : List ℕ) → has_none xs ≡ true → has_none (xs ++ decimal n) ≡ true
    joined [] pass = there
    joined (x ∷ xs) pass =
        let parts = both (not (is_space x)) (has_none xs) pass in
        and_from (not (is_space x)) (has_none (xs ++ decimal n)) parts.0 (joined xs parts.1)
