-- Numbers and channels that a field holds are read back from their words.
use Rattle.std.proofs.Common.{◌≡◌, ◌<◌, ◌^◌, ℕ, ℤ, pos, negsuc, suc, true, false, Some, leb, refl, ◌∙◌, ap, arith}
use Rattle.std.specs.Fmt.{decimal, signed_decimal}
use Rattle.std.specs.Option.{option_map, option_and_then}
use Rattle.std.specs.Str.Parse.{starts_with_minus}
use Rattle.std.proofs.lemmas.Bool.Decides.{nat_tests}
use Rattle.std.proofs.lemmas.Int.{ints}
use Rattle.std.proofs.lemmas.Fmt.{decimal_is_IsNumeral}
use Rattle.std.proofs.lemmas.Str.Parse.{not_in_digits}
use Rattle.v6_base.specs.declared.entry.Chan.{Chan}
use Rattle.v6_base.specs.declared.entry.Chan.TheVariants.{RunIn, RunOut, Tout, Keys, Show, Wait, Read, Write, Disk, KeysOf, ShowOf}
use Rattle.v6_base.specs.LogLine.{channel}
use Rattle.pick_rules.specs.Ranges.{IsPriority}
use Rattle.log_text.specs.Held.{IsByte, IsWord, IsLong, HoldsChannel}
use Rattle.log_text.specs.inside.Reading.{number_of, signed_of, negated, not_negated, channel_of}
use Rattle.log_text.proofs.NumberLemmas.{own, number_is}

number_back : (bits n : ℕ) → n < 2 ^ bits → n < 2 ^ 64 → number_of bits (decimal n) ≡ Some n
number_back bits n fits below =
    let numeral = decimal_is_IsNumeral n below in
    number_is bits (decimal n) n (own.from (decimal n) numeral.0.1) numeral.0.0 numeral.1 fits

no_minus : (n : ℕ) → n < 2 ^ 64 → starts_with_minus (decimal n) ≡ false
no_minus n below =
    let numeral = decimal_is_IsNumeral n below in
    let digits = own.from (decimal n) numeral.0.1 in
    let other = not_in_digits own (decimal n) 45 digits (λ range. omega arith) 0 numeral.0.0 in
    grind (arith, nat_tests)

pub byte_back : (n : ℕ) → IsByte n → number_of 8 (decimal n) ≡ Some n
byte_back n range = number_back 8 n (omega arith) (omega arith)

pub word_back : (n : ℕ) → IsWord n → number_of 16 (decimal n) ≡ Some n
word_back n range = number_back 16 n (omega arith) (omega arith)

pub long_back : (n : ℕ) → IsLong n → number_of 32 (decimal n) ≡ Some n
long_back n range = number_back 32 n (omega arith) (omega arith)

not_negated_is : (n : ℕ) → n < 128 → not_negated n ≡ Some (pos n)
not_negated_is n below = grind (arith, nat_tests)

negated_is : (n : ℕ) → n < 128 → negated (suc n) ≡ Some (negsuc n)
negated_is n below = let test : leb (suc n) 128 ≡ true = grind (arith, nat_tests) in rw test refl

pub signed_back : (z : ℤ) → IsPriority z → signed_of (signed_decimal z) ≡ Some z
signed_back (pos n) range =
    let below : n < 128 = omega (arith, ints) in
    let number = number_back 8 n (omega arith) (omega arith) in
    rw (no_minus n (omega arith)) (ap (option_and_then not_negated) number ∙ not_negated_is n below)
signed_back (negsuc n) range =
    let below : n < 128 = omega (arith, ints) in
    ap (option_and_then negated) (number_back 8 (suc n) (omega arith) (omega arith)) ∙ negated_is n below

pub channel_back : (chan : Chan) → HoldsChannel chan → channel_of (channel chan) ≡ Some chan
channel_back RunIn range = refl
channel_back RunOut range = refl
channel_back Tout range = refl
channel_back Keys range = refl
channel_back Show range = refl
channel_back (Wait slot) range = ap (option_map Wait) (byte_back slot range)
channel_back (Read inode) range = ap (option_map Read) (word_back inode range)
channel_back (Write inode) range = ap (option_map Write) (word_back inode range)
channel_back (Disk slot) range = ap (option_map Disk) (byte_back slot range)
channel_back (KeysOf line) range = ap (option_map KeysOf) (byte_back line range)
channel_back (ShowOf line) range = ap (option_map ShowOf) (byte_back line range)
