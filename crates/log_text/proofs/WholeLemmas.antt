-- The words of numbers and channels hold no space, and are short.
use Rattle.std.proofs.Common.{◌≡◌, ◌≤◌, ◌<◌, ℕ, ℤ, pos, negsuc, suc, true, [], length, codes, refl, arith}
use Rattle.std.specs.Fmt.{decimal, signed_decimal}
use Rattle.std.proofs.lemmas.Fmt.{length-decimal-le}
use Rattle.std.proofs.lemmas.Int.{ints}
use Rattle.v6_base.specs.declared.entry.Chan.{Chan}
use Rattle.v6_base.specs.declared.entry.Chan.TheVariants.{RunIn, RunOut, Tout, Keys, Show, Wait, Read, Write, Disk, KeysOf, ShowOf}
use Rattle.v6_base.specs.LogLine.{channel}
use Rattle.pick_rules.specs.Ranges.{IsPriority}
use Rattle.log_text.specs.Held.{IsByte, IsWord, IsLong, HoldsChannel}
use Rattle.log_text.proofs.SplitLemmas.{is_whole, decimal_has_none, whole_with}

pub long_whole : (n : ℕ) → IsLong n → is_whole (decimal n) ≡ true
long_whole n range =
    let ten : length (decimal n) ≤ 10 = length-decimal-le 10 n (omega arith) (omega arith) (omega arith) in
    whole_with [] n refl (decimal_has_none n (omega arith)) (omega (arith, ten))

pub word_whole : (n : ℕ) → IsWord n → is_whole (decimal n) ≡ true
word_whole n range = long_whole n (omega arith)

pub byte_whole : (n : ℕ) → IsByte n → is_whole (decimal n) ≡ true
byte_whole n range = long_whole n (omega arith)

five : (n : ℕ) → IsWord n → length (decimal n) ≤ 5
five n range = length-decimal-le 5 n (omega arith) (omega arith) (omega arith)

pub signed_whole : (z : ℤ) → IsPriority z → is_whole (signed_decimal z) ≡ true
signed_whole (pos n) range = let below : n < 128 = omega (arith, ints) in byte_whole n (omega arith)
signed_whole (negsuc n) range =
    let below : n < 128 = omega (arith, ints) in
    let few = five (suc n) (omega arith) in
    whole_with (codes "-") (suc n) refl (decimal_has_none (suc n) (omega arith)) (omega (arith, few))

pub channel_whole : (chan : Chan) → HoldsChannel chan → is_whole (channel chan) ≡ true
channel_whole RunIn range = refl
channel_whole RunOut range = refl
channel_whole Tout range = refl
channel_whole Keys range = refl
channel_whole Show range = refl
channel_whole (Wait slot) range =
    let few = five slot (omega arith) in whole_with (codes "wait.") slot refl (decimal_has_none slot (omega arith)) (omega (arith, few))
channel_whole (Read inode) range =
    let few = five inode range in whole_with (codes "read.") inode refl (decimal_has_none inode (omega arith)) (omega (arith, few))
channel_whole (Write inode) range =
    let few = five inode range in whole_with (codes "write.") inode refl (decimal_has_none inode (omega arith)) (omega (arith, few))
channel_whole (Disk slot) range =
    let few = five slot (omega arith) in whole_with (codes "disk.") slot refl (decimal_has_none slot (omega arith)) (omega (arith, few))
channel_whole (KeysOf line) range =
    let few = five line (omega arith) in whole_with (codes "keys.") line refl (decimal_has_none line (omega arith)) (omega (arith, few))
channel_whole (ShowOf line) range =
    let few = five line (omega arith) in whole_with (codes "show.") line refl (decimal_has_none line (omega arith)) (omega (arith, few))
