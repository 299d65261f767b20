use Rattle.std.proofs.Common.{◌≡◌, ◌∙◌, ◌/◌, ◌%◌, ◌==◌, ◌*◌, ◌^◌, false, length, set, slice_index, bit_and, w64, rules, ap, arith}
use Rattle.std.specs.Int.{bit_not}
use Rattle.std.proofs.lemmas.Nat.Bits.{bit_at_clear_same, bit_at_clear_other}
use Rattle.fs_tree.specs.Marks.{marks_in}
use Rattle.fs_tree.proofs.MarkLemmas.{marks_with}
use Rattle.fs_tree.proofs.marks.clear_bit.Goals as goal

pub returns : goal.returns
returns c =
    let words = c.args.words.now in
    let ino = c.args.ino in
    let long : length words ≡ 1024 = search rules in
    let word = slice_index words (ino / 64) in
    ap (λ n. marks_in (set words n (bit_and (slice_index words n) (bit_not w64 (1 * 2 ^ (ino % 64) % 2 ^ 64))))) c.from.ensures
    ∙ marks_with words ino (bit_and word (bit_not w64 (1 * 2 ^ (ino % 64) % 2 ^ 64))) false c.ranges.ino.fits long
    (ap (λ b. b == 1) (bit_at_clear_same w64 word (ino % 64) (omega arith)))
    (λ k small other. bit_at_clear_other w64 word (ino % 64) (omega arith) k small other)
