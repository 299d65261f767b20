use Rattle.std.proofs.Common.{◌≡◌, ◌∙◌, ◌/◌, ◌%◌, ◌==◌, ◌*◌, ◌^◌, true, length, set, slice_index, bit_or, w64, rules, ap, arith}
use Rattle.std.proofs.lemmas.Nat.Bits.{bit_at_set_same, bit_at_set_other}
use Rattle.fs_tree.specs.Marks.{marks_in}
use Rattle.fs_tree.proofs.MarkLemmas.{marks_with}
use Rattle.fs_tree.proofs.marks.set_bit.Goals as goal

pub returns : goal.returns
returns c =
    let words = c.args.words.now in
    let ino = c.args.ino in
    let long : length words ≡ 1024 = search rules in
    let word = slice_index words (ino / 64) in
    ap (λ n. marks_in (set words n (bit_or (slice_index words n) (1 * 2 ^ (ino % 64) % 2 ^ 64)))) c.from.ensures
    ∙ marks_with words ino (bit_or word (1 * 2 ^ (ino % 64) % 2 ^ 64)) true c.ranges.ino.fits long
    (ap (λ b. b == 1) (bit_at_set_same w64 word (ino % 64) (omega arith)))
    (λ k small other. bit_at_set_other w64 word (ino % 64) (omega arith) k other)
