use Rattle.std.proofs.Common.{◌≡◌, ◌∙◌, ◌/◌, ◌%◌, ◌==◌, slice_index, sym, ap}
use Rattle.std.specs.Int.{bit_at}
use Rattle.std.proofs.lemmas.Nat.Bits.{shr_and_one}
use Rattle.fs_tree.proofs.MarkLemmas.{mark_at}
use Rattle.fs_tree.proofs.marks.has_bit.Goals as goal

pub returns : goal.returns
returns c =
    let words = c.args.words.now in
    let ino = c.args.ino in
    ap (λ b. b == 1) (shr_and_one (slice_index words c.from.result) (ino % 64))
    ∙ ap (λ n. bit_at (slice_index words n) (ino % 64) == 1) c.from.ensures
    ∙ sym (mark_at words ino c.ranges.ino.fits)
