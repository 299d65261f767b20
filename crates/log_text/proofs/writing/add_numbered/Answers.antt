use Rattle.std.proofs.Common.{length, ap, arith, length-append}
use Rattle.log_text.proofs.DigitLemmas.{ten_digits}
use Rattle.log_text.proofs.writing.add_numbered.Goals as goal

pub add_digits-requires : goal.add_digits-requires
add_digits-requires c =
    omega (arith, simp length-append at (ap length c.add_word.ensures), ten_digits c.args.number (omega arith))

pub returns-clause-len : goal.returns-clause-len
returns-clause-len c =
    let word = simp length-append at (ap length c.add_word.ensures) in
    let digits = simp length-append at (ap length c.add_digits.ensures) in
    omega (arith, word, digits, ten_digits c.args.number (omega arith))
