use Rattle.std.proofs.Common.{arith}
use Rattle.log_text.proofs.DigitLemmas.{ten_digits, at_most_ten_more}
use Rattle.log_text.proofs.writing.add_signed.Goals as goal

pub add_digits-requires : goal.add_digits-requires
add_digits-requires c = omega (arith, ten_digits c.from-magnitude.result (omega arith))

pub returns-then-number-lt0-clause-len : goal.returns-then-number-lt0-clause-len
returns-then-number-lt0-clause-len c = omega (arith, at_most_ten_more _ _ _ c.add_digits.ensures (omega arith))
