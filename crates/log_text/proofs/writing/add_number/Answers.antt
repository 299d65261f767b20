use Rattle.std.proofs.Common.{arith}
use Rattle.log_text.proofs.DigitLemmas.{ten_digits, at_most_ten_more}
use Rattle.log_text.proofs.writing.add_number.Goals as goal

pub add_digits-requires : goal.add_digits-requires
add_digits-requires c = omega (arith, ten_digits c.args.number (omega arith))

pub returns-clause-len : goal.returns-clause-len
returns-clause-len c = omega (arith, at_most_ten_more _ _ _ c.add_digits.ensures (omega arith))
