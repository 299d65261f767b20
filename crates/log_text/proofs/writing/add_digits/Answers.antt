use Rattle.std.proofs.Common.{length, ap, arith, lit<}
use Rattle.log_text.proofs.DigitLemmas.{one_digit}
use Rattle.log_text.proofs.writing.add_digits.Goals as goal

pub push-requires : goal.push-requires
push-requires c = (lit< tt, omega (arith, ap length (one_digit c.args.number c.if-number-lt10.true)))

pub returns-then-number-lt10 : goal.returns-then-number-lt10
returns-then-number-lt10 c = rw (one_digit c.args.number c.if-number-lt10.true) c.push.ensures.items
