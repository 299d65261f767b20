use Rattle.std.proofs.Common.{◌∙◌, length, ap, arith, lit<, length-append}
use Rattle.log_text.proofs.DigitLemmas.{one_digit, length-last_digit, digits_more}
use Rattle.log_text.proofs.writing.+add_long.Goals as goal

pub add_long-requires : goal.add_long-requires
add_long-requires t c =
    (omega arith, omega (arith, length-last_digit c.args.number c.if-number-lt10.false (omega arith)))

pub push-requires : goal.push-requires
push-requires t c = (lit< tt, omega (arith, ap length (one_digit c.args.number c.if-number-lt10.true)))

pub push-requires-else-number-lt10 : goal.push-requires-else-number-lt10
push-requires-else-number-lt10 t c =
    let front = simp length-append at (ap length c.add_long.ensures) in
    (lit< tt, omega (arith, front, length-last_digit c.args.number c.if-number-lt10.false (omega arith)))

pub returns-then-number-lt10 : goal.returns-then-number-lt10
returns-then-number-lt10 t c = rw (one_digit c.args.number c.if-number-lt10.true) c.push.ensures.items

pub returns-else-number-lt10 : goal.returns-else-number-lt10
returns-else-number-lt10 t c =
    c.push-else-number-lt10.ensures.items ∙ digits_more _ _ _ c.add_long.ensures c.if-number-lt10.false (omega arith)
