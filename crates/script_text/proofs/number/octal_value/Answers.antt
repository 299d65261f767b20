use Rattle.std.proofs.Common.{◌+◌, arith}
use Rattle.script_text.proofs.number.octal_value.Goals as goal
use Rattle.script_text.proofs.NumberLemmas.{octal_more, octal_small}

pub overflow_mul-value : goal.overflow_mul-value
overflow_mul-value c =
    let more = octal_more c.args.digits.now c.loop-digit.digit-index c.loop-digit-test.true c.requires.digits in
    let small = octal_small c.args.digits.now (c.loop-digit.digit-index + 1) c.requires.short c.requires.digits in
    omega (arith, c.loop-digit.invariant)

pub overflow_add-value : goal.overflow_add-value
overflow_add-value c =
    let more = octal_more c.args.digits.now c.loop-digit.digit-index c.loop-digit-test.true c.requires.digits in
    let small = octal_small c.args.digits.now (c.loop-digit.digit-index + 1) c.requires.short c.requires.digits in
    omega (arith, c.loop-digit.invariant)

pub loop-digit-preserved : goal.loop-digit-preserved
loop-digit-preserved c =
    let more = octal_more c.args.digits.now c.loop-digit.digit-index c.loop-digit-test.true c.requires.digits in
    omega (arith, c.loop-digit.invariant)
