use Rattle.std.proofs.Common.{◌+◌, arith}
use Rattle.script_text.proofs.number.value_of.Goals as goal
use Rattle.script_text.proofs.NumberLemmas.{value_more, value_small}

pub overflow_mul-value : goal.overflow_mul-value
overflow_mul-value c =
    let more = value_more c.args.digits.now c.loop-digit.digit-index c.loop-digit-test.true c.requires.digits in
    let small = value_small c.args.digits.now (c.loop-digit.digit-index + 1) c.requires.short c.requires.digits in
    omega (arith, c.loop-digit.invariant)

pub overflow_add-value : goal.overflow_add-value
overflow_add-value c =
    let more = value_more c.args.digits.now c.loop-digit.digit-index c.loop-digit-test.true c.requires.digits in
    let small = value_small c.args.digits.now (c.loop-digit.digit-index + 1) c.requires.short c.requires.digits in
    omega (arith, c.loop-digit.invariant)

pub loop-digit-preserved : goal.loop-digit-preserved
loop-digit-preserved c =
    let more = value_more c.args.digits.now c.loop-digit.digit-index c.loop-digit-test.true c.requires.digits in
    omega (arith, c.loop-digit.invariant)
