use Rattle.std.proofs.Common.{arith, lit<, ap, length, length-append, decimal}
use Rattle.std.proofs.lemmas.Fmt.{length-decimal-le}
use Rattle.v6_run.proofs.line.push_long.Goals as goal

pub push_digits-requires : goal.push_digits-requires
push_digits-requires c =
    let short = length-decimal-le 20 c.args.number (lit< tt) (omega arith) (omega arith) in
    omega arith

pub returns-clause-len : goal.returns-clause-len
returns-clause-len c =
    let short = length-decimal-le 20 c.args.number (lit< tt) (omega arith) (omega arith) in
    omega (arith, ap length c.push_digits.ensures, length-append c.args.line.now.bytes (decimal c.args.number))
