use Rattle.std.proofs.Common.{◌≡◌, ℕ, rules, arith, lit<, ap, length, length-append, decimal}
use Rattle.std.proofs.lemmas.Fmt.{length-decimal-le}
use Rattle.v6_run.proofs.line.push_number.Goals as goal

pub push_digits-requires : goal.push_digits-requires
push_digits-requires c =
    let short = length-decimal-le 10 c.args.number (lit< tt) (omega arith) (omega arith) in
    let is : c.from.result ≡ c.args.number = search rules in
    let same_length = ap (λ (n : ℕ). length (decimal n)) is in
    omega (arith, short, same_length)

pub returns-clause-len : goal.returns-clause-len
returns-clause-len c =
    let short = length-decimal-le 10 c.args.number (lit< tt) (omega arith) (omega arith) in
    let is : c.from.result ≡ c.args.number = search rules in
    let same_length = ap (λ (n : ℕ). length (decimal n)) is in
    omega (arith, short, same_length, ap length c.push_digits.ensures, length-append c.args.line.now.bytes (decimal c.from.result))
