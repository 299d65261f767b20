use Rattle.std.proofs.Common.{◌≤◌, length, ap, arith}
use Rattle.tty_line.specs.Terminal.{Terminal}
use Rattle.tty_line.proofs.InputLemmas.{room_key}
use Rattle.tty_line.proofs.line.Line.typed.Goals as goal

pub returns-clause-most : goal.returns-clause-most
returns-clause-most g c =
    let same = ap (λ (t : Terminal). length t.output) c.self.view_is in
    let room : length c.args.self.now.output ≤ 1008 = omega (arith, same, c.self.invariant.1) in
    let after = ap (λ (t : Terminal). length t.output) c.key-2.ensures.line in
    let few = room_key c.args.self.now c.key_of.result room in
    omega (arith, after, few)
