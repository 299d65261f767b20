use Rattle.std.proofs.Common.{arith}
use Rattle.make_image.proofs.bytes.push_bytes.Goals as goal

pub returns-clause-fits : goal.returns-clause-fits
returns-clause-fits c = λ k. omega (arith, c.type_inv.more k)
