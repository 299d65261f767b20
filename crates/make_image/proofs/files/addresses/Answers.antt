use Rattle.std.proofs.Common.{arith}
use Rattle.make_image.proofs.FilesLemmas.{addresses_padded}
use Rattle.make_image.proofs.files.addresses.Goals as goal

pub returns : goal.returns
returns c = addresses_padded c.loop-i.addresses c.args.first c.args.blocks 8 c.loop-i.invariant.long c.requires.few (λ k h. c.loop-i.invariant.each k (omega arith)) (λ k h. c.loop-i.invariant.rest k (omega arith))
