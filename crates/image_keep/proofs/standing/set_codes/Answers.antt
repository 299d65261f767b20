-- Codes that are written leave all else.
use Rattle.std.proofs.Common.{◌+◌, slice_set, refl}
use Rattle.image_keep.proofs.StandingState.{codes_rest}
use Rattle.image_keep.proofs.standing.set_codes.Goals as goal

pub returns-clause-rest : goal.returns-clause-rest
returns-clause-rest c = λ k m off. codes_rest c.args.core.now (slice_set c.args.core.now (c.args.at + 16) c.args.cc) c.args.at c.args.cc k m refl off
