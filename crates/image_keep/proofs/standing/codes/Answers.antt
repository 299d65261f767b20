use Rattle.image_keep.proofs.StandingState.{codes_byte}
use Rattle.image_keep.proofs.standing.codes.Goals as goal

pub returns : goal.returns
returns c = codes_byte c.args.core.now c.args.at c.requires.stated
