use Rattle.std.proofs.Common.{◌∙◌}
use Rattle.image_keep.proofs.StandingState.{register_nth}
use Rattle.image_keep.proofs.standing.reg.Goals as goal

pub returns : goal.returns
returns c = c.word_in.ensures ∙ register_nth c.args.core.now c.args.at c.args.n c.requires.number
