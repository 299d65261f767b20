use Rattle.std.proofs.Common.{◌∙◌}
use Rattle.image_keep.specs.Kept.{image_in}
use Rattle.abstract_unix.specs.Calls.{arguments_at}
use Rattle.unix_core.proofs.AskedLemmas.{words_are}
use Rattle.unix_core.proofs.asked.arguments_at.Goals as goal

pub returns : goal.returns
returns c held has = c.words_or.ensures ∙ words_are _ c.args.at ∙ (λ i. arguments_at (image_in (has i)) c.args.at)
