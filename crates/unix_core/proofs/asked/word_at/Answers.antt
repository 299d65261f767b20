use Rattle.std.proofs.Common.{◌∙◌}
use Rattle.image_keep.specs.Kept.{image_in}
use Rattle.abstract_unix.specs.Calls.{word_at}
use Rattle.unix_core.proofs.AskedLemmas.{word_is}
use Rattle.unix_core.proofs.asked.word_at.Goals as goal

pub returns : goal.returns
returns c held has = c.word_or.ensures ∙ word_is _ c.args.at ∙ (λ i. word_at (image_in (has i)) c.args.at)
