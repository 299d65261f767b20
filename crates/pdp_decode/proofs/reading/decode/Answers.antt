-- A word is of one instruction alone.
use Rattle.std.proofs.Common.{sym, ◌∙◌}
use Rattle.pdp_decode.proofs.Alone.{word_alone}
use Rattle.pdp_decode.proofs.reading.decode.Goals as goal

pub returns-clause-only : goal.returns-clause-only
returns-clause-only c = λ i is. word_alone i c.args.word is ∙ sym c.read.ensures.value
