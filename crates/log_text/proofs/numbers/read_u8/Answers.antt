use Rattle.std.proofs.Common.{◌∙◌}
use Rattle.log_text.proofs.NumberLemmas.{read_number}
use Rattle.log_text.proofs.numbers.read_u8.Goals as goal

pub returns : goal.returns
returns c = c.ok.ensures.value ∙ read_number 8 c.args.word.now _ c.parse.result c.in_ok-digits.ensures c.parse.ensures.value.0
