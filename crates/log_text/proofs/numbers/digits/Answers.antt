use Rattle.std.proofs.Common.{◌∙◌, sym}
use Rattle.log_text.proofs.NumberLemmas.{as_text}
use Rattle.log_text.proofs.numbers.digits.Goals as goal

pub returns-then-all_digits : goal.returns-then-all_digits
returns-then-all_digits c =
    let pass = sym c.all_digits.ensures ∙ c.if-all_digits.true in
    rw c.ok.ensures.value (as_text _ c.args.word.now c.from_utf8.result pass c.from_utf8.ensures.cases)
