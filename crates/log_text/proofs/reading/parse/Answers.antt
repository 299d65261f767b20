use Rattle.std.proofs.Common.{◌∙◌, sym, ap, Some}
use Rattle.log_text.proofs.EntryLemmas.{read_once, one_line_each, line_short, not_read, read_wrong}
use Rattle.log_text.proofs.reading.parse.Goals as goal

pub returns-in_err-found-clause-entry : goal.returns-in_err-found-clause-entry
returns-in_err-found-clause-entry c =
    rw c.from_residual.ensures (not_read c.args.bytes.now (sym c.entry.ensures ∙ c.in_err-found.was))

pub returns-in_err-found-clause-back : goal.returns-in_err-found-clause-back
returns-in_err-found-clause-back c = λ e range same.
    absurd (not_read c.args.bytes.now (sym c.entry.ensures ∙ c.in_err-found.was) e range same)

pub returns-in_err-found-clause-unique : goal.returns-in_err-found-clause-unique
returns-in_err-found-clause-unique c = one_line_each

pub returns-then-is_line-clause-back : goal.returns-then-is_line-clause-back
returns-then-is_line-clause-back c = λ e range same.
    ap Some (read_once c.args.bytes.now c.in_ok-found.found e (sym c.entry.ensures ∙ c.in_ok-found.was) range same)

pub returns-then-is_line-clause-unique : goal.returns-then-is_line-clause-unique
returns-then-is_line-clause-unique c = one_line_each

pub returns-else-is_line-clause-entry : goal.returns-else-is_line-clause-entry
returns-else-is_line-clause-entry c =
    read_wrong c.args.bytes.now c.in_ok-found.found c.is_line.result (sym c.entry.ensures ∙ c.in_ok-found.was)
    c.is_line.ensures.1 c.if-is_line.false

pub returns-else-is_line-clause-back : goal.returns-else-is_line-clause-back
returns-else-is_line-clause-back c = λ e range same.
    absurd (read_wrong c.args.bytes.now c.in_ok-found.found c.is_line.result (sym c.entry.ensures ∙ c.in_ok-found.was)
    c.is_line.ensures.1 c.if-is_line.false e range same)

pub returns-else-is_line-clause-unique : goal.returns-else-is_line-clause-unique
returns-else-is_line-clause-unique c = one_line_each

pub returns-in_err-found-clause-short : goal.returns-in_err-found-clause-short
returns-in_err-found-clause-short c = line_short

pub returns-then-is_line-clause-short : goal.returns-then-is_line-clause-short
returns-then-is_line-clause-short c = line_short

pub returns-else-is_line-clause-short : goal.returns-else-is_line-clause-short
returns-else-is_line-clause-short c = line_short
