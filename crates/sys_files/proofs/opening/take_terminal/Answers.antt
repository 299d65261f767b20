use Rattle.std.proofs.Common.{sym, ap, ◌∙◌}
use Rattle.sys_files.specs.Opening.{with_tty}
use Rattle.sys_files.proofs.LineLemmas.{tty_taken, tty_kept}
use Rattle.sys_files.proofs.opening.take_terminal.Goals as goal

pub returns-in-None : goal.returns-in-None
returns-in-None c = λ h same. ap (with_tty c.args.row.now) (sym c.in-None.is ∙ c.line_at.ensures.line h same)

pub returns-then-row-eq0 : goal.returns-then-row-eq0
returns-then-row-eq0 c = λ h same.
    sym (tty_taken c.args.row.now c.in-Some.line c.if-row-eq0.true)
    ∙ ap (with_tty c.args.row.now) (sym c.in-Some.is ∙ c.line_at.ensures.line h same)

pub returns-else-row-eq0 : goal.returns-else-row-eq0
returns-else-row-eq0 c = λ h same.
    sym (tty_kept c.args.row.now c.in-Some.line c.if-row-eq0.false)
    ∙ ap (with_tty c.args.row.now) (sym c.in-Some.is ∙ c.line_at.ensures.line h same)
