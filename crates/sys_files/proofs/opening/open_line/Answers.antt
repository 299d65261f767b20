use Rattle.std.proofs.Common.{List, sym, ap, ◌∙◌}
use Rattle.tty_line.specs.Terminal as terminal
use Rattle.tty_line.specs.Terminal.{Terminal}
use Rattle.lines_eight.specs.Lines.{terminal_at, with_terminal}
use Rattle.sys_files.specs.Opening.{lines_opened}
use Rattle.sys_files.proofs.opening.open_line.Goals as goal

pub returns-in-Some : goal.returns-in-Some
returns-in-Some c = λ h same.
    c.opened.ensures ∙ ap (λ (ts : List Terminal). with_terminal ts c.in-Some.line (terminal.opened (terminal_at ts c.in-Some.line))) (sym same)
    ∙ ap (lines_opened h) (sym c.in-Some.is ∙ c.line_at.ensures.line h same)

pub returns-in-None : goal.returns-in-None
returns-in-None c = λ h same. sym same ∙ ap (lines_opened h) (sym c.in-None.is ∙ c.line_at.ensures.line h same)
