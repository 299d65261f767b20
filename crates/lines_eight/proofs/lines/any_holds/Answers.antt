use Rattle.std.proofs.Common.{◌||◌, List, sym, ap, ◌∙◌, arith, get_or}
use Rattle.std.specs.List.{list_any}
use Rattle.std.proofs.lemmas.List.{take_all}
use Rattle.std.proofs.lemmas.List.Folds.{list_any_more}
use Rattle.tty_line.specs.Terminal.{Terminal}
use Rattle.tty_line.specs.Said.{holds}
use Rattle.lines_eight.proofs.lines.any_holds.Goals as goal

pub loop-l-preserved : goal.loop-l-preserved
loop-l-preserved c =
    let lines : List Terminal = c.args.lines.now in
    let this : Terminal = c.index-lines-l.result in
    list_any_more holds lines c.loop-l.l this (omega (arith, c.loop-l-test.true))
    ∙ ap (λ b. b || holds (get_or lines c.loop-l.l this)) c.loop-l.invariant
    ∙ ap holds (sym c.index-lines-l.is) ∙ sym c.holds.ensures ∙ c.if-holds.false

pub returns : goal.returns
returns c =
    let lines : List Terminal = c.args.lines.now in
    sym c.loop-l.invariant ∙ ap (list_any holds) (take_all c.loop-l.l lines (omega (arith, c.loop-l-test.false)))
