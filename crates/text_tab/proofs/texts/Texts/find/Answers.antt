use Rattle.std.proofs.Common.{Some, sym, ◌∙◌}
use Rattle.text_tab.proofs.TextLemmas.{finds_by}
use Rattle.text_tab.proofs.texts.Texts.find.Goals as goal

pub returns-in_err-t-clause-words : goal.returns-in_err-t-clause-words
returns-in_err-t-clause-words c =
    finds_by c.args.self.now c.self.inside.rows c.args.ino c.from_residual.result c.self.view_is c.self.invariant
    (c.from_residual.ensures ∙ (sym c.in_err-t.was ∙ c.found.ensures.text))

pub returns-clause-words : goal.returns-clause-words
returns-clause-words c =
    finds_by c.args.self.now c.self.inside.rows c.args.ino (Some c.in_ok-t.t) c.self.view_is c.self.invariant
    (sym c.in_ok-t.was ∙ c.found.ensures.text)
