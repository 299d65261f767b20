use Rattle.std.proofs.Common.{List, Option, ap, sym, subst, ◌∙◌}
use Rattle.text_tab.specs.declared.row.TextRow.{TextRow}
use Rattle.text_tab.specs.Table.{IsFree, IsFull, found}
use Rattle.text_tab.proofs.TextLemmas.{is_full, is_free, attached}
use Rattle.text_tab.proofs.texts.Texts.attach.Goals as goal

pub returns-in-None-clause-words : goal.returns-in-None-clause-words
returns-in-None-clause-words c =
    subst (λ (texts : List (Option TextRow)). IsFull texts) c.self.view_is
    (is_full c.self.inside.rows c.self.invariant (sym c.free_entry.ensures.first ∙ c.in-None.is))

pub invariant_of-self : goal.invariant_of-self
invariant_of-self c =
    attached c.self.inside.rows c.in-Some.t c.args.ino c.args.clicks c.args.block c.self.invariant
    (ap (λ (texts : List (Option TextRow)). found texts c.args.ino) c.self.view_is ∙ c.requires)

pub returns-clause-words : goal.returns-clause-words
returns-clause-words c =
    subst (λ (texts : List (Option TextRow)). IsFree texts c.in-Some.t) c.self.view_is
    (is_free c.self.inside.rows c.in-Some.t c.self.invariant (sym c.free_entry.ensures.first ∙ c.in-Some.is))
