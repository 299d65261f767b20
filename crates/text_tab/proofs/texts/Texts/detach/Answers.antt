use Rattle.std.proofs.Common.{Option, slice_set, subst, sym}
use Rattle.text_tab.specs.declared.row.TextRow.{TextRow}
use Rattle.text_tab.specs.Table.{AreTexts}
use Rattle.text_tab.proofs.TextLemmas.{remains}
use Rattle.text_tab.proofs.texts.Texts.detach.Goals as goal

pub invariant_of-self : goal.invariant_of-self
invariant_of-self c =
    subst (λ (o : Option TextRow). AreTexts (slice_set c.self.inside.rows c.args.t o)) (sym c.remaining.ensures)
    (remains c.self.inside.rows c.args.t c.unwrap-row.result c.left-left.result c.self.invariant c.unwrap-row.ensures)
