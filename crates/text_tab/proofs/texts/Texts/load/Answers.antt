use Rattle.std.proofs.Common.{ap}
use Rattle.text_tab.specs.declared.row.TextRow.{TextRow}
use Rattle.text_tab.proofs.TextLemmas.{changed_there}
use Rattle.text_tab.proofs.texts.Texts.load.Goals as goal

pub invariant_of-self : goal.invariant_of-self
invariant_of-self c =
    changed_there c.self.inside.rows c.args.t c.unwrap-row.result c.loaded_at.result c.self.invariant c.unwrap-row.ensures
    (ap (λ (row : TextRow). row.ino) c.loaded_at.ensures)
