use Rattle.std.proofs.Common.{refl}
use Rattle.text_tab.specs.Table.{joined}
use Rattle.text_tab.proofs.TextLemmas.{changed_there}
use Rattle.text_tab.proofs.texts.Texts.join.Goals as goal

pub invariant_of-self : goal.invariant_of-self
invariant_of-self c =
    changed_there c.self.inside.rows c.args.t c.unwrap-row.result (joined c.unwrap-row.result) c.self.invariant c.unwrap-row.ensures refl
