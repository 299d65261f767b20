use Rattle.std.proofs.Common.{refl}
use Rattle.text_tab.specs.Table.{unloaded}
use Rattle.text_tab.proofs.TextLemmas.{changed_there}
use Rattle.text_tab.proofs.texts.Texts.unload.Goals as goal

pub invariant_of-self : goal.invariant_of-self
invariant_of-self c =
    changed_there c.self.inside.rows c.args.t c.unwrap-row.result (unloaded c.unwrap-row.result) c.self.invariant c.unwrap-row.ensures refl
