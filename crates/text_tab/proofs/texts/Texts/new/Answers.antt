use Rattle.text_tab.proofs.TextLemmas.{are_none}
use Rattle.text_tab.proofs.texts.Texts.new.Goals as goal

pub invariant_of-result : goal.invariant_of-result
invariant_of-result c = are_none
