use Rattle.proc_tab.proofs.TableLemmas.{are_first}
use Rattle.proc_tab.proofs.rows.Rows.new.Goals as goal

pub invariant_of-result : goal.invariant_of-result
invariant_of-result c = are_first
