use Rattle.open_files.proofs.FilesLemmas.{named_none}
use Rattle.open_files.proofs.table.OpenTable.new.Goals as goal

pub invariant_of-result : goal.invariant_of-result
invariant_of-result c = named_none 100
