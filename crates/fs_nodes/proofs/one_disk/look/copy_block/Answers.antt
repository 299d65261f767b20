use Rattle.fs_blocks.proofs.LateLemmas.{late_stays}
use Rattle.fs_nodes.proofs.one_disk.look.copy_block.Goals as goal

pub returns-then-b-eq0-clause-stored : goal.returns-then-b-eq0-clause-stored
returns-then-b-eq0-clause-stored c = late_stays _ _
