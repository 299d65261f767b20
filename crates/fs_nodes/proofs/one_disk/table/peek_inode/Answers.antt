use Rattle.std.proofs.Common.{sym, ◌∙◌}
use Rattle.fs_nodes.proofs.PeekLemmas.{none_inode}
use Rattle.fs_blocks.proofs.LateLemmas.{late_stays}
use Rattle.fs_nodes.proofs.one_disk.table.peek_inode.Goals as goal

pub returns-in-None-clause-node : goal.returns-in-None-clause-node
returns-in-None-clause-node c =
    c.read_inode.ensures.node ∙ sym (none_inode c.args.volume.now.state c.args.table.now c.args.ino c.requires.held c.requires.low c.in-None.ensures.none)

pub returns-in-Some-clause-stored : goal.returns-in-Some-clause-stored
returns-in-Some-clause-stored c = late_stays _ _

pub returns-in-None-clause-stored : goal.returns-in-None-clause-stored
returns-in-None-clause-stored c = c.read_inode.ensures.stored
