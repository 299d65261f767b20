use Rattle.fs_nodes.proofs.ReadLemmas.{files_late}
use Rattle.fs_nodes.proofs.one_disk.nodes.DiskNodes.draw.Goals as goal

pub returns-clause-stored : goal.returns-clause-stored
returns-clause-stored c = files_late c.self.inside.volume c.draw_inode.new.volume c.self.inside.table.items c.args.self.now c.self.view_is c.draw_inode.ensures.stored
