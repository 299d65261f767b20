use Rattle.fs_nodes.proofs.ReadLemmas.{files_late}
use Rattle.fs_nodes.proofs.one_disk.nodes.DiskNodes.new_node.Goals as goal

pub returns-clause-stored : goal.returns-clause-stored
returns-clause-stored c = files_late c.self.inside.volume c.make_node.new.volume c.self.inside.table.items c.args.self.now c.self.view_is c.make_node.ensures.stored
