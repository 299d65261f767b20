use Rattle.fs_nodes.proofs.NodesLemmas.{same_files}
use Rattle.fs_nodes.proofs.ReadLemmas.{files_late}
use Rattle.fs_nodes.proofs.one_disk.nodes.DiskNodes.peek.Goals as goal

pub returns-clause-same : goal.returns-clause-same
returns-clause-same c = same_files c.self.inside.volume c.peek_used.new.volume c.self.inside.table.items c.args.self.now c.self.view_is c.peek_used.ensures.same

pub returns-clause-stored : goal.returns-clause-stored
returns-clause-stored c = files_late c.self.inside.volume c.peek_used.new.volume c.self.inside.table.items c.args.self.now c.self.view_is c.peek_used.ensures.stored
