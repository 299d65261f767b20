use Rattle.fs_nodes.proofs.OtherDisk.{moved_there}
use Rattle.fs_tree.proofs.tree.Tree.enter.Goals as goal

pub returns-clause-other : goal.returns-clause-other
returns-clause-other c =
    moved_there c.args.self.now.nodes.store c.write_kernel.new.self.store c.args.dir _ _
    (c.see.ensures.used c.args.dir c.requires.referenced) (λ node is. (c.write_kernel.ensures.moved node is).store)
