use Rattle.fs_tree.specs.Finding.{inodes_of}
use Rattle.fs_tree.proofs.OtherDisk.{back_there}
use Rattle.fs_tree.proofs.tree.Tree.unmark_text.Goals as goal

pub returns-clause-other : goal.returns-clause-other
returns-clause-other c =
    back_there (inodes_of c.args.self.now.nodes) (inodes_of c.let_go.new.nodes) c.args.ino c.let_go.ensures.inodes
