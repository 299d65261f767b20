use Rattle.fs_tree.proofs.NamingLemmas.{ends_referred}
use Rattle.sys_procs.proofs.tested.find_name.Goals as goal

pub returns-clause-referenced : goal.returns-clause-referenced
returns-clause-referenced g c =
    ends_referred c.args.tree.now.nodes c.find.new.self.nodes c.args.tree.now.mounts c.user_of.result c.args.u.now.dir
    c.at.result
    c.find.result c.see.ensures c.requires.mounts c.requires.directory c.find.ensures.answer c.find.ensures.inodes
