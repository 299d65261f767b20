use Rattle.sys_files.proofs.RemovingLemmas.{removed_takes, removed_has, removed_none}
use Rattle.sys_files.proofs.entering.find_to_remove.Goals as goal

pub returns-clause-entry : goal.returns-clause-entry
returns-clause-entry g c =
    removed_has c.args.tree.now.nodes c.find_to_remove.new.self.nodes c.args.tree.now.mounts c.requires.mounts
    c.args.tree.now.marks c.user_of.result c.args.u.now.dir c.at.result
    c.find_to_remove.result c.see.ensures c.requires.directory c.find_to_remove.ensures.answer
    c.find_to_remove.ensures.inodes c.find_to_remove.ensures.rest

pub returns-clause-found : goal.returns-clause-found
returns-clause-found g c =
    removed_takes c.args.tree.now.nodes c.find_to_remove.new.self.nodes c.args.tree.now.mounts c.requires.mounts
    c.args.tree.now.marks c.user_of.result c.args.u.now.dir c.at.result
    c.find_to_remove.result c.see.ensures c.requires.directory c.find_to_remove.ensures.answer
    c.find_to_remove.ensures.inodes c.find_to_remove.ensures.rest

pub returns-clause-none : goal.returns-clause-none
returns-clause-none g c =
    removed_none c.args.tree.now.nodes c.find_to_remove.new.self.nodes c.args.tree.now.mounts c.requires.mounts
    c.args.tree.now.marks c.user_of.result c.args.u.now.dir c.at.result
    c.find_to_remove.result c.see.ensures c.requires.directory c.find_to_remove.ensures.answer
    c.find_to_remove.ensures.inodes c.find_to_remove.ensures.rest
