use Rattle.std.proofs.Common.{ap, ◌∙◌}
use Rattle.v6_base.specs.Access.{then_do}
use Rattle.fs_tree.specs.Path.{way, to_make}
use Rattle.fs_tree.specs.Finding.{Inodes, inodes_of}
use Rattle.sys_files.proofs.EnteringLemmas.{made_takes, made_has, made_none, making_store}
use Rattle.sys_files.proofs.entering.find_to_make.Goals as goal

pub returns-clause-made : goal.returns-clause-made
returns-clause-made g c =
    made_has c.args.tree.now.nodes c.find_to_make.new.self.nodes c.args.tree.now.mounts c.requires.mounts c.args.tree.now.marks
    c.user_of.result c.args.u.now.dir c.at.result
    c.find_to_make.result c.see.ensures c.requires.directory c.find_to_make.ensures.answer c.find_to_make.ensures.inodes
    c.find_to_make.ensures.blocks

pub returns-clause-found : goal.returns-clause-found
returns-clause-found g c =
    made_takes c.args.tree.now.nodes c.find_to_make.new.self.nodes c.args.tree.now.mounts c.requires.mounts
    c.args.tree.now.marks c.user_of.result c.args.u.now.dir c.at.result
    c.find_to_make.result c.see.ensures c.requires.directory c.find_to_make.ensures.answer c.find_to_make.ensures.inodes
    c.find_to_make.ensures.blocks

pub returns-clause-same : goal.returns-clause-same
returns-clause-same g c =
    let n = inodes_of c.args.tree.now.nodes in
    ap (λ (m : Inodes). m.store) c.find_to_make.ensures.inodes
    ∙ making_store n (then_do (way n.store c.args.tree.now.mounts c.user_of.result c.args.u.now.dir c.at.result)
    (to_make n.store c.args.tree.now.mounts c.args.tree.now.marks))

pub returns-clause-none : goal.returns-clause-none
returns-clause-none g c =
    made_none c.args.tree.now.nodes c.find_to_make.new.self.nodes c.args.tree.now.mounts c.requires.mounts c.args.tree.now.marks
    c.user_of.result c.args.u.now.dir c.at.result
    c.find_to_make.result c.see.ensures c.requires.directory c.find_to_make.ensures.answer c.find_to_make.ensures.inodes
    c.find_to_make.ensures.blocks
