use Rattle.std.proofs.Common.{◌∙◌, ap}
use Rattle.fs_codec.specs.Fields.{fields_of}
use Rattle.fs_nodes.specs.one_disk.Setting.{set_in}
use Rattle.fs_nodes.proofs.SetLemmas.{SetsLate, set_late}
use Rattle.fs_nodes.proofs.one_disk.setters.set_fields.Goals as goal
use Rattle.fs_nodes.proofs.one_disk.setters.set_fields.Goals.{After-carry_inode}

pub carry_inode-requires : goal.carry_inode-requires
carry_inode-requires c = c.inode_of-node.ensures.here.some

step : (c : After-carry_inode) → SetsLate c.args.volume.now.state c.args.table.now.items c.carry_inode.new.table.items c.args.ino c.args.setting
step c =
    set_late c.args.volume.now.state c.args.table.now.items c.carry_inode.new.table.items c.args.ino (fields_of c.set.new.node) c.args.setting c.requires.held c.inode_of-node.ensures.here.used c.requires.can
    (c.set.ensures ∙ ap (set_in c.args.setting) c.inode_of-node.ensures.here.same) c.carry_inode.ensures

pub returns-clause-held : goal.returns-clause-held
returns-clause-held c = (step (goal.at.returns-clause-held c).After-carry_inode).held

pub returns-clause-references : goal.returns-clause-references
returns-clause-references c = (step (goal.at.returns-clause-references c).After-carry_inode).sets.references

pub returns-clause-store : goal.returns-clause-store
returns-clause-store c = (step (goal.at.returns-clause-store c).After-carry_inode).sets.store
