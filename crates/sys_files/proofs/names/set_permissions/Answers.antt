use Rattle.sys_files.proofs.NamesLemmas.{kind_stays}
use Rattle.fs_nodes.specs.Keys.{node_numbered}
use Rattle.sys_files.proofs.names.set_permissions.Goals as goal

pub set_mode-requires-clause-kind : goal.set_mode-requires-clause-kind
set_mode-requires-clause-kind c =
    λ node found. kind_stays
    (node_numbered c.args.nodes.now.store c.args.ino) c.inode_of-old.result c.is_super_user.result c.args.mode
    c.changed_mode.result node c.inode_of-old.ensures c.changed_mode.ensures found
