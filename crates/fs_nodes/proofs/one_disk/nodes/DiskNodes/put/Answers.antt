use Rattle.std.proofs.Common.{ap, ◌∙◌}
use Rattle.fs_codec.specs.Store.{node_numbered}
use Rattle.fs_nodes.specs.one_disk.FileSystem.{FileSystem}
use Rattle.fs_nodes.proofs.ReadLemmas.{files_late}
use Rattle.fs_nodes.proofs.one_disk.nodes.DiskNodes.put.Goals as goal

pub returns-clause-stored : goal.returns-clause-stored
returns-clause-stored c = λ node is some.
    files_late c.self.inside.volume c.put_inode.new.volume c.self.inside.table.items c.args.self.now c.self.view_is
    (c.put_inode.ensures.stored node (ap (λ (f : FileSystem). node_numbered f.store c.args.ino) c.self.view_is ∙ is) some)
