use Rattle.std.proofs.Common.{◌∙◌, sym, ap}
use Rattle.fs_nodes.specs.one_disk.FileSystem.{FileSystem}
use Rattle.fs_nodes.specs.one_disk.Table.{seen}
use Rattle.fs_nodes.proofs.NodesLemmas.{count_is}
use Rattle.fs_nodes.proofs.one_disk.nodes.DiskNodes.count.Goals as goal

pub returns : goal.returns
returns c =
    c.count_inodes.ensures.count ∙ sym (count_is (seen c.self.inside.volume.state c.self.inside.table.items)) ∙ ap (λ (f : FileSystem). f.store.count) c.self.view_is
