use Rattle.std.proofs.Common.{◌∙◌, sym, ap}
use Rattle.fs_blocks.specs.State.{disk}
use Rattle.fs_nodes.specs.one_disk.FileSystem.{FileSystem, referenced}
use Rattle.fs_nodes.specs.one_disk.Table.{seen}
use Rattle.fs_nodes.proofs.TableLemmas.{referenced_is}
use Rattle.fs_nodes.proofs.one_disk.nodes.DiskNodes.held.Goals as goal

pub returns-clause-count : goal.returns-clause-count
returns-clause-count c =
    let r = referenced_is (disk (seen c.self.inside.volume.state c.self.inside.table.items)) c.self.inside.table.items c.self.invariant.nodes.table in
    c.len.ensures.value ∙ sym r ∙ ap (λ (f : FileSystem). referenced f.references) c.self.view_is
