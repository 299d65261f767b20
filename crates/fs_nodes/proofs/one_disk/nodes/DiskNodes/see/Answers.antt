use Rattle.std.proofs.Common.{◌≤◌, subst, length, arith}
use Rattle.fs_nodes.specs.one_disk.FileSystem.{FileSystem, IsFileSystem}
use Rattle.fs_nodes.specs.one_disk.Table.{seen}
use Rattle.fs_nodes.proofs.SeenLemmas.{form_seen}
use Rattle.fs_nodes.proofs.HeldLemmas.{over}
use Rattle.fs_nodes.proofs.NodesLemmas.{plain, form_is, form_plain}
use Rattle.fs_nodes.proofs.one_disk.nodes.DiskNodes.see.Goals as goal

pub returns : goal.returns
returns c =
    let P : FileSystem → Type 0 = IsFileSystem in
    let few : length c.self.inside.table.items ≤ 100 = (let v = c.len-count.ensures.value in let f = c.len-count.ensures.fits in omega (arith, v, f)) in
    form_plain c.self.inside.volume c.self.inside.table.items c.args.self.now c.self.view_is (subst P (plain c.self.inside.volume c.self.inside.table.items c.args.self.now c.self.view_is)
    (form_is (seen c.self.inside.volume.state c.self.inside.table.items) c.self.inside.table.items c.self.invariant.nodes (form_seen c.self.inside.volume.state c.self.inside.table.items (over c.self.inside.volume.state c.self.inside.table.items c.self.invariant)) few)) c.see.ensures.blocks
