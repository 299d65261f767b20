use Rattle.std.proofs.Common.{◌≡◌, ◌+◌, Some, refl, sym, ap, ◌∙◌, subst, cond}
use Rattle.fs_codec.specs.Fields.{Inode, fields_of}
use Rattle.fs_codec.specs.Modes.{is_device}
use Rattle.fs_codec.specs.Store.{Node, node_numbered}
use Rattle.fs_laws.specs.Numbers.{with_node, with_truncated}
use Rattle.fs_laws.specs.Truncation.{truncated, names_held}
use Rattle.fs_laws.specs.Rest.{SameAround}
use Rattle.fs_nodes.specs.one_disk.FileSystem.{FileSystem}
use Rattle.fs_nodes.specs.one_disk.Table.{seen}
use Rattle.fs_nodes.proofs.CutLate.{CutsLate, cut_late}
use Rattle.fs_nodes.proofs.NodesLemmas.{told}
use Rattle.fs_nodes.proofs.one_disk.nodes.DiskNodes.truncate.Goals as goal
use Rattle.fs_nodes.proofs.one_disk.nodes.DiskNodes.truncate.Goals.{After-inode_of-node, After-carry_inode}

-- whether the node of the number is a device
kind : (c : After-inode_of-node) (file : Node) → node_numbered c.args.self.now.store c.args.ino ≡ Some file → is_device file.mode ≡ is_device c.inode_of-node.result.mode
kind c file found =
    let h = c.inode_of-node.ensures.here in
    let t = told (seen c.self.inside.volume.state c.self.inside.table.items) c.args.ino file h.used (ap (λ (f : FileSystem). node_numbered f.store c.args.ino) c.self.view_is ∙ found) in
    ap is_device (sym t.mode ∙ ap (λ (x : Inode). x.mode) (sym h.same))

pub returns-then-is_device-clause-store : goal.returns-then-is_device-clause-store
returns-then-is_device-clause-store c = λ file found.
    let device = kind (goal.at.returns-then-is_device-clause-store c).After-inode_of-node file found ∙ sym c.is_device.ensures ∙ c.if-is_device.true in
    sym (ap (λ b. cond b c.args.self.now.store (with_node c.args.self.now.store c.args.ino (record (truncated file) { modtime = c.args.time }) (c.args.self.now.store.room + names_held file))) device)

pub truncate-requires : goal.truncate-requires
truncate-requires c = record { apart = c.inode_of-node.ensures.apart }

pub carry_inode-requires : goal.carry_inode-requires
carry_inode-requires c = c.inode_of-node.ensures.here.some

step : (c : After-carry_inode) → CutsLate c.self.inside.volume.state c.truncate.new.self.state c.self.inside.table.items c.carry_inode.new.table.items c.args.ino c.args.time
step c =
    let plain = sym c.is_device.ensures ∙ c.if-is_device.false in
    cut_late c.self.inside.volume.state c.truncate.new.self.state c.self.inside.table.items c.carry_inode.new.table.items c.args.ino
    (fields_of c.inode_of-node.result) _ (fields_of c.truncate.new.node) c.args.time c.self.invariant c.inode_of-node.ensures.here plain (c.inode_of-node.ensures.apart plain) (c.truncate.ensures.truncated plain) refl c.carry_inode.ensures

pub invariant_of-self : goal.invariant_of-self
invariant_of-self c = (step (goal.at.invariant_of-self c).After-carry_inode).held

pub returns-clause-store : goal.returns-clause-store
returns-clause-store c = λ file found.
    let plain = kind (goal.at.returns-clause-store c).After-inode_of-node file found ∙ sym c.is_device.ensures ∙ c.if-is_device.false in
    (step (goal.at.returns-clause-store c).After-carry_inode).cuts.store file (ap (λ (f : FileSystem). node_numbered f.store c.args.ino) c.self.view_is ∙ found) plain ∙ ap (λ (f : FileSystem). with_truncated f.store c.args.ino file c.args.time) c.self.view_is

pub returns-clause-references : goal.returns-clause-references
returns-clause-references c = (step (goal.at.returns-clause-references c).After-carry_inode).cuts.references ∙ ap (λ (f : FileSystem). f.references) c.self.view_is

pub returns-clause-rest : goal.returns-clause-rest
returns-clause-rest c = let P : FileSystem → Type 0 = λ f. SameAround f.blocks c.truncate.new.self.state.blocks in subst P c.self.view_is (step (goal.at.returns-clause-rest c).After-carry_inode).rest
