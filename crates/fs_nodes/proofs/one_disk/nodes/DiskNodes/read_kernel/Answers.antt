use Rattle.std.proofs.Common.{length, ap, ◌∙◌, subst}
use Rattle.fs_codec.specs.Fields.{fields_of}
use Rattle.fs_laws.specs.Pieces.{read_file}
use Rattle.fs_nodes.specs.Copy.{put_kernel}
use Rattle.fs_laws.specs.Rest.{SameAround}
use Rattle.fs_nodes.specs.one_disk.FileSystem.{FileSystem}
use Rattle.fs_nodes.specs.one_disk.Moves.{CarriesLate}
use Rattle.fs_nodes.proofs.HeldLemmas.{rest_real}
use Rattle.fs_nodes.proofs.NodesLemmas.{plain, plain_of}
use Rattle.fs_nodes.proofs.PieceEnds.{called_late, carried_of}
use Rattle.fs_nodes.proofs.one_disk.nodes.DiskNodes.read_kernel.Goals as goal
use Rattle.fs_nodes.proofs.one_disk.nodes.DiskNodes.read_kernel.Goals.{After-carry_inode}

pub carry_inode-requires : goal.carry_inode-requires
carry_inode-requires c = c.inode_of-node.ensures.here.some

step : (c : After-carry_inode) → CarriesLate c.self.inside.volume.state c.read_file_kernel-moved.new.volume.state c.self.inside.table.items c.carry_inode.new.table.items c.args.ino (fields_of c.read_file_kernel-moved.new.node)
step c =
    carried_of c.self.inside.volume.state c.read_file_kernel-moved.new.volume.state c.self.inside.table.items c.carry_inode.new.table.items c.args.ino (fields_of c.inode_of-node.result) (fields_of c.read_file_kernel-moved.new.node) _ _ _ _
    c.self.invariant c.inode_of-node.ensures.here c.read_file_kernel-moved.ensures.ends c.carry_inode.ensures

pub invariant_of-self : goal.invariant_of-self
invariant_of-self c = (step (goal.at.invariant_of-self c).After-carry_inode).held

pub returns-clause-moved : goal.returns-clause-moved
returns-clause-moved c = λ node found.
    called_late c.self.inside.volume.state c.read_file_kernel-moved.new.volume.state c.self.inside.table.items c.carry_inode.new.table.items (plain_of c.self.inside.volume c.self.inside.table.items c.args.self.now) c.args.ino (fields_of c.inode_of-node.result) (fields_of c.read_file_kernel-moved.new.node)
    (λ node room. read_file put_kernel node room c.args.buf.now c.args.offset (length c.args.buf.now) c.args.time) c.read_file_kernel-moved.new.buf _ _ node (plain c.self.inside.volume c.self.inside.table.items c.args.self.now c.self.view_is) c.self.invariant c.inode_of-node.ensures.here c.read_file_kernel-moved.ensures.ends (step (goal.at.returns-clause-moved c).After-carry_inode) found

pub returns-clause-references : goal.returns-clause-references
returns-clause-references c = (step (goal.at.returns-clause-references c).After-carry_inode).carried.references ∙ ap (λ (f : FileSystem). f.references) c.self.view_is

pub returns-clause-rest : goal.returns-clause-rest
returns-clause-rest c =
    let k = step (goal.at.returns-clause-rest c).After-carry_inode in
    let P : FileSystem → Type 0 = λ f. SameAround f.blocks c.read_file_kernel-moved.new.volume.state.blocks in
    subst P c.self.view_is (rest_real c.self.inside.volume.state c.read_file_kernel-moved.new.volume.state c.self.inside.table.items c.carry_inode.new.table.items c.self.invariant k.held k.carried.rest)
