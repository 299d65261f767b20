use Rattle.std.proofs.Common.{◌≡◌, ◌+◌, ◌*◌, true, List, sym, ap, ◌∙◌, subst, slice_index}
use Rattle.fs_codec.specs.Fields.{fields_of}
use Rattle.fs_codec.specs.Disk.{inode}
use Rattle.fs_codec.specs.Modes.{holds_blocks}
use Rattle.fs_codec.specs.Held.{addresses}
use Rattle.fs_codec.specs.Stands.{data_of}
use Rattle.fs_laws.specs.Whole.{IsApart}
use Rattle.fs_blocks.specs.State.{State, disk}
use Rattle.fs_nodes.specs.declared.one_disk.table.Referenced.{Referenced}
use Rattle.fs_nodes.specs.one_disk.Table.{seen, IsHeld, IsUsed}
use Rattle.fs_nodes.proofs.HeldLemmas.{apart_real}
use Rattle.fs_nodes.proofs.LookLemmas.{used_in, block_byte, body_is}
use Rattle.fs_nodes.proofs.PieceEnds.{holds_apart}
use Rattle.fs_nodes.proofs.NodesLemmas.{plain, plain_of, same_files}
use Rattle.fs_nodes.proofs.SeenMoves.{body_seen}
use Rattle.fs_blocks.proofs.LateLemmas.{late_again}
use Rattle.fs_nodes.proofs.ReadLemmas.{files_late}
use Rattle.fs_nodes.proofs.one_disk.nodes.DiskNodes.look_block.Goals as goal
use Rattle.fs_nodes.proofs.one_disk.nodes.DiskNodes.look_block.Goals.{After-deref, After-peek_inode-node}

used : (c : After-deref) → IsUsed (seen c.self.inside.volume.state c.self.inside.table.items) c.args.ino
used c = used_in (seen c.self.inside.volume.state c.self.inside.table.items) c.self.inside.table.items (plain_of c.self.inside.volume c.self.inside.table.items c.args.self.now) c.args.ino (plain c.self.inside.volume c.self.inside.table.items c.args.self.now c.self.view_is) c.requires.node

same : (c : After-peek_inode-node) → fields_of c.peek_inode-node.result ≡ inode (disk (seen c.self.inside.volume.state c.self.inside.table.items)) c.args.ino
same c = c.peek_inode-node.ensures.node ∙ ap (λ (l : List Referenced). inode (disk (seen c.self.inside.volume.state l)) c.args.ino) c.deref.ensures.0

pub peek_inode-node-requires-clause-held : goal.peek_inode-node-requires-clause-held
peek_inode-node-requires-clause-held c = let P : List Referenced → Type 0 = IsHeld c.self.inside.volume.state in subst P (sym c.deref.ensures.0) c.self.invariant

pub peek_inode-node-requires-clause-low : goal.peek_inode-node-requires-clause-low
peek_inode-node-requires-clause-low c = (used (goal.at.peek_inode-node-requires-clause-low c).After-deref).low

pub peek_inode-node-requires-clause-high : goal.peek_inode-node-requires-clause-high
peek_inode-node-requires-clause-high c = (used (goal.at.peek_inode-node-requires-clause-high c).After-deref).high

pub copy_data-requires : goal.copy_data-requires
copy_data-requires c =
    let u = used (goal.at.copy_data-requires c).After-deref in
    let is = same (goal.at.copy_data-requires c).After-peek_inode-node in
    let P : State → Type 0 = λ s. holds_blocks c.peek_inode-node.result.mode ≡ true → IsApart (disk s) (addresses (disk s) (fields_of c.peek_inode-node.result)) in
    subst P (sym c.peek_inode-node.ensures.same) (λ holds. apart_real c.self.inside.volume.state c.self.inside.table.items (fields_of c.peek_inode-node.result) c.self.invariant
    (holds_apart (seen c.self.inside.volume.state c.self.inside.table.items) c.args.ino (fields_of c.peek_inode-node.result) c.self.invariant.nodes.whole u.low u.high is holds))

pub returns-clause-bytes : goal.returns-clause-bytes
returns-clause-bytes c = λ file found k low.
    let u = used (goal.at.returns-clause-bytes c).After-deref in
    let is = same (goal.at.returns-clause-bytes c).After-peek_inode-node in
    ap (λ l. slice_index l k) c.copy_data.ensures.bytes ∙ ap (λ (s : State). slice_index (data_of (disk s) (fields_of c.peek_inode-node.result) c.args.n) k) c.peek_inode-node.ensures.same
    ∙ block_byte c.self.inside.volume.state (fields_of c.peek_inode-node.result) c.args.n k c.self.invariant.form c.self.invariant.volume_is
    (λ holds. apart_real c.self.inside.volume.state c.self.inside.table.items (fields_of c.peek_inode-node.result) c.self.invariant (holds_apart (seen c.self.inside.volume.state c.self.inside.table.items) c.args.ino (fields_of c.peek_inode-node.result) c.self.invariant.nodes.whole u.low u.high is holds))
    c.see_addresses.ensures c.ranges.n.fits low
    ∙ ap (λ l. slice_index l (512 * c.args.n + k)) (sym (body_seen c.self.inside.volume.state c.self.inside.table.items c.args.ino (fields_of c.peek_inode-node.result) c.self.invariant u.low u.high (sym is))
    ∙ sym (body_is (seen c.self.inside.volume.state c.self.inside.table.items) c.self.inside.table.items (plain_of c.self.inside.volume c.self.inside.table.items c.args.self.now) c.args.ino (fields_of c.peek_inode-node.result) file (plain c.self.inside.volume c.self.inside.table.items c.args.self.now c.self.view_is) u is found))

pub returns-clause-same : goal.returns-clause-same
returns-clause-same c = same_files c.self.inside.volume c.copy_data.new.volume c.self.inside.table.items c.args.self.now c.self.view_is (c.copy_data.ensures.same ∙ c.peek_inode-node.ensures.same)

pub returns-clause-stored : goal.returns-clause-stored
returns-clause-stored c =
    files_late c.self.inside.volume c.copy_data.new.volume c.self.inside.table.items c.args.self.now c.self.view_is
    (late_again _ _ _ _ _ (ap (λ (s : State). s.blocks) c.peek_inode-node.ensures.same) c.peek_inode-node.ensures.stored c.copy_data.ensures.stored)
