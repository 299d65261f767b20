use Rattle.std.proofs.Common.{◌/◌, sym, subst, ℕ}
use Rattle.fs_codec.specs.Fields.{fields_of, Inode}
use Rattle.fs_blocks.specs.State.{disk}
use Rattle.fs_laws.proofs.FreeLemmas.{data_some}
use Rattle.fs_laws.proofs.PiecePlaces.{block_zone, block_used}
use Rattle.fs_nodes.specs.one_disk.Moves.{Wrote}
use Rattle.fs_nodes.proofs.PieceSteps.{wrote}
use Rattle.fs_nodes.proofs.one_disk.pieces.write_piece.Goals as goal

pub change-requires-clause-other : goal.change-requires-clause-other
change-requires-clause-other c = (data_some (disk c.args.volume.now.state) c.args.b (block_zone (disk c.args.volume.now.state) (fields_of c.args.node.now) (c.args.at / 512) c.args.b c.requires.block)).1

pub change-requires-clause-used : goal.change-requires-clause-used
change-requires-clause-used c = block_used (disk c.args.volume.now.state) (fields_of c.args.node.now) (c.args.at / 512) c.args.b c.requires.block

sized : Inode → ℕ → Inode
sized x size = record x { size = size }

pub returns-clause-wrote : goal.returns-clause-wrote
unfolding sized
returns-clause-wrote c =
    let P : ℕ → Type 0 = λ size. Wrote c.args.volume.now.state (fields_of c.args.node.now) c.args.at c.args.bytes.now c.change.new.self.state (sized (fields_of c.args.node.now) size) in
    subst P (sym c.max-node.ensures)
    (wrote c.args.volume.now.state c.change.new.self.state (fields_of c.args.node.now) c.args.b c.args.at c.args.bytes.now c.requires.file c.requires.block c.requires.end c.requires.within
    c.change.ensures.blocks c.change.ensures.head c.change.ensures.changed c.change.ensures.free)
