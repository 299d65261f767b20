use Rattle.std.proofs.Common.{◌∙◌, ◌/◌, ◌%◌, ◌+◌, ap, sym, length, slice_range, refl}
use Rattle.fs_codec.specs.Fields.{fields_of}
use Rattle.fs_codec.specs.Stands.{body_of}
use Rattle.fs_blocks.specs.State.{State, disk}
use Rattle.fs_nodes.proofs.PieceSteps.{read_bytes}
use Rattle.fs_nodes.proofs.one_disk.pieces.read_piece.Goals as goal

pub returns-clause-bytes : goal.returns-clause-bytes
returns-clause-bytes c e =
    c.copy_from_slice.ensures.after
    ∙ ap (λ l. slice_range l (c.args.at % 512) (c.args.at % 512 + length c.args.into.now)) c.block-block.ensures.value
    ∙ sym (read_bytes c.touch_block.new.volume.state (fields_of c.touch_block.new.node) c.args.at (c.args.at / 512) c.in-Some.b (length c.args.into.now) refl c.touch_block.ensures.file c.in-Some.ensures.block.0 c.requires.end c.requires.within)
    ∙ ap (λ (s : State). slice_range (body_of (disk s) (fields_of c.touch_block.new.node)) c.args.at (c.args.at + length c.args.into.now)) (sym c.block-block.follows.holds-at-none.0)
