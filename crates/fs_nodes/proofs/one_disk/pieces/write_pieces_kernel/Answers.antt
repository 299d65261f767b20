use Rattle.std.proofs.Common.{◌≡◌, ◌∙◌, ◌-◌, ◌+◌, ◌<◌, ◌≤◌, inl, inr, arith, sym, ap, refl, subst, length, slice_range, Some}
use Rattle.fs_codec.specs.Fields.{fields_of}
use Rattle.fs_codec.specs.Modes.{is_device, is_directory}
use Rattle.fs_laws.specs.Chain.{free}
use Rattle.fs_blocks.specs.State.{disk}
use Rattle.fs_laws.specs.Pieces.{piece_end, pieces, writing}
use Rattle.fs_nodes.specs.Copy.{get_kernel}
use Rattle.fs_nodes.specs.one_disk.Moves.{moving}
use Rattle.fs_nodes.proofs.PieceSteps.{part_of, limit_most, write_ends_large, write_ends, write_goes, grew_touched, grew_wrote, grew_none}
use Rattle.fs_nodes.proofs.one_disk.pieces.write_pieces_kernel.Goals as goal

pub returns-then-write_limit-next-clause-comes : goal.returns-then-write_limit-next-clause-comes
returns-then-write_limit-next-clause-comes c =
    let limit = c.write_limit.ensures in
    let large = c.if-write_limit-next.true in
    let is = c.piece_end-next.ensures.is in
    write_ends_large (get_kernel c.args.buf.now) c.loop-from.volume.state (fields_of c.loop-from.node) c.loop-from.from c.args.end (c.loop-from.from - c.args.offset) (tt {0}) _ c.loop-from-test.true c.loop-from.invariant.used
    (subst (λ k. k < piece_end c.loop-from.from c.args.end) limit (subst (λ k. c.write_limit.result < k) is large)) c.loop-from.invariant.same

pub returns-in_default-clause-comes : goal.returns-in_default-clause-comes
returns-in_default-clause-comes c =
    let limit = c.write_limit.ensures in
    let small = c.if-write_limit-next.false in
    let is = c.piece_end-next.ensures.is in
    write_ends (get_kernel c.args.buf.now) c.loop-from.volume.state c.touch_block.new.volume.state (fields_of c.loop-from.node) (fields_of c.touch_block.new.node) c.loop-from.from c.args.end (c.loop-from.from - c.args.offset) (tt {0}) _ c.loop-from-test.true
    (subst (λ k. piece_end c.loop-from.from c.args.end ≤ k) limit (subst (λ k. k ≤ c.write_limit.result) is small)) c.in_default.ensures.touched c.loop-from.invariant.same

pub returns-in_default-clause-grew : goal.returns-in_default-clause-grew
returns-in_default-clause-grew c =
    grew_touched _ _ _ _ _ _ _ _ c.loop-from.invariant.grew c.touch_block.ensures.touched c.loop-from.invariant.fewer

pub loop-from-preserved : goal.loop-from-preserved
loop-from-preserved c =
    let limit = c.write_limit.ensures in
    let small = c.if-write_limit-next.false in
    let t = c.touch_block.ensures.touched in
    let fewer = c.loop-from.invariant.fewer in
    let fewer' = t.fewer in
    let low = c.loop-from.invariant.low in
    let more = c.piece_end-next.ensures.more in
    let within = c.piece_end-next.ensures.within in
    let block = c.piece_end-next.ensures.block in
    let is = c.piece_end-next.ensures.is in
    let w = c.write_piece.ensures.wrote in
    let still : length (free (disk c.write_piece.new.volume.state)) ≡ length (free (disk c.touch_block.new.volume.state)) = ap length w.room in
    let mode = c.write_piece.ensures.mode in
    record {
      low = omega (arith, low, more);
      high = inr c.piece_end-next.ensures.within;
      used = λ e. t.used (sym mode ∙ e);
      file = ap is_device mode ∙ t.file;
      grew = grew_wrote _ _ _ _ _ _ _ _ _ _ _ c.loop-from.invariant.grew c.in-Some.ensures.touched c.loop-from.invariant.fewer w mode;
      fewer = omega (arith, fewer, fewer', still);
      same = ap (λ k. writing (get_kernel c.args.buf.now) (pieces k c.args.end) (moving c.write_piece.new.volume.state (fields_of c.write_piece.new.node) (tt {0}) (k - c.args.offset))) is
          ∙ ap (λ d. writing (get_kernel c.args.buf.now) (pieces (piece_end c.loop-from.from c.args.end) c.args.end) (moving c.write_piece.new.volume.state (fields_of c.write_piece.new.node) (tt {0}) d)) (omega (arith, is, low, more))
          ∙ sym (write_goes (get_kernel c.args.buf.now) c.loop-from.volume.state c.touch_block.new.volume.state c.write_piece.new.volume.state (fields_of c.loop-from.node) (fields_of c.touch_block.new.node) (fields_of c.write_piece.new.node) c.loop-from.from c.args.end (c.loop-from.from - c.args.offset)
          (tt {0}) _ c.loop-from-test.true (subst (λ k. piece_end c.loop-from.from c.args.end ≤ k) limit (subst (λ k. k ≤ c.write_limit.result) is small)) c.in-Some.ensures.touched (ap (λ k. Some (slice_range c.args.buf.now (c.loop-from.from - c.args.offset) (c.loop-from.from - c.args.offset + (k - c.loop-from.from)))) (sym is)) w)
          ∙ c.loop-from.invariant.same;
    }

pub write_piece-requires-clause-end : goal.write_piece-requires-clause-end
write_piece-requires-clause-end c =
    let limit = limit_most (is_directory c.loop-from.node.mode) c.loop-from.node.size c.write_limit.result c.loop-from.node.small c.write_limit.ensures in
    let small = c.if-write_limit-next.false in
    let more = c.piece_end-next.ensures.more in
    let within = c.piece_end-next.ensures.within in
    let room = c.requires.room in
    let low = c.loop-from.invariant.low in
    let long = part_of (c.loop-from.from - c.args.offset) (c.piece_end-next.result - c.loop-from.from) c.args.buf.now (omega (arith, more, within, room, low)) in
    omega (arith, limit, small, more, long)

pub loop-from-init : goal.loop-from-init
loop-from-init c = record { low = omega arith; high = inl refl; used = c.requires.used; file = c.requires.file; grew = grew_none _ _ c.requires.apart; fewer = omega arith; same = ap (λ d. writing (get_kernel c.args.buf.now) (pieces c.args.offset c.args.end) (moving c.args.volume.now.state (fields_of c.args.node.now) (tt {0}) d)) (omega arith) }
