use Rattle.std.proofs.Common.{◌≡◌, ◌∙◌, ◌-◌, ◌+◌, ◌%◌, ◌<◌, ◌≤◌, inl, inr, arith, sym, ap, refl, ℕ, List, [], subst, length, take, ◌++◌, Some}
use Rattle.fs_codec.specs.Fields.{fields_of}
use Rattle.fs_codec.specs.Modes.{is_device}
use Rattle.fs_laws.specs.Chain.{free}
use Rattle.fs_blocks.specs.State.{disk}
use Rattle.fs_laws.specs.Pieces.{piece_end, pieces, writing}
use Rattle.v6_base.specs.Copy.{load_bytes}
use Rattle.fs_nodes.specs.Copy.{get_from}
use Rattle.fs_nodes.specs.one_disk.Moves.{moving}
use Rattle.v6_base.proofs.Copies.{load_wraps}
use Rattle.fs_nodes.proofs.PieceSteps.{front_of, buffer_long, write_ends_large, write_ends, write_faults, write_goes, grew_touched, grew_wrote, grew_none}
use Rattle.fs_nodes.proofs.one_disk.pieces.write_pieces.Given.{Over}
use Rattle.fs_nodes.proofs.one_disk.pieces.write_pieces.Goals as goal
use Rattle.fs_nodes.proofs.one_disk.pieces.write_pieces.Goals.{After-copy_in}

-- the bytes that are loaded, as the front of the buffer and as those of the memory
front : (g : Over) (c : After-copy_in g) → (length c.copy_in.new.into ≡ c.piece_end-next.result - c.loop-from.from)
    × ((ys : List ℕ) → take (c.piece_end-next.result - c.loop-from.from - 0) (c.copy_in.new.into ++ ys) ≡ c.copy_in.new.into)
front g c =
    let block = c.piece_end-next.ensures.block in
    let fits : c.piece_end-next.result - c.loop-from.from ≤ 512 = omega (arith, block) in (
      (front_of c.copy_in.new.into [] c.loop-from.piece (c.piece_end-next.result - c.loop-from.from) c.loop-from.invariant.size fits c.copy_in.ensures.long).0,
      λ ys. (front_of c.copy_in.new.into ys c.loop-from.piece (c.piece_end-next.result - c.loop-from.from) c.loop-from.invariant.size fits c.copy_in.ensures.long).1,
    )

loads : (g : Over) (c : After-copy_in g) → load_bytes (g.S.Space.image c.args.space.now) (c.args.at + (c.loop-from.from - c.args.offset)) (piece_end c.loop-from.from c.args.end - c.loop-from.from)
    ≡ load_bytes (g.S.Space.image c.args.space.now) ((c.args.at + (c.loop-from.from - c.args.offset)) % 65536) (length (take (c.piece_end-next.result - c.loop-from.from - 0) c.loop-from.piece))
loads g c =
    let is = c.piece_end-next.ensures.is in
    let l = (front g c).0 in
    let l' = c.copy_in.ensures.long in
    load_wraps (g.S.Space.image c.args.space.now) _ _ (piece_end c.loop-from.from c.args.end - c.loop-from.from) (omega arith)
    ∙ ap (load_bytes (g.S.Space.image c.args.space.now) ((c.args.at + (c.loop-from.from - c.args.offset)) % 65536)) (omega (arith, is, l, l'))

pub returns-then-write_limit-next-clause-comes : goal.returns-then-write_limit-next-clause-comes
returns-then-write_limit-next-clause-comes g c =
    let limit = c.write_limit.ensures in
    let large = c.if-write_limit-next.true in
    let is = c.piece_end-next.ensures.is in
    write_ends_large (get_from (g.S.Space.image c.args.space.now) c.args.at) c.loop-from.volume.state (fields_of c.loop-from.node) c.loop-from.from c.args.end (c.loop-from.from - c.args.offset) (tt {0}) _ c.loop-from-test.true c.loop-from.invariant.used
    (subst (λ k. k < piece_end c.loop-from.from c.args.end) limit (subst (λ k. c.write_limit.result < k) is large)) c.loop-from.invariant.same

pub returns-in_default-clause-comes : goal.returns-in_default-clause-comes
returns-in_default-clause-comes g c =
    let limit = c.write_limit.ensures in
    let small = c.if-write_limit-next.false in
    let is = c.piece_end-next.ensures.is in
    write_ends (get_from (g.S.Space.image c.args.space.now) c.args.at) c.loop-from.volume.state c.touch_block.new.volume.state (fields_of c.loop-from.node) (fields_of c.touch_block.new.node) c.loop-from.from c.args.end (c.loop-from.from - c.args.offset) (tt {0}) _ c.loop-from-test.true
    (subst (λ k. piece_end c.loop-from.from c.args.end ≤ k) limit (subst (λ k. k ≤ c.write_limit.result) is small)) c.in_default.ensures.touched c.loop-from.invariant.same

pub returns-in_default-clause-grew : goal.returns-in_default-clause-grew
returns-in_default-clause-grew g c =
    grew_touched _ _ _ _ _ _ _ _ c.loop-from.invariant.grew c.touch_block.ensures.touched c.loop-from.invariant.fewer

pub returns-then-not-copy_in-clause-comes : goal.returns-then-not-copy_in-clause-comes
returns-then-not-copy_in-clause-comes g c =
    let limit = c.write_limit.ensures in
    let small = c.if-write_limit-next.false in
    let is = c.piece_end-next.ensures.is in
    let k = (goal.at.returns-then-not-copy_in-clause-comes g c).After-copy_in in
    write_faults (get_from (g.S.Space.image c.args.space.now) c.args.at) c.loop-from.volume.state c.touch_block.new.volume.state (fields_of c.loop-from.node) (fields_of c.touch_block.new.node) c.loop-from.from c.args.end (c.loop-from.from - c.args.offset) (tt {0}) _ c.loop-from-test.true
    (subst (λ k. piece_end c.loop-from.from c.args.end ≤ k) limit (subst (λ k. k ≤ c.write_limit.result) is small)) c.in-Some.ensures.touched (loads g k ∙ c.copy_in.ensures.refused c.if-not-copy_in.true) c.loop-from.invariant.same

pub returns-then-not-copy_in-clause-grew : goal.returns-then-not-copy_in-clause-grew
returns-then-not-copy_in-clause-grew g c =
    grew_touched _ _ _ _ _ _ _ _ c.loop-from.invariant.grew c.touch_block.ensures.touched c.loop-from.invariant.fewer

pub loop-from-preserved : goal.loop-from-preserved
loop-from-preserved g c =
    let limit = c.write_limit.ensures in
    let small = c.if-write_limit-next.false in
    let t = c.touch_block.ensures.touched in
    let fewer = c.loop-from.invariant.fewer in
    let fewer' = t.fewer in
    let low = c.loop-from.invariant.low in
    let more = c.piece_end-next.ensures.more in
    let within = c.piece_end-next.ensures.within in
    let block = c.piece_end-next.ensures.block in
    let is = c.piece_end-next.ensures.is in
    let w = c.write_piece.ensures.wrote in
    let still : length (free (disk c.write_piece.new.volume.state)) ≡ length (free (disk c.touch_block.new.volume.state)) = ap length w.room in
    let mode = c.write_piece.ensures.mode in
    let k = (goal.at.loop-from-preserved g c).After-copy_in in
    record {
      size = buffer_long c.copy_in.new.into c.loop-from.piece (c.piece_end-next.result - c.loop-from.from) c.loop-from.invariant.size (omega (arith, block)) c.copy_in.ensures.long;
      low = omega (arith, low, more);
      high = inr c.piece_end-next.ensures.within;
      used = λ e. t.used (sym mode ∙ e);
      file = ap is_device mode ∙ t.file;
      grew = grew_wrote _ _ _ _ _ _ _ _ _ _ _ c.loop-from.invariant.grew c.in-Some.ensures.touched c.loop-from.invariant.fewer w mode;
      fewer = omega (arith, fewer, fewer', still);
      same = ap (λ k. writing (get_from (g.S.Space.image c.args.space.now) c.args.at) (pieces k c.args.end) (moving c.write_piece.new.volume.state (fields_of c.write_piece.new.node) (tt {0}) (k - c.args.offset))) is
          ∙ ap (λ d. writing (get_from (g.S.Space.image c.args.space.now) c.args.at) (pieces (piece_end c.loop-from.from c.args.end) c.args.end) (moving c.write_piece.new.volume.state (fields_of c.write_piece.new.node) (tt {0}) d)) (omega (arith, is, low, more))
          ∙ sym (write_goes (get_from (g.S.Space.image c.args.space.now) c.args.at) c.loop-from.volume.state c.touch_block.new.volume.state c.write_piece.new.volume.state (fields_of c.loop-from.node) (fields_of c.touch_block.new.node) (fields_of c.write_piece.new.node) c.loop-from.from c.args.end (c.loop-from.from - c.args.offset)
          (tt {0}) _ c.loop-from-test.true (subst (λ k. piece_end c.loop-from.from c.args.end ≤ k) limit (subst (λ k. k ≤ c.write_limit.result) is small)) c.in-Some.ensures.touched (loads g k ∙ c.copy_in.ensures.done c.if-not-copy_in.false ∙ ap Some (sym ((front g k).1 _))) w)
          ∙ c.loop-from.invariant.same;
    }

pub loop-from-init : goal.loop-from-init
loop-from-init g c = record { size = refl; low = omega arith; high = inl refl; used = c.requires.used; file = c.requires.file; grew = grew_none _ _ c.requires.apart; fewer = omega arith; same = ap (λ d. writing (get_from (g.S.Space.image c.args.space.now) c.args.at) (pieces c.args.offset c.args.end) (moving c.args.volume.now.state (fields_of c.args.node.now) (tt {0}) d)) (omega arith) }
