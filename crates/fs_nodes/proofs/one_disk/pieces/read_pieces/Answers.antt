use Rattle.std.proofs.Common.{◌≡◌, ◌∙◌, ◌-◌, ◌+◌, ◌%◌, inl, inr, arith, sym, ap, refl, subst, length, slice_range, Some}
use Rattle.buf_cache.specs.Blocks.{block_at}
use Rattle.fs_codec.specs.Fields.{fields_of}
use Rattle.fs_codec.specs.Stands.{body_of}
use Rattle.fs_blocks.specs.State.{State, disk}
use Rattle.fs_laws.specs.Chain.{free}
use Rattle.fs_laws.specs.Pieces.{piece_end, pieces, reading}
use Rattle.v6_base.specs.Image.{Image}
use Rattle.v6_base.specs.declared.errno.Errno.TheVariants.{EFAULT}
use Rattle.fs_nodes.specs.Copy.{put_into}
use Rattle.fs_nodes.specs.one_disk.Moves.{moving, Comes, Grew}
use Rattle.v6_base.proofs.Copies.{store_wraps}
use Rattle.fs_nodes.proofs.PieceSteps.{read_bytes, read_ends, read_faults, read_goes, grew_touched, grew_none}
use Rattle.fs_nodes.proofs.one_disk.pieces.read_pieces.Given.{Over}
use Rattle.fs_nodes.proofs.one_disk.pieces.read_pieces.Goals as goal
use Rattle.fs_nodes.proofs.one_disk.pieces.read_pieces.Goals.{After-copy_piece}

pub returns-in_default-clause-comes : goal.returns-in_default-clause-comes
returns-in_default-clause-comes g c =
    read_ends (put_into c.args.at) c.loop-from.volume.state c.touch_block.new.volume.state (fields_of c.loop-from.node) (fields_of c.touch_block.new.node) c.loop-from.from c.args.end (c.loop-from.from - c.args.offset) (g.S.Space.image c.loop-from.space) _
    c.loop-from-test.true c.in_default.ensures.touched c.loop-from.invariant.same

pub returns-in_default-clause-grew : goal.returns-in_default-clause-grew
returns-in_default-clause-grew g c =
    grew_touched _ _ _ _ _ _ _ _ c.loop-from.invariant.grew c.touch_block.ensures.touched c.loop-from.invariant.fewer

-- the bytes of the piece, as those of the file
bytes : (g : Over) (c : After-copy_piece g) → slice_range (block_at c.touch_block.new.volume.state.blocks c.in-Some.b) (c.loop-from.from % 512) (c.loop-from.from % 512 + (c.piece_end-next.result - c.loop-from.from))
    ≡ slice_range (body_of (disk c.touch_block.new.volume.state) (fields_of c.touch_block.new.node)) c.loop-from.from (piece_end c.loop-from.from c.args.end)
bytes g c =
    let more = c.piece_end-next.ensures.more in
    let is = c.piece_end-next.ensures.is in
    let block = c.piece_end-next.ensures.block in
    let low = c.loop-from-test.true in
    let small = c.requires.small in
    sym (read_bytes c.touch_block.new.volume.state (fields_of c.touch_block.new.node) c.loop-from.from _ c.in-Some.b (c.piece_end-next.result - c.loop-from.from) refl c.touch_block.ensures.file c.in-Some.ensures.block.0 (omega (arith, low, small)) (omega (arith, block, more)))
    ∙ ap (slice_range (body_of (disk c.touch_block.new.volume.state) (fields_of c.touch_block.new.node)) c.loop-from.from) (omega (arith, more, is))

pub returns-then-not-copy_piece-clause-comes : goal.returns-then-not-copy_piece-clause-comes
returns-then-not-copy_piece-clause-comes g c =
    let k = (goal.at.returns-then-not-copy_piece-clause-comes g c).After-copy_piece in
    let P : State → Image → Type 0 = λ s m. Comes s (fields_of c.touch_block.new.node) (reading (put_into c.args.at) (pieces c.args.offset c.args.end) (moving c.args.volume.now.state (fields_of c.args.node.now) (g.S.Space.image c.args.space.now) 0)) m (c.loop-from.from - c.args.offset) (Some EFAULT) in
    subst (λ s. P s (g.S.Space.image c.copy_piece.new.space)) (sym c.copy_piece.ensures.same) (subst (P c.touch_block.new.volume.state) (sym (c.copy_piece.ensures.kept c.if-not-copy_piece.true))
    (read_faults (put_into c.args.at) c.loop-from.volume.state c.touch_block.new.volume.state (fields_of c.loop-from.node) (fields_of c.touch_block.new.node) c.loop-from.from c.args.end (c.loop-from.from - c.args.offset) (g.S.Space.image c.loop-from.space) _ _
    c.loop-from-test.true c.in-Some.ensures.touched (bytes g k)
    (store_wraps (g.S.Space.image c.loop-from.space) _ _ _ (omega arith) ∙ c.copy_piece.ensures.refused c.if-not-copy_piece.true)
    c.loop-from.invariant.same))

pub returns-then-not-copy_piece-clause-grew : goal.returns-then-not-copy_piece-clause-grew
returns-then-not-copy_piece-clause-grew g c =
    let P : State → Type 0 = λ s. Grew c.args.volume.now.state (fields_of c.args.node.now) s (fields_of c.touch_block.new.node) in
    subst P (sym c.copy_piece.ensures.same) (grew_touched _ _ _ _ _ _ _ _ c.loop-from.invariant.grew c.touch_block.ensures.touched c.loop-from.invariant.fewer)

pub loop-from-preserved : goal.loop-from-preserved
loop-from-preserved g c =
    let t = c.touch_block.ensures.touched in
    let fewer = c.loop-from.invariant.fewer in
    let fewer' = t.fewer in
    let low = c.loop-from.invariant.low in
    let more = c.piece_end-next.ensures.more in
    let is = c.piece_end-next.ensures.is in
    let k = (goal.at.loop-from-preserved g c).After-copy_piece in
    let there : c.touch_block.new.volume.state ≡ c.copy_piece.new.volume.state = sym c.copy_piece.ensures.same in
    let P : State → Type 0 = λ s. Grew c.args.volume.now.state (fields_of c.args.node.now) s (fields_of c.touch_block.new.node) in
    let still = ap (λ (s : State). length (free (disk s))) c.copy_piece.ensures.same in
    record {
      low = omega (arith, low, more);
      high = inr c.piece_end-next.ensures.within;
      used = t.used;
      file = t.file;
      grew = subst P there (grew_touched _ _ _ _ _ _ _ _ c.loop-from.invariant.grew t c.loop-from.invariant.fewer);
      fewer = omega (arith, fewer, fewer', still);
      rest = c.copy_piece.ensures.rest ∙ c.loop-from.invariant.rest;
      same = ap (λ k. reading (put_into c.args.at) (pieces k c.args.end) (moving c.copy_piece.new.volume.state (fields_of c.touch_block.new.node) (g.S.Space.image c.copy_piece.new.space) (k - c.args.offset))) is
          ∙ ap (λ d. reading (put_into c.args.at) (pieces (piece_end c.loop-from.from c.args.end) c.args.end) (moving c.copy_piece.new.volume.state (fields_of c.touch_block.new.node) (g.S.Space.image c.copy_piece.new.space) d)) (omega (arith, is, low, more))
          ∙ ap (λ (s : State). reading (put_into c.args.at) (pieces (piece_end c.loop-from.from c.args.end) c.args.end) (moving s (fields_of c.touch_block.new.node) (g.S.Space.image c.copy_piece.new.space) (c.loop-from.from - c.args.offset + (piece_end c.loop-from.from c.args.end - c.loop-from.from)))) c.copy_piece.ensures.same
          ∙ sym (read_goes (put_into c.args.at) c.loop-from.volume.state c.touch_block.new.volume.state (fields_of c.loop-from.node) (fields_of c.touch_block.new.node) c.loop-from.from c.args.end (c.loop-from.from - c.args.offset)
          (g.S.Space.image c.loop-from.space) (g.S.Space.image c.copy_piece.new.space) _ c.loop-from-test.true c.in-Some.ensures.touched (bytes g k)
          (store_wraps (g.S.Space.image c.loop-from.space) _ _ _ (omega arith) ∙ c.copy_piece.ensures.done c.if-not-copy_piece.false))
          ∙ c.loop-from.invariant.same;
    }

pub loop-from-init : goal.loop-from-init
loop-from-init g c = record { low = omega arith; high = inl refl; used = c.requires.used; file = c.requires.file; grew = grew_none _ _ c.requires.apart; fewer = omega arith; rest = refl; same = ap (λ d. reading (put_into c.args.at) (pieces c.args.offset c.args.end) (moving c.args.volume.now.state (fields_of c.args.node.now) (g.S.Space.image c.args.space.now) d)) (omega arith) }
