use Rattle.std.proofs.Common.{◌≡◌, ◌∙◌, ◌-◌, inl, inr, arith, true, sym, ap, refl, ℕ, List, subst, length, slice_range, Some}
use Rattle.fs_codec.specs.Fields.{fields_of}
use Rattle.fs_codec.specs.Stands.{body_of}
use Rattle.fs_blocks.specs.State.{disk}
use Rattle.buf_cache.specs.Blocks.{patched}
use Rattle.fs_laws.specs.Pieces.{piece_end, pieces, reading}
use Rattle.v6_base.specs.declared.errno.Errno.TheVariants.{ENOSPC}
use Rattle.fs_nodes.specs.Copy.{put_kernel}
use Rattle.fs_nodes.specs.one_disk.Moves.{moving, Comes}
use Rattle.fs_nodes.proofs.PieceSteps.{buffer_put, buffer_same, part_of, read_ends, read_goes, grew_touched, grew_none}
use Rattle.fs_nodes.proofs.one_disk.pieces.read_pieces_kernel.Goals as goal
use Rattle.fs_laws.proofs.StoreLemmas.{patched_long}
use Rattle.fs_nodes.proofs.one_disk.pieces.read_pieces_kernel.Goals.{After-read_piece}

-- the bytes that were read, as a part of the buffer and as those of the file
long : (c : After-read_piece) → length c.read_piece.new.into ≡ c.piece_end-next.result - c.loop-from.from
long c =
    let size = c.loop-from.invariant.size in
    let room = c.requires.room in
    let more = c.piece_end-next.ensures.more in
    let within = c.piece_end-next.ensures.within in
    let low = c.loop-from.invariant.low in
    c.read_piece.ensures.long ∙ part_of (c.loop-from.from - c.args.offset) (c.piece_end-next.result - c.loop-from.from) c.loop-from.buf (omega (arith, size, room, more, within, low))

bytes : (c : After-read_piece) → c.read_piece.result ≡ true → c.read_piece.new.into ≡ slice_range (body_of (disk c.read_piece.new.volume.state) (fields_of c.read_piece.new.node)) c.loop-from.from (piece_end c.loop-from.from c.args.end)
bytes c there =
    let more = c.piece_end-next.ensures.more in
    let is = c.piece_end-next.ensures.is in
    let l = long c in
    let l' = c.read_piece.ensures.long in
    c.read_piece.ensures.bytes there ∙ ap (slice_range (body_of (disk c.read_piece.new.volume.state) (fields_of c.read_piece.new.node)) c.loop-from.from) (omega (arith, more, is, l, l'))

pub returns-then-not-read_piece-clause-comes : goal.returns-then-not-read_piece-clause-comes
returns-then-not-read_piece-clause-comes c =
    let P : List ℕ → Type 0 = λ l. Comes c.read_piece.new.volume.state (fields_of c.read_piece.new.node) (reading put_kernel (pieces c.args.offset c.args.end) (moving c.args.volume.now.state (fields_of c.args.node.now) c.args.buf.now 0)) l (c.loop-from.from - c.args.offset) (Some ENOSPC) in
    subst P (sym (buffer_same (c.loop-from.from - c.args.offset) _ c.loop-from.buf c.read_piece.new.into (c.read_piece.ensures.kept c.if-not-read_piece.true)))
    (read_ends put_kernel c.loop-from.volume.state c.read_piece.new.volume.state (fields_of c.loop-from.node) (fields_of c.read_piece.new.node) c.loop-from.from c.args.end (c.loop-from.from - c.args.offset) c.loop-from.buf _
    c.loop-from-test.true c.if-not-read_piece.ensures.touched c.loop-from.invariant.same)

pub returns-then-not-read_piece-clause-grew : goal.returns-then-not-read_piece-clause-grew
returns-then-not-read_piece-clause-grew c =
    grew_touched _ _ _ _ _ _ _ _ c.loop-from.invariant.grew c.read_piece.ensures.touched c.loop-from.invariant.fewer

pub loop-from-preserved : goal.loop-from-preserved
loop-from-preserved c =
    let k = (goal.at.loop-from-preserved c).After-read_piece in
    let t = c.read_piece.ensures.touched in
    let fewer = c.loop-from.invariant.fewer in
    let fewer' = t.fewer in
    let low = c.loop-from.invariant.low in
    let more = c.piece_end-next.ensures.more in
    let within = c.piece_end-next.ensures.within in
    let is = c.piece_end-next.ensures.is in
    let size = c.loop-from.invariant.size in
    let room = c.requires.room in
    let l : length c.read_piece.new.into ≡ c.piece_end-next.result - c.loop-from.from = long k in
    let put = buffer_put (c.loop-from.from - c.args.offset) (c.piece_end-next.result - c.loop-from.from) c.loop-from.buf c.read_piece.new.into l in
    record {
      size = ap length put ∙ patched_long (c.loop-from.from - c.args.offset) c.read_piece.new.into c.loop-from.buf (omega (arith, l, size, room, more, within, low)) ∙ size;
      low = omega (arith, low, more);
      high = inr c.piece_end-next.ensures.within;
      used = t.used;
      file = t.file;
      grew = grew_touched _ _ _ _ _ _ _ _ c.loop-from.invariant.grew t c.loop-from.invariant.fewer;
      fewer = omega (arith, fewer, fewer');
      same = ap (λ b. reading put_kernel (pieces c.piece_end-next.result c.args.end) (moving c.read_piece.new.volume.state (fields_of c.read_piece.new.node) b (c.piece_end-next.result - c.args.offset))) put
          ∙ ap (λ k. reading put_kernel (pieces k c.args.end) (moving c.read_piece.new.volume.state (fields_of c.read_piece.new.node) (patched (c.loop-from.from - c.args.offset) c.read_piece.new.into c.loop-from.buf) (k - c.args.offset))) is
          ∙ ap (λ d. reading put_kernel (pieces (piece_end c.loop-from.from c.args.end) c.args.end) (moving c.read_piece.new.volume.state (fields_of c.read_piece.new.node) (patched (c.loop-from.from - c.args.offset) c.read_piece.new.into c.loop-from.buf) d)) (omega (arith, is, low, more))
          ∙ sym (read_goes put_kernel c.loop-from.volume.state c.read_piece.new.volume.state (fields_of c.loop-from.node) (fields_of c.read_piece.new.node) c.loop-from.from c.args.end (c.loop-from.from - c.args.offset)
          c.loop-from.buf (patched (c.loop-from.from - c.args.offset) c.read_piece.new.into c.loop-from.buf) c.read_piece.new.into c.loop-from-test.true c.if-not-read_piece.ensures.touched (bytes k c.if-not-read_piece.false) refl)
          ∙ c.loop-from.invariant.same;
    }

pub loop-from-init : goal.loop-from-init
loop-from-init c = record { size = refl; low = omega arith; high = inl refl; used = c.requires.used; file = c.requires.file; grew = grew_none _ _ c.requires.apart; fewer = omega arith; same = ap (λ d. reading put_kernel (pieces c.args.offset c.args.end) (moving c.args.volume.now.state (fields_of c.args.node.now) c.args.buf.now d)) (omega arith) }
