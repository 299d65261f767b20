use Rattle.std.proofs.Common.{◌≡◌, ℕ, cond, nat_eq, count_by, ap, sym, ◌∙◌, arith}
use Rattle.std.proofs.lemmas.Bool.{ne_eqb}
use Rattle.fs_codec.proofs.CountLemmas.{count-cons}
use Rattle.fs_codec.specs.declared.super_block.SuperBlock.{SuperBlock}
use Rattle.fs_laws.specs.Chain.{free}
use Rattle.fs_blocks.specs.State.{disk}
use Rattle.fs_blocks.proofs.VolumeLemmas.{data_by_head}
use Rattle.file_rows.proofs.file_system.volume.gives_block.Goals as goal

pub free_block-requires-clause-zone : goal.free_block-requires-clause-zone
free_block-requires-clause-zone c =
    let s = c.args.volume.now.state.head in
    let i : s.i_size ≡ 1 = ap (λ (x : SuperBlock). x.i_size) (sym c.head-head.ensures.head) ∙ c.if-head-ne1.false in
    let f : s.f_size ≡ 210 = ap (λ (x : SuperBlock). x.f_size) (sym c.head-head.ensures.head) ∙ c.if-head-ne-BLOCKS.false in
    data_by_head c.args.volume.now.state.blocks s c.args.b c.head-head.ensures.sound.fits (omega (arith, i)) (omega (arith, f))

pub returns : goal.returns
returns c = λ k h.
    let was = c.requires k (omega (arith, h)) in
    let other : cond {A = ℕ} (nat_eq k c.args.b) 1 0 ≡ 0 = ap (λ t. cond t 1 0) (ne_eqb k c.args.b (λ is. absurd (omega (arith, is, h)))) in
    ap (count_by (nat_eq k)) c.free_block.ensures.first ∙ omega (arith, was, other, count-cons k c.args.b (free (disk c.args.volume.now.state)))
