use Rattle.std.proofs.Common.{sym, ap, ◌∙◌}
use Rattle.fs_codec.specs.declared.super_block.SuperBlock.{SuperBlock}
use Rattle.fs_blocks.proofs.SuperLemmas.{head_is}
use Rattle.fs_nodes.proofs.one_disk.nodes.see_sizes.Goals as goal

pub returns-clause-sizes : goal.returns-clause-sizes
returns-clause-sizes c =
    let is = head_is c.args.volume.now.state.blocks c.args.volume.now.state.head c.see.ensures.sound.fits in
    let e = c.see.ensures.sizes in
    record {
      i_size = ap (λ (s : SuperBlock). s.i_size) is ∙ sym e.i_size;
      f_size = ap (λ (s : SuperBlock). s.f_size) is ∙ sym e.f_size;
    }
