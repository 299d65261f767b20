use Rattle.std.proofs.Common.{◌∙◌, ◌*◌, ap}
use Rattle.fs_codec.specs.Stands.{store_of}
use Rattle.fs_codec.specs.declared.super_block.SuperBlock.{SuperBlock}
use Rattle.unix_core.proofs.boot.inode_count.Goals as goal

pub returns-clause-count : goal.returns-clause-count
unfolding store_of
returns-clause-count c =
    ap (λ n. n * c.from-2.result) c.from.ensures ∙ ap (λ n. 16 * n) c.from-2.ensures
    ∙ ap (λ (h : SuperBlock). 16 * h.i_size) c.super_in.ensures
