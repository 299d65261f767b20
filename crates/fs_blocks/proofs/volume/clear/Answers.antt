-- a write of 512 zeros leaves zeros alone
use Rattle.std.proofs.Common.{◌∙◌, arith}
use Rattle.buf_cache.specs.Cached.{cached_blocks}
use Rattle.fs_blocks.proofs.BlockLemmas.{patched_blank, changed_block}
use Rattle.fs_blocks.proofs.volume.clear.Goals as goal

pub returns-clause-zeros : goal.returns-clause-zeros
returns-clause-zeros c =
    let d = c.change.ensures.form in
    changed_block (cached_blocks c.args.cache.now) (cached_blocks c.change.new.self) c.args.b _ c.change.ensures.blocks (let h = d.count in let r = c.requires in omega (arith, h, r)) ∙ patched_blank _ (d.whole c.args.b c.requires)
