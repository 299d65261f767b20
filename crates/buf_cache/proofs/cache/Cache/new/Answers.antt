use Rattle.std.proofs.Common.{List, ap, ◌∙◌}
use Rattle.buf_cache.specs.Cached.{cached_blocks}
use Rattle.buf_cache.specs.Slots.{cached_in}
use Rattle.buf_cache.specs.declared.cache.Head.{Head}
use Rattle.buf_cache.proofs.CacheLemmas.{new_blocks}
use Rattle.buf_cache.proofs.cache.Cache.new.Goals as goal

pub returns-clause-blocks : goal.returns-clause-blocks
returns-clause-blocks c =
    ap (λ (hs : List Head). cached_blocks (cached_in c.disk.inside.blocks.items c.in_ok-slots.slots.items hs)) c.new.ensures
    ∙ new_blocks c.disk.inside.blocks.items c.disk.invariant ∙ c.disk.view_is
