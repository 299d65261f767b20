use Rattle.std.proofs.Common.{subst}
use Rattle.buf_cache.specs.Blocks.{IsDisk}
use Rattle.buf_cache.specs.Cached.{Cached, cached_blocks}
use Rattle.buf_cache.specs.Slots.{cached_in}
use Rattle.buf_cache.proofs.CacheLemmas.{blocks_are_disk}
use Rattle.buf_cache.proofs.cache.Cache.on_disk.Goals as goal

pub returns-clause-form : goal.returns-clause-form
returns-clause-form c =
    let P : Cached → Type 0 = λ v. IsDisk (cached_blocks v) in
    subst P c.self.view_is (blocks_are_disk (cached_in c.self.inside.disk.items c.self.inside.slots.items c.self.inside.heads.items) c.self.invariant.cached)
