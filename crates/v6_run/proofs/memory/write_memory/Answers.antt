use Rattle.std.proofs.Common.{◌∙◌, subst}
use Rattle.image_keep.specs.Holds.{MemoryHolds}
use Rattle.v6_run.proofs.MemoryLemmas.{kept_finished, memory_held}
use Rattle.v6_run.proofs.memory.write_memory.Goals as goal

pub returns-clause-written : goal.returns-clause-written
returns-clause-written g c =
    let core = c.core-core.result.now in
    let swap = c.swap-swap.result.now in
    let is = c.finish.ensures.kept ∙ kept_finished _ _ c.finish.ensures.system in
    (core, swap, subst (MemoryHolds core swap) is (memory_held core swap _ _ _ c.core-core.ensures.bytes c.swap-swap.ensures.bytes c.core-core.ensures.holds), c.write_both.ensures.whole, c.write_both.ensures.front)
