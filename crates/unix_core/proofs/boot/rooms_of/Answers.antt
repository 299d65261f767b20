use Rattle.std.proofs.Common.{◌*◌, ◌∙◌, ℕ, length, sym, ap, subst, arith}
use Rattle.std.proofs.lemmas.List.{length-replicate}
use Rattle.image_keep.specs.Kept.{Kept, Has, first_kept}
use Rattle.unix_core.specs.Parts.{first_held, AreFirst}
use Rattle.unix_core.proofs.BootFirstLemmas.{first_image}
use Rattle.unix_core.proofs.FirstBytes.{first_core}
use Rattle.unix_core.proofs.boot.rooms_of.Goals as goal
use Rattle.unix_core.proofs.boot.rooms_of.Goals.{After-first_procs-procs}

pub first_procs-procs-requires-clause-least : goal.first_procs-procs-requires-clause-least
first_procs-procs-requires-clause-least c =
    let core = ap (λ (k : Kept). k.core) c.in_ok-images.ensures.kept in
    let least = c.requires.least in
    omega (arith, core, least)

pub first_procs-procs-requires-clause-empty : goal.first_procs-procs-requires-clause-empty
first_procs-procs-requires-clause-empty c =
    c.in_ok-images.ensures.kept ∙ ap first_kept (sym (ap (λ (k : Kept). k.core) c.in_ok-images.ensures.kept))

pub first_procs-procs-requires-clause-size : goal.first_procs-procs-requires-clause-size
first_procs-procs-requires-clause-size c =
    ap length c.in_ok-images.ensures.core ∙ length-replicate {A = ℕ} (64 * c.args.core) 0
    ∙ ap (λ n. 64 * n) (sym (ap (λ (k : Kept). k.core) c.in_ok-images.ensures.kept))

first : (c : After-first_procs-procs) → AreFirst c.first_procs-procs.result c.args.core c.args.time
first c =
    subst (λ n. AreFirst c.first_procs-procs.result n c.args.time) (ap (λ (k : Kept). k.core) c.in_ok-images.ensures.kept)
    c.first_procs-procs.ensures.first

pub returns-clause-procs : goal.returns-clause-procs
returns-clause-procs c = first (goal.at.returns-clause-procs c).After-first_procs-procs

pub returns-clause-swap : goal.returns-clause-swap
returns-clause-swap c = c.first_procs-procs.ensures.swap ∙ c.in_ok-images.ensures.swap ∙ c.deref.ensures.value ∙ c.in_ok-swap.ensures.bytes

pub returns-clause-core : goal.returns-clause-core
returns-clause-core c =
    let kept = (first (goal.at.returns-clause-core c).After-first_procs-procs).kept in
    let has : Has c.first_procs-procs.result.images.kept 1 first_held = subst (λ k. Has k 1 first_held) (sym kept) (first_image c.args.core) in
    first_core c.args.core c.first_procs-procs.result.images.core _ _ c.requires.least c.see_memory.ensures.in_core has
    c.in_ok-images.ensures.core c.first_procs-procs.ensures.core
