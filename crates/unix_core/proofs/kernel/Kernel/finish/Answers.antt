use Rattle.std.proofs.Common.{◌≡◌, ◌⊎◌, ◌∙◌, ℕ, List, ap, sym, subst, arith}
use Rattle.fs_codec.specs.Disk.{head}
use Rattle.buf_cache.specs.Blocks.{block_at}
use Rattle.fs_nodes.specs.Disks.{Disks}
use Rattle.unix_core.specs.State.{KernelState}
use Rattle.abstract_unix.specs.Unix.{Phase, Started, Stopped}
use Rattle.abstract_unix.specs.Runs.{finished}
use Rattle.unix_core.proofs.BootLemmas.{stands_below}
use Rattle.unix_core.proofs.BootKernelLemmas.{updated, finished_kernel, updated_system, updated_covered}
use Rattle.unix_core.proofs.CoverLemmas.{kernel_covered}
use Rattle.unix_core.proofs.kernel.Kernel.finish.Goals as goal

pub invariant_of-self : goal.invariant_of-self
invariant_of-self c =
    let m = c.self.inside.machine in
    finished_kernel (updated m.world c.update_all.new.self c.update_all.ensures.store)
    (updated_covered m.world c.update_all.new.self c.update_all.ensures.store
    (kernel_covered m.stage m.world c.self.invariant (subst (λ (p : Phase). (p ≡ Started) ⊎ (p ≡ Stopped)) (ap (λ (v : KernelState). v.phase) (sym c.self.view_is)) c.requires)
    c.see_procs.ensures.rows c.see_procs.ensures.images))
    c.self.invariant.within

pub returns-clause-system : goal.returns-clause-system
returns-clause-system c =
    updated_system c.self.inside.machine.world c.update_all.new.self c.update_all.ensures.store ∙ ap (λ (v : KernelState). finished v.system) c.self.view_is

pub returns-clause-stands : goal.returns-clause-stands
returns-clause-stands c = c.update_all.ensures.stands

pub returns-clause-below : goal.returns-clause-below
returns-clause-below c = λ low.
    let new = c.update_all.new.self in
    let size : (head (block_at new.stored.root)).f_size ≡ (head (block_at c.args.self.now.blocks.root)).f_size =
    ap (λ (l : Disks (List (List ℕ))). (head (block_at l.root)).f_size) c.update_all.ensures.stored ∙ c.update_all.ensures.rest.root.f_size
    ∙ ap (λ (v : KernelState). (head (block_at v.blocks.root)).f_size) c.self.view_is in
    stands_below (block_at new.stored.root) _ (omega (arith, size, low)) (returns-clause-stands c).root

-- What core and the swap area keep is what the system tells.
pub returns-clause-kept : goal.returns-clause-kept
returns-clause-kept c =
    let m = c.self.inside.machine in
    updated_covered m.world c.update_all.new.self c.update_all.ensures.store
    (kernel_covered m.stage m.world c.self.invariant (subst (λ (p : Phase). (p ≡ Started) ⊎ (p ≡ Stopped)) (ap (λ (v : KernelState). v.phase) (sym c.self.view_is)) c.requires)
    c.see_procs.ensures.rows c.see_procs.ensures.images)

-- The bytes of both are as they were.
pub returns-clause-core : goal.returns-clause-core
returns-clause-core c = ap (λ (v : KernelState). v.core) c.self.view_is

pub returns-clause-swap : goal.returns-clause-swap
returns-clause-swap c = ap (λ (v : KernelState). v.swap) c.self.view_is
