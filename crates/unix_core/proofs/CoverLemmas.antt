-- What is kept is what the world tells: where the parts belong together, and where a process has neither its old image nor its new
-- one.
use Rattle.std.proofs.Common.{◌≡◌, ◌⊎◌, ℕ, refl, sym, inl, inr}
use Rattle.proc_tab.specs.Processes.{AreProcesses}
use Rattle.image_keep.specs.Kept.{IsKept}
use Rattle.sys_procs.specs.Handed.{AreProcs, AreBare}
use Rattle.abstract_unix.specs.Unix.{Started, Stopped}
use Rattle.unix_core.specs.declared.world.World.{World}
use Rattle.unix_core.specs.declared.machine.Stage.{Stage}
use Rattle.unix_core.specs.declared.machine.Stage.TheVariants as stage
use Rattle.unix_core.specs.Parts.{system_at, phase_of, IsCovered, IsKernel}
use Rattle.unix_core.proofs.Memories.{kept_is, bare_is}

pub agree_covered : (w : World) → AreProcs w.procs → AreProcesses w.procs.rows → IsKept w.procs.images.kept → IsCovered w
agree_covered w agree processes holds =
    sym (kept_is w.procs.rows w.procs.table w.procs.images.kept holds processes agree (system_at w) refl refl refl)

-- Where a call on processes stops, the parts belong together, or its process has neither image.
pub stopped_covered : (now : World) (s : ℕ) → AreProcs now.procs ⊎ AreBare now.procs s → AreProcesses now.procs.rows → IsKept now.procs.images.kept → IsCovered now
stopped_covered now s (inl whole) processes holds = agree_covered now whole processes holds
stopped_covered now s (inr bare) processes holds =
    sym (bare_is now.procs.rows now.procs.table now.procs.images.kept holds s processes bare (system_at now) refl refl refl)

-- Where a run has been started, or has stopped, what is kept is what is told.
pub kernel_covered : (at : Stage) (w : World) → IsKernel at w → (phase_of at ≡ Started) ⊎ (phase_of at ≡ Stopped)
    → AreProcesses w.procs.rows → IsKept w.procs.images.kept → IsCovered w
kernel_covered stage.New w kernel (inl f) processes holds = absurd (cc f)
kernel_covered stage.New w kernel (inr f) processes holds = absurd (cc f)
kernel_covered (stage.Running x) w kernel f processes holds = agree_covered w (kernel.running x refl).user.ready.good.agree processes holds
kernel_covered stage.Resting w kernel f processes holds = agree_covered w (kernel.resting refl).good.agree processes holds
kernel_covered stage.Stopped w kernel f processes holds = kernel.stopped refl
kernel_covered stage.Finished w kernel (inl f) processes holds = absurd (cc f)
kernel_covered stage.Finished w kernel (inr f) processes holds = absurd (cc f)
