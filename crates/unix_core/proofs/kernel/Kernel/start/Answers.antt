use Rattle.std.proofs.Common.{◌≡◌, ◌∙◌, ap, subst, sym}
use Rattle.v6_base.specs.Trace.{Took}
use Rattle.sys_files.specs.declared.files.Files.{Files}
use Rattle.abstract_unix.specs.Unix.{System}
use Rattle.image_keep.specs.State.{ImagesState}
use Rattle.unix_core.specs.State.{KernelState}
use Rattle.unix_core.specs.declared.machine.Stage.{Stage}
use Rattle.unix_core.specs.Parts.{phase_of, goes_on}
use Rattle.abstract_unix.specs.Endings.{phase_after}
use Rattle.abstract_unix.specs.Runs.{start_of}
use Rattle.unix_core.proofs.SwapLemmas.{first_goes}
use Rattle.unix_core.proofs.BootKernelLemmas.{new_stage, start_items}
use Rattle.abstract_unix.specs.Private.{AllUndisturbed}
use Rattle.unix_core.proofs.PrivateLemmas.{start_private}
use Rattle.abstract_unix.specs.Shared.{AllTextsStay}
use Rattle.unix_core.proofs.StayingLemmas.{start_stays}
use Rattle.unix_core.proofs.kernel.Kernel.start.Goals as goal
use Rattle.unix_core.proofs.kernel.Kernel.start.Given as given
use Rattle.unix_core.proofs.kernel.Kernel.start.Goals.{After-first_pass-ran}

pub first_pass-ran-requires-clause-good : goal.first_pass-ran-requires-clause-good
first_pass-ran-requires-clause-good g c =
    let m = c.self.inside.machine in
    let new = new_stage m.stage (ap (λ (v : KernelState). v.phase) c.self.view_is ∙ c.requires) in
    (c.self.invariant.new new).good

pub first_pass-ran-requires-clause-runs : goal.first_pass-ran-requires-clause-runs
first_pass-ran-requires-clause-runs g c =
    let m = c.self.inside.machine in
    let new = new_stage m.stage (ap (λ (v : KernelState). v.phase) c.self.view_is ∙ c.requires) in
    (c.self.invariant.new new).runs

pub first_pass-ran-requires-clause-counted : goal.first_pass-ran-requires-clause-counted
first_pass-ran-requires-clause-counted g c =
    let m = c.self.inside.machine in
    let new = new_stage m.stage (ap (λ (v : KernelState). v.phase) c.self.view_is ∙ c.requires) in
    c.self.invariant.counted (ap (λ (t : Stage). goes_on (phase_of t)) new)

pub returns-clause-next : goal.returns-clause-next
returns-clause-next g c =
    c.first_pass-ran.ensures.takes.system
    ∙ ap (λ (v : KernelState). (start_of v.system).next) c.self.view_is

pub returns-clause-private : goal.returns-clause-private
returns-clause-private g c =
    let m : System = c.args.self.now.system in
    subst (λ (n : System). AllUndisturbed m n) (sym (returns-clause-next g c)) (start_private m)

pub returns-clause-texts : goal.returns-clause-texts
returns-clause-texts g c =
    let m : System = c.args.self.now.system in
    subst (λ (n : System). AllTextsStay m n) (sym (returns-clause-next g c)) (start_stays m)

pub returns-clause-items : goal.returns-clause-items
returns-clause-items g c =
    let m = c.self.inside.machine in
    let new = new_stage m.stage (ap (λ (v : KernelState). v.phase) c.self.view_is ∙ c.requires) in
    subst (λ (v : KernelState). Took (g.T.Trace.taken c.args.trace.now) (start_of v.system).items (g.T.Trace.taken c.first_pass-ran.new.trace)) c.self.view_is
    (start_items m.world (c.self.invariant.new new).good _ _ _ c.entry.ensures.took c.first_pass-ran.ensures.items)

pub returns-clause-phase : goal.returns-clause-phase
returns-clause-phase g c =
    let m = c.self.inside.machine in
    let new = new_stage m.stage (ap (λ (v : KernelState). v.phase) c.self.view_is ∙ c.requires) in
    c.first_pass-ran.ensures.takes.phase ∙ ap phase_after (first_goes m.world (c.self.invariant.new new))

pub returns-clause-goes : goal.returns-clause-goes
returns-clause-goes g c =
    let m = c.self.inside.machine in
    let new = new_stage m.stage (ap (λ (v : KernelState). v.phase) c.self.view_is ∙ c.requires) in
    ap (λ (v : KernelState). (start_of v.system).ending) (sym c.self.view_is) ∙ first_goes m.world (c.self.invariant.new new)

-- The swapper's pass leaves the disks alone.
pub returns-clause-blocks : goal.returns-clause-blocks
returns-clause-blocks g c = ap (λ (f : Files). f.tree.nodes.blocks) c.first_pass-ran.ensures.files ∙ ap (λ (v : KernelState). v.blocks) c.self.view_is

pub returns-clause-stored : goal.returns-clause-stored
returns-clause-stored g c = ap (λ (f : Files). f.tree.nodes.stored) c.first_pass-ran.ensures.files ∙ ap (λ (v : KernelState). v.stored) c.self.view_is

-- Nobody is out of core: no image moves.
still : (g : given.Over) (c : After-first_pass-ran g) → c.first_pass-ran.new.self.world.procs.images ≡ c.self.inside.machine.world.procs.images
still g c =
    let m = c.self.inside.machine in
    let new = new_stage m.stage (ap (λ (v : KernelState). v.phase) c.self.view_is ∙ c.requires) in
    c.first_pass-ran.ensures.images (c.self.invariant.new new).nobody_out

pub returns-clause-core : goal.returns-clause-core
returns-clause-core g c = ap (λ (i : ImagesState). i.core) (still g c) ∙ ap (λ (v : KernelState). v.core) c.self.view_is

pub returns-clause-swap : goal.returns-clause-swap
returns-clause-swap g c = ap (λ (i : ImagesState). i.swap) (still g c) ∙ ap (λ (v : KernelState). v.swap) c.self.view_is

pub returns-clause-frame : goal.returns-clause-frame
returns-clause-frame g c = g.met.T.Trace.goes_on _ _ _ c.entry.ensures.frame c.first_pass-ran.ensures.frame
