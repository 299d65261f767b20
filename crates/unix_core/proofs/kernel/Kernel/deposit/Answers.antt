use Rattle.std.proofs.Common.{◌≡◌, ◌∙◌, if◌then◌else◌, slice_set, ap}
use Rattle.image_keep.specs.State.{ImagesState}
use Rattle.abstract_unix.specs.Unix.{Started}
use Rattle.unix_core.specs.State.{KernelState}
use Rattle.unix_core.specs.Memory.{kept_in}
use Rattle.unix_core.specs.Parts.{phase_of}
use Rattle.unix_core.proofs.Memories.{told}
use Rattle.unix_core.proofs.PutLemmas.{with_images}
use Rattle.unix_core.proofs.TakenLemmas.{state_of}
use Rattle.unix_core.proofs.DepositLemmas.{deposit_kernel, put_system, nobodys_in}
use Rattle.unix_core.proofs.kernel.Kernel.deposit.Goals as goal

pub invariant_of-self : goal.invariant_of-self
invariant_of-self c =
    let m = c.self.inside.machine in
    let started : phase_of m.stage ≡ Started = ap (λ (v : KernelState). v.phase) c.self.view_is ∙ c.requires.phase in
    deposit_kernel m.stage m.world c.deposit-is_put.new.self c.args.swap c.args.at c.args.b started c.self.invariant c.see_procs.ensures.images c.deposit-is_put.result c.deposit-is_put.ensures.put c.deposit-is_put.ensures.same

pub returns-clause-next : goal.returns-clause-next
returns-clause-next c put =
    let m = c.self.inside.machine in
    let started : phase_of m.stage ≡ Started = ap (λ (v : KernelState). v.phase) c.self.view_is ∙ c.requires.phase in
    let is : m.world.procs.images.kept ≡ kept_in c.args.self.now.system =
    told m.stage m.world c.self.invariant started c.see_procs.ensures.rows c.see_procs.ensures.images ∙ ap (λ (v : KernelState). kept_in v.system) c.self.view_is in
    put_system m.stage m.world c.deposit-is_put.new.self c.args.swap c.args.at c.args.b started c.self.invariant c.see_procs.ensures.images
    c.args.self.now.system (ap (λ (v : KernelState). v.system) c.self.view_is) is (c.deposit-is_put.ensures.put put)

-- One byte of core or of the swap area is another one.
pub returns-clause-core : goal.returns-clause-core
returns-clause-core c put =
    c.deposit-is_put.ensures.core put ∙ ap (λ (v : KernelState). if c.args.swap then v.core else slice_set v.core c.args.at c.args.b) c.self.view_is

pub returns-clause-area : goal.returns-clause-area
returns-clause-area c put =
    c.deposit-is_put.ensures.area put ∙ ap (λ (v : KernelState). if c.args.swap then slice_set v.swap c.args.at c.args.b else v.swap) c.self.view_is

pub returns-clause-same : goal.returns-clause-same
returns-clause-same c none =
    let m = c.self.inside.machine in
    ap (λ (x : ImagesState). state_of m.stage (with_images m.world x)) (c.deposit-is_put.ensures.same none) ∙ c.self.view_is

pub returns-clause-nobodys : goal.returns-clause-nobodys
returns-clause-nobodys c none =
    let m = c.self.inside.machine in
    let started : phase_of m.stage ≡ Started = ap (λ (v : KernelState). v.phase) c.self.view_is ∙ c.requires.phase in
    let is : m.world.procs.images.kept ≡ kept_in c.args.self.now.system =
    told m.stage m.world c.self.invariant started c.see_procs.ensures.rows c.see_procs.ensures.images ∙ ap (λ (v : KernelState). kept_in v.system) c.self.view_is in
    nobodys_in m.stage m.world c.deposit-is_put.new.self c.args.swap c.args.at c.args.b started c.self.invariant c.see_procs.ensures.images c.args.self.now.system is (c.deposit-is_put.ensures.nobodys none)

pub returns-clause-told : goal.returns-clause-told
returns-clause-told c =
    let m = c.self.inside.machine in
    let started : phase_of m.stage ≡ Started = ap (λ (v : KernelState). v.phase) c.self.view_is ∙ c.requires.phase in
    told m.stage (record m.world { procs = record m.world.procs { images = c.deposit-is_put.new.self } }) (invariant_of-self c) started c.see_procs-2.ensures.rows c.see_procs-2.ensures.images
