use Rattle.std.proofs.Common.{◌∙◌, ap, sym, subst}
use Rattle.std.proofs.lemmas.Bool.{eq-eqb, ne_eqb}
use Rattle.u_area.specs.declared.area.UArea.{UArea}
use Rattle.unix_core.specs.declared.world.World.{World}
use Rattle.unix_core.specs.declared.machine.Stage.{Stage}
use Rattle.unix_core.specs.declared.machine.Stage.TheVariants as stage
use Rattle.unix_core.specs.Parts.{IsKernel}
use Rattle.unix_core.proofs.WorldLemmas.{ready_alive}
use Rattle.unix_core.proofs.MachineLemmas.{user_is, known_kernel, calls_kernel}
use Rattle.unix_core.proofs.machine.Machine.enter_user.Goals as goal

pub area_bytes-requires : goal.area_bytes-requires
area_bytes-requires c = (ready_alive c.args.self.now.world c.args.s c.requires.ready).image

pub stays-requires : goal.stays-requires
stays-requires c = (ready_alive c.args.self.now.world c.args.s c.requires.ready).image

pub begin-requires : goal.begin-requires
begin-requires c = (ready_alive c.args.self.now.world c.args.s c.requires.ready).image

pub returns-then-pending_call-ne-NOTHING_PENDING-clause-kernel : goal.returns-then-pending_call-ne-NOTHING_PENDING-clause-kernel
returns-then-pending_call-ne-NOTHING_PENDING-clause-kernel c =
    let w : World = c.args.self.now.world in
    let s = c.args.s in
    subst (λ (x : Stage). IsKernel x c.rest.new.self.world) (sym c.rest.ensures.stage)
    (subst (IsKernel stage.Resting) (sym c.rest.ensures.world)
    (calls_kernel w s c.requires.ready c.requires.settled
    (user_is w s _ (ready_alive w s c.requires.ready) (ne_eqb _ 0 (λ e. c.if-pending_call-ne-NOTHING_PENDING.true (c.pending_call.ensures ∙ (ap (λ (u : UArea). u.pending) c.area_bytes.ensures.read ∙ e))))) c.requires.counted))

pub returns-then-not-stays-clause-kernel : goal.returns-then-not-stays-clause-kernel
returns-then-not-stays-clause-kernel c =
    let w : World = c.args.self.now.world in
    let s = c.args.s in
    subst (IsKernel c.begin.new.self.stage) (sym c.begin.ensures.world)
    (known_kernel c.begin.new.self.stage w s c.begin.ensures.known c.requires.ready c.requires.settled
    (user_is w s _ (ready_alive w s c.requires.ready) (eq-eqb _ 0 (ap (λ (u : UArea). u.pending) (sym c.area_bytes.ensures.read) ∙ (sym c.pending_call.ensures ∙ c.if-pending_call-ne-NOTHING_PENDING.false)))) c.requires.counted)

pub returns-else-not-stays-clause-kernel : goal.returns-else-not-stays-clause-kernel
returns-else-not-stays-clause-kernel c =
    let w : World = c.args.self.now.world in
    let s = c.args.s in
    known_kernel c.args.self.now.stage w s (c.stays.ensures c.if-not-stays.false) c.requires.ready c.requires.settled
    (user_is w s _ (ready_alive w s c.requires.ready) (eq-eqb _ 0 (ap (λ (u : UArea). u.pending) (sym c.area_bytes.ensures.read) ∙ (sym c.pending_call.ensures ∙ c.if-pending_call-ne-NOTHING_PENDING.false)))) c.requires.counted
