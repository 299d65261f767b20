use Rattle.std.proofs.Common.{◌∙◌, refl, sym, ap, subst, arith}
use Rattle.v6_base.proofs.Took.{took_nothing}
use Rattle.unix_core.specs.declared.world.World.{World}
use Rattle.unix_core.specs.Parts.{goes_on, IsKernel, IsStill}
use Rattle.unix_core.proofs.SlotWorlds.{kernel_slots, some_left, less, before_is, due_fresh, none_shown, less_sent, less_board, less_any, less_counted}
use Rattle.unix_core.proofs.SlotEnds.{still_takes, still_items}
use Rattle.unix_core.proofs.machine.Machine.count_slot.Goals as goal

pub overflow_sub-self : goal.overflow_sub-self
overflow_sub-self g c = let some = some_left c.args.self.now.world (c.requires.kernel.counted (ap goes_on c.requires.started)) in omega (arith, some)

pub reach-requires-clause-kernel : goal.reach-requires-clause-kernel
reach-requires-clause-kernel g c =
    let m = c.args.self.now in
    subst (IsKernel m.stage) (sym (before_is m.world (c.requires.kernel.counted (ap goes_on c.requires.started)) c.if-self-eq0.true)) c.requires.kernel

pub reach-requires-clause-fresh : goal.reach-requires-clause-fresh
reach-requires-clause-fresh g c =
    due_fresh c.args.self.now.world (c.requires.kernel.counted (ap goes_on c.requires.started)) c.if-self-eq0.true c.requires.fresh

pub returns-then-self-eq0-clause-takes : goal.returns-then-self-eq0-clause-takes
returns-then-self-eq0-clause-takes g c h still =
    c.reach.ensures.takes h (subst (IsStill h)
    (sym (before_is c.args.self.now.world (c.requires.kernel.counted (ap goes_on c.requires.started)) c.if-self-eq0.true)) still)

pub returns-then-self-eq0-clause-items : goal.returns-then-self-eq0-clause-items
returns-then-self-eq0-clause-items g c h still =
    c.reach.ensures.items h (subst (IsStill h)
    (sym (before_is c.args.self.now.world (c.requires.kernel.counted (ap goes_on c.requires.started)) c.if-self-eq0.true)) still)

-- it isn't the one that is due
pub returns-clause-takes : goal.returns-clause-takes
returns-clause-takes g c h still =
    let m = c.args.self.now in
    let w : World = m.world in
    let counted = c.requires.kernel.counted (ap goes_on c.requires.started) in
    still_takes h w (less w counted) still (sym (less_any w counted c.if-self-eq0.false)) (sym (less_board w counted c.if-self-eq0.false))
    (less_sent w counted c.if-self-eq0.false) refl m.stage
    (kernel_slots w (less w counted).slots m.stage (less_counted w counted c.if-self-eq0.false).timed.within (λ goes. less_counted w counted c.if-self-eq0.false) c.requires.kernel) c.requires.started

pub returns-clause-items : goal.returns-clause-items
returns-clause-items g c h still =
    let w : World = c.args.self.now.world in
    let counted = c.requires.kernel.counted (ap goes_on c.requires.started) in
    took_nothing _ _ (still_items h w (less w counted) still (sym (less_any w counted c.if-self-eq0.false))
    (sym (less_board w counted c.if-self-eq0.false)) (less_sent w counted c.if-self-eq0.false) refl
    ∙ none_shown w counted c.if-self-eq0.false)
