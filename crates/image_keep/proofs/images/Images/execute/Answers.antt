use Rattle.std.proofs.Common.{◌∙◌, ◌-◌, refl, sym}
use Rattle.pdp_step.specs.Instruction.{instr}
use Rattle.image_keep.specs.Running.{machine_in}
use Rattle.image_keep.proofs.Executed.{outcome_same, kept_same}
use Rattle.image_keep.proofs.SteppedNear.{stepped_from, stepped_there}
use Rattle.image_keep.proofs.images.Images.execute.Goals as goal

pub returns-then-execute_near-clause-next : goal.returns-then-execute_near-clause-next
returns-then-execute_near-clause-next c = ((λ _. c.execute_near.ensures.outcome c.if-execute_near.true), (λ _. refl))

pub returns-clause-next : goal.returns-clause-next
returns-clause-next c =
    let same = outcome_same c.args.self.now.kept c.execute_near.new.self.kept c.args.fixed.now (c.execute_near.ensures.kept c.if-execute_near.false) in
    ((λ t. sym same ∙ c.execute_apart.ensures.next.0 t), (λ e. c.execute_apart.ensures.next.1 (same ∙ e)))

pub returns-clause-outcome : goal.returns-clause-outcome
returns-clause-outcome c ill =
    c.execute_apart.ensures.outcome ill ∙ outcome_same c.args.self.now.kept c.execute_near.new.self.kept c.args.fixed.now (c.execute_near.ensures.kept c.if-execute_near.false)

pub returns-clause-kept : goal.returns-clause-kept
returns-clause-kept c =
    c.execute_apart.ensures.kept ∙ kept_same c.args.self.now.kept c.execute_near.new.self.kept c.args.fixed.now (c.execute_near.ensures.kept c.if-execute_near.false)

pub returns-then-execute_near-clause-written : goal.returns-then-execute_near-clause-written
returns-then-execute_near-clause-written c =
    stepped_there c.args.self.now c.execute_near.new.self c.args.fixed.now (instr (machine_in c.args.self.now.kept c.args.fixed.now.slot)).machine
    c.requires (c.execute_near.ensures.written c.if-execute_near.true)

pub returns-clause-written : goal.returns-clause-written
returns-clause-written c =
    stepped_there c.args.self.now c.execute_apart.new.self c.args.fixed.now (instr (machine_in c.args.self.now.kept c.args.fixed.now.slot)).machine
    c.requires
    (stepped_from c.args.self.now c.execute_near.new.self c.execute_apart.new.self c.args.fixed.now.slot
    (c.args.fixed.now.starts.image - 1024) (c.execute_near.ensures.kept c.if-execute_near.false)
    (c.execute_near.ensures.same c.if-execute_near.false) c.execute_apart.ensures.written)
