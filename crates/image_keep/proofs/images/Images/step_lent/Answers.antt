use Rattle.std.proofs.Common.{rules, ◌∙◌, ap}
use Rattle.image_keep.specs.Lent.{Lent}
use Rattle.image_keep.proofs.Executed.{fixed_after, outcome_is, kept_after, written_after}
use Rattle.image_keep.proofs.images.Images.step_lent.Goals as goal

pub set_registers_at-requires-clause-fixed : goal.set_registers_at-requires-clause-fixed
set_registers_at-requires-clause-fixed c =
    let lent = c.space_at-space in
    let done = c.step-outcome in
    let loan = ap (λ (l : Lent). l.loan) done.ensures.rest ∙ lent.ensures.loan in
    fixed_after c.args.self.now lent.result.images.now done.new.space.images.now c.args.fixed.now lent.result.slot done.new.space.slot _ _
    c.requires lent.ensures.images lent.ensures.slot done.ensures.rest _ (search (rules, loan)) done.ensures.form

pub returns-clause-outcome : goal.returns-clause-outcome
returns-clause-outcome c =
    let lent = c.space_at-space in
    let done = c.step-outcome in
    outcome_is c.args.self.now lent.result.images.now done.new.space.images.now c.args.fixed.now lent.result.slot done.new.space.slot _ _
    c.requires lent.ensures.images lent.ensures.slot done.ensures.rest _ _ done.new.regs done.result
    c.registers_at-regs.ensures.r c.registers_at-regs.ensures.cc done.ensures.step

pub returns-clause-kept : goal.returns-clause-kept
returns-clause-kept c =
    let lent = c.space_at-space in
    let done = c.step-outcome in
    let loan = ap (λ (l : Lent). l.loan) done.ensures.rest ∙ lent.ensures.loan in
    kept_after c.args.self.now lent.result.images.now done.new.space.images.now c.args.fixed.now lent.result.slot done.new.space.slot _ _
    c.requires lent.ensures.images lent.ensures.slot done.ensures.rest _ _ done.new.regs done.result
    c.registers_at-regs.ensures.r c.registers_at-regs.ensures.cc done.ensures.step
    _ _ (search (rules, loan)) c.set_registers_at.ensures.kept

pub returns-clause-written : goal.returns-clause-written
returns-clause-written c =
    let lent = c.space_at-space in
    let done = c.step-outcome in
    let loan = ap (λ (l : Lent). l.loan) done.ensures.rest ∙ lent.ensures.loan in
    written_after c.args.self.now lent.result.images.now done.new.space.images.now c.args.fixed.now lent.result.slot done.new.space.slot _ _
    c.requires lent.ensures.images lent.ensures.slot done.ensures.rest _ _ done.new.regs done.result
    c.registers_at-regs.ensures.r c.registers_at-regs.ensures.cc done.ensures.step
    _ _ (search (rules, loan)) c.set_registers_at.ensures.outside
