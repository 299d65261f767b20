-- The link is pushed, and PC is the address.
use Rattle.std.proofs.Common.{◌/◌, ◌%◌, ℕ, ap, ◌∙◌}
use Rattle.pdp_decode.specs.Decode.{reg_of, operand_of}
use Rattle.pdp_step.proofs.PcRows.{linked, link_halts}
use Rattle.pdp_step.specs.Registers.{minus}
use Rattle.pdp_step.proofs.transfers.jump_to_subroutine.Goals as goal

pub returns-in-Some-clause-row : goal.returns-in-Some-clause-row
returns-in-Some-clause-row g c = rw c.halted.ensures.is (linked c.push_link.result (g.P.Processor.machine c.args.p.now) (g.P.Processor.machine c.address.new.p) (g.P.Processor.machine c.push_link.new.p) c.address.new.pc c.args.from c.in-Ok.at (reg_of (c.args.word / 64 % 8)) (operand_of c.args.word) c.address.ensures.image c.in-Ok.ensures.formed c.push_link.ensures.row)

pub returns-in-Err-clause-row : goal.returns-in-Err-clause-row
returns-in-Err-clause-row g c = link_halts (g.P.Processor.machine c.args.p.now) (g.P.Processor.machine c.address.new.p) c.address.new.pc c.args.from (reg_of (c.args.word / 64 % 8)) (operand_of c.args.word) c.in-Err.halt c.address.ensures.image c.in-Err.ensures.formed

pub push_link-requires-clause-top : goal.push_link-requires-clause-top
unfolding reg_of
push_link-requires-clause-top g c = c.in-Some.ensures.address ∙ ap (λ (x : ℕ). minus x 2) c.reg-sp.ensures
