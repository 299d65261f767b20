-- PC is the address.
use Rattle.pdp_decode.specs.Decode.{reg_of, operand_of}
use Rattle.pdp_step.proofs.PcRows.{jumped_done, jumped_halts}
use Rattle.pdp_step.proofs.transfers.jump.Goals as goal

pub returns-in-Ok-clause-row : goal.returns-in-Ok-clause-row
unfolding reg_of
returns-in-Ok-clause-row g c = jumped_done (g.P.Processor.machine c.args.p.now) (g.P.Processor.machine c.address.new.p) (g.P.Processor.machine c.set_reg.new.self) c.address.new.pc c.args.from c.in-Ok.at (operand_of c.args.word) c.address.ensures.image c.in-Ok.ensures.formed c.set_reg.ensures.machine

pub returns-in-Err-clause-row : goal.returns-in-Err-clause-row
returns-in-Err-clause-row g c = jumped_halts (g.P.Processor.machine c.args.p.now) (g.P.Processor.machine c.address.new.p) c.address.new.pc c.args.from (operand_of c.args.word) c.in-Err.halt c.address.ensures.image c.in-Err.ensures.formed
