-- The word X is added to what a register holds.
use Rattle.std.proofs.Common.{◌%◌}
use Rattle.pdp_decode.specs.Decode.{reg_of}
use Rattle.pdp_step.specs.Registers.{plus}
use Rattle.pdp_step.specs.Machine.{reg_in, passed}
use Rattle.pdp_step.specs.Operands.{formed_at}
use Rattle.pdp_step.proofs.AnyMode.{index_done, index_halts}
use Rattle.pdp_step.proofs.any.index.Goals as goal

pub returns-in-Ok-clause-formed : goal.returns-in-Ok-clause-formed
unfolding reg_of
returns-in-Ok-clause-formed g c = index_done (g.P.Processor.machine c.args.p.now) (g.P.Processor.machine c.set_reg.new.self) c.reg-pc.result c.in-Ok.x c.reg.result (reg_of (c.args.n % 8)) c.reg-pc.ensures c.set_reg.ensures.machine c.reg.ensures c.in-Ok.ensures.word

pub returns-in-Err-clause-formed : goal.returns-in-Err-clause-formed
unfolding reg_of
returns-in-Err-clause-formed g c = index_halts (g.P.Processor.machine c.args.p.now) c.reg-pc.result c.in-Err.halt (λ x. formed_at (passed (g.P.Processor.machine c.args.p.now)) (plus (reg_in (passed (g.P.Processor.machine c.args.p.now)) (reg_of (c.args.n % 8))) x)) c.reg-pc.ensures c.in-Err.ensures.word
