-- A register, or what stands at a place.
use Rattle.pdp_decode.specs.Decode.{operand_of}
use Rattle.pdp_step.proofs.AnyMode.{register_got, memory_got}
use Rattle.pdp_step.proofs.any.AnyAddressingMode.get.Goals as goal

pub returns-then-is_in_register-clause-value : goal.returns-then-is_in_register-clause-value
returns-then-is_in_register-clause-value g c = register_got (g.P.Processor.machine c.args.p.now) g.W.Size.width c.args.n c.held.result (g.P.Processor.address (g.P.Processor.rest c.args.p.now) c.args.place) (c.is_in_register.ensures.is c.if-is_in_register.true) c.held.ensures.value

pub returns-clause-value : goal.returns-clause-value
returns-clause-value g c = memory_got (g.P.Processor.machine c.args.p.now) g.W.Size.width (operand_of c.args.n) (g.P.Processor.address (g.P.Processor.rest c.args.p.now) c.args.place) c.load.result (c.is_in_register.ensures.not c.if-is_in_register.false) c.load.ensures.value
