-- A register, or what stands at a place.
use Rattle.pdp_decode.specs.Decode.{operand_of}
use Rattle.pdp_step.proofs.AnyMode.{register_stored, memory_stored}
use Rattle.pdp_step.proofs.any.AnyAddressingMode.store.Goals as goal

pub returns-then-is_in_register-clause-stored : goal.returns-then-is_in_register-clause-stored
returns-then-is_in_register-clause-stored g c = register_stored (g.P.Processor.machine c.args.p.now) (g.P.Processor.machine c.hold.new.p) g.W.Size.width c.args.n (g.P.Processor.address (g.P.Processor.rest c.args.p.now) c.args.place) c.args.made (c.is_in_register.ensures.is c.if-is_in_register.true) c.hold.ensures.held

pub returns-clause-stored : goal.returns-clause-stored
returns-clause-stored g c = memory_stored (g.P.Processor.machine c.args.p.now) (g.P.Processor.machine c.store.new.p) g.W.Size.width (operand_of c.args.n) (g.P.Processor.address (g.P.Processor.rest c.args.p.now) c.args.place) c.args.made c.store.result (c.is_in_register.ensures.not c.if-is_in_register.false) c.store.ensures.stored
