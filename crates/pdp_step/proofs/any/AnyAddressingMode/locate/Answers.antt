-- A register, or an address that is at hand.
use Rattle.std.proofs.Common.{ℕ}
use Rattle.pdp_decode.specs.Decode.{operand_of}
use Rattle.pdp_step.specs.Operands.{formed}
use Rattle.pdp_step.specs.Parts.{at_pc, location_at}
use Rattle.pdp_step.proofs.AnyMode.{register_located, memory_located, memory_unlocated}
use Rattle.pdp_step.proofs.any.AnyAddressingMode.locate.Goals as goal

pub returns-then-is_in_register-clause-formed : goal.returns-then-is_in_register-clause-formed
returns-then-is_in_register-clause-formed g c = register_located (at_pc (g.P.Processor.machine c.args.p.now) c.args.pc.now) g.W.Size.width (operand_of c.args.n) (g.P.Processor.address (g.P.Processor.rest c.args.p.now) 0) (c.is_in_register.ensures.is c.if-is_in_register.true)

pub returns-in-Ok-clause-formed : goal.returns-in-Ok-clause-formed
returns-in-Ok-clause-formed g c = memory_located c.place_at.result (at_pc (g.P.Processor.machine c.reach.new.p) c.reach.new.pc) (formed (at_pc (g.P.Processor.machine c.args.p.now) c.args.pc.now) g.W.Size.width (operand_of c.args.n).mode (operand_of c.args.n).reg) (operand_of c.args.n) c.in-Ok.at (λ (x : ℕ). g.P.Processor.address (g.P.Processor.rest c.reach.new.p) x) (c.is_in_register.ensures.not c.if-is_in_register.false) c.in-Ok.ensures.formed c.place_at.ensures.address c.place_at.ensures.only

pub returns-in-Err-clause-formed : goal.returns-in-Err-clause-formed
returns-in-Err-clause-formed g c = memory_unlocated c.in-Err.halt (at_pc (g.P.Processor.machine c.reach.new.p) c.reach.new.pc) (formed (at_pc (g.P.Processor.machine c.args.p.now) c.args.pc.now) g.W.Size.width (operand_of c.args.n).mode (operand_of c.args.n).reg) (λ (x : ℕ). location_at (operand_of c.args.n).mode (operand_of c.args.n).reg (g.P.Processor.address (g.P.Processor.rest c.reach.new.p) x)) c.in-Err.ensures.formed
