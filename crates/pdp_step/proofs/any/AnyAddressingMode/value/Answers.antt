-- A register, or what stands at an address.
use Rattle.pdp_step.proofs.AnyMode.{register_read, memory_read, memory_unread}
use Rattle.pdp_step.proofs.any.AnyAddressingMode.value.Goals as goal

pub returns-then-is_in_register-clause-source : goal.returns-then-is_in_register-clause-source
returns-then-is_in_register-clause-source g c = register_read (g.P.Processor.machine c.args.p.now) (g.P.Processor.machine c.set_pc.new.p) c.args.pc.now c.held.result c.args.n g.W.Size.width c.set_pc.ensures.machine (c.is_in_register.ensures.is c.if-is_in_register.true) c.held.ensures.value

pub returns-in-Ok-clause-source : goal.returns-in-Ok-clause-source
returns-in-Ok-clause-source g c = memory_read (g.P.Processor.machine c.args.p.now) (g.P.Processor.machine c.reach.new.p) c.args.pc.now c.reach.new.pc c.in-Ok.at c.args.n g.W.Size.width c.read_at.result c.in-Ok.ensures.formed c.read_at.ensures.value

pub returns-in-Err-clause-source : goal.returns-in-Err-clause-source
returns-in-Err-clause-source g c = memory_unread (g.P.Processor.machine c.args.p.now) (g.P.Processor.machine c.reach.new.p) c.args.pc.now c.reach.new.pc c.args.n g.W.Size.width c.in-Err.halt c.in-Err.ensures.formed
