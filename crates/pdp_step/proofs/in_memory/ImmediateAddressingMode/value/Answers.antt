-- What stands in the program.
use Rattle.pdp_step.proofs.Reached.{value_immediate}
use Rattle.pdp_step.proofs.in_memory.ImmediateAddressingMode.value.Goals as goal

pub returns-clause-source : goal.returns-clause-source
returns-clause-source g c = value_immediate (g.P.Processor.machine c.args.p.now) c.args.pc.now g.W.Size.width c.args._n c.in_ok-value.value (g.met.P.Processor.eight c.args.p.now) c.requires.way c.in_ok-value.ensures.value
