-- What stands at an absolute address.
use Rattle.pdp_step.proofs.Reached.{value_absolute}
use Rattle.pdp_step.proofs.in_memory.AbsoluteAddressingMode.value.Goals as goal

pub returns-clause-source : goal.returns-clause-source
returns-clause-source g c = rw c.in_ok-at.ensures.after (value_absolute (g.P.Processor.machine c.args.p.now) c.args.pc.now g.W.Size.width c.args._n c.in_ok-at.at c.read_at.result (g.met.P.Processor.eight c.args.p.now) c.requires.way c.in_ok-at.ensures.word c.read_at.ensures.value)
