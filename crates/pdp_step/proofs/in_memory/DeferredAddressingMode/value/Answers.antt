-- The word or byte that a register names.
use Rattle.pdp_step.proofs.Reached.{value_deferred}
use Rattle.pdp_step.proofs.in_memory.DeferredAddressingMode.value.Goals as goal

pub returns-clause-source : goal.returns-clause-source
returns-clause-source g c = value_deferred (g.P.Processor.machine c.args.p.now) c.args._pc.now g.W.Size.width c.args.n c.reg-at.result c.read_at.result c.requires.way c.reg-at.ensures c.read_at.ensures.value
