use Rattle.sys_procs.proofs.ArgsLemmas.{few}
use Rattle.sys_procs.proofs.arguments.Arguments.count.Goals as goal

pub returns-clause-few : goal.returns-clause-few
returns-clause-few c = few (c.self.inside) c.self.invariant
