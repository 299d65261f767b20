use Rattle.std.proofs.Common.{◌∙◌}
use Rattle.sys_procs.proofs.Alive.{area_here}
use Rattle.sys_procs.proofs.procs.Procs.area_bytes.Goals as goal

pub returns-clause-read : goal.returns-clause-read
returns-clause-read c = c.area_bytes.ensures.read ∙ area_here c.args.self.now c.args.s c.requires
