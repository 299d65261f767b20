use Rattle.std.proofs.Common.{◌∙◌}
use Rattle.sys_procs.proofs.Alive.{area_here}
use Rattle.sys_procs.proofs.procs.Procs.area.Goals as goal

pub returns : goal.returns
returns c = c.area.ensures.u ∙ area_here c.args.self.now c.args.s c.requires
