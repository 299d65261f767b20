use Rattle.std.proofs.Common.{ap}
use Rattle.sys_files.specs.Handed.{handed, with_inodes}
use Rattle.sys_files.proofs.mounting.leave_special.Goals as goal

pub returns-clause-state : goal.returns-clause-state
returns-clause-state c = λ u row image. ap (with_inodes (handed c.args.f.now u row image)) c.let_go.ensures.inodes
