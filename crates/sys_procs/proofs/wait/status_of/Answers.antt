use Rattle.std.proofs.Common.{◌∙◌}
use Rattle.sys_procs.proofs.Graves.{tells}
use Rattle.sys_procs.proofs.wait.status_of.Goals as goal

pub returns : goal.returns
returns c = λ dead sized e. c.word_at.ensures ∙ (tells c.args.half.now dead sized e).status
