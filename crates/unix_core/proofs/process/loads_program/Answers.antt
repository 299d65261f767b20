use Rattle.std.proofs.Common.{sym}
use Rattle.unix_core.proofs.WaitLemmas.{not_exec}
use Rattle.unix_core.proofs.process.loads_program.Goals as goal

pub returns-in_default : goal.returns-in_default
returns-in_default c = sym (not_exec c.args.call c.args.answer c.in_default.not-Exec)
