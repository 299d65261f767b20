use Rattle.std.proofs.Common.{length}
use Rattle.v6_run.proofs.outputs.+finish_outputs.Given as goal

abbrev pub decreases-finish_outputs : goal.decreases-finish_outputs
decreases-finish_outputs g l = length l.outputs.now
