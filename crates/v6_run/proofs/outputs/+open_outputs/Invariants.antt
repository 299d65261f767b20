use Rattle.std.proofs.Common.{length}
use Rattle.v6_run.proofs.outputs.+open_outputs.Given as goal

abbrev pub decreases-open_outputs : goal.decreases-open_outputs
decreases-open_outputs g l = length l.outputs.now
