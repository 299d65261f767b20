use Rattle.std.proofs.Common.{Some, lit≤}
use Rattle.unix_core.proofs.BootLemmas.{ok_mapped}
use Rattle.v6_run.specs.Outputs.{HasLawfulLogs}
use Rattle.v6_run.proofs.LogLemmas.{lawful_logs}
use Rattle.v6_run.proofs.BootedLemmas.{only_memory2}
use Rattle.v6_run.proofs.run.boot2.Goals as goal

pub returns-clause-lawful : goal.returns-clause-lawful
returns-clause-lawful c =
    ok_mapped c.boot2.result _ (λ kernel. HasLawfulLogs kernel.system)
    (λ kernel is. lawful_logs c.args.image.now (Some c.args.second.now) c.args.core 1 kernel.system c.see_bytes.ensures c.requires.least c.requires.most (lit≤ tt) is)
    c.boot2.ensures.system

pub returns-clause-memory : goal.returns-clause-memory
returns-clause-memory c = only_memory2 c.args.image.now c.args.second.now c.boot2.result c.requires.good c.requires.second c.boot2.ensures.refused
