use Rattle.std.proofs.Common.{◌≡◌, ◌⊎◌, None, Some, IfOk, sym, subst}
use Rattle.abstract_unix.specs.Runs.{boots}
use Rattle.unix_core.proofs.BootLemmas.{ok_mapped}
use Rattle.v6_run.specs.Outputs.{HasLawfulLogs}
use Rattle.v6_run.proofs.LinePorts.{few_lines}
use Rattle.v6_run.proofs.LogLemmas.{lawful_logs}
use Rattle.v6_run.proofs.BootedLemmas.{one_or_eight, only_memory}
use Rattle.v6_run.proofs.run.boot.Goals as goal

pub boot_with-requires-clause-lines : goal.boot_with-requires-clause-lines
boot_with-requires-clause-lines c = subst (λ n. (n ≡ 1) ⊎ (n ≡ 8)) (sym c.count.ensures) (one_or_eight c.args.lines)

pub returns-clause-system : goal.returns-clause-system
returns-clause-system c =
    subst (λ n. IfOk c.boot_with.result (λ kernel. boots c.args.image.now None c.args.core n ≡ Some kernel.system)) c.count.ensures c.boot_with.ensures.system

pub returns-clause-lawful : goal.returns-clause-lawful
returns-clause-lawful c =
    ok_mapped c.boot_with.result _ (λ kernel. HasLawfulLogs kernel.system)
    (λ kernel is. lawful_logs c.args.image.now None c.args.core _ kernel.system c.see_bytes.ensures c.requires.least c.requires.most (few_lines c.args.lines) is)
    (subst (λ n. IfOk c.boot_with.result (λ kernel. boots c.args.image.now None c.args.core n ≡ Some kernel.system)) c.count.ensures c.boot_with.ensures.system)

pub returns-clause-memory : goal.returns-clause-memory
returns-clause-memory c = only_memory c.args.image.now c.boot_with.result c.requires.good c.boot_with.ensures.refused
