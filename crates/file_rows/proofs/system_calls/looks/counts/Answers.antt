use Rattle.std.proofs.Common.{ap, ◌∙◌}
use Rattle.fs_nodes.specs.Keys.{Stores, counts}
use Rattle.fs_nodes.proofs.CountLaws.{counts_synced}
use Rattle.file_rows.proofs.system_calls.looks.counts.Goals as goal

pub returns-then-is_ok-clause-counts : goal.returns-then-is_ok-clause-counts
returns-then-is_ok-clause-counts c =
    ap (λ (s : Stores). counts s) c.update_all.ensures.store ∙ counts_synced c.args.nodes.now.store c.args.now

pub returns-else-is_ok-clause-counts : goal.returns-else-is_ok-clause-counts
returns-else-is_ok-clause-counts c =
    ap (λ (s : Stores). counts s) c.update_all.ensures.store ∙ counts_synced c.args.nodes.now.store c.args.now
