use Rattle.std.proofs.Common.{◌∙◌}
use Rattle.swap_sched.proofs.SearchLemmas.{is_candidate}
use Rattle.swap_sched.proofs.candidates.candidate.Goals as goal

pub returns-clause-candidate : goal.returns-clause-candidate
returns-clause-candidate c = c.oldest.ensures.oldest ∙ is_candidate c.args.table.now
