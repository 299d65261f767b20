use Rattle.v6_run.proofs.FileLemmas.{front_at}
use Rattle.v6_run.proofs.files.write_all.Goals as goal

pub returns-in-Err-clause-front : goal.returns-in-Err-clause-front
returns-in-Err-clause-front g c = λ told. front_at _ _ _ _ (c.in-Err.ensures.front told)
