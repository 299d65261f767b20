use Rattle.v6_run.proofs.FileLemmas.{byte_written}
use Rattle.v6_run.proofs.files.write_byte.Goals as goal

pub returns-clause-whole : goal.returns-clause-whole
returns-clause-whole g c = λ told. byte_written _ _ _ _ _ _ c.write.ensures c.in_ok-write.was told
