use Rattle.std.proofs.Common.{refl, replicate}
use Rattle.v6_port.specs.Kept.{nothing_kept}
use Rattle.v6_port.proofs.KeptLemmas.{repeated, is_new, is_idle}
use Rattle.v6_port.proofs.file_host.FileHost.new.Goals as goal

pub returns-clause-fresh : goal.returns-clause-fresh
returns-clause-fresh g c = is_new _ _ (replicate 17 nothing_kept) (λ n. repeated 17 n nothing_kept) (λ q. refl)

pub returns-clause-idle : goal.returns-clause-idle
returns-clause-idle g c = is_idle _ _ (replicate 17 nothing_kept) (λ n. repeated 17 n nothing_kept)
