use Rattle.v6_port.proofs.KeptLemmas.{read_fails, reads}
use Rattle.v6_port.proofs.file_host.FileHostHost.read.Goals as goal

pub returns-in_default : goal.returns-in_default
returns-in_default g c = read_fails _ _ _ c.fault.ensures.counted _ _ _ c.number-number.ensures.number c.fault.ensures.fails

pub returns-in_default-read : goal.returns-in_default-read
returns-in_default-read g c = read_fails _ _ _ c.fault-in_default-read.ensures.counted _ _ _ c.number-number.ensures.number c.fault-in_default-read.ensures.fails

pub returns : goal.returns
returns g c = reads _ _ _ c.in-Ok.ensures.bound.0 _
