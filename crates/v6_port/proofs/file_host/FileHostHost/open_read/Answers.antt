use Rattle.v6_port.proofs.KeptLemmas.{open_read_fails, opens_read}
use Rattle.v6_port.proofs.file_host.FileHostHost.open_read.Goals as goal

pub returns-in_default : goal.returns-in_default
returns-in_default g c = open_read_fails _ _ _ c.fault.ensures.counted _ _ _ c.number-number.ensures.number c.fault.ensures.fails

pub returns : goal.returns
returns g c = opens_read _ _ _ c.set_open.ensures _ _ c.number-number.ensures.number
