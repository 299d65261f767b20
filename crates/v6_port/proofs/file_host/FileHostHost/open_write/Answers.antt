use Rattle.v6_port.proofs.KeptLemmas.{open_write_fails, opens_write}
use Rattle.v6_port.proofs.file_host.FileHostHost.open_write.Goals as goal

pub returns-in_default : goal.returns-in_default
returns-in_default g c = open_write_fails _ _ _ c.fault.ensures.counted _ _ _ c.number-number.ensures.number c.fault.ensures.fails

pub returns : goal.returns
returns g c = opens_write _ _ _ c.set_open.ensures _ _ c.number-number.ensures.number
