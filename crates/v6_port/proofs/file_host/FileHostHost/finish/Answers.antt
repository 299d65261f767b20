use Rattle.v6_port.proofs.KeptLemmas.{finish_fails, finishes}
use Rattle.v6_port.proofs.file_host.FileHostHost.finish.Goals as goal

pub returns-then-is_err : goal.returns-then-is_err
returns-then-is_err g c = finish_fails _ _ _ c.fault.ensures.counted _ _ c.number-number.ensures.number c.fault.ensures.fails

pub returns : goal.returns
returns g c = finishes _ _ _ c.set_closed.ensures _ c.number-number.ensures.number c.requires.not_report
