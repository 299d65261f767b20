use Rattle.std.proofs.Common.{◌<◌, length, rules}
use Rattle.v6_port.proofs.KeptLemmas.{write_fails, writes}
use Rattle.v6_port.proofs.file_host.FileHostHost.write.Goals as goal
use Rattle.v6_port.proofs.file_host.FileHostHost.write.Goals.{else-count-eq0-via-then-count-eq0+else-not-is_empty, else-count-eq0-via-else-count-eq0}

pub returns-in_default : goal.returns-in_default
returns-in_default g c = write_fails _ _ _ c.fault.ensures.counted _ _ _ c.number.ensures.number c.fault.ensures.fails

pub returns-then-not-is_empty : goal.returns-then-not-is_empty
returns-then-not-is_empty g c = write_fails _ _ _ c.fault-then-not-is_empty.ensures.counted _ _ _ c.number-then-not-is_empty.ensures.number c.fault-then-not-is_empty.ensures.fails

pub returns : goal.returns
returns g c =
    let some : 0 < length c.args.piece.now → 0 < c.in-Ok.count = λ not_empty. elim c.else-count-eq0.branch [
      | else-count-eq0-via-then-count-eq0+else-not-is_empty w ↦ search rules
      | else-count-eq0-via-else-count-eq0 w ↦ search rules
    ] in
    writes _ _ _ c.in-Ok.ensures _ some
