use Rattle.std.proofs.Common.{◌≡◌, false, take}
use Rattle.std.specs.List.{list_any}
use Rattle.tty_line.specs.Said.{holds}
use Rattle.lines_eight.proofs.lines.any_holds.Given as goal

abbrev pub invariant-loop-l : goal.invariant-loop-l
invariant-loop-l l = list_any holds (take l.l l.lines) ≡ false
