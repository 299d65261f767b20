use Rattle.std.proofs.Common.{◌≡◌, ◌++◌, map, take, drop}
use Rattle.proc_tab.specs.Children.{adopted}
use Rattle.proc_tab.proofs.rows.adopt_all.Given as goal

abbrev pub invariant-loop-slot : goal.invariant-loop-slot
invariant-loop-slot l = l.slots ≡ map (adopted l.from) (take l.slot-index l.fn.slots) ++ drop l.slot-index l.fn.slots
