use Rattle.std.proofs.Common.{◌≡◌}
use Rattle.abstract_unix.specs.Unix.{Started}
use Rattle.v6_rows.proofs.inside.runs_with_ticks.Given as goal

abbrev pub invariant-slots : goal.invariant-slots
invariant-slots l = l.kernel.phase ≡ Started
