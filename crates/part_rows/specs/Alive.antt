-- Whether a slot has a process that has not ended.
use Rattle.std.specs.Prelude.{Bool, not, ◌&&◌}
use Rattle.pick_rules.specs.declared.row.Stat.{Stat}
use Rattle.pick_rules.specs.Table.{is_empty, is_zombie}

abbrev pub lives : Stat → Bool
lives stat = not (is_empty stat) && not (is_zombie stat)
