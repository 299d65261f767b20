-- What holds after a line, by how far the log had come.
use Rattle.std.specs.Prelude.{◌≡◌, Some}
use Rattle.v6_base.specs.declared.entry.Entry.{Entry}
use Rattle.log_audit.specs.declared.world.Stage.{Stage}
use Rattle.log_audit.specs.declared.world.Stage.TheVariants.{Blank, Booted, Open, Idling, Bared, Over}
use Rattle.log_audit.specs.declared.world.World.{World}
use Rattle.log_audit.specs.Sound.{IsWhole, IsAfter, IsAfterExec}

abbrev pub IsAfterAt : Stage → Entry → World → Type 0
IsAfterAt Blank e w = (w.table.running ≡ Some 0) × IsWhole w
IsAfterAt Booted e w = IsAfter e w
IsAfterAt Open e w = IsAfter e w
IsAfterAt Idling e w = IsAfter e w
IsAfterAt (Bared s) e w = IsAfterExec s e w
IsAfterAt Over e w = ⊥
