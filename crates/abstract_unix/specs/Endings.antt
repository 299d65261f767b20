-- What follows from how a run ends, as far as it has come.
use Rattle.std.specs.Prelude.{Bool, true, false, List, [], ◌∷◌}
use Rattle.v6_base.specs.Trace.{Item, Log}
use Rattle.v6_base.specs.declared.entry.Entry.TheVariants.{End}
use Rattle.abstract_unix.specs.declared.ends.Ends.{Ends}
use Rattle.abstract_unix.specs.declared.ends.Ends.TheVariants.{AtEnd, Panic}
use Rattle.abstract_unix.specs.Unix.{Phase, Started, Stopped}

-- it ends before its last event
abbrev pub is_early : Ends → Bool
is_early AtEnd = false
is_early (Panic kind) = true

-- whether its log is a whole one
abbrev pub is_whole : Ends → Bool
is_whole AtEnd = true
is_whole (Panic kind) = true

-- how far it has come
abbrev pub phase_after : Ends → Phase
phase_after AtEnd = Started
phase_after (Panic kind) = Stopped

-- the last line of its log; a run that came to a panic, whose line stands, shows nothing more
abbrev pub last_line : Ends → List Item
last_line AtEnd = Log End ∷ []
last_line (Panic kind) = []
