-- What a script makes happen to the kernel, by docs/manual/scripts.md.
use Rattle.std.specs.Prelude.{ℕ, Bool, not, ◌+◌, ◌%◌, ◌==◌, ◌&&◌, if◌then◌else◌, List, [], ◌∷◌, ◌++◌, flat_map, replicate}
use Rattle.std.specs.List.{range_with_len}
use Rattle.script_text.specs.declared.script.Event as asked
use Rattle.script_text.specs.declared.script.Event.TheVariants as ask
use Rattle.abstract_unix.specs.Runs.{Event, Slot, Tick, Byte, Switch, Disk, Pace, Hangup}

-- The clock that a script has set: a tick comes after every so manyth slot, 0 being none, and so many slots have been taken
-- since it was set. And the terminal line on which is typed.
pub record Clock : Type 0 where
  pub every : ℕ
  pub slots : ℕ
  pub line : ℕ

-- at the start there is none, and the console is typed on
abbrev pub first_clock : Clock
first_clock = record { every = 0; slots = 0; line = 0 }

-- A tick comes after a slot of this number, the first after the clock was set being 1.
abbrev pub is_ticked : ℕ → ℕ → Bool
is_ticked every n = not (every == 0) && (n % every == 0)

abbrev pub slot_with : Bool → List Event
slot_with ticks = if ticks then Slot ∷ Tick ∷ [] else Slot ∷ []

abbrev pub slot_numbered : ℕ → ℕ → List Event
slot_numbered every n = slot_with (is_ticked every n)

-- so many slots, and then a tick, where that is called for
abbrev pub stretch : ℕ → Bool → List Event
stretch n ticks = replicate n Slot ++ (if ticks then Tick ∷ [] else [])

-- what one event of a script makes happen
abbrev pub happens : Clock → asked.Event → List Event
happens c (ask.Clock every) = []
happens c (ask.Run n) = flat_map (slot_numbered c.every) (range_with_len (c.slots + 1) n)
happens c ask.Tick = Tick ∷ []
happens c (ask.Byte byte) = Byte c.line byte ∷ []
happens c (ask.Switch word) = Switch word ∷ []
happens c (ask.Disk count) = Disk count ∷ []
happens c (ask.Pace count) = Pace count ∷ []
happens c (ask.Line l) = []
happens c (ask.Hangup l) = Hangup l ∷ []

-- A line `clock N` counts slots anew, and a line `run N` goes on with the count. A line `line L` turns to another terminal
-- line.
abbrev pub clock_after : Clock → asked.Event → Clock
clock_after c (ask.Clock every) = record c { every = every; slots = 0 }
clock_after c (ask.Run n) = record c { slots = c.slots + n }
clock_after c ask.Tick = c
clock_after c (ask.Byte byte) = c
clock_after c (ask.Switch word) = c
clock_after c (ask.Disk count) = c
clock_after c (ask.Pace count) = c
clock_after c (ask.Line l) = record c { line = l }
clock_after c (ask.Hangup l) = c

abbrev pub events_from : Clock → List asked.Event → List Event
events_from c [] = []
events_from c (event ∷ events) = happens c event ++ events_from (clock_after c event) events

-- what a whole script makes happen
abbrev pub events_of : List asked.Event → List Event
events_of events = events_from first_clock events
