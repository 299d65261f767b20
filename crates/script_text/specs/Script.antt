-- What a script makes happen, or its first fault, by docs/manual/scripts.md.
use Rattle.std.specs.Prelude.{◌≡◌, ⊤, ℕ, ◌<◌, ◌+◌, nat_lt, if◌then◌else◌, Option, Some, None, Result, Ok, Err, List, [], ◌∷◌, ◌++◌, length, sum_by}
use Rattle.script_text.specs.declared.script.TheConstants.{MAX_BYTES, MAX_SLOTS}
use Rattle.script_text.specs.declared.script.Event.{Event}
use Rattle.script_text.specs.declared.script.Event.TheVariants.{Clock, Run, Tick, Byte, Switch, Disk, Pace, Line, Hangup}
use Rattle.script_text.specs.declared.script.ScriptFault.{ScriptFault}
use Rattle.script_text.specs.declared.script.ScriptFault.TheVariants.{TooLong, BadLine, TooManySlots, NoMemory}
use Rattle.script_text.specs.Lines.{lines_of}
use Rattle.script_text.specs.Command.{events_of_line}

abbrev pub slots_of : Event → ℕ
slots_of (Clock n) = 0
slots_of (Run n) = n
slots_of Tick = 0
slots_of (Byte b) = 0
slots_of (Switch w) = 0
slots_of (Disk n) = 0
slots_of (Pace n) = 0
slots_of (Line l) = 0
slots_of (Hangup l) = 0

-- A transfer from the disk takes less than 10^9 slots, and so does a byte of a line. There are eight lines.
abbrev pub AreRates : List Event → Type 0
AreRates [] = ⊤
AreRates (Disk n ∷ events) = (n < 1000000000) × AreRates events
AreRates (Pace n ∷ events) = (n < 1000000000) × AreRates events
AreRates (Line l ∷ events) = (l < 8) × AreRates events
AreRates (Hangup l ∷ events) = (l < 8) × AreRates events
AreRates (event ∷ events) = AreRates events

-- the events of a line, and then those of the lines after it, where there is no fault
abbrev pub before : List Event → Result (List Event) ScriptFault → Result (List Event) ScriptFault
before events (Ok later) = Ok (events ++ later)
before events (Err fault) = Err fault

-- The lines from line n on, the first being 1, after lines that have asked for so many slots. The first line that is none,
-- or with which the slots are too many, is the fault.
abbrev pub then_lines : ℕ → ℕ → Option (List Event) → (ℕ → Result (List Event) ScriptFault) → Result (List Event) ScriptFault
then_lines n slots None next = Err (BadLine n)
then_lines n slots (Some events) next =
    if nat_lt MAX_SLOTS (slots + sum_by slots_of events) then Err (TooManySlots n)
    else before events (next (slots + sum_by slots_of events))

abbrev pub script_from : ℕ → ℕ → List (List ℕ) → Result (List Event) ScriptFault
script_from n slots [] = Ok []
script_from n slots (line ∷ lines) = then_lines n slots (events_of_line line) (λ more. script_from (n + 1) more lines)

-- the events of a script, or its first fault
abbrev pub script_of : List ℕ → Result (List Event) ScriptFault
script_of script = if nat_lt MAX_BYTES (length script) then Err TooLong else script_from 1 0 (lines_of script)

-- why a script isn't read: its first fault, or want of memory
abbrev pub Refuses : List ℕ → ScriptFault → Type 0
Refuses script NoMemory = ⊤
Refuses script fault = script_of script ≡ Err fault
