-- What a call on files has shown, as the kernel's tape tells it.
use Rattle.std.specs.Prelude.{◌≡◌, ◌<◌, ℕ, zero, suc, Bool, false, slice_index_or, List, [], ◌++◌, map, fold, if◌then◌else◌}
use Rattle.v6_base.specs.Trace.{Item, Log, sent}
use Rattle.v6_base.specs.Tape.{Recording, bytes_of}
use Rattle.v6_base.specs.declared.trace.TheConstants.{LINES}
use Rattle.v6_base.specs.declared.entry.Chan.{Chan}
use Rattle.v6_base.specs.declared.entry.Entry.{Entry}
use Rattle.v6_base.specs.declared.entry.Entry.TheVariants.{Wake, Signal, Idle}
use Rattle.pick_rules.specs.declared.table.Table.{Table}
use Rattle.pick_rules.specs.Priority.{setpri}
use Rattle.pick_rules.specs.Sleepers.{wakeup, fall_asleep, signalled}
use Rattle.pick_rules.specs.Choice.{chosen, gives_up, settled_by}
use Rattle.pick_rules.specs.Apply.{change_row}
use Rattle.abstract_unix.specs.declared.ending.Ending.{Ending}
use Rattle.abstract_unix.specs.declared.ending.Ending.TheVariants as ending

-- A process that comes out of its call has its priority in user mode anew.
abbrev pub trapped : Table → ℕ → Table
trapped t s = setpri (change_row t s (λ row. record row { calling = false })) s

-- the table when a turn of a slot has ended so
abbrev pub ended_table : Table → ℕ → Ending → Table
ended_table t s ending.Next = t
ended_table t s ending.Trapped = trapped t s
ended_table t s (ending.Slept pri chan) = fall_asleep t s pri chan
ended_table t s ending.Ended = t
ended_table t s (ending.Panic kind) = t

-- who sleeps for a channel is woken, where that is called for
abbrev pub called_table : Bool → Chan → Table → Table
called_table called chan t = if called then wakeup t chan else t

-- the table when the kernel has settled
abbrev pub settled_table : Table → Table
settled_table t = if gives_up t t.running then settled_by t (chosen t) else t

-- a line that wakes sleepers, or that sends a signal; a call on files has no others
abbrev pub woken_by : Table → Entry → Table
woken_by t (Wake chan) = wakeup t chan
woken_by t (Signal slot sig) = signalled t slot
woken_by t e = t

-- a line of a signal names a slot of a process
abbrev pub HasSlot : Entry → Type 0
HasSlot e = (slot sig : ℕ) → e ≡ Signal slot sig → (0 < slot) × (slot < 50)

abbrev pub HaveSlots : List Entry → Type 0
HaveSlots entries = (i : ℕ) → HasSlot (slice_index_or entries i Idle)

abbrev pub all_woken : Table → List Entry → Table
all_woken t entries = fold woken_by t entries

-- the bytes of so many lines, from one on
abbrev pub bytes_shown : ℕ → ℕ → Recording → List Item
bytes_shown l zero r = []
bytes_shown l (suc count) r = sent l (bytes_of r l) ++ bytes_shown (suc l) count r

-- the bytes, lowest line first, and then the lines of the log
abbrev pub shown_by : Recording → List Item
shown_by r = bytes_shown 0 LINES r ++ map Log r.entries
