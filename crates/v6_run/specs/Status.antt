-- How commands end, by docs/manual/commands.md: the exit status of each way, and what it tells of the command.
use Rattle.std.specs.Prelude.{ℕ, Bool, true, false, Option, Some, None}
use Rattle.v6_port.specs.Outside.{Port, In, Out}
use Rattle.v6_run.specs.declared.status.Status.{Status}
use Rattle.v6_run.specs.declared.status.Status.TheVariants.{Done, Usage, ReadFault, WriteFault, CoreSize, ScriptFault, ImageFault, SecondFault, Panic, NoMemory, Unlawful, BadLog, LogTooLong}

abbrev pub status_number : Status → ℕ
status_number Done = 0
status_number Usage = 1
status_number (ReadFault port) = 2
status_number (WriteFault port) = 3
status_number CoreSize = 4
status_number (ScriptFault fault) = 5
status_number (ImageFault fault) = 6
status_number (Panic kind) = 7
status_number NoMemory = 8
status_number (Unlawful line) = 9
status_number (BadLog line) = 10
status_number (SecondFault fault) = 12
status_number LogTooLong = 13

-- the port that is at fault
abbrev pub fault_port : Status → Option Port
fault_port (ReadFault port) = Some (In port)
fault_port (WriteFault port) = Some (Out port)
fault_port _ = None

-- whether the bytes of the command's files decide that it ends so
abbrev pub is_decided : Status → Bool
is_decided Done = true
is_decided (ScriptFault fault) = true
is_decided (ImageFault fault) = true
is_decided (SecondFault fault) = true
is_decided (Panic kind) = true
is_decided (Unlawful line) = true
is_decided (BadLog line) = true
is_decided LogTooLong = true
is_decided _ = false

-- whether the files that the command writes are finished then
abbrev pub is_closed : Status → Bool
is_closed Done = true
is_closed (Panic kind) = true
is_closed _ = false

-- whether the command has come to write its files
abbrev pub has_written : Status → Bool
has_written Done = true
has_written (WriteFault port) = true
has_written (Panic kind) = true
has_written _ = false
