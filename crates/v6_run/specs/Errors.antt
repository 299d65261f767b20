-- The status that says why a command was not done, for the error of each step.
use Rattle.std.specs.Prelude.{Result, Ok, Err}
use Rattle.v6_port.specs.declared.host.InPort.{InPort}
use Rattle.v6_port.specs.declared.host.InPort.TheVariants as in_port
use Rattle.v6_port.specs.declared.host.OutPort.TheVariants as out_port
use Rattle.v6_run.specs.declared.status.Status.{Status}
use Rattle.v6_run.specs.declared.status.Status.TheVariants as status
use Rattle.v6_run.specs.declared.files.ReadError.{ReadError}
use Rattle.v6_run.specs.declared.files.ReadError.TheVariants as reading
use Rattle.v6_run.specs.declared.image.ImageError.{ImageError}
use Rattle.v6_run.specs.declared.image.ImageError.TheVariants as image
use Rattle.v6_run.specs.declared.image.SecondError.{SecondError}
use Rattle.v6_run.specs.declared.image.SecondError.TheVariants as second
use Rattle.script_text.specs.declared.script.ScriptFault.{ScriptFault}
use Rattle.script_text.specs.declared.script.ScriptFault.TheVariants as fault
use Rattle.v6_run.specs.declared.run.RunError.{RunError}
use Rattle.v6_run.specs.declared.run.RunError.TheVariants as run
use Rattle.v6_run.specs.declared.make.MakeError.{MakeError}
use Rattle.v6_run.specs.declared.make.MakeError.TheVariants as make
use Rattle.v6_run.specs.declared.audit.LogError.{LogError}
use Rattle.v6_run.specs.declared.audit.LogError.TheVariants as log
use Rattle.v6_run.specs.declared.error.CommandError.{CommandError}
use Rattle.v6_run.specs.declared.error.CommandError.TheVariants as command

abbrev pub read_status : InPort → ReadError → Status
read_status port reading.Fault = status.ReadFault port
read_status port reading.NoMemory = status.NoMemory

abbrev pub image_status : ImageError → Status
image_status (image.Unread error) = read_status in_port.Image error
image_status (image.Faulty fault) = status.ImageFault fault

abbrev pub second_status : SecondError → Status
second_status (second.Unread error) = read_status in_port.Second error
second_status (second.Faulty fault) = status.SecondFault fault

-- want of memory is a status of its own
abbrev pub script_status : ScriptFault → Status
script_status fault.NoMemory = status.NoMemory
script_status fault = status.ScriptFault fault

abbrev pub run_status : RunError → Status
run_status (run.Image error) = image_status error
run_status (run.Second error) = second_status error
run_status (run.Script error) = read_status in_port.Script error
run_status (run.Refused error) = script_status error
run_status run.NoMemory = status.NoMemory
run_status (run.Write port) = status.WriteFault port
run_status (run.Panic kind) = status.Panic kind

abbrev pub make_status : MakeError → Status
make_status make.NoMemory = status.NoMemory
make_status make.Fault = status.WriteFault out_port.Final

abbrev pub log_status : LogError → Status
log_status log.Unread = status.ReadFault in_port.Log
log_status (log.Unlawful line) = status.Unlawful line
log_status (log.Bad line) = status.BadLog line
log_status log.TooLong = status.LogTooLong

abbrev pub command_status : CommandError → Status
command_status command.Usage = status.Usage
command_status command.CoreSize = status.CoreSize
command_status (command.Run error) = run_status error
command_status (command.Check error) = image_status error
command_status (command.Make error) = make_status error
command_status (command.Audit error) = log_status error

-- the status of a step's result, which is Done where the step was done
abbrev pub end_of : {T E : Type 0} → (E → Status) → Result T E → Status
end_of status_of (Ok value) = status.Done
end_of status_of (Err error) = status_of error
