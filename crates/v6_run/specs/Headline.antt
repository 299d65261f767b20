-- What a command answers and writes, from its words and the bytes of its files, in the order of docs/manual/commands.md: the
-- words, the size of core, the image's first fault, what is wrong with the second one, the script's first fault, and the run;
-- or the log's first line at fault.
use Rattle.std.specs.Prelude.{◌≡◌, ℕ, Bool, true, false, Option, Some, None, List, [], length, take, nat_le, not, ◌&&◌, ◌||◌, if◌then◌else◌, Result, Ok, Err}
use Rattle.std.specs.Option.{option_map}
use Rattle.v6_port.specs.declared.host.InPort.TheVariants as in_port
use Rattle.v6_port.specs.declared.host.OutPort.{OutPort}
use Rattle.v6_port.specs.declared.host.OutPort.TheVariants as out_port
use Rattle.v6_port.specs.Outside.{Port, In, Out, same, is_report, Environment, Outside, Tells}
use Rattle.fs_codec.specs.declared.fault.ImageFault.{ImageFault}
use Rattle.fs_codec.specs.Disk.{disk_of}
use Rattle.fs_codec.specs.Faults.{image_fault}
use Rattle.fs_codec.specs.Stands.{store_of}
use Rattle.script_text.specs.declared.script.ScriptFault.{ScriptFault}
use Rattle.script_text.specs.declared.script.ScriptFault.TheVariants.{NoMemory}
use Rattle.script_text.specs.declared.script.Event.{Event}
use Rattle.script_text.specs.Script.{script_of}
use Rattle.make_image.specs.Image.{build_of}
use Rattle.make_image.specs.Demo.{demo_text}
use Rattle.abstract_unix.specs.Runs.{Course, run_of}
use Rattle.take_script.specs.Events.{events_of}
use Rattle.v6_run.specs.declared.image.TheConstants.{IMAGE_LIMIT}
use Rattle.v6_run.specs.declared.run.TheConstants.{SCRIPT_LIMIT}
use Rattle.v6_run.specs.declared.demo.TheConstants.{DEMO_CORE}
use Rattle.v6_run.specs.declared.status.Status.{Status}
use Rattle.v6_run.specs.declared.status.Status.TheVariants as status
use Rattle.abstract_unix.specs.declared.ends.Ends.{Ends}
use Rattle.abstract_unix.specs.declared.ends.Ends.TheVariants.{AtEnd, Panic}
use Rattle.unix_core.specs.declared.boot.SecondFault.{SecondFault}
use Rattle.unix_core.specs.Boots.{second_fault_of}
use Rattle.v6_run.specs.Words.{RunWords, line_count, second_image, Command, Run, Check, Make, Demo, Audit}
use Rattle.v6_run.specs.Logs.{lines_of, AuditEnds}
use Rattle.v6_run.specs.Status.{has_written}
use Rattle.v6_run.specs.Fronts.{HoldsSome, HoldsFrontOfSome, exactly}
use Rattle.v6_run.specs.Outputs.{run_writes}
use Rattle.v6_run.specs.Opened.{NamedPort, command_ports, words_ports, has_port, knows_port}
use Rattle.v6_run.specs.Steps.{StopsAt}
use Rattle.v6_run.specs.Report.{store_line, course_line, lawful_line}

abbrev pub is_core_size : ℕ → Bool
is_core_size core = nat_le 64 core && nat_le core 3968

-- `run`, `run2` and `memory` are the commands with a size of core
abbrev pub has_core_size : Command → Bool
has_core_size (Run words) = is_core_size words.core
has_core_size _ = true

-- the status with which words are refused: they are no command's, or core isn't 64 to 3968 clicks
abbrev pub refused_by : Option Command → Option Status
refused_by None = Some status.Usage
refused_by (Some command) = if has_core_size command then None else Some status.CoreSize

-- how a command ends, and which texts it may write to each file that it opens
pub record Completion : Type 1 where
  pub ends : Status → Type 0
  pub writes : OutPort → List ℕ → Type 0

-- a completion, where each file that the command reads is given
pub data MaybeCompletion : Type 1 where
  Unknown : MaybeCompletion
  Known : Completion → MaybeCompletion

abbrev pub IsKnownAnd : MaybeCompletion → (Completion → Type 0) → Type 0
IsKnownAnd Unknown holds = ⊥
IsKnownAnd (Known completion) holds = holds completion

-- a command that ends so and writes no file
abbrev pub ends_with : Status → Completion
ends_with s = record { ends = λ t. t ≡ s; writes = λ port. exactly [] }

-- one file gets this text, and the others nothing
abbrev pub only_to : OutPort → List ℕ → OutPort → List ℕ → Type 0
only_to port text q = exactly (if same (Out port) (Out q) then text else [])

abbrev pub status_at : Ends → Status
status_at AtEnd = status.Done
status_at (Panic kind) = status.Panic kind

-- which texts a run may write to each file, by its course
abbrev pub Writing : Type 1
Writing = Course → OutPort → List ℕ → Type 0

abbrev pub course_completion : Writing → Course → Completion
course_completion writes c = record { ends = λ t. t ≡ status_at c.ending; writes = writes c }

-- in so much core and with so many terminal lines, from images without a fault, and a script or its first fault
abbrev pub lines_completion : ℕ → ℕ → Writing → List ℕ → Option (List ℕ) → Result (List Event) ScriptFault → Completion
lines_completion core lines writes image second (Err fault) = ends_with (status.ScriptFault fault)
lines_completion core lines writes image second (Ok events) =
    course_completion writes (run_of image second core lines (events_of events))

abbrev pub run_completion : ℕ → ℕ → Writing → List ℕ → Option (List ℕ) → List ℕ → Completion
run_completion core lines writes image second bytes = lines_completion core lines writes image second (script_of bytes)

-- Of `run` and `run2`, which have one line, and of `run8`, which has eight, the file of each line and LOG get what the run
-- shows, and FINAL the disk that it leaves; of `run2` FINAL2 gets the second disk too. Of `memory` FINAL gets core and the swap
-- area.
abbrev pub bytes_completion : RunWords → List ℕ → Option (List ℕ) → List ℕ → Completion
bytes_completion words image second bytes =
    run_completion words.core (line_count words.outputs) (run_writes words.outputs (disk_of image) (option_map disk_of second))
    image second bytes

-- from the bytes of SCRIPT, of which at most one more is read than a script may have
abbrev pub script_completion : RunWords → Option (List ℕ) → List ℕ → Option (List ℕ) → MaybeCompletion
script_completion words None image second = Unknown
script_completion words (Some bytes) image second = Known (bytes_completion words image second (take SCRIPT_LIMIT bytes))

abbrev pub fault_completion : Option ImageFault → MaybeCompletion → MaybeCompletion
fault_completion (Some fault) rest = Known (ends_with (status.ImageFault fault))
fault_completion None rest = rest

-- from the bytes of IMAGE, of which at most one more is read than a disk has: its first fault, or what comes after
abbrev pub image_completion : Option (List ℕ) → (List ℕ → MaybeCompletion) → MaybeCompletion
image_completion None rest = Unknown
image_completion (Some bytes) rest = fault_completion (image_fault (take IMAGE_LIMIT bytes)) (rest (take IMAGE_LIMIT bytes))

-- from the bytes of IMAGE2, where the words name it, beside an image: what is wrong with it, or what comes after
abbrev pub second_fault_completion : Option SecondFault → MaybeCompletion → MaybeCompletion
second_fault_completion (Some fault) rest = Known (ends_with (status.SecondFault fault))
second_fault_completion None rest = rest

abbrev pub given_second : List ℕ → Option (List ℕ) → (Option (List ℕ) → MaybeCompletion) → MaybeCompletion
given_second image None rest = Unknown
given_second image (Some bytes) rest =
    second_fault_completion (second_fault_of image (take IMAGE_LIMIT bytes)) (rest (Some (take IMAGE_LIMIT bytes)))

abbrev pub second_completion : Option (List ℕ) → Environment → List ℕ → (Option (List ℕ) → MaybeCompletion) → MaybeCompletion
second_completion None fixed image rest = rest None
second_completion (Some name) fixed image rest = given_second image (fixed.given name) rest

-- `demo` is a run of the script of the demo over the disk that `make` builds. It writes no file.
abbrev pub no_writing : Writing
no_writing c port = exactly []

abbrev pub demo_completion : ℕ → MaybeCompletion
demo_completion number =
    fault_completion (image_fault (build_of number))
    (Known (run_completion DEMO_CORE 1 no_writing (build_of number) None demo_text))

-- `audit` ends as the lines of its file say, and writes no file
abbrev pub log_completion : Option (List ℕ) → MaybeCompletion
log_completion None = Unknown
log_completion (Some bytes) = Known (record { ends = AuditEnds bytes; writes = λ port. exactly [] })

-- what a command comes to
abbrev pub command_completion : Command → Environment → MaybeCompletion
command_completion (Run words) fixed = image_completion (fixed.given words.image) (λ image.
    second_completion (second_image words.outputs) fixed image (script_completion words (fixed.given words.script) image))
command_completion (Check image) fixed = image_completion (fixed.given image) (λ bytes. Known (ends_with status.Done))
command_completion (Make number final) fixed =
    Known (record { ends = λ t. t ≡ status.Done; writes = only_to out_port.Final (build_of number) })
command_completion (Demo number) fixed = demo_completion number
command_completion (Audit log) fixed = log_completion (fixed.given log)

abbrev pub words_completion : Option Command → Environment → MaybeCompletion
words_completion None fixed = Unknown
words_completion (Some command) fixed = command_completion command fixed

-- The line that a command reports when it was done: that of `check` tells what the disk holds, that of `demo` what its run has
-- come to, that of `audit` how many lines the log has, and the others have none.
abbrev pub image_line : Option (List ℕ) → List ℕ
image_line None = []
image_line (Some bytes) = store_line (store_of (disk_of (take IMAGE_LIMIT bytes)))

abbrev pub run_line : ℕ → Result (List Event) ScriptFault → List ℕ
run_line number (Err fault) = []
run_line number (Ok events) = course_line number (run_of (build_of number) None DEMO_CORE 1 (events_of events))

abbrev pub log_line : Option (List ℕ) → List ℕ
log_line None = []
log_line (Some bytes) = lawful_line (length (lines_of bytes))

abbrev pub done_line : Option Command → Environment → List ℕ
done_line None fixed = []
done_line (Some (Run words)) fixed = []
done_line (Some (Check image)) fixed = image_line (fixed.given image)
done_line (Some (Make number final)) fixed = []
done_line (Some (Demo number)) fixed = run_line number (script_of demo_text)
done_line (Some (Audit log)) fixed = log_line (fixed.given log)

-- The command is complete: the status is its, and each file has got all of a text that may be written to it.
pub record IsComplete (s : Status) (old new : Outside) (completion : Completion) : Type 0 where
  pub answered : completion.ends s
  pub written : Tells old → (p : OutPort) → is_report (Out p) ≡ false
      → HoldsSome (completion.writes p) (old.port (Out p)).bytes (new.port (Out p)).bytes

-- This port is at fault. The command has come to write, or, where that is Report, would be done; and each file has got a front
-- of a text that may be written to it.
pub record IsPartial (fault : OutPort) (old new : Outside) (completion : Completion) : Type 0 where
  pub begun : (s : Status) × completion.ends s × (has_written s ≡ true)
  pub told : is_report (Out fault) ≡ true → completion.ends status.Done
  pub written : Tells old → (p : OutPort) → is_report (Out p) ≡ false
      → HoldsFrontOfSome (completion.writes p) (old.port (Out p)).bytes (new.port (Out p)).bytes

-- The port at fault and the others show at which step the command has stopped.
abbrev pub IsStoppedAt : List NamedPort → OutPort → Outside → Outside → Completion → Type 0
IsStoppedAt ports p old new completion = StopsAt ports completion.writes p old new

-- the ports for which a command's words have a name
abbrev pub is_named : Command → Port → Bool
is_named command q = has_port (command_ports command) q

-- a command touches these, and Report
abbrev pub is_touched : Option Command → Port → Bool
is_touched None q = is_report q
is_touched (Some command) q = is_named command q || is_report q

-- only `check`, `demo` and `audit` report that they were done
abbrev pub reports_done : Command → Bool
reports_done (Check image) = true
reports_done (Demo number) = true
reports_done (Audit log) = true
reports_done _ = false

abbrev pub is_run : Command → Bool
is_run (Run words) = true
is_run _ = false

abbrev pub is_demo : Command → Bool
is_demo (Demo number) = true
is_demo _ = false

abbrev pub is_audit : Command → Bool
is_audit (Audit log) = true
is_audit _ = false

-- want of memory is a status of its own
abbrev pub is_script_fault : ScriptFault → Bool
is_script_fault NoMemory = false
is_script_fault _ = true

-- The statuses that a good command may end with. A fault is one of a port for which its words have a name, or of a report that
-- is all that the command has to say. The script of `demo` has no fault, and `audit` takes no memory.
abbrev pub may_end : Command → Status → Bool
may_end command status.Done = true
may_end command (status.ReadFault port) = is_named command (In port)
may_end command (status.WriteFault port) = is_named command (Out port) || (is_report (Out port) && reports_done command)
may_end command (status.ScriptFault fault) = is_run command && is_script_fault fault
may_end command (status.ImageFault fault) = is_named command (In in_port.Image) || is_demo command
may_end command (status.SecondFault fault) = is_named command (In in_port.Second)
may_end command status.NoMemory = not (is_audit command)
may_end command (status.Panic kind) = is_run command || is_demo command
may_end command (status.Unlawful line) = is_audit command
may_end command (status.BadLog line) = is_audit command
may_end command status.LogTooLong = is_audit command
may_end command _ = false

abbrev pub words_may_end : Option Command → Status → Bool
words_may_end None s = false
words_may_end (Some command) s = may_end command s

-- whether the name that the words give for a port is given, or expected there
abbrev pub is_known : Option Command → Environment → Port → Bool
is_known command fixed q = knows_port (words_ports command) fixed q
