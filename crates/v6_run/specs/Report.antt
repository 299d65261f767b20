-- The lines that commands write to Report, by docs/manual/commands.md: how a command ended, and what `check`, `demo` or `audit`
-- has found.
use Rattle.std.specs.Prelude.{ℕ, is_some, count_by, Option, Some, None, List, [], ◌∷◌, ◌++◌, length, codes, decimal, Result, Ok, Err}
use Rattle.v6_port.specs.declared.host.InPort.{InPort}
use Rattle.v6_port.specs.declared.host.InPort.TheVariants as in_port
use Rattle.v6_port.specs.declared.host.OutPort.{OutPort}
use Rattle.v6_port.specs.declared.host.OutPort.TheVariants as out_port
use Rattle.v6_port.specs.Outside.{Out, PortState, Outside}
use Rattle.script_text.specs.declared.script.ScriptFault.{ScriptFault}
use Rattle.script_text.specs.declared.script.ScriptFault.TheVariants as script
use Rattle.fs_codec.specs.declared.fault.ImageFault.{ImageFault}
use Rattle.fs_codec.specs.declared.fault.ImageFault.TheVariants.{TooLong, BadSuper, NoSwap, FreeCount, FreeOutside, NodeOutside, BlockTwice, NoRoot}
use Rattle.fs_codec.specs.Store.{Store}
use Rattle.unix_core.specs.declared.boot.SecondFault.{SecondFault}
use Rattle.unix_core.specs.declared.boot.SecondFault.TheVariants as second
use Rattle.abstract_unix.specs.Runs.{Course, shown_by, finished}
use Rattle.v6_base.specs.Trace.{line_bytes}
use Rattle.v6_run.specs.declared.status.Status.{Status}
use Rattle.v6_run.specs.declared.status.Status.TheVariants as status
use Rattle.v6_base.specs.declared.entry.PanicKind.{PanicKind}
use Rattle.v6_base.specs.declared.entry.PanicKind.TheVariants as panic
use Rattle.v6_run.specs.declared.error.CommandError.{CommandError}
use Rattle.v6_run.specs.declared.report.Found.{Found}
use Rattle.v6_run.specs.declared.report.Found.TheVariants as found
use Rattle.v6_run.specs.declared.demo.Summary.{Summary}
use Rattle.v6_run.specs.Errors.{command_status}

abbrev pub line_of : List ℕ → List ℕ
line_of text = text ++ 10 ∷ []

abbrev pub in_name : InPort → List ℕ
in_name in_port.Image = codes "image"
in_name in_port.Script = codes "script"
in_name in_port.Log = codes "log"
in_name in_port.Second = codes "second"

abbrev pub out_name : OutPort → List ℕ
out_name out_port.Term = codes "term"
out_name out_port.Log = codes "log"
out_name out_port.Final = codes "final"
out_name out_port.Report = codes "report"
out_name out_port.Second = codes "second"
out_name (out_port.Line l) = codes "line" ++ decimal l

abbrev pub script_line : ScriptFault → List ℕ
script_line script.TooLong = line_of (codes "script: too long")
script_line (script.BadLine n) = line_of (codes "script: line " ++ decimal n)
script_line (script.TooManySlots n) = line_of (codes "script: too many slots at line " ++ decimal n)
script_line script.NoMemory = line_of (codes "no memory")

abbrev pub fault_line : ImageFault → List ℕ
fault_line TooLong = line_of (codes "image: too long")
fault_line BadSuper = line_of (codes "image: bad super-block")
fault_line (NoSwap blocks) = line_of (codes "image: file system of " ++ decimal blocks ++ codes " blocks leaves no swap")
fault_line (FreeCount block) = line_of (codes "image: free count in block " ++ decimal block)
fault_line (FreeOutside block) = line_of (codes "image: free block " ++ decimal block ++ codes " outside")
fault_line (NodeOutside inode block) =
    line_of (codes "image: inode " ++ decimal inode ++ codes " has block " ++ decimal block ++ codes " outside")
fault_line (BlockTwice block) = line_of (codes "image: block " ++ decimal block ++ codes " twice")
fault_line NoRoot = line_of (codes "image: no root")

-- of a second image the same, but for the fault of a file system that needs no swap area
abbrev pub second_fault_line : ImageFault → List ℕ
second_fault_line (NoSwap blocks) =
    line_of (codes "second image: file system of " ++ decimal blocks ++ codes " blocks is too long")
second_fault_line fault = codes "second " ++ fault_line fault

abbrev pub second_line : SecondFault → List ℕ
second_line (second.Image fault) = second_fault_line fault
second_line (second.Nodes n) = line_of (codes "second image: " ++ decimal n ++ codes " nodes in all")

-- what a panic in Lions' book says
abbrev pub panic_line : PanicKind → List ℕ
panic_line panic.Swap = line_of (codes "panic: out of swap space")
panic_line panic.Zombie = line_of (codes "panic: out of swap")
panic_line panic.Text = line_of (codes "panic: out of text")

abbrev pub usage : List ℕ
usage =
    codes "usage: v6 run IMAGE CORE SCRIPT TERM LOG FINAL, run8 IMAGE CORE SCRIPT TERM LOG FINAL, "
    ++ codes "run2 IMAGE CORE SCRIPT TERM LOG FINAL IMAGE2 FINAL2, memory IMAGE CORE SCRIPT FINAL, "
    ++ codes "check IMAGE, make N FINAL, demo N, audit LOG"

-- the line of a status; a command that was done has none
abbrev pub status_line : Status → List ℕ
status_line status.Done = []
status_line status.Usage = line_of usage
status_line (status.ReadFault port) = line_of (codes "read fault: " ++ in_name port)
status_line (status.WriteFault port) = line_of (codes "write fault: " ++ out_name port)
status_line status.CoreSize = line_of (codes "core size")
status_line (status.ScriptFault fault) = script_line fault
status_line (status.ImageFault fault) = fault_line fault
status_line (status.SecondFault fault) = second_line fault
status_line (status.Panic kind) = panic_line kind
status_line status.NoMemory = line_of (codes "no memory")
status_line (status.Unlawful line) = line_of (codes "log: line " ++ decimal line ++ codes " is not lawful")
status_line (status.BadLog line) = line_of (codes "log: line " ++ decimal line ++ codes " is no log line")
status_line status.LogTooLong = line_of (codes "log: too long")

-- what `check` tells of a disk without a fault: how many nodes and how many free blocks it has
abbrev pub ok_line : ℕ → ℕ → List ℕ
ok_line nodes free = line_of (codes "ok " ++ decimal nodes ++ codes " nodes " ++ decimal free ++ codes " free")

abbrev pub store_line : Store → List ℕ
store_line store = ok_line (count_by is_some store.nodes) store.room

-- what `demo` tells of the run of a number: how many bytes the terminal is shown, and how many nodes and free blocks are left
abbrev pub demo_line : ℕ → ℕ → ℕ → ℕ → List ℕ
demo_line number shown nodes free = line_of (
    codes "demo " ++ decimal number ++ codes ": 60000 slots, " ++ decimal shown ++ codes " shown, "
    ++ decimal nodes ++ codes " nodes, " ++ decimal free ++ codes " free")

abbrev pub shown_line : ℕ → ℕ → Store → List ℕ
shown_line number shown store = demo_line number shown (count_by is_some store.nodes) store.room

abbrev pub course_line : ℕ → Course → List ℕ
course_line number c = shown_line number (length (line_bytes 0 (shown_by c))) (finished c.system).unix.store.root

abbrev pub summary_line : Summary → List ℕ
summary_line summary = demo_line summary.number summary.shown summary.tally.nodes summary.tally.free

-- what `audit` tells of a lawful log: how many lines it has
abbrev pub lawful_line : ℕ → List ℕ
lawful_line lines = line_of (codes "lawful: " ++ decimal lines ++ codes " lines")

-- the line of a command that has found this, and of one that was done
abbrev pub found_line : Found → List ℕ
found_line (found.Disk tally) = ok_line tally.nodes tally.free
found_line (found.Run summary) = summary_line summary
found_line (found.Log lines) = lawful_line lines

abbrev pub told_line : Option Found → List ℕ
told_line None = []
told_line (Some found) = found_line found

abbrev pub answer_line : Result (Option Found) CommandError → List ℕ
answer_line (Ok found) = told_line found
answer_line (Err error) = status_line (command_status error)

-- what a command reports that would tell this if it was done: also where that was all that failed
abbrev pub report_line : List ℕ → Status → List ℕ
report_line done status.Done = done
report_line done (status.WriteFault out_port.Report) = done
report_line done other = status_line other

abbrev pub report : Outside → PortState
report o = o.port (Out out_port.Report)
