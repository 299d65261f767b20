-- The files that a run writes, by docs/manual/commands.md: of `run`, `run8` and `run2` what each terminal line shows, the log,
-- and the disk, or both disks, at the end; of `memory` core and the swap area at the end.
use Rattle.std.specs.Prelude.{◌≡◌, ◌≢◌, ℕ, nat_le, nat_lt, Bool, true, false, Option, Some, None, is_some, List, [], ◌||◌, ◌&&◌, if◌then◌else◌}
use Rattle.v6_base.specs.Trace.{Item, line_bytes, text_of}
use Rattle.v6_port.specs.declared.host.OutPort.{OutPort}
use Rattle.v6_port.specs.declared.host.OutPort.TheVariants as out_port
use Rattle.v6_port.specs.Outside.{Port, Out, same, Outside, Tells}
use Rattle.v6_port.specs.Causes.{Calm, FaultAt}
use Rattle.pick_rules.specs.Lawful.{Lawful}
use Rattle.fs_codec.specs.Disk.{Disk}
use Rattle.fs_codec.specs.Store.{Store}
use Rattle.abstract_unix.specs.declared.ends.Ends.{Ends}
use Rattle.abstract_unix.specs.declared.ends.Ends.TheVariants.{AtEnd, Panic}
use Rattle.abstract_unix.specs.Unix.{System}
use Rattle.abstract_unix.specs.Law.{log_of}
use Rattle.abstract_unix.specs.Runs.{Event, Course, started, course, shown_by, finished}
use Rattle.v6_run.specs.declared.run.RunError.{RunError}
use Rattle.v6_run.specs.declared.run.RunError.TheVariants as run
use Rattle.v6_run.specs.Fronts.{HoldsSome, HoldsFrontOfSome, exactly}
use Rattle.v6_run.specs.Steps.{StopsAt}
use Rattle.v6_run.specs.Final.{IsFinal, IsFinalSecond, IsMemory}
use Rattle.v6_run.specs.Words.{DiskFiles, Outputs, ToDisk, ToMemory}
use Rattle.v6_run.specs.Opened.{output_ports, ports_before, knows_port, AreGood}

-- of so many terminal lines this is one beside the console
abbrev pub is_line : ℕ → ℕ → Bool
is_line lines l = nat_le 1 l && nat_lt l lines

-- the bytes of one of so many lines go to this port
abbrev pub is_terminal : ℕ → Port → Bool
is_terminal lines (Out out_port.Term) = true
is_terminal lines (Out (out_port.Line l)) = is_line lines l
is_terminal lines _ = false

-- what a run with so many lines shows goes to these while it runs
abbrev pub is_shown : ℕ → Port → Bool
is_shown lines q = is_terminal lines q || same (Out out_port.Log) q

-- what is left of a second disk goes to this port, where there are two disks
abbrev pub is_other : Bool → Port → Bool
is_other two q = two && same (Out out_port.Second) q

-- and what is left of the disks to these
abbrev pub is_left : Bool → Port → Bool
is_left two q = same (Out out_port.Final) q || is_other two q

abbrev pub is_disk_output : DiskFiles → Port → Bool
is_disk_output files q = is_shown files.lines q || is_left (is_some files.second) q

abbrev pub is_output : Outputs → Port → Bool
is_output (ToDisk files) q = is_disk_output files q
is_output (ToMemory final) q = same (Out out_port.Final) q

-- None of the files that a run writes is open.
abbrev pub AreClosed : Outputs → Outside → Type 0
AreClosed outputs o = (p : OutPort) → is_output outputs (Out p) ≡ true → (o.port (Out p)).is_open ≡ false

-- A run for its memory leaves its core and its swap area; after a panic it leaves nothing.
abbrev pub memory_writes : Ends → System → List ℕ → Type 0
memory_writes AtEnd m = IsMemory m
memory_writes (Panic kind) m = exactly []

-- Whatever comes from outside, the log of a run of this system is lawful.
abbrev pub HasLawfulLogs : System → Type 0
HasLawfulLogs m = (events : List Event) → Lawful (log_of (course (started m) events))

-- These are the lines of the log of a run, which is lawful.
pub record IsLog (c : Course) (text : List ℕ) : Type 0 where
  pub lines : text ≡ text_of (shown_by c)
  pub lawful : Lawful (log_of c)

-- what goes to each port of what a run with so many lines shows: each line's bytes to its own, and to Log the lines of the log
abbrev pub shown_text : ℕ → List Item → OutPort → List ℕ
shown_text lines items out_port.Term = line_bytes 0 items
shown_text lines items out_port.Log = text_of items
shown_text lines items out_port.Final = []
shown_text lines items out_port.Report = []
shown_text lines items out_port.Second = []
shown_text lines items (out_port.Line l) = if is_line lines l then line_bytes l items else []

-- A second disk, where there is one, is left too.
abbrev pub second_writes : Option Disk → Option Store → List ℕ → Type 0
second_writes (Some first) (Some store) = IsFinalSecond first store
second_writes (Some first) None = exactly []
second_writes None store = exactly []

-- The texts that a run from a disk, or from two, may write to each port: at its end, or at a panic, it leaves them.
abbrev pub disk_writes : ℕ → Disk → Option Disk → Course → OutPort → List ℕ → Type 0
disk_writes lines first second c out_port.Term = exactly (shown_text lines (shown_by c) out_port.Term)
disk_writes lines first second c out_port.Log = IsLog c
disk_writes lines first second c out_port.Final = IsFinal first (finished c.system)
disk_writes lines first second c out_port.Report = exactly []
disk_writes lines first second c out_port.Second = second_writes second (finished c.system).unix.store.second
disk_writes lines first second c (out_port.Line l) = exactly (shown_text lines (shown_by c) (out_port.Line l))

-- `memory` writes nothing of what is shown
abbrev pub core_writes : Course → OutPort → List ℕ → Type 0
core_writes c out_port.Term = exactly []
core_writes c out_port.Log = exactly []
core_writes c out_port.Final = memory_writes c.ending c.system
core_writes c out_port.Report = exactly []
core_writes c out_port.Second = exactly []
core_writes c (out_port.Line l) = exactly []

abbrev pub run_writes : Outputs → Disk → Option Disk → Course → OutPort → List ℕ → Type 0
run_writes (ToDisk files) first second c p = disk_writes files.lines first second c p
run_writes (ToMemory final) first second c p = core_writes c p

-- The run has been taken and ends so, and all of it is written.
pub record EndsRun (outputs : Outputs) (writes : OutPort → List ℕ → Type 0) (c : Course) (ends : Ends)
    (old new : Outside) : Type 0 where
  pub ended : ends ≡ c.ending
  pub written : Tells old → (p : OutPort) → HoldsSome (writes p) (old.port (Out p)).bytes (new.port (Out p)).bytes
  pub order : Tells old → AreGood old.fixed (output_ports outputs)
  pub is_open : AreClosed outputs new
  pub calm : Calm old new

-- One of its files has failed. Those before it are expected under their names, and all are where a byte went out. How far the
-- run has come shows at the ports.
pub record StopsRun (outputs : Outputs) (writes : OutPort → List ℕ → Type 0) (port : OutPort) (old new : Outside) : Type 0 where
  pub named : is_output outputs (Out port) ≡ true
  pub written : Tells old → (p : OutPort) → HoldsFrontOfSome (writes p) (old.port (Out p)).bytes (new.port (Out p)).bytes
  pub order : Tells old → AreGood old.fixed (ports_before (output_ports outputs) (Out port))
  pub opened : Tells old → (p : OutPort) → (new.port (Out p)).bytes ≢ (old.port (Out p)).bytes
      → AreGood old.fixed (output_ports outputs)
  pub fault : FaultAt (Out port) (knows_port (output_ports outputs) old.fixed (Out port)) old new
  pub step : StopsAt (output_ports outputs) writes port old new

-- Nothing else stops a run.
abbrev pub StopsBy : Outputs → (OutPort → List ℕ → Type 0) → RunError → Outside → Outside → Type 0
StopsBy outputs writes (run.Write port) old new = StopsRun outputs writes port old new
StopsBy outputs writes _ old new = ⊥
