-- What a run comes to from the images that have been read.
use Rattle.std.specs.Prelude.{◌≡◌, ◌≤◌, ℕ, List, Option, Some, None, is_some, IfSome, Result, MatchResult, sum_by}
use Rattle.std.specs.Option.{option_map}
use Rattle.v6_port.specs.declared.host.OutPort.{OutPort}
use Rattle.v6_port.specs.Outside.{Outside}
use Rattle.fs_codec.specs.Disk.{disk_of}
use Rattle.fs_codec.specs.Faults.{image_fault}
use Rattle.buf_cache.specs.Blocks.{block_at}
use Rattle.script_text.specs.declared.script.Event as asked
use Rattle.script_text.specs.Script.{slots_of, AreRates}
use Rattle.abstract_unix.specs.declared.ends.Ends.{Ends}
use Rattle.abstract_unix.specs.Unix.{System}
use Rattle.abstract_unix.specs.Runs.{Course, boots, started, course}
use Rattle.unix_core.specs.Boots.{second_fault_of}
use Rattle.unix_core.specs.State.{KernelState}
use Rattle.take_script.specs.Events.{events_of}
use Rattle.v6_run.specs.declared.run.RunError.{RunError}
use Rattle.v6_run.specs.declared.run.RunError.TheVariants as run_error
use Rattle.v6_run.specs.Words.{Outputs, RunWords, second_files, line_count}
use Rattle.v6_run.specs.Outputs.{run_writes, EndsRun, StopsRun, StopsBy}

-- the system is taken through a script
abbrev pub run_from : System → List asked.Event → Course
run_from m events = course (started m) (events_of events)

-- the texts that its run may write, where the disks begin as the images
abbrev pub writes_from : List ℕ → Option (List ℕ) → RunWords → Course → OutPort → List ℕ → Type 0
writes_from image second words c = run_writes words.outputs (disk_of image) (option_map disk_of second) c

-- What is asked of a run: clicks of core that a machine may have, images without a fault, of which there are two where the
-- words name two, and events that a kernel can take.
pub record CanRun (image : List ℕ) (second : Option (List ℕ)) (words : RunWords) (events : List asked.Event) : Type 0 where
  pub least : 64 ≤ words.core
  pub most : words.core ≤ 3968
  pub good : image_fault image ≡ None
  pub second_good : IfSome second (λ bytes. second_fault_of image bytes ≡ None)
  pub named : is_some second ≡ is_some (second_files words.outputs)
  pub slots : sum_by slots_of events ≤ 200000000
  pub rates : AreRates events

-- the texts that the run of a kernel may write
abbrev pub writes_of : Outputs → KernelState → Course → OutPort → List ℕ → Type 0
writes_of outputs kernel c = run_writes outputs (block_at kernel.blocks.root) (option_map block_at kernel.blocks.second) c

-- The run of a kernel has been taken and ends so, or it stops.
abbrev pub EndsOrStops : Outputs → KernelState → List asked.Event → Result Ends RunError → Outside → Outside → Type 0
EndsOrStops outputs kernel events result old new =
    let c : Course = run_from kernel.system events in
    MatchResult result (λ ends. EndsRun outputs (writes_of outputs kernel c) c ends old new)
    (λ error. StopsBy outputs (writes_of outputs kernel c) error old new)

-- The run of what the images begin with has been taken and ends so.
pub record EndsFrom (image : List ℕ) (second : Option (List ℕ)) (words : RunWords) (events : List asked.Event) (ends : Ends)
    (old new : Outside) : Type 0 where
  pub system : System
  pub boots_is : boots image second words.core (line_count words.outputs) ≡ Some system
  pub run : EndsRun words.outputs (writes_from image second words (run_from system events)) (run_from system events) ends
      old new

-- One of its files has failed.
pub record StopsFrom (image : List ℕ) (second : Option (List ℕ)) (words : RunWords) (events : List asked.Event) (port : OutPort)
    (old new : Outside) : Type 0 where
  pub system : System
  pub boots_is : boots image second words.core (line_count words.outputs) ≡ Some system
  pub run : StopsRun words.outputs (writes_from image second words (run_from system events)) port old new

-- Or there was no memory, and nothing has happened yet.
abbrev pub FailsFrom : List ℕ → Option (List ℕ) → RunWords → List asked.Event → RunError → Outside → Outside → Type 0
FailsFrom image second words events (run_error.Write port) old new = StopsFrom image second words events port old new
FailsFrom image second words events run_error.NoMemory old new = new ≡ old
FailsFrom image second words events _ old new = ⊥

-- The run of the images ends so, or fails.
abbrev pub EndsOrFails : List ℕ → Option (List ℕ) → RunWords → List asked.Event → Result Ends RunError → Outside → Outside
    → Type 0
EndsOrFails image second words events result old new =
    MatchResult result (λ ends. EndsFrom image second words events ends old new)
    (λ error. FailsFrom image second words events error old new)
