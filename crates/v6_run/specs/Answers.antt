-- What a command comes to before its report, and then with it: the parts of the contract of `v6` as they are proved.
use Rattle.std.specs.Prelude.{◌≡◌, ◌≢◌, ℕ, true, false, Option, Some, None, is_some, MatchOption, Result, IsOkAnd, List, ◌++◌, take, ◌⊎◌}
use Rattle.std.specs.Option.{option_map}
use Rattle.v6_port.specs.declared.host.OutPort.{OutPort}
use Rattle.v6_port.specs.declared.host.OutPort.TheVariants as out_port
use Rattle.v6_port.specs.Outside.{Out, same, Outside, Tells, Rose, OnlyAt}
use Rattle.v6_port.specs.Causes.{Calm}
use Rattle.fs_codec.specs.Faults.{image_fault}
use Rattle.v6_run.specs.declared.image.TheConstants.{IMAGE_LIMIT}
use Rattle.v6_run.specs.declared.run.TheConstants.{SCRIPT_LIMIT}
use Rattle.v6_run.specs.declared.status.Status.{Status}
use Rattle.v6_run.specs.declared.status.Status.TheVariants.{Done, WriteFault}
use Rattle.v6_run.specs.declared.error.CommandError.{CommandError}
use Rattle.v6_run.specs.declared.report.Found.{Found}
use Rattle.unix_core.specs.Boots.{second_fault_of}
use Rattle.v6_run.specs.Words.{RunWords, second_image, Command, Run}
use Rattle.v6_run.specs.Status.{is_decided, has_written, is_closed}
use Rattle.v6_run.specs.Errors.{command_status, end_of}
use Rattle.v6_run.specs.Report.{report, answer_line}
use Rattle.v6_run.specs.Fronts.{HoldsFront}
use Rattle.v6_run.specs.Causes.{IsCaused}
use Rattle.v6_run.specs.Headline.{refused_by, command_completion, IsKnownAnd, IsComplete, IsPartial, IsStoppedAt, is_named, may_end, is_known}
use Rattle.v6_run.specs.Opened.{command_ports, TellsInputs, AreGood, ports_passed}

-- what a good command comes to, before its report
pub record Answers (command : Command) (status : Status) (old new : Outside) : Type 0 where
  pub only : OnlyAt (is_named command) old new
  pub ends : may_end command status ≡ true
  pub unreported : status ≡ WriteFault out_port.Report → ⊥
  pub complete : is_decided status ≡ true → TellsInputs (command_ports command) old
      → IsKnownAnd (command_completion command old.fixed) (IsComplete status old new)
  pub partial : (p : OutPort) → status ≡ WriteFault p → TellsInputs (command_ports command) old
      → IsKnownAnd (command_completion command old.fixed) (IsPartial p old new)
  pub steps : (p : OutPort) → status ≡ WriteFault p → TellsInputs (command_ports command) old
      → IsKnownAnd (command_completion command old.fixed) (IsStoppedAt (command_ports command) p old new)
  pub order : Tells old → AreGood old.fixed (ports_passed status (command_ports command))
  pub opened : Tells old → (p : OutPort) → (new.port (Out p)).bytes ≢ (old.port (Out p)).bytes
      → AreGood old.fixed (command_ports command)
  pub none : has_written status ≡ false → (p : OutPort) → new.port (Out p) ≡ old.port (Out p)
  pub closed : is_closed status ≡ true → (p : OutPort) → is_named command (Out p) ≡ true → (new.port (Out p)).is_open ≡ false
  pub cause : IsCaused (is_known (Some command) old.fixed) status old new

-- what any words come to, before the report
pub record AnswersWords (command : Option Command) (status : Status) (old new : Outside) : Type 0 where
  pub refused : (s : Status) → refused_by command ≡ Some s → (status ≡ s) × (new ≡ old)
  pub good : refused_by command ≡ None → (c : Command) × (command ≡ Some c) × Answers c status old new

-- The report of what a command has come to: nothing else changes, and the status stays but where a command that was done has
-- found something and that can't be told.
pub record Reports (answer : Result (Option Found) CommandError) (status : Status) (old new : Outside) : Type 0 where
  pub only : OnlyAt (same (Out out_port.Report)) old new
  pub missing : Tells old → (report new).missing ≡ (report old).missing
  pub ends : ((status ≡ end_of command_status answer) × (status ≡ Done → (report new).faults ≡ (report old).faults))
      ⊎ (IsOkAnd answer (λ found. is_some found ≡ true) × (status ≡ WriteFault out_port.Report)
      × Rose (report old).faults (report new).faults)
  pub whole : Tells old → (report new).faults ≡ (report old).faults
      → (report new).bytes ≡ (report old).bytes ++ answer_line answer
  pub front : Tells old → HoldsFront (report old).bytes (answer_line answer) (report new).bytes

-- a second image has been read where the words name one, and nothing is wrong with it
abbrev pub HasSecond : List ℕ → Option (List ℕ) → Option (List ℕ) → Outside → Type 0
HasSecond image None second old = second ≡ None
HasSecond image (Some name) second old = MatchOption second ⊥ (λ bytes. (second_fault_of image bytes ≡ None)
    × (Tells old → option_map (take IMAGE_LIMIT) (old.fixed.given name) ≡ Some bytes))

-- all files have been read, the images have no fault, and so far nothing has been written
pub record HasFiles (words : RunWords) (image : List ℕ) (other : Option (List ℕ)) (bytes : List ℕ)
    (old new : Outside) : Type 0 where
  pub only : OnlyAt (is_named (Run words)) old new
  pub none : (p : OutPort) → new.port (Out p) ≡ old.port (Out p)
  pub calm : Calm old new
  pub good : image_fault image ≡ None
  pub second : HasSecond image (second_image words.outputs) other old
  pub image_is : Tells old → option_map (take IMAGE_LIMIT) (old.fixed.given words.image) ≡ Some image
  pub script_is : Tells old → option_map (take SCRIPT_LIMIT) (old.fixed.given words.script) ≡ Some bytes
