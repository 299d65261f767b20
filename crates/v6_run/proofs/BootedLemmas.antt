-- The run of a kernel that was booted is the run from its images.
use Rattle.std.proofs.Common.{◌≡◌, ◌≤◌, ◌∙◌, ◌⊎◌, inl, inr, ℕ, Bool, List, Option, Some, None, is_some, Result, Ok, Err, IfOk, IfErr, MatchResult, refl, sym, ap, subst}
use Rattle.std.specs.List.{sum_by}
use Rattle.std.specs.Option.{option_map}
use Rattle.v6_port.specs.declared.host.OutPort.{OutPort}
use Rattle.v6_port.specs.Outside.{Port, Outside, OnlyAt}
use Rattle.fs_codec.specs.Disk.{disk_of, head}
use Rattle.fs_codec.specs.declared.layout.TheConstants.{SWAP_START}
use Rattle.fs_codec.specs.Faults.{image_fault}
use Rattle.buf_cache.specs.Blocks.{block_at, blocks_of}
use Rattle.fs_nodes.specs.Disks.{Disks, Between}
use Rattle.script_text.specs.declared.script.Event as asked
use Rattle.script_text.specs.Script.{script_of, slots_of, AreRates}
use Rattle.abstract_unix.specs.declared.ends.Ends.{Ends}
use Rattle.abstract_unix.specs.Runs.{Course, boots}
use Rattle.unix_core.specs.declared.boot.BootFault.{BootFault}
use Rattle.unix_core.specs.declared.boot.BootFault.TheVariants as fault
use Rattle.unix_core.specs.declared.boot.Boot2Fault.{Boot2Fault}
use Rattle.unix_core.specs.declared.boot.Boot2Fault.TheVariants as two_fault
use Rattle.unix_core.specs.Boots.{RefusesBoot, RefusesBoot2, blocks_on, second_fault_of}
use Rattle.unix_core.specs.State.{KernelState}
use Rattle.unix_core.proofs.BootLemmas.{ok_mapped}
use Rattle.take_script.specs.Courses.{CanTake}
use Rattle.v6_run.specs.declared.run.RunError.{RunError}
use Rattle.v6_run.specs.declared.run.RunError.TheVariants as run_error
use Rattle.v6_run.specs.declared.status.Status.TheVariants.{NoMemory}
use Rattle.v6_run.specs.declared.words.Lines as lines
use Rattle.v6_run.specs.declared.words.Lines.TheVariants.{One, Eight}
use Rattle.v6_run.specs.Words.{RunWords, Run, second_files, line_count, lines_value}
use Rattle.v6_run.specs.Errors.{run_status}
use Rattle.v6_run.specs.Headline.{status_at}
use Rattle.v6_run.specs.Outputs.{is_output, StopsBy}
use Rattle.v6_run.specs.Booted.{run_from, writes_of, EndsOrStops, EndsFrom, FailsFrom, EndsOrFails}
use Rattle.v6_run.specs.Answers.{Answers, HasFiles}
use Rattle.v6_run.proofs.CanLemmas.{boot_can}
use Rattle.v6_run.proofs.FinalLemmas.{image_below}
use Rattle.v6_run.proofs.RunLemmas.{some_mapped, boot_refused, run_ended, run_stopped}
use Rattle.v6_run.proofs.OutputLemmas.{same_blocks, ends_over, stops_over}
use Rattle.v6_run.proofs.SecondLemmas.{SameDisk, same_second}

-- there are one line or eight
pub one_or_eight : (l : lines.Lines) → (lines_value l ≡ 1) ⊎ (lines_value l ≡ 8)
one_or_eight One = inl refl
one_or_eight Eight = inr refl

-- Images without a fault are refused for want of memory alone.
no_fault : (image : List ℕ) → image_fault image ≡ None → (refusal : BootFault) → RefusesBoot image refusal → refusal ≡ fault.NoMemory
no_fault image good (fault.Image f) refused = absurd (cc (sym good ∙ refused))
no_fault image good fault.NoMemory refused = refl

pub only_memory : (image : List ℕ) (r : Result KernelState BootFault) → image_fault image ≡ None → IfErr r (RefusesBoot image)
    → IfErr r (λ refusal. refusal ≡ fault.NoMemory)
only_memory image (Ok kernel) good refused = tt
only_memory image (Err refusal) good refused = no_fault image good refusal refused

no_fault2 : (image second : List ℕ) → image_fault image ≡ None → second_fault_of image second ≡ None → (refusal : Boot2Fault)
    → RefusesBoot2 image second refusal → refusal ≡ two_fault.NoMemory
no_fault2 image second good right (two_fault.Image f) refused = absurd (cc (sym good ∙ refused))
no_fault2 image second good right (two_fault.Second f) refused = absurd (cc (sym right ∙ refused.1))
no_fault2 image second good right two_fault.NoMemory refused = refl

pub only_memory2 : (image second : List ℕ) (r : Result KernelState Boot2Fault) → image_fault image ≡ None → second_fault_of image second ≡ None
    → IfErr r (RefusesBoot2 image second) → IfErr r (λ refusal. refusal ≡ two_fault.NoMemory)
only_memory2 image second (Ok kernel) good right refused = tt
only_memory2 image second (Err refusal) good right refused = no_fault2 image second good right refusal refused

-- nothing has changed
pub nothing_only : (mine : Port → Bool) (a : Outside) → OnlyAt mine a a
nothing_only mine a = record { fixed = refl; others = λ q other. refl }

-- What the run of a kernel asks of it, where one was made from its images.
module _ {E : Type 0} (image : List ℕ) (second : Option (List ℕ)) (made : Result KernelState E) where
  pub root_below : image_fault image ≡ None → IfOk made (λ kernel. kernel.blocks ≡ blocks_on image second)
      → IfOk made (λ kernel. (head (block_at kernel.blocks.root)).f_size ≤ SWAP_START)
  root_below good = ok_mapped made _ (λ kernel. (head (block_at kernel.blocks.root)).f_size ≤ SWAP_START)
      (λ kernel is. subst (λ (d : Disks (List (List ℕ))). (head (block_at d.root)).f_size ≤ SWAP_START) (sym is)
      (image_below image good))

  pub second_kept : (words : RunWords) → is_some second ≡ is_some (second_files words.outputs)
      → IfOk made (λ kernel. kernel.blocks ≡ blocks_on image second)
      → IfOk made (λ kernel. is_some kernel.blocks.second ≡ is_some (second_files words.outputs))
  second_kept words named = ok_mapped made _ (λ kernel. is_some kernel.blocks.second ≡ is_some (second_files words.outputs))
      (λ kernel is. ap (λ (d : Disks (List (List ℕ))). is_some d.second) is ∙ some_mapped blocks_of second ∙ named)

  pub made_can : (core lines : ℕ) (events : List asked.Event) → sum_by slots_of events ≤ 200000000 → AreRates events
      → IfOk made (λ kernel. boots image second core lines ≡ Some kernel.system)
      → IfOk made (λ kernel. CanTake kernel.system events)
  made_can core lines events few rates = ok_mapped made _ (λ kernel. CanTake kernel.system events)
      (λ kernel is. boot_can image second core lines kernel.system events is few rates)

-- A kernel has the disks of its images.
module _ (image : List ℕ) (second : Option (List ℕ)) (words : RunWords) (events : List asked.Event) (kernel : KernelState)
    (boots_is : boots image second words.core (line_count words.outputs) ≡ Some kernel.system) (blocks_is : kernel.blocks ≡ blocks_on image second)
    (old new : Outside) where
  root_same : SameDisk (block_at kernel.blocks.root) (disk_of image)
  root_same = same_blocks image kernel.blocks.root (ap (λ (d : Disks (List (List ℕ))). d.root) blocks_is)

  other_same : Between SameDisk (option_map block_at kernel.blocks.second) (option_map disk_of second)
  other_same = same_second second kernel.blocks.second (ap (λ (d : Disks (List (List ℕ))). d.second) blocks_is)

  abbrev run : Course
  run = run_from kernel.system events

  abbrev writes : OutPort → List ℕ → Type 0
  writes = writes_of words.outputs kernel run

  fails : (error : RunError) → StopsBy words.outputs writes error old new → FailsFrom image second words events error old new
  fails (run_error.Write port) stops = record {
    system = kernel.system;
    boots_is = boots_is;
    run = stops_over (disk_of image) (block_at kernel.blocks.root) (option_map disk_of second) (option_map block_at kernel.blocks.second) root_same other_same
        words.outputs run port old new stops;
  }
  fails run_error.NoMemory stops = absurd stops
  fails (run_error.Image e) stops = absurd stops
  fails (run_error.Second e) stops = absurd stops
  fails (run_error.Script e) stops = absurd stops
  fails (run_error.Refused e) stops = absurd stops
  fails (run_error.Panic kind) stops = absurd stops

  ran_from : (r : Result Ends RunError) → EndsOrStops words.outputs kernel events r old new
      → EndsOrFails image second words events r old new
  ran_from (Ok ends) ended = record {
    system = kernel.system;
    boots_is = boots_is;
    run = ends_over (disk_of image) (block_at kernel.blocks.root) (option_map disk_of second) (option_map block_at kernel.blocks.second) root_same other_same
        words.outputs run ends old new ended;
  }
  ran_from (Err error) stops = fails error stops

-- The run of a kernel, where one was made.
module _ {E : Type 0} (image : List ℕ) (second : Option (List ℕ)) (words : RunWords) (events : List asked.Event) (old new : Outside) (r : Result Ends RunError) where
  pub made_from : (made : Result KernelState E) → IfOk made (λ kernel. boots image second words.core (line_count words.outputs) ≡ Some kernel.system)
      → IfOk made (λ kernel. kernel.blocks ≡ blocks_on image second)
      → MatchResult made (λ kernel. EndsOrStops words.outputs kernel events r old new)
      (λ _. (r ≡ Err run_error.NoMemory) × (new ≡ old))
      → EndsOrFails image second words events r old new
  made_from (Ok kernel) boots_is blocks_is came = ran_from image second words events kernel boots_is blocks_is old new r came
  made_from (Err e) boots_is blocks_is came = subst (λ q. EndsOrFails image second words events q old new) (sym came.0) came.1

-- What it comes to is what the command answers.
module _ (words : RunWords) (image : List ℕ) (second : Option (List ℕ)) (bytes : List ℕ) (old middle : Outside) (files : HasFiles words image second bytes old middle)
    (events : List asked.Event) (script_is : script_of bytes ≡ Ok events) (new : Outside) (only : OnlyAt (is_output words.outputs) middle new) where
  pub ends_from : (ended : Ends) → EndsFrom image second words events ended middle new → Answers (Run words) (status_at ended) old new
  ends_from ended from = run_ended words image second bytes old middle files events script_is from.system from.boots_is new only ended from.run

  pub fails_from : (error : RunError) → FailsFrom image second words events error middle new → Answers (Run words) (run_status error) old new
  fails_from (run_error.Write port) from = run_stopped words image second bytes old middle files events script_is from.system from.boots_is new only port from.run
  fails_from run_error.NoMemory from =
      subst (λ o. Answers (Run words) NoMemory old o) (sym from) (boot_refused words image second bytes old middle files events script_is)
  fails_from (run_error.Image e) from = absurd from
  fails_from (run_error.Second e) from = absurd from
  fails_from (run_error.Script e) from = absurd from
  fails_from (run_error.Refused e) from = absurd from
  fails_from (run_error.Panic kind) from = absurd from
