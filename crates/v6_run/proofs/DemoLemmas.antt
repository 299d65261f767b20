-- What `demo` answers, exit by exit.
use Rattle.std.proofs.Common.{◌≡◌, MatchOption, ◌||◌, ℕ, true, false, Option, Some, None, is_some, if◌then◌else◌, List, [], ◌∷◌, Result, Ok, Err, IfOk, MatchResult, refl, sym, ◌∙◌, ap, subst}
use Rattle.v6_port.specs.declared.host.OutPort.TheVariants as out_port
use Rattle.v6_port.specs.Outside.{Out, Environment, Outside}
use Rattle.v6_port.specs.Causes.{Calm, FaultAt}
use Rattle.v6_port.proofs.CauseLemmas.{calm_still}
use Rattle.fs_codec.specs.Faults.{image_fault}
use Rattle.fs_codec.specs.declared.fault.ImageFault as codec
use Rattle.script_text.specs.declared.script.Event as asked
use Rattle.script_text.specs.declared.script.Event.TheVariants as ask
use Rattle.script_text.specs.declared.script.ScriptFault as text
use Rattle.script_text.specs.declared.script.ScriptFault.TheVariants as fault
use Rattle.script_text.specs.Script.{script_of, Refuses}
use Rattle.make_image.specs.Image.{build_of}
use Rattle.make_image.specs.Demo.{demo_text}
use Rattle.abstract_unix.specs.Unix.{System}
use Rattle.abstract_unix.specs.declared.ends.Ends.{Ends}
use Rattle.abstract_unix.specs.declared.ends.Ends.TheVariants as ends
use Rattle.abstract_unix.specs.Runs.{Course, system_of, boots, started, course, run_of}
use Rattle.unix_core.specs.State.{KernelState}
use Rattle.take_script.specs.Events.{events_of}
use Rattle.v6_run.specs.declared.status.Status.{Status}
use Rattle.v6_run.specs.declared.status.Status.TheVariants.{Done, ReadFault, WriteFault, ScriptFault, Panic, NoMemory}
use Rattle.v6_run.specs.declared.run.RunError.{RunError}
use Rattle.v6_run.specs.declared.run.RunError.TheVariants as run
use Rattle.v6_run.specs.declared.demo.TheConstants.{DEMO_CORE}
use Rattle.v6_run.specs.declared.demo.Summary.{Summary}
use Rattle.v6_run.specs.Words.{Demo}
use Rattle.v6_run.specs.Status.{fault_port, is_decided}
use Rattle.v6_run.specs.Errors.{run_status, end_of}
use Rattle.v6_run.specs.Opened.{AreGood, ports_passed}
use Rattle.v6_run.specs.Report.{summary_line}
use Rattle.v6_run.specs.Headline.{no_writing, Known, IsKnownAnd, status_at, fault_completion, lines_completion, run_completion, demo_completion, run_line, IsComplete, may_end, is_known}
use Rattle.v6_run.specs.Answers.{Answers}
use Rattle.v6_run.specs.Demo.{EndsCourse, StopsCourse}
use Rattle.v6_run.proofs.AnswerLemmas.{not_so, complete_unwritten}

-- The script of the demo has no fault.
pub demo_events : List asked.Event
demo_events =
    ask.Clock 100 ∷ ask.Run 20000 ∷ ask.Byte 104 ∷ ask.Byte 101 ∷ ask.Byte 108 ∷ ask.Byte 108 ∷ ask.Byte 111 ∷ ask.Byte 13 ∷ ask.Run 20000
    ∷ ask.Byte 4 ∷ ask.Run 20000 ∷ []

pub demo_read : script_of demo_text ≡ Ok demo_events
unfolding demo_text demo_events
demo_read = refl

-- So it is refused for want of memory alone.
pub only_memory : (f : text.ScriptFault) → Refuses demo_text f → f ≡ fault.NoMemory
only_memory fault.TooLong refused = let never : Ok demo_events ≡ Err fault.TooLong = sym demo_read ∙ refused in cc
only_memory (fault.BadLine n) refused = let never : Ok demo_events ≡ Err (fault.BadLine n) = sym demo_read ∙ refused in cc
only_memory (fault.TooManySlots n) refused = let never : Ok demo_events ≡ Err (fault.TooManySlots n) = sym demo_read ∙ refused in cc
only_memory fault.NoMemory refused = refl

-- `demo` opens nothing
none_passed : (fixed : Environment) (s : Status) → AreGood fixed (ports_passed s [])
none_passed fixed Done = tt
none_passed fixed (Panic kind) = tt
none_passed fixed (ScriptFault fault) = tt
none_passed fixed (ReadFault p) = tt
none_passed fixed (WriteFault p) = tt
none_passed fixed _ = tt

-- Nothing of the outside changes, and no port is at fault.
module _ (number : ℕ) (o : Outside) where
  answers_by : (s : Status) → may_end (Demo number) s ≡ true → fault_port s ≡ None → (is_decided s ≡ true → IsKnownAnd (demo_completion number) (IsComplete s o o))
      → Answers (Demo number) s o o
  answers_by s may none complete = record {
    only = record { fixed = refl; others = λ q other. refl };
    ends = may;
    unreported = λ is. let some : fault_port s ≡ Some (Out out_port.Report) = ap fault_port is in cc;
    complete = λ decided told. complete decided;
    partial = λ p is. absurd (let some : fault_port s ≡ Some (Out p) = ap fault_port is in cc);
    steps = λ p is. absurd (let some : fault_port s ≡ Some (Out p) = ap fault_port is in cc);
    order = λ told. none_passed o.fixed s;
    opened = λ told p grew. tt;
    none = λ before p. refl;
    closed = λ is p named. not_so _ named;
    cause = subst (λ at. MatchOption at (Calm o o) (λ p. FaultAt p (is_known (Some (Demo number)) o.fixed p) o o)) (sym none) (calm_still o);
  }

  no_memory : Answers (Demo number) NoMemory o o
  no_memory = answers_by NoMemory refl refl (λ decided. not_so _ decided)

  -- the disk has no fault, and the script is read
  module _ (good : image_fault (build_of number) ≡ None) (events : List asked.Event) (read : script_of demo_text ≡ Ok events) where
    abbrev system : System
    system = system_of (build_of number) None DEMO_CORE 1

    abbrev all : Course
    all = run_of (build_of number) None DEMO_CORE 1 (events_of events)

    complete : IsKnownAnd (demo_completion number) (IsComplete (status_at all.ending) o o)
    complete = subst (λ f. IsKnownAnd (fault_completion f (Known (run_completion DEMO_CORE 1 no_writing (build_of number) None demo_text))) (IsComplete (status_at all.ending) o o)) (sym good)
        (subst (λ r. IsComplete (status_at all.ending) o o (lines_completion DEMO_CORE 1 no_writing (build_of number) None r)) (sym read)
        (complete_unwritten (status_at all.ending) o o (λ p. refl)))

    ends_so : (e : Ends) → all.ending ≡ e → Answers (Demo number) (status_at e) o o
    ends_so ends.AtEnd is = answers_by Done refl refl (λ _. subst (λ e. IsKnownAnd (demo_completion number) (IsComplete (status_at e) o o)) is complete)
    ends_so (ends.Panic kind) is = answers_by (Panic kind) refl refl (λ _. subst (λ e. IsKnownAnd (demo_completion number) (IsComplete (status_at e) o o)) is complete)

    stops_so : (e : RunError) → StopsCourse all e → Answers (Demo number) (run_status e) o o
    stops_so run.NoMemory stops = no_memory
    stops_so (run.Panic kind) stops = ends_so (ends.Panic kind) stops
    stops_so (run.Image e) stops = absurd stops
    stops_so (run.Second e) stops = absurd stops
    stops_so (run.Script e) stops = absurd stops
    stops_so (run.Refused e) stops = absurd stops
    stops_so (run.Write output) stops = absurd stops

    outcome_so : (r : Result Summary RunError) → MatchResult r (EndsCourse number all) (StopsCourse all) → Answers (Demo number) (end_of run_status r) o o
    outcome_so (Ok summary) outcome = ends_so ends.AtEnd outcome.ended
    outcome_so (Err e) outcome = stops_so e outcome

    line_so : (r : Result Summary RunError) → MatchResult r (EndsCourse number all) (StopsCourse all) → IfOk r (λ summary. run_line number (script_of demo_text) ≡ summary_line summary)
    line_so (Ok summary) outcome = ap (run_line number) read ∙ outcome.line
    line_so (Err e) outcome = _

    -- the system that was booted is that of the disk
    module _ (booted : System) (boots_is : boots (build_of number) None DEMO_CORE 1 ≡ Some booted) where
      of_disk : (f : Option codec.ImageFault) → (if is_some f || false then None else Some system) ≡ Some booted → system ≡ booted
      of_disk None is = cc is
      of_disk (Some f) is = absurd (cc is)

      same : course (started booted) (events_of events) ≡ all
      same = ap (λ m. course (started m) (events_of events)) (sym (of_disk (image_fault (build_of number)) boots_is))

      outcome_all : (r : Result Summary RunError) → MatchResult r (EndsCourse number (course (started booted) (events_of events))) (StopsCourse (course (started booted) (events_of events)))
          → MatchResult r (EndsCourse number all) (StopsCourse all)
      outcome_all r = subst (λ c. MatchResult r (EndsCourse number c) (StopsCourse c)) same

    -- a kernel was made, or there was no memory for one
    module _ {E : Type 0} (r : Result Summary RunError) where
      made_outcome : (made : Result KernelState E) → IfOk made (λ kernel. boots (build_of number) None DEMO_CORE 1 ≡ Some kernel.system)
          → MatchResult made (λ kernel. MatchResult r (EndsCourse number (course (started kernel.system) (events_of events)))
          (StopsCourse (course (started kernel.system) (events_of events)))) (λ _. r ≡ Err run.NoMemory)
          → MatchResult r (EndsCourse number all) (StopsCourse all)
      made_outcome (Ok kernel) boots_is outcome = outcome_all kernel.system boots_is r outcome
      made_outcome (Err e) boots_is outcome = subst (λ q. MatchResult q (EndsCourse number all) (StopsCourse all)) (sym outcome) tt

      module _ (made : Result KernelState E) (boots_is : IfOk made (λ kernel. boots (build_of number) None DEMO_CORE 1 ≡ Some kernel.system))
          (outcome : MatchResult made (λ kernel. MatchResult r (EndsCourse number (course (started kernel.system) (events_of events)))
          (StopsCourse (course (started kernel.system) (events_of events)))) (λ _. r ≡ Err run.NoMemory)) where
        pub demo_answers : Answers (Demo number) (end_of run_status r) o o
        demo_answers = outcome_so r (made_outcome made boots_is outcome)

        pub demo_tells : IfOk r (λ summary. run_line number (script_of demo_text) ≡ summary_line summary)
        demo_tells = line_so r (made_outcome made boots_is outcome)
