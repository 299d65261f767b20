-- What any words are answered, with the report.
use Rattle.std.proofs.Common.{◌≡◌, ◌≢◌, ℕ, Bool, true, false, not, if◌then◌else◌, Option, Some, None, is_some, IsSome, MatchOption, List, ◌++◌, refl, sym, ◌∙◌, ap, subst, Result, Ok, Err, IfOk, IsOkAnd, ◌⊎◌, inl, inr, ⊎_elim}
use Rattle.std.specs.Option.{option_map}
use Rattle.v6_port.specs.declared.host.InPort.{InPort}
use Rattle.v6_port.specs.declared.host.InPort.TheVariants as in_port
use Rattle.v6_port.specs.declared.host.OutPort.{OutPort}
use Rattle.v6_port.specs.declared.host.OutPort.TheVariants as out_port
use Rattle.v6_port.specs.Outside.{Port, Out, same, is_report, IsIdle, PortState, Outside, Tells, Rose, OnlyAt}
use Rattle.v6_port.specs.Causes.{Calm, FaultAt}
use Rattle.v6_run.specs.declared.status.Status.{Status}
use Rattle.v6_run.specs.declared.status.Status.TheVariants.{Done, Usage, ReadFault, WriteFault, CoreSize}
use Rattle.v6_run.specs.declared.audit.LogError.TheVariants as log_error
use Rattle.v6_run.specs.declared.files.ReadError.{ReadError}
use Rattle.v6_run.specs.declared.files.ReadError.TheVariants as reading
use Rattle.v6_run.specs.declared.image.ImageError.{ImageError}
use Rattle.v6_run.specs.declared.image.ImageError.TheVariants as image_error
use Rattle.v6_run.specs.declared.image.SecondError.{SecondError}
use Rattle.v6_run.specs.declared.image.SecondError.TheVariants as second_error
use Rattle.script_text.specs.declared.script.ScriptFault.TheVariants as script_fault
use Rattle.v6_run.specs.declared.run.RunError.TheVariants as run_error
use Rattle.v6_run.specs.declared.make.MakeError.TheVariants as make_error
use Rattle.v6_run.specs.declared.error.CommandError.{CommandError}
use Rattle.v6_run.specs.declared.error.CommandError.TheVariants as error
use Rattle.v6_run.specs.declared.report.Found.{Found}
use Rattle.v6_run.specs.Words.{Outputs, Command, Run, Check, Make, Demo, Audit}
use Rattle.v6_run.specs.Outputs.{is_output}
use Rattle.v6_run.specs.Status.{fault_port, is_decided, has_written, is_closed}
use Rattle.v6_run.specs.Errors.{read_status, image_status, second_status, command_status, end_of}
use Rattle.v6_run.specs.Fronts.{HoldsFront, HoldsSome, HoldsFrontOfSome}
use Rattle.v6_run.specs.Report.{report, status_line, report_line, told_line, answer_line}
use Rattle.v6_run.specs.Causes.{IsCaused, IsFaultOf, IsFaultless, HasCause, MissesUnknown}
use Rattle.v6_run.specs.Headline.{MaybeCompletion, Unknown, Known, IsKnownAnd, has_core_size, refused_by, words_completion, IsComplete, IsPartial, IsStoppedAt, is_named, is_touched, reports_done, may_end, words_may_end, is_known}
use Rattle.v6_run.specs.Steps.{is_opened_before, StopsAt}
use Rattle.v6_run.specs.Opened.{NamedPort, has_port, command_ports, words_ports, TellsInputs, AreGood, ports_passed}
use Rattle.v6_run.specs.Answers.{Answers, AnswersWords, Reports}
use Rattle.v6_port.proofs.CauseLemmas.{same_is, still_tells, only_then}
use Rattle.v6_run.proofs.OpenedLemmas.{good_before}
use Rattle.v6_run.proofs.CauseLemmas.{by_test, only_within, left_false, right_false, named_outputs, unwritten_report, named_report}
use Rattle.v6_run.proofs.FrontLemmas.{front_of_all}
use Rattle.v6_run.proofs.AnswerLemmas.{not_so, no_file}

-- words are refused with one of two statuses
refusal_is : (command : Option Command) (s : Status) (P : Status → Type 0) → refused_by command ≡ Some s → P Usage → P CoreSize → P s
refusal_is None s P is usage size = let same_status : Usage ≡ s = cc in subst P same_status usage
refusal_is (Some c) s P is usage size = at_size (has_core_size c) is
  where
    at_size : (b : Bool) → (if b then None else Some CoreSize) ≡ Some s → P s
    at_size true none = absurd (cc)
    at_size false some = let same_status : CoreSize ≡ s = cc in subst P same_status size

-- before a run none of its files is open
pub none_open : (o : Outputs) (a : Outside) → IsIdle a → (p : OutPort) → is_output o (Out p) ≡ true → (a.port (Out p)).is_open ≡ false
none_open o a idle p named = idle.closed p (named_report o p named)

unnamed : (c : Command) → is_named c (Out out_port.Report) ≡ false
unnamed (Run words) = named_outputs words out_port.Report ∙ unwritten_report words.outputs
unnamed (Check image) = refl
unnamed (Make number final) = refl
unnamed (Demo number) = refl
unnamed (Audit log) = refl

at_fault : (p : Port) (known : Port → Bool) (a b : Outside) → FaultAt p (known p) a b → Tells a → (q : Port) → known q ≡ true → (b.port q).missing ≡ (a.port q).missing
at_fault p known a b fault told q is = by_test (same p q) _
    (λ here. subst (λ r. (b.port r).missing ≡ (a.port r).missing) (same_is p q here) (fault.missing told (ap known (same_is p q here) ∙ is)))
    (λ other. (fault.others.at q other).missing)

-- the names that are missing
missing_at : (at_port : Option Port) (known : Port → Bool) (a b : Outside) → MatchOption at_port (Calm a b) (λ p. FaultAt p (known p) a b) → Tells a
    → (q : Port) → known q ≡ true → (b.port q).missing ≡ (a.port q).missing
missing_at None known a b calm told q is = (calm.at q).missing
missing_at (Some p) known a b fault told q is = at_fault p known a b fault told q is

report_fault : (s : Status) → fault_port s ≡ Some (Out out_port.Report) → s ≡ WriteFault out_port.Report
report_fault (ReadFault port) is = absurd (cc)
report_fault (WriteFault port) is = let same_port : port ≡ out_port.Report = cc in ap WriteFault same_port
report_fault _ is = absurd (cc)

-- what the faults of the ports show of an answer, before the report
module _ (known : Port → Bool) (a b new : Outside) (only : OnlyAt (same (Out out_port.Report)) b new) where
  calm_faults : Calm a b → (q : Port) → is_report q ≡ false → (new.port q).faults ≡ (a.port q).faults
  calm_faults calm q other = ap (λ (state : PortState). state.faults) (only.others q other) ∙ (calm.at q).faults

  fault_faults : (p : Port) (k : Bool) → is_report p ≡ false → FaultAt p k a b → IsFaultOf p a new
  fault_faults p k unreported fault = record {
    rose = subst (λ (state : PortState). Rose (a.port p).faults state.faults) (sym (only.others p unreported)) fault.rose;
    others = λ q report_free other. ap (λ (state : PortState). state.faults) (only.others q report_free) ∙ (fault.others.at q other).faults;
  }

  all_faults : Calm a b → (report new).faults ≡ (report b).faults → (q : Port) → (new.port q).faults ≡ (a.port q).faults
  all_faults calm kept q = by_test (is_report q) _
      (λ here. subst (λ r. (new.port r).faults ≡ (a.port r).faults) (same_is (Out out_port.Report) q here) (kept ∙ (calm.at (Out out_port.Report)).faults))
      (λ other. calm_faults calm q other)

  faults_at : (at_port : Option Port) → (at_port ≡ Some (Out out_port.Report) → ⊥) → MatchOption at_port (Calm a b) (λ p. FaultAt p (known p) a b)
      → MatchOption at_port (IsFaultless a new) (λ p. IsFaultOf p a new)
  faults_at None unreported calm = calm_faults calm
  faults_at (Some p) unreported fault = by_test (is_report p) _
      (λ here. absurd (unreported (ap Some (sym (same_is (Out out_port.Report) p here))))) (λ other. fault_faults p _ other fault)

  kept_cause : (s : Status) → (s ≡ WriteFault out_port.Report → ⊥) → (s ≡ Done → (report new).faults ≡ (report b).faults) → IsCaused known s a b → HasCause s a new
  kept_cause s unreported kept cause = record {
    cause = faults_at (fault_port s) (λ is. unreported (report_fault s is)) cause;
    done = λ is. all_faults (subst (λ t. IsCaused known t a b) is cause) (kept is);
  }

-- the line of an error, whatever a command that was done would tell
module _ (done : List ℕ) where
  read_line : (port : InPort) (e : ReadError) → status_line (read_status port e) ≡ report_line done (read_status port e)
  read_line port reading.Fault = refl
  read_line port reading.NoMemory = refl

  image_line : (e : ImageError) → status_line (image_status e) ≡ report_line done (image_status e)
  image_line (image_error.Unread e) = read_line in_port.Image e
  image_line (image_error.Faulty fault) = refl

  second_line : (e : SecondError) → status_line (second_status e) ≡ report_line done (second_status e)
  second_line (second_error.Unread e) = read_line in_port.Second e
  second_line (second_error.Faulty fault) = refl

  write_line : (port : OutPort) → (WriteFault port ≡ WriteFault out_port.Report → ⊥) → status_line (WriteFault port) ≡ report_line done (WriteFault port)
  write_line out_port.Term unreported = refl
  write_line out_port.Log unreported = refl
  write_line out_port.Final unreported = refl
  write_line out_port.Report unreported = absurd (unreported refl)
  write_line out_port.Second unreported = refl
  write_line (out_port.Line l) unreported = refl

  error_line : (e : CommandError) → (command_status e ≡ WriteFault out_port.Report → ⊥) → status_line (command_status e) ≡ report_line done (command_status e)
  error_line error.Usage unreported = refl
  error_line error.CoreSize unreported = refl
  error_line (error.Run (run_error.Image e)) unreported = image_line e
  error_line (error.Run (run_error.Second e)) unreported = second_line e
  error_line (error.Run (run_error.Script e)) unreported = read_line in_port.Script e
  error_line (error.Run (run_error.Refused script_fault.TooLong)) unreported = refl
  error_line (error.Run (run_error.Refused (script_fault.BadLine n))) unreported = refl
  error_line (error.Run (run_error.Refused (script_fault.TooManySlots n))) unreported = refl
  error_line (error.Run (run_error.Refused script_fault.NoMemory)) unreported = refl
  error_line (error.Run run_error.NoMemory) unreported = refl
  error_line (error.Run (run_error.Write port)) unreported = write_line port unreported
  error_line (error.Run (run_error.Panic kind)) unreported = refl
  error_line (error.Check e) unreported = image_line e
  error_line (error.Make make_error.NoMemory) unreported = refl
  error_line (error.Make make_error.Fault) unreported = refl
  error_line (error.Audit log_error.Unread) unreported = refl
  error_line (error.Audit (log_error.Unlawful n)) unreported = refl
  error_line (error.Audit (log_error.Bad n)) unreported = refl
  error_line (error.Audit log_error.TooLong) unreported = refl

  line_is : (answer : Result (Option Found) CommandError) (status : Status) → IfOk answer (λ found. done ≡ told_line found)
      → (end_of command_status answer ≡ WriteFault out_port.Report → ⊥)
      → (status ≡ end_of command_status answer) ⊎ (IsOkAnd answer (λ t. is_some t ≡ true) × (status ≡ WriteFault out_port.Report)) → answer_line answer ≡ report_line done status
  line_is (Ok found) status line unreported (inl kept) = sym line ∙ ap (report_line done) (sym kept)
  line_is (Ok found) status line unreported (inr lost) = sym line ∙ ap (report_line done) (sym lost.1)
  line_is (Err e) status line unreported (inl kept) = error_line e unreported ∙ ap (report_line done) (sym kept)
  line_is (Err e) status line unreported (inr lost) = absurd lost.0

-- a completion, or a front of one, stays so after the report
module _ (a b new : Outside) (only : OnlyAt (same (Out out_port.Report)) b new) where
  partial_then : (fault : OutPort) (m : MaybeCompletion) → IsKnownAnd m (IsPartial fault a b) → IsKnownAnd m (IsPartial fault a new)
  partial_then fault Unknown partial = partial
  partial_then fault (Known c) partial = record {
    begun = partial.begun;
    told = partial.told;
    written = λ told p other. subst (λ (state : PortState). HoldsFrontOfSome (c.writes p) (a.port (Out p)).bytes state.bytes) (sym (only.others (Out p) other)) (partial.written told p other);
  }

  complete_then : (m : MaybeCompletion) (s : Status) → IsKnownAnd m (IsComplete s a b) → IsKnownAnd m (IsComplete s a new)
  complete_then Unknown s complete = complete
  complete_then (Known c) s complete = record {
    answered = complete.answered;
    written = λ told p other. subst (λ (state : PortState). HoldsSome (c.writes p) (a.port (Out p)).bytes state.bytes) (sym (only.others (Out p) other)) (complete.written told p other);
  }

-- so does the step at which a command has stopped
module _ (a b new : Outside) (only : OnlyAt (same (Out out_port.Report)) b new) (ports : List NamedPort) (unnamed_report : has_port ports (Out out_port.Report) ≡ false) (p : OutPort) where
  not_report : (q : OutPort) → has_port ports (Out q) ≡ true → is_report (Out q) ≡ false
  not_report q among = by_test (is_report (Out q)) _
      (λ is. absurd (let never : false ≡ true = sym unnamed_report ∙ ap (has_port ports) (same_is (Out out_port.Report) (Out q) is) ∙ among in cc)) (λ other. other)

  still_as : (state : OutPort → Bool) → ((q : OutPort) → has_port ports (Out q) ≡ true → (b.port (Out q)).is_open ≡ state q)
      → (q : OutPort) → has_port ports (Out q) ≡ true → (new.port (Out q)).is_open ≡ state q
  still_as state were q among = ap (λ (port : PortState). port.is_open) (only.others (Out q) (not_report q among)) ∙ were q among

  module _ (writes : OutPort → List ℕ → Type 0) where
    whole_still : (q : OutPort) → is_report (Out q) ≡ false → HoldsSome (writes q) (a.port (Out q)).bytes (b.port (Out q)).bytes
        → HoldsSome (writes q) (a.port (Out q)).bytes (new.port (Out q)).bytes
    whole_still q other all = subst (λ (state : PortState). HoldsSome (writes q) (a.port (Out q)).bytes state.bytes) (sym (only.others (Out q) other)) all

    step_then : StopsAt ports writes p a b → StopsAt ports writes p a new
    step_then (inl opening) = inl (record {
      states = still_as (λ q. is_opened_before ports q p) opening.states;
      bytes = λ q other. ap (λ (state : PortState). state.bytes) (only.others (Out q) other) ∙ opening.bytes q other;
    })
    step_then (inr (inl writing)) = inr (inl (record {
      states = still_as (λ q. true) writing.states;
      written = λ told q other before. whole_still q other (writing.written told q other before);
    }))
    step_then (inr (inr finishing)) = inr (inr (record {
      states = still_as (λ q. not (is_opened_before ports q p)) finishing.states;
      written = λ told q other. whole_still q other (finishing.written told q other);
    }))

  stopped_then : (m : MaybeCompletion) → IsKnownAnd m (IsStoppedAt ports p a b) → IsKnownAnd m (IsStoppedAt ports p a new)
  stopped_then Unknown stopped = stopped
  stopped_then (Known c) stopped = step_then c.writes stopped

partial_of_done : (fault : OutPort) (a b : Outside) (m : MaybeCompletion) → IsKnownAnd m (IsComplete Done a b) → IsKnownAnd m (IsPartial fault a b)
partial_of_done fault a b Unknown complete = complete
partial_of_done fault a b (Known c) complete = record {
  begun = (Done, complete.answered, refl);
  told = λ is. complete.answered;
  written = λ told p other. let all = complete.written told p other in
      record { text = all.text; fits = λ _. all.fits; front = front_of_all (a.port (Out p)).bytes all.text (b.port (Out p)).bytes all.holds };
}

-- what a command has come to, and what it has told
pub data Came (command : Option Command) (answer : Result (Option Found) CommandError) (old middle : Outside) : Type 0 where
  Refused : (s : Status) → refused_by command ≡ Some s → end_of command_status answer ≡ s → middle ≡ old → Came command answer old middle
  Good : (c : Command) → command ≡ Some c → refused_by command ≡ None → Answers c (end_of command_status answer) old middle → Came command answer old middle

came_by : (command : Option Command) (answer : Result (Option Found) CommandError) (old middle : Outside) (refusal : Option Status) → refused_by command ≡ refusal
    → AnswersWords command (end_of command_status answer) old middle → Came command answer old middle
came_by command answer old middle None is answers = let good = answers.good is in Good good.0 good.1 is good.2
came_by command answer old middle (Some s) is answers = let refused = answers.refused s is in Refused s is refused.0 refused.1

report_before : (command : Option Command) (answer : Result (Option Found) CommandError) (old middle : Outside) → Came command answer old middle
    → middle.port (Out out_port.Report) ≡ old.port (Out out_port.Report)
report_before command answer old middle (Refused s is answered unopened) = ap (λ (o : Outside). o.port (Out out_port.Report)) unopened
report_before command answer old middle (Good c is good all) = all.only.others (Out out_port.Report) (unnamed c)

-- before its report a command leaves Report as it was
pub report_left : (command : Option Command) (answer : Result (Option Found) CommandError) (old middle : Outside) → AnswersWords command (end_of command_status answer) old middle
    → middle.port (Out out_port.Report) ≡ old.port (Out out_port.Report)
report_left command answer old middle answers = report_before command answer old middle (came_by command answer old middle (refused_by command) refl answers)

module _ (command : Option Command) (answer : Result (Option Found) CommandError) (status : Status) (old middle new : Outside)
    (answers : AnswersWords command (end_of command_status answer) old middle) (reports : Reports answer status middle new)
    (found : IfOk answer (λ t. option_map reports_done command ≡ Some (is_some t))) where
  came : Came command answer old middle
  came = came_by command answer old middle (refused_by command) refl answers

  report_is : middle.port (Out out_port.Report) ≡ old.port (Out out_port.Report)
  report_is = report_before command answer old middle came

  -- how the report has left the status
  lost_done : (r : Result (Option Found) CommandError) → IsOkAnd r (λ t. is_some t ≡ true) → end_of command_status r ≡ Done
  lost_done (Ok t) lost = refl
  lost_done (Err s) lost = absurd lost

  ends : (P : Type 0) → (status ≡ end_of command_status answer → (status ≡ Done → (report new).faults ≡ (report middle).faults) → P)
      → (end_of command_status answer ≡ Done → status ≡ WriteFault out_port.Report → Rose (report middle).faults (report new).faults → P) → P
  ends P kept lost = ⊎_elim (λ k. kept k.0 k.1) (λ l. lost (lost_done answer l.0) l.1 l.2) reports.ends

  not_refusal : (s other : Status) → refused_by command ≡ Some s → end_of command_status answer ≡ s → other ≢ Usage → other ≢ CoreSize → end_of command_status answer ≢ other
  not_refusal s other is answered usage size e = refusal_is command s (λ t. other ≡ t → ⊥) is usage size (sym e ∙ answered)

  unreported : end_of command_status answer ≡ WriteFault out_port.Report → ⊥
  unreported e = elim came [
    | Refused s is answered unopened ↦ not_refusal s (WriteFault out_port.Report) is answered (λ o. cc) (λ o. cc) e
    | Good c is good all ↦ all.unreported e
  ]

  -- the ports
  touched_before : Came command answer old middle → OnlyAt (is_touched command) old middle
  touched_before (Refused s is answered unopened) = subst (λ o. OnlyAt (is_touched command) old o) (sym unopened) (record { fixed = refl; others = λ q other. refl })
  touched_before (Good c is good all) =
      subst (λ k. OnlyAt (is_touched k) old middle) (sym is) (only_within _ _ _ _ (λ q other. left_false (is_named c q) (is_report q) other) all.only)

  touches_report : (k : Option Command) (q : Port) → is_touched k q ≡ false → is_report q ≡ false
  touches_report None q other = other
  touches_report (Some c) q other = right_false (is_named c q) (is_report q) other

  pub only_touched : OnlyAt (is_touched command) old new
  only_touched = only_then _ _ _ _ (touched_before came) (only_within _ _ _ _ (touches_report command) reports.only)

  tells_then : Tells old → Tells middle
  tells_then told = still_tells _ _ _ (touched_before came) told

  pub unopened_where_refused : IsSome (refused_by command) → OnlyAt is_report old new
  unopened_where_refused some = go came
    where
      go : Came command answer old middle → OnlyAt is_report old new
      go (Refused s is answered unopened) = subst (λ o. OnlyAt is_report o new) unopened reports.only
      go (Good c is good all) = absurd (let none : IsSome {T = Status} None = subst IsSome good some in cc)

  -- the words
  lost_tells : (c : Command) (r : Result (Option Found) CommandError) → IsOkAnd r (λ t. is_some t ≡ true) → IfOk r (λ t. option_map reports_done command ≡ Some (is_some t)) → command ≡ Some c
      → reports_done c ≡ true
  lost_tells c (Ok t) some tells is = let same_command : option_map reports_done (Some c) ≡ Some (is_some t) = ap (option_map reports_done) (sym is) ∙ tells in cc
  lost_tells c (Err s) some tells is = absurd some

  may_lose : (c : Command) → reports_done c ≡ true → may_end c (WriteFault out_port.Report) ≡ true
  may_lose (Run words) tells = not_so _ tells
  may_lose (Check image) tells = refl
  may_lose (Make number final) tells = not_so _ tells
  may_lose (Demo number) tells = refl
  may_lose (Audit log) tells = refl

  pub of_words : MatchOption (refused_by command) (words_may_end command status ≡ true) (λ s. status ≡ s)
  of_words = go came
    where
      go : Came command answer old middle → MatchOption (refused_by command) (words_may_end command status ≡ true) (λ s. status ≡ s)
      go (Refused s is answered unopened) = subst (λ r. MatchOption r (words_may_end command status ≡ true) (λ t. status ≡ t)) (sym is)
          (ends (status ≡ s) (λ kept _. kept ∙ answered) (λ lost _ _. absurd (not_refusal s Done is answered (λ o. cc) (λ o. cc) lost)))
      go (Good c is good all) = subst (λ r. MatchOption r (words_may_end command status ≡ true) (λ t. status ≡ t)) (sym good) (subst (λ k. words_may_end k status ≡ true) (sym is)
          (⊎_elim (λ k. subst (λ t. may_end c t ≡ true) (sym k.0) all.ends) (λ l. subst (λ t. may_end c t ≡ true) (sym l.1) (may_lose c (lost_tells c answer l.0 found is))) reports.ends))

  -- the completion
  undecided : (s : Status) → refused_by command ≡ Some s → is_decided s ≡ true → ⊥
  undecided s is = refusal_is command s (λ t. is_decided t ≡ true → ⊥) is (not_so ⊥) (not_so ⊥)

  tells_command : (c : Command) → command ≡ Some c → TellsInputs (words_ports command) old → TellsInputs (command_ports c) old
  tells_command c is told = subst (λ k. TellsInputs (words_ports k) old) is told

  pub completed : is_decided status ≡ true → TellsInputs (words_ports command) old → IsKnownAnd (words_completion command old.fixed) (IsComplete status old new)
  completed decided told = ends _ (λ kept _. at_kept kept came) (λ _ lost _. not_so _ (sym (ap is_decided lost) ∙ decided))
    where
      at_kept : status ≡ end_of command_status answer → Came command answer old middle → IsKnownAnd (words_completion command old.fixed) (IsComplete status old new)
      at_kept kept (Refused s is answered unopened) = absurd (undecided s is (sym (ap is_decided (kept ∙ answered)) ∙ decided))
      at_kept kept (Good c is good all) =
          let complete = all.complete (sym (ap is_decided kept) ∙ decided) (tells_command c is told) in
          subst (λ k. IsKnownAnd (words_completion k old.fixed) (IsComplete status old new)) (sym is)
          (subst (λ s. IsKnownAnd (words_completion (Some c) old.fixed) (IsComplete s old new)) (sym kept) (complete_then old middle new reports.only _ (end_of command_status answer) complete))

  pub partly_written : (p : OutPort) → status ≡ WriteFault p → TellsInputs (words_ports command) old → IsKnownAnd (words_completion command old.fixed) (IsPartial p old new)
  partly_written p failed_there told = ends _ (λ kept _. at_kept kept came) (λ lost _ _. at_lost lost came)
    where
      at_kept : status ≡ end_of command_status answer → Came command answer old middle → IsKnownAnd (words_completion command old.fixed) (IsPartial p old new)
      at_kept kept (Refused s is answered unopened) = absurd (not_refusal s (WriteFault p) is answered (λ o. cc) (λ o. cc) (sym kept ∙ failed_there))
      at_kept kept (Good c is good all) =
          subst (λ k. IsKnownAnd (words_completion k old.fixed) (IsPartial p old new)) (sym is) (partial_then old middle new reports.only p _ (all.partial p (sym kept ∙ failed_there) (tells_command c is told)))

      at_lost : end_of command_status answer ≡ Done → Came command answer old middle → IsKnownAnd (words_completion command old.fixed) (IsPartial p old new)
      at_lost lost (Refused s is answered unopened) = absurd (not_refusal s Done is answered (λ o. cc) (λ o. cc) lost)
      at_lost lost (Good c is good all) =
          let complete = all.complete (ap is_decided lost) (tells_command c is told) in
          subst (λ k. IsKnownAnd (words_completion k old.fixed) (IsPartial p old new)) (sym is)
          (partial_then old middle new reports.only p _ (partial_of_done p old middle _ (subst (λ s. IsKnownAnd (words_completion (Some c) old.fixed) (IsComplete s old middle)) lost complete)))

  pub stopped_in_order : (p : OutPort) → status ≡ WriteFault p → is_report (Out p) ≡ false → TellsInputs (words_ports command) old
      → IsKnownAnd (words_completion command old.fixed) (IsStoppedAt (words_ports command) p old new)
  stopped_in_order p failed_there other told = ends _ (λ kept _. at_kept kept came) (λ _ lost _. absurd (at_report (sym failed_there ∙ lost)))
    where
      at_report : WriteFault p ≡ WriteFault out_port.Report → ⊥
      at_report is = let report_port : p ≡ out_port.Report = cc in let never : false ≡ true = sym other ∙ ap (λ q. is_report (Out q)) report_port in cc

      at_kept : status ≡ end_of command_status answer → Came command answer old middle → IsKnownAnd (words_completion command old.fixed) (IsStoppedAt (words_ports command) p old new)
      at_kept kept (Refused s is answered unopened) = absurd (not_refusal s (WriteFault p) is answered (λ o. cc) (λ o. cc) (sym kept ∙ failed_there))
      at_kept kept (Good c is good all) =
          subst (λ k. IsKnownAnd (words_completion k old.fixed) (IsStoppedAt (words_ports k) p old new)) (sym is)
          (stopped_then old middle new reports.only (command_ports c) (unnamed c) p _ (all.steps p (sym kept ∙ failed_there) (tells_command c is told)))

  -- the order
  pub in_order : Tells old → AreGood old.fixed (ports_passed status (words_ports command))
  in_order told = ends _ (λ kept _. at_kept kept came) (λ lost failed_there _. at_lost lost failed_there came)
    where
      at_kept : status ≡ end_of command_status answer → Came command answer old middle → AreGood old.fixed (ports_passed status (words_ports command))
      at_kept kept (Refused s is answered unopened) = subst (λ s. AreGood old.fixed (ports_passed s (words_ports command))) (sym (kept ∙ answered))
          (refusal_is command s (λ t. AreGood old.fixed (ports_passed t (words_ports command))) is tt tt)
      at_kept kept (Good c is good all) = subst (λ k. AreGood old.fixed (ports_passed status (words_ports k))) (sym is)
          (subst (λ s. AreGood old.fixed (ports_passed s (command_ports c))) (sym kept) (all.order told))

      at_lost : end_of command_status answer ≡ Done → status ≡ WriteFault out_port.Report → Came command answer old middle → AreGood old.fixed (ports_passed status (words_ports command))
      at_lost lost failed_there (Refused s is answered unopened) = absurd (not_refusal s Done is answered (λ o. cc) (λ o. cc) lost)
      at_lost lost failed_there (Good c is good all) = subst (λ k. AreGood old.fixed (ports_passed status (words_ports k))) (sym is)
          (subst (λ s. AreGood old.fixed (ports_passed s (command_ports c))) (sym failed_there)
          (good_before old.fixed (command_ports c) (Out out_port.Report) (subst (λ s. AreGood old.fixed (ports_passed s (command_ports c))) lost (all.order told))))

  pub after_opening : Tells old → (p : OutPort) → is_report (Out p) ≡ false → (new.port (Out p)).bytes ≢ (old.port (Out p)).bytes → AreGood old.fixed (words_ports command)
  after_opening told p other grew = go came
    where
      still : (new.port (Out p)).bytes ≡ (middle.port (Out p)).bytes
      still = ap (λ (state : PortState). state.bytes) (reports.only.others (Out p) other)

      go : Came command answer old middle → AreGood old.fixed (words_ports command)
      go (Refused s is answered unopened) = absurd (grew (still ∙ ap (λ (o : Outside). (o.port (Out p)).bytes) unopened))
      go (Good c is good all) = subst (λ k. AreGood old.fixed (words_ports k)) (sym is) (all.opened told p (λ same_bytes. grew (still ∙ same_bytes)))

  pub none_written : has_written status ≡ false → (p : OutPort) → is_report (Out p) ≡ false → new.port (Out p) ≡ old.port (Out p)
  none_written before p other = reports.only.others (Out p) other ∙ ends _ (λ kept _. at_kept kept came) (λ _ lost _. absurd (no_file status _ before refl lost))
    where
      at_kept : status ≡ end_of command_status answer → Came command answer old middle → middle.port (Out p) ≡ old.port (Out p)
      at_kept kept (Refused s is answered unopened) = ap (λ (o : Outside). o.port (Out p)) unopened
      at_kept kept (Good c is good all) = all.none (sym (ap has_written kept) ∙ before) p

  pub all_closed : IsIdle old → is_closed status ≡ true → (p : OutPort) → is_report (Out p) ≡ false → (new.port (Out p)).is_open ≡ false
  all_closed idle closed p other = ap (λ (state : PortState). state.is_open) (reports.only.others (Out p) other)
      ∙ ends _ (λ kept _. at_kept kept came) (λ _ lost _. absurd (let no : false ≡ true = sym (ap is_closed lost) ∙ closed in cc))
    where
      at_kept : status ≡ end_of command_status answer → Came command answer old middle → (middle.port (Out p)).is_open ≡ false
      at_kept kept (Refused s is answered unopened) = ap (λ (o : Outside). (o.port (Out p)).is_open) unopened ∙ idle.closed p other
      at_kept kept (Good c is good all) = by_test (is_named c (Out p)) _
          (λ named. all.closed (sym (ap is_closed kept) ∙ closed) p named)
          (λ unnamed_port. ap (λ (state : PortState). state.is_open) (all.only.others (Out p) unnamed_port) ∙ idle.closed p other)

  -- the causes
  cause_before : Came command answer old middle → IsCaused (is_known command old.fixed) (end_of command_status answer) old middle
  cause_before (Refused s is answered unopened) = subst (λ t. IsCaused (is_known command old.fixed) t old middle) (sym answered)
      (refusal_is command s (λ t. IsCaused (is_known command old.fixed) t old middle) is still still)
    where
      still : Calm old middle
      still = subst (λ o. Calm old o) (sym unopened) (record { at = λ q. record { faults = refl; missing = refl } })
  cause_before (Good c is good all) = subst (λ k. IsCaused (is_known k old.fixed) (end_of command_status answer) old middle) (sym is) all.cause

  pub has_cause : HasCause status old new
  has_cause = ends _ (λ kept still. subst (λ s. HasCause s old new) (sym kept)
      (kept_cause (is_known command old.fixed) old middle new reports.only (end_of command_status answer) unreported (λ is. still (kept ∙ is)) (cause_before came)))
      (λ lost failed_there rose. subst (λ s. HasCause s old new) (sym failed_there) (record {
        cause = record {
          rose = subst (λ (state : PortState). Rose state.faults (report new).faults) report_is rose;
          others = λ q unreported_port _. calm_faults (is_known command old.fixed) old middle new reports.only (subst (λ s. IsCaused (is_known command old.fixed) s old middle) lost (cause_before came)) q unreported_port;
        };
        done = λ is. absurd (cc);
      }))

  pub misses_unknown : MissesUnknown (is_known command old.fixed) old new
  misses_unknown told q known = by_test (is_report q) _
      (λ here. subst (λ r. (new.port r).missing ≡ (old.port r).missing) (same_is (Out out_port.Report) q here)
      (reports.missing (tells_then told) ∙ ap (λ (state : PortState). state.missing) report_is))
      (λ other. ap (λ (state : PortState). state.missing) (reports.only.others q other)
      ∙ missing_at (fault_port (end_of command_status answer)) (is_known command old.fixed) old middle (cause_before came) told q known)

  -- the report
  module _ (done : List ℕ) (told : Tells old) (line : IfOk answer (λ t. done ≡ told_line t)) where
    line_told : answer_line answer ≡ report_line done status
    line_told = line_is done answer status line unreported (⊎_elim (λ k. inl k.0) (λ l. inr (l.0, l.1)) reports.ends)

    pub reported : (report new).faults ≡ (report old).faults → (report new).bytes ≡ (report old).bytes ++ report_line done status
    reported calm =
        reports.whole (tells_then told) (calm ∙ sym (ap (λ (state : PortState). state.faults) report_is))
        ∙ ap (λ (state : PortState). state.bytes ++ answer_line answer) report_is ∙ ap (λ l. (report old).bytes ++ l) line_told

    pub report_front : HoldsFront (report old).bytes (report_line done status) (report new).bytes
    report_front = subst (λ l. HoldsFront (report old).bytes l (report new).bytes) line_told
        (subst (λ (state : PortState). HoldsFront state.bytes (answer_line answer) (report new).bytes) report_is (reports.front (tells_then told)))

pub line_where_told : (T : Type 0) (answer : Result (Option Found) CommandError) (done : List ℕ) → T → IfOk answer (λ t. T → done ≡ told_line t) → IfOk answer (λ t. done ≡ told_line t)
line_where_told T (Ok t) done told line = line told
line_where_told T (Err s) done told line = line
