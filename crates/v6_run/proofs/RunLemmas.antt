-- What `run` answers, exit by exit.
use Rattle.std.proofs.Common.{◌≡◌, ◌≢◌, ℕ, Bool, true, false, not, ◌&&◌, ◌⊎◌, inl, inr, Option, Some, None, IfSome, IsSomeAnd, List, [], ◌∷◌, ◌++◌, take, refl, sym, Ok, Err, IsOk, ◌∙◌, ap, subst, is_some, if◌then◌else◌, ◌||◌, lit<}
use Rattle.std.specs.Option.{option_map}
use Rattle.v6_port.specs.declared.host.InPort.TheVariants as in_port
use Rattle.v6_port.specs.declared.host.OutPort.{OutPort}
use Rattle.v6_port.specs.declared.host.OutPort.TheVariants as out_port
use Rattle.v6_port.specs.Outside.{Port, In, Out, same, is_report, PortState, Environment, Outside, Tells, OnlyAt}
use Rattle.v6_port.specs.Calls.{is_given}
use Rattle.v6_port.specs.Causes.{Calm}
use Rattle.fs_codec.specs.Disk.{disk_of}
use Rattle.fs_codec.specs.Faults.{image_fault}
use Rattle.abstract_unix.specs.Unix.{System}
use Rattle.abstract_unix.specs.Runs.{Course, system_of, is_second_bad, started, boots, course}
use Rattle.unix_core.specs.declared.boot.SecondFault.{SecondFault}
use Rattle.unix_core.specs.Boots.{second_fault_of}
use Rattle.take_script.specs.Events.{events_of}
use Rattle.v6_run.specs.declared.image.TheConstants.{IMAGE_LIMIT}
use Rattle.v6_run.specs.declared.run.TheConstants.{SCRIPT_LIMIT}
use Rattle.v6_run.specs.declared.status.Status.{Status}
use Rattle.v6_run.specs.declared.status.Status.TheVariants as status
use Rattle.v6_run.specs.declared.status.Status.TheVariants.{ReadFault, WriteFault, ScriptFault, NoMemory}
use Rattle.abstract_unix.specs.declared.ends.Ends.{Ends}
use Rattle.abstract_unix.specs.declared.ends.Ends.TheVariants as ends
use Rattle.abstract_unix.specs.declared.ends.Ends.TheVariants.{AtEnd}
use Rattle.v6_run.specs.declared.files.ReadError.{ReadError}
use Rattle.v6_run.specs.declared.files.ReadError.TheVariants as reading
use Rattle.v6_run.specs.declared.image.ImageError.{ImageError}
use Rattle.v6_run.specs.declared.image.SecondError.{SecondError}
use Rattle.v6_run.specs.declared.image.SecondError.TheVariants as second_error
use Rattle.v6_run.specs.declared.words.Outputs as written
use Rattle.v6_run.specs.declared.words.Outputs.TheVariants as made
use Rattle.v6_run.specs.declared.words.Machine as of_run
use Rattle.v6_run.specs.declared.words.Machine.TheVariants as disks
use Rattle.v6_run.specs.Words.{Outputs, RunWords, line_count, second_files, second_image, machine_lines, machine_second, outputs_value, Run}
use Rattle.script_text.specs.declared.script.Event as asked
use Rattle.script_text.specs.declared.script.ScriptFault as text
use Rattle.script_text.specs.declared.script.ScriptFault.TheVariants as fault
use Rattle.script_text.specs.Script.{script_of, Refuses}
use Rattle.v6_run.specs.Status.{is_decided, has_written}
use Rattle.v6_run.specs.Errors.{read_status, image_status, second_status, script_status}
use Rattle.v6_run.specs.Fronts.{HoldsSome, HoldsFrontOfSome}
use Rattle.v6_run.specs.Opened.{NamedPort, input, second_inputs, output_ports, has_port, ports_before, command_ports, knows_port, TellsInputs, IsGoodAt, AreGood, ports_passed, AreGoodAfter}
use Rattle.v6_run.specs.Outputs.{is_output, run_writes, EndsRun, StopsRun}
use Rattle.v6_run.specs.Causes.{IsCaused}
use Rattle.v6_run.specs.Steps.{StopsReading, StopsImage, StopsSecond, is_opened_before, StopsAt}
use Rattle.v6_run.specs.Headline.{MaybeCompletion, Known, IsKnownAnd, ends_with, course_completion, lines_completion, bytes_completion, script_completion, fault_completion, image_completion, second_fault_completion, given_second, second_completion, command_completion, IsComplete, IsPartial, IsStoppedAt, status_at, is_named, may_end, is_known}
use Rattle.v6_run.specs.Answers.{Answers, HasSecond, HasFiles}
use Rattle.v6_run.proofs.OpenedLemmas.{good_first, good_later, given_and, with_image, with_images, with_images_before}
use Rattle.v6_run.proofs.LinePorts.{or_false}
use Rattle.v6_port.proofs.CauseLemmas.{still_tells, only_then, calm_then, fault_then}
use Rattle.v6_run.proofs.CauseLemmas.{fault_known, only_within, not_input, second_unread, names_image, names_second, names_script, names_outputs, outputs_are, named_outputs, before_outputs, known_outputs, named_script, known_script, before_script, named_second, known_second, before_second, named_report}
use Rattle.v6_run.proofs.AnswerLemmas.{not_so, unwritten, complete_unwritten, image_stops}

-- what comes after the first image
abbrev after_image : RunWords → Environment → List ℕ → MaybeCompletion
after_image words fixed image = second_completion (second_image words.outputs) fixed image (script_completion words (fixed.given words.script) image)

-- the image could not be read, or has a fault
pub image_refused : (words : RunWords) (error : ImageError) (old new : Outside) → OnlyAt (same (In in_port.Image)) old new → StopsImage words.image error old new
    → Answers (Run words) (image_status error) old new
image_refused words error old new only =
    image_stops (Run words) words.image (after_image words old.fixed) old new (names_image words) refl refl refl refl refl refl only error

-- What the files that were read come to: the first image, the second one, and the script.
image_done : (given : Option (List ℕ)) (image : List ℕ) (rest : List ℕ → MaybeCompletion) → option_map (take IMAGE_LIMIT) given ≡ Some image → image_fault image ≡ None
    → image_completion given rest ≡ rest image
image_done None image rest is good = cc
image_done (Some bytes) image rest is good =
    let read : take IMAGE_LIMIT bytes ≡ image = cc in
    ap (λ l. fault_completion (image_fault l) (rest l)) read ∙ ap (λ f. fault_completion f (rest image)) good

given_done : (image : List ℕ) (given : Option (List ℕ)) (bytes : List ℕ) (rest : Option (List ℕ) → MaybeCompletion) → option_map (take IMAGE_LIMIT) given ≡ Some bytes
    → second_fault_of image bytes ≡ None → given_second image given rest ≡ rest (Some bytes)
given_done image None bytes rest is good = cc
given_done image (Some b) bytes rest is good =
    let read : take IMAGE_LIMIT b ≡ bytes = cc in
    ap (λ l. second_fault_completion (second_fault_of image l) (rest (Some l))) read ∙ ap (λ f. second_fault_completion f (rest (Some bytes))) good

second_done : (image : List ℕ) (name second : Option (List ℕ)) (o : Outside) (rest : Option (List ℕ) → MaybeCompletion) → HasSecond image name second o → Tells o
    → second_completion name o.fixed image rest ≡ rest second
second_done image None second o rest has told = ap rest (sym has)
second_done image (Some name) None o rest has told = absurd has
second_done image (Some name) (Some bytes) o rest has told = given_done image (o.fixed.given name) bytes rest (has.1 told) has.0

script_done : (words : RunWords) (given : Option (List ℕ)) (image : List ℕ) (second : Option (List ℕ)) (bytes : List ℕ) → option_map (take SCRIPT_LIMIT) given ≡ Some bytes
    → script_completion words given image second ≡ Known (bytes_completion words image second bytes)
script_done words None image second bytes is = cc
script_done words (Some b) image second bytes is =
    let read : take SCRIPT_LIMIT b ≡ bytes = cc in ap (λ l. Known (bytes_completion words image second l)) read

second_good : (image : List ℕ) (name second : Option (List ℕ)) (o : Outside) → HasSecond image name second o → Tells o
    → AreGoodAfter (Some image) o.fixed (second_inputs name)
second_good image None second o has told = tt
second_good image (Some name) None o has told = absurd has
second_good image (Some name) (Some bytes) o has told =
    (given_and IMAGE_LIMIT _ bytes (λ l. second_fault_of image l ≡ None) (has.1 told) has.0, tt)

second_before : (image : List ℕ) (name second : Option (List ℕ)) (old middle : Outside) → middle.fixed ≡ old.fixed → (Tells old → Tells middle)
    → HasSecond image name second middle → HasSecond image name second old
second_before image None second old middle fixed tells has = has
second_before image (Some name) None old middle fixed tells has = has
second_before image (Some name) (Some bytes) old middle fixed tells has =
    (has.0, λ told. ap (λ (f : Environment). option_map (take IMAGE_LIMIT) (f.given name)) (sym fixed) ∙ has.1 (tells told))

-- what is wrong with a second image
second_faulty : (image : List ℕ) (given : Option (List ℕ)) (rest : Option (List ℕ) → MaybeCompletion) (fault : SecondFault)
    → IsSomeAnd given (λ bytes. second_fault_of image (take IMAGE_LIMIT bytes) ≡ Some fault) → given_second image given rest ≡ Known (ends_with (status.SecondFault fault))
second_faulty image None rest fault is = absurd is
second_faulty image (Some bytes) rest fault is = ap (λ f. second_fault_completion f (rest (Some (take IMAGE_LIMIT bytes)))) is

-- The second image is read where the words name it.
pub other_only : (o : Option (List ℕ)) (name : List ℕ) (old new : Outside) → o ≡ Some name → OnlyAt (same (In in_port.Second)) old new
    → OnlyAt (has_port (second_inputs o)) old new
other_only o name old new is only =
    subst (λ n. OnlyAt (has_port (second_inputs n)) old new) (sym is) (only_within _ _ _ _ (λ q other. sym (or_false (same (In in_port.Second) q)) ∙ other) only)

pub other_read : (image : List ℕ) (o : Option (List ℕ)) (name bytes : List ℕ) (old : Outside) → o ≡ Some name → second_fault_of image bytes ≡ None
    → (Tells old → option_map (take IMAGE_LIMIT) (old.fixed.given name) ≡ Some bytes) → HasSecond image o (Some bytes) old
other_read image o name bytes old is good whole = subst (λ n. HasSecond image n (Some bytes) old) (sym is) (good, whole)

pub none_read : (image : List ℕ) (o : Option (List ℕ)) (old : Outside) → o ≡ None → HasSecond image o None old
none_read image o old is = subst (λ n. HasSecond image n None old) (sym is) refl

pub other_stops : (P : List ℕ → Type 0) (o : Option (List ℕ)) (name : List ℕ) → o ≡ Some name → P name → IsSomeAnd o P
other_stops P o name is stops = subst (λ n. IsSomeAnd n P) (sym is) stops

-- An image without a fault has been read, and then the second one, where the words name one.
module _ (words : RunWords) (image : List ℕ) (old middle new : Outside) (first : OnlyAt (same (In in_port.Image)) old middle) (calm : Calm old middle)
    (good : image_fault image ≡ None) (image_is : Tells old → option_map (take IMAGE_LIMIT) (old.fixed.given words.image) ≡ Some image)
    (second : OnlyAt (has_port (second_inputs (second_image words.outputs))) middle new) where
  only_both : OnlyAt (is_named (Run words)) old new
  only_both = only_then _ _ _ _ (only_within _ _ _ _ (names_image words) first) (only_within _ _ _ _ (names_second words) second)

  none_written : (p : OutPort) → new.port (Out p) ≡ old.port (Out p)
  none_written p = second_unread (second_image words.outputs) middle new second p ∙ first.others (Out p) (not_input 0 p (lit< tt))

  -- the second one could not be read, or something is wrong with it
  module _ (name : List ℕ) (is : second_image words.outputs ≡ Some name) where
    order : Tells old → AreGood old.fixed (ports_before (command_ports (Run words)) (In in_port.Second))
    order told = subst (AreGood old.fixed) (sym (before_second words name is))
        (with_image old.fixed words.image image None (image_is told) good [] tt)

    faulty_is : (fault : SecondFault) → IsSomeAnd (old.fixed.given name) (λ bytes. second_fault_of image (take IMAGE_LIMIT bytes) ≡ Some fault) → Tells old
        → command_completion (Run words) old.fixed ≡ Known (ends_with (status.SecondFault fault))
    faulty_is fault faulty told =
        image_done (old.fixed.given words.image) image (after_image words old.fixed) (image_is told) good
        ∙ ap (λ o. second_completion o old.fixed image (script_completion words (old.fixed.given words.script) image)) is
        ∙ second_faulty image (old.fixed.given name) _ fault faulty

    stops_at : (error : SecondError) → StopsSecond image name error middle new → Answers (Run words) (second_status error) old new
    stops_at (second_error.Unread reading.Fault) stops =
        let known : is_known (Some (Run words)) old.fixed (In in_port.Second) ≡ is_given (middle.fixed.given name) =
        known_second words name is old.fixed ∙ ap (λ (f : Environment). is_given (f.given name)) (sym first.fixed) in
        unwritten (Run words) (ReadFault in_port.Second) old new only_both (named_second words name is) refl none_written order (λ decided. not_so _ decided)
        (fault_known (In in_port.Second) _ _ old new known (fault_then (In in_port.Second) _ old middle new first.fixed calm stops))
    stops_at (second_error.Unread reading.NoMemory) stops =
        unwritten (Run words) NoMemory old new only_both refl refl none_written (λ told. tt) (λ decided. not_so _ decided) (calm_then _ _ _ calm stops)
    stops_at (second_error.Faulty fault) stops =
        let faulty : Tells old → IsSomeAnd (old.fixed.given name) (λ bytes. second_fault_of image (take IMAGE_LIMIT bytes) ≡ Some fault) =
        λ told. subst (λ (f : Environment). IsSomeAnd (f.given name) (λ bytes. second_fault_of image (take IMAGE_LIMIT bytes) ≡ Some fault)) first.fixed
        (stops.1 (still_tells _ _ _ first told)) in
        unwritten (Run words) (status.SecondFault fault) old new only_both (named_second words name is) refl none_written order
        (λ _ told. subst (λ m. IsKnownAnd m (IsComplete (status.SecondFault fault) old new)) (sym (faulty_is fault (faulty (told refl)) (told refl)))
        (complete_unwritten (status.SecondFault fault) old new none_written))
        (calm_then _ _ _ calm stops.0)

  pub second_refused : (error : SecondError) → IsSomeAnd (second_image words.outputs) (λ name. StopsSecond image name error middle new)
      → Answers (Run words) (second_status error) old new
  second_refused error stops = by (second_image words.outputs) refl stops
    where
      by : (o : Option (List ℕ)) → second_image words.outputs ≡ o → IsSomeAnd o (λ name. StopsSecond image name error middle new)
          → Answers (Run words) (second_status error) old new
      by None is stops = absurd stops
      by (Some name) is stops = stops_at name is error stops

  -- then the script
  module _ (bytes_second : Option (List ℕ)) (has : HasSecond image (second_image words.outputs) bytes_second middle) (calm_second : Calm middle new)
      (last : Outside) (third : OnlyAt (same (In in_port.Script)) new last) where
    fixed_so : new.fixed ≡ old.fixed
    fixed_so = second.fixed ∙ first.fixed

    tells_so : Tells old → Tells new
    tells_so told = still_tells _ _ _ second (still_tells _ _ _ first told)

    has_old : HasSecond image (second_image words.outputs) bytes_second old
    has_old = second_before image (second_image words.outputs) bytes_second old middle first.fixed (still_tells _ _ _ first) has

    only_all : OnlyAt (is_named (Run words)) old last
    only_all = only_then _ _ _ _ only_both (only_within _ _ _ _ (names_script words) third)

    none_last : (p : OutPort) → last.port (Out p) ≡ old.port (Out p)
    none_last p = third.others (Out p) (not_input 1 p (lit< tt)) ∙ none_written p

    both_calm : Calm old new
    both_calm = calm_then _ _ _ calm calm_second

    -- it could not be read
    pub script_unread : (error : ReadError) → StopsReading (In in_port.Script) (is_given (new.fixed.given words.script)) error new last
        → Answers (Run words) (read_status in_port.Script error) old last
    script_unread reading.Fault stops =
        let known : is_known (Some (Run words)) old.fixed (In in_port.Script) ≡ is_given (new.fixed.given words.script) =
        known_script words old.fixed ∙ ap (λ (f : Environment). is_given (f.given words.script)) (sym fixed_so) in
        unwritten (Run words) (ReadFault in_port.Script) old last only_all (named_script words) refl none_last
        (λ told. subst (AreGood old.fixed) (sym (before_script words))
        (with_image old.fixed words.image image None (image_is told) good (second_inputs (second_image words.outputs))
        (second_good image (second_image words.outputs) bytes_second old has_old told)))
        (λ decided. not_so _ decided)
        (fault_known (In in_port.Script) _ _ old last known (fault_then (In in_port.Script) _ old new last fixed_so both_calm stops))
    script_unread reading.NoMemory stops =
        unwritten (Run words) NoMemory old last only_all refl refl none_last (λ told. tt) (λ decided. not_so _ decided) (calm_then _ _ _ both_calm stops)

    pub files_read : (bytes : List ℕ) → Calm new last → (Tells new → option_map (take SCRIPT_LIMIT) (new.fixed.given words.script) ≡ Some bytes)
        → HasFiles words image bytes_second bytes old last
    files_read bytes calm_last script_is = record {
      only = only_all;
      none = none_last;
      calm = calm_then _ _ _ both_calm calm_last;
      good = good;
      second = has_old;
      image_is = image_is;
      script_is = λ told. ap (λ (f : Environment). option_map (take SCRIPT_LIMIT) (f.given words.script)) (sym fixed_so) ∙ script_is (tells_so told);
    }

-- what is there of a second image where the words name one
pub second_sound : (image : List ℕ) (name second : Option (List ℕ)) (o : Outside) → HasSecond image name second o
    → IfSome second (λ bytes. second_fault_of image bytes ≡ None)
second_sound image None None o has = tt
second_sound image None (Some bytes) o has = absurd (cc has)
second_sound image (Some name) None o has = tt
second_sound image (Some name) (Some bytes) o has = has.0

pub second_read : (image : List ℕ) (name second : Option (List ℕ)) (o : Outside) → HasSecond image name second o → is_some second ≡ is_some name
second_read image None second o has = ap is_some has
second_read image (Some name) None o has = absurd has
second_read image (Some name) (Some bytes) o has = refl

pub some_mapped : {X Y : Type 0} (f : X → Y) (o : Option X) → is_some (option_map f o) ≡ is_some o
some_mapped f None = refl
some_mapped f (Some x) = refl

-- With a second disk there is one line.
pub one_line : (outputs : written.Outputs) → is_some (second_files (outputs_value outputs)) ≡ true → line_count (outputs_value outputs) ≡ 1
one_line (made.Disk files) some = by files.machine some
  where
    by : (machine : of_run.Machine) → is_some (machine_second machine) ≡ true → machine_lines machine ≡ 1
    by (disks.Lines lines) some = absurd (cc some)
    by (disks.Disks second) some = refl
one_line (made.Memory final) some = absurd (cc some)

has_begun : (ended : Ends) → has_written (status_at ended) ≡ true
has_begun AtEnd = refl
has_begun (ends.Panic kind) = refl

may_stop : (words : RunWords) (p : OutPort) → is_output words.outputs (Out p) ≡ true → may_end (Run words) (WriteFault p) ≡ true
may_stop words p named = ap (λ b. b || (is_report (Out p) && false)) (named_outputs words p ∙ named)

not_report : (outputs : Outputs) (p : OutPort) → is_output outputs (Out p) ≡ true → WriteFault p ≡ WriteFault out_port.Report → ⊥
not_report outputs p named is =
    let report : p ≡ out_port.Report = cc in
    not_so _ (sym (named_report outputs p named) ∙ ap (λ q. is_report (Out q)) report)

module _ (words : RunWords) (image : List ℕ) (second : Option (List ℕ)) (bytes : List ℕ) (old middle : Outside) (files : HasFiles words image second bytes old middle) where
  run_is : Tells old → command_completion (Run words) old.fixed ≡ Known (bytes_completion words image second bytes)
  run_is told =
      image_done (old.fixed.given words.image) image (after_image words old.fixed) (files.image_is told) files.good
      ∙ second_done image (second_image words.outputs) second old (script_completion words (old.fixed.given words.script) image) files.second told
      ∙ script_done words (old.fixed.given words.script) image second bytes (files.script_is told)

  other_good : Tells old → AreGoodAfter (Some image) old.fixed (second_inputs (second_image words.outputs))
  other_good told = second_good image (second_image words.outputs) second old files.second told

  before_good : Tells old → AreGood old.fixed (ports_before (command_ports (Run words)) (In in_port.Script))
  before_good told = subst (AreGood old.fixed) (sym (before_script words))
      (with_image old.fixed words.image image None (files.image_is told) files.good (second_inputs (second_image words.outputs)) (other_good told))

  -- the images are good, and so is what is opened after them, or a front of it
  past_images : (ports : List NamedPort) → Tells old → AreGoodAfter (Some image) old.fixed ports
      → AreGood old.fixed (input in_port.Image words.image ∷ second_inputs (second_image words.outputs) ++ ports)
  past_images ports told good =
      with_images old.fixed words.image image (second_image words.outputs) (files.image_is told) files.good (other_good told) ports good

  past_images_before : (ports : List NamedPort) (q : Port) → Tells old → AreGoodAfter (Some image) old.fixed (ports_before ports q)
      → AreGood old.fixed (ports_before (input in_port.Image words.image ∷ second_inputs (second_image words.outputs) ++ ports) q)
  past_images_before ports q told good =
      with_images_before old.fixed words.image image (second_image words.outputs) (files.image_is told) files.good (other_good told) ports q good

  -- the texts that the run may write
  abbrev writes : Course → OutPort → List ℕ → Type 0
  writes = run_writes words.outputs (disk_of image) (option_map disk_of second)

  abbrev lines : ℕ
  lines = line_count words.outputs

  -- what ends a command before its run is this completion, and shows nothing
  early_complete : (s : Status) → bytes_completion words image second bytes ≡ ends_with s → Tells old
      → IsKnownAnd (command_completion (Run words) old.fixed) (IsComplete s old middle)
  early_complete s is told = subst (λ m. IsKnownAnd m (IsComplete s old middle)) (sym (run_is told ∙ ap Known is)) (complete_unwritten s old middle files.none)

  before_run : (s : Status) → may_end (Run words) s ≡ true → has_written s ≡ false → (Tells old → AreGood old.fixed (ports_passed s (command_ports (Run words))))
      → (is_decided s ≡ true → TellsInputs (command_ports (Run words)) old → IsKnownAnd (command_completion (Run words) old.fixed) (IsComplete s old middle))
      → IsCaused (is_known (Some (Run words)) old.fixed) s old middle → Answers (Run words) s old middle
  before_run s may before order complete cause = unwritten (Run words) s old middle files.only may before files.none order complete cause

  faulty : (fault : text.ScriptFault) → may_end (Run words) (ScriptFault fault) ≡ true → script_of bytes ≡ Err fault → Answers (Run words) (ScriptFault fault) old middle
  faulty fault may is = before_run (ScriptFault fault) may refl before_good
      (λ _ told. early_complete (ScriptFault fault) (ap (λ s. lines_completion words.core lines writes image second s) is) (told refl)) files.calm

  pub script_refused : (fault : text.ScriptFault) → Refuses bytes fault → Answers (Run words) (script_status fault) old middle
  script_refused fault.TooLong refused = faulty fault.TooLong refl refused
  script_refused (fault.BadLine n) refused = faulty (fault.BadLine n) refl refused
  script_refused (fault.TooManySlots n) refused = faulty (fault.TooManySlots n) refl refused
  script_refused fault.NoMemory refused = before_run NoMemory refl refl (λ told. tt) (λ decided. not_so _ decided) files.calm

  module _ (events : List asked.Event) (script_is : script_of bytes ≡ Ok events) where
    -- the system that was booted is that of the images
    is_of : (bad : Bool) (system : System) → (if bad then None else Some (system_of image second words.core lines)) ≡ Some system
        → system_of image second words.core lines ≡ system
    is_of true system is = absurd (cc is)
    is_of false system is = cc is

    boots_as : (system : System) → boots image second words.core lines ≡ Some system
        → bytes_completion words image second bytes ≡ course_completion writes (course (started system) (events_of events))
    boots_as system is =
        ap (λ s. lines_completion words.core lines writes image second s) script_is
        ∙ ap (λ m. course_completion writes (course (started m) (events_of events)))
        (is_of (is_some (image_fault image) || is_second_bad image second) system is)

    pub boot_refused : Answers (Run words) NoMemory old middle
    boot_refused = before_run NoMemory refl refl (λ told. tt) (λ decided. not_so _ decided) files.calm

    script_good : Tells old → IsGoodAt (Some image) old.fixed words.script (In in_port.Script)
    script_good told = given_and SCRIPT_LIMIT _ bytes (λ l. IsOk (script_of l)) (files.script_is told) (subst IsOk (sym script_is) refl)

    -- and so are the outputs, as far as those are
    with_inputs : (outputs : List NamedPort) → (Tells middle → AreGood middle.fixed outputs) → Tells old → AreGoodAfter (Some image) old.fixed outputs
    with_inputs outputs good told =
        good_later old.fixed (Some image) outputs (subst (λ f. AreGood f outputs) files.only.fixed (good (still_tells _ _ _ files.only told)))

    -- the run, with its files
    module _ (system : System) (boots_is : boots image second words.core lines ≡ Some system) (new : Outside) (only : OnlyAt (is_output words.outputs) middle new) where
      abbrev run : Course
      run = course (started system) (events_of events)

      run_completion : Tells old → command_completion (Run words) old.fixed ≡ Known (course_completion writes run)
      run_completion told = run_is told ∙ ap Known (boots_as system boots_is)

      only_run : OnlyAt (is_named (Run words)) old new
      only_run = only_then _ _ _ _ files.only (only_within _ _ _ _ (names_outputs words) only)

      run_complete : (ended : Ends) → EndsRun words.outputs (writes run) run ended middle new → Tells old
          → IsKnownAnd (command_completion (Run words) old.fixed) (IsComplete (status_at ended) old new)
      run_complete ended all told = subst (λ m. IsKnownAnd m (IsComplete (status_at ended) old new)) (sym (run_completion told)) (record {
        answered = ap status_at all.ended;
        written = λ _ p _. subst (λ (state : PortState). HoldsSome (writes run p) state.bytes (new.port (Out p)).bytes) (files.none p)
            (all.written (still_tells _ _ _ files.only told) p);
      })

      all_good : (ended : Ends) → EndsRun words.outputs (writes run) run ended middle new → Tells old → AreGood old.fixed (command_ports (Run words))
      all_good ended all told = past_images (input in_port.Script words.script ∷ output_ports words.outputs) told
          (script_good told, with_inputs (output_ports words.outputs) all.order told)

      pub run_ended : (ended : Ends) → EndsRun words.outputs (writes run) run ended middle new → Answers (Run words) (status_at ended) old new
      run_ended AtEnd ended = record {
        only = only_run;
        ends = refl;
        unreported = λ is. cc;
        complete = λ _ told. run_complete AtEnd ended (told refl);
        partial = λ p is. absurd (cc);
        steps = λ p is. absurd (cc);
        order = all_good AtEnd ended;
        opened = λ told p grew. all_good AtEnd ended told;
        none = λ before. not_so _ (sym before);
        closed = λ _ p named. ended.is_open p (sym (named_outputs words p) ∙ named);
        cause = calm_then _ _ _ files.calm ended.calm;
      }
      run_ended (ends.Panic kind) ended = record {
        only = only_run;
        ends = refl;
        unreported = λ is. cc;
        complete = λ _ told. run_complete (ends.Panic kind) ended (told refl);
        partial = λ p is. absurd (cc);
        steps = λ p is. absurd (cc);
        order = all_good (ends.Panic kind) ended;
        opened = λ told p grew. all_good (ends.Panic kind) ended told;
        none = λ before. not_so _ (sym before);
        closed = λ _ p named. ended.is_open p (sym (named_outputs words p) ∙ named);
        cause = calm_then _ _ _ files.calm ended.calm;
      }

      module _ (port : OutPort) (stops : StopsRun words.outputs (writes run) port middle new) where
        run_partial : Tells old → IsKnownAnd (command_completion (Run words) old.fixed) (IsPartial port old new)
        run_partial told = subst (λ m. IsKnownAnd m (IsPartial port old new)) (sym (run_completion told)) (record {
          begun = (status_at run.ending, refl, has_begun run.ending);
          told = λ is. not_so _ (sym (named_report words.outputs port stops.named) ∙ is);
          written = λ _ p _. subst (λ (state : PortState). HoldsFrontOfSome (writes run p) state.bytes (new.port (Out p)).bytes) (files.none p)
              (stops.written (still_tells _ _ _ files.only told) p);
        })

        -- at which step it was
        among : (q : OutPort) → is_named (Run words) (Out q) ≡ true → has_port (output_ports words.outputs) (Out q) ≡ true
        among q named = outputs_are words.outputs (Out q) ∙ sym (named_outputs words q) ∙ named

        state_as : (f : Bool → Bool) (q : OutPort) → f (is_opened_before (output_ports words.outputs) q port) ≡ f (is_opened_before (command_ports (Run words)) q port)
        state_as f q = ap f (sym (before_outputs words port q))

        whole_as : (q : OutPort) → HoldsSome (writes run q) (middle.port (Out q)).bytes (new.port (Out q)).bytes
            → HoldsSome (writes run q) (old.port (Out q)).bytes (new.port (Out q)).bytes
        whole_as q all = subst (λ (state : PortState). HoldsSome (writes run q) state.bytes (new.port (Out q)).bytes) (files.none q) all

        step_from : StopsAt (output_ports words.outputs) (writes run) port middle new → StopsAt (command_ports (Run words)) (writes run) port old new
        step_from (inl opening) = inl (record {
          states = λ q named. opening.states q (among q named) ∙ state_as (λ b. b) q;
          bytes = λ q other. opening.bytes q other ∙ ap (λ (state : PortState). state.bytes) (files.none q);
        })
        step_from (inr (inl writing)) = inr (inl (record {
          states = λ q named. writing.states q (among q named);
          written = λ told q other before. whole_as q (writing.written (still_tells _ _ _ files.only told) q other before);
        }))
        step_from (inr (inr finishing)) = inr (inr (record {
          states = λ q named. finishing.states q (among q named) ∙ state_as not q;
          written = λ told q other. whole_as q (finishing.written (still_tells _ _ _ files.only told) q other);
        }))

        run_step : Tells old → IsKnownAnd (command_completion (Run words) old.fixed) (IsStoppedAt (command_ports (Run words)) port old new)
        run_step told = subst (λ m. IsKnownAnd m (IsStoppedAt (command_ports (Run words)) port old new)) (sym (run_completion told)) (step_from stops.step)

        grown : (p : OutPort) → (new.port (Out p)).bytes ≢ (old.port (Out p)).bytes → (new.port (Out p)).bytes ≢ (middle.port (Out p)).bytes
        grown p grew is = grew (is ∙ ap (λ (state : PortState). state.bytes) (files.none p))

        pub run_stopped : Answers (Run words) (WriteFault port) old new
        run_stopped =
            let known : is_known (Some (Run words)) old.fixed (Out port) ≡ knows_port (output_ports words.outputs) middle.fixed (Out port) =
            known_outputs words old.fixed port ∙ ap (λ (f : Environment). knows_port (output_ports words.outputs) f (Out port)) (sym files.only.fixed) in
            record {
              only = only_run;
              ends = may_stop words port stops.named;
              unreported = not_report words.outputs port stops.named;
              complete = λ decided. not_so _ decided;
              partial = λ p is told. let same_port : port ≡ p = cc in subst (λ q. IsKnownAnd (command_completion (Run words) old.fixed) (IsPartial q old new)) same_port (run_partial (told refl));
              steps = λ p is told. let same_port : port ≡ p = cc in
                  subst (λ q. IsKnownAnd (command_completion (Run words) old.fixed) (IsStoppedAt (command_ports (Run words)) q old new)) same_port (run_step (told refl));
              order = λ told. past_images_before (input in_port.Script words.script ∷ output_ports words.outputs) (Out port) told
                  (good_first old.fixed (Some image) (input in_port.Script words.script) (output_ports words.outputs) (Out port) (script_good told)
                  (with_inputs (ports_before (output_ports words.outputs) (Out port)) stops.order told));
              opened = λ told p grew. past_images (input in_port.Script words.script ∷ output_ports words.outputs) told
                  (script_good told, with_inputs (output_ports words.outputs) (λ so. stops.opened so p (grown p grew)) told);
              none = λ before. not_so _ (sym before);
              closed = λ is. absurd (cc);
              cause = fault_known (Out port) _ _ old new known (fault_then _ _ old middle new files.only.fixed files.calm stops.fault);
            }
