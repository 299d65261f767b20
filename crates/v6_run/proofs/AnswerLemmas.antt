-- What a command answers before it has written anything.
use Rattle.std.proofs.Common.{◌≡◌, ℕ, true, false, ◌||◌, Option, Some, None, List, [], take, refl, sym, ◌∙◌, ap, subst, IsSomeAnd, lit<}
use Rattle.std.proofs.lemmas.List.{append-nil}
use Rattle.v6_port.specs.declared.host.InPort.TheVariants as in_port
use Rattle.v6_port.specs.declared.host.OutPort.{OutPort}
use Rattle.v6_port.specs.Outside.{Port, In, Out, same, PortState, Outside, Tells, OnlyAt}
use Rattle.v6_port.specs.Calls.{is_given}
use Rattle.fs_codec.specs.Faults.{image_fault}
use Rattle.fs_codec.specs.declared.fault.ImageFault as fault
use Rattle.v6_run.specs.declared.image.TheConstants.{IMAGE_LIMIT}
use Rattle.v6_run.specs.declared.status.Status.{Status}
use Rattle.v6_run.specs.declared.status.Status.TheVariants.{Done, ReadFault, Panic, ImageFault, NoMemory}
use Rattle.v6_run.specs.declared.files.ReadError.TheVariants as reading
use Rattle.v6_run.specs.declared.image.ImageError.{ImageError}
use Rattle.v6_run.specs.declared.image.ImageError.TheVariants as image
use Rattle.v6_run.specs.Words.{Command}
use Rattle.v6_run.specs.Status.{is_decided, has_written, is_closed}
use Rattle.v6_run.specs.Errors.{image_status}
use Rattle.v6_run.specs.Causes.{IsCaused}
use Rattle.v6_run.specs.Steps.{StopsImage}
use Rattle.v6_run.specs.Headline.{MaybeCompletion, Known, IsKnownAnd, ends_with, fault_completion, image_completion, command_completion, IsComplete, is_named, is_demo, may_end, is_known}
use Rattle.v6_run.specs.Opened.{command_ports, ports_before, has_input, TellsInputs, AreGood, ports_passed}
use Rattle.v6_run.specs.Answers.{Answers}
use Rattle.v6_run.proofs.CauseLemmas.{only_within, fault_known, not_input}

pub not_so : (P : Type 0) → false ≡ true → P
not_so P is = absurd (cc)

-- a status without a file is none with one
pub no_file : (s t : Status) → has_written s ≡ false → has_written t ≡ true → s ≡ t → ⊥
no_file s t before after is = let both : has_written s ≡ true = ap has_written is ∙ after in cc

closed_by : (s : Status) → is_closed s ≡ true → has_written s ≡ true
closed_by Done is = refl
closed_by (Panic kind) is = refl
closed_by _ is = not_so _ is

pub unwritten : (command : Command) (s : Status) (old new : Outside) → OnlyAt (is_named command) old new → may_end command s ≡ true → has_written s ≡ false
    → ((p : OutPort) → new.port (Out p) ≡ old.port (Out p)) → (Tells old → AreGood old.fixed (ports_passed s (command_ports command)))
    → (is_decided s ≡ true → TellsInputs (command_ports command) old → IsKnownAnd (command_completion command old.fixed) (IsComplete s old new)) → IsCaused (is_known (Some command) old.fixed) s old new
    → Answers command s old new
unwritten command s old new only ends before none order complete cause = record {
  only = only;
  ends = ends;
  unreported = no_file s _ before refl;
  complete = complete;
  partial = λ p is. absurd (no_file s _ before refl is);
  steps = λ p is. absurd (no_file s _ before refl is);
  order = order;
  opened = λ told p grew. absurd (grew (ap (λ (state : PortState). state.bytes) (none p)));
  none = λ _. none;
  closed = λ is. not_so _ (sym before ∙ closed_by s is);
  cause = cause;
}

-- a completion without a file
pub complete_unwritten : (s : Status) (old new : Outside) → ((p : OutPort) → new.port (Out p) ≡ old.port (Out p)) → IsComplete s old new (ends_with s)
complete_unwritten s old new none = record {
  answered = refl;
  written = λ told p other. record {
    text = [];
    fits = refl;
    holds = ap (λ (state : PortState). state.bytes) (none p) ∙ sym (append-nil (old.port (Out p)).bytes);
  };
}

completion_at_fault : (given : Option (List ℕ)) (rest : List ℕ → MaybeCompletion) (f : fault.ImageFault)
    → IsSomeAnd given (λ bytes. image_fault (take IMAGE_LIMIT bytes) ≡ Some f) → image_completion given rest ≡ Known (ends_with (ImageFault f))
completion_at_fault None rest f faulty = absurd faulty
completion_at_fault (Some bytes) rest f faulty = ap (λ o. fault_completion o (rest (take IMAGE_LIMIT bytes))) faulty

-- the reading of an image leaves the outputs alone
pub no_output : (old new : Outside) → OnlyAt (same (In in_port.Image)) old new → (p : OutPort) → new.port (Out p) ≡ old.port (Out p)
no_output old new only p = only.others (Out p) (not_input 0 p (lit< tt))

-- the image of a command could not be read, or has a fault
module _ (command : Command) (name : List ℕ) (rest : List ℕ → MaybeCompletion) (old new : Outside)
    (named : (q : Port) → is_named command q ≡ false → same (In in_port.Image) q ≡ false) (reads : is_named command (In in_port.Image) ≡ true) (takes : may_end command NoMemory ≡ true)
    (first : ports_before (command_ports command) (In in_port.Image) ≡ []) (inputs : has_input (command_ports command) ≡ true)
    (completion : command_completion command old.fixed ≡ image_completion (old.fixed.given name) rest)
    (known : is_known (Some command) old.fixed (In in_port.Image) ≡ is_given (old.fixed.given name)) (only : OnlyAt (same (In in_port.Image)) old new) where
  stops_with : (s : Status) → may_end command s ≡ true → has_written s ≡ false → (Tells old → AreGood old.fixed (ports_passed s (command_ports command)))
      → (is_decided s ≡ true → TellsInputs (command_ports command) old → IsKnownAnd (command_completion command old.fixed) (IsComplete s old new))
      → IsCaused (is_known (Some command) old.fixed) s old new → Answers command s old new
  stops_with s ends before order complete cause =
      unwritten command s old new (only_within _ _ _ _ named only) ends before (no_output old new only) order complete cause

  pub image_stops : (error : ImageError) → StopsImage name error old new → Answers command (image_status error) old new
  image_stops (image.Unread reading.Fault) stops =
      stops_with (ReadFault in_port.Image) reads refl (λ told. subst (AreGood old.fixed) (sym first) tt) (λ decided. not_so _ decided) (fault_known _ _ _ old new known stops)
  image_stops (image.Unread reading.NoMemory) stops = stops_with NoMemory takes refl (λ told. tt) (λ decided. not_so _ decided) stops
  image_stops (image.Faulty f) stops =
      stops_with (ImageFault f) (ap (λ b. b || is_demo command) reads) refl (λ told. tt)
      (λ _ told. subst (λ m. IsKnownAnd m (IsComplete (ImageFault f) old new)) (sym (completion ∙ completion_at_fault _ rest f (stops.1 (told inputs))))
      (complete_unwritten (ImageFault f) old new (no_output old new only)))
      stops.0
