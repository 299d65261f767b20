-- A signal that is delivered at the end of a turn, or in a tick: its effects are apt.
use Rattle.std.proofs.Common.{◌≡◌, ◌∙◌, ◌==◌, ◌+◌, ℕ, Bool, true, false, cond, if◌then◌else◌, [], ◌∷◌, ◌++◌, append_assoc, Option, Some, None, refl, sym, subst}
use Rattle.v6_base.specs.Image.{Image}
use Rattle.v6_base.specs.Trace.{Log}
use Rattle.v6_base.specs.declared.entry.Entry.TheVariants as line
use Rattle.u_area.specs.declared.area.UArea.{UArea}
use Rattle.pick_rules.specs.Effects.{Show}
use Rattle.pick_rules.specs.Lawful.{Seen}
use Rattle.image_keep.specs.Kept.{clicks_of}
use Rattle.log_laws.proofs.Fitting.{Apt, apt_append, apt_more}
use Rattle.log_laws.proofs.Seats.{InCall, Paused}
use Rattle.log_laws.proofs.Lines.{trap_apt}
use Rattle.sig_core.specs.Signals.{handler_of, due}
use Rattle.sig_core.specs.declared.psig.Delivered.TheVariants.{Ends, Caught}
use Rattle.sig_core.specs.Delivery.{Delivery, makes_core, signal_stack, delivery, caught, pushed}
use Rattle.sys_files.specs.Did.{Did}
use Rattle.sys_files.specs.Core.{core_file, is_written}
use Rattle.sys_files.proofs.CoreLemmas.{OverWith, core_keeps}
use Rattle.sys_procs.specs.Process.{Process, image_of}
use Rattle.abstract_unix.specs.declared.ending.Ending.{Ending}
use Rattle.abstract_unix.specs.declared.ending.Ending.TheVariants as ending
use Rattle.abstract_unix.specs.Unix.{Unix, process_of}
use Rattle.abstract_unix.specs.Steps.{Steps}
use Rattle.abstract_unix.specs.Calls.{handed_of, with_handed, world_of, exits_with}
use Rattle.abstract_unix.specs.Delivery.{heeding, heeds, interrupted, calls_routine, catches, signal_status, dumped, ends_after, ends_by, delivers, delivers_if, delivers_due, ends_by_ending, ends_turn}
use Rattle.abstract_unix.specs.Turn.{end_effects}
use Rattle.abstract_unix.proofs.Sitting.{seats_of, kept_in}
use Rattle.abstract_unix.proofs.Steps.{GoesOn, IsCalm, AptSteps, Begun, AptBegun, ends_in, returns_apt}
use Rattle.abstract_unix.proofs.Quiet.{same_call, HasNumbers, InCalm, other_inodes}
use Rattle.abstract_unix.proofs.Rows.{Calling}
use Rattle.abstract_unix.proofs.Exiting.{handed_in, no_pending, exits_apt}
use Rattle.abstract_unix.proofs.Executing.{grown_or_not_apt}

-- what is delivered leaves the sizes of the image
same_sizes : (u : UArea) (sig : ℕ) (image : Image) → clicks_of (delivery u sig image).area ≡ clicks_of u
same_sizes u sig image = by (handler_of u sig == 0)
  where
    by : (b : Bool) → clicks_of (cond {A = Delivery} b (record { area = u; image = image; answer = Ends (makes_core sig) }) (record { area = caught u sig; image = pushed u image; answer = Caught })).area ≡ clicks_of u
    by true = refl
    by false = refl

same_pending : (u : UArea) (sig : ℕ) (image : Image) → (delivery u sig image).area.pending ≡ u.pending
same_pending u sig image = by (handler_of u sig == 0)
  where
    by : (b : Bool) → (cond {A = Delivery} b (record { area = u; image = image; answer = Ends (makes_core sig) }) (record { area = caught u sig; image = pushed u image; answer = Caught })).area.pending ≡ u.pending
    by true = refl
    by false = refl

module _ (s : ℕ) (seen : Seen) where
  -- with a file `core` or without one
  pub core_ends : (u : Unix) (sig : ℕ) → HasNumbers (handed_of u (process_of u s)) → Calling s (world_of u) seen
      → AptSteps s seen (ends_after u s sig (core_file (handed_of u (process_of u s)) u.clock.time))
  core_ends u sig numbers i =
      exits_apt s (with_handed u s core.state) seen (signal_status u s sig + (if is_written core.answer then dumped else 0))
      (record { count = kept.state.numbers.count; eight = kept.state.numbers.eight; pipes = kept.state.numbers.pipes })
      (handed_in s u seen false core.state 0 i kept.state.same.size (kept.state.same.pending ∙ no_pending s u seen i))
    where
      core : Did
      core = core_file (handed_of u (process_of u s)) u.clock.time

      kept : OverWith (InCalm (process_of u s).u) core
      kept = core_keeps (InCalm (process_of u s).u) (λ h inodes same k. record { same = k.same; numbers = other_inodes h inodes same k.numbers })
          (handed_of u (process_of u s)) u.clock.time (record { same = same_call (process_of u s).u; numbers = numbers })

  core_apt : (u : Unix) (sig : ℕ) → HasNumbers (handed_of u (process_of u s)) → Calling s (world_of u) seen → AptBegun s seen (ends_by u s sig)
  core_apt u sig numbers i = by (makes_core sig)
    where
      by : (b : Bool) → AptBegun s seen (cond b (ends_after u s sig (core_file (handed_of u (process_of u s)) u.clock.time)) (exits_with u s (signal_status u s sig)))
      by true = record { begun = core_ends u sig numbers i }
      by false = record { begun = exits_apt s u seen (signal_status u s sig) numbers i }

  -- the routine goes on where the stack has grown, or not
  pub routine_apt : (grown : Steps) (sig : ℕ) → grown.ending ≡ ending.Trapped → AptBegun s seen grown → AptBegun s seen (calls_routine s sig grown)
  routine_apt grown sig is a = record {
    begun = subst (Begun s seen grown.effects (interrupted grown.unix s sig)) (sym is)
        (apt_more (InCall s false (seats_of grown.unix)) (InCall s false (seats_of (interrupted grown.unix s sig))) seen grown.effects
        (λ now i. kept_in u.processes u.clock u.texts u.limit s false now _ i refl (same_sizes p.u sig image) (same_pending p.u sig image) refl)
        (subst (Begun s seen grown.effects grown.unix) is a.begun));
  }
    where
      u : Unix
      u = grown.unix

      p : Process
      p = process_of u s

      image : Image
      image = image_of u.texts p

  -- a signal has come, and no longer waits
  pub heeded : (u : Unix) → Calling s (world_of u) seen → Calling s (world_of (heeds u s)) seen
  heeded u i = kept_in u.processes u.clock u.texts u.limit s false seen (heeding (process_of u s)) i refl refl refl refl

  -- what a delivery comes to is apt, with the line of a trap where its process goes on
  delivers_apt : (u : Unix) (sig : ℕ) → HasNumbers (handed_of u (process_of u s)) → Calling s (world_of u) seen → AptBegun s seen (delivers u s sig)
  delivers_apt u sig numbers i = by (handler_of (process_of u s).u sig == 0)
    where
      by : (b : Bool) → AptBegun s seen (cond b (ends_by (heeds u s) s sig) (catches (heeds u s) s sig))
      by true = core_apt (heeds u s) sig (record { count = numbers.count; eight = numbers.eight; pipes = numbers.pipes }) (heeded u i)
      by false = routine_apt _ sig refl (grown_or_not_apt s seen (heeds u s) (signal_stack (process_of (heeds u s) s).u) (heeded u i))

  pub due_apt : (u : Unix) → HasNumbers (handed_of u (process_of u s)) → Calling s (world_of u) seen → AptBegun s seen (delivers_due u s)
  unfolding delivers_due
  due_apt u numbers i = by (due (process_of u s).row (process_of u s).u)
    where
      by : (o : Option ℕ) → AptBegun s seen (delivers_if u s o)
      by None = returns_apt s seen u i
      by (Some sig) = delivers_apt u sig numbers i

-- A delivery itself is no panic.
if_calm : (b : Bool) (x y : Steps) → IsCalm x.ending → IsCalm y.ending → IsCalm (cond b x y).ending
if_calm true x y c d = c
if_calm false x y c d = d

pub due_calm : (s : ℕ) (u : Unix) → IsCalm (delivers_due u s).ending
unfolding delivers_due
due_calm s u = by (due (process_of u s).row (process_of u s).u)
  where
    by : (o : Option ℕ) → IsCalm (delivers_if u s o).ending
    by None = tt
    by (Some sig) =
        if_calm (handler_of (process_of u s).u sig == 0) (ends_by (heeds u s) s sig) (catches (heeds u s) s sig)
        (if_calm (makes_core sig) _ (exits_with (heeds u s) s (signal_status (heeds u s) s sig)) tt tt) tt

-- A turn that has come out of a trap ends.
pub trap_ends : (s : ℕ) (seen : Seen) (steps : Steps) → AptBegun s seen steps → AptSteps s seen steps
trap_ends s seen steps a = by steps.ending a.begun
  where
    by : (e : Ending) → Begun s seen steps.effects steps.unix e → AptSteps s seen (record { effects = steps.effects; unix = steps.unix; ending = e })
    by ending.Next b = b
    by ending.Trapped b = ends_in s seen steps.unix steps.effects ending.Trapped tt
        (apt_append (InCall s false (seats_of steps.unix)) (Paused (seats_of steps.unix)) seen steps.effects (Show (Log (line.Trap s)) ∷ []) b
        (λ now i. trap_apt Unix s (seats_of steps.unix) now i))
    by (ending.Slept pri chan) b = b
    by ending.Ended b = b
    by (ending.Panic kind) b = b

pub ended_apt : (s : ℕ) (seen : Seen) (steps : Steps) → HasNumbers (handed_of steps.unix (process_of steps.unix s)) → AptBegun s seen steps → AptSteps s seen (ends_turn s steps)
ended_apt s seen steps numbers a = by steps.ending a.begun
  where
    next : Steps
    next = delivers_due steps.unix s

    by : (e : Ending) → Begun s seen steps.effects steps.unix e → AptSteps s seen (ends_by_ending s (record { effects = steps.effects; unix = steps.unix; ending = e }) e)
    by ending.Next b = b
    by ending.Trapped b = record {
      apt = subst (Apt {W = Unix} (GoesOn next.unix next.ending) seen) (sym (append_assoc steps.effects next.effects (end_effects s next.ending)))
          (apt_append (InCall s false (seats_of steps.unix)) (GoesOn next.unix next.ending) seen steps.effects (next.effects ++ end_effects s next.ending) b
          (λ now i. (trap_ends s now next (due_apt s now steps.unix numbers i)).apt));
      calm = due_calm s steps.unix;
    }
    by (ending.Slept pri chan) b = b
    by ending.Ended b = b
    by (ending.Panic kind) b = b
