-- The count of slots through a turn of a process, and through what comes from outside.
use Rattle.std.proofs.Common.{◌≡◌, ◌∙◌, ◌==◌, cond, ℕ, Bool, true, false, get_or, Option, Some, None, refl, sym, ap, subst, inl, inr}
use Rattle.u_area.specs.declared.layout.TheConstants.{NOTHING_PENDING}
use Rattle.tty_line.specs.declared.line.Keyed.{Keyed}
use Rattle.tty_line.specs.declared.line.Keyed.TheVariants as key
use Rattle.pick_rules.specs.declared.row.Mode.{Mode}
use Rattle.pick_rules.specs.declared.row.Mode.TheVariants.{User, Kernel, Idle}
use Rattle.pdp_step.specs.declared.outcome.Outcome.{Outcome}
use Rattle.sys_procs.specs.Process.{Process}
use Rattle.sys_procs.specs.Signals.{has_line, all_signalled}
use Rattle.sys_procs.proofs.Slots.{fifty_processes}
use Rattle.abstract_unix.specs.declared.ending.Ending.{Ending}
use Rattle.abstract_unix.specs.Unix.{Timing, Unix, process_of, with_process}
use Rattle.abstract_unix.specs.Steps.{Steps}
use Rattle.abstract_unix.specs.Calls.{resumed}
use Rattle.abstract_unix.specs.Delivery.{ends_turn, delivers_due}
use Rattle.abstract_unix.specs.Turn.{comes_to, waits_in, instruction, is_user, turn}
use Rattle.abstract_unix.specs.Outside.{timed, charged, mode_by, is_user_mode, with_key}
use Rattle.abstract_unix.proofs.GoingOnLemmas.{AllWaited, all_waited_same, all_waited_put}
use Rattle.abstract_unix.proofs.GoingOnSteps.{SameWait, changed_waited, user_free}
use Rattle.abstract_unix.proofs.WaitingRows.{key_waited}
use Rattle.abstract_unix.proofs.DiskSteps.{LivesIn, disk_due}
use Rattle.abstract_unix.proofs.Dues.{disked_same, times_due}
use Rattle.abstract_unix.proofs.Uncounted.{charged_timing}
use Rattle.unix_core.specs.declared.world.World.{World}
use Rattle.unix_core.specs.declared.slots.Slots.{Slots}
use Rattle.unix_core.specs.Slots.{IsTimed, HasWaited}
use Rattle.unix_core.specs.Parts.{unix_of, board_in, system_at, is_over, delivers_where, IsReady, HasCome}
use Rattle.unix_core.proofs.AreaLemmas.{none_pending}
use Rattle.unix_core.proofs.CountLemmas.{timed_waits, timed_no_new, timed_comes, timed_resumed}
use Rattle.unix_core.proofs.WaitLemmas.{taken_unix}
use Rattle.unix_core.proofs.WorldLemmas.{slot_is, is_living}

-- 1. A turn of a process. Where the run goes on after its end, it did before.
pub first_goes : (first last : Ending) → (is_over first ≡ true → last ≡ first) → is_over last ≡ false → is_over first ≡ false
first_goes first last stopped goes = by (is_over first) refl
  where
    by : (b : Bool) → is_over first ≡ b → is_over first ≡ false
    by true is = absurd (let over = sym goes ∙ ap is_over (stopped is) ∙ is in cc over)
    by false is = is

module _ (w : World) (s : ℕ) (ready : IsReady w s) (was : IsTimed w.slots (unix_of w)) where
  here : LivesIn s (unix_of w)
  here = record { there = slot_is w s ready; lives = is_living w s ready; fifty = fifty_processes w.procs.rows.slots w.procs.images.kept }

  pub comes_timed : (o : Outcome) → is_user (process_of (unix_of w) s) ≡ true → (slots : Slots) → HasWaited (waits_in (unix_of w) s o) w.slots slots
      → (last : Ending) (v : World) → HasCome (board_in w) (ends_turn s (comes_to (unix_of w) s o)) last v → v.slots ≡ slots → is_over last ≡ false
      → IsTimed v.slots (unix_of v)
  comes_timed o user slots waited last v come same goes =
      subst (λ (x : Slots). IsTimed x (unix_of v)) (sym same)
      (subst (IsTimed slots) (sym (taken_unix (board_in w) (ends_turn s (comes_to (unix_of w) s o)) last v come goes))
      (timed_comes (unix_of w) s o w.slots slots (none_pending (process_of (unix_of w) s) user) here refl was waited))

  -- one that goes on with a call
  pub goes_timed : is_user (process_of (unix_of w) s) ≡ false → (last : Ending) (v : World)
      → HasCome (board_in w) (turn (system_at w) s) last v → v.slots ≡ w.slots → is_over last ≡ false → IsTimed v.slots (unix_of v)
  goes_timed calls last v come slots goes =
      let its : turn (system_at w) s ≡ ends_turn s (resumed (unix_of w) s) =
      ap (λ b. ends_turn s (cond b (instruction (unix_of w) s) (resumed (unix_of w) s))) calls in
      subst (λ (x : Slots). IsTimed x (unix_of v)) (sym slots)
      (subst (IsTimed w.slots) (sym (taken_unix (board_in w) (turn (system_at w) s) last v come goes ∙ ap (λ (x : Steps). x.unix) its))
      (timed_resumed (unix_of w) s w.slots ready.good.pending here was))

-- 2. A tick.
timed_wait : (mode : Mode) (p : Process) → SameWait p (timed mode p)
timed_wait User p = record { dead = refl; pending = refl; call = refl; files = refl }
timed_wait Kernel p = record { dead = refl; pending = refl; call = refl; files = refl }
timed_wait Idle p = record { dead = refl; pending = refl; call = refl; files = refl }

charged_waited : (u : Unix) (mode : Mode) (running : Option ℕ) → AllWaited u.processes (charged u mode running).processes
charged_waited u mode None = all_waited_same u.processes
charged_waited u mode (Some s) = by (s == 0)
  where
    by : (b : Bool) → AllWaited u.processes (cond b u (with_process u s (timed mode (process_of u s)))).processes
    by true = all_waited_same u.processes
    by false = all_waited_put u.processes s (Some (timed mode (process_of u s))) (changed_waited (get_or u.processes s None) (timed mode) (timed_wait mode))

pub charged_timed : (slots : Slots) (u : Unix) (mode : Mode) (running : Option ℕ) → IsTimed slots u → IsTimed slots (charged u mode running)
charged_timed slots u mode running =
    timed_waits slots u (charged u mode running) (ap (λ (t : Timing). t.passed) (charged_timing u mode running)) (charged_waited u mode running)

-- the delivery of a tick
pub delivered_timed : (slots : Slots) (as_trap : Bool) (u : Unix) (running : Option ℕ) → (as_trap ≡ true → is_user_mode (mode_by u running) ≡ true)
    → IsTimed slots u → IsTimed slots (delivers_where as_trap u running).unix
delivered_timed slots false u running user was = was
delivered_timed slots true u None user was = was
delivered_timed slots true u (Some s) user was =
    timed_no_new slots u (delivers_due u s).unix (ap (λ (t : Timing). t.passed) (times_due s u))
    (λ r q is waits. elim (disk_due Never u.processes s u (free (s == 0) (is_user (process_of u s)) refl (user refl)) (disked_same Never u.processes) r q is waits) [
      | inl w ↦ w
      | inr new ↦ absurd new.1
    ]) was
  where
    Never : ℕ → Type 0
    Never n = ⊥

    free : (zero own : Bool) → is_user (process_of u s) ≡ own → is_user_mode (cond zero Kernel (cond own User Kernel)) ≡ true
        → (process_of u s).u.pending ≡ NOTHING_PENDING
    free true own is e = absurd (cc e)
    free false true is e = user_free u s is
    free false false is e = absurd (cc e)

-- 3. A key.
pub line_timed : (slots : Slots) (l n : ℕ) (u : Unix) → IsTimed slots u → IsTimed slots (record u { processes = all_signalled (has_line l) n u.processes })
line_timed slots l n u was =
    timed_waits slots u (record u { processes = all_signalled (has_line l) n u.processes }) refl (key_waited (has_line l) n u.processes) was

pub key_timed : (slots : Slots) (l : ℕ) (u : Unix) (keyed : Keyed) → IsTimed slots u → IsTimed slots (with_key l keyed u)
key_timed slots l u key.Nothing was = was
key_timed slots l u key.Ready was = was
key_timed slots l u (key.Flushed show) was = was
key_timed slots l u (key.Signal n show) was = line_timed slots l n u was
