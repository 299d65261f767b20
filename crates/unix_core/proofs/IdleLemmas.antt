-- Where a slot finds nobody to run, no slot is loaded and ready.
use Rattle.std.proofs.Common.{◌≡◌, ◌∙◌, ◌<◌, ◌≤◌, ◌&&◌, ℕ, zero, suc, nat_lt, length, Bool, true, false, Option, Some, None, refl, sym, ap, subst, arith}
use Rattle.std.proofs.lemmas.Bool.{ltb-true, ltb-false}
use Rattle.std.proofs.lemmas.List.{get_or_past}
use Rattle.pick_rules.specs.declared.row.TableRow.{TableRow}
use Rattle.pick_rules.specs.declared.table.Table.{Table}
use Rattle.pick_rules.specs.Table.{empty_row, row_at, is_ready, is_loaded}
use Rattle.pick_rules.specs.Choice.{chosen, IsChoice}
use Rattle.pick_rules.proofs.Chosen.{chosen_is_choice}
use Rattle.unix_core.specs.declared.world.World.{World}
use Rattle.unix_core.specs.declared.machine.Stage.{Stage}
use Rattle.abstract_unix.specs.declared.ends.Ends.{Ends}
use Rattle.abstract_unix.specs.declared.ends.Ends.TheVariants as ends
use Rattle.abstract_unix.specs.declared.ends.Ends.TheVariants.{AtEnd}
use Rattle.abstract_unix.specs.declared.turned.Turned.{Turned}
use Rattle.abstract_unix.specs.declared.turned.Turned.TheVariants.{Idle}
use Rattle.unix_core.specs.declared.machine.Stage.TheVariants as stage
use Rattle.abstract_unix.specs.Unix.{System, Started}
use Rattle.abstract_unix.specs.Turn.{Happened, turned_by, turned, settled_after, pass_of, slot_of, NobodyCanRun, after_slot}
use Rattle.abstract_unix.specs.Runs.{Slot, event_of}
use Rattle.abstract_unix.proofs.RunsLemmas.{whole_answer}
use Rattle.unix_core.specs.Parts.{system_at, turn_at, phase_of, IsGood, IsStill, IsKernel}
use Rattle.unix_core.proofs.BootKernelLemmas.{kernel_good}

-- The choice is nobody.
not_both : (ready loaded : Bool) → (ready && loaded) ≡ false → loaded ≡ true → ready ≡ false
not_both true loaded none load = absurd (cc (none, load))
not_both false loaded none load = refl

pub nobody_can : (t : Table) → t.last < 50 → length t.rows ≡ 50 → chosen t ≡ None → NobodyCanRun t
nobody_can t last rows none s loaded = by (nat_lt s 50) refl
  where
    by : (b : Bool) → nat_lt s 50 ≡ b → is_ready (row_at t s).stat ≡ false
    by true low = not_both (is_ready (row_at t s).stat) (is_loaded t s) (subst (IsChoice t) none (chosen_is_choice t last) s (ltb-true _ _ low)) loaded
    by false high =
        let past : length t.rows ≤ s = let more : 50 ≤ s = ltb-false _ _ high in omega (arith, rows, more) in
        ap (λ (row : TableRow). is_ready row.stat) (get_or_past t.rows s empty_row past)

-- A slot answers that nobody is there to run where nobody runs.
never_idle : (o : Ends) → turned_by o false ≡ Idle → ⊥
never_idle AtEnd idle = cc idle
never_idle (ends.Panic kind) idle = cc idle

nobody_by : (m : System) (runs : Option ℕ) → turned (settled_after (after_slot (slot_of m runs))) ≡ Idle → runs ≡ None
nobody_by m None idle = refl
nobody_by m (Some zero) idle = absurd (never_idle (slot_of m (Some zero)).ending (sym (whole_answer (slot_of m (Some zero))) ∙ idle))
nobody_by m (Some (suc s)) idle = absurd (never_idle (slot_of m (Some (suc s))).ending (sym (whole_answer (slot_of m (Some (suc s)))) ∙ idle))

pub nobody_runs : (m : System) → turned (event_of Slot m) ≡ Idle → m.board.table.running ≡ None
nobody_runs m idle = nobody_by m m.board.table.running idle

-- in a run that has been started
idle_chosen : (at : Stage) (w : World) → phase_of at ≡ Started → IsKernel at w → w.procs.table.running ≡ None → chosen w.procs.table ≡ None
idle_chosen stage.New w started kernel none = absurd (cc started)
idle_chosen (stage.Running f) w started kernel none = absurd (let runs = (kernel.running f refl).user.ready.runs in cc (none, runs))
idle_chosen stage.Resting w started kernel none = (kernel.resting refl).idle none
idle_chosen stage.Stopped w started kernel none = absurd (cc started)
idle_chosen stage.Finished w started kernel none = absurd (cc started)

module _ (at : Stage) (w : World) (started : phase_of at ≡ Started) (kernel : IsKernel at w) where
  nobody_here : w.procs.table.running ≡ None → NobodyCanRun w.procs.table
  nobody_here none =
      let good : IsGood w = kernel_good at w started kernel in
      nobody_can w.procs.table good.agree.table.last good.agree.rows (idle_chosen at w started kernel none)

  pub idle_nobody : (m : System) → system_at w ≡ m → (answer : Turned) → answer ≡ turned (event_of Slot m) → answer ≡ Idle → NobodyCanRun m.board.table
  idle_nobody m same answer is idle =
      subst (λ (x : System). NobodyCanRun x.board.table) same
      (nobody_here (nobody_runs (system_at w) (ap (λ (x : System). turned (event_of Slot x)) same ∙ sym is ∙ idle)))

-- A slot in which nobody runs: nothing is logged in it.
module _ (w : World) (none : w.procs.table.running ≡ None) where
  abbrev pub idle_so : Happened
  idle_so = slot_of (system_at w) None

  pub idle_still : IsStill idle_so w
  idle_still = record { unix = refl; log = refl; ending = refl; settled = λ e. absurd (cc e) }

  pub idle_turn : settled_after (after_slot idle_so) ≡ turn_at w
  idle_turn = ap (λ o. settled_after (after_slot (slot_of (system_at w) o))) (sym none)

  pub idle_told : Idle ≡ turned (turn_at w)
  idle_told = sym (whole_answer idle_so) ∙ ap turned idle_turn

-- A slot of the swapper is its pass.
pub swap_turn : (w : World) → w.procs.table.running ≡ Some 0 → settled_after (after_slot (pass_of (system_at w))) ≡ turn_at w
swap_turn w runs = ap (λ o. settled_after (after_slot (slot_of (system_at w) o))) (sym runs)
