-- A slot has been taken, and what it came to is the event of the system.
use Rattle.std.proofs.Common.{◌≡◌, ◌∙◌, ◌≤◌, false, Some, refl, sym, ap, subst}
use Rattle.pdp_step.specs.declared.outcome.Outcome.{Outcome}
use Rattle.pdp_step.specs.declared.outcome.Outcome.TheVariants.{Next}
use Rattle.pdp_step.specs.Instruction.{instr}
use Rattle.v6_base.specs.Trace.{Taken, Took}
use Rattle.image_keep.specs.declared.running.Fixed.{Fixed}
use Rattle.image_keep.specs.Kept.{IsKept}
use Rattle.image_keep.specs.State.{ImagesState}
use Rattle.image_keep.specs.Running.{IsFixed, machine_in, with_machine_in}
use Rattle.abstract_unix.specs.declared.turned.Turned.{Turned}
use Rattle.abstract_unix.specs.declared.turned.Turned.TheVariants.{Ran, Idle}
use Rattle.abstract_unix.specs.Unix.{Unix, System, Started, process_of, with_process}
use Rattle.abstract_unix.specs.Endings.{phase_after}
use Rattle.abstract_unix.specs.Turn.{Happened, after_slot, Turn, machine_of, with_machine, turn, turn_of, settled_after, turned_by, turned, NobodyCanRun}
use Rattle.abstract_unix.specs.Runs.{Slot, event_of}
use Rattle.abstract_unix.specs.Private.{OthersUndisturbed}
use Rattle.abstract_unix.specs.Shared.{OtherTextsStay}
use Rattle.unix_core.specs.declared.world.World.{World}
use Rattle.unix_core.specs.declared.machine.Stage.{Stage}
use Rattle.unix_core.specs.declared.machine.Stage.TheVariants as stage
use Rattle.unix_core.specs.State.{KernelState}
use Rattle.unix_core.specs.Parts.{unix_of, system_at, turn_at, phase_of, goes_on, slot_in, HasStepped, IsStill, IsKernel, IsRunning, IsUser, Takes}
use Rattle.unix_core.proofs.PutLemmas.{with_images}
use Rattle.unix_core.proofs.MachineLemmas.{fixed_or, runs_kernel}
use Rattle.unix_core.proofs.TurnSteps.{user_slot, has_stepped, stepped_user, quiet_system, plain_still}
use Rattle.unix_core.proofs.CountLemmas.{counted_waits}
use Rattle.unix_core.proofs.WorldLemmas.{slot_is}
use Rattle.unix_core.specs.Slots.{passed_in, IsCounted}
use Rattle.abstract_unix.proofs.GoingOnLemmas.{WaitedIn, like_waited, all_waited_put}
use Rattle.abstract_unix.proofs.RunsLemmas.{whole_answer}
use Rattle.sys_procs.specs.Process.{Process}
use Rattle.unix_core.proofs.PrivateLemmas.{fifty_slots, slot_private}
use Rattle.unix_core.proofs.StayingLemmas.{turned_stays}
use Rattle.unix_core.proofs.IdleLemmas.{idle_nobody}

-- The process that executes instructions has done one.
module _ (at : Stage) (w : World) (f : Fixed) (is : at ≡ stage.Running f) (kernel : IsKernel at w) (holds : IsKept w.procs.images.kept) (x : ImagesState)
    (kept : x.kept ≡ with_machine_in w.procs.images.kept f.slot (instr (machine_in w.procs.images.kept f.slot)).machine) where
  abbrev then_ : World
  then_ = with_images w x

  run : IsRunning f w
  run = kernel.running f is

  pub step_user : IsUser f.slot then_
  step_user = stepped_user w f.slot run.user holds x kept

  pub step_done : (o : Outcome) → o ≡ (instr (machine_in w.procs.images.kept f.slot)).outcome → HasStepped (system_at w) then_ f.slot o
  step_done o outcome = has_stepped w f.slot run.user holds x kept o outcome

  -- it waits as it did
  pub step_counted : IsCounted w.slots (unix_of then_)
  step_counted =
      let p : Process = process_of (unix_of w) f.slot in
      let q : Process = with_machine p (instr (machine_of (unix_of w).texts p)).machine in
      subst (λ (u : Unix). IsCounted w.slots u) (sym (step_done _ refl).unix)
      (counted_waits w.slots (unix_of w) (with_process (unix_of w) f.slot q) refl refl
      (all_waited_put (unix_of w).processes f.slot (Some q)
      (subst (λ o. WaitedIn o (Some q)) (sym (slot_is w f.slot run.user.ready)) (like_waited p q refl refl refl refl)))
      (kernel.counted (ap (λ t. goes_on (phase_of t)) is)))

  -- and just goes on
  module _ (next : Next ≡ (instr (machine_in w.procs.images.kept f.slot)).outcome) (fixed : IsFixed x.kept f) where
    abbrev slot_so : Happened
    slot_so = turn_of (system_at w) f.slot (turn (system_at w) f.slot)

    still : IsStill slot_so then_
    still = plain_still (system_at w) f.slot run.user.ready.user then_ (step_done Next next) (quiet_system w f.slot run.user)

    own_slot : settled_after (after_slot slot_so) ≡ turn_at w
    own_slot = sym (user_slot (system_at w) f.slot run.user.ready.runs run.user.ready.user)

    pub next_kernel : IsKernel at then_
    next_kernel = subst (λ (t : Stage). IsKernel t then_) (sym is) (runs_kernel then_ f (record { user = step_user; fixed = fixed }) step_counted)

    pub next_answer : Ran ≡ turned (turn_at w)
    next_answer = ap (λ e. turned_by e false) (sym still.ending) ∙ sym (whole_answer slot_so) ∙ ap turned own_slot

    pub next_takes : (at' : Stage) (w' : World) → ((h : Happened) → IsStill h then_ → Takes (settled_after (after_slot h)) at' w')
        → Takes (turn_at w) at' w'
    next_takes at' w' each = subst (λ (t : Turn). Takes t at' w') own_slot (each slot_so still)

    pub next_items : (a b : Taken) → ((h : Happened) → IsStill h then_ → Took a (settled_after (after_slot h)).items b)
        → Took a (turn_at w).items b
    next_items a b each = subst (λ (t : Turn). Took a t.items b) own_slot (each slot_so still)

-- what a kernel is to its caller
abbrev pub state_of : Stage → World → KernelState
state_of at w = record {
  system = system_at w;
  kept = w.procs.images.kept;
  core = w.procs.images.core;
  swap = w.procs.images.swap;
  blocks = w.files.tree.nodes.blocks;
  stored = w.files.tree.nodes.stored;
  phase = phase_of at;
}

-- What a slot came to is the event of the system that was told.
module _ (at : Stage) (w : World) (kernel : IsKernel at w) (holds : IsKept w.procs.images.kept) (v : KernelState) (view : state_of at w ≡ v) (goes : v.phase ≡ Started) where
  pub taken_started : phase_of at ≡ Started
  taken_started = ap (λ (x : KernelState). x.phase) view ∙ goes

  same : system_at w ≡ v.system
  same = ap (λ (x : KernelState). x.system) view

  pub taken_fresh : v.system.unix.timing.passed ≤ 3000000000 → passed_in w.slots ≤ 3000000000
  taken_fresh fresh = subst (λ (m : System). m.unix.timing.passed ≤ 3000000000) (sym same) fresh

  pub taken_answer : (answer : Turned) → answer ≡ turned (turn_at w) → answer ≡ turned (event_of Slot v.system)
  taken_answer answer is = is ∙ ap (λ (x : System). turned (event_of Slot x)) same

  pub taken_idle : (answer : Turned) → answer ≡ turned (turn_at w) → answer ≡ Idle → NobodyCanRun v.system.board.table
  taken_idle answer is = idle_nobody at w taken_started kernel v.system same answer (taken_answer answer is)

  module _ (at' : Stage) (w' : World) (takes : Takes (turn_at w) at' w') where
    pub taken_next : system_at w' ≡ (event_of Slot v.system).next
    taken_next = takes.system ∙ ap (λ (x : System). (event_of Slot x).next) same

    pub taken_phase : phase_of at' ≡ phase_after (event_of Slot v.system).ending
    taken_phase = takes.phase ∙ ap (λ (x : System). phase_after (event_of Slot x).ending) same

    pub taken_private : OthersUndisturbed v.system (system_at w')
    taken_private = subst (λ (n : System). OthersUndisturbed v.system n) (sym taken_next) (slot_private v.system (fifty_slots w v.system same))

    pub taken_texts : OtherTextsStay v.system (event_of Slot v.system).items (system_at w')
    taken_texts = turned_stays at w taken_started kernel holds v.system _ same taken_next

  -- an instruction that just goes on
  module _ (f : Fixed) (is : at ≡ stage.Running f) (x : ImagesState) (kept : x.kept ≡ with_machine_in w.procs.images.kept f.slot (instr (machine_in w.procs.images.kept f.slot)).machine)
      (next : Next ≡ (instr (machine_in w.procs.images.kept f.slot)).outcome) (fixed : IsFixed x.kept f) where
    pub near_kernel : IsKernel at (with_images w x)
    near_kernel = next_kernel at w f is kernel holds x kept next fixed

    pub near_answer : Ran ≡ turned (event_of Slot v.system)
    near_answer = taken_answer Ran (next_answer at w f is kernel holds x kept next fixed)

    pub near_takes : (at' : Stage) (w' : World) → ((h : Happened) → IsStill h (with_images w x) → Takes (settled_after (after_slot h)) at' w')
        → Takes (turn_at w) at' w'
    near_takes = next_takes at w f is kernel holds x kept next fixed

    pub near_items : (a b : Taken) → ((h : Happened) → IsStill h (with_images w x) → Took a (settled_after (after_slot h)).items b)
        → Took a (event_of Slot v.system).items b
    near_items a b each =
        subst (λ (m : System). Took a (event_of Slot m).items b) same (next_items at w f is kernel holds x kept next fixed a b each)

  -- an instruction that comes to something else, with which the turn ends
  module _ (f : Fixed) (is : at ≡ stage.Running f) (x : ImagesState) (kept : x.kept ≡ with_machine_in w.procs.images.kept f.slot (instr (machine_in w.procs.images.kept f.slot)).machine)
      (o : Outcome) (outcome : o ≡ (instr (machine_in w.procs.images.kept f.slot)).outcome) where
    slot : slot_in at ≡ f.slot
    slot = ap slot_in is

    did : HasStepped (system_at w) (with_images w x) (slot_in at) o
    did = subst (λ s. HasStepped (system_at w) (with_images w x) s o) (sym slot) (step_done at w f is kernel holds x kept o outcome)

    abbrev then_turn : System → Turn
    then_turn m = settled_after (after_slot (turn_of m (slot_in at) (turn m (slot_in at))))

    own_turn : then_turn (system_at w) ≡ turn_at w
    own_turn =
        let run : IsRunning f w = kernel.running f is in
        ap (λ s. settled_after (after_slot (turn_of (system_at w) s (turn (system_at w) s)))) slot
        ∙ sym (user_slot (system_at w) f.slot run.user.ready.runs run.user.ready.user)

    pub far_running : IsFixed x.kept f → (g : Fixed) → at ≡ stage.Running g → IsRunning g (with_images w x)
    far_running fixed g same =
        subst (λ (h : Fixed). IsRunning h (with_images w x)) (ap (fixed_or f) (sym is ∙ same))
        (record { user = step_user at w f is kernel holds x kept; fixed = fixed })

    pub far_answer : (answer : Turned) → ((m : System) → HasStepped m (with_images w x) (slot_in at) o → answer ≡ turned (then_turn m)) → answer ≡ turned (turn_at w)
    far_answer answer each = each (system_at w) did ∙ ap turned own_turn

    pub far_takes : (at' : Stage) (w' : World) → ((m : System) → HasStepped m (with_images w x) (slot_in at) o → Takes (then_turn m) at' w') → Takes (turn_at w) at' w'
    far_takes at' w' each = subst (λ (t : Turn). Takes t at' w') own_turn (each (system_at w) did)

    pub far_items : (a b : Taken) → ((m : System) → HasStepped m (with_images w x) (slot_in at) o → Took a (then_turn m).items b) → Took a (event_of Slot v.system).items b
    far_items a b each =
        subst (λ (m : System). Took a (event_of Slot m).items b) same (subst (λ (t : Turn). Took a t.items b) own_turn (each (system_at w) did))
