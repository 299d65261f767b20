-- An instruction of the process that runs: its memory is another one, what belongs together still does, and the process has
-- stepped.
use Rattle.std.proofs.Common.{◌≡◌, ◌<◌, ◌∙◌, ◌==◌, if◌then◌else◌, ℕ, zero, suc, List, Option, Some, None, refl, sym, ap, subst, arith}
use Rattle.std.proofs.lemmas.List.{set-set}
use Rattle.v6_base.specs.Image.{Image}
use Rattle.u_area.specs.declared.layout.TheConstants.{NOTHING_PENDING}
use Rattle.u_area.specs.declared.area.UArea.{UArea}
use Rattle.pdp_step.specs.declared.outcome.Outcome.{Outcome}
use Rattle.pdp_step.specs.declared.outcome.Outcome.TheVariants as came
use Rattle.pdp_step.specs.Machine.{Machine}
use Rattle.pdp_step.specs.Instruction.{instr}
use Rattle.pick_rules.specs.Choice.{settle}
use Rattle.pick_rules.specs.Board.{Board}
use Rattle.pick_rules.specs.Logged.{nothing_logged}
use Rattle.image_keep.specs.Kept.{Kept, IsKept, area_of}
use Rattle.image_keep.specs.State.{ImagesState}
use Rattle.image_keep.specs.Running.{machine_in, with_machine_in, with_state}
use Rattle.sys_procs.specs.Process.{Process}
use Rattle.sys_procs.proofs.Alive.{put_here}
use Rattle.sys_procs.proofs.MemoryLemmas.{image_here}
use Rattle.unix_core.specs.declared.world.World.{World}
use Rattle.abstract_unix.specs.Unix.{Unix, System, process_of, with_process}
use Rattle.abstract_unix.specs.Steps.{Steps, steps}
use Rattle.abstract_unix.specs.Calls.{resumed}
use Rattle.abstract_unix.specs.Delivery.{ends_turn}
use Rattle.abstract_unix.specs.Turn.{machine_of, with_machine, is_user, comes_to, instruction, begins_turn, turn, turn_of, slot_by, slot_of, after_slot, settled_after}
use Rattle.abstract_unix.specs.Runs.{Slot, event_of}
use Rattle.unix_core.specs.Parts.{unix_of, system_at, IsReady, IsUser, IsStill, HasStepped}
use Rattle.abstract_unix.proofs.Owing.{some_within}
use Rattle.unix_core.proofs.WorldLemmas.{ready_alive, slot_is}
use Rattle.unix_core.proofs.PutLemmas.{IsLikeArea, with_images, with_kept}
use Rattle.unix_core.proofs.MemoryPut.{with_memory, memory_unix, memory_board, memory_process, memory_good}
use Rattle.unix_core.proofs.BoardLemmas.{settle_same}
use Rattle.unix_core.proofs.AreaLemmas.{own_area, with_its_area, area_unix, area_board, area_ready}

-- The memory of the process that runs is another one.
pub memory_ready : (w : World) (x : ImagesState) (s : ℕ) (ready : IsReady w s) (image : Image) → IsReady (with_memory w x s (ready_alive w s ready) image) s
memory_ready w x s ready image = record { good = memory_good w x s (ready_alive w s ready) image ready.good; runs = ready.runs; user = ready.user }

-- what an instruction works on
machine_is : (w : World) (s : ℕ) → IsReady w s → IsKept w.procs.images.kept → machine_of (unix_of w).texts (process_of (unix_of w) s) ≡ machine_in w.procs.images.kept s
machine_is w s ready holds =
    let own = own_area w s ready in
    λ i. record { r = (sym own i).r; cc = (sym own i).cc; image = image_here w.procs s (ready_alive w s ready) holds i }

-- The process has stepped, and its memory and its registers are these.
module _ (w : World) (s : ℕ) (user : IsUser s w) (holds : IsKept w.procs.images.kept) (x : ImagesState)
    (kept : x.kept ≡ with_machine_in w.procs.images.kept s (instr (machine_in w.procs.images.kept s)).machine) where
  abbrev old : Process
  old = process_of (unix_of w) s

  abbrev m : Machine
  m = (instr (machine_in w.procs.images.kept s)).machine

  abbrev with_image_then : World
  with_image_then = with_memory w x s (ready_alive w s user.ready) m.image

  abbrev area : UArea
  area = with_state (area_of w.procs.images.kept s) m.r m.cc

  abbrev stored : Process
  stored = record old { u = area; «data» = m.image.data; stack = m.image.stack }

  ready_then : IsReady with_image_then s
  ready_then = memory_ready w x s user.ready m.image

  area_like : IsLikeArea area (process_of (unix_of with_image_then) s).u
  area_like = subst (λ (p : Process). IsLikeArea area p.u) (sym (memory_process w x s (ready_alive w s user.ready) m.image))
      (subst (λ (u : UArea). IsLikeArea area u) (own_area w s user.ready) (record { clicks = refl; files = refl; dir = refl; pending = refl; call = refl }))

  abbrev now : World
  now = with_its_area with_image_then x s ready_then area

  unix_then : unix_of now ≡ with_process (unix_of w) s stored
  unix_then =
      let ps : List (Option Process) = (unix_of w).processes in
      let q : Process = record old { «data» = m.image.data; stack = m.image.stack } in
      area_unix with_image_then x s ready_then area
      ∙ (λ i. with_process (memory_unix w x s (ready_alive w s user.ready) m.image i) s (record (memory_process w x s (ready_alive w s user.ready) m.image i) { u = area }))
      ∙ ap (λ l. record (unix_of w) { processes = l }) (set-set ps s (Some q) (Some stored))

  stored_is : stored ≡ with_machine old m
  stored_is = ap (λ (u : UArea). record old { u = with_state u m.r m.cc; «data» = m.image.data; stack = m.image.stack }) (own_area w s user.ready)

  process_then : process_of (unix_of now) s ≡ stored
  process_then =
      let ps : List (Option Process) = (unix_of w).processes in
      ap (λ (x : Unix). process_of x s) unix_then ∙ put_here ps s stored (some_within ps s old (slot_is w s user.ready))

  pub stepped_user : IsUser s (with_images w x)
  stepped_user = subst (λ (k : Kept). IsUser s (with_kept w x k)) (sym kept) (record {
    ready = area_ready with_image_then x s ready_then area area_like;
    user = ap is_user process_then ∙ ap (λ (u : UArea). u.pending == NOTHING_PENDING) (own_area w s user.ready) ∙ user.user;
    settled = user.settled;
  })

  pub has_stepped : (o : Outcome) → o ≡ (instr (machine_in w.procs.images.kept s)).outcome → HasStepped (system_at w) (with_images w x) s o
  has_stepped o outcome =
      let its : machine_in w.procs.images.kept s ≡ machine_of (unix_of w).texts old = sym (machine_is w s user.ready holds) in
      subst (λ (k : Kept). HasStepped (system_at w) (with_kept w x k) s o) (sym kept) (record {
        runs = user.ready.runs;
        user = user.user;
        outcome = outcome ∙ ap (λ x. (instr x).outcome) its;
        unix = unix_then ∙ ap (with_process (unix_of w) s) stored_is ∙ ap (λ x. with_process (unix_of w) s (with_machine old (instr x).machine)) its;
        board = area_board with_image_then x s ready_then area ∙ memory_board w x s (ready_alive w s user.ready) m.image;
      })

-- the slot of a process that isn't the swapper
pub user_slot : (m : System) (s : ℕ) → m.board.table.running ≡ Some s → 0 < s → event_of Slot m ≡ settled_after (after_slot (turn_of m s (turn m s)))
user_slot m s runs above = ap (λ h. settled_after (after_slot h)) (ap (slot_of m) runs ∙ by s above)
  where
    by : (s : ℕ) → 0 < s → slot_by m s ≡ turn_of m s (turn m s)
    by zero above = absurd (omega (arith, above))
    by (suc r) above = refl

-- An instruction has been done, and the kernel needn't settle.
module _ (m : System) (s : ℕ) (above : 0 < s) (w' : World) (done : HasStepped m w' s came.Next) (quiet : settle m.board.table ≡ None) where
  abbrev u : Unix
  u = with_process m.unix s (with_machine (process_of m.unix s) (instr (machine_of m.unix.texts (process_of m.unix s))).machine)

  begun_is : begins_turn m s ≡ steps u
  begun_is =
      ap (λ b. if b then instruction m.unix s else resumed m.unix s) done.user
      ∙ ap (comes_to u s) (sym done.outcome)

  -- who just goes on gets no signal
  turn_is : turn m s ≡ steps u
  turn_is = ap (ends_turn s) begun_is

  -- and nothing is logged in its slot
  pub plain_still : IsStill (turn_of m s (turn m s)) w'
  plain_still = subst (λ (t : Steps). IsStill (turn_of m s t) w') (sym turn_is) (record {
    unix = sym done.unix;
    log = ap nothing_logged (sym done.board);
    ending = refl;
    settled = λ _. sym (settle_same w'.procs.table) ∙ ap (λ (b : Board). settle b.table) done.board ∙ quiet;
  })

-- the kernel has settled, also by the board of its log
pub quiet_system : (w : World) (s : ℕ) → IsUser s w → settle (system_at w).board.table ≡ None
quiet_system w s user = settle_same w.procs.table ∙ user.settled
