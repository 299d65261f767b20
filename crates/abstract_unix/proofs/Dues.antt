-- The number of the slot at whose end somebody is woken next, through a turn.
use Rattle.std.proofs.Common.{◌≡◌, ◌∙◌, ◌⊎◌, ◌<◌, ◌≤◌, ◌+◌, ◌*◌, ◌==◌, ◌&&◌, not, ℕ, Bool, true, false, cond, nat_lt, List, get_or, Option, Some, None, slice_index, refl, sym, ap, subst, inl, inr, arith}
use Rattle.v6_base.specs.declared.answer.Answer.{Answer}
use Rattle.v6_base.specs.declared.answer.Answer.TheVariants.{Ret, Fail, Sleep}
use Rattle.v6_base.specs.declared.entry.Chan.TheVariants.{Disk}
use Rattle.v6_base.specs.declared.errno.Errno.TheVariants.{ENOSYS}
use Rattle.pick_rules.specs.Priority.{pribio}
use Rattle.pdp_step.specs.declared.outcome.Kind.{Kind}
use Rattle.pdp_step.specs.declared.outcome.Kind.TheVariants as kind
use Rattle.pdp_step.specs.declared.outcome.Outcome.{Outcome}
use Rattle.pdp_step.specs.declared.outcome.Outcome.TheVariants as outcome
use Rattle.pdp_step.specs.Instruction.{Stepped, instr}
use Rattle.u_area.specs.declared.layout.TheConstants.{NOTHING_PENDING, DISK_WAIT}
use Rattle.u_area.specs.Pending.{is_on_files}
use Rattle.sig_core.specs.declared.numbers.TheConstants.{SIGINS, SIGSYS}
use Rattle.sig_core.specs.Signals.{handler_of, due}
use Rattle.sig_core.specs.Delivery.{makes_core}
use Rattle.sys_files.specs.Did.{Did}
use Rattle.sys_files.specs.Moving.{resumes}
use Rattle.sys_files.specs.Core.{core_file}
use Rattle.sys_procs.specs.Process.{Process, register, image_of}
use Rattle.sys_procs.specs.Comes.{Comes}
use Rattle.sys_procs.specs.Break.{grow}
use Rattle.sys_procs.specs.Fork.{fork_one}
use Rattle.sys_procs.specs.Resume.{awake, resume_proc}
use Rattle.abstract_unix.specs.declared.asked.Asked.{Asked}
use Rattle.abstract_unix.specs.declared.calls.SystemCall.{SystemCall}
use Rattle.abstract_unix.specs.declared.calls.SystemCall.TheVariants.{Indirect, Exit, Fork, Unknown, OnFiles, OnProcesses}
use Rattle.abstract_unix.specs.declared.ending.Ending.{Ending}
use Rattle.abstract_unix.specs.declared.ending.Ending.TheVariants as ending
use Rattle.abstract_unix.specs.Unix.{Timing, Unix, System, process_of, with_process, mounts_of}
use Rattle.abstract_unix.specs.Errors.{error_number}
use Rattle.abstract_unix.specs.Steps.{Steps, returns, signals}
use Rattle.abstract_unix.specs.Calls.{handed_of, with_handed, world_of, with_world, with_area, refused_area, entered_area, words_passed, asked, file_row, process_row, refuses, answers, did_by, came_by, grown_by, exits_with, disk_end, waits_for_disk, takes_time, reads_disk, loads_program, does_call, sysent_of, resumed}
use Rattle.abstract_unix.specs.Delivery.{heeds, catches, signal_status, ends_after, ends_by, delivers_if, delivers_due, ends_by_ending, ends_turn}
use Rattle.abstract_unix.specs.Turn.{machine_of, with_machine, faults, comes_to, waits_in, instruction, is_user, passes_setd, begins_turn, turn, disk_end_of}
use Rattle.abstract_unix.specs.Whole.{AreDue, NoGraveWaits, CanGoOn}
use Rattle.abstract_unix.proofs.GoingOnLemmas.{waited_same}
use Rattle.abstract_unix.proofs.DiskSteps.{LivesIn, Disked, disk_comes, disk_goes_on}

-- No step of a turn counts slots, or changes how long a transfer takes.
module _ (s : ℕ) where
  abbrev Times : Timing → Steps → Type 0
  Times t steps = steps.unix.timing ≡ t

  times_if : (t : Timing) (b : Bool) (x y : Steps) → Times t x → Times t y → Times t (cond b x y)
  times_if t true x y p q = p
  times_if t false x y p q = q

  times_refuses : (u : Unix) (n : ℕ) → Times u.timing (refuses u s n)
  times_refuses u n = times_if u.timing (nat_lt n 100) (returns (with_area u s (refused_area n))) (signals u s SIGSYS) refl refl

  times_answers : (u : Unix) (x : Answer) → Times u.timing (answers u s x)
  times_answers u (Ret r0 r1) = refl
  times_answers u (Fail e) = times_refuses u (error_number e)
  times_answers u (Sleep pri chan) = refl

  pub times_did : (u : Unix) (did : Did) → Times u.timing (did_by u s did)
  times_did u did = times_answers (with_handed u s did.state) did.answer

  pub times_came : (u : Unix) (c : Comes) → Times u.timing (came_by u s c)
  times_came u c = times_answers (with_world u c.state) c.answer

  times_timed : (t : Timing) (has_read : Bool) (steps : Steps) → Times t steps → Times t (takes_time has_read s steps)
  times_timed t has_read steps is = by (has_read && not (steps.unix.timing.disk == 0))
    where
      by : (b : Bool) → Times t (cond b (record steps { unix = waits_for_disk steps.unix s; ending = ending.Slept pribio (Disk s) }) steps)
      by true = is
      by false = is

  times_grown : (u : Unix) (o : Option Comes) → Times u.timing (grown_by u s o)
  times_grown u None = refl
  times_grown u (Some c) = refl

  times_faults : (u : Unix) (k : Kind) → Times u.timing (faults u s k)
  times_faults u kind.Odd = refl
  times_faults u (kind.Segment sp) = times_grown u (grow (world_of u) s sp)
  times_faults u (kind.Illegal word) = times_if u.timing (passes_setd u s word) (returns u) (signals u s SIGINS) refl refl
  times_faults u kind.Bpt = refl
  times_faults u kind.Iot = refl
  times_faults u kind.Emt = refl

  times_call : (u : Unix) (call : SystemCall) (args : List ℕ) → Times u.timing (does_call u s call args)
  times_call u Indirect args = refl
  times_call u Exit args = refl
  times_call u Fork args = times_came u (fork_one (world_of u) s)
  times_call u Unknown args = times_refuses u (error_number ENOSYS)
  times_call u (OnFiles call) args =
      let did : Did = file_row call (handed_of u (process_of u s)) s args u.clock.time in
      times_timed u.timing (reads_disk call (handed_of u (process_of u s)) did.answer) (did_by u s did) (times_did u did)
  times_call u (OnProcesses call) args =
      let c : Comes = process_row call (mounts_of u) (world_of u) s args in
      times_timed u.timing (loads_program call c.answer) (came_by u s c) (times_came u c)

  times_outcome : (u : Unix) (o : Outcome) → Times u.timing (comes_to u s o)
  times_outcome u outcome.Next = refl
  times_outcome u (outcome.Call number) =
      let x : Asked = asked (image_of u.texts (process_of u s)) (register (process_of u s) 7) number in
      times_call (with_area u s (entered_area (words_passed x (sysent_of x.number).count))) (sysent_of x.number).call x.args
  times_outcome u (outcome.Fault k) = times_faults u k

  times_resumed : (u : Unix) → Times u.timing (resumed u s)
  times_resumed u =
      times_if u.timing ((process_of u s).u.pending == DISK_WAIT) (returns (with_process u s (awake (process_of u s)))) _ refl
      (times_if u.timing (is_on_files (process_of u s).u.pending) (did_by u s (resumes (handed_of u (process_of u s)) s u.clock.time))
      (came_by u s (resume_proc (world_of u) s)) (times_did u (resumes (handed_of u (process_of u s)) s u.clock.time)) (times_came u (resume_proc (world_of u) s)))

  times_begun : (m : System) → Times m.unix.timing (begins_turn m s)
  times_begun m = times_if u.timing (is_user (process_of u s)) (instruction u s) (resumed u s)
      (times_outcome (with_process u s (with_machine (process_of u s) step.machine)) step.outcome) (times_resumed u)
    where
      u : Unix
      u = m.unix

      step : Stepped
      step = instr (machine_of u.texts (process_of u s))

  pub times_due : (u : Unix) → Times u.timing (delivers_due u s)
  unfolding delivers_due
  times_due u = by (due (process_of u s).row (process_of u s).u)
    where
      by : (o : Option ℕ) → Times u.timing (delivers_if u s o)
      by None = refl
      by (Some sig) =
          times_if u.timing (handler_of (process_of u s).u sig == 0) (ends_by (heeds u s) s sig) (catches (heeds u s) s sig)
          (times_if u.timing (makes_core sig) (ends_after (heeds u s) s sig (core_file (handed_of (heeds u s) (process_of (heeds u s) s)) u.clock.time))
          (exits_with (heeds u s) s (signal_status (heeds u s) s sig)) refl refl) refl

  times_ends : (t : Timing) (steps : Steps) → Times t steps → Times t (ends_turn s steps)
  times_ends t steps is = by steps.ending
    where
      by : (e : Ending) → Times t (ends_by_ending s steps e)
      by ending.Next = is
      by ending.Trapped = times_due steps.unix ∙ is
      by (ending.Slept pri chan) = is
      by ending.Ended = is
      by (ending.Panic kind) = is

  pub times_turn : (m : System) → Times m.unix.timing (turn m s)
  times_turn m = times_ends m.unix.timing (begins_turn m s) (times_begun m)

-- Who waits for the disk in another Unix waited in this one, or is new, and waits up to one of these slots.
module _ (u v : Unix) (same : v.timing ≡ u.timing) where
  disked_due : (first next : ℕ) → AreDue first u → next ≤ first → u.timing.passed < next
      → Disked (λ n. (n ≤ u.timing.passed) ⊎ (next ≤ n)) u.processes v.processes → AreDue next v
  disked_due first next d least more disked = record {
    next = subst (λ (t : Timing). t.passed < next) (sym same) more;
    each = λ r q is waits. subst (λ (t : Timing). (disk_end_of q ≤ t.passed) ⊎ (next ≤ disk_end_of q)) (sym same) (elim (disked r q is waits) [
      | inl w ↦
          let ends : disk_end_of w.before ≡ disk_end_of q = ap (λ l. 65536 * slice_index l 4 + slice_index l 5) w.call in
          elim (d.each r w.before w.there (w.pending ∙ waits)) [
            | inl low ↦ inl (omega (arith, low, ends))
            | inr high ↦ inr (omega (arith, high, ends, least))
          ]
      | inr new ↦ new.1
    ]);
  }

  -- and who has ended waits for nothing
  disked_graves : (P : ℕ → Type 0) → NoGraveWaits u → Disked P u.processes v.processes → NoGraveWaits v
  disked_graves P graves disked r q is dead waits = elim (disked r q is waits) [
    | inl w ↦ graves r w.before w.there (w.dead ∙ dead) (w.pending ∙ waits)
    | inr new ↦ absurd (let lives = new.0 in cc (lives, dead))
  ]

-- who waits in the beginning
pub disked_same : (P : ℕ → Type 0) (a : List (Option Process)) → Disked P a a
disked_same P a r q is waits = inl (waited_same (get_or a r None) q is (inr waits))

-- A turn is over in which an instruction has come to this, before its slot is counted: nobody waits for the end of a slot to come
-- before the next that is due.
module _ (u : Unix) (s : ℕ) (o : Outcome) (free : (process_of u s).u.pending ≡ NOTHING_PENDING) (here : LivesIn s u) where
  pub comes_due : (first next : ℕ) → AreDue first u → next ≤ first → u.timing.passed < next
      → (waits_in u s o ≡ true → next ≤ disk_end u.timing) → AreDue next (ends_turn s (comes_to u s o)).unix
  comes_due first next d least more rate =
      let P : ℕ → Type 0 = λ n. (n ≤ u.timing.passed) ⊎ (next ≤ n) in
      disked_due u (ends_turn s (comes_to u s o)).unix (times_ends s u.timing (comes_to u s o) (times_outcome s u o)) first next d least more
      (disk_comes P u.processes s u o free here (λ waits. inr (rate waits)) (disked_same P u.processes))

  pub comes_graves : NoGraveWaits u → NoGraveWaits (ends_turn s (comes_to u s o)).unix
  comes_graves graves =
      let P : ℕ → Type 0 = λ n. Unit {0} in
      disked_graves u (ends_turn s (comes_to u s o)).unix (times_ends s u.timing (comes_to u s o) (times_outcome s u o)) P graves
      (disk_comes P u.processes s u o free here (λ waits. tt) (disked_same P u.processes))

-- A turn in which a call goes on.
module _ (u : Unix) (s : ℕ) (can : CanGoOn u) (here : LivesIn s u) where
  pub resumed_due : (first : ℕ) → AreDue first u → AreDue first (ends_turn s (resumed u s)).unix
  resumed_due first d =
      let P : ℕ → Type 0 = λ n. (n ≤ u.timing.passed) ⊎ (first ≤ n) in
      disked_due u (ends_turn s (resumed u s)).unix (times_ends s u.timing (resumed u s) (times_resumed s u)) first first d (omega arith) d.next
      (disk_goes_on P u.processes s u can here (disked_same P u.processes))

  pub resumed_graves : NoGraveWaits u → NoGraveWaits (ends_turn s (resumed u s)).unix
  resumed_graves graves =
      let P : ℕ → Type 0 = λ n. Unit {0} in
      disked_graves u (ends_turn s (resumed u s)).unix (times_ends s u.timing (resumed u s) (times_resumed s u)) P graves
      (disk_goes_on P u.processes s u can here (disked_same P u.processes))
