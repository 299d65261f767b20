-- The turn of each slot is apt.
use Rattle.std.proofs.Common.{◌≡◌, ◌∙◌, ◌==◌, ◌&&◌, ℕ, not, Bool, true, false, cond, List, [], ◌∷◌, Option, Some, slice_index, replicate, arith, set, refl, sym, ap, subst}
use Rattle.pdp_step.specs.declared.outcome.Kind.{Kind}
use Rattle.pdp_step.specs.declared.outcome.Kind.TheVariants as kind
use Rattle.pdp_step.specs.declared.outcome.Outcome.{Outcome}
use Rattle.pdp_step.specs.declared.outcome.Outcome.TheVariants as outcome
use Rattle.pdp_step.specs.Instruction.{Stepped, instr}
use Rattle.pick_rules.specs.Lawful.{Seen}
use Rattle.log_laws.proofs.Fitting.{Apt, apt_append}
use Rattle.log_laws.proofs.Seats.{Seats, with_seat, InTurn, InCall, Paused, busy_agrees, in_its_slot}
use Rattle.log_laws.proofs.Lines.{seat_stays, sleep_apt}
use Rattle.u_area.specs.declared.layout.TheConstants.{NOTHING_PENDING, DISK_WAIT}
use Rattle.u_area.specs.declared.area.UArea.{UArea}
use Rattle.u_area.specs.Pending.{is_on_files}
use Rattle.sys_files.specs.Handed.{Handed}
use Rattle.sys_files.specs.Moving.{resumes}
use Rattle.mount_tab.specs.Mounted.{MountTable}
use Rattle.sys_procs.specs.Process.{Process, register, image_of}
use Rattle.sys_procs.specs.TextTable.{Text}
use Rattle.sys_procs.specs.World.{Clock, World, change}
use Rattle.sys_procs.specs.Fork.{fork_one}
use Rattle.sys_procs.specs.Resume.{awake, resume_proc}
use Rattle.v6_base.specs.Trace.{Log}
use Rattle.v6_base.specs.declared.entry.Chan.TheVariants.{Disk}
use Rattle.v6_base.specs.declared.entry.Entry.TheVariants as line
use Rattle.pick_rules.specs.Effects.{Effect, Show}
use Rattle.pick_rules.specs.Priority.{pribio}
use Rattle.sys_files.specs.Did.{Did}
use Rattle.sys_procs.specs.Comes.{Comes}
use Rattle.v6_base.specs.declared.answer.Answer.{Answer}
use Rattle.v6_base.specs.declared.answer.Answer.TheVariants.{Ret, Fail, Sleep}
use Rattle.v6_base.specs.declared.errno.Errno.TheVariants.{ENOSYS}
use Rattle.sig_core.specs.declared.numbers.TheConstants.{SIGINS, SIGTRC, SIGIOT, SIGEMT, SIGBUS}
use Rattle.open_files.specs.declared.file.OpenFile.{OpenFile}
use Rattle.abstract_unix.specs.declared.asked.Asked.{Asked}
use Rattle.abstract_unix.specs.declared.ending.Ending.{Ending}
use Rattle.abstract_unix.specs.declared.ending.Ending.TheVariants as ending
use Rattle.abstract_unix.specs.declared.calls.FileCall.{FileCall}
use Rattle.abstract_unix.specs.declared.calls.ProcessCall.{ProcessCall}
use Rattle.abstract_unix.specs.declared.calls.ProcessCall.TheVariants as process
use Rattle.abstract_unix.specs.declared.calls.SystemCall.{SystemCall}
use Rattle.abstract_unix.specs.declared.calls.SystemCall.TheVariants.{Indirect, Exit, Fork, Unknown, OnFiles, OnProcesses}
use Rattle.abstract_unix.specs.declared.calls.Sysent.{Sysent}
use Rattle.abstract_unix.specs.Unix.{Unix, process_of, with_process, mounts_of}
use Rattle.abstract_unix.specs.Steps.{Steps, returns}
use Rattle.abstract_unix.specs.Calls.{handed_of, world_of, with_area, entered_area, words_passed, asked, did_by, came_by, shares, forks, file_row, process_row, answers, with_handed, with_world, is_read, has_bytes, reads_disk, is_exec, is_done, loads_program, waiting_until, disk_end, waits_for_disk, takes_time, does_call, sysent_of, does_asked, system_call, resumed}
use Rattle.abstract_unix.specs.Turn.{machine_of, with_machine, faults, comes_to, instruction, is_user, passes_setd, begins_turn, turn}
use Rattle.abstract_unix.proofs.Sitting.{seat_for, seats_in, seats_of, found_in, runner_seat, runner_there, runner_alive, put_in, kept_in, changed_in}
use Rattle.abstract_unix.proofs.Steps.{AptSteps, Begun, AptBegun, ends_in, returns_apt, signals_apt, answers_apt, came_apt}
use Rattle.abstract_unix.proofs.Quiet.{HasNumbers, Calm, same_call, calm_walks, resume_calm}
use Rattle.sys_files.proofs.Walks.{CanResume, owns_all}
use Rattle.abstract_unix.proofs.FileRows.{walk_row}
use Rattle.abstract_unix.proofs.ProcessRows.{plain_row, resume_plain}
use Rattle.abstract_unix.proofs.Rows.{FineComes, Calling, plain_fine}
use Rattle.abstract_unix.proofs.Posting.{kill_fine}
use Rattle.abstract_unix.proofs.Children.{fork_fine}
use Rattle.sys_procs.specs.Exit.{exit_status}
use Rattle.abstract_unix.proofs.Exiting.{did_apt, no_pending, exits_apt}
use Rattle.abstract_unix.proofs.Executing.{break_fine, grow_apt, exec_fine}
use Rattle.abstract_unix.proofs.Delivering.{ended_apt}
use Rattle.abstract_unix.proofs.Tidy.{IsTidy, tidy_numbers, tidy_can}

-- a row of a call on files
calm_row : (call : FileCall) (h : Handed) (s : ℕ) (args : List ℕ) (now : ℕ) → HasNumbers h → Calm h.u s (file_row call h s args now)
calm_row call h s args now numbers = walk_row (calm_walks h.u s) call h args now tt (λ moves. tt) (λ both. tt) (owns_all h) (record { same = same_call h.u; numbers = numbers })

-- a row of a call on processes
fine_row : (call : ProcessCall) (mounts : MountTable) (s : ℕ) (seen : Seen) (w : World) (args : List ℕ) → Calling s w seen
    → FineComes w.limit s seen (process_row call mounts w s args)
fine_row process.Exec mounts s seen w a i = exec_fine mounts s seen w (slice_index a 0) (slice_index a 1) i
fine_row process.Break mounts s seen w a i = break_fine s seen w (slice_index a 0) i
fine_row process.Kill mounts s seen w a i = kill_fine s seen w (slice_index a 0) i
fine_row call mounts s seen w a i = plain_fine s seen w _ (plain_row call tt mounts s w a) i

module _ (s : ℕ) (seen : Seen) where
  if_apt : (b : Bool) (x y : Steps) → AptBegun s seen x → AptBegun s seen y → AptBegun s seen (cond b x y)
  if_apt true x y f g = f
  if_apt false x y f g = g

  -- which files are open makes no difference
  shared_apt : (steps : Steps) (files : List (Option OpenFile)) → AptBegun s seen steps
      → AptBegun s seen (record steps { unix = record steps.unix { files = files } })
  shared_apt steps files a = record { begun = by steps.ending a.begun }
    where
      by : (e : Ending) → Begun s seen steps.effects steps.unix e → Begun s seen steps.effects (record steps.unix { files = files }) e
      by ending.Next b = record { apt = b.apt; calm = b.calm }
      by ending.Trapped b = b
      by (ending.Slept pri chan) b = record { apt = b.apt; calm = b.calm }
      by ending.Ended b = record { apt = b.apt; calm = b.calm }
      by (ending.Panic kind) b = record { apt = b.apt; calm = b.calm }

  -- a fork: all slots are used, or a child's image wants a place
  forks_apt : (u : Unix) → Calling s (world_of u) seen → AptBegun s seen (forks u s)
  forks_apt u i =
      let came : AptBegun s seen (came_by u s (fork_one (world_of u) s)) = came_apt s seen u (fork_one (world_of u) s) (fork_fine s seen (world_of u) i).fine in
      shared_apt (came_by u s (fork_one (world_of u) s)) (shares u.files (process_of u s).u.files (fork_one (world_of u) s).answer) came

  -- a call that has read the disk waits for it, in place of coming out of its trap
  waits_apt : (u : Unix) (es : List (Effect Unix)) → Apt {W = Unix} (InCall s false (seats_of u)) seen es
      → AptSteps s seen (record { effects = es; unix = waits_for_disk u s; ending = ending.Slept pribio (Disk s) })
  waits_apt u es a =
      let v : Unix = waits_for_disk u s in
      ends_in s seen v es (ending.Slept pribio (Disk s)) tt
      (apt_append (InCall s false (seats_of u)) (Paused (seats_of v)) seen es (Show (Log (line.Sleep s pribio (Disk s))) ∷ []) a
      (λ now i. sleep_apt Unix s (seats_of v) now pribio (Disk s)
      (changed_in u.processes u.clock u.texts u.limit s false now (waiting_until (disk_end u.timing) (process_of u s)) i
      (runner_alive u.processes u.clock u.texts u.limit s now.board i.turn) refl refl) (refl, refl) (in_its_slot i.turn)))

  timed_apt : (has_read : Bool) (steps : Steps) → (has_read ≡ true → steps.ending ≡ ending.Trapped) → AptBegun s seen steps
      → AptBegun s seen (takes_time has_read s steps)
  timed_apt has_read steps trapped a = by has_read (not (steps.unix.timing.disk == 0)) trapped
    where
      by : (b c : Bool) → (b ≡ true → steps.ending ≡ ending.Trapped)
          → AptBegun s seen (cond (b && c) (record steps { unix = waits_for_disk steps.unix s; ending = ending.Slept pribio (Disk s) }) steps)
      by true true t = record { begun = waits_apt steps.unix steps.effects (subst (Begun s seen steps.effects steps.unix) (t refl) a.begun) }
      by true false t = a
      by false c t = a

  -- only what is done has read the disk
  did_trapped : (u : Unix) (call : FileCall) (h : Handed) (did : Did) → reads_disk call h did.answer ≡ true
      → (did_by u s did).ending ≡ ending.Trapped
  did_trapped u call h did reads = by did.answer reads
    where
      has : (b c d : Bool) → (b && c && d) ≡ true → c ≡ true
      has true true d e = refl
      has true false d e = absurd (cc e)
      has false c d e = absurd (cc e)

      by : (a : Answer) → reads_disk call h a ≡ true → (answers (with_handed u s did.state) s a).ending ≡ ending.Trapped
      by (Ret r0 r1) e = refl
      by (Fail x) e = absurd (let f = has (is_read call) (has_bytes (Fail x)) _ e in cc f)
      by (Sleep pri chan) e = absurd (let f = has (is_read call) (has_bytes (Sleep pri chan)) _ e in cc f)

  came_trapped : (u : Unix) (call : ProcessCall) (c : Comes) → loads_program call c.answer ≡ true
      → (came_by u s c).ending ≡ ending.Trapped
  came_trapped u call c loads = by c.answer loads
    where
      has : (b c : Bool) → (b && c) ≡ true → c ≡ true
      has true c e = e
      has false c e = absurd (cc e)

      by : (a : Answer) → loads_program call a ≡ true → (answers (with_world u c.state) s a).ending ≡ ending.Trapped
      by (Ret r0 r1) e = refl
      by (Fail x) e = absurd (let f = has (is_exec call) (is_done (Fail x)) e in cc f)
      by (Sleep pri chan) e = absurd (let f = has (is_exec call) (is_done (Sleep pri chan)) e in cc f)

  call_apt : (u : Unix) (call : SystemCall) (args : List ℕ) → HasNumbers (handed_of u (process_of u s)) → Calling s (world_of u) seen
      → AptBegun s seen (does_call u s call args)
  unfolding Apt
  call_apt u Indirect args numbers i = returns_apt s seen u i
  call_apt u Exit args numbers i = record { begun = exits_apt s u seen (exit_status (process_of u s)) numbers i }
  call_apt u Fork args numbers i = forks_apt u i
  call_apt u Unknown args numbers i = answers_apt s seen u [] (Fail ENOSYS) i
  call_apt u (OnFiles call) args numbers i =
      let h : Handed = handed_of u (process_of u s) in
      let did : Did = file_row call h s args u.clock.time in
      timed_apt (reads_disk call h did.answer) (did_by u s did) (did_trapped u call h did)
      (did_apt s u seen false (process_of u s).u did i (same_call (process_of u s).u).size (no_pending s u seen i)
      (calm_row call h s args u.clock.time numbers))
  call_apt u (OnProcesses call) args numbers i =
      let c : Comes = process_row call (mounts_of u) (world_of u) s args in
      timed_apt (loads_program call c.answer) (came_by u s c) (came_trapped u call c) (came_apt s seen u c (fine_row call (mounts_of u) s seen (world_of u) args i).fine)

  asked_apt : (u : Unix) (a : Asked) (entry : Sysent) → HasNumbers (handed_of u (process_of u s)) → Calling s (world_of u) seen → AptBegun s seen (does_asked u s a entry)
  asked_apt u a entry numbers i =
      call_apt (with_area u s (entered_area (words_passed a entry.count))) entry.call a.args (record { count = numbers.count; eight = numbers.eight; pipes = numbers.pipes })
      (kept_in u.processes u.clock u.texts u.limit s false seen (record (process_of u s) { u = entered_area (words_passed a entry.count) (process_of u s).u }) i refl refl refl refl)

  called_apt : (u : Unix) (number : ℕ) → HasNumbers (handed_of u (process_of u s)) → Calling s (world_of u) seen
      → AptBegun s seen (system_call number u s)
  called_apt u number numbers i =
      let a : Asked = asked (image_of u.texts (process_of u s)) (register (process_of u s) 7) number in asked_apt u a (sysent_of a.number) numbers i

  -- its turn begins
  begins : (u : Unix) → Paused (seats_of u) seen → (t : InTurn s (seats_of u) seen.board)
      → InCall s t.seat.calling (seats_of u) seen
  begins u p t =
      record { going = p.going; agrees = busy_agrees s (seats_of u) seen.board p.agrees; turn = t; calls = refl }

  -- no call is waited in any more
  wakes : (u : Unix) → Paused (seats_of u) seen → (t : InTurn s (seats_of u) seen.board)
      → Calling s (change (world_of u) s awake) seen
  wakes u p t =
      changed_in u.processes u.clock u.texts u.limit s t.seat.calling seen (awake (process_of u s)) (begins u p t)
      (runner_alive u.processes u.clock u.texts u.limit s seen.board t) refl refl

  resumed_apt : (u : Unix) → IsTidy u → Paused (seats_of u) seen → InTurn s (seats_of u) seen.board → AptBegun s seen (resumed u s)
  resumed_apt u tidy p t = first ((process_of u s).u.pending == DISK_WAIT)
    where
      old : UArea
      old = record (process_of u s).u { pending = NOTHING_PENDING; call = replicate 8 0 }

      at_end : is_on_files (process_of u s).u.pending ≡ true → CanResume (λ count. Unit {0}) (handed_of u (process_of u s))
      at_end on =
          tidy_can u s tidy (runner_there u.processes u.clock u.texts u.limit s seen.board t)
          (runner_alive u.processes u.clock u.texts u.limit s seen.board t) on

      by : (b : Bool) → is_on_files (process_of u s).u.pending ≡ b
          → AptBegun s seen (cond b (did_by u s (resumes (handed_of u (process_of u s)) s u.clock.time)) (came_by u s (resume_proc (world_of u) s)))
      by true on =
          did_apt s u seen t.seat.calling old (resumes (handed_of u (process_of u s)) s u.clock.time) (begins u p t) (record { «data» = refl; stack = refl }) refl
          (resume_calm (handed_of u (process_of u s)) s u.clock.time (at_end on) (tidy_numbers u s tidy))
      by false on =
          came_apt s seen u (resume_proc (world_of u) s) (plain_fine s seen _ _ (resume_plain s (world_of u)) (wakes u p t)).fine

      others : Steps
      others = cond (is_on_files (process_of u s).u.pending) (did_by u s (resumes (handed_of u (process_of u s)) s u.clock.time)) (came_by u s (resume_proc (world_of u) s))

      first : (b : Bool) → AptBegun s seen (cond b (returns (with_process u s (awake (process_of u s)))) others)
      first true = returns_apt s seen (with_process u s (awake (process_of u s))) (wakes u p t)
      first false = by (is_on_files (process_of u s).u.pending) refl

  -- another process that sits as this one did
  pub same_seats : (processes : List (Option Process)) (clock : Clock) (texts : List (Option Text)) (limit : ℕ) (p : Process)
      → InTurn s (seats_in processes clock texts limit) seen.board
      → seat_for p ≡ seat_for (found_in processes s)
      → seats_in (set processes s (Some p)) clock texts limit ≡ seats_in processes clock texts limit
  same_seats processes clock texts limit p t e =
      let v : Seats = seats_in processes clock texts limit in
      put_in processes clock texts limit s p ∙ ap (λ seat. with_seat v s (Some seat)) (e ∙ runner_seat processes clock texts limit s seen.board t)
      ∙ ap (λ slots. record v { slots = slots }) (sym (seat_stays s v seen.board t))

  -- an instruction of a process in user mode
  instruction_apt : (u : Unix) → HasNumbers (handed_of u (process_of u s)) → Paused (seats_of u) seen → InTurn s (seats_of u) seen.board
      → is_user (process_of u s) ≡ true
      → AptBegun s seen (instruction u s)
  unfolding Apt
  instruction_apt u numbers p t user = by step.outcome
    where
      step : Stepped
      step = instr (machine_of u.texts (process_of u s))

      now : Unix
      now = with_process u s (with_machine (process_of u s) step.machine)

      same : seats_of now ≡ seats_of u
      same = same_seats u.processes u.clock u.texts u.limit (with_machine (process_of u s) step.machine) t refl

      calls : t.seat.calling ≡ false
      calls = ap (λ x. x.calling) (sym (runner_seat u.processes u.clock u.texts u.limit s seen.board t)) ∙ ap not user

      i : Calling s (world_of now) seen
      i = subst (λ v. InCall s false v seen) (sym same) (subst (λ c. InCall s c (seats_of u) seen) calls (begins u p t))

      by : (o : Outcome) → AptBegun s seen (comes_to now s o)
      by outcome.Next = record { begun = record { apt = λ b. subst (λ v. Paused v seen) (sym same) p; calm = tt } }
      by (outcome.Call number) = called_apt now number (record { count = numbers.count; eight = numbers.eight; pipes = numbers.pipes }) i
      by (outcome.Fault k) = fault_apt k
        where
          fault_apt : (k : Kind) → AptBegun s seen (faults now s k)
          fault_apt kind.Odd = signals_apt s seen now SIGBUS [] refl (omega arith) (omega arith) i
          fault_apt (kind.Segment sp) = grow_apt s seen now sp i
          fault_apt (kind.Illegal word) =
              if_apt (passes_setd now s word) _ _ (returns_apt s seen now i) (signals_apt s seen now SIGINS [] refl (omega arith) (omega arith) i)
          fault_apt kind.Bpt = signals_apt s seen now SIGTRC [] refl (omega arith) (omega arith) i
          fault_apt kind.Iot = signals_apt s seen now SIGIOT [] refl (omega arith) (omega arith) i
          fault_apt kind.Emt = signals_apt s seen now SIGEMT [] refl (omega arith) (omega arith) i

  pub turn_apt : (u : Unix) → IsTidy u
      → HasNumbers (handed_of (begins_turn (record { unix = u; board = seen.board }) s).unix (process_of (begins_turn (record { unix = u; board = seen.board }) s).unix s))
      → Paused (seats_of u) seen → InTurn s (seats_of u) seen.board → AptSteps s seen (turn (record { unix = u; board = seen.board }) s)
  turn_apt u tidy numbers p t = ended_apt s seen (begins_turn (record { unix = u; board = seen.board }) s) numbers (by (is_user (process_of u s)) refl)
    where
      by : (x : Bool) → is_user (process_of u s) ≡ x
          → AptBegun s seen (cond x (instruction u s) (resumed u s))
      by true e = instruction_apt u (tidy_numbers u s tidy) p t e
      by false e = resumed_apt u tidy p t
