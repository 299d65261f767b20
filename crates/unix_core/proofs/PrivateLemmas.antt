-- Processes are private: what each event leaves of those whose turn it isn't.
use Rattle.std.proofs.Common.{◌≡◌, ◌≢◌, ◌≤◌, ◌⊎◌, ◌∙◌, ℕ, zero, suc, Bool, true, false, cond, not, ◌&&◌, ◌+◌, ◌==◌, nat_lt, is_some, if◌then◌else◌, List, [], ◌∷◌, ◌++◌, length, get_or, set, map, Option, Some, None, refl, sym, ap, subst, inl, inr}
use Rattle.std.specs.Prelude.{⊤, MatchOption, unwrap_or}
use Rattle.std.proofs.lemmas.Bool.{cases_lt}
use Rattle.std.proofs.lemmas.List.{get_or-set_same, get_or_past, length-set}
use Rattle.v6_base.specs.Trace.{Item, sent}
use Rattle.v6_base.specs.declared.errno.Errno.TheVariants.{ENOSYS}
use Rattle.v6_base.specs.declared.answer.Answer.{Answer}
use Rattle.v6_base.specs.declared.answer.Answer.TheVariants.{Ret, Fail, Sleep}
use Rattle.v6_base.specs.declared.entry.Chan.{Chan}
use Rattle.v6_base.specs.declared.entry.Chan.TheVariants.{Tout}
use Rattle.tty_line.specs.Said.{Said, flush}
use Rattle.lines_eight.specs.Told.{AllTold, each_line, told, keys_of, show_of}
use Rattle.pdp_step.specs.declared.outcome.Outcome.{Outcome}
use Rattle.pdp_step.specs.declared.outcome.Outcome.TheVariants.{Next, Call, Fault}
use Rattle.pdp_step.specs.Instruction.{Stepped, instr}
use Rattle.pdp_step.specs.declared.outcome.Kind.{Kind}
use Rattle.pdp_step.specs.declared.outcome.Kind.TheVariants as kind
use Rattle.pick_rules.specs.declared.row.Mode.{Mode}
use Rattle.pick_rules.specs.declared.row.Mode.TheVariants.{User, Kernel, Idle}
use Rattle.pick_rules.specs.Effects.{Effect, Show}
use Rattle.pick_rules.specs.Logged.{Stop, nothing_logged, left_by}
use Rattle.swap_sched.specs.Pass.{pass, stop_over}
use Rattle.sig_core.specs.declared.numbers.TheConstants.{SIGINS, SIGTRC, SIGIOT, SIGEMT, SIGBUS, SIGSEG, SIGSYS, SIGHUP}
use Rattle.sig_core.specs.Signals.{handler_of, due}
use Rattle.sig_core.specs.Delivery.{makes_core, signal_stack}
use Rattle.sys_files.specs.Did.{Did}
use Rattle.sys_files.specs.Core.{core_file, is_written}
use Rattle.sys_files.specs.Descriptors.{Closing}
use Rattle.sys_files.specs.Moving.{resumes}
use Rattle.tty_line.specs.declared.line.Keyed.{Keyed}
use Rattle.tty_line.specs.declared.line.Keyed.TheVariants.{Nothing, Ready, Flushed, Signal}
use Rattle.tty_line.specs.Input.{Typed, typed}
use Rattle.u_area.specs.declared.layout.TheConstants.{DISK_WAIT}
use Rattle.u_area.specs.declared.area.UArea.{UArea}
use Rattle.u_area.specs.Pending.{is_on_files}
use Rattle.sys_procs.specs.Process.{Process, no_process, register, image_of}
use Rattle.sys_procs.specs.Comes.{Comes}
use Rattle.sys_procs.specs.Break.{grow, grown_or_not}
use Rattle.sys_procs.specs.Exit.{exit_status, end_proc}
use Rattle.sys_procs.specs.Fork.{fork_one}
use Rattle.sys_procs.specs.Resume.{awake, resume_proc}
use Rattle.sys_procs.specs.Signals.{signal_lines, meant_in, all_signalled, has_line}
use Rattle.abstract_unix.specs.declared.asked.Asked.{Asked}
use Rattle.abstract_unix.specs.declared.calls.SystemCall.{SystemCall}
use Rattle.abstract_unix.specs.declared.calls.SystemCall.TheVariants.{Indirect, Exit, Fork, Unknown, OnFiles, OnProcesses}
use Rattle.abstract_unix.specs.declared.calls.Sysent.{Sysent}
use Rattle.abstract_unix.specs.declared.ending.Ending.{Ending}
use Rattle.abstract_unix.specs.declared.ending.Ending.TheVariants as ending
use Rattle.abstract_unix.specs.Unix.{Unix, System, terminal_at, with_terminal, process_of, with_process, mounts_of}
use Rattle.abstract_unix.specs.Steps.{Steps, quietly, returns, signals, after_effects}
use Rattle.abstract_unix.specs.Errors.{error_number}
use Rattle.abstract_unix.specs.Calls.{in_order, handed_of, with_handed, world_of, with_world, with_area, entered_area, words_passed, asked, given_area, refused_area, refuses, answers, file_row, process_row, did_by, came_by, forks, closes_all, exits_with, grows, grown_by, takes_time, does_call, sysent_of, does_asked, resumed}
use Rattle.abstract_unix.specs.Delivery.{heeds, catches, signal_status, dumped, ends_by, delivers_if, delivers_due, ends_by_ending}
use Rattle.abstract_unix.specs.Turn.{Happened, happens, stays, settling, calls_for_settling, settled_after, machine_of, with_machine, passes_setd, faults, comes_to, instruction, is_user, begins_turn, turn, end_effects, turn_of, pass_of, slot_of, whole_slot}
use Rattle.abstract_unix.specs.Outside.{mode_of, timed, charged, ticked, is_due, is_as_trap, wakes, tick_effects, tick_delivery, delivers_to, tick_of, calls, calls_show, with_key, key_lines, typed_of, hangs_up, hangup_of, turned_to, paced_of}
use Rattle.abstract_unix.proofs.RunsLemmas.{after_keeps}
use Rattle.abstract_unix.specs.Runs.{Slot, Tick, Byte, Switch, Disk, Pace, Hangup, event_of, start_of}
use Rattle.abstract_unix.specs.Private.{IsUndisturbed, AllUndisturbed, OthersUndisturbed, TickUndisturbed, UndisturbedIf, is_due_to, tick_delivers}
use Rattle.sys_procs.proofs.Slots.{fifty_processes}
use Rattle.unix_core.specs.declared.world.World.{World}
use Rattle.unix_core.specs.Parts.{system_at}
use Rattle.unix_core.proofs.PrivateSlots.{Spared, AllCarry, spared_same, spared_then, spared_other, spared_timed, spared_signalled, left_carried, carry_shown, carry_both, carry_lifted}
use Rattle.unix_core.proofs.PrivateExec.{IsSparingCall, sparing_row, sparing_grow, sparing_grown}
use Rattle.unix_core.proofs.PrivateRows.{IsSparing, sparing_fork, sparing_end, sparing_resume}

-- a Unix in which the process of a slot lives on
abbrev HasSpared : List (Option Process) → ℕ → Unix → Type 0
HasSpared ps r u = Spared ps u.processes r

-- A turn has left a slot alone, and so had the Unix before each of its effects.
record AreSparing (ps : List (Option Process)) (r : ℕ) (steps : Steps) : Type 0 where
  pub effects : AllCarry (HasSpared ps r) steps.effects
  pub unix : Spared ps steps.unix.processes r

module _ (ps : List (Option Process)) (r s : ℕ) (other : r ≢ s) where
  sparing_quiet : (u : Unix) (e : Ending) → Spared ps u.processes r → AreSparing ps r (quietly u e)
  sparing_quiet u e h = record { effects = tt; unix = h }

  sparing_after : (es : List (Effect Unix)) (steps : Steps) → AllCarry (HasSpared ps r) es → AreSparing ps r steps
      → AreSparing ps r (after_effects es steps)
  sparing_after es steps carry h =
      record { effects = carry_both (HasSpared ps r) es steps.effects carry h.effects; unix = h.unix }

  sparing_if : (b : Bool) (x y : Steps) → AreSparing ps r x → AreSparing ps r y → AreSparing ps r (if b then x else y)
  sparing_if true x y k l = k
  sparing_if false x y k l = l

  spared_put : (u : Unix) (o : Option Process) → Spared ps u.processes r → Spared ps (set u.processes s o) r
  spared_put u o h = spared_then ps u.processes (set u.processes s o) r h (spared_other u.processes s r o other)

  spared_area : (u : Unix) (rule : UArea → UArea) → Spared ps u.processes r → Spared ps (with_area u s rule).processes r
  spared_area u rule h = spared_put u _ h

  -- it waits for the disk
  sparing_timed : (has_read : Bool) (steps : Steps) → AreSparing ps r steps → AreSparing ps r (takes_time has_read s steps)
  sparing_timed has_read steps h =
      sparing_if (has_read && not (steps.unix.timing.disk == 0)) _ _
      (record { effects = h.effects; unix = spared_put steps.unix _ h.unix }) h

  -- the process is sent a signal
  sparing_signals : (u : Unix) (n : ℕ) → Spared ps u.processes r → AreSparing ps r (signals u s n)
  sparing_signals u n h = record { effects = carry_shown (HasSpared ps r) (signal_lines n (s ∷ [])); unix = spared_put u _ h }

  -- answers
  sparing_refuses : (u : Unix) (n : ℕ) → Spared ps u.processes r → AreSparing ps r (refuses u s n)
  sparing_refuses u n h =
      sparing_if (nat_lt n 100) _ _
      (sparing_quiet (with_area u s (refused_area n)) ending.Trapped (spared_area u (refused_area n) h))
      (sparing_signals u SIGSYS h)

  sparing_answers : (u : Unix) (a : Answer) → Spared ps u.processes r → AreSparing ps r (answers u s a)
  sparing_answers u (Ret r0 r1) h =
      sparing_quiet (with_area u s (given_area r0 r1)) ending.Trapped (spared_area u (given_area r0 r1) h)
  sparing_answers u (Fail e) h = sparing_refuses u (error_number e) h
  sparing_answers u (Sleep pri chan) h = sparing_quiet u (ending.Slept pri chan) h

  module _ (u : Unix) (h : Spared ps u.processes r) where
    sparing_did : (did : Did) → AreSparing ps r (did_by u s did)
    sparing_did did =
        sparing_after (map Show (in_order did.items)) _ (carry_shown (HasSpared ps r) (in_order did.items))
        (sparing_answers (with_handed u s did.state) did.answer (spared_put u _ h))

    sparing_came : (c : Comes) → IsSparing ps r c → AreSparing ps r (came_by u s c)
    sparing_came c sparing =
        sparing_after _ _ (carry_lifted (with_world u) (HasSpared ps r) c.effects sparing.effects)
        (sparing_answers (with_world u c.state) c.answer sparing.state)

    sparing_forks : AreSparing ps r (forks u s)
    sparing_forks =
        let c : Comes = fork_one (world_of u) s in
        let came : AreSparing ps r (came_by u s c) = sparing_came c (sparing_fork ps r s other (world_of u) h) in
        record { effects = came.effects; unix = came.unix }

    sparing_exits : (status : ℕ) → AreSparing ps r (exits_with u s status)
    sparing_exits status =
        let closed : Closing = closes_all u s in
        let now : Unix = with_handed u s closed.state in
        let c : Comes = end_proc (world_of now) s status in
        let came : IsSparing ps r c = sparing_end ps r s other (world_of now) status (spared_put u _ h) in
        record {
          effects = carry_both (HasSpared ps r) (map Show (in_order closed.items)) _ (carry_shown (HasSpared ps r) (in_order closed.items))
              (carry_lifted (with_world now) (HasSpared ps r) c.effects came.effects);
          unix = came.state;
        }

    sparing_grows : (c : Comes) → IsSparing ps r c → AreSparing ps r (grows u c)
    sparing_grows c sparing = record {
      effects = carry_lifted (with_world u) (HasSpared ps r) c.effects sparing.effects;
      unix = sparing.state;
    }

    sparing_grown_by : (o : Option Comes) → MatchOption o ⊤ (IsSparingCall ps r s other) → AreSparing ps r (grown_by u s o)
    sparing_grown_by None sparing = sparing_signals u SIGSEG h
    sparing_grown_by (Some c) sparing = sparing_grows c sparing

    sparing_does : length u.processes ≡ 50 → (call : SystemCall) (args : List ℕ) → AreSparing ps r (does_call u s call args)
    sparing_does long Indirect args = sparing_quiet u ending.Trapped h
    sparing_does long Exit args = sparing_exits (exit_status (process_of u s))
    sparing_does long Fork args = sparing_forks
    sparing_does long Unknown args = sparing_refuses u (error_number ENOSYS) h
    sparing_does long (OnFiles call) args = sparing_timed _ _ (sparing_did (file_row call (handed_of u (process_of u s)) s args u.clock.time))
    sparing_does long (OnProcesses call) args =
        sparing_timed _ _ (sparing_came (process_row call (mounts_of u) (world_of u) s args) (sparing_row ps r s other call (mounts_of u) (world_of u) args long h))

  -- A signal is delivered: it is caught,
  module _ (u : Unix) (h : Spared ps u.processes r) where
    sparing_catches : (sig : ℕ) → AreSparing ps r (catches u s sig)
    sparing_catches sig =
        let sp : ℕ = signal_stack (process_of u s).u in
        let c : Comes = grown_or_not (world_of u) s (grow (world_of u) s sp) in
        let grown : AreSparing ps r (grows u c) = sparing_grows u h c (sparing_grown ps r s other (world_of u) sp h) in
        record { effects = grown.effects; unix = spared_put (grows u c).unix _ grown.unix }

    -- or the process ends,
    sparing_ends_by : (sig : ℕ) → AreSparing ps r (ends_by u s sig)
    sparing_ends_by sig =
        let core : Did = core_file (handed_of u (process_of u s)) u.clock.time in
        sparing_if (makes_core sig) _ _
        (sparing_exits (with_handed u s core.state) (spared_put u _ h)
        (signal_status u s sig + (if is_written core.answer then dumped else 0)))
        (sparing_exits u h (signal_status u s sig))

  -- where one is due.
  sparing_delivers : (u : Unix) (h : Spared ps u.processes r) (o : Option ℕ) → AreSparing ps r (delivers_if u s o)
  sparing_delivers u h None = sparing_quiet u ending.Trapped h
  sparing_delivers u h (Some sig) =
      let heeded : Spared ps (heeds u s).processes r = spared_put u _ h in
      sparing_if (handler_of (process_of u s).u sig == 0) _ _ (sparing_ends_by (heeds u s) heeded sig)
      (sparing_catches (heeds u s) heeded sig)

  sparing_due : (u : Unix) (h : Spared ps u.processes r) → AreSparing ps r (delivers_due u s)
  unfolding delivers_due
  sparing_due u h = sparing_delivers u h (due (process_of u s).row (process_of u s).u)

  sparing_ends : (steps : Steps) (e : Ending) → AreSparing ps r steps → AreSparing ps r (ends_by_ending s steps e)
  sparing_ends steps ending.Next h = h
  sparing_ends steps ending.Trapped h =
      sparing_after steps.effects (delivers_due steps.unix s) h.effects (sparing_due steps.unix h.unix)
  sparing_ends steps (ending.Slept pri chan) h = h
  sparing_ends steps ending.Ended h = h
  sparing_ends steps (ending.Panic kind) h = h

  module _ (u : Unix) (long : length u.processes ≡ 50) (h : Spared ps u.processes r) where
    sparing_asked : (a : Asked) (entry : Sysent) → AreSparing ps r (does_asked u s a entry)
    sparing_asked a entry =
        let entered : Unix = with_area u s (entered_area (words_passed a entry.count)) in
        sparing_does entered (spared_area u (entered_area (words_passed a entry.count)) h)
        (length-set u.processes s _ ∙ long) entry.call a.args

    sparing_faults : (k : Kind) → AreSparing ps r (faults u s k)
    sparing_faults kind.Odd = sparing_signals u SIGBUS h
    sparing_faults (kind.Segment sp) = sparing_grown_by u h (grow (world_of u) s sp) (sparing_grow ps r s other (world_of u) sp h)
    sparing_faults (kind.Illegal word) =
        sparing_if (passes_setd u s word) _ _ (sparing_quiet u ending.Trapped h) (sparing_signals u SIGINS h)
    sparing_faults kind.Bpt = sparing_signals u SIGTRC h
    sparing_faults kind.Iot = sparing_signals u SIGIOT h
    sparing_faults kind.Emt = sparing_signals u SIGEMT h

    sparing_outcome : (o : Outcome) → AreSparing ps r (comes_to u s o)
    sparing_outcome Next = sparing_quiet u ending.Next h
    sparing_outcome (Call number) =
        let p : Process = process_of u s in
        let a : Asked = asked (image_of u.texts p) (register p 7) number in
        sparing_asked a (sysent_of a.number)
    sparing_outcome (Fault k) = sparing_faults k

  -- turns
  module _ (u : Unix) (long : length u.processes ≡ 50) (h : Spared ps u.processes r) where
    sparing_instruction : AreSparing ps r (instruction u s)
    sparing_instruction =
        let p : Process = process_of u s in
        let stepped : Stepped = instr (machine_of u.texts p) in
        sparing_outcome (with_process u s (with_machine p stepped.machine)) (length-set u.processes s _ ∙ long)
        (spared_put u _ h) stepped.outcome

    sparing_resumed : AreSparing ps r (resumed u s)
    sparing_resumed =
        sparing_if ((process_of u s).u.pending == DISK_WAIT) _ _
        (sparing_quiet (with_process u s (awake (process_of u s))) ending.Trapped (spared_put u _ h))
        (sparing_if (is_on_files (process_of u s).u.pending) _ _
        (sparing_did u h (resumes (handed_of u (process_of u s)) s u.clock.time))
        (sparing_came u h (resume_proc (world_of u) s) (sparing_resume ps r s other (world_of u) h)))

-- The lines with which a turn ends and which wake sleepers carry no state.
module _ (P : Unix → Type 0) where
  pub carry_end : (s : ℕ) (e : Ending) → AllCarry P (end_effects s e)
  carry_end s ending.Next = tt
  carry_end s ending.Trapped = (tt, tt)
  carry_end s (ending.Slept pri chan) = (tt, tt)
  carry_end s ending.Ended = tt
  carry_end s (ending.Panic kind) = tt

  pub carry_wakes : (b : Bool) (chan : Chan) → AllCarry P (wakes b chan)
  carry_wakes true chan = (tt, tt)
  carry_wakes false chan = tt

  pub carry_tick : (m : System) → AllCarry P (tick_effects m)
  carry_tick m = (tt, carry_wakes (is_due m.unix.clock) Tout)

-- A tick has changed nothing by which a signal is due.
timed_due : (mode : Mode) (p : Process) → due (timed mode p).row (timed mode p).u ≡ due p.row p.u
timed_due User p = refl
timed_due Kernel p = refl
timed_due Idle p = refl

ticked_due : (m : System) (s : ℕ) → m.board.table.running ≡ Some s
    → due (process_of (ticked m) s).row (process_of (ticked m) s).u ≡ due (process_of m.unix s).row (process_of m.unix s).u
ticked_due m s runs =
    ap (λ o. due (process_of (charged m.unix (mode_of m) o) s).row (process_of (charged m.unix (mode_of m) o) s).u) runs
    ∙ by (s == 0)
  where
    ps : List (Option Process)
    ps = m.unix.processes

    now : Process
    now = timed (mode_of m) (process_of m.unix s)

    -- who would be found in the slot
    found : Option Process → Option ℕ
    found o = due (unwrap_or o no_process).row (unwrap_or o no_process).u

    by : (b : Bool) → found (get_or (if b then m.unix else with_process m.unix s now).processes s None) ≡ found (get_or ps s None)
    by true = refl
    by false = elim (cases_lt s (length ps)) [
      | inl low ↦ ap found (get_or-set_same ps s (Some now) None low) ∙ timed_due (mode_of m) (process_of m.unix s)
      | inr past ↦
          ap found (get_or_past (set ps s (Some now)) s None (subst (λ n. n ≤ s) (sym (length-set ps s (Some now))) past))
          ∙ ap found (sym (get_or_past ps s None past))
    ]

module _ (m : System) (r : ℕ) where
  -- the processes as they were
  abbrev before : List (Option Process)
  before = m.unix.processes

  spared_turn : (s : ℕ) → length before ≡ 50 → r ≢ s → IsUndisturbed m.unix (turn_of m s (turn m s)).unix r
  spared_turn s long other =
      let u : Unix = m.unix in
      let same = spared_same before r in
      let begun : AreSparing before r (begins_turn m s) =
      sparing_if before r s other (is_user (process_of u s)) _ _
      (sparing_instruction before r s other u long same) (sparing_resumed before r s other u long same) in
      let done : Steps = turn m s in
      let h : AreSparing before r done = sparing_ends before r s other (begins_turn m s) (begins_turn m s).ending begun in
      left_carried (HasSpared before r) m.board (done.effects ++ end_effects s done.ending) done.unix
      (carry_both (HasSpared before r) done.effects (end_effects s done.ending) h.effects
      (carry_end (HasSpared before r) s done.ending)) h.unix

  -- a pass of the swapper changes no process
  spared_pass : IsUndisturbed m.unix (pass_of m).unix r
  spared_pass = by (pass m.board).stop
    where
      by : (o : Option (Stop (Unit {0}))) → IsUndisturbed m.unix (left_by (stop_over m.unix o) m.unix) r
      by None = spared_same before r
      by (Some stop) = spared_same before r

  spared_slot : length before ≡ 50 → (o : Option ℕ) → o ≢ Some r → IsUndisturbed m.unix (slot_of m o).unix r
  spared_slot long None other = spared_same before r
  spared_slot long (Some zero) other = spared_pass
  spared_slot long (Some (suc s)) other = spared_turn (suc s) long (λ same. other (ap (λ n. Some n) (sym same)))

  spared_charged : (mode : Mode) (o : Option ℕ) → Spared before (charged m.unix mode o).processes r
  spared_charged mode None = spared_same before r
  spared_charged mode (Some s) = by (s == 0)
    where
      by : (b : Bool)
          → Spared before (if b then m.unix else with_process m.unix s (timed mode (process_of m.unix s))).processes r
      by true = spared_same before r
      by false = spared_timed before s r mode

  spared_ticked : Spared before (ticked m).processes r
  spared_ticked = spared_charged (mode_of m) m.board.table.running

  -- A tick delivers a signal to the process that runs, or to none.
  sparing_tick : m.board.table.running ≢ Some r ⊎ tick_delivers m ≡ false → AreSparing before r (tick_delivery m)
  unfolding delivers_due
  sparing_tick case = by (is_as_trap m) refl m.board.table.running refl
    where
      quiet : AreSparing before r (returns (ticked m))
      quiet = record { effects = tt; unix = spared_ticked }

      nothing_due : (s : ℕ) → is_some (due (process_of m.unix s).row (process_of m.unix s).u) ≡ false
          → m.board.table.running ≡ Some s → AreSparing before r (delivers_due (ticked m) s)
      nothing_due s none runs =
          at (due (process_of (ticked m) s).row (process_of (ticked m) s).u) (ap is_some (ticked_due m s runs) ∙ none)
        where
          at : (o : Option ℕ) → is_some o ≡ false → AreSparing before r (delivers_if (ticked m) s o)
          at None is = quiet
          at (Some sig) is = absurd (cc is)

      by : (b : Bool) → is_as_trap m ≡ b → (o : Option ℕ) → m.board.table.running ≡ o
          → AreSparing before r (if b then delivers_to (ticked m) o else returns (ticked m))
      by false is o runs = quiet
      by true is None runs = quiet
      by true is (Some s) runs = elim case [
        | inl other ↦ sparing_due before r s (λ same. other (runs ∙ ap (λ n. Some n) (sym same))) (ticked m) spared_ticked
        | inr none ↦ nothing_due s
            (ap (is_due_to m.unix) (sym runs) ∙ ap (λ b. b && is_due_to m.unix m.board.table.running) (sym is) ∙ none) runs
      ]

  spared_tick : m.board.table.running ≢ Some r ⊎ tick_delivers m ≡ false → IsUndisturbed m.unix (tick_of m).unix r
  spared_tick case =
      let s : Steps = tick_delivery m in
      let h : AreSparing before r s = sparing_tick case in
      left_carried (HasSpared before r) m.board (tick_effects m ++ s.effects) s.unix
      (carry_both (HasSpared before r) (tick_effects m) s.effects (carry_tick (HasSpared before r) m) h.effects) h.unix

  -- a key that sends a signal
  -- and what those who have a line get
  spared_line : length before ≡ 50 → (l n : ℕ) (ps : List (Option Process)) → ps ≡ before → Spared before (all_signalled (has_line l) n ps) r
  spared_line long l n ps same =
      spared_then before ps (all_signalled (has_line l) n ps) r (subst (λ xs. Spared before xs r) (sym same) (spared_same before r))
      (spared_signalled ps (has_line l) n r (ap length same ∙ long))

  spared_key : length before ≡ 50 → (l : ℕ) (key : Keyed) (u : Unix) → u.processes ≡ before → Spared before (with_key l key u).processes r
  spared_key long l Nothing u same = subst (λ ps. Spared before ps r) (sym same) (spared_same before r)
  spared_key long l Ready u same = subst (λ ps. Spared before ps r) (sym same) (spared_same before r)
  spared_key long l (Flushed show) u same = subst (λ ps. Spared before ps r) (sym same) (spared_same before r)
  spared_key long l (Signal n show) u same = spared_line long l n u.processes same

  spared_typed : length before ≡ 50 → (l byte : ℕ) → IsUndisturbed m.unix (typed_of m l byte).unix r
  spared_typed long l byte =
      let k : Typed = typed (terminal_at m.unix l) byte in
      let shown : List Item = sent l k.shown ++ key_lines l k.keyed m.unix in
      let keys : List (Effect Unix) = wakes (calls k.keyed) (keys_of l) in
      let room : List (Effect Unix) = wakes (calls_show k.keyed) (show_of l) in
      left_carried (HasSpared before r) m.board (map Show shown ++ (keys ++ room)) (with_key l k.keyed (with_terminal m.unix l k.terminal))
      (carry_both (HasSpared before r) (map Show shown) (keys ++ room) (carry_shown (HasSpared before r) shown)
      (carry_both (HasSpared before r) keys room (carry_wakes (HasSpared before r) (calls k.keyed) (keys_of l))
      (carry_wakes (HasSpared before r) (calls_show k.keyed) (show_of l))))
      (spared_key long l k.keyed (with_terminal m.unix l k.terminal) refl)

  spared_hangup : length before ≡ 50 → (l : ℕ) → IsUndisturbed m.unix (hangup_of m l).unix r
  spared_hangup long l = by (terminal_at m.unix l).is_open
    where
      s : Said
      s = flush (terminal_at m.unix l)

      shown : List Item
      shown = signal_lines SIGHUP (meant_in (has_line l) m.unix.processes) ++ told l s

      by : (b : Bool) → IsUndisturbed m.unix (cond b (hangs_up m l) (happens m.unix (nothing_logged m.board))).unix r
      by true =
          left_carried (HasSpared before r) m.board (map Show shown)
          (record (with_terminal m.unix l s.terminal) { processes = all_signalled (has_line l) SIGHUP m.unix.processes })
          (carry_shown (HasSpared before r) shown) (spared_line long l SIGHUP m.unix.processes refl)
      by false = spared_same before r

  spared_paced : (n : ℕ) → IsUndisturbed m.unix (paced_of m n).unix r
  spared_paced n =
      let all : AllTold = each_line (turned_to (not (n == 0))) m.unix.lines in
      left_carried (HasSpared before r) m.board (map Show all.items)
      (record m.unix { lines = all.lines; timing = record m.unix.timing { pace = n; since = 0 } })
      (carry_shown (HasSpared before r) all.items) (spared_same before r)

-- settling leaves the Unix as it is
pub settled_unix : (h : Happened) → (settled_after h).next.unix ≡ h.unix
settled_unix h = by (calls_for_settling h)
  where
    by : (b : Bool) → (cond b (settling h) (stays h)).next.unix ≡ h.unix
    by true = refl
    by false = refl

-- a kernel has fifty slots
pub fifty_slots : (w : World) (m : System) → system_at w ≡ m → length m.unix.processes ≡ 50
fifty_slots w m same =
    subst (λ (n : System). length n.unix.processes ≡ 50) same (fifty_processes w.procs.rows.slots w.procs.images.kept)

-- The law, event by event: at the start,
pub start_private : (m : System) → AllUndisturbed m (start_of m).next
start_private m r = subst (λ (u : Unix). IsUndisturbed m.unix u r) (sym (settled_unix (pass_of m))) (spared_pass m r)

-- by a slot,
pub slot_private : (m : System) → length m.unix.processes ≡ 50 → OthersUndisturbed m (event_of Slot m).next
slot_private m long r other =
    let o : Option ℕ = m.board.table.running in
    subst (λ (u : Unix). IsUndisturbed m.unix u r) (sym (settled_unix (whole_slot m)))
    (subst (λ ps. Spared m.unix.processes ps r)
    (sym (after_keeps (List (Option Process)) (λ (u : Unix). u.processes) (λ u. refl) (λ u lines. refl) (slot_of m o))) (spared_slot m r long o other))

-- a tick,
pub tick_private : (m : System) → TickUndisturbed m (event_of Tick m).next
tick_private m = by (tick_delivers m) refl
  where
    by : (b : Bool) → tick_delivers m ≡ b → UndisturbedIf b m (event_of Tick m).next
    by true is =
        λ r other. subst (λ (u : Unix). IsUndisturbed m.unix u r) (sym (settled_unix (tick_of m))) (spared_tick m r (inl other))
    by false is = λ r. subst (λ (u : Unix). IsUndisturbed m.unix u r) (sym (settled_unix (tick_of m))) (spared_tick m r (inr is))

-- a key and the switches.
pub typed_private : (m : System) → length m.unix.processes ≡ 50 → (l byte : ℕ) → AllUndisturbed m (event_of (Byte l byte) m).next
typed_private m long l byte r =
    subst (λ (u : Unix). IsUndisturbed m.unix u r) (sym (settled_unix (typed_of m l byte))) (spared_typed m r long l byte)

pub hangup_private : (m : System) → length m.unix.processes ≡ 50 → (l : ℕ) → AllUndisturbed m (event_of (Hangup l) m).next
hangup_private m long l r =
    subst (λ (u : Unix). IsUndisturbed m.unix u r) (sym (settled_unix (hangup_of m l))) (spared_hangup m r long l)

pub pace_private : (m : System) (n : ℕ) → AllUndisturbed m (event_of (Pace n) m).next
pace_private m n r = subst (λ (u : Unix). IsUndisturbed m.unix u r) (sym (settled_unix (paced_of m n))) (spared_paced m r n)

pub switched_private : (m : System) (word : ℕ) → AllUndisturbed m (event_of (Switch word) m).next
switched_private m word r = spared_same m.unix.processes r

pub disk_private : (m : System) (count : ℕ) → AllUndisturbed m (event_of (Disk count) m).next
disk_private m count r = spared_same m.unix.processes r
