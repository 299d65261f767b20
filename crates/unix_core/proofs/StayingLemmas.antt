-- Texts stay as they were made: what each event leaves of those that are shared.
use Rattle.std.proofs.Common.{◌≡◌, ◌<◌, ◌∙◌, ◌==◌, ◌+◌, ℕ, zero, suc, Bool, true, false, cond, not, ◌&&◌, nat_lt, if◌then◌else◌, List, [], ◌∷◌, ◌++◌, length, set, map, Option, Some, None, refl, sym, subst}
use Rattle.std.specs.Prelude.{⊤, MatchOption}
use Rattle.std.specs.List.{list_any}
use Rattle.std.proofs.lemmas.List.{length-set}
use Rattle.std.proofs.lemmas.List.Folds.{list_any-append}
use Rattle.v6_base.specs.Trace.{Item, sent}
use Rattle.v6_base.specs.declared.errno.Errno.TheVariants.{ENOSYS}
use Rattle.v6_base.specs.declared.answer.Answer.{Answer}
use Rattle.v6_base.specs.declared.answer.Answer.TheVariants.{Ret, Fail, Sleep}
use Rattle.v6_base.specs.declared.entry.Chan.TheVariants.{Disk}
use Rattle.tty_line.specs.Said.{Said, flush}
use Rattle.lines_eight.specs.Told.{AllTold, each_line, told, keys_of, show_of}
use Rattle.pdp_step.specs.declared.outcome.Outcome.{Outcome}
use Rattle.pdp_step.specs.declared.outcome.Outcome.TheVariants.{Next, Call, Fault}
use Rattle.pdp_step.specs.Instruction.{Stepped, instr}
use Rattle.pdp_step.specs.declared.outcome.Kind.{Kind}
use Rattle.pdp_step.specs.declared.outcome.Kind.TheVariants as kind
use Rattle.pick_rules.specs.declared.row.Mode.{Mode}
use Rattle.pick_rules.specs.Board.{Board}
use Rattle.pick_rules.specs.Effects.{Effect, Show}
use Rattle.pick_rules.specs.Logged.{Stop, nothing_logged, logged, left_by}
use Rattle.swap_sched.specs.Pass.{pass, stop_over}
use Rattle.u_area.specs.declared.layout.TheConstants.{DISK_WAIT}
use Rattle.u_area.specs.Pending.{is_on_files}
use Rattle.sig_core.specs.declared.numbers.TheConstants.{SIGINS, SIGTRC, SIGIOT, SIGEMT, SIGBUS, SIGSEG, SIGSYS, SIGHUP}
use Rattle.sig_core.specs.Signals.{handler_of, due}
use Rattle.sig_core.specs.Delivery.{makes_core, signal_stack}
use Rattle.sys_files.specs.Did.{Did}
use Rattle.sys_files.specs.Core.{core_file, is_written}
use Rattle.sys_files.specs.Descriptors.{Closing}
use Rattle.sys_files.specs.Moving.{resumes}
use Rattle.tty_line.specs.declared.line.Keyed.{Keyed}
use Rattle.tty_line.specs.declared.line.Keyed.TheVariants.{Nothing, Ready, Flushed, Signal}
use Rattle.tty_line.specs.Input.{Typed, typed}
use Rattle.log_laws.proofs.Users.{users_on}
use Rattle.abstract_unix.proofs.Sitting.{users}
use Rattle.sys_procs.specs.Process.{Process, register, image_of}
use Rattle.sys_procs.specs.TextTable.{Text}
use Rattle.sys_procs.specs.Comes.{Comes}
use Rattle.sys_procs.specs.Break.{grow, grown_or_not}
use Rattle.sys_procs.specs.Exit.{exit_status, end_proc}
use Rattle.sys_procs.specs.Fork.{fork_one}
use Rattle.sys_procs.specs.Resume.{awake, resume_proc}
use Rattle.sys_procs.specs.Signals.{signal_lines, meant_in, all_signalled, has_line}
use Rattle.abstract_unix.specs.declared.asked.Asked.{Asked}
use Rattle.abstract_unix.specs.declared.calls.ProcessCall.{ProcessCall}
use Rattle.abstract_unix.specs.declared.calls.ProcessCall.TheVariants as process
use Rattle.abstract_unix.specs.declared.calls.SystemCall.{SystemCall}
use Rattle.abstract_unix.specs.declared.calls.SystemCall.TheVariants.{Indirect, Exit, Fork, Unknown, OnFiles, OnProcesses}
use Rattle.abstract_unix.specs.declared.calls.Sysent.{Sysent}
use Rattle.abstract_unix.specs.declared.ending.Ending.{Ending}
use Rattle.abstract_unix.specs.declared.ending.Ending.TheVariants as ending
use Rattle.abstract_unix.specs.Unix.{Unix, System, Started, terminal_at, with_terminal, process_of, with_process, mounts_of}
use Rattle.abstract_unix.specs.Steps.{Steps, quietly, returns, signals, after_effects}
use Rattle.abstract_unix.specs.Errors.{error_number}
use Rattle.pick_rules.specs.Priority.{pribio}
use Rattle.abstract_unix.specs.Calls.{in_order, handed_of, with_handed, world_of, with_world, with_area, entered_area, words_passed, asked, refused_area, refuses, answers, file_row, process_row, did_by, came_by, forks, closes_all, exits_with, grows, grown_by, reads_disk, loads_program, waits_for_disk, takes_time, does_call, sysent_of, does_asked, resumed}
use Rattle.abstract_unix.specs.Delivery.{heeds, catches, signal_status, dumped, ends_by, delivers_if, delivers_due, ends_by_ending}
use Rattle.abstract_unix.specs.Turn.{Happened, happens, settled, stays, settling, calls_for_settling, settled_after, machine_of, with_machine, passes_setd, faults, comes_to, instruction, is_user, begins_turn, turn, end_effects, turn_of, pass_of, slot_of, whole_slot}
use Rattle.abstract_unix.specs.Outside.{mode_of, timed, charged, ticked, is_as_trap, wakes, tick_effects, tick_delivery, delivers_to, tick_of, calls, calls_show, with_key, key_lines, typed_of, hangs_up, hangup_of, turned_to, paced_of}
use Rattle.abstract_unix.proofs.RunsLemmas.{after_keeps, after_items_none}
use Rattle.abstract_unix.specs.Runs.{Slot, Tick, Byte, Switch, Disk, Pace, Hangup, event_of, start_of}
use Rattle.abstract_unix.specs.Shared.{TextStays, is_made_by, AllTextsStay, OtherTextsStay}
use Rattle.abstract_unix.proofs.ProcessRows.{plain_row}
use Rattle.sys_procs.proofs.Slots.{fifty_processes}
use Rattle.image_keep.specs.Kept.{IsKept}
use Rattle.unix_core.specs.declared.machine.Stage.{Stage}
use Rattle.unix_core.specs.declared.world.World.{World}
use Rattle.unix_core.specs.Parts.{system_at, phase_of, IsGood, IsKernel}
use Rattle.unix_core.proofs.BootKernelLemmas.{kernel_good}
use Rattle.unix_core.proofs.GoodLemmas.{forty, runs_low}
use Rattle.unix_core.proofs.ProgramLemmas.{same_users}
use Rattle.unix_core.proofs.PrivateSlots.{AllCarry, left_carried, carry_shown, carry_both, carry_lifted}
use Rattle.unix_core.proofs.PrivateLemmas.{carry_end, carry_wakes, carry_tick, settled_unix}
use Rattle.unix_core.proofs.StayingTexts.{first_false, stays_same, Leaves, leaves_carried, leaves_then}
use Rattle.unix_core.proofs.StayingRows.{IsStaying, staying_plain, staying_break, staying_kill, staying_fork, staying_end, staying_resume, staying_grow, staying_grown}
use Rattle.unix_core.proofs.StayingExec.{IsAt, exec_goes}

-- what is so of a system in which a turn begins
pub record AreTexts (m : System) : Type 0 where
  pub users : users_on m.board ≡ users m.unix.texts
  pub forty : length m.unix.texts ≡ 40
  pub low : (s : ℕ) → m.board.table.running ≡ Some (suc s) → suc s < length m.unix.processes

module _ (ts : List (Option Text)) (k s : ℕ) where
  abbrev Stays : Unix → Type 0
  Stays u = TextStays ts u.texts k

  -- Some steps of the process leave a text in its entry, on a board.
  abbrev StaysAfter : Board → Steps → Type 0
  StaysAfter b steps = Leaves Stays k b steps.effects steps.unix

  -- Most leave it whatever the log tells.
  record AreStaying (steps : Steps) : Type 0 where
    pub effects : AllCarry Stays steps.effects
    pub unix : Stays steps.unix

  after_steps : (b : Board) (steps : Steps) → AreStaying steps → StaysAfter b steps
  after_steps b steps h = leaves_carried Stays k b steps.effects steps.unix h.effects h.unix

  staying_quiet : (u : Unix) (e : Ending) → Stays u → AreStaying (quietly u e)
  staying_quiet u e h = record { effects = tt; unix = h }

  staying_after : (es : List (Effect Unix)) (steps : Steps) → AllCarry Stays es → AreStaying steps
      → AreStaying (after_effects es steps)
  staying_after es steps carry h = record { effects = carry_both Stays es steps.effects carry h.effects; unix = h.unix }

  staying_if : (x : Bool) (one two : Steps) → AreStaying one → AreStaying two → AreStaying (if x then one else two)
  staying_if true one two h l = h
  staying_if false one two h l = l

  -- the process is sent a signal
  staying_signals : (u : Unix) (n : ℕ) → Stays u → AreStaying (signals u s n)
  staying_signals u n h = record { effects = carry_shown Stays (signal_lines n (s ∷ [])); unix = h }

  -- Answers change no text, and their lines carry no state.
  answered_texts : (u : Unix) (a : Answer) → (answers u s a).unix.texts ≡ u.texts
  answered_texts u (Ret r0 r1) = refl
  answered_texts u (Fail e) = by (nat_lt (error_number e) 100)
    where
      by : (b : Bool)
          → (if b then returns (with_area u s (refused_area (error_number e))) else signals u s SIGSYS).unix.texts ≡ u.texts
      by true = refl
      by false = refl
  answered_texts u (Sleep pri chan) = refl

  carry_answers : (u : Unix) (a : Answer) → AllCarry Stays (answers u s a).effects
  carry_answers u (Ret r0 r1) = tt
  carry_answers u (Fail e) = by (nat_lt (error_number e) 100)
    where
      by : (b : Bool)
          → AllCarry Stays (if b then returns (with_area u s (refused_area (error_number e))) else signals u s SIGSYS).effects
      by true = tt
      by false = carry_shown Stays (signal_lines SIGSYS (s ∷ []))
  carry_answers u (Sleep pri chan) = tt

  staying_answers : (u : Unix) (a : Answer) → Stays u → AreStaying (answers u s a)
  staying_answers u a h =
      record { effects = carry_answers u a; unix = subst (λ l. TextStays ts l k) (sym (answered_texts u a)) h }

  module _ (u : Unix) (h : Stays u) where
    staying_did : (did : Did) → AreStaying (did_by u s did)
    staying_did did =
        staying_after (map Show (in_order did.items)) _ (carry_shown Stays (in_order did.items))
        (staying_answers (with_handed u s did.state) did.answer h)

    staying_came : (c : Comes) → IsStaying ts k c → AreStaying (came_by u s c)
    staying_came c staying =
        staying_after _ _ (carry_lifted (with_world u) Stays c.effects staying.effects)
        (staying_answers (with_world u c.state) c.answer staying.state)

    staying_forks : AreStaying (forks u s)
    staying_forks =
        let came : AreStaying (came_by u s (fork_one (world_of u) s)) =
        staying_came (fork_one (world_of u) s) (staying_fork ts k s (world_of u) h) in
        record { effects = came.effects; unix = came.unix }

    staying_exits : (status : ℕ) → AreStaying (exits_with u s status)
    staying_exits status =
        let closed : Closing = closes_all u s in
        let now : Unix = with_handed u s closed.state in
        let c : Comes = end_proc (world_of now) s status in
        let came : IsStaying ts k c = staying_end ts k s (world_of now) status h in
        record {
          effects = carry_both Stays (map Show (in_order closed.items)) _ (carry_shown Stays (in_order closed.items))
              (carry_lifted (with_world now) Stays c.effects came.effects);
          unix = came.state;
        }

    staying_grows : (c : Comes) → IsStaying ts k c → AreStaying (grows u c)
    staying_grows c staying =
        record { effects = carry_lifted (with_world u) Stays c.effects staying.effects; unix = staying.state }

    staying_grown_by : (o : Option Comes) → MatchOption o ⊤ (IsStaying ts k) → AreStaying (grown_by u s o)
    staying_grown_by None staying = staying_signals u SIGSEG h
    staying_grown_by (Some c) staying = staying_grows c staying

  -- A signal is delivered: it is caught, or the process ends and leaves its text.
  module _ (u : Unix) (h : Stays u) where
    staying_catches : (sig : ℕ) → AreStaying (catches u s sig)
    staying_catches sig =
        let sp : ℕ = signal_stack (process_of u s).u in
        let c : Comes = grown_or_not (world_of u) s (grow (world_of u) s sp) in
        let grown : AreStaying (grows u c) = staying_grows u h c (staying_grown ts k s (world_of u) sp h) in
        record { effects = grown.effects; unix = grown.unix }

    staying_ends_by : (sig : ℕ) → AreStaying (ends_by u s sig)
    staying_ends_by sig =
        let core : Did = core_file (handed_of u (process_of u s)) u.clock.time in
        staying_if (makes_core sig) _ _
        (staying_exits (with_handed u s core.state) h (signal_status u s sig + (if is_written core.answer then dumped else 0)))
        (staying_exits u h (signal_status u s sig))

  staying_delivers : (u : Unix) → Stays u → (o : Option ℕ) → AreStaying (delivers_if u s o)
  staying_delivers u h None = staying_quiet u ending.Trapped h
  staying_delivers u h (Some sig) =
      staying_if (handler_of (process_of u s).u sig == 0) _ _ (staying_ends_by (heeds u s) h sig)
      (staying_catches (heeds u s) h sig)

  staying_due : (u : Unix) → Stays u → AreStaying (delivers_due u s)
  unfolding delivers_due
  staying_due u h = staying_delivers u h (due (process_of u s).row (process_of u s).u)

  -- The turn ends.
  after_ends : (b : Board) (steps : Steps) (e : Ending) → StaysAfter b steps → StaysAfter b (ends_by_ending s steps e)
  after_ends b steps ending.Next begun = begun
  after_ends b steps ending.Trapped begun =
      let next : Steps = delivers_due steps.unix s in
      leaves_then Stays k b steps.effects next.effects steps.unix next.unix begun (λ h.
      let due : AreStaying next = staying_due steps.unix h in (due.effects, due.unix))
  after_ends b steps (ending.Slept pri chan) begun = begun
  after_ends b steps ending.Ended begun = begun
  after_ends b steps (ending.Panic kind) begun = begun

  module _ (b : Board) where
    abbrev IsIn : Unix → Type 0
    IsIn u = IsAt ts k s b u.texts u.processes

    -- each slot keeps its place
    put_in : (u : Unix) (o : Option Process) → IsIn u → IsAt ts k s b u.texts (set u.processes s o)
    put_in u o is = record {
      users = is.users;
      forty = is.forty;
      low = subst (λ n. s < n) (sym (length-set u.processes s o)) is.low;
      stays = is.stays;
    }

    module _ (u : Unix) (is : IsIn u) where
      after_row : (call : ProcessCall) (args : List ℕ) → StaysAfter b (came_by u s (process_row call (mounts_of u) (world_of u) s args))
      after_row process.Exec a =
          let c : Comes = process_row process.Exec (mounts_of u) (world_of u) s a in
          let now : Unix = with_world u c.state in
          exec_goes ts k s u (mounts_of u) b (world_of u) _ _ is (answers now s c.answer).effects (answers now s c.answer).unix
          (carry_answers now c.answer) (answered_texts now c.answer)
      after_row process.Break a =
          after_steps b _ (staying_came u is.stays _ (staying_break ts k s (world_of u) _ is.stays))
      after_row process.Kill a =
          after_steps b _ (staying_came u is.stays _ (staying_kill ts k s (world_of u) _ is.stays))
      after_row call a =
          after_steps b _ (staying_came u is.stays _
          (staying_plain ts k s (world_of u) _ (plain_row call tt (mounts_of u) s (world_of u) a) is.stays))

      after_refused : (n : ℕ) → StaysAfter b (refuses u s n)
      after_refused n = after_steps b _
          (staying_if (nat_lt n 100) _ _ (staying_quiet (with_area u s (refused_area n)) ending.Trapped is.stays)
          (staying_signals u SIGSYS is.stays))

      after_timed : (has_read : Bool) (steps : Steps) → StaysAfter b steps → StaysAfter b (takes_time has_read s steps)
      after_timed has_read steps h = by (has_read && not (steps.unix.timing.disk == 0))
        where
          left : (o : Option (Stop Unix)) → Stays (left_by o steps.unix) → Stays (left_by o (waits_for_disk steps.unix s))
          left None h = h
          left (Some stop) h = h

          by : (x : Bool)
              → StaysAfter b (if x then record steps { unix = waits_for_disk steps.unix s; ending = ending.Slept pribio (Disk s) } else steps)
          by true = λ none. left (logged b steps.effects).stop (h none)
          by false = h

      after_call : (call : SystemCall) (args : List ℕ) → StaysAfter b (does_call u s call args)
      after_call Indirect a = after_steps b _ (staying_quiet u ending.Trapped is.stays)
      after_call Exit a = after_steps b _ (staying_exits u is.stays (exit_status (process_of u s)))
      after_call Fork a = after_steps b _ (staying_forks u is.stays)
      after_call Unknown a = after_refused (error_number ENOSYS)
      after_call (OnFiles call) a =
          let did : Did = file_row call (handed_of u (process_of u s)) s a u.clock.time in
          after_timed (reads_disk call (handed_of u (process_of u s)) did.answer) (did_by u s did) (after_steps b _ (staying_did u is.stays did))
      after_call (OnProcesses call) a =
          let c : Comes = process_row call (mounts_of u) (world_of u) s a in
          after_timed (loads_program call c.answer) (came_by u s c) (after_row call a)

    module _ (u : Unix) (is : IsIn u) where
      after_asked : (a : Asked) (entry : Sysent) → StaysAfter b (does_asked u s a entry)
      after_asked a entry =
          after_call (with_area u s (entered_area (words_passed a entry.count))) (put_in u _ is) entry.call a.args

      after_signal : (n : ℕ) → StaysAfter b (signals u s n)
      after_signal n = after_steps b _ (staying_signals u n is.stays)

      after_fault : (kind : Kind) → StaysAfter b (faults u s kind)
      after_fault kind.Odd = after_signal SIGBUS
      after_fault (kind.Segment sp) =
          after_steps b _ (staying_grown_by u is.stays (grow (world_of u) s sp) (staying_grow ts k s (world_of u) sp is.stays))
      after_fault (kind.Illegal word) =
          after_steps b _
          (staying_if (passes_setd u s word) _ _ (staying_quiet u ending.Trapped is.stays) (staying_signals u SIGINS is.stays))
      after_fault kind.Bpt = after_signal SIGTRC
      after_fault kind.Iot = after_signal SIGIOT
      after_fault kind.Emt = after_signal SIGEMT

      after_outcome : (o : Outcome) → StaysAfter b (comes_to u s o)
      after_outcome Next = after_steps b _ (staying_quiet u ending.Next is.stays)
      after_outcome (Call number) =
          let p : Process = process_of u s in
          let a : Asked = asked (image_of u.texts p) (register p 7) number in
          after_asked a (sysent_of a.number)
      after_outcome (Fault kind) = after_fault kind

    module _ (u : Unix) (is : IsIn u) where
      after_instruction : StaysAfter b (instruction u s)
      after_instruction =
          let p : Process = process_of u s in
          let stepped : Stepped = instr (machine_of u.texts p) in
          after_outcome (with_process u s (with_machine p stepped.machine)) (put_in u _ is) stepped.outcome

      after_if : (x : Bool) (one two : Steps) → StaysAfter b one → StaysAfter b two → StaysAfter b (if x then one else two)
      after_if true one two h l = h
      after_if false one two h l = l

      after_resumed : StaysAfter b (resumed u s)
      after_resumed =
          after_if ((process_of u s).u.pending == DISK_WAIT) _ _
          (after_steps b _ (staying_quiet (with_process u s (awake (process_of u s))) ending.Trapped is.stays))
          (after_if (is_on_files (process_of u s).u.pending) _ _
          (after_steps b _ (staying_did u is.stays (resumes (handed_of u (process_of u s)) s u.clock.time)))
          (after_steps b _ (staying_came u is.stays (resume_proc (world_of u) s) (staying_resume ts k s (world_of u) is.stays))))

-- What happens in an event, before the kernel settles.
module _ (m : System) (k : ℕ) where
  abbrev before : List (Option Text)
  before = m.unix.texts

  abbrev HasStayed : Unix → Type 0
  HasStayed u = TextStays before u.texts k

  stays_turn : (s : ℕ) → IsAt before k s m.board before m.unix.processes
      → list_any (is_made_by k) (turn_of m s (turn m s)).log.items ≡ false → HasStayed (turn_of m s (turn m s)).unix
  stays_turn s is =
      let u : Unix = m.unix in
      let begun : Leaves HasStayed k m.board (begins_turn m s).effects (begins_turn m s).unix =
      after_if before k s m.board u is (is_user (process_of u s)) _ _
      (after_instruction before k s m.board u is) (after_resumed before k s m.board u is) in
      let done : Steps = turn m s in
      leaves_then HasStayed k m.board done.effects (end_effects s done.ending) done.unix done.unix
      (after_ends before k s m.board (begins_turn m s) (begins_turn m s).ending begun)
      (λ h. (carry_end HasStayed s done.ending, h))

  -- a pass of the swapper changes no text
  stays_pass : HasStayed (pass_of m).unix
  stays_pass = by (pass m.board).stop
    where
      by : (o : Option (Stop (Unit {0}))) → HasStayed (left_by (stop_over m.unix o) m.unix)
      by None = stays_same before k
      by (Some stop) = stays_same before k

  stays_slot : AreTexts m → (o : Option ℕ) → m.board.table.running ≡ o
      → list_any (is_made_by k) (slot_of m o).log.items ≡ false → HasStayed (slot_of m o).unix
  stays_slot are None runs none = stays_same before k
  stays_slot are (Some zero) runs none = stays_pass
  stays_slot are (Some (suc s)) runs none = stays_turn (suc s) (record {
    users = are.users;
    forty = are.forty;
    low = are.low s runs;
    stays = stays_same before k;
  }) none

  charged_texts : (mode : Mode) (o : Option ℕ) → (charged m.unix mode o).texts ≡ before
  charged_texts mode None = refl
  charged_texts mode (Some s) = by (s == 0)
    where
      by : (b : Bool) → (if b then m.unix else with_process m.unix s (timed mode (process_of m.unix s))).texts ≡ before
      by true = refl
      by false = refl

  stays_ticked : HasStayed (ticked m)
  stays_ticked = subst (λ l. TextStays before l k) (sym (charged_texts (mode_of m) m.board.table.running)) (stays_same before k)

  staying_tick : AllCarry HasStayed (tick_delivery m).effects × HasStayed (tick_delivery m).unix
  staying_tick = by (is_as_trap m) m.board.table.running
    where
      by : (b : Bool) (o : Option ℕ) → AllCarry HasStayed (if b then delivers_to (ticked m) o else returns (ticked m)).effects
          × HasStayed (if b then delivers_to (ticked m) o else returns (ticked m)).unix
      by false o = (tt, stays_ticked)
      by true None = (tt, stays_ticked)
      by true (Some s) =
          let h : AreStaying before k s (delivers_due (ticked m) s) = staying_due before k s (ticked m) stays_ticked in
          (h.effects, h.unix)

  stays_tick : HasStayed (tick_of m).unix
  stays_tick =
      let s : Steps = tick_delivery m in
      left_carried HasStayed m.board (tick_effects m ++ s.effects) s.unix
      (carry_both HasStayed (tick_effects m) s.effects (carry_tick HasStayed m) staying_tick.0) staying_tick.1

  -- a key that sends a signal
  stays_key : (l : ℕ) (key : Keyed) (u : Unix) → u.texts ≡ before → HasStayed (with_key l key u)
  stays_key l key u same = subst (λ ts. TextStays before ts k) (sym (by key ∙ same)) (stays_same before k)
    where
      by : (key : Keyed) → (with_key l key u).texts ≡ u.texts
      by Nothing = refl
      by Ready = refl
      by (Flushed show) = refl
      by (Signal n show) = refl

  stays_typed : (l byte : ℕ) → HasStayed (typed_of m l byte).unix
  stays_typed l byte =
      let t : Typed = typed (terminal_at m.unix l) byte in
      let shown : List Item = sent l t.shown ++ key_lines l t.keyed m.unix in
      let keys : List (Effect Unix) = wakes (calls t.keyed) (keys_of l) in
      let room : List (Effect Unix) = wakes (calls_show t.keyed) (show_of l) in
      left_carried HasStayed m.board (map Show shown ++ (keys ++ room)) (with_key l t.keyed (with_terminal m.unix l t.terminal))
      (carry_both HasStayed (map Show shown) (keys ++ room) (carry_shown HasStayed shown)
      (carry_both HasStayed keys room (carry_wakes HasStayed (calls t.keyed) (keys_of l)) (carry_wakes HasStayed (calls_show t.keyed) (show_of l))))
      (stays_key l t.keyed (with_terminal m.unix l t.terminal) refl)

  stays_hangup : (l : ℕ) → HasStayed (hangup_of m l).unix
  stays_hangup l = by (terminal_at m.unix l).is_open
    where
      s : Said
      s = flush (terminal_at m.unix l)

      shown : List Item
      shown = signal_lines SIGHUP (meant_in (has_line l) m.unix.processes) ++ told l s

      by : (b : Bool) → HasStayed (cond b (hangs_up m l) (happens m.unix (nothing_logged m.board))).unix
      by true =
          left_carried HasStayed m.board (map Show shown)
          (record (with_terminal m.unix l s.terminal) { processes = all_signalled (has_line l) SIGHUP m.unix.processes })
          (carry_shown HasStayed shown) (stays_same before k)
      by false = stays_same before k

  stays_paced : (n : ℕ) → HasStayed (paced_of m n).unix
  stays_paced n =
      let all : AllTold = each_line (turned_to (not (n == 0))) m.unix.lines in
      left_carried HasStayed m.board (map Show all.items)
      (record m.unix { lines = all.lines; timing = record m.unix.timing { pace = n; since = 0 } })
      (carry_shown HasStayed all.items) (stays_same before k)

-- Settling adds lines and leaves the Unix as it is.
settled_items : (h : Happened) (test : Item → Bool) → list_any test (settled_after h).items ≡ false
    → list_any test h.log.items ≡ false
settled_items h test = by (calls_for_settling h)
  where
    by : (b : Bool) → list_any test (cond b (settling h) (stays h)).items ≡ false → list_any test h.log.items ≡ false
    by true none = first_false (list_any test h.log.items) (list_any test (settled h.log.board).items)
        (sym (list_any-append test h.log.items (settled h.log.board).items) ∙ none)
    by false none = none

-- The law, event by event: at the start,
pub start_stays : (m : System) → AllTextsStay m (start_of m).next
start_stays m k =
    subst (λ (u : Unix). TextStays m.unix.texts u.texts k) (sym (settled_unix (pass_of m))) (stays_pass m k)

-- by a slot,
pub slot_stays : (m : System) → AreTexts m → OtherTextsStay m (event_of Slot m).items (event_of Slot m).next
slot_stays m are k none =
    let o : Option ℕ = m.board.table.running in
    subst (λ (u : Unix). TextStays m.unix.texts u.texts k) (sym (settled_unix (whole_slot m)))
    (subst (λ ts. TextStays m.unix.texts ts k)
    (sym (after_keeps (List (Option Text)) (λ (u : Unix). u.texts) (λ u. refl) (λ u lines. refl) (slot_of m o)))
    (stays_slot m k are o refl (after_items_none (is_made_by k) (slot_of m o) (settled_items (whole_slot m) (is_made_by k) none))))

-- a tick, a key and the switches.
pub tick_stays : (m : System) → AllTextsStay m (event_of Tick m).next
tick_stays m k = subst (λ (u : Unix). TextStays m.unix.texts u.texts k) (sym (settled_unix (tick_of m))) (stays_tick m k)

pub typed_stays : (m : System) (l byte : ℕ) → AllTextsStay m (event_of (Byte l byte) m).next
typed_stays m l byte k =
    subst (λ (u : Unix). TextStays m.unix.texts u.texts k) (sym (settled_unix (typed_of m l byte))) (stays_typed m k l byte)

pub hangup_stays : (m : System) (l : ℕ) → AllTextsStay m (event_of (Hangup l) m).next
hangup_stays m l k =
    subst (λ (u : Unix). TextStays m.unix.texts u.texts k) (sym (settled_unix (hangup_of m l))) (stays_hangup m k l)

pub pace_stays : (m : System) (n : ℕ) → AllTextsStay m (event_of (Pace n) m).next
pace_stays m n k =
    subst (λ (u : Unix). TextStays m.unix.texts u.texts k) (sym (settled_unix (paced_of m n))) (stays_paced m k n)

pub switched_stays : (m : System) (word : ℕ) → AllTextsStay m (event_of (Switch word) m).next
switched_stays m word k = stays_same m.unix.texts k

pub disk_stays : (m : System) (count : ℕ) → AllTextsStay m (event_of (Disk count) m).next
disk_stays m count k = stays_same m.unix.texts k

-- A kernel that has been started stands so.
module _ (at : Stage) (w : World) (started : phase_of at ≡ Started) (kernel : IsKernel at w) (holds : IsKept w.procs.images.kept) where
  are_texts : AreTexts (system_at w)
  are_texts =
      let good : IsGood w = kernel_good at w started kernel in
      record {
        users = same_users w.procs.images.kept.texts;
        forty = forty w.procs.images.kept holds;
        low = λ s runs. subst (λ n. suc s < n) (sym (fifty_processes w.procs.rows.slots w.procs.images.kept))
            (runs_low w (suc s) good.agree runs);
      }

  pub turned_stays : (m n : System) → system_at w ≡ m → n ≡ (event_of Slot m).next → OtherTextsStay m (event_of Slot m).items n
  turned_stays m n same next = subst (λ (x : System). OtherTextsStay m (event_of Slot m).items x) (sym next)
      (slot_stays m (subst AreTexts same are_texts))
