-- While nothing is covered, each demand for a place in a turn of a process comes where the second disk's store is what it was: so it is
-- where the turn ends in a panic.
use Rattle.std.proofs.Common.{◌≡◌, ◌≤◌, ◌∙◌, ◌+◌, ◌==◌, ◌&&◌, ◌++◌, not, ℕ, nat_lt, Bool, true, false, cond, List, [], ◌∷◌, length, map, slice_index, Option, Some, None, is_none, option_map, Result, Ok, Err, refl, sym, ap, subst}
use Rattle.std.specs.List.{All}
use Rattle.v6_base.specs.declared.answer.Answer.{Answer}
use Rattle.v6_base.specs.declared.answer.Answer.TheVariants.{Ret, Fail, Sleep}
use Rattle.v6_base.specs.declared.entry.Chan.TheVariants.{Disk}
use Rattle.v6_base.specs.declared.entry.Entry.TheVariants.{Bare}
use Rattle.v6_base.specs.declared.errno.Errno.{Errno}
use Rattle.v6_base.specs.declared.errno.Errno.TheVariants.{ENOMEM, ENOSYS}
use Rattle.pick_rules.specs.Effects as effect
use Rattle.pick_rules.specs.Effects.{Show, lifted}
use Rattle.pick_rules.specs.Priority.{pribio}
use Rattle.pdp_step.specs.declared.outcome.Kind.{Kind}
use Rattle.pdp_step.specs.declared.outcome.Kind.TheVariants as kind
use Rattle.pdp_step.specs.declared.outcome.Outcome.{Outcome}
use Rattle.pdp_step.specs.declared.outcome.Outcome.TheVariants as outcome
use Rattle.pdp_step.specs.Instruction.{Stepped, instr}
use Rattle.sig_core.specs.declared.numbers.TheConstants.{SIGSEG, SIGSYS, SIGINS, SIGTRC, SIGIOT, SIGEMT, SIGBUS}
use Rattle.sig_core.specs.Signals as signal
use Rattle.sig_core.specs.Delivery.{makes_core, signal_stack}
use Rattle.u_area.specs.declared.area.UArea.{UArea}
use Rattle.u_area.specs.declared.layout.TheConstants.{DISK_WAIT}
use Rattle.u_area.specs.Pending.{is_on_files}
use Rattle.fs_codec.specs.Store.{Store}
use Rattle.fs_nodes.specs.Disks.{Disks, OfSecond}
use Rattle.fs_nodes.specs.Keys.{Stores, device_of}
use Rattle.mount_tab.specs.Mounted.{MountTable}
use Rattle.seg_regs.specs.Sizes.{is_refused}
use Rattle.proc_tab.specs.Processes.{lowest}
use Rattle.sys_files.specs.Handed.{Handed}
use Rattle.sys_files.specs.Did.{Did}
use Rattle.sys_files.specs.Core.{core_file, is_written}
use Rattle.sys_files.specs.Descriptors.{Closing}
use Rattle.sys_files.specs.Moving.{resumes}
use Rattle.sys_files.proofs.OtherWalks.{IsOn, on_root}
use Rattle.sys_procs.specs.declared.program.Program.{Program}
use Rattle.sys_procs.specs.Process.{Process, register, image_of}
use Rattle.sys_procs.specs.World as world
use Rattle.sys_procs.specs.World.{World, change, without_process, members}
use Rattle.sys_procs.specs.Comes.{Comes, fails, does, logs}
use Rattle.sys_procs.specs.Break.{clicks_up_to, expands, grown_stack, grow, grown_or_not, break_at}
use Rattle.sys_procs.specs.ExecFile as exec
use Rattle.sys_procs.specs.Exit.{exit_status, leaves, dies, end_proc}
use Rattle.sys_procs.specs.Fork.{fork_into, fork_one}
use Rattle.sys_procs.specs.Frame.{exec_named}
use Rattle.sys_procs.specs.Resume.{awake, resume_proc}
use Rattle.sys_procs.specs.Signals.{signal_lines, meant_in, is_reached, kill_to}
use Rattle.sys_procs.specs.TextTable.{text_of, entry_of}
use Rattle.sys_procs.specs.Texts.{leaves_text, is_sticky, xalloc_by, xfree}
use Rattle.abstract_unix.specs.declared.asked.Asked.{Asked}
use Rattle.abstract_unix.specs.declared.calls.ProcessCall.{ProcessCall}
use Rattle.abstract_unix.specs.declared.calls.ProcessCall.TheVariants as process
use Rattle.abstract_unix.specs.declared.calls.SystemCall.{SystemCall}
use Rattle.abstract_unix.specs.declared.calls.SystemCall.TheVariants.{Indirect, Exit, Fork, Unknown, OnFiles, OnProcesses}
use Rattle.abstract_unix.specs.declared.calls.Sysent.{Sysent}
use Rattle.abstract_unix.specs.declared.ending.Ending.{Ending}
use Rattle.abstract_unix.specs.declared.ending.Ending.TheVariants as ending
use Rattle.abstract_unix.specs.Unix.{Unix, System, process_of, with_process, mounts_of}
use Rattle.abstract_unix.specs.Errors.{error_number}
use Rattle.abstract_unix.specs.Steps.{Steps, returns, signals}
use Rattle.abstract_unix.specs.Calls.{handed_of, with_handed, world_of, with_world, entered_area, words_passed, with_area, refused_area, refuses, answers, in_order, did_by, came_by, grows, grown_by, grows_to, closes_all, exits_with, asked, file_row, process_row, reads_disk, loads_program, waits_for_disk, takes_time, does_call, sysent_of, does_asked, resumed}
use Rattle.abstract_unix.specs.Turn.{machine_of, with_machine, faults, comes_to, instruction, is_user, passes_setd, begins_turn, turn, end_effects, turn_of}
use Rattle.abstract_unix.specs.Delivery.{heeding, heeds, catches, signal_status, dumped, ends_after, ends_by, delivers_if, delivers_due, ends_by_ending}
use Rattle.abstract_unix.proofs.Carried.{AllCarry, shown_carry, append_carry, more_carry, none_carry, left_carried, lifted_carry}
use Rattle.abstract_unix.proofs.OtherProcs.{IsFar, HasTested, tests_far, tested_text, left_far, ended_far}
use Rattle.abstract_unix.proofs.ProcessRows as rows
use Rattle.abstract_unix.proofs.ProcessRows.{Plain, plain_row, resume_plain}
use Rattle.abstract_unix.proofs.RootNames.{exec_on}
use Rattle.abstract_unix.proofs.RootTurns.{OnRoot, on_put, on_begun, on_turn, closes_on, cores_on}
use Rattle.abstract_unix.proofs.RootWalks.{closed_mounts, core_mounts}
use Rattle.abstract_unix.proofs.RootWorlds.{IsBased, its}
use Rattle.abstract_unix.proofs.TidyTurns.{Runs}

-- A call on processes.
module _ (base : Stores) (s : ℕ) where
  abbrev Kept : World → Type 0
  Kept w = w.inodes.store.second ≡ base.second

  abbrev Told : Comes → Type 0
  Told c = AllCarry Kept c.effects

  told_if : (b : Bool) (x y : Comes) → Told x → Told y → Told (cond b x y)
  told_if true x y p q = p
  told_if false x y p q = q

  plain_told : (v : World) (c : Comes) → Plain s v c → Told c
  plain_told v c (rows.gives w r0 r1) = tt
  plain_told v c (rows.refuses w e) = tt
  plain_told v c (rows.waits w rule pri chan same sleeping is range) = tt
  plain_told v c (rows.changes w rule d same pending rest) = plain_told (change w s rule) c rest
  plain_told v c (rows.due w tout d rest) = plain_told _ c rest
  plain_told v c (rows.nice w value d range rest) = (tt, plain_told w d rest)
  plain_told v c (rows.wakes w chan d range rest) = (tt, plain_told w d rest)
  plain_told v c (rows.dated w time d range rest) = (tt, plain_told _ d rest)
  plain_told v c (rows.buries w d e grave rest) = (tt, plain_told (without_process w d) e rest)

  kill_told : (v : World) (n : ℕ) → Told (kill_to v s n)
  unfolding kill_to
  kill_told v n =
      let slots : List ℕ = meant_in (is_reached s (world.process_of v s)) v.processes in
      told_if (length slots == 0) _ _ tt (append_carry Kept (map Show (signal_lines n slots)) [] (shown_carry Kept (signal_lines n slots)) tt)

  break_told : (v : World) (at : ℕ) → Kept v → Told (break_at v s at)
  unfolding break_at
  break_told v at k =
      let p : Process = world.process_of v s in
      let d : ℕ = clicks_up_to p.u.text_size at in
      told_if (is_refused p.u.text_size d p.u.stack_size v.limit) (fails v ENOMEM) (expands v s d p.u.stack_size) tt (k, tt)

  fork_told : (w : World) → Kept w → Told (fork_one w s)
  unfolding fork_one
  fork_told w k = by (lowest is_none (members w))
    where
      by : (o : Option ℕ) → Told (fork_into w s o)
      by None = tt
      by (Some child) = (k, tt)

  -- exec: the new program comes
  abbrev goes_on : Program → UArea → World → Bool → Comes
  goes_on program u placed new =
      does (effect.Image s (exec.image_clicks program.plan) placed)
      (exec.executes (exec.reads_text new placed s program) s u program)

  alloc_told : (v : World) (u : UArea) (program : Program) (o : Option ℕ) → Kept v
      → Told (xalloc_by v s program.ino program.text_clicks o (goes_on program u))
  alloc_told v u program (Some e) k = (tt, (k, tt))
  alloc_told v u program None k = (k, (k, tt))

  begins_told : (v : World) (u : UArea) (program : Program) → Kept v → Told (exec.begins_anew v s u program)
  begins_told v u program k =
      told_if (program.text_clicks == 0) (goes_on program u v false)
      (xalloc_by v s program.ino program.text_clicks (entry_of v.texts program.ino) (goes_on program u))
      (k, tt) (alloc_told v u program (entry_of v.texts program.ino) k)

  bare_told : (left : World) (program : Program) → Kept left
      → Told (logs (Bare s) (exec.begins_anew (change left s exec.bared) s (world.process_of left s).u program))
  bare_told left program k = (tt, begins_told (change left s exec.bared) (world.process_of left s).u program k)

  -- over a world in which the files of all texts are on the root's disk
  module _ (w : World) (same : Kept w) where
    abbrev Far : World → Type 0
    Far v = IsFar (λ (stores : Stores). stores.second) 0 on_root w s v

    abbrev On : ℕ → Type 0
    On key = IsOn 0 w.inodes.store key

    loads_told : (v : World) (program : Program) → ((k : ℕ) → (world.process_of v s).text ≡ Some k → On (text_of v.texts k).ino) → Far v
        → Told (exec.loads v s program)
    loads_told v program text far = by (world.process_of v s).text refl
      where
        by : (o : Option ℕ) → (world.process_of v s).text ≡ o → Told (xfree v s o
            (λ left. logs (Bare s) (exec.begins_anew (change left s exec.bared) s (world.process_of left s).u program)))
        by None is = bare_told v program (far.same ∙ same)
        by (Some e) is =
            let left : Far (leaves_text v s e (is_sticky v e)) =
            left_far (λ (stores : Stores). stores.second) 0 on_root w s v e (is_sticky v e) (text e is) far in
            (tt, bare_told (leaves_text v s e (is_sticky v e)) program (left.same ∙ same))

    module _ (text : (k : ℕ) → (world.process_of w s).text ≡ Some k → On (text_of w.texts k).ino) where
      exec_told : (mounts : MountTable) (name list : ℕ) → All On (exec_named mounts w s name) → Told (exec.exec_file mounts w s name list)
      unfolding exec.exec_file
      exec_told mounts name list named = by t.answer
        where
          t : exec.Tested
          t = exec.tests mounts w s name list

          tested : HasTested (λ (stores : Stores). stores.second) 0 on_root w s t
          tested = tests_far (λ (stores : Stores). stores.second) 0 on_root w s mounts name list named

          by : (r : Result Program Errno) → Told (exec.done_by t.world s r)
          by (Ok program) =
              loads_told t.world program (tested_text (λ (stores : Stores). stores.second) 0 on_root w s mounts name list named text) tested.far
          by (Err e) = tt

      -- the end of a process
      end_told : (status : ℕ) → On (world.process_of w s).u.dir → Told (end_proc w s status)
      unfolding end_proc
      end_told status here =
          by (world.process_of w s).text (ended_far (λ (stores : Stores). stores.second) 0 on_root w s status here text)
        where
          left : World
          left = leaves w s status

          by : (o : Option ℕ) → Far (xfree left s o (λ now. dies now s)).state → Told (xfree left s o (λ now. dies now s))
          by None far = (far.same ∙ same, (tt, (tt, tt)))
          by (Some e) far = (tt, (far.same ∙ same, (tt, (tt, tt))))

  module _ (one : 1 ≤ base.root.count) (mounts : MountTable) (none : mounts.covered ≡ None) (w : World)
      (first : mounts.first ≡ w.inodes.store.root.count) (b : IsBased base w.inodes.store w.processes w.texts)
    where
      text_there : (k : ℕ) → (world.process_of w s).text ≡ Some k → IsOn 0 w.inodes.store (text_of w.texts k).ino
      text_there k is = its base s w (text_of w.texts k).ino b (b.held.texts k)

      named : (name : ℕ) → All (λ key. device_of w.inodes.store key ≡ 0) (exec_named mounts w s name)
      named name =
          exec_on mounts w s name first (subst (λ n. 1 ≤ n) (sym (ap (λ (c : Disks ℕ). c.root) b.counts)) one) none
          (its base s w (world.process_of w s).u.dir b (b.held.dirs s))

      process_told : (call : ProcessCall) (a : List ℕ) → Told (process_row call mounts w s a)
      process_told process.Exec a = exec_told w b.second text_there mounts (slice_index a 0) (slice_index a 1) (named (slice_index a 0))
      process_told process.Break a = break_told w (slice_index a 0) b.second
      process_told process.Kill a = kill_told w (slice_index a 0)
      process_told call a = plain_told w (process_row call mounts w s a) (plain_row call tt mounts s w a)

-- Where nothing is covered, the second store is that of others.
abbrev pub Rests : Stores → Unix → Type 0
Rests base u = u.covered ≡ None → u.store.second ≡ base.second

module _ (base : Stores) (one : 1 ≤ base.root.count) (clean : OfSecond (λ (x : Store). x.mark ≡ false) base.second) (s : ℕ) where
  abbrev Carried : Steps → Type 0
  Carried steps = AllCarry (Rests base) steps.effects

  carried_if : (b : Bool) (x y : Steps) → Carried x → Carried y → Carried (cond b x y)
  carried_if true x y p q = p
  carried_if false x y p q = q

  signals_carry : (u : Unix) (n : ℕ) → Carried (signals u s n)
  signals_carry u n = shown_carry (Rests base) (signal_lines n (s ∷ []))

  refuses_carry : (u : Unix) (n : ℕ) → Carried (refuses u s n)
  refuses_carry u n = carried_if (nat_lt n 100) (returns (with_area u s (refused_area n))) (signals u s SIGSYS) tt (signals_carry u SIGSYS)

  answers_carry : (u : Unix) (answer : Answer) → Carried (answers u s answer)
  answers_carry u (Ret r0 r1) = tt
  answers_carry u (Fail e) = refuses_carry u (error_number e)
  answers_carry u (Sleep pri chan) = tt

  did_carry : (u : Unix) (did : Did) → Carried (did_by u s did)
  did_carry u did =
      append_carry (Rests base) (map Show (in_order did.items)) (answers (with_handed u s did.state) s did.answer).effects
      (shown_carry (Rests base) (in_order did.items)) (answers_carry (with_handed u s did.state) did.answer)

  came_carry : (u : Unix) (c : Comes) → AllCarry (Kept base s) c.effects → Carried (came_by u s c)
  came_carry u c told =
      append_carry (Rests base) (map (lifted (with_world u)) c.effects) (answers (with_world u c.state) s c.answer).effects
      (lifted_carry (Rests base) (with_world u) c.effects
      (more_carry (Kept base s) (λ w. Rests base (with_world u w)) (λ w k n. k) c.effects told))
      (answers_carry (with_world u c.state) c.answer)

  exits_carry : (u : Unix) (status : ℕ) → (u.covered ≡ None → OnRoot base u) → Carried (exits_with u s status)
  exits_carry u status r =
      append_carry (Rests base) (map Show (in_order closed.items)) (map (lifted (with_world now)) c.effects)
      (shown_carry (Rests base) (in_order closed.items))
      (lifted_carry (Rests base) (with_world now) c.effects (none_carry (Kept base s) now.covered c.effects told))
    where
      closed : Closing
      closed = closes_all u s

      now : Unix
      now = with_handed u s closed.state

      c : Comes
      c = end_proc (world_of now) s status

      told : now.covered ≡ None → AllCarry (Kept base s) c.effects
      told none =
          let before : u.covered ≡ None = sym (ap (λ (m : MountTable). m.covered) (closed_mounts (handed_of u (process_of u s)))) ∙ none in
          let b : OnRoot base now = closes_on base one clean s u (r before) in
          let w : World = world_of now in
          end_told base s w b.world.second (λ k is. its base s w (text_of w.texts k).ino b.world (b.world.held.texts k)) status
          (its base s w (world.process_of w s).u.dir b.world (b.world.held.dirs s))

  -- growth
  grows_carry : (u : Unix) (sp : ℕ) → Rests base u → Carried (grows_to u s sp)
  unfolding grow
  grows_carry u sp rests = by (grown_stack p.u.text_size p.u.data_size p.u.stack_size u.limit sp)
    where
      p : Process
      p = process_of u s

      by : (o : Option ℕ) → Carried (grown_by u s (option_map (expands (world_of u) s p.u.data_size) o))
      by None = signals_carry u SIGSEG
      by (Some n) = (rests, tt)

  grown_carry : (u : Unix) (sp : ℕ) → Rests base u → Carried (grows u (grown_or_not (world_of u) s (grow (world_of u) s sp)))
  unfolding grow
  grown_carry u sp rests = by (grown_stack p.u.text_size p.u.data_size p.u.stack_size u.limit sp)
    where
      p : Process
      p = process_of u s

      by : (o : Option ℕ) → Carried (grows u (grown_or_not (world_of u) s (option_map (expands (world_of u) s p.u.data_size) o)))
      by None = tt
      by (Some n) = (rests, tt)

  timed_carry : (has_read : Bool) (steps : Steps) → Carried steps → Carried (takes_time has_read s steps)
  timed_carry has_read steps all = by (has_read && not (steps.unix.timing.disk == 0))
    where
      by : (b : Bool) → Carried (cond b (record steps { unix = waits_for_disk steps.unix s; ending = ending.Slept pribio (Disk s) }) steps)
      by true = all
      by false = all

  -- A call.
  call_carry : (u : Unix) (call : SystemCall) (args : List ℕ) → u.covered ≡ None → OnRoot base u → Carried (does_call u s call args)
  call_carry u Indirect args none r = tt
  call_carry u Exit args none r = exits_carry u (exit_status (process_of u s)) (λ n. r)
  call_carry u Fork args none r = came_carry u (fork_one (world_of u) s) (fork_told base s (world_of u) r.world.second)
  call_carry u Unknown args none r = refuses_carry u (error_number ENOSYS)
  call_carry u (OnFiles call) args none r =
      let h : Handed = handed_of u (process_of u s) in
      let did : Did = file_row call h s args u.clock.time in
      timed_carry (reads_disk call h did.answer) (did_by u s did) (did_carry u did)
  call_carry u (OnProcesses call) args none r =
      let c : Comes = process_row call (mounts_of u) (world_of u) s args in
      timed_carry (loads_program call c.answer) (came_by u s c)
      (came_carry u c (process_told base s one (mounts_of u) none (world_of u) refl r.world call args))

  asked_carry : (u : Unix) (a : Asked) (entry : Sysent) → u.covered ≡ None → OnRoot base u → Carried (does_asked u s a entry)
  asked_carry u a entry none r =
      let q : Process = record (process_of u s) { u = entered_area (words_passed a entry.count) (process_of u s).u } in
      call_carry (with_process u s q) entry.call a.args none (on_put base one clean s u q (r.world.held.dirs s) r)

  faults_carry : (u : Unix) (k : Kind) → Rests base u → Carried (faults u s k)
  faults_carry u kind.Odd rests = signals_carry u SIGBUS
  faults_carry u (kind.Segment sp) rests = grows_carry u sp rests
  faults_carry u (kind.Illegal word) rests = carried_if (passes_setd u s word) (returns u) (signals u s SIGINS) tt (signals_carry u SIGINS)
  faults_carry u kind.Bpt rests = signals_carry u SIGTRC
  faults_carry u kind.Iot rests = signals_carry u SIGIOT
  faults_carry u kind.Emt rests = signals_carry u SIGEMT

  outcome_carry : (u : Unix) (o : Outcome) → u.covered ≡ None → OnRoot base u → Carried (comes_to u s o)
  outcome_carry u outcome.Next none r = tt
  outcome_carry u (outcome.Call number) none r =
      let a : Asked = asked (image_of u.texts (process_of u s)) (register (process_of u s) 7) number in
      asked_carry u a (sysent_of a.number) none r
  outcome_carry u (outcome.Fault k) none r = faults_carry u k (λ n. r.world.second)

  resumed_carry : (u : Unix) → Carried (resumed u s)
  resumed_carry u = first ((process_of u s).u.pending == DISK_WAIT)
    where
      did : Did
      did = resumes (handed_of u (process_of u s)) s u.clock.time

      c : Comes
      c = resume_proc (world_of u) s

      by : (b : Bool) → Carried (cond b (did_by u s did) (came_by u s c))
      by true = did_carry u did
      by false = came_carry u c (plain_told base s (change (world_of u) s awake) c (resume_plain s (world_of u)))

      first : (b : Bool) → Carried (cond b (returns (with_process u s (awake (process_of u s))))
          (cond (is_on_files (process_of u s).u.pending) (did_by u s did) (came_by u s c)))
      first true = tt
      first false = by (is_on_files (process_of u s).u.pending)

  begun_carry : (m : System) → m.unix.covered ≡ None → OnRoot base m.unix → Carried (begins_turn m s)
  begun_carry m none r = by (is_user p)
    where
      p : Process
      p = process_of m.unix s

      step : Stepped
      step = instr (machine_of m.unix.texts p)

      by : (b : Bool) → Carried (cond b (instruction m.unix s) (resumed m.unix s))
      by true =
          outcome_carry (with_process m.unix s (with_machine p step.machine)) step.outcome none
          (on_put base one clean s m.unix (with_machine p step.machine) (r.world.held.dirs s) r)
      by false = resumed_carry m.unix

  -- A signal is delivered.
  ends_carry : (u : Unix) (sig : ℕ) → (u.covered ≡ None → OnRoot base u) → Carried (ends_by u s sig)
  ends_carry u sig r =
      let h : Handed = handed_of u (process_of u s) in
      let core : Did = core_file h u.clock.time in
      let same : core.state.mounts.covered ≡ u.covered = ap (λ (m : MountTable). m.covered) (core_mounts h u.clock.time) in
      carried_if (makes_core sig) (ends_after u s sig core) (exits_with u s (signal_status u s sig))
      (exits_carry (with_handed u s core.state) (signal_status u s sig + cond (is_written core.answer) dumped 0)
      (λ none. cores_on base one clean s u (sym same ∙ none) (r (sym same ∙ none))))
      (exits_carry u (signal_status u s sig) r)

  pub due_carry : (u : Unix) → (u.covered ≡ None → OnRoot base u) → Carried (delivers_due u s)
  unfolding delivers_due
  due_carry u r = by (signal.due (process_of u s).row (process_of u s).u)
    where
      now : u.covered ≡ None → OnRoot base (heeds u s)
      now none = on_put base one clean s u (heeding (process_of u s)) ((r none).world.held.dirs s) (r none)

      by : (o : Option ℕ) → Carried (delivers_if u s o)
      by None = tt
      by (Some sig) =
          carried_if (signal.handler_of (process_of u s).u sig == 0) (ends_by (heeds u s) s sig) (catches (heeds u s) s sig)
          (ends_carry (heeds u s) sig now)
          (grown_carry (heeds u s) (signal_stack (process_of (heeds u s) s).u) (λ none. (now none).world.second))

  -- the turn whole
  end_carry : (e : Ending) → AllCarry (Rests base) (end_effects s e)
  end_carry ending.Next = tt
  end_carry ending.Trapped = (tt, tt)
  end_carry (ending.Slept pri chan) = (tt, tt)
  end_carry ending.Ended = tt
  end_carry (ending.Panic kind) = tt

  turn_carry : (m : System) → m.unix.covered ≡ None → Runs s m.unix → OnRoot base m.unix → Carried (turn m s)
  turn_carry m none runs r = by steps.ending
    where
      steps : Steps
      steps = begins_turn m s

      begun : Carried steps
      begun = begun_carry m none r

      by : (e : Ending) → Carried (ends_by_ending s steps e)
      by ending.Next = begun
      by ending.Trapped =
          append_carry (Rests base) steps.effects (delivers_due steps.unix s).effects begun
          (due_carry steps.unix (λ n. on_begun base one clean s m none runs r))
      by (ending.Slept pri chan) = begun
      by ending.Ended = begun
      by (ending.Panic kind) = begun

  pub turn_rests : (m : System) → m.unix.covered ≡ None → Runs s m.unix → OnRoot base m.unix → Rests base (turn_of m s (turn m s)).unix
  turn_rests m none runs r =
      let steps : Steps = turn m s in
      left_carried (Rests base) m.board (steps.effects ++ end_effects s steps.ending) steps.unix
      (append_carry (Rests base) steps.effects (end_effects s steps.ending) (turn_carry m none runs r) (end_carry steps.ending))
      (λ c. (on_turn base one clean s m none runs r c).world.second)
