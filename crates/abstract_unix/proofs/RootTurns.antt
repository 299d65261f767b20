-- While nothing is covered, a turn of a process leaves the second disk's store, and all files, directories and texts on the root's disk.
use Rattle.std.proofs.Common.{◌≡◌, ◌≤◌, ◌∙◌, ◌==◌, ◌&&◌, ◌+◌, not, ℕ, Bool, true, false, cond, List, length, Option, Some, None, option_map, nat_lt, refl, sym, ap, subst}
use Rattle.std.specs.List.{range_with_len}
use Rattle.v6_base.specs.declared.answer.Answer.{Answer}
use Rattle.v6_base.specs.declared.answer.Answer.TheVariants.{Ret, Fail, Sleep}
use Rattle.v6_base.specs.declared.errno.Errno.TheVariants.{ENOSYS}
use Rattle.v6_base.specs.declared.entry.Chan.TheVariants.{Disk}
use Rattle.pick_rules.specs.Priority.{pribio}
use Rattle.pdp_step.specs.declared.outcome.Kind.{Kind}
use Rattle.pdp_step.specs.declared.outcome.Kind.TheVariants as kind
use Rattle.pdp_step.specs.declared.outcome.Outcome.{Outcome}
use Rattle.pdp_step.specs.declared.outcome.Outcome.TheVariants as outcome
use Rattle.pdp_step.specs.Instruction.{Stepped, instr}
use Rattle.sig_core.specs.declared.numbers.TheConstants.{SIGSEG, SIGSYS, SIGINS, SIGTRC, SIGIOT, SIGEMT, SIGBUS}
use Rattle.sig_core.specs.Signals.{handler_of, due}
use Rattle.sig_core.specs.Delivery.{makes_core, signal_stack}
use Rattle.u_area.specs.declared.layout.TheConstants.{DISK_WAIT}
use Rattle.u_area.specs.Pending.{is_on_files}
use Rattle.fs_codec.specs.Store.{Store}
use Rattle.fs_nodes.specs.Disks.{Disks, OfSecond}
use Rattle.fs_nodes.specs.Keys.{Stores}
use Rattle.mount_tab.specs.Mounted.{MountTable}
use Rattle.open_files.specs.declared.file.OpenFile.{OpenFile}
use Rattle.open_files.specs.Files.{file_at, changed, with_more, times, shared}
use Rattle.sys_files.specs.Handed.{Handed}
use Rattle.sys_files.specs.Did.{Did}
use Rattle.sys_files.specs.Core.{core_file, is_written}
use Rattle.sys_files.specs.Descriptors.{close_all}
use Rattle.sys_files.specs.Moving.{resumes}
use Rattle.sys_files.proofs.OtherWalks.{IsOn}
use Rattle.sys_procs.specs.Process.{Process, register, image_of}
use Rattle.sys_procs.specs.World.{World, change}
use Rattle.sys_procs.specs.Comes.{Comes}
use Rattle.sys_procs.specs.Signals.{signalled}
use Rattle.sys_procs.specs.Break.{sized, expands, grown_stack, grow, grown_or_not}
use Rattle.sys_procs.specs.Fork.{fork_one}
use Rattle.sys_procs.specs.Exit.{exit_status, end_proc}
use Rattle.sys_procs.specs.Resume.{awake, resume_proc}
use Rattle.abstract_unix.specs.declared.asked.Asked.{Asked}
use Rattle.abstract_unix.specs.declared.calls.SystemCall.{SystemCall}
use Rattle.abstract_unix.specs.declared.calls.SystemCall.TheVariants.{Indirect, Exit, Fork, Unknown, OnFiles, OnProcesses}
use Rattle.abstract_unix.specs.declared.calls.Sysent.{Sysent}
use Rattle.abstract_unix.specs.declared.ending.Ending.{Ending}
use Rattle.abstract_unix.specs.declared.ending.Ending.TheVariants as ending
use Rattle.abstract_unix.specs.Unix.{Unix, System, process_of, with_process, mounts_of}
use Rattle.abstract_unix.specs.Errors.{error_number}
use Rattle.abstract_unix.specs.Steps.{Steps, returns, signals}
use Rattle.abstract_unix.specs.Calls.{handed_of, with_handed, world_of, with_world, given_area, refused_area, entered_area, words_passed, with_area, refuses, answers, did_by, came_by, shares, forks, grows, grown_by, grows_to, exits_with, asked, file_row, process_row, reads_disk, loads_program, waiting_until, disk_end, waits_for_disk, takes_time, does_call, sysent_of, does_asked, resumed}
use Rattle.abstract_unix.specs.Turn.{machine_of, with_machine, faults, comes_to, instruction, is_user, passes_setd, begins_turn, turn}
use Rattle.abstract_unix.specs.Delivery.{heeding, heeds, catches, signal_status, dumped, ends_after, ends_by, delivers_if, delivers_due, ends_by_ending}
use Rattle.abstract_unix.proofs.PipeNumbers.{HavePipes}
use Rattle.abstract_unix.proofs.Tidy.{tidy_can}
use Rattle.abstract_unix.proofs.TidyTurns.{Runs}
use Rattle.abstract_unix.proofs.TidySteps.{delivered_held}
use Rattle.abstract_unix.proofs.RootWalks.{each_set, each_of, zero_on, more_on, FileOn, AllFiles, Stays, closed_mounts, core_mounts, row_rooted, resume_rooted, core_rooted, closed_rooted}
use Rattle.abstract_unix.proofs.RootWorlds.{DirOn, IsBased, held_sized, fork_based, end_based, resume_based, process_based}

-- The second store is that of others, and all files, directories and texts are on the root's disk.
pub record OnRoot (base : Stores) (u : Unix) : Type 0 where
  pub world : IsBased base u.store u.processes u.texts
  pub files : AllFiles base u.files

-- A child shares its parent's files.
shared_on : (base : Stores) (table : List (Option OpenFile)) (mine : List ℕ) → AllFiles base table → AllFiles base (shared table mine)
unfolding shared
shared_on base table mine all =
    each_of (λ (e : ℕ). Unit {0}) (FileOn base) (λ entry. changed (with_more (times mine entry)) (file_at table entry)) 0 None
    (range_with_len 0 (length table)) (zero_on base) (λ e any. more_on base (times mine e) (file_at table e) (all e)) (λ k. tt)

shares_on : (base : Stores) (table : List (Option OpenFile)) (mine : List ℕ) (answer : Answer) → AllFiles base table
    → AllFiles base (shares table mine answer)
shares_on base table mine (Ret r0 r1) all = shared_on base table mine all
shares_on base table mine (Fail e) all = all
shares_on base table mine (Sleep pri chan) all = all

module _ (base : Stores) (one : 1 ≤ base.root.count) (clean : OfSecond (λ (x : Store). x.mark ≡ false) base.second) (s : ℕ) where
  on_if : (b : Bool) (x y : Steps) → OnRoot base x.unix → OnRoot base y.unix → OnRoot base (cond b x y).unix
  on_if true x y p q = p
  on_if false x y p q = q

  own_dir : (u : Unix) → OnRoot base u → IsOn 0 base (process_of u s).u.dir
  own_dir u r = r.world.held.dirs s

  pub on_put : (u : Unix) (q : Process) → IsOn 0 base q.u.dir → OnRoot base u → OnRoot base (with_process u s q)
  on_put u q here r = record {
    world = record {
      second = r.world.second;
      counts = r.world.counts;
      held = record { dirs = each_set (DirOn base) None (Some q) u.processes s here r.world.held.dirs; texts = r.world.held.texts };
    };
    files = r.files;
  }

  on_signals : (u : Unix) (n : ℕ) → OnRoot base u → OnRoot base (signals u s n).unix
  on_signals u n r = on_put u (signalled n (process_of u s)) (own_dir u r) r

  on_refuses : (u : Unix) (n : ℕ) → OnRoot base u → OnRoot base (refuses u s n).unix
  on_refuses u n r = on_if (nat_lt n 100) (returns (with_area u s (refused_area n))) (signals u s SIGSYS)
      (on_put u (record (process_of u s) { u = refused_area n (process_of u s).u }) (own_dir u r) r) (on_signals u SIGSYS r)

  on_answers : (u : Unix) (answer : Answer) → OnRoot base u → OnRoot base (answers u s answer).unix
  on_answers u (Ret r0 r1) r = on_put u (record (process_of u s) { u = given_area r0 r1 (process_of u s).u }) (own_dir u r) r
  on_answers u (Fail e) r = on_refuses u (error_number e) r
  on_answers u (Sleep pri chan) r = r

  -- what a call on files is handed, and has left
  its_stay : (u : Unix) → OnRoot base u → Stays base (handed_of u (process_of u s))
  its_stay u r = record {
    apart = record { same = r.world.second; counts = r.world.counts; first = ap (λ (c : Disks ℕ). c.root) r.world.counts };
    files = r.files;
    dir = own_dir u r;
  }

  on_handed : (u : Unix) (h : Handed) → Stays base h → OnRoot base u → OnRoot base (with_handed u s h)
  on_handed u h p r = record {
    world = record {
      second = p.apart.same;
      counts = p.apart.counts;
      held = record { dirs = each_set (DirOn base) None _ u.processes s p.dir r.world.held.dirs; texts = r.world.held.texts };
    };
    files = p.files;
  }

  on_did : (u : Unix) (did : Did) → Stays base did.state → OnRoot base u → OnRoot base (did_by u s did).unix
  on_did u did p r = on_answers (with_handed u s did.state) did.answer (on_handed u did.state p r)

  -- and what a call on processes has left
  on_world : (u : Unix) (w : World) → IsBased base w.inodes.store w.processes w.texts → OnRoot base u → OnRoot base (with_world u w)
  on_world u w b r = record { world = b; files = r.files }

  on_came : (u : Unix) (c : Comes) → IsBased base c.state.inodes.store c.state.processes c.state.texts → OnRoot base u
      → OnRoot base (came_by u s c).unix
  on_came u c b r = on_answers (with_world u c.state) c.answer (on_world u c.state b r)

  on_forks : (u : Unix) → OnRoot base u → OnRoot base (forks u s).unix
  on_forks u r =
      let c : Comes = fork_one (world_of u) s in
      let came = on_came u c (fork_based base s (world_of u) r.world) r in
      record { world = came.world; files = shares_on base u.files (process_of u s).u.files c.answer r.files }

  -- its files are closed
  pub closes_on : (u : Unix) → OnRoot base u → OnRoot base (with_handed u s (close_all (handed_of u (process_of u s))).state)
  closes_on u r =
      let h : Handed = handed_of u (process_of u s) in
      on_handed u (close_all h).state (closed_rooted base one clean s h (its_stay u r)) r

  on_exits : (u : Unix) (status : ℕ) → OnRoot base u → OnRoot base (exits_with u s status).unix
  on_exits u status r =
      let now : Unix = with_handed u s (close_all (handed_of u (process_of u s))).state in
      let n : OnRoot base now = closes_on u r in
      on_world now (end_proc (world_of now) s status).state (end_based base s (world_of now) status n.world) n

  -- growth
  on_sized : (u : Unix) (d n : ℕ) → OnRoot base u → OnRoot base (with_world u (change (world_of u) s (sized d n)))
  on_sized u d n r = on_world u (change (world_of u) s (sized d n)) (record {
    second = r.world.second;
    counts = r.world.counts;
    held = held_sized base s (world_of u) d n r.world.held;
  }) r

  on_grows : (u : Unix) (sp : ℕ) → OnRoot base u → OnRoot base (grows_to u s sp).unix
  unfolding grow
  on_grows u sp r = by (grown_stack p.u.text_size p.u.data_size p.u.stack_size u.limit sp)
    where
      p : Process
      p = process_of u s

      by : (o : Option ℕ) → OnRoot base (grown_by u s (option_map (expands (world_of u) s p.u.data_size) o)).unix
      by None = on_signals u SIGSEG r
      by (Some n) = on_sized u p.u.data_size n r

  on_grown : (u : Unix) (sp : ℕ) → OnRoot base u → OnRoot base (grows u (grown_or_not (world_of u) s (grow (world_of u) s sp))).unix
  unfolding grow
  on_grown u sp r = by (grown_stack p.u.text_size p.u.data_size p.u.stack_size u.limit sp)
    where
      p : Process
      p = process_of u s

      by : (o : Option ℕ)
          → OnRoot base (grows u (grown_or_not (world_of u) s (option_map (expands (world_of u) s p.u.data_size) o))).unix
      by None = record { world = r.world; files = r.files }
      by (Some n) = on_sized u p.u.data_size n r

  on_timed : (has_read : Bool) (steps : Steps) → OnRoot base steps.unix → OnRoot base (takes_time has_read s steps).unix
  on_timed has_read steps r = by (has_read && not (steps.unix.timing.disk == 0))
    where
      by : (b : Bool)
          → OnRoot base (cond b (record steps { unix = waits_for_disk steps.unix s; ending = ending.Slept pribio (Disk s) }) steps).unix
      by true = on_put steps.unix (waiting_until (disk_end steps.unix.timing) (process_of steps.unix s)) (own_dir steps.unix r) r
      by false = r

  on_call : (u : Unix) (call : SystemCall) (args : List ℕ) → u.covered ≡ None → HavePipes u.files u.pipes → OnRoot base u
      → OnRoot base (does_call u s call args).unix
  on_call u Indirect args none have r = r
  on_call u Exit args none have r = on_exits u (exit_status (process_of u s)) r
  on_call u Fork args none have r = on_forks u r
  on_call u Unknown args none have r = on_refuses u (error_number ENOSYS) r
  on_call u (OnFiles call) args none have r =
      let h : Handed = handed_of u (process_of u s) in
      let did : Did = file_row call h s args u.clock.time in
      on_timed (reads_disk call h did.answer) (did_by u s did)
      (on_did u did (row_rooted base one clean s call h args u.clock.time none have (its_stay u r)) r)
  on_call u (OnProcesses call) args none have r =
      let c : Comes = process_row call (mounts_of u) (world_of u) s args in
      on_timed (loads_program call c.answer) (came_by u s c)
      (on_came u c (process_based base s one (mounts_of u) none call (world_of u) args refl r.world) r)

  on_asked : (u : Unix) (a : Asked) (entry : Sysent) → u.covered ≡ None → HavePipes u.files u.pipes → OnRoot base u
      → OnRoot base (does_asked u s a entry).unix
  on_asked u a entry none have r =
      let q : Process = record (process_of u s) { u = entered_area (words_passed a entry.count) (process_of u s).u } in
      on_call (with_process u s q) entry.call a.args none have (on_put u q (own_dir u r) r)

  on_faults : (u : Unix) (k : Kind) → OnRoot base u → OnRoot base (faults u s k).unix
  on_faults u kind.Odd r = on_signals u SIGBUS r
  on_faults u (kind.Segment sp) r = on_grows u sp r
  on_faults u (kind.Illegal word) r =
      on_if (passes_setd u s word) (returns u) (signals u s SIGINS) r (on_signals u SIGINS r)
  on_faults u kind.Bpt r = on_signals u SIGTRC r
  on_faults u kind.Iot r = on_signals u SIGIOT r
  on_faults u kind.Emt r = on_signals u SIGEMT r

  on_outcome : (u : Unix) (o : Outcome) → u.covered ≡ None → HavePipes u.files u.pipes → OnRoot base u → OnRoot base (comes_to u s o).unix
  on_outcome u outcome.Next none have r = r
  on_outcome u (outcome.Call number) none have r =
      let a : Asked = asked (image_of u.texts (process_of u s)) (register (process_of u s) 7) number in
      on_asked u a (sysent_of a.number) none have r
  on_outcome u (outcome.Fault k) none have r = on_faults u k r

  on_instruction : (u : Unix) → u.covered ≡ None → HavePipes u.files u.pipes → OnRoot base u → OnRoot base (instruction u s).unix
  on_instruction u none have r =
      let p : Process = process_of u s in
      let step : Stepped = instr (machine_of u.texts p) in
      on_outcome (with_process u s (with_machine p step.machine)) step.outcome none have
      (on_put u (with_machine p step.machine) (own_dir u r) r)

  on_resumed : (u : Unix) → u.covered ≡ None → Runs s u → OnRoot base u → OnRoot base (resumed u s).unix
  on_resumed u none runs r = first ((process_of u s).u.pending == DISK_WAIT)
    where
      h : Handed
      h = handed_of u (process_of u s)

      did : Did
      did = resumes h s u.clock.time

      others : Steps
      others = cond (is_on_files (process_of u s).u.pending) (did_by u s did) (came_by u s (resume_proc (world_of u) s))

      by : (b : Bool) → is_on_files (process_of u s).u.pending ≡ b
          → OnRoot base (cond b (did_by u s did) (came_by u s (resume_proc (world_of u) s))).unix
      by true on =
          let has = tidy_can u s runs.tidy runs.there runs.lives on in
          on_did u did (resume_rooted base one clean s h u.clock.time none has runs.tidy.pipes (its_stay u r)) r
      by false on = on_came u (resume_proc (world_of u) s) (resume_based base s (world_of u) r.world) r

      first : (b : Bool) → OnRoot base (cond b (returns (with_process u s (awake (process_of u s)))) others).unix
      first true = on_put u (awake (process_of u s)) (own_dir u r) r
      first false = by (is_on_files (process_of u s).u.pending) refl

  pub on_begun : (m : System) → m.unix.covered ≡ None → Runs s m.unix → OnRoot base m.unix → OnRoot base (begins_turn m s).unix
  on_begun m none runs r = by (is_user (process_of m.unix s))
    where
      by : (b : Bool) → OnRoot base (cond b (instruction m.unix s) (resumed m.unix s)).unix
      by true = on_instruction m.unix none runs.tidy.pipes r
      by false = on_resumed m.unix none runs r

  -- A signal is delivered.
  pub cores_on : (u : Unix) → u.covered ≡ None → OnRoot base u
      → OnRoot base (with_handed u s (core_file (handed_of u (process_of u s)) u.clock.time).state)
  cores_on u none r =
      let h : Handed = handed_of u (process_of u s) in
      let core : Did = core_file h u.clock.time in
      on_handed u core.state (core_rooted base one clean s h u.clock.time none (its_stay u r)) r

  on_ends : (u : Unix) (sig : ℕ) → u.covered ≡ None → OnRoot base u → OnRoot base (ends_by u s sig).unix
  on_ends u sig none r =
      let core : Did = core_file (handed_of u (process_of u s)) u.clock.time in
      let now : OnRoot base (with_handed u s core.state) = cores_on u none r in
      on_if (makes_core sig) (ends_after u s sig core) (exits_with u s (signal_status u s sig))
      (on_exits (with_handed u s core.state) (signal_status u s sig + cond (is_written core.answer) dumped 0) now)
      (on_exits u (signal_status u s sig) r)

  on_catches : (u : Unix) (sig : ℕ) → OnRoot base u → OnRoot base (catches u s sig).unix
  on_catches u sig r =
      let sp : ℕ = signal_stack (process_of u s).u in
      let grown : Steps = grows u (grown_or_not (world_of u) s (grow (world_of u) s sp)) in
      let g : OnRoot base grown.unix = on_grown u sp r in
      let p : Process = process_of grown.unix s in
      on_put grown.unix _ (subst (IsOn 0 base) (sym (delivered_held s p sig (image_of grown.unix.texts p)).dir) (own_dir grown.unix g)) g

  pub on_due : (u : Unix) → u.covered ≡ None → OnRoot base u → OnRoot base (delivers_due u s).unix
  unfolding delivers_due
  on_due u none r = by (due (process_of u s).row (process_of u s).u)
    where
      now : OnRoot base (heeds u s)
      now = on_put u (heeding (process_of u s)) (own_dir u r) r

      by : (o : Option ℕ) → OnRoot base (delivers_if u s o).unix
      by None = r
      by (Some sig) =
          on_if (handler_of (process_of u s).u sig == 0) (ends_by (heeds u s) s sig) (catches (heeds u s) s sig)
          (on_ends (heeds u s) sig none now) (on_catches (heeds u s) sig now)

  -- It covers nothing, and uncovers nothing.
  exits_covered : (u : Unix) (status : ℕ) → (exits_with u s status).unix.covered ≡ u.covered
  exits_covered u status = ap (λ (m : MountTable). m.covered) (closed_mounts (handed_of u (process_of u s)))

  covered_if : (c : Option ℕ) (b : Bool) (x y : Steps) → x.unix.covered ≡ c → y.unix.covered ≡ c → (cond b x y).unix.covered ≡ c
  covered_if c true x y p q = p
  covered_if c false x y p q = q

  ends_covered : (u : Unix) (sig : ℕ) → (ends_by u s sig).unix.covered ≡ u.covered
  ends_covered u sig =
      let h : Handed = handed_of u (process_of u s) in
      let core : Did = core_file h u.clock.time in
      covered_if u.covered (makes_core sig) (ends_after u s sig core) (exits_with u s (signal_status u s sig))
      (exits_covered (with_handed u s core.state) (signal_status u s sig + cond (is_written core.answer) dumped 0)
      ∙ ap (λ (m : MountTable). m.covered) (core_mounts h u.clock.time)) (exits_covered u (signal_status u s sig))

  pub due_covered : (u : Unix) → (delivers_due u s).unix.covered ≡ u.covered
  unfolding delivers_due
  due_covered u = by (due (process_of u s).row (process_of u s).u)
    where
      by : (o : Option ℕ) → (delivers_if u s o).unix.covered ≡ u.covered
      by None = refl
      by (Some sig) =
          covered_if u.covered (handler_of (process_of u s).u sig == 0) (ends_by (heeds u s) s sig) (catches (heeds u s) s sig)
          (ends_covered (heeds u s) sig) refl

  -- the turn whole
  pub on_turn : (m : System) → m.unix.covered ≡ None → Runs s m.unix → OnRoot base m.unix → (turn m s).unix.covered ≡ None
      → OnRoot base (turn m s).unix
  on_turn m none runs r = by steps.ending
    where
      steps : Steps
      steps = begins_turn m s

      begun : OnRoot base steps.unix
      begun = on_begun m none runs r

      by : (e : Ending) → (ends_by_ending s steps e).unix.covered ≡ None → OnRoot base (ends_by_ending s steps e).unix
      by ending.Next c = begun
      by ending.Trapped c = on_due steps.unix (sym (due_covered steps.unix) ∙ c) begun
      by (ending.Slept pri chan) c = begun
      by ending.Ended c = begun
      by (ending.Panic kind) c = begun
