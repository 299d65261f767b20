-- Each turn leaves a tidy Unix: calls, faults, growth, deliveries, and the end of a process.
use Rattle.std.proofs.Common.{◌≡◌, ◌≢◌, ◌∙◌, ◌<◌, ◌≤◌, ◌+◌, ◌==◌, ◌&&◌, not, inl, inr, ℕ, Bool, true, false, cond, List, length, get_or, get_or-set_same, set, Option, Some, None, is_none, option_map, unwrap_or, nat_lt, refl, sym, ap, subst, arith}
use Rattle.std.proofs.lemmas.Bool.{eqb-true}
use Rattle.std.proofs.lemmas.List.{length-map, length-set, map-set, get_or-set_other}
use Rattle.std.proofs.Math.ListN.{get_or-map}
use Rattle.v6_base.specs.declared.answer.Answer.{Answer}
use Rattle.v6_base.specs.declared.answer.Answer.TheVariants.{Ret, Fail, Sleep}
use Rattle.v6_base.specs.declared.errno.Errno.TheVariants.{EAGAIN, ENOSYS}
use Rattle.v6_base.specs.Image.{Image}
use Rattle.v6_base.specs.declared.entry.Chan.TheVariants.{Disk}
use Rattle.pick_rules.specs.Priority.{pribio}
use Rattle.pdp_step.specs.declared.outcome.Kind.{Kind}
use Rattle.pdp_step.specs.declared.outcome.Kind.TheVariants as kind
use Rattle.pdp_step.specs.declared.outcome.Outcome.{Outcome}
use Rattle.pdp_step.specs.declared.outcome.Outcome.TheVariants as outcome
use Rattle.pdp_step.specs.Instruction.{Stepped, instr}
use Rattle.proc_tab.specs.Processes.{member_at, lowest}
use Rattle.pick_rules.proofs.Found.{found_in}
use Rattle.sig_core.specs.declared.numbers.TheConstants.{SIGSEG, SIGSYS, SIGINS, SIGTRC, SIGIOT, SIGEMT, SIGBUS}
use Rattle.sig_core.specs.Signals.{handler_of, due}
use Rattle.sig_core.specs.declared.psig.Delivered.TheVariants.{Ends, Caught}
use Rattle.sig_core.specs.Delivery.{Delivery, makes_core, signal_stack, delivery, caught, pushed}
use Rattle.u_area.specs.declared.layout.TheConstants.{NOTHING_PENDING, DISK_WAIT}
use Rattle.u_area.specs.declared.area.UArea.{UArea}
use Rattle.u_area.specs.Pending.{is_on_files, IsFileCall}
use Rattle.open_files.specs.Files.{file_at, times, shared}
use Rattle.fs_nodes.proofs.CountLaws.{keys_counted}
use Rattle.sys_files.specs.Handed.{Handed}
use Rattle.sys_files.specs.Did.{Did}
use Rattle.sys_files.specs.Core.{core_file, is_written}
use Rattle.sys_files.specs.Descriptors.{Closing, close_all}
use Rattle.sys_files.specs.Moving.{without_pending, resumes}
use Rattle.sys_files.specs.Sound.{numbers_of}
use Rattle.sys_files.proofs.CoreLemmas.{OverWith, core_keeps}
use Rattle.sys_files.proofs.Counting.{IsCounted, counted_walks, close_all_counted}
use Rattle.sys_files.proofs.Walks.{owns_all, walk_resume}
use Rattle.sys_procs.specs.Process.{Process, no_process, member_of, register, image_of}
use Rattle.sys_procs.specs.World as world
use Rattle.sys_procs.specs.World.{World, change, members}
use Rattle.sys_procs.specs.Comes.{Comes}
use Rattle.sys_procs.specs.Signals.{signalled}
use Rattle.sys_procs.specs.Break.{sized, expands, grown_stack, grow, grown_or_not}
use Rattle.sys_procs.specs.Fork.{copied, past_word, next_pid, with_child, fork_into, fork_one}
use Rattle.sys_procs.specs.Exit.{exit_status, end_proc}
use Rattle.sys_procs.specs.Resume.{awake, resume_proc}
use Rattle.abstract_unix.specs.declared.asked.Asked.{Asked}
use Rattle.abstract_unix.specs.declared.calls.SystemCall.{SystemCall}
use Rattle.abstract_unix.specs.declared.calls.SystemCall.TheVariants.{Indirect, Exit, Fork, Unknown, OnFiles, OnProcesses}
use Rattle.abstract_unix.specs.declared.calls.Sysent.{Sysent}
use Rattle.abstract_unix.specs.declared.ending.Ending.{Ending}
use Rattle.abstract_unix.specs.declared.ending.Ending.TheVariants as ending
use Rattle.abstract_unix.specs.Unix.{Unix, System, process_of, with_process, mounts_of}
use Rattle.abstract_unix.specs.Errors.{error_number}
use Rattle.abstract_unix.specs.Steps.{Steps, returns, signals}
use Rattle.abstract_unix.specs.Calls.{handed_of, with_handed, world_of, with_world, given_area, refused_area, entered_area, words_passed, with_area, refuses, answers, did_by, came_by, shares, forks, grows, grown_by, grows_to, exits_with, asked, file_row, process_row, reads_disk, loads_program, waiting_until, disk_end, waits_for_disk, takes_time, does_call, sysent_of, does_asked, resumed}
use Rattle.abstract_unix.specs.Turn.{machine_of, with_machine, faults, comes_to, instruction, is_user, passes_setd, begins_turn, turn}
use Rattle.abstract_unix.specs.Delivery.{heeding, heeds, catches, signal_status, dumped, ends_after, ends_by, delivers_if, delivers_due, ends_by_ending}
use Rattle.abstract_unix.specs.Whole.{Told, told_of, told_by, told_in, names, all_names}
use Rattle.abstract_unix.proofs.Owing.{told_at, told_change, told_none, some_within, names_set, fifteen_set}
use Rattle.abstract_unix.proofs.Sharing.{shared_numbers}
use Rattle.abstract_unix.proofs.PipeNumbers.{shared_ends}
use Rattle.abstract_unix.proofs.Dying.{closed_none}
use Rattle.abstract_unix.proofs.Quiet.{HasNumbers, InCalm, same_call, other_inodes, Calm, CalmClosing, calm_walks, resume_calm, close_all_calm}
use Rattle.abstract_unix.proofs.FileRows.{walk_row}
use Rattle.abstract_unix.proofs.Tidy.{IsTidy, tidy_numbers, tidy_can}
use Rattle.abstract_unix.proofs.StillWorlds.{IsStill, still_row, still_resume, IsGone, gone_ended}
use Rattle.abstract_unix.proofs.PendingRows.{never_in_call, Pends, row_pends, resume_pends, close_user, core_user, close_pends, core_pends}
use Rattle.abstract_unix.proofs.GoingOnLemmas.{AllWaited, moved_goes_on, user_waited, all_waited_put, world_goes_on, handed_pends, shared_goes_on}
use Rattle.abstract_unix.proofs.WaitingRows.{row_waited, end_waited, resume_waited}
use Rattle.abstract_unix.proofs.GoingOnSteps.{trapped_user}
use Rattle.pick_rules.specs.Board.{Board}
use Rattle.abstract_unix.proofs.TidyTurns.{Runs, SameHeld, runs_put, runs_still, runs_world, runs_counted, runs_handed}

module _ (s : ℕ) where
  runs_if : (b : Bool) (x y : Steps) → Runs s x.unix → Runs s y.unix → Runs s (cond b x y).unix
  runs_if true x y p q = p
  runs_if false x y p q = q

  pub runs_signals : (u : Unix) (n : ℕ) → Runs s u → Runs s (signals u s n).unix
  runs_signals u n r = runs_put s u (signalled n (process_of u s))
      (record { files = refl; dir = refl; dead = refl; pending = refl; call = refl }) r

  runs_area : (u : Unix) (rule : UArea → UArea) → (rule (process_of u s).u).files ≡ (process_of u s).u.files
      → (rule (process_of u s).u).dir ≡ (process_of u s).u.dir
      → (rule (process_of u s).u).pending ≡ (process_of u s).u.pending
      → (rule (process_of u s).u).call ≡ (process_of u s).u.call → Runs s u → Runs s (with_area u s rule)
  runs_area u rule files dir pending call r =
      runs_put s u (record (process_of u s) { u = rule (process_of u s).u })
      (record { files = files; dir = dir; dead = refl; pending = pending; call = call }) r

  runs_refuses : (u : Unix) (n : ℕ) → Runs s u → Runs s (refuses u s n).unix
  runs_refuses u n r = runs_if (nat_lt n 100) (returns (with_area u s (refused_area n))) (signals u s SIGSYS)
      (runs_area u (refused_area n) refl refl refl refl r) (runs_signals u SIGSYS r)

  runs_answers : (u : Unix) (answer : Answer) → Runs s u → Runs s (answers u s answer).unix
  runs_answers u (Ret r0 r1) r = runs_area u (given_area r0 r1) refl refl refl refl r
  runs_answers u (Fail e) r = runs_refuses u (error_number e) r
  runs_answers u (Sleep pri chan) r = r

  runs_came : (u : Unix) (c : Comes) → IsStill (world_of u) s c.state → AllWaited u.processes c.state.processes → Runs s u
      → Runs s (came_by u s c).unix
  runs_came u c k waited r = runs_answers (with_world u c.state) c.answer (runs_world s u c.state k waited r)

  runs_did : (u : Unix) (did : Did) → IsCounted (handed_of u (process_of u s)) did.state → HasNumbers did.state
      → Pends did.state → Runs s u → Runs s (did_by u s did).unix
  runs_did u did k numbers pends r = runs_answers (with_handed u s did.state) did.answer
      (runs_handed s u did.state k numbers pends r)

  -- fork: the child names the files that its parent does
  free_slot : (u : Unix) (c : ℕ) → lowest is_none (members (world_of u)) ≡ Some c → (get_or u.processes c None ≡ None) × (c < 50)
  unfolding lowest
  free_slot u c e =
      let found = found_in (λ k. is_none (member_at (members (world_of u)) k)) 1 49 c e in (
        none_is (get_or u.processes c None) (ap is_none (sym (get_or-map member_of u.processes c None)) ∙ found.passes),
        (let l = found.below in omega (arith, l)),
      )
    where
      none_is : (o : Option Process) → is_none (member_of o) ≡ true → o ≡ None
      none_is None e = refl
      none_is (Some p) e = absurd (cc e)

  born : (u : Unix) (c : ℕ) → Runs s u → (process_of u s).u.pending ≡ NOTHING_PENDING → get_or u.processes c None ≡ None → c < 50
      → Runs s (record (with_world u (with_child (world_of u) s c (next_pid (world_of u)))) {
        files =
            shared u.files (process_of u s).u.files;
      })
  born u c r free none low =
      let p : Process = process_of u s in
      let w : World = world_of u in
      let pid = next_pid w in
      let q : Process = copied p pid in
      let ts : List (Option Told) = told_in u.processes in
      let t : Told = told_of p in
      let other : s ≢ c = (λ same. let some : Some p ≡ None = sym r.there ∙ ap (λ n. get_or u.processes n None) same
      ∙ none in cc some) in
      let short : c < length u.processes = (let fifty = r.tidy.fifty in omega (arith, low, fifty)) in
      let own = told_at u.processes s p r.there r.lives in
      let born_told : told_in (set u.processes c (Some q)) ≡ set ts c (Some t) = map-set told_by u.processes c (Some q)
      ∙ ap (λ b. set ts c (cond b None (Some t))) r.lives in
      let at : get_or (set u.processes c (Some q)) s None ≡ get_or u.processes s None =
      get_or-set_other u.processes c s (Some q) None other in
      let is : unwrap_or (get_or (set u.processes c (Some q)) s None) no_process ≡ p = ap (λ o. unwrap_or o no_process) at in
      record {
        tidy = record {
          numbers = λ entry.
              let more = shared_numbers u.files p.u.files entry (runs_counted s u r).is_open in
              let before = r.tidy.numbers entry in
              let change = names_set ts c (Some t) entry (subst (λ n. c < n) (sym (length-map u.processes told_by)) short) in
              let was : names entry (get_or ts c None) ≡ 0 = ap (names entry) (told_none u.processes c none) in
              let now : numbers_of (file_at (shared u.files p.u.files) entry) ≡ all_names (set ts c (Some t)) entry =
              omega (arith, more, before, change, was) in
              now ∙ ap (λ l. all_names l entry) (sym born_told);
          fifty = length-set u.processes c (Some q) ∙ r.tidy.fifty;
          fifteen = λ i x e. fifteen_set ts c (Some t) r.tidy.fifteen
              (λ y same. (let eq : t ≡ y = cc same in ap (λ (z : Told). length z.files) (sym eq) ∙ r.tidy.fifteen s t own)) i x
              (ap (λ l. get_or l i None) (sym born_told) ∙ e);
          waits = shared_goes_on (with_world u (with_child w s c pid)) p.u.files
              (world_goes_on u (with_child w s c pid) r.tidy.waits
              (all_waited_put u.processes c (Some q) (user_waited (get_or u.processes c None) q free)));
          count = r.tidy.count;
          eight = r.tidy.eight;
          pipes = shared_ends u.files u.pipes p.u.files r.tidy.pipes;
        };
        there = at ∙ r.there ∙ ap Some (sym is);
        lives = ap (λ (x : Process). x.is_zombie) is ∙ r.lives;
      }

  pub runs_forks : (u : Unix) → (process_of u s).u.pending ≡ NOTHING_PENDING → Runs s u → Runs s (forks u s).unix
  unfolding fork_one
  runs_forks u free r = by (lowest is_none (members (world_of u))) refl
    where
      w : World
      w = world_of u

      come : Option ℕ → Steps
      come o =
          let c : Comes = fork_into w s o in
          let t : Steps = came_by u s c in
          record t { unix = record t.unix { files = shares u.files (process_of u s).u.files c.answer } }

      by : (o : Option ℕ) → lowest is_none (members w) ≡ o → Runs s (come o).unix
      by None e = runs_refuses (with_world u (change w s past_word)) (error_number EAGAIN)
          (runs_put s u (past_word (process_of u s)) (record {
            files = refl;
            dir = refl;
            dead = refl;
            pending = refl;
            call = refl;
          }) r)
      by (Some c) e =
          let free_is = free_slot u c e in
          let first = born u c r free free_is.0 free_is.1 in
          let v : Unix = record (with_world u (with_child w s c (next_pid w))) {
            files =
                shared u.files (process_of u s).u.files;
          } in
          let passed = runs_put s v (past_word (process_of v s))
          (record { files = refl; dir = refl; dead = refl; pending = refl; call = refl }) first in
          runs_area (with_process v s (past_word (process_of v s)))
          (given_area (next_pid w)
          (register (world.process_of (change (with_child w s c (next_pid w)) s past_word) s) 1)) refl refl refl refl passed

  -- A process ends: it has closed its files, and is told of no more.
  user_held : (u : Unix) (h : Handed) → s < length u.processes → h.u.pending ≡ NOTHING_PENDING
      → (process_of (with_handed u s h) s).u.pending ≡ NOTHING_PENDING
  user_held u h low free =
      ap (λ o. (unwrap_or o no_process).u.pending)
      (get_or-set_same u.processes s
      (Some (record (process_of u s) { u = h.u; row = h.row; «data» = h.image.data; stack = h.image.stack })) None low) ∙ free

  held_files : (u : Unix) (h : Handed) → s < length u.processes → (process_of (with_handed u s h) s).u.files ≡ h.u.files
  held_files u h low =
      ap (λ o. (unwrap_or o no_process).u.files)
      (get_or-set_same u.processes s
      (Some (record (process_of u s) { u = h.u; row = h.row; «data» = h.image.data; stack = h.image.stack })) None low)

  ended_tidy : (u : Unix) (status : ℕ) → (process_of u s).u.pending ≡ NOTHING_PENDING
      → ((entry : ℕ) → times (process_of u s).u.files entry ≡ 0) → Runs s u
      → IsTidy (with_world u (end_proc (world_of u) s status).state)
  ended_tidy u status free closed r =
      let w : World = (end_proc (world_of u) s status).state in
      let g : IsGone (world_of u) s w = gone_ended (world_of u) s (world_of u) status (runs_still s u r) in
      let ts : List (Option Told) = told_in u.processes in
      let own = told_at u.processes s (process_of u s) r.there r.lives in
      record {
        numbers = λ entry.
            let before = r.tidy.numbers entry in
            let change = names_set ts s None entry (some_within ts s (told_of (process_of u s)) own) in
            let old = ap (names entry) own in
            let gone = closed entry in
            let now : numbers_of (file_at u.files entry) ≡ all_names (set ts s None) entry =
            omega (arith, before, change, old, gone) in
            now ∙ ap (λ l. all_names l entry) (sym g.told);
        fifty = g.fifty;
        fifteen = λ i x e. fifteen_set ts s None r.tidy.fifteen (λ t same. absurd (cc same)) i x
            (ap (λ l. get_or l i None) (sym g.told) ∙ e);
        waits = world_goes_on u w r.tidy.waits (end_waited (world_of u) s free status);
        count = subst (λ n. n ≤ 65535) (sym (keys_counted w.inodes.store u.store g.count)) r.tidy.count;
        eight = r.tidy.eight;
        pipes = r.tidy.pipes;
      }

  pub exits_tidy : (u : Unix) (status : ℕ) → (process_of u s).u.pending ≡ NOTHING_PENDING → Runs s u → IsTidy (exits_with u s status).unix
  exits_tidy u status free r =
      let h : Handed = handed_of u (process_of u s) in
      let c : Closing = close_all h in
      let calm : CalmClosing h.u s c = close_all_calm h s (tidy_numbers u s r.tidy) in
      let counted : IsCounted h c.state = close_all_counted h (runs_counted s u r) in
      let now = runs_handed s u c.state counted (record { count = calm.calm.numbers.count; eight = calm.calm.numbers.eight; pipes = calm.calm.numbers.pipes })
      (close_pends h free) r in
      let low = some_within u.processes s (process_of u s) r.there in
      let own = told_at u.processes s (process_of u s) r.there r.lives in
      let long : length c.state.u.files ≡ 15 = counted.long ∙ r.tidy.fifteen s (told_of (process_of u s)) own in
      ended_tidy (with_handed u s c.state) status (user_held u c.state low (close_user h free))
      (λ entry. ap (λ l. times l entry) (held_files u c.state low) ∙ closed_none h entry long) now

  -- growth
  runs_sized : (u : Unix) (d n : ℕ) → Runs s u → Runs s (with_world u (change (world_of u) s (sized d n)))
  runs_sized u d n r = runs_put s u (sized d n (process_of u s))
      (record { files = refl; dir = refl; dead = refl; pending = refl; call = refl }) r

  runs_grows : (u : Unix) (sp : ℕ) → Runs s u → Runs s (grows_to u s sp).unix
  unfolding grow
  runs_grows u sp r = by (grown_stack p.u.text_size p.u.data_size p.u.stack_size u.limit sp)
    where
      p : Process
      p = process_of u s

      by : (o : Option ℕ) → Runs s (grown_by u s (option_map (expands (world_of u) s p.u.data_size) o)).unix
      by None = runs_signals u SIGSEG r
      by (Some n) = runs_sized u p.u.data_size n r

  runs_grown : (u : Unix) (sp : ℕ) → Runs s u → Runs s (grows u (grown_or_not (world_of u) s (grow (world_of u) s sp))).unix
  unfolding grow
  runs_grown u sp r = by (grown_stack p.u.text_size p.u.data_size p.u.stack_size u.limit sp)
    where
      p : Process
      p = process_of u s

      by : (o : Option ℕ) → Runs s
          (grows u (grown_or_not (world_of u) s (option_map (expands (world_of u) s p.u.data_size) o))).unix
      by None = r
      by (Some n) = runs_sized u p.u.data_size n r

-- What a turn has come to: a tidy Unix, in which its process lives where it hasn't ended.
pub record Leaves (s : ℕ) (steps : Steps) : Type 0 where
  pub tidy : IsTidy steps.unix
  pub runs : steps.ending ≡ ending.Trapped → Runs s steps.unix

module _ (s : ℕ) where
  leaves_runs : (steps : Steps) → Runs s steps.unix → Leaves s steps
  leaves_runs steps r = record { tidy = r.tidy; runs = λ e. r }

  -- a wait for the disk, and its end
  not_disk : {P : Type 0} (n : ℕ) → n ≡ DISK_WAIT → IsFileCall n → P
  not_disk n disk (inl (inl one)) = absurd (omega (arith, disk, one))
  not_disk n disk (inl (inr two)) = absurd (omega (arith, disk, two))
  not_disk n disk (inr (inl three)) = absurd (omega (arith, disk, three))
  not_disk n disk (inr (inr four)) = absurd (omega (arith, disk, four))

  runs_moved : (u : Unix) (q : Process) → q.u.files ≡ (process_of u s).u.files → q.u.dir ≡ (process_of u s).u.dir
      → q.is_zombie ≡ (process_of u s).is_zombie → (IsFileCall q.u.pending → ⊥) → Runs s u → Runs s (with_process u s q)
  runs_moved u q files dir dead never r =
      let p : Process = process_of u s in
      let at : get_or (set u.processes s (Some q)) s None ≡ Some q =
      get_or-set_same u.processes s (Some q) None (some_within u.processes s p r.there) in
      let is : process_of (with_process u s q) s ≡ q = ap (λ o. unwrap_or o no_process) at in
      let as_told : told_by (Some q) ≡ told_by (Some p) = (λ i. cond (dead i) None (Some (record { files = files i; dir = dir i }))) in
      let told : told_in (set u.processes s (Some q)) ≡ told_in u.processes = told_change u.processes s p q r.there as_told in
      record {
        tidy = record {
          numbers = λ entry. r.tidy.numbers entry ∙ ap (λ ts. all_names ts entry) (sym told);
          fifty = length-set u.processes s (Some q) ∙ r.tidy.fifty;
          fifteen = λ k t e. r.tidy.fifteen k t (ap (λ ts. get_or ts k None) (sym told) ∙ e);
          waits = moved_goes_on u s q r.tidy.waits (some_within u.processes s p r.there) never;
          count = r.tidy.count;
          eight = r.tidy.eight;
          pipes = r.tidy.pipes;
        };
        there = at ∙ ap Some (sym is);
        lives = ap (λ (x : Process). x.is_zombie) is ∙ dead ∙ r.lives;
      }

  runs_timed : (has_read : Bool) (steps : Steps) → Runs s steps.unix → Runs s (takes_time has_read s steps).unix
  runs_timed has_read steps r = by (has_read && not (steps.unix.timing.disk == 0))
    where
      by : (b : Bool)
          → Runs s (cond b (record steps { unix = waits_for_disk steps.unix s; ending = ending.Slept pribio (Disk s) }) steps).unix
      by true = runs_moved steps.unix (waiting_until (disk_end steps.unix.timing) (process_of steps.unix s)) refl refl refl
          (not_disk DISK_WAIT refl) r
      by false = r

  leaves_call : (u : Unix) (call : SystemCall) (args : List ℕ) → (process_of u s).u.pending ≡ NOTHING_PENDING → Runs s u
      → Leaves s (does_call u s call args)
  leaves_call u Indirect args free r = leaves_runs (returns u) r
  leaves_call u Exit args free r = record {
    tidy = exits_tidy s u (exit_status (process_of u s)) free r;
    runs = λ e. absurd (cc e);
  }
  leaves_call u Fork args free r = leaves_runs (forks u s) (runs_forks s u free r)
  leaves_call u Unknown args free r = leaves_runs (refuses u s (error_number ENOSYS)) (runs_refuses s u (error_number ENOSYS) r)
  leaves_call u (OnFiles call) args free r =
      let h : Handed = handed_of u (process_of u s) in
      let did : Did = file_row call h s args u.clock.time in
      let calm : Calm h.u s did = walk_row (calm_walks h.u s) call h args u.clock.time tt (λ moves. tt) (λ both. tt) (owns_all h)
      (record { same = same_call h.u; numbers = tidy_numbers u s r.tidy }) in
      leaves_runs (takes_time (reads_disk call h did.answer) s (did_by u s did))
      (runs_timed (reads_disk call h did.answer) (did_by u s did)
      (runs_did s u did (walk_row (counted_walks h s) call h args u.clock.time tt (λ moves. tt) (λ both. tt) (owns_all h) (runs_counted s u r)) calm.numbers
      (row_pends call h s args u.clock.time free) r))
  leaves_call u (OnProcesses call) args free r =
      let c : Comes = process_row call (mounts_of u) (world_of u) s args in
      leaves_runs (takes_time (loads_program call c.answer) s (came_by u s c))
      (runs_timed (loads_program call c.answer) (came_by u s c)
      (runs_came s u c (still_row (world_of u) s call (mounts_of u) (world_of u) args (runs_still s u r))
      (row_waited (world_of u) s free call (mounts_of u) args) r))

  leaves_asked : (u : Unix) (a : Asked) (entry : Sysent) → (process_of u s).u.pending ≡ NOTHING_PENDING → Runs s u
      → Leaves s (does_asked u s a entry)
  leaves_asked u a entry free r =
      let p : Process = process_of u s in
      let q : Process = record p { u = entered_area (words_passed a entry.count) p.u } in
      let now = runs_put s u q (record { files = refl; dir = refl; dead = refl; pending = refl; call = refl }) r in
      leaves_call (with_process u s q) entry.call a.args
      (ap (λ o. (unwrap_or o no_process).u.pending) (get_or-set_same u.processes s (Some q) None
      (some_within u.processes s p r.there)) ∙ free) now

  leaves_faults : (u : Unix) (k : Kind) → Runs s u → Leaves s (faults u s k)
  leaves_faults u kind.Odd r = leaves_runs (signals u s SIGBUS) (runs_signals s u SIGBUS r)
  leaves_faults u (kind.Segment sp) r = leaves_runs (grows_to u s sp) (runs_grows s u sp r)
  leaves_faults u (kind.Illegal word) r =
      leaves_runs (cond (passes_setd u s word) (returns u) (signals u s SIGINS))
      (runs_if s (passes_setd u s word) (returns u) (signals u s SIGINS) r (runs_signals s u SIGINS r))
  leaves_faults u kind.Bpt r = leaves_runs (signals u s SIGTRC) (runs_signals s u SIGTRC r)
  leaves_faults u kind.Iot r = leaves_runs (signals u s SIGIOT) (runs_signals s u SIGIOT r)
  leaves_faults u kind.Emt r = leaves_runs (signals u s SIGEMT) (runs_signals s u SIGEMT r)

  leaves_outcome : (u : Unix) (o : Outcome) → (process_of u s).u.pending ≡ NOTHING_PENDING → Runs s u → Leaves s (comes_to u s o)
  leaves_outcome u outcome.Next free r = record { tidy = r.tidy; runs = λ e. r }
  leaves_outcome u (outcome.Call number) free r =
      let a : Asked = asked (image_of u.texts (process_of u s)) (register (process_of u s) 7) number in leaves_asked u a
      (sysent_of a.number) free r
  leaves_outcome u (outcome.Fault k) free r = leaves_faults u k r

  leaves_instruction : (u : Unix) → (process_of u s).u.pending ≡ NOTHING_PENDING → Runs s u → Leaves s (instruction u s)
  leaves_instruction u free r =
      let p : Process = process_of u s in
      let step : Stepped = instr (machine_of u.texts p) in
      let q : Process = with_machine p step.machine in
      let now = runs_put s u q (record { files = refl; dir = refl; dead = refl; pending = refl; call = refl }) r in
      leaves_outcome (with_process u s q) step.outcome
      (ap (λ o. (unwrap_or o no_process).u.pending) (get_or-set_same u.processes s (Some q) None
      (some_within u.processes s p r.there)) ∙ free) now

  leaves_resumed : (u : Unix) → Runs s u → Leaves s (resumed u s)
  leaves_resumed u r = first ((process_of u s).u.pending == DISK_WAIT)
    where
      h : Handed
      h = handed_of u (process_of u s)

      did : Did
      did = resumes h s u.clock.time

      by : (b : Bool) → is_on_files (process_of u s).u.pending ≡ b
          → Leaves s (cond b (did_by u s did) (came_by u s (resume_proc (world_of u) s)))
      by true on =
          let has = tidy_can u s r.tidy r.there r.lives on in
          let calm : Calm (without_pending h).u s did = resume_calm h s u.clock.time has (tidy_numbers u s r.tidy) in
          leaves_runs (did_by u s did)
          (runs_did s u did (walk_resume (counted_walks h s) h u.clock.time has (owns_all h) (runs_counted s u r)) calm.numbers
          (resume_pends h s u.clock.time on (handed_pends u s r.tidy.waits r.there r.lives)) r)
      by false on =
          leaves_runs (came_by u s (resume_proc (world_of u) s))
          (runs_came s u (resume_proc (world_of u) s) (still_resume (world_of u) s (world_of u) (runs_still s u r))
          (resume_waited (world_of u) s) r)

      others : Steps
      others = cond (is_on_files (process_of u s).u.pending) (did_by u s did) (came_by u s (resume_proc (world_of u) s))

      first : (b : Bool) → Leaves s (cond b (returns (with_process u s (awake (process_of u s)))) others)
      first true =
          leaves_runs (returns (with_process u s (awake (process_of u s))))
          (runs_moved u (awake (process_of u s)) refl refl refl (never_in_call NOTHING_PENDING refl) r)
      first false = by (is_on_files (process_of u s).u.pending) refl

  pub leaves_begun : (m : System) → Runs s m.unix → Leaves s (begins_turn m s)
  leaves_begun m r = by (is_user (process_of m.unix s)) refl
    where
      by : (b : Bool) → is_user (process_of m.unix s) ≡ b → Leaves s (cond b (instruction m.unix s) (resumed m.unix s))
      by true user = leaves_instruction m.unix (eqb-true (process_of m.unix s).u.pending NOTHING_PENDING user) r
      by false user = leaves_resumed m.unix r

  -- A signal is delivered.
  pub delivered_held : (p : Process) (sig : ℕ) (image : Image)
      → SameHeld p (record p {
        u = (delivery p.u sig image).area;
        «data» = (delivery p.u sig image).image.data;
        stack = (delivery p.u sig image).image.stack;
      })
  delivered_held p sig image = by (handler_of p.u sig == 0)
    where
      told : Bool → Delivery
      told b = cond b (record { area = p.u; image = image; answer = Ends (makes_core sig) })
          (record { area = caught p.u sig; image = pushed p.u image; answer = Caught })

      by : (b : Bool) → SameHeld p (record p { u = (told b).area; «data» = (told b).image.data; stack = (told b).image.stack })
      by true = record { files = refl; dir = refl; dead = refl; pending = refl; call = refl }
      by false = record { files = refl; dir = refl; dead = refl; pending = refl; call = refl }

  tidy_if : (b : Bool) (x y : Steps) → IsTidy x.unix → IsTidy y.unix → IsTidy (cond b x y).unix
  tidy_if true x y p q = p
  tidy_if false x y p q = q

  core_tidy : (u : Unix) (sig : ℕ) → (process_of u s).u.pending ≡ NOTHING_PENDING → Runs s u → IsTidy (ends_by u s sig).unix
  core_tidy u sig free r =
      let h : Handed = handed_of u (process_of u s) in
      let core : Did = core_file h u.clock.time in
      let calm : OverWith (InCalm h.u) core =
      core_keeps (InCalm h.u) (λ l inodes same k. record {
        same = k.same;
        numbers = other_inodes l inodes same k.numbers;
      }) h u.clock.time
      (record { same = same_call h.u; numbers = tidy_numbers u s r.tidy }) in
      let counted : OverWith (IsCounted h) core = core_keeps (IsCounted h) (λ l inodes same k. k) h u.clock.time
      (runs_counted s u r) in
      let now = runs_handed s u core.state counted.state calm.state.numbers (core_pends h u.clock.time free) r in
      tidy_if (makes_core sig) (ends_after u s sig core) (exits_with u s (signal_status u s sig))
      (exits_tidy s (with_handed u s core.state) (signal_status u s sig + cond (is_written core.answer) dumped 0)
      (user_held s u core.state (some_within u.processes s (process_of u s) r.there) (core_user h u.clock.time free)) now)
      (exits_tidy s u (signal_status u s sig) free r)

  caught_tidy : (u : Unix) (sig : ℕ) → Runs s u → Runs s (catches u s sig).unix
  caught_tidy u sig r =
      let grown : Steps = grows u (grown_or_not (world_of u) s (grow (world_of u) s (signal_stack (process_of u s).u))) in
      let p : Process = process_of grown.unix s in
      runs_put s grown.unix _ (delivered_held p sig (image_of grown.unix.texts p))
      (runs_grown s u (signal_stack (process_of u s).u) r)

  pub due_tidy : (u : Unix) → (process_of u s).u.pending ≡ NOTHING_PENDING → Runs s u → IsTidy (delivers_due u s).unix
  unfolding delivers_due
  due_tidy u free r = by (due (process_of u s).row (process_of u s).u)
    where
      q : Process
      q = heeding (process_of u s)

      now : Runs s (heeds u s)
      now = runs_put s u q (record { files = refl; dir = refl; dead = refl; pending = refl; call = refl }) r

      user : (process_of (heeds u s) s).u.pending ≡ NOTHING_PENDING
      user = ap (λ o. (unwrap_or o no_process).u.pending) (get_or-set_same u.processes s (Some q) None
          (some_within u.processes s (process_of u s) r.there)) ∙ free

      by : (o : Option ℕ) → IsTidy (delivers_if u s o).unix
      by None = r.tidy
      by (Some sig) =
          tidy_if (handler_of (process_of u s).u sig == 0) (ends_by (heeds u s) s sig) (catches (heeds u s) s sig)
          (core_tidy (heeds u s) sig user now) (caught_tidy (heeds u s) sig now).tidy

  -- the turn whole
  pub turn_tidy : (m : System) → Runs s m.unix → IsTidy (turn m s).unix
  turn_tidy m r = by steps.ending refl
    where
      steps : Steps
      steps = begins_turn m s

      begun : Leaves s steps
      begun = leaves_begun m r

      by : (e : Ending) → steps.ending ≡ e → IsTidy (ends_by_ending s steps e).unix
      by ending.Next is = begun.tidy
      by ending.Trapped is =
          due_tidy steps.unix (eqb-true (process_of steps.unix s).u.pending NOTHING_PENDING
          (trapped_user m s r.tidy.waits r.there r.lives is)) (begun.runs is)
      by (ending.Slept pri chan) is = begun.tidy
      by ending.Ended is = begun.tidy
      by (ending.Panic kind) is = begun.tidy

  pub begins_numbers : (u : Unix) (board : Board) → Runs s u
      → HasNumbers (handed_of (begins_turn (record { unix = u; board = board }) s).unix
      (process_of (begins_turn (record { unix = u; board = board }) s).unix s))
  begins_numbers u board r = tidy_numbers (begins_turn (record { unix = u; board = board }) s).unix s
      (leaves_begun (record { unix = u; board = board }) r).tidy
