-- Who waits for the disk after a turn waited for it before, or the turn's own call has read the disk.
use Rattle.std.proofs.Common.{◌≡◌, ◌∙◌, ◌⊎◌, ◌<◌, ◌+◌, ◌*◌, ◌/◌, ◌%◌, ◌==◌, ◌&&◌, not, ℕ, Bool, true, false, cond, nat_lt, List, length, get_or, set, Option, Some, None, option_map, unwrap_or, slice_index, refl, sym, ap, subst, inl, inr, arith}
use Rattle.std.proofs.lemmas.Bool.{cases_eq}
use Rattle.std.proofs.lemmas.List.{get_or-set_same, get_or-set_other, length-set}
use Rattle.v6_base.specs.declared.answer.Answer.{Answer}
use Rattle.v6_base.specs.declared.answer.Answer.TheVariants.{Ret, Fail, Sleep}
use Rattle.v6_base.specs.declared.entry.Chan.TheVariants.{Disk}
use Rattle.v6_base.specs.declared.errno.Errno.TheVariants.{ENOSYS}
use Rattle.pick_rules.specs.Priority.{pribio}
use Rattle.pdp_step.specs.declared.outcome.Kind.{Kind}
use Rattle.pdp_step.specs.declared.outcome.Kind.TheVariants as kind
use Rattle.pdp_step.specs.declared.outcome.Outcome.{Outcome}
use Rattle.pdp_step.specs.declared.outcome.Outcome.TheVariants as outcome
use Rattle.u_area.specs.declared.layout.TheConstants.{NOTHING_PENDING, DISK_WAIT}
use Rattle.u_area.specs.Pending.{is_on_files}
use Rattle.sig_core.specs.declared.numbers.TheConstants.{SIGINS, SIGTRC, SIGIOT, SIGEMT, SIGBUS, SIGSEG, SIGSYS}
use Rattle.sys_files.specs.Handed.{Handed}
use Rattle.sys_files.specs.Did.{Did}
use Rattle.sys_procs.specs.Process.{Process, no_process, register, image_of}
use Rattle.sys_procs.specs.Comes.{Comes}
use Rattle.sys_procs.specs.Signals.{signalled}
use Rattle.sys_procs.specs.Fork.{fork_one}
use Rattle.abstract_unix.specs.declared.asked.Asked.{Asked}
use Rattle.abstract_unix.specs.declared.calls.FileCall.{FileCall}
use Rattle.abstract_unix.specs.declared.calls.ProcessCall.{ProcessCall}
use Rattle.abstract_unix.specs.declared.calls.SystemCall.{SystemCall}
use Rattle.abstract_unix.specs.declared.calls.SystemCall.TheVariants.{Indirect, Exit, Fork, Unknown, OnFiles, OnProcesses}
use Rattle.abstract_unix.specs.declared.ending.Ending.TheVariants.{Slept}
use Rattle.abstract_unix.specs.Unix.{Text, Timing, Unix, process_of, with_process, mounts_of}
use Rattle.abstract_unix.specs.Errors.{error_number}
use Rattle.abstract_unix.specs.Steps.{Steps, returns, signals}
use Rattle.abstract_unix.specs.Calls.{handed_of, with_handed, world_of, with_world, with_area, given_area, refused_area, refuses, answers, file_row, process_row, did_by, came_by, forks, disk_end, waits_for_disk, takes_time, waits_in_call, reads_disk, loads_program, entered_area, words_passed, asked, does_call, does_asked, sysent_of, grows, grown_by, grows_to, exits_with, resumed}
use Rattle.abstract_unix.specs.declared.calls.Sysent.{Sysent}
use Rattle.abstract_unix.specs.declared.ending.Ending.{Ending}
use Rattle.abstract_unix.specs.declared.ending.Ending.TheVariants as ending
use Rattle.abstract_unix.specs.Delivery.{heeding, heeds, catches, signal_status, dumped, ends_after, ends_by, delivers_if, delivers_due, ends_by_ending, ends_turn}
use Rattle.abstract_unix.specs.Whole.{CanGoOn}
use Rattle.abstract_unix.specs.Turn.{faults, comes_to, waits_in, passes_setd, disk_end_of}
use Rattle.sig_core.specs.Signals.{handler_of, due}
use Rattle.sig_core.specs.Delivery.{Delivery, makes_core, signal_stack, delivery}
use Rattle.sys_files.specs.Core.{core_file, is_written}
use Rattle.sys_files.specs.Descriptors.{Closing, close_all}
use Rattle.sys_files.specs.Moving.{resumes}
use Rattle.sys_procs.specs.Break.{sized, expands, grown_stack, grow, grown_or_not}
use Rattle.sys_procs.specs.Exit.{exit_status}
use Rattle.sys_procs.specs.Resume.{awake, resume_proc}
use Rattle.abstract_unix.proofs.Owing.{some_within}
use Rattle.abstract_unix.proofs.GoingOnLemmas.{Waited, AllWaited, handed_pends, all_waited_put}
use Rattle.abstract_unix.proofs.GoingOnSteps.{SameWait, changed_waited, TrapsUser, comes_trap, resumed_trap}
use Rattle.abstract_unix.proofs.WaitingRows.{set_either, row_waited, fork_waited, end_waited, resume_waited}
use Rattle.abstract_unix.proofs.DiskRows.{row_no_disk, resume_no_disk}
use Rattle.abstract_unix.proofs.PendingRows.{Pends, close_user, core_user}
use Rattle.abstract_unix.proofs.StillWorlds.{IsStill, still_row}
use Rattle.abstract_unix.proofs.TidySteps.{delivered_held}

-- A process is in its slot, and lives.
pub record LivesIn (s : ℕ) (u : Unix) : Type 0 where
  pub there : get_or u.processes s None ≡ Some (process_of u s)
  pub lives : (process_of u s).is_zombie ≡ false
  pub fifty : length u.processes ≡ 50

module _ (s : ℕ) where
  pub lives_put : (u : Unix) (q : Process) → q.is_zombie ≡ (process_of u s).is_zombie → LivesIn s u → LivesIn s (with_process u s q)
  lives_put u q dead here =
      let at : get_or (set u.processes s (Some q)) s None ≡ Some q =
      get_or-set_same u.processes s (Some q) None (some_within u.processes s (process_of u s) here.there) in
      let is : process_of (with_process u s q) s ≡ q = ap (λ o. unwrap_or o no_process) at in
      record {
        there = at ∙ ap Some (sym is);
        lives = ap (λ (p : Process). p.is_zombie) is ∙ dead ∙ here.lives;
        fifty = length-set u.processes s (Some q) ∙ here.fifty;
      }

  still_here : (u : Unix) → LivesIn s u → IsStill (world_of u) s (world_of u)
  still_here u here = record { count = refl; told = refl; there = here.there; lives = here.lives; fifty = here.fifty }

  lives_if : (b : Bool) (x y : Steps) → LivesIn s x.unix → LivesIn s y.unix → LivesIn s (cond b x y).unix
  lives_if true x y p q = p
  lives_if false x y p q = q

  lives_answers : (u : Unix) (x : Answer) → LivesIn s u → LivesIn s (answers u s x).unix
  lives_answers u (Ret r0 r1) here = lives_put u (record (process_of u s) { u = given_area r0 r1 (process_of u s).u }) refl here
  lives_answers u (Fail e) here =
      lives_if (nat_lt (error_number e) 100) (returns (with_area u s (refused_area (error_number e)))) (signals u s SIGSYS)
      (lives_put u (record (process_of u s) { u = refused_area (error_number e) (process_of u s).u }) refl here)
      (lives_put u (signalled SIGSYS (process_of u s)) refl here)
  lives_answers u (Sleep pri chan) here = here

  lives_did : (u : Unix) (did : Did) → LivesIn s u → LivesIn s (did_by u s did).unix
  lives_did u did here =
      let q : Process = record (process_of u s) { u = did.state.u; row = did.state.row; «data» = did.state.image.data; stack = did.state.image.stack } in
      let now = lives_put u q refl here in
      lives_answers (with_handed u s did.state) did.answer (record { there = now.there; lives = now.lives; fifty = now.fifty })

  lives_came : (u : Unix) (c : Comes) → IsStill (world_of u) s c.state → LivesIn s (came_by u s c).unix
  lives_came u c k = lives_answers (with_world u c.state) c.answer (record { there = k.there; lives = k.lives; fifty = k.fifty })

module _ (P : ℕ → Type 0) (a : List (Option Process)) where
  -- who waits anew lives, and P holds of the end of that wait
  abbrev pub IsNewWait : Process → Type 0
  IsNewWait q = (q.is_zombie ≡ false) × P (disk_end_of q)

  abbrev pub Disked : List (Option Process) → Type 0
  Disked b = (r : ℕ) (q : Process) → get_or b r None ≡ Some q → q.u.pending ≡ DISK_WAIT
      → Waited (get_or a r None) q ⊎ IsNewWait q

  pub disk_then : (b c : List (Option Process)) → Disked b → AllWaited b c → Disked c
  disk_then b c first later r q is waits =
      let w = later r q is (inr waits) in
      elim (first r w.before w.there (w.pending ∙ waits)) [
        | inl sooner ↦ inl (record {
          before = sooner.before;
          there = sooner.there;
          dead = sooner.dead ∙ w.dead;
          pending = sooner.pending ∙ w.pending;
          call = sooner.call ∙ w.call;
          files = sooner.files ∙ w.files;
        })
        | inr new ↦ inr (sym w.dead ∙ new.0, subst P (ap (λ l. 65536 * slice_index l 4 + slice_index l 5) w.call) new.1)
      ]

  -- one slot is put
  pub disk_put : (b : List (Option Process)) (s : ℕ) (q : Process) → Disked b → (q.u.pending ≡ DISK_WAIT → IsNewWait q)
      → Disked (set b s (Some q))
  disk_put b s q first own r x is waits = elim (cases_eq r s) [
    | inl here ↦
        let low : s < length b = let l = some_within (set b s (Some q)) r x is in let same = length-set b s (Some q) in omega (arith, l, same, here) in
        let there : q ≡ x = let e : Some q ≡ Some x = sym (get_or-set_same b s (Some q) None low) ∙ ap (λ n. get_or (set b s (Some q)) n None) (sym here) ∙ is in cc e in
        inr (subst (λ (y : Process). IsNewWait y) there (own (ap (λ (y : Process). y.u.pending) there ∙ waits)))
    | inr other ↦ first r x (sym (get_or-set_other b s r (Some q) None other) ∙ is) waits
  ]

  pub disk_rule : (b : List (Option Process)) (s : ℕ) (rule : Process → Process) → ((p : Process) → SameWait p (rule p)) → Disked b
      → Disked (set b s (Some (rule (unwrap_or (get_or b s None) no_process))))
  disk_rule b s rule same first =
      disk_then b _ first (all_waited_put b s (Some (rule (unwrap_or (get_or b s None) no_process))) (changed_waited (get_or b s None) rule same))

module _ (P : ℕ → Type 0) (a : List (Option Process)) (s : ℕ) where
  abbrev pub D : Unix → Type 0
  D u = Disked P a u.processes

  pub disk_if : (b : Bool) (x y : Steps) → D x.unix → D y.unix → D (cond b x y).unix
  disk_if true x y p q = p
  disk_if false x y p q = q

  pub disk_signals : (u : Unix) (n : ℕ) → D u → D (signals u s n).unix
  disk_signals u n d = disk_rule P a u.processes s (signalled n) (λ p. record { dead = refl; pending = refl; call = refl; files = refl }) d

  pub disk_refuses : (u : Unix) (n : ℕ) → D u → D (refuses u s n).unix
  disk_refuses u n d = disk_if (nat_lt n 100) (returns (with_area u s (refused_area n))) (signals u s SIGSYS)
      (disk_rule P a u.processes s (λ p. record p { u = refused_area n p.u }) (λ p. record { dead = refl; pending = refl; call = refl; files = refl }) d)
      (disk_signals u SIGSYS d)

  disk_answers : (u : Unix) (x : Answer) → D u → D (answers u s x).unix
  disk_answers u (Ret r0 r1) d =
      disk_rule P a u.processes s (λ p. record p { u = given_area r0 r1 p.u }) (λ p. record { dead = refl; pending = refl; call = refl; files = refl }) d
  disk_answers u (Fail e) d = disk_refuses u (error_number e) d
  disk_answers u (Sleep pri chan) d = d

  answers_timing : (u : Unix) (x : Answer) → (answers u s x).unix.timing ≡ u.timing
  answers_timing u (Ret r0 r1) = refl
  answers_timing u (Fail e) = by (nat_lt (error_number e) 100)
    where
      by : (b : Bool) → (cond b (returns (with_area u s (refused_area (error_number e)))) (signals u s SIGSYS)).unix.timing ≡ u.timing
      by true = refl
      by false = refl
  answers_timing u (Sleep pri chan) = refl

  pub disk_did : (u : Unix) (did : Did) → (did.state.u.pending ≡ DISK_WAIT → ⊥) → D u → D (did_by u s did).unix
  disk_did u did never d = disk_answers (with_handed u s did.state) did.answer (disk_put P a u.processes s _ d (λ e. absurd (never e)))

  pub disk_came : (u : Unix) (c : Comes) → AllWaited u.processes c.state.processes → D u → D (came_by u s c).unix
  disk_came u c waited d = disk_answers (with_world u c.state) c.answer (disk_then P a u.processes c.state.processes d waited)

  -- the two words keep the number
  two_words : (n : ℕ) → 65536 * (n / 65536) + n % 65536 ≡ n
  two_words n = omega arith

  pub disk_timed : (has_read : Bool) (steps : Steps) → (process_of steps.unix s).is_zombie ≡ false
      → ((has_read && not (steps.unix.timing.disk == 0)) ≡ true → P (disk_end steps.unix.timing)) → D steps.unix
      → D (takes_time has_read s steps).unix
  disk_timed has_read steps lives own d = by (has_read && not (steps.unix.timing.disk == 0)) own
    where
      waited : Steps
      waited = record steps { unix = waits_for_disk steps.unix s; ending = Slept pribio (Disk s) }

      by : (b : Bool) → (b ≡ true → P (disk_end steps.unix.timing)) → D (cond b waited steps).unix
      by true has = disk_put P a steps.unix.processes s _ d (λ e. (lives, subst P (sym (two_words (disk_end steps.unix.timing))) (has refl)))
      by false has = d

  -- A call that has been entered and leaves its process alive.
  pub disk_file_call : (u : Unix) (call : FileCall) (args : List ℕ) → (process_of u s).u.pending ≡ NOTHING_PENDING → LivesIn s u
      → let h : Handed = handed_of u (process_of u s) in let did : Did = file_row call h s args u.clock.time in
      (waits_in_call u s (OnFiles call) args ≡ true → P (disk_end u.timing)) → D u
      → D (takes_time (reads_disk call h did.answer) s (did_by u s did)).unix
  disk_file_call u call args free here own d =
      let h : Handed = handed_of u (process_of u s) in
      let did : Did = file_row call h s args u.clock.time in
      disk_timed (reads_disk call h did.answer) (did_by u s did) (lives_did s u did here).lives
      (λ waits. let same : (did_by u s did).unix.timing ≡ u.timing = answers_timing (with_handed u s did.state) did.answer in
      subst (λ (t : Timing). P (disk_end t)) (sym same)
      (own (ap (λ (t : Timing). reads_disk call h did.answer && not (t.disk == 0)) (sym same) ∙ waits)))
      (disk_did u did (row_no_disk call h s args u.clock.time free) d)

  pub disk_process_call : (u : Unix) (call : ProcessCall) (args : List ℕ) → (process_of u s).u.pending ≡ NOTHING_PENDING → LivesIn s u
      → let c : Comes = process_row call (mounts_of u) (world_of u) s args in
      (waits_in_call u s (OnProcesses call) args ≡ true → P (disk_end u.timing)) → D u
      → D (takes_time (loads_program call c.answer) s (came_by u s c)).unix
  disk_process_call u call args free here own d =
      let c : Comes = process_row call (mounts_of u) (world_of u) s args in
      disk_timed (loads_program call c.answer) (came_by u s c) (lives_came s u c (still_row (world_of u) s call (mounts_of u) (world_of u) args (still_here s u here))).lives
      (λ waits. let same : (came_by u s c).unix.timing ≡ u.timing = answers_timing (with_world u c.state) c.answer in
      subst (λ (t : Timing). P (disk_end t)) (sym same)
      (own (ap (λ (t : Timing). loads_program call c.answer && not (t.disk == 0)) (sym same) ∙ waits)))
      (disk_came u c (row_waited (world_of u) s free call (mounts_of u) args) d)

  pub disk_fork : (u : Unix) → (process_of u s).u.pending ≡ NOTHING_PENDING → D u → D (forks u s).unix
  disk_fork u free d = disk_came u (fork_one (world_of u) s) (fork_waited (world_of u) s free) d

module _ (P : ℕ → Type 0) (a : List (Option Process)) (s : ℕ) where
  -- what is put into a slot waits for nothing
  free_put : (ps : List (Option Process)) (q : Process) → (unwrap_or (get_or ps s None) no_process).u.pending ≡ NOTHING_PENDING → q.u.pending ≡ NOTHING_PENDING
      → (unwrap_or (get_or (set ps s (Some q)) s None) no_process).u.pending ≡ NOTHING_PENDING
  free_put ps q old new = set_either (λ o. (unwrap_or o no_process).u.pending ≡ NOTHING_PENDING) ps s (Some q) None new old

  disk_exits : (u : Unix) (status : ℕ) → (process_of u s).u.pending ≡ NOTHING_PENDING → D P a s u → D P a s (exits_with u s status).unix
  disk_exits u status free d =
      let h : Handed = handed_of u (process_of u s) in
      let closed : Closing = close_all h in
      let none : closed.state.u.pending ≡ NOTHING_PENDING = close_user h free in
      let q : Process = record (process_of u s) { u = closed.state.u; row = closed.state.row; «data» = closed.state.image.data; stack = closed.state.image.stack } in
      let now : Unix = with_handed u s closed.state in
      disk_then P a now.processes _ (disk_put P a u.processes s q d (λ e. absurd (omega (arith, none, e))))
      (end_waited (world_of now) s (free_put u.processes q free none) status)

  disk_sized : (u : Unix) (size n : ℕ) → D P a s u → D P a s (with_process u s (sized size n (process_of u s)))
  disk_sized u size n d = disk_rule P a u.processes s (sized size n) (λ p. record { dead = refl; pending = refl; call = refl; files = refl }) d

  disk_grows : (u : Unix) (sp : ℕ) → D P a s u → D P a s (grows_to u s sp).unix
  unfolding grow
  disk_grows u sp d = by (grown_stack p.u.text_size p.u.data_size p.u.stack_size u.limit sp)
    where
      p : Process
      p = process_of u s

      by : (o : Option ℕ) → D P a s (grown_by u s (option_map (expands (world_of u) s p.u.data_size) o)).unix
      by None = disk_signals P a s u SIGSEG d
      by (Some n) = disk_sized u p.u.data_size n d

  disk_grown : (u : Unix) (sp : ℕ) → D P a s u → D P a s (grows u (grown_or_not (world_of u) s (grow (world_of u) s sp))).unix
  unfolding grow
  disk_grown u sp d = by (grown_stack p.u.text_size p.u.data_size p.u.stack_size u.limit sp)
    where
      p : Process
      p = process_of u s

      by : (o : Option ℕ) → D P a s (grows u (grown_or_not (world_of u) s (option_map (expands (world_of u) s p.u.data_size) o))).unix
      by None = d
      by (Some n) = disk_sized u p.u.data_size n d

  disk_faults : (u : Unix) (k : Kind) → D P a s u → D P a s (faults u s k).unix
  disk_faults u kind.Odd d = disk_signals P a s u SIGBUS d
  disk_faults u (kind.Segment sp) d = disk_grows u sp d
  disk_faults u (kind.Illegal word) d =
      disk_if P a s (passes_setd u s word) (returns u) (signals u s SIGINS) d (disk_signals P a s u SIGINS d)
  disk_faults u kind.Bpt d = disk_signals P a s u SIGTRC d
  disk_faults u kind.Iot d = disk_signals P a s u SIGIOT d
  disk_faults u kind.Emt d = disk_signals P a s u SIGEMT d

  disk_call : (u : Unix) (call : SystemCall) (args : List ℕ) → (process_of u s).u.pending ≡ NOTHING_PENDING → LivesIn s u
      → (waits_in_call u s call args ≡ true → P (disk_end u.timing)) → D P a s u
      → D P a s (does_call u s call args).unix
  disk_call u Indirect args free here own d = d
  disk_call u Exit args free here own d = disk_exits u (exit_status (process_of u s)) free d
  disk_call u Fork args free here own d = disk_fork P a s u free d
  disk_call u Unknown args free here own d = disk_refuses P a s u (error_number ENOSYS) d
  disk_call u (OnFiles call) args free here own d = disk_file_call P a s u call args free here own d
  disk_call u (OnProcesses call) args free here own d = disk_process_call P a s u call args free here own d

  disk_asked : (u : Unix) (x : Asked) (entry : Sysent) → (process_of u s).u.pending ≡ NOTHING_PENDING → LivesIn s u
      → (waits_in_call (with_area u s (entered_area (words_passed x entry.count))) s entry.call x.args ≡ true → P (disk_end u.timing)) → D P a s u
      → D P a s (does_asked u s x entry).unix
  disk_asked u x entry free here own d =
      let rule : Process → Process = λ p. record p { u = entered_area (words_passed x entry.count) p.u } in
      disk_call (with_process u s (rule (process_of u s))) entry.call x.args (free_put u.processes (rule (process_of u s)) free free)
      (lives_put s u (rule (process_of u s)) refl here) own
      (disk_rule P a u.processes s rule (λ p. record { dead = refl; pending = refl; call = refl; files = refl }) d)

  disk_outcome : (u : Unix) (o : Outcome) → (process_of u s).u.pending ≡ NOTHING_PENDING → LivesIn s u
      → (waits_in u s o ≡ true → P (disk_end u.timing)) → D P a s u → D P a s (comes_to u s o).unix
  disk_outcome u outcome.Next free here own d = d
  disk_outcome u (outcome.Call number) free here own d =
      let x : Asked = asked (image_of u.texts (process_of u s)) (register (process_of u s) 7) number in
      disk_asked u x (sysent_of x.number) free here own d
  disk_outcome u (outcome.Fault k) free here own d = disk_faults u k d

  disk_resumed : (u : Unix) → Pends (handed_of u (process_of u s)) → D P a s u → D P a s (resumed u s).unix
  disk_resumed u pends d = first ((process_of u s).u.pending == DISK_WAIT)
    where
      h : Handed
      h = handed_of u (process_of u s)

      by : (b : Bool) → is_on_files (process_of u s).u.pending ≡ b
          → D P a s (cond b (did_by u s (resumes h s u.clock.time)) (came_by u s (resume_proc (world_of u) s))).unix
      by true on = disk_did P a s u (resumes h s u.clock.time) (resume_no_disk h s u.clock.time on pends) d
      by false on = disk_came P a s u (resume_proc (world_of u) s) (resume_waited (world_of u) s) d

      others : Steps
      others = cond (is_on_files (process_of u s).u.pending) (did_by u s (resumes h s u.clock.time)) (came_by u s (resume_proc (world_of u) s))

      first : (b : Bool) → D P a s (cond b (returns (with_process u s (awake (process_of u s)))) others).unix
      first true = disk_put P a u.processes s (awake (process_of u s)) d (λ e. absurd (omega (arith, e)))
      first false = by (is_on_files (process_of u s).u.pending) refl

  -- A signal is delivered.
  disk_ends_by : (u : Unix) (sig : ℕ) → (process_of u s).u.pending ≡ NOTHING_PENDING → D P a s u → D P a s (ends_by u s sig).unix
  disk_ends_by u sig free d =
      let h : Handed = handed_of u (process_of u s) in
      let core : Did = core_file h u.clock.time in
      let none : core.state.u.pending ≡ NOTHING_PENDING = core_user h u.clock.time free in
      let q : Process = record (process_of u s) { u = core.state.u; row = core.state.row; «data» = core.state.image.data; stack = core.state.image.stack } in
      disk_if P a s (makes_core sig) (ends_after u s sig core) (exits_with u s (signal_status u s sig))
      (disk_exits (with_handed u s core.state) (signal_status u s sig + cond (is_written core.answer) dumped 0) (free_put u.processes q free none)
      (disk_put P a u.processes s q d (λ e. absurd (omega (arith, none, e)))))
      (disk_exits u (signal_status u s sig) free d)

  disk_catches : (u : Unix) (sig : ℕ) → D P a s u → D P a s (catches u s sig).unix
  disk_catches u sig d =
      let grown : Steps = grows u (grown_or_not (world_of u) s (grow (world_of u) s (signal_stack (process_of u s).u))) in
      let texts : List (Option Text) = grown.unix.texts in
      let rule : Process → Process = (λ p. let x : Delivery = delivery p.u sig (image_of texts p) in
      record p { u = x.area; «data» = x.image.data; stack = x.image.stack }) in
      disk_rule P a grown.unix.processes s rule
      (λ p. let k = delivered_held s p sig (image_of texts p) in record { dead = k.dead; pending = k.pending; call = k.call; files = k.files })
      (disk_grown u (signal_stack (process_of u s).u) d)

  pub disk_due : (u : Unix) → (process_of u s).u.pending ≡ NOTHING_PENDING → D P a s u → D P a s (delivers_due u s).unix
  unfolding delivers_due
  disk_due u free d = by (due (process_of u s).row (process_of u s).u)
    where
      now : D P a s (heeds u s)
      now = disk_rule P a u.processes s heeding (λ p. record { dead = refl; pending = refl; call = refl; files = refl }) d

      by : (o : Option ℕ) → D P a s (delivers_if u s o).unix
      by None = d
      by (Some sig) =
          disk_if P a s (handler_of (process_of u s).u sig == 0) (ends_by (heeds u s) s sig) (catches (heeds u s) s sig)
          (disk_ends_by (heeds u s) sig (free_put u.processes (heeding (process_of u s)) free free) now) (disk_catches (heeds u s) sig now)

  -- The turn's end.
  disk_ends : (steps : Steps) → D P a s steps.unix → TrapsUser s steps → D P a s (ends_turn s steps).unix
  disk_ends steps begun traps = by steps.ending refl
    where
      by : (e : Ending) → steps.ending ≡ e → D P a s (ends_by_ending s steps e).unix
      by ending.Next is = begun
      by ending.Trapped is = disk_due steps.unix (traps is) begun
      by (ending.Slept pri chan) is = begun
      by ending.Ended is = begun
      by (ending.Panic kind) is = begun

  -- A turn in which an instruction has come to this, and one that goes on with a call.
  pub disk_comes : (u : Unix) (o : Outcome) → (process_of u s).u.pending ≡ NOTHING_PENDING → LivesIn s u
      → (waits_in u s o ≡ true → P (disk_end u.timing)) → D P a s u → D P a s (ends_turn s (comes_to u s o)).unix
  disk_comes u o free here own d =
      disk_ends (comes_to u s o) (disk_outcome u o free here own d)
      (comes_trap s u o (some_within u.processes s (process_of u s) here.there) free)

  pub disk_goes_on : (u : Unix) → CanGoOn u → LivesIn s u → D P a s u → D P a s (ends_turn s (resumed u s)).unix
  disk_goes_on u can here d =
      disk_ends (resumed u s) (disk_resumed u (handed_pends u s can here.there here.lives) d) (resumed_trap s u can here.there here.lives)
