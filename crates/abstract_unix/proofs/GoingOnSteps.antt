-- A process that comes out of a trap waits for nothing, and what comes from outside keeps who waits in a call on a file.
use Rattle.std.proofs.Common.{◌≡◌, ◌<◌, ◌∙◌, ◌==◌, ◌&&◌, not, ℕ, Bool, true, false, cond, nat_lt, List, [], length, get_or, Option, Some, None, refl, ap, arith, option_map, unwrap_or}
use Rattle.std.proofs.lemmas.Bool.{eqb-true, eq-eqb}
use Rattle.std.proofs.lemmas.List.{get_or-set_same, length-set}
use Rattle.v6_base.specs.declared.answer.Answer.{Answer}
use Rattle.v6_base.specs.declared.answer.Answer.TheVariants.{Ret, Fail, Sleep}
use Rattle.v6_base.specs.declared.errno.Errno.TheVariants.{ENOSYS}
use Rattle.pdp_step.specs.declared.outcome.Kind.{Kind}
use Rattle.pdp_step.specs.declared.outcome.Kind.TheVariants as kind
use Rattle.pdp_step.specs.declared.outcome.Outcome.{Outcome}
use Rattle.pdp_step.specs.declared.outcome.Outcome.TheVariants as outcome
use Rattle.pdp_step.specs.Instruction.{Stepped, instr}
use Rattle.u_area.specs.declared.layout.TheConstants.{NOTHING_PENDING, DISK_WAIT}
use Rattle.u_area.specs.Pending.{is_on_files}
use Rattle.sig_core.specs.declared.numbers.TheConstants.{SIGINS, SIGTRC, SIGIOT, SIGEMT, SIGBUS, SIGSEG, SIGSYS}
use Rattle.sys_files.specs.Handed.{Handed}
use Rattle.sys_files.specs.Did.{Did}
use Rattle.sys_files.specs.Moving.{resumes}
use Rattle.sys_procs.specs.Process.{Process, no_process, register, image_of}
use Rattle.sys_procs.specs.Comes.{Comes}
use Rattle.sys_procs.specs.Break.{sized, expands, grown_stack, grow}
use Rattle.sys_procs.specs.Fork.{fork_one}
use Rattle.sys_procs.specs.Resume.{awake, resume_proc}
use Rattle.sys_procs.specs.Signals.{signalled, all_signalled, has_line}
use Rattle.abstract_unix.specs.declared.asked.Asked.{Asked}
use Rattle.abstract_unix.specs.declared.calls.SystemCall.{SystemCall}
use Rattle.abstract_unix.specs.declared.calls.SystemCall.TheVariants.{Indirect, Exit, Fork, Unknown, OnFiles, OnProcesses}
use Rattle.abstract_unix.specs.declared.calls.Sysent.{Sysent}
use Rattle.v6_base.specs.declared.entry.Chan.TheVariants.{Disk}
use Rattle.pick_rules.specs.Priority.{pribio}
use Rattle.abstract_unix.specs.declared.ending.Ending.TheVariants.{Trapped, Slept}
use Rattle.abstract_unix.specs.Unix.{Unix, System, process_of, with_process, mounts_of}
use Rattle.abstract_unix.specs.Errors.{error_number}
use Rattle.abstract_unix.specs.Steps.{Steps, returns, signals}
use Rattle.abstract_unix.specs.Calls.{handed_of, with_handed, world_of, with_world, with_area, entered_area, given_area, refused_area, words_passed, asked, refuses, answers, did_by, came_by, grown_by, grows_to, file_row, process_row, reads_disk, loads_program, waits_for_disk, takes_time, does_call, does_asked, sysent_of, resumed}
use Rattle.abstract_unix.specs.Turn.{machine_of, with_machine, passes_setd, faults, comes_to, instruction, is_user, begins_turn}
use Rattle.abstract_unix.specs.Whole.{CanGoOn}
use Rattle.abstract_unix.proofs.Owing.{some_within}
use Rattle.abstract_unix.proofs.PendingRows.{is_sleep, row_user, resume_user}
use Rattle.abstract_unix.proofs.GoingOnLemmas.{WaitedIn, like_waited, user_waited, waited_goes_on, handed_pends}
use Rattle.abstract_unix.proofs.WaitingRows.{set_either, process_user, resumed_user, fork_user, key_waited}

-- A process waits as another one does.
pub record SameWait (p q : Process) : Type 0 where
  pub dead : q.is_zombie ≡ p.is_zombie
  pub pending : q.u.pending ≡ p.u.pending
  pub call : q.u.call ≡ p.u.call
  pub files : q.u.files ≡ p.u.files

-- A process changes by a rule that leaves its call and its numbers: nobody needs to know that it is there.
pub changed_waited : (o : Option Process) (rule : Process → Process) → ((p : Process) → SameWait p (rule p))
    → WaitedIn o (Some (rule (unwrap_or o no_process)))
changed_waited None rule same = user_waited None (rule no_process) (same no_process).pending
changed_waited (Some p) rule same = let keeps = same p in like_waited p (rule p) keeps.dead keeps.pending keeps.call keeps.files

-- what is in a slot waits for nothing, also where nobody is in it
abbrev pub IsUserIn : Unix → ℕ → Type 0
IsUserIn u s = (process_of u s).u.pending ≡ NOTHING_PENDING

put_user : (u : Unix) (s : ℕ) (q : Process) → IsUserIn u s → q.u.pending ≡ NOTHING_PENDING → IsUserIn (with_process u s q) s
put_user u s q old new = set_either (λ o. (unwrap_or o no_process).u.pending ≡ NOTHING_PENDING) u.processes s (Some q) None new old

pub user_is : (u : Unix) (s : ℕ) → IsUserIn u s → is_user (process_of u s) ≡ true
user_is u s free = eq-eqb (process_of u s).u.pending NOTHING_PENDING free

pub user_free : (u : Unix) (s : ℕ) → is_user (process_of u s) ≡ true → IsUserIn u s
user_free u s user = eqb-true (process_of u s).u.pending NOTHING_PENDING user

-- Steps that end in a trap leave a process that waits for nothing.
abbrev pub TrapsUser : ℕ → Steps → Type 0
TrapsUser s steps = steps.ending ≡ Trapped → IsUserIn steps.unix s

module _ (s : ℕ) where
  if_traps : (b : Bool) (x y : Steps) → TrapsUser s x → TrapsUser s y → TrapsUser s (cond b x y)
  if_traps true x y p q = p
  if_traps false x y p q = q

  signals_trap : (u : Unix) (n : ℕ) → IsUserIn u s → TrapsUser s (signals u s n)
  signals_trap u n free ends = put_user u s (signalled n (process_of u s)) free free

  refuses_trap : (u : Unix) (n : ℕ) → IsUserIn u s → TrapsUser s (refuses u s n)
  refuses_trap u n free = by (nat_lt n 100)
    where
      p : Process
      p = process_of u s

      by : (b : Bool)
          → TrapsUser s (cond b (record { effects = []; unix = with_area u s (refused_area n); ending = Trapped }) (signals u s SIGSYS))
      by true ends = put_user u s (record p { u = refused_area n p.u }) free free
      by false ends = signals_trap u SIGSYS free ends

  -- what a call answers
  answers_trap : (u : Unix) (a : Answer) → (is_sleep a ≡ false → IsUserIn u s) → TrapsUser s (answers u s a)
  answers_trap u (Ret r0 r1) awake ends =
      let p : Process = process_of u s in
      put_user u s (record p { u = given_area r0 r1 p.u }) (awake refl) (awake refl)
  answers_trap u (Fail e) awake ends = refuses_trap u (error_number e) (awake refl) ends
  answers_trap u (Sleep pri chan) awake ends = absurd (cc ends)

  -- a call on files, and one on processes
  handed_user : (u : Unix) (h : Handed) → s < length u.processes → h.u.pending ≡ NOTHING_PENDING → IsUserIn (with_handed u s h) s
  handed_user u h low free =
      let q : Process = record (process_of u s) { u = h.u; row = h.row; «data» = h.image.data; stack = h.image.stack } in
      ap (λ o. (unwrap_or o no_process).u.pending) (get_or-set_same u.processes s (Some q) None low) ∙ free

  did_trap : (u : Unix) (did : Did) → s < length u.processes → (is_sleep did.answer ≡ false → did.state.u.pending ≡ NOTHING_PENDING)
      → TrapsUser s (did_by u s did)
  did_trap u did low awake = answers_trap (with_handed u s did.state) did.answer (λ e. handed_user u did.state low (awake e))

  came_trap : (u : Unix) (c : Comes) → (is_sleep c.answer ≡ false → IsUserIn (with_world u c.state) s)
      → TrapsUser s (came_by u s c)
  came_trap u c awake = answers_trap (with_world u c.state) c.answer awake

  -- a call that waits for the disk doesn't end in a trap
  timed_trap : (has_read : Bool) (steps : Steps) → TrapsUser s steps → TrapsUser s (takes_time has_read s steps)
  timed_trap has_read steps traps = by (has_read && not (steps.unix.timing.disk == 0))
    where
      by : (b : Bool)
          → TrapsUser s (cond b (record steps { unix = waits_for_disk steps.unix s; ending = Slept pribio (Disk s) }) steps)
      by true ends = absurd (cc ends)
      by false ends = traps ends

  call_trap : (u : Unix) (call : SystemCall) (args : List ℕ) → s < length u.processes → IsUserIn u s
      → TrapsUser s (does_call u s call args)
  call_trap u Indirect args low free ends = free
  call_trap u Exit args low free ends = absurd (cc ends)
  call_trap u Fork args low free ends = came_trap u (fork_one (world_of u) s) (fork_user (world_of u) s free) ends
  call_trap u Unknown args low free ends = refuses_trap u (error_number ENOSYS) free ends
  call_trap u (OnFiles call) args low free ends =
      let h : Handed = handed_of u (process_of u s) in
      let did : Did = file_row call h s args u.clock.time in
      timed_trap (reads_disk call h did.answer) (did_by u s did) (did_trap u did low (row_user call h s args u.clock.time free)) ends
  call_trap u (OnProcesses call) args low free ends =
      let c : Comes = process_row call (mounts_of u) (world_of u) s args in
      timed_trap (loads_program call c.answer) (came_by u s c) (came_trap u c (process_user (world_of u) s free call (mounts_of u) args)) ends

  asked_trap : (u : Unix) (a : Asked) (entry : Sysent) → s < length u.processes → IsUserIn u s
      → TrapsUser s (does_asked u s a entry)
  asked_trap u a entry low free =
      let p : Process = process_of u s in
      let q : Process = record p { u = entered_area (words_passed a entry.count) p.u } in
      call_trap (with_process u s q) entry.call a.args (let same = length-set u.processes s (Some q) in omega (arith, low, same)) (put_user u s q free free)

  -- a stack that grows, or a signal
  grown_trap : (u : Unix) (o : Option ℕ) → IsUserIn u s
      → TrapsUser s (grown_by u s (option_map (expands (world_of u) s (process_of u s).u.data_size) o))
  grown_trap u None free ends = signals_trap u SIGSEG free ends
  grown_trap u (Some n) free ends = put_user u s (sized (process_of u s).u.data_size n (process_of u s)) free free

  grows_trap : (u : Unix) (sp : ℕ) → IsUserIn u s → TrapsUser s (grows_to u s sp)
  unfolding grow
  grows_trap u sp free =
      let p : Process = process_of u s in grown_trap u (grown_stack p.u.text_size p.u.data_size p.u.stack_size u.limit sp) free

  faults_trap : (u : Unix) (k : Kind) → IsUserIn u s → TrapsUser s (faults u s k)
  faults_trap u kind.Odd free = signals_trap u SIGBUS free
  faults_trap u (kind.Segment sp) free = grows_trap u sp free
  faults_trap u (kind.Illegal word) free = if_traps (passes_setd u s word) _ _ (λ ends. free) (signals_trap u SIGINS free)
  faults_trap u kind.Bpt free = signals_trap u SIGTRC free
  faults_trap u kind.Iot free = signals_trap u SIGIOT free
  faults_trap u kind.Emt free = signals_trap u SIGEMT free

  pub comes_trap : (u : Unix) (o : Outcome) → s < length u.processes → IsUserIn u s → TrapsUser s (comes_to u s o)
  comes_trap u outcome.Next low free ends = absurd (cc ends)
  comes_trap u (outcome.Call number) low free ends =
      let a : Asked = asked (image_of u.texts (process_of u s)) (register (process_of u s) 7) number in
      asked_trap u a (sysent_of a.number) low free ends
  comes_trap u (outcome.Fault k) low free ends = faults_trap u k free ends

  instruction_trap : (u : Unix) → s < length u.processes → IsUserIn u s → TrapsUser s (instruction u s)
  instruction_trap u low free =
      let p : Process = process_of u s in
      let step : Stepped = instr (machine_of u.texts p) in
      let q : Process = with_machine p step.machine in
      comes_trap (with_process u s q) step.outcome (let same = length-set u.processes s (Some q) in omega (arith, low, same)) (put_user u s q free free)

  pub resumed_trap : (u : Unix) → CanGoOn u → get_or u.processes s None ≡ Some (process_of u s)
      → (process_of u s).is_zombie ≡ false → TrapsUser s (resumed u s)
  resumed_trap u can is lives = first ((process_of u s).u.pending == DISK_WAIT)
    where
      h : Handed
      h = handed_of u (process_of u s)

      rests : Unix
      rests = with_process u s (awake (process_of u s))

      by : (b : Bool) → is_on_files (process_of u s).u.pending ≡ b
          → TrapsUser s (cond b (did_by u s (resumes h s u.clock.time)) (came_by u s (resume_proc (world_of u) s)))
      by true on =
          did_trap u (resumes h s u.clock.time) (some_within u.processes s (process_of u s) is)
          (resume_user h s u.clock.time on (handed_pends u s can is lives))
      by false on = came_trap u (resume_proc (world_of u) s) (resumed_user (world_of u) s)

      others : Steps
      others = cond (is_on_files (process_of u s).u.pending) (did_by u s (resumes h s u.clock.time)) (came_by u s (resume_proc (world_of u) s))

      first : (b : Bool) → TrapsUser s (cond b (returns rests) others)
      first true ends = ap (λ o. (unwrap_or o no_process).u.pending) (get_or-set_same u.processes s (Some (awake (process_of u s))) None
          (some_within u.processes s (process_of u s) is))
      first false ends = by (is_on_files (process_of u s).u.pending) refl ends

-- A turn that comes out of a trap leaves its process in user mode.
pub trapped_user : (m : System) (s : ℕ) → CanGoOn m.unix → get_or m.unix.processes s None ≡ Some (process_of m.unix s)
    → (process_of m.unix s).is_zombie ≡ false → (begins_turn m s).ending ≡ Trapped
    → is_user (process_of (begins_turn m s).unix s) ≡ true
trapped_user m s can is lives ends = user_is (begins_turn m s).unix s (by (is_user (process_of m.unix s)) refl ends)
  where
    u : Unix
    u = m.unix

    by : (b : Bool) → is_user (process_of u s) ≡ b → TrapsUser s (cond b (instruction u s) (resumed u s))
    by true user = instruction_trap s u (some_within u.processes s (process_of u s) is) (user_free u s user)
    by false user = resumed_trap s u can is lives

-- those who have a line have a signal
pub line_goes_on : (l n : ℕ) (u : Unix) → CanGoOn u → CanGoOn (record u { processes = all_signalled (has_line l) n u.processes })
line_goes_on l n u can =
    waited_goes_on u (record u { processes = all_signalled (has_line l) n u.processes }) can (key_waited (has_line l) n u.processes) refl
