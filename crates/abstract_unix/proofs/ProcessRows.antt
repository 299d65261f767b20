-- What the rows of the calls on processes are made of, once for all that is said of them.
use Rattle.std.proofs.Common.{◌≡◌, ◌<◌, ◌≤◌, ◌∙◌, ◌&&◌, ◌==◌, ◌+◌, not, is_some, slice_index, ◌*◌, ◌%◌, ◌^◌, ◌-ℤ◌, ℕ, ℤ, pos, nat_lt, nat_le, Bool, true, false, cond, List, Option, Some, None, get_or, refl, sym, ap, arith}
use Rattle.std.proofs.lemmas.Bool.{ltb-true, ltb-false}
use Rattle.std.proofs.lemmas.Int.{ints, int_min_is}
use Rattle.std.proofs.lemmas.Nat.{mod_below}
use Rattle.std.specs.Prelude.{⊤}
use Rattle.std.specs.Int.{int_min}
use Rattle.std.proofs.Math.ListN.{get_or-map}
use Rattle.v6_base.specs.Image.{Image}
use Rattle.v6_base.specs.declared.entry.Chan.{Chan}
use Rattle.v6_base.specs.declared.entry.Chan.TheVariants.{Tout, Wait}
use Rattle.v6_base.specs.declared.entry.Entry.TheVariants as line
use Rattle.v6_base.specs.declared.errno.Errno.{Errno}
use Rattle.v6_base.specs.declared.errno.Errno.TheVariants.{EPERM, EFAULT, ECHILD, EINTR, EINVAL}
use Rattle.pick_rules.specs.Priority.{pslep, pwait}
use Rattle.pick_rules.specs.Ranges.{IsTime, IsPriority, IsChannel}
use Rattle.pick_rules.specs.Fits.{IsSleep}
use Rattle.proc_tab.specs.declared.child.Child.{Child}
use Rattle.proc_tab.specs.declared.child.Child.TheVariants.{NoChild, Living, Dead}
use Rattle.proc_tab.specs.Processes.{passes}
use Rattle.proc_tab.specs.Children.{Tells, child, is_dead_child_of}
use Rattle.proc_tab.proofs.SearchLemmas.{tells}
use Rattle.u_area.specs.declared.layout.TheConstants.{DISK_WAIT}
use Rattle.u_area.specs.Pending.{is_on_files}
use Rattle.image_keep.specs.Kept.{clicks_of}
use Rattle.sig_core.specs.declared.numbers.TheConstants.{SIGKIL}
use Rattle.sig_core.specs.Signals as signal
use Rattle.mount_tab.specs.Mounted.{MountTable}
use Rattle.sys_procs.specs.Process.{Process, member_of, register, is_super}
use Rattle.sys_procs.specs.World.{World, process_of, change, without_process, members}
use Rattle.sys_procs.specs.Comes.{Comes, gives_two, fails, sleeps, unless_due, logs}
use Rattle.sys_procs.specs.Ids.{pid_of, as_user, as_group, id_given, set_uid, get_uid, set_gid, get_gid, switches, no_op, signed_in, kept_nice, nice_to}
use Rattle.sys_procs.specs.Times.{time_now, with_time, set_time, stored, times_to, sleeping_until, until_of, tout_with, with_sleeper, sleep_until, sleep_for}
use Rattle.sys_procs.specs.Wait.{with_times_of, waiting, waits_for, wait_child}
use Rattle.sys_procs.specs.Resume.{awake, resume_proc}
use Rattle.sys_procs.specs.Signals.{asking, signal_set}
use Rattle.abstract_unix.specs.declared.calls.ProcessCall.{ProcessCall}
use Rattle.abstract_unix.specs.declared.calls.ProcessCall.TheVariants as process
use Rattle.abstract_unix.specs.Calls.{process_row}
use Rattle.abstract_unix.specs.Turn.{is_user}

-- a process that has the same image, text, files and directory, and that lives as the other does
pub record SameProcess (p q : Process) : Type 0 where
  pub dead : q.is_zombie ≡ p.is_zombie
  pub size : clicks_of q.u ≡ clicks_of p.u
  pub text : q.text ≡ p.text
  pub files : q.u.files ≡ p.u.files
  pub dir : q.u.dir ≡ p.u.dir

-- a process that waits in a call, in none on files and not for the disk
pub record IsApart (p : Process) : Type 0 where
  pub waits : is_user p ≡ false
  pub apart : is_on_files p.u.pending ≡ false
  pub other : (p.u.pending == DISK_WAIT) ≡ false

-- a dead process in a slot
pub record IsGrave (w : World) (d : ℕ) : Type 0 where
  pub process : Process
  pub at : get_or w.processes d None ≡ Some process
  pub dead : process.is_zombie ≡ true
  pub above : 0 < d
  pub below : d < 50

-- A call of the process of a slot that wants no place for an image: it changes that process, the clock, or a slot of a
-- dead child, it logs, and it is answered.
pub data Plain (s : ℕ) : World → Comes → Type 0 where
  gives : (w : World) (r0 r1 : ℕ) → Plain s w (gives_two w r0 r1)
  refuses : (w : World) (e : Errno) → Plain s w (fails w e)
  waits : (w : World) (rule : Process → Process) (pri : ℤ) (chan : Chan) → SameProcess (process_of w s) (rule (process_of w s))
      → IsApart (rule (process_of w s)) → IsSleep s chan pri → (s ≤ 49 → IsChannel chan) → Plain s w (sleeps (change w s rule) pri chan)
  changes : (w : World) (rule : Process → Process) (c : Comes) → SameProcess (process_of w s) (rule (process_of w s))
      → (rule (process_of w s)).u.pending ≡ (process_of w s).u.pending → Plain s (change w s rule) c → Plain s w c
  due : (w : World) (tout : ℕ) (c : Comes) → Plain s (record w { clock = record w.clock { tout = tout } }) c → Plain s w c
  nice : (w : World) (value : ℤ) (c : Comes) → IsPriority value → Plain s w c → Plain s w (logs (line.Nice s value) c)
  wakes : (w : World) (chan : Chan) (c : Comes) → IsChannel chan → Plain s w c → Plain s w (logs (line.Wake chan) c)
  dated : (w : World) (time : ℕ) (c : Comes) → IsTime time → Plain s (with_time w time) c → Plain s w (logs (line.Time time) c)
  buries : (w : World) (d : ℕ) (c : Comes) → IsGrave w d → Plain s (without_process w d) c → Plain s w (logs (line.Reap d) c)

-- who is found as a dead child is dead
grave : (w : World) (pid d : ℕ) → Tells (members w) pid (Dead d) → IsGrave w d
grave w pid d found = by (get_or w.processes d None) refl (ap (passes (is_dead_child_of pid)) (sym (get_or-map member_of w.processes d None)) ∙ found.passes)
  where
    second : (a b : Bool) → (a && b) ≡ true → b ≡ true
    second true b e = e
    second false b e = absurd (cc e)

    by : (o : Option Process) → get_or w.processes d None ≡ o → passes (is_dead_child_of pid) (member_of o) ≡ true → IsGrave w d
    by None at e = absurd (cc e)
    by (Some p) at e = record { process = p; at = at; dead = second (p.row.ppid == pid) p.is_zombie e; above = found.above; below = found.low }

module _ (s : ℕ) (w : World) where
  if_plain : (b : Bool) (x y : Comes) → Plain s w x → Plain s w y → Plain s w (cond b x y)
  if_plain true x y p q = p
  if_plain false x y p q = q

  -- a sleep that a signal may break
  unless_plain : (sleep : Comes) → Plain s w sleep → Plain s w (unless_due w s sleep)
  unless_plain sleep p = if_plain (is_some (signal.due (process_of w s).row (process_of w s).u)) _ _ (refuses w EINTR) p

  -- 7, wait, and each time that it goes on
  waits_plain : (told : Child) (pid : ℕ) → Tells (members w) pid told → Plain s w (waits_for w s told)
  waits_plain NoChild pid t = refuses w ECHILD
  waits_plain Living pid t =
      unless_plain _ (waits w waiting pwait (Wait s) (record { dead = refl; size = refl; text = refl; files = refl; dir = refl })
      (record { waits = refl; apart = refl; other = refl }) (refl, refl) (λ low. low))
  waits_plain (Dead d) pid t =
      buries w d _ (grave w pid d t)
      (changes (without_process w d) (λ p. record p { u = with_times_of p.u (process_of w d).u }) _
      (record { dead = refl; size = refl; text = refl; files = refl; dir = refl }) refl (gives _ _ _))

  pub wait_plain : Plain s w (wait_child w s)
  unfolding wait_child
  wait_plain = waits_plain (child (members w) (process_of w s).row.pid) (process_of w s).row.pid (tells (members w) (process_of w s).row.pid)

-- 35, sleep, and each time that it goes on
module _ (s : ℕ) (w : World) where
  pub until_plain : (until : ℕ) → Plain s w (sleep_until w s until)
  unfolding sleep_until
  until_plain until =
      if_plain s w (nat_le until w.clock.time) _ _ (gives w _ _)
      (due w (tout_with w.clock until) _
      (unless_plain s (with_sleeper w until) _
      (waits _ (sleeping_until until) pslep Tout (record { dead = refl; size = refl; text = refl; files = refl; dir = refl })
      (record { waits = refl; apart = refl; other = refl }) refl (λ low. tt))))

  stored_plain : (o : Option Image) → Plain s w (stored w s o)
  stored_plain None = refuses w EFAULT
  stored_plain (Some image) =
      changes w (λ p. record p { «data» = image.data; stack = image.stack }) _
      (record { dead = refl; size = refl; text = refl; files = refl; dir = refl }) refl (gives _ _ _)

-- what a nice logs has eight bits
at_most_20 : (value : ℕ) → IsPriority (int_min (pos 20) (pos value))
at_most_20 value = let m = int_min_is (pos 20) (pos value) in (omega (arith, ints, m), omega (arith, ints, m))

eight_bits : (value : ℕ) → IsPriority (kept_nice value)
eight_bits value = by (value % 256) (mod_below value 256 (omega arith))
  where
    by : (n : ℕ) → n < 256 → IsPriority (signed_in 256 n)
    by n l = cases (nat_lt (2 * n) 256) refl
      where
        cases : (b : Bool) → nat_lt (2 * n) 256 ≡ b → IsPriority (cond b (pos n) (pos n -ℤ pos 256))
        cases true e = let k = ltb-true (2 * n) 256 e in (omega (arith, ints, k), omega (arith, ints, k))
        cases false e = let k = ltb-false (2 * n) 256 e in (omega (arith, ints, k, l), omega (arith, ints, k, l))

-- the calls on processes that want no place for an image, and that change no other process
abbrev pub IsPlain : ProcessCall → Type 0
IsPlain process.Exec = ⊥
IsPlain process.Break = ⊥
IsPlain process.Kill = ⊥
IsPlain call = ⊤

-- who asks what a signal shall do is else the same
asked_same : (n handler : ℕ) (p : Process) → SameProcess p (asking n handler p)
asked_same n handler p = record { dead = refl; size = refl; text = refl; files = refl; dir = refl }

pub plain_row : (call : ProcessCall) → IsPlain call → (mounts : MountTable) (s : ℕ) (w : World) (args : List ℕ)
    → Plain s w (process_row call mounts w s args)
unfolding pid_of set_uid get_uid set_gid get_gid switches no_op nice_to signal_set time_now set_time times_to sleep_for
plain_row process.Wait is mounts s w a = wait_plain s w
plain_row process.Exec is mounts s w a = absurd is
plain_row process.Time is mounts s w a = gives w _ _
plain_row process.Break is mounts s w a = absurd is
plain_row process.Getpid is mounts s w a = gives w _ _
plain_row process.Setuid is mounts s w a =
    if_plain s w _ _ _
    (changes w (as_user (id_given (process_of w s))) _ (record { dead = refl; size = refl; text = refl; files = refl; dir = refl }) refl (gives _ _ _))
    (refuses w EPERM)
plain_row process.Getuid is mounts s w a = gives w _ _
plain_row process.Stime is mounts s w a =
    let l = mod_below (65536 * register (process_of w s) 0 + register (process_of w s) 1) (2 ^ 32) (omega arith) in
    if_plain s w (is_super (process_of w s)) _ _ (dated w _ _ (omega (arith, l)) (wakes _ Tout _ tt (gives _ _ _))) (refuses w EPERM)
plain_row process.Smdate is mounts s w a = gives w _ _
plain_row process.Nice is mounts s w a =
    let value = register (process_of w s) 0 in
    if_plain s w (nat_lt value 32768) _ _ (nice w (int_min (pos 20) (pos value)) _ (at_most_20 value) (gives w _ _))
    (if_plain s w (is_super (process_of w s)) _ _ (nice w (kept_nice value) _ (eight_bits value) (gives w _ _))
    (nice w (pos 0) _ (omega (arith, ints), omega (arith, ints)) (refuses w EPERM)))
plain_row process.Sleep is mounts s w a = until_plain s w _
plain_row process.Kill is mounts s w a = absurd is
plain_row process.Csw is mounts s w a = gives w _ _
plain_row process.Times is mounts s w a = stored_plain s w _
plain_row process.Setgid is mounts s w a =
    if_plain s w _ _ _
    (changes w (as_group (id_given (process_of w s))) _ (record { dead = refl; size = refl; text = refl; files = refl; dir = refl }) refl (gives _ _ _))
    (refuses w EPERM)
plain_row process.Getgid is mounts s w a = gives w _ _
plain_row process.Signal is mounts s w a =
    let n = slice_index a 0 in
    if_plain s w (signal.is_signal n && not (n == SIGKIL)) _ _
    (changes w (asking n (slice_index a 1)) _ (asked_same n (slice_index a 1) (process_of w s)) refl (gives _ _ _))
    (refuses w EINVAL)

-- a sleep or a wait that goes on
pub resume_plain : (s : ℕ) (w : World) → Plain s (change w s awake) (resume_proc w s)
unfolding resume_proc
resume_plain s w =
    unless_plain s (change w s awake) _
    (if_plain s (change w s awake) _ _ _ (until_plain s (change w s awake) (until_of (process_of w s))) (wait_plain s (change w s awake)))
