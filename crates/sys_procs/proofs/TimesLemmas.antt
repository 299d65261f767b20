-- stime and sleep by the tests that they make, and what waking leaves of the clock.
use Rattle.std.proofs.Common.{◌≡◌, ◌≢◌, ◌∙◌, ℕ, ◌+◌, ◌*◌, ◌%◌, ◌^◌, ◌<◌, ◌==◌, Bool, true, false, cond, nat_le, get_or, is_some, [], refl, sym, ap}
use Rattle.std.proofs.lemmas.Bool.{lt-leb, eq-eqb, ne_eqb}
use Rattle.v6_base.specs.declared.entry.Chan.{Chan}
use Rattle.v6_base.specs.declared.entry.Chan.TheVariants.{Tout}
use Rattle.v6_base.specs.declared.entry.Entry.TheVariants as line
use Rattle.v6_base.specs.declared.errno.Errno.TheVariants.{EPERM, EINTR}
use Rattle.u_area.specs.declared.area.UArea.{UArea}
use Rattle.sig_core.specs.Signals.{due}
use Rattle.pick_rules.specs.declared.table.Table.{Table}
use Rattle.pick_rules.specs.Priority.{pslep}
use Rattle.pick_rules.specs.Sleepers.{wakeup}
use Rattle.pick_rules.proofs.Laws.{wakeup_kept}
use Rattle.sys_procs.specs.World.{World, process_of, change, clock_of}
use Rattle.sys_procs.specs.Comes.{Comes, returns, fails, sleeps, logs}
use Rattle.sys_procs.specs.Times.{with_time, set_time, sleeping_until, with_sleeper, sleep_until, sleep_for}

-- waking leaves the clock
pub clock_woken : (t : Table) (w : Chan) → clock_of (wakeup t w) ≡ clock_of t
clock_woken t w =
    let k = wakeup_kept t w in
    ap (λ n. record { time = n; ticks = (wakeup t w).ticks; tout = (wakeup t w).tout }) k.now
    ∙ (ap (λ n. record { time = t.now; ticks = n; tout = (wakeup t w).tout }) k.ticks
    ∙ ap (λ n. record { time = t.now; ticks = t.ticks; tout = n }) k.tout)

-- by whether the super-user sets the time
abbrev set_by : World → ℕ → UArea → Bool → Comes
set_by w s u is_super =
    cond is_super (logs (line.Time ((65536 * get_or u.r 0 0 + get_or u.r 1 0) % 2 ^ 32)) (logs (line.Wake Tout) (returns (with_time w ((65536 * get_or u.r 0 0 + get_or u.r 1 0) % 2 ^ 32)) s)))
    (fails w EPERM)

pub time_refused : (w : World) (s : ℕ) (u : UArea) → u ≡ (process_of w s).u → u.uid ≢ 0 → fails w EPERM ≡ set_time w s
unfolding set_time
time_refused w s u is other = sym (ap (λ (v : UArea). set_by w s v (v.uid == 0)) (sym is) ∙ ap (set_by w s u) (ne_eqb u.uid 0 other))

pub time_set : (w : World) (s : ℕ) (u : UArea) → u ≡ (process_of w s).u → u.uid ≡ 0
    → set_time w s ≡ logs (line.Time ((65536 * get_or u.r 0 0 + get_or u.r 1 0) % 2 ^ 32)) (logs (line.Wake Tout) (returns (with_time w ((65536 * get_or u.r 0 0 + get_or u.r 1 0) % 2 ^ 32)) s))
unfolding set_time
time_set w s u is super =
    ap (λ (v : UArea). set_by w s v (v.uid == 0)) (sym is) ∙ ap (set_by w s u) (eq-eqb u.uid 0 super)

-- a sleep by whether its time has come, and by whether a signal is due
abbrev begins_sleep : World → ℕ → ℕ → Comes
begins_sleep w s until = sleeps (change (with_sleeper w until) s (sleeping_until until)) pslep Tout

abbrev pub is_due : World → ℕ → Bool
is_due w s = is_some (due (process_of w s).row (process_of w s).u)

abbrev pub sleeps_on : World → ℕ → ℕ → Comes
sleeps_on w s until = cond (is_due w s) (fails (with_sleeper w until) EINTR) (begins_sleep w s until)

pub sleep_goes_on : (w : World) (s until : ℕ) → w.clock.time < until → sleep_until w s until ≡ sleeps_on w s until
unfolding sleep_until
sleep_goes_on w s until ahead = ap (λ b. cond b (returns w s) (sleeps_on w s until)) (lt-leb until w.clock.time ahead)

pub sleep_broken_off : (w : World) (s until : ℕ) → w.clock.time < until → is_due w s ≡ true
    → sleep_until w s until ≡ fails (with_sleeper w until) EINTR
sleep_broken_off w s until ahead is =
    sleep_goes_on w s until ahead ∙ ap (λ b. cond b (fails (with_sleeper w until) EINTR) (begins_sleep w s until)) is

pub sleep_begins : (w : World) (s until : ℕ) → w.clock.time < until → is_due w s ≡ false
    → sleep_until w s until ≡ sleeps (change (with_sleeper w until) s (sleeping_until until)) pslep Tout
sleep_begins w s until ahead is =
    sleep_goes_on w s until ahead ∙ ap (λ b. cond b (fails (with_sleeper w until) EINTR) (begins_sleep w s until)) is

pub sleep_shows_none : (w : World) (s until : ℕ) → (sleep_until w s until).effects ≡ []
unfolding sleep_until
sleep_shows_none w s until = by (nat_le until w.clock.time) (is_due w s)
  where
    by : (b d : Bool) → (cond b (returns w s) (cond d (fails (with_sleeper w until) EINTR) (begins_sleep w s until))).effects ≡ []
    by true d = refl
    by false true = refl
    by false false = refl

pub sleep_is : (w : World) (s : ℕ) (u : UArea) → u ≡ (process_of w s).u → sleep_for w s ≡ sleep_until w s ((w.clock.time + get_or u.r 0 0) % 2 ^ 32)
unfolding sleep_for
sleep_is w s u is = ap (λ (v : UArea). sleep_until w s ((w.clock.time + get_or v.r 0 0) % 2 ^ 32)) (sym is)
