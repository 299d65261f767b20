-- What sleeping, waking, a tick and the choice leave of a table: the clock, who runs, and who was ready.
use Rattle.std.proofs.Common.{◌≡◌, ◌∙◌, ℕ, zero, suc, ◌+◌, ◌-◌, ◌%◌, ◌^◌, min, ℤ, pos, int_lt, Bool, true, false, not, cond, if◌then◌else◌, ◌==◌, ◌&&◌, ◌||◌, List, [], ◌∷◌, filter, fold, get_or, set, Option, Some, None, refl, subst}
use Rattle.v6_base.specs.declared.entry.Chan.{Chan}
use Rattle.v6_base.specs.declared.entry.Chan.TheVariants.{RunIn, RunOut}
use Rattle.pick_rules.specs.declared.row.Mode.{Mode}
use Rattle.pick_rules.specs.declared.row.Mode.TheVariants.{User, Kernel, Idle}
use Rattle.pick_rules.specs.declared.row.Stat.TheVariants.{Ready}
use Rattle.pick_rules.specs.declared.row.TableRow.{TableRow}
use Rattle.pick_rules.specs.declared.table.Table.{Table}
use Rattle.pick_rules.specs.Search.{slots, first_of_two, least}
use Rattle.pick_rules.specs.Table.{empty_row, row_at, with_row, is_empty, is_ready, is_loaded, same_chan}
use Rattle.pick_rules.specs.Priority.{user_pri, setpri}
use Rattle.pick_rules.specs.Sleepers.{made_ready, sleeps_on, process_0_woken, runout_told, runin_told, setrun, wakeup, flagged, asleep, fall_asleep}
use Rattle.pick_rules.specs.Clock.{charged_slot, charged, aged, second, ticked, tick}
use Rattle.pick_rules.specs.Choice.{can_run, round_from, chosen, settled_by, line_of_choice, settle}

-- the clock and who runs stay, and who was ready is ready
pub record Kept (old new : Table) : Type 0 where
  pub now : new.now ≡ old.now
  pub ticks : new.ticks ≡ old.ticks
  pub tout : new.tout ≡ old.tout
  pub running : new.running ≡ old.running
  pub ready : (s : ℕ) → is_ready (row_at old s).stat ≡ true → is_ready (row_at new s).stat ≡ true

pub kept_none : (t : Table) → Kept t t
kept_none t = record { now = refl; ticks = refl; tout = refl; running = refl; ready = λ s e. e }

pub kept_trans : (a b c : Table) → Kept a b → Kept b c → Kept a c
kept_trans a b c k l = record {
  now = l.now ∙ k.now;
  ticks = l.ticks ∙ k.ticks;
  tout = l.tout ∙ k.tout;
  running = l.running ∙ k.running;
  ready = λ s e. l.ready s (k.ready s e);
}

-- a fact of each row stays where it holds of a new one
pub set_each : (P : ℕ → TableRow → Type 0) (rows : List TableRow) (s : ℕ) (row : TableRow)
    → ((r : ℕ) → P r (get_or rows r empty_row)) → P s row → (r : ℕ) → P r (get_or (set rows s row) r empty_row)
set_each P [] s row h p r = h r
set_each P (x ∷ xs) zero row h p zero = p
set_each P (x ∷ xs) zero row h p (suc r) = h (suc r)
set_each P (x ∷ xs) (suc s) row h p zero = h zero
set_each P (x ∷ xs) (suc s) row h p (suc r) = set_each (λ q. P (suc q)) xs s row (λ q. h (suc q)) p r

-- Another row in a slot.
abbrev with_other : Table → ℕ → TableRow → Bool → Table
with_other t s row runrun = record (with_row t s row) { runrun = runrun }

row_kept : (t : Table) (s : ℕ) (row : TableRow) (runrun : Bool) → (is_ready (row_at t s).stat ≡ true → is_ready row.stat ≡ true) → Kept t (with_other t s row runrun)
row_kept t s row runrun h = record {
  now = refl;
  ticks = refl;
  tout = refl;
  running = refl;
  ready = set_each (λ r x. is_ready (row_at t r).stat ≡ true → is_ready x.stat ≡ true) t.rows s row (λ r e. e) h;
}

-- Priorities.
pub setpri_kept : (t : Table) (s : ℕ) → Kept t (setpri t s)
unfolding setpri
setpri_kept t s = row_kept t s (record (row_at t s) { pri = user_pri (row_at t s) }) (t.runrun || int_lt t.curpri (user_pri (row_at t s))) (λ e. e)

-- A slot becomes ready.
ready_kept : (t : Table) (s : ℕ) → Kept t (made_ready t s)
unfolding made_ready
ready_kept t s = row_kept t s (record (row_at t s) { stat = Ready; channel = None }) (t.runrun || int_lt (row_at t s).pri t.curpri) (λ e. refl)

pub fold_keeps : {A X : Type 0} (P : A → Type 0) (f : A → X → A) → ((a : A) (x : X) → P a → P (f a x)) → (xs : List X) (a : A) → P a → P (fold f a xs)
fold_keeps P f step [] a p = p
fold_keeps P f step (x ∷ xs) a p = fold_keeps P f step xs (f a x) (step a x p)

-- What waking leaves: a fact of a table that stays where a sleeper becomes ready, and where word is taken back.
pub record Stays (P : Table → Type 0) : Type 0 where
  pub woken : (t : Table) (s : ℕ) (w : Chan) → sleeps_on t s w ≡ true → P t → P (made_ready t s)
  pub runout : (t : Table) → P t → P (record t { runout = false })
  pub runin : (t : Table) → P t → P (record t { runin = false })

module _ (P : Table → Type 0) (stays : Stays P) where
  pub zero_stays : (t : Table) (w : Chan) → P t → P (process_0_woken t w)
  zero_stays t w p = by (sleeps_on t 0 w) refl
    where
      by : (b : Bool) → sleeps_on t 0 w ≡ b → P (cond b (made_ready t 0) t)
      by true e = stays.woken t 0 w e p
      by false e = p

  pub runout_stays : (t : Table) → P t → P (runout_told t)
  unfolding runout_told
  runout_stays t p = by t.runout
    where
      by : (b : Bool) → P (cond b (process_0_woken (record t { runout = false }) RunOut) t)
      by true = zero_stays (record t { runout = false }) RunOut (stays.runout t p)
      by false = p

  pub runin_stays : (t : Table) → P t → P (runin_told t)
  unfolding runin_told
  runin_stays t p = by t.runin
    where
      by : (b : Bool) → P (cond b (process_0_woken (record t { runin = false }) RunIn) t)
      by true = zero_stays (record t { runin = false }) RunIn (stays.runin t p)
      by false = p

  pub setrun_stays : (t : Table) (s : ℕ) → P (made_ready t s) → P (setrun t s)
  unfolding setrun
  setrun_stays t s p = by (is_loaded t s)
    where
      by : (b : Bool) → P (cond b (made_ready t s) (runout_told (made_ready t s)))
      by true = p
      by false = runout_stays (made_ready t s) p

  pub wakeup_stays : (t : Table) (w : Chan) → P t → P (wakeup t w)
  unfolding wakeup
  wakeup_stays t w p = fold_keeps P (λ now s. if sleeps_on now s w then setrun now s else now) one slots t p
    where
      one : (now : Table) (s : ℕ) → P now → P (cond (sleeps_on now s w) (setrun now s) now)
      one now s h = by (sleeps_on now s w) refl
        where
          by : (b : Bool) → sleeps_on now s w ≡ b → P (cond b (setrun now s) now)
          by true e = setrun_stays now s (stays.woken now s w e h)
          by false e = h

kept_stays : (old : Table) → Stays (Kept old)
kept_stays old = record {
  woken = λ t s w e k. kept_trans old t (made_ready t s) k (ready_kept t s);
  runout = λ t k. record { now = k.now; ticks = k.ticks; tout = k.tout; running = k.running; ready = k.ready };
  runin = λ t k. record { now = k.now; ticks = k.ticks; tout = k.tout; running = k.running; ready = k.ready };
}

pub setrun_kept : (t : Table) (s : ℕ) → Kept t (setrun t s)
setrun_kept t s = setrun_stays (Kept t) (kept_stays t) t s (ready_kept t s)

pub wakeup_kept : (t : Table) (w : Chan) → Kept t (wakeup t w)
wakeup_kept t w = wakeup_stays (Kept t) (kept_stays t) t w (kept_none t)

-- Sleeping.
flagged_kept : (t : Table) (s : ℕ) (w : Chan) → Kept t (flagged t s w)
flagged_kept t s w = by (s == 0) (same_chan w RunIn)
  where
    by : (a b : Bool) → Kept t (cond a (cond b (record t { runin = true }) (record t { runout = true })) t)
    by true true = record { now = refl; ticks = refl; tout = refl; running = refl; ready = λ r e. e }
    by true false = record { now = refl; ticks = refl; tout = refl; running = refl; ready = λ r e. e }
    by false b = kept_none t

-- what is left of a table in which the slot has lain down and nobody runs
pub asleep_kept : (t : Table) (s : ℕ) (pri : ℤ) (w : Chan) → Kept (asleep t s pri w) (fall_asleep t s pri w)
unfolding fall_asleep
asleep_kept t s pri w = by (int_lt pri (pos 0))
  where
    lain : Table
    lain = asleep t s pri w

    by : (b : Bool) → Kept lain (flagged (cond b lain (runin_told lain)) s w)
    by true = flagged_kept lain s w
    by false = kept_trans lain (runin_told lain) (flagged (runin_told lain) s w) (runin_stays (Kept lain) (kept_stays lain) lain (kept_none lain)) (flagged_kept (runin_told lain) s w)

pub sleep_now : (t : Table) (s : ℕ) (pri : ℤ) (w : Chan) → (fall_asleep t s pri w).now ≡ t.now
sleep_now t s pri w = (asleep_kept t s pri w).now

pub sleep_ticks : (t : Table) (s : ℕ) (pri : ℤ) (w : Chan) → (fall_asleep t s pri w).ticks ≡ t.ticks
sleep_ticks t s pri w = (asleep_kept t s pri w).ticks

pub sleep_tout : (t : Table) (s : ℕ) (pri : ℤ) (w : Chan) → (fall_asleep t s pri w).tout ≡ t.tout
sleep_tout t s pri w = (asleep_kept t s pri w).tout

pub sleep_running : (t : Table) (s : ℕ) (pri : ℤ) (w : Chan) → (fall_asleep t s pri w).running ≡ None
sleep_running t s pri w = (asleep_kept t s pri w).running

-- The clock.
pub charged_kept : (t : Table) → Kept t (charged t)
charged_kept t = row_kept t (charged_slot t) (record (row_at t (charged_slot t)) { cpu = min ((row_at t (charged_slot t)).cpu + 1) 255 }) t.runrun (λ e. e)

-- a slot in use a second later
abbrev older_row : TableRow → TableRow
older_row row = record row { time = min (row.time + 1) 127; cpu = row.cpu - 10 }

aged_kept : (t : Table) (s : ℕ) → Kept t (aged t s)
unfolding aged
aged_kept t s = by (is_empty (row_at t s).stat) (int_lt (pos 100) (row_at t s).pri)
  where
    older : Table
    older = with_row t s (older_row (row_at t s))

    kept : Kept t older
    kept = row_kept t s (older_row (row_at t s)) t.runrun (λ e. e)

    by : (x y : Bool) → Kept t (cond x t (cond y (setpri older s) older))
    by true y = kept_none t
    by false true = kept_trans t older (setpri older s) kept (setpri_kept older s)
    by false false = kept

-- the table with another time
abbrev pub timed : Table → ℕ → ℕ → Table
timed t ticks now = record t { ticks = ticks; now = now }

-- the table with the time after a tick: what a tick leaves is told of it
abbrev pub time_passed : Table → Table
time_passed t = if t.ticks == 59 then timed t 0 ((t.now + 1) % 2 ^ 32) else timed t (t.ticks + 1) t.now

second_kept : (t : Table) → Kept (timed t 0 ((t.now + 1) % 2 ^ 32)) (second t)
unfolding second
second_kept t = runin_stays (Kept begun) (kept_stays begun) (fold aged told slots)
    (fold_keeps (Kept begun) aged (λ a s k. kept_trans begun a (aged a s) k (aged_kept a s)) slots told
    (record { now = refl; ticks = refl; tout = refl; running = refl; ready = λ s e. e }))
  where
    begun : Table
    begun = timed t 0 ((t.now + 1) % 2 ^ 32)

    told : Table
    told = record begun { runrun = t.runrun || ((t.now + 1) % 2 ^ 32 % 4 == 0) }

timed_kept : (t u : Table) (ticks now : ℕ) → Kept t u → Kept (timed t ticks now) (timed u ticks now)
timed_kept t u ticks now k = record { now = refl; ticks = refl; tout = k.tout; running = k.running; ready = k.ready }

ticked_kept : (t : Table) → Kept (time_passed t) (ticked t)
unfolding ticked
ticked_kept t = by (t.ticks == 59)
  where
    by : (b : Bool) → Kept (cond b (timed t 0 ((t.now + 1) % 2 ^ 32)) (timed t (t.ticks + 1) t.now)) (cond b (second (charged t)) (record (charged t) { ticks = t.ticks + 1 }))
    by true = kept_trans (timed t 0 ((t.now + 1) % 2 ^ 32)) (timed (charged t) 0 ((t.now + 1) % 2 ^ 32)) (second (charged t))
        (timed_kept t (charged t) 0 ((t.now + 1) % 2 ^ 32) (charged_kept t)) (second_kept (charged t))
    by false = timed_kept t (charged t) (t.ticks + 1) t.now (charged_kept t)

pub tick_kept : (mode : Mode) (t : Table) → Kept (time_passed t) (tick mode t)
tick_kept User t = by (t.ticks == 59)
  where
    by : (b : Bool) → Kept (time_passed t) (cond b (setpri (ticked t) (charged_slot t)) (ticked t))
    by true = kept_trans (time_passed t) (ticked t) (setpri (ticked t) (charged_slot t)) (ticked_kept t) (setpri_kept (ticked t) (charged_slot t))
    by false = ticked_kept t
tick_kept Kernel t = ticked_kept t
tick_kept Idle t = ticked_kept t

pub passed_running : (t : Table) → (time_passed t).running ≡ t.running
passed_running t = by (t.ticks == 59)
  where
    by : (b : Bool) → (cond b (timed t 0 ((t.now + 1) % 2 ^ 32)) (timed t (t.ticks + 1) t.now)).running ≡ t.running
    by true = refl
    by false = refl

-- The choice.
pub settled_now : (t : Table) (o : Option ℕ) → (settled_by t o).now ≡ t.now
settled_now t None = refl
settled_now t (Some s) = refl

pub settled_ticks : (t : Table) (o : Option ℕ) → (settled_by t o).ticks ≡ t.ticks
settled_ticks t None = refl
settled_ticks t (Some s) = refl

pub settled_tout : (t : Table) (o : Option ℕ) → (settled_by t o).tout ≡ t.tout
settled_tout t None = refl
settled_tout t (Some s) = refl

pub settled_rows : (t : Table) (o : Option ℕ) → (settled_by t o).rows ≡ t.rows
settled_rows t None = refl
settled_rows t (Some s) = refl

pub settled_running : (t : Table) (o : Option ℕ) → (settled_by t o).running ≡ o
settled_running t None = refl
settled_running t (Some s) = refl

-- the least of some numbers that pass a test passes it
least_passes : (before : ℕ → ℕ → Bool) (test : ℕ → Bool) (xs : List ℕ) (s : ℕ) → least before (filter test xs) ≡ Some s → test s ≡ true
unfolding least
least_passes before test [] s e = absurd (cc e)
least_passes before test (x ∷ xs) s e = by (test x) refl e (least_passes before test xs)
  where
    of_two : (o : Option ℕ) → test x ≡ true → first_of_two before x o ≡ Some s → ((r : ℕ) → o ≡ Some r → test r ≡ true) → test s ≡ true
    of_two None t e rest = subst (λ r. test r ≡ true) (cc e) t
    of_two (Some y) t e rest = one (before y x) e
      where
        one : (b : Bool) → cond b (Some y) (Some x) ≡ Some s → test s ≡ true
        one true e = rest s e
        one false e = subst (λ r. test r ≡ true) (cc e) t

    by : (b : Bool) → test x ≡ b → least before (cond b (x ∷ filter test xs) (filter test xs)) ≡ Some s
        → ((r : ℕ) → least before (filter test xs) ≡ Some r → test r ≡ true) → test s ≡ true
    by true t e rest = of_two (least before (filter test xs)) t e rest
    by false t e rest = rest s e

-- the chosen slot can run
pub chosen_runs : (t : Table) (s : ℕ) → chosen t ≡ Some s → can_run t s ≡ true
unfolding chosen
chosen_runs t s e = least_passes _ (can_run t) (round_from t.last) s e

both : (a b : Bool) → (a && b) ≡ true → (a ≡ true) × (b ≡ true)
both true b f = (refl, f)
both false b f = absurd (cc f)

pub runs_ready : (t : Table) (s : ℕ) → can_run t s ≡ true → is_ready (row_at t s).stat ≡ true
runs_ready t s e = (both (is_ready (row_at t s).stat) (is_loaded t s) e).0

pub runs_loaded : (t : Table) (s : ℕ) → can_run t s ≡ true → is_loaded t s ≡ true
runs_loaded t s e = (both (is_ready (row_at t s).stat) (is_loaded t s) e).1

-- with the chosen slot running the kernel has settled
pub go_settles : (t : Table) (s : ℕ) → chosen t ≡ Some s → settle (settled_by t (Some s)) ≡ None
unfolding settle
go_settles t s e = rw (runs_loaded t s (chosen_runs t s e)) (by (s == 0) (row_at t s).calling)
  where
    by : (a b : Bool) → cond (not true || ((not a && not b) && false)) (Some (line_of_choice (chosen (settled_by t (Some s))))) None ≡ None
    by true b = refl
    by false true = refl
    by false false = refl
