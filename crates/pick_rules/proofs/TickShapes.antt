-- What a tick leaves of each row: its shape.
use Rattle.std.proofs.Common.{◌+◌, ◌-◌, ◌%◌, ◌^◌, ◌==◌, ◌||◌, ℕ, min, pos, int_lt, Bool, true, false, cond, fold, refl}
use Rattle.pick_rules.specs.declared.row.Mode.{Mode}
use Rattle.pick_rules.specs.declared.row.Mode.TheVariants.{User, Kernel, Idle}
use Rattle.pick_rules.specs.declared.table.Table.{Table}
use Rattle.pick_rules.specs.Search.{slots}
use Rattle.pick_rules.specs.Table.{row_at, with_row, is_empty}
use Rattle.pick_rules.specs.Priority.{user_pri, setpri}
use Rattle.pick_rules.specs.Clock.{charged_slot, charged, aged, second, ticked, tick}
use Rattle.pick_rules.proofs.Laws.{fold_keeps, timed, time_passed}
use Rattle.pick_rules.proofs.Shapes.{Sleeps, SameShapes, same_none, same_trans, row_same, runin_same}

module _ (old : Table) where
  setpri_same : (t : Table) (s : ℕ) → SameShapes old t → SameShapes old (setpri t s)
  unfolding setpri
  setpri_same t s k =
      row_same old t s (record (row_at t s) { pri = user_pri (row_at t s) }) (t.runrun || int_lt t.curpri (user_pri (row_at t s))) refl (k.sleeps s) k

  charged_same : (t : Table) → SameShapes old t → SameShapes old (charged t)
  charged_same t k =
      row_same old t (charged_slot t) (record (row_at t (charged_slot t)) { cpu = min ((row_at t (charged_slot t)).cpu + 1) 255 }) t.runrun refl
      (k.sleeps (charged_slot t)) k

  aged_same : (t : Table) (s : ℕ) → SameShapes old t → SameShapes old (aged t s)
  unfolding aged
  aged_same t s k = by (is_empty (row_at t s).stat) (int_lt (pos 100) (row_at t s).pri)
    where
      older : Table
      older = with_row t s (record (row_at t s) { time = min ((row_at t s).time + 1) 127; cpu = (row_at t s).cpu - 10 })

      same : SameShapes old older
      same =
          row_same old t s
          (record (row_at t s) { time = min ((row_at t s).time + 1) 127; cpu = (row_at t s).cpu - 10 }) t.runrun refl
          (k.sleeps s) k

      by : (x y : Bool) → SameShapes old (cond x t (cond y (setpri older s) older))
      by true y = k
      by false true = setpri_same older s same
      by false false = same

-- the time that passes
second_same : (t : Table) → ((s : ℕ) → Sleeps (row_at t s)) → SameShapes (timed t 0 ((t.now + 1) % 2 ^ 32)) (second t)
unfolding second
second_same t l = runin_same begun (fold aged told slots)
    (fold_keeps (SameShapes begun) aged (aged_same begun) slots told
    (record { sleeps = l; same = λ s. refl; running = refl; now = refl; ticks = refl; rows = refl }))
  where
    begun : Table
    begun = timed t 0 ((t.now + 1) % 2 ^ 32)

    told : Table
    told = record begun { runrun = t.runrun || ((t.now + 1) % 2 ^ 32 % 4 == 0) }

timed_same : (t u : Table) (ticks now : ℕ) → SameShapes t u → SameShapes (timed t ticks now) (timed u ticks now)
timed_same t u ticks now k =
    record { sleeps = k.sleeps; same = k.same; running = k.running; now = refl; ticks = refl; rows = k.rows }

ticked_same : (t : Table) → ((s : ℕ) → Sleeps (row_at t s)) → SameShapes (time_passed t) (ticked t)
unfolding ticked
ticked_same t l = by (t.ticks == 59)
  where
    paid : SameShapes t (charged t)
    paid = charged_same t t (same_none t l)

    by : (b : Bool)
        → SameShapes (cond b (timed t 0 ((t.now + 1) % 2 ^ 32)) (timed t (t.ticks + 1) t.now)) (cond b (second (charged t)) (record (charged t) { ticks = t.ticks + 1 }))
    by true = same_trans (timed t 0 ((t.now + 1) % 2 ^ 32)) (timed (charged t) 0 ((t.now + 1) % 2 ^ 32)) (second (charged t))
        (timed_same t (charged t) 0 ((t.now + 1) % 2 ^ 32) paid) (second_same (charged t) paid.sleeps)
    by false = timed_same t (charged t) (t.ticks + 1) t.now paid

pub tick_same : (mode : Mode) (t : Table) → ((s : ℕ) → Sleeps (row_at t s)) → SameShapes (time_passed t) (tick mode t)
tick_same User t l = by (t.ticks == 59)
  where
    by : (b : Bool) → SameShapes (time_passed t) (cond b (setpri (ticked t) (charged_slot t)) (ticked t))
    by true = setpri_same (time_passed t) (ticked t) (charged_slot t) (ticked_same t l)
    by false = ticked_same t l
tick_same Kernel t l = ticked_same t l
tick_same Idle t l = ticked_same t l
