-- Sleeping and waking: Lions' Commentary, `sleep`, `wakeup` and `setrun`.
use Rattle.std.specs.Prelude.{ℕ, Bool, true, false, ◌||◌, ◌==◌, ℤ, pos, int_lt, if◌then◌else◌, Some, None}
use Rattle.v6_base.specs.declared.entry.Chan.{Chan}
use Rattle.v6_base.specs.declared.entry.Chan.TheVariants.{RunIn, RunOut}
use Rattle.pick_rules.specs.declared.row.Stat.{Stat}
use Rattle.pick_rules.specs.declared.row.Stat.TheVariants.{Sleeping, Waiting, Ready}
use Rattle.pick_rules.specs.declared.row.TableRow.{TableRow}
use Rattle.std.specs.Int.{int_min}
use Rattle.pick_rules.specs.Search.{each_slot}
use Rattle.pick_rules.specs.declared.table.Table.{Table}
use Rattle.pick_rules.specs.Table.{row_at, with_row, is_loaded, is_on, is_waiting, same_chan}

-- the slot can run, and forgets its channel; where it goes before the running one, a new choice is asked for
unfoldable pub made_ready : Table → ℕ → Table
made_ready t s =
    let row : TableRow = row_at t s in
    record (with_row t s (record row { stat = Ready; channel = None })) { runrun = t.runrun || int_lt row.pri t.curpri }

abbrev pub sleeps_on : Table → ℕ → Chan → Bool
sleeps_on t s w = is_on (row_at t s).channel w

abbrev pub process_0_woken : Table → Chan → Table
process_0_woken t w = if sleeps_on t 0 w then made_ready t 0 else t

-- process 0 is told that somebody out of core can run, where it waits for that
unfoldable pub runout_told : Table → Table
runout_told t = if t.runout then process_0_woken (record t { runout = false }) RunOut else t

-- process 0 is told that somebody sleeps or that a second has passed, where it waits for core
unfoldable pub runin_told : Table → Table
runin_told t = if t.runin then process_0_woken (record t { runin = false }) RunIn else t

unfoldable pub setrun : Table → ℕ → Table
setrun t s = if is_loaded t s then made_ready t s else runout_told (made_ready t s)

-- each slot that sleeps on the channel becomes ready
unfoldable pub wakeup : Table → Chan → Table
wakeup t w = each_slot (λ now s. if sleeps_on now s w then setrun now s else now) t

abbrev pub sleep_stat : ℤ → Stat
sleep_stat pri = if int_lt pri (pos 0) then Sleeping else Waiting

-- process 0 leaves word of what it waits for
abbrev pub flagged : Table → ℕ → Chan → Table
flagged t s w =
    if s == 0 then (if same_chan w RunIn then record t { runin = true } else record t { runout = true })
    else t

abbrev pub asleep : Table → ℕ → ℤ → Chan → Table
asleep t s pri w =
    record (with_row t s (
    record (row_at t s) { stat = sleep_stat pri; pri = pri; channel = Some w; calling = true })) { running = None }

-- the slot sleeps; where signals may wake it, its image may be put out of core
unfoldable pub fall_asleep : Table → ℕ → ℤ → Chan → Table
fall_asleep t s pri w = flagged (if int_lt pri (pos 0) then asleep t s pri w else runin_told (asleep t s pri w)) s w

-- A signal is posted to a slot: Lions' Commentary, `psignal`.
unfoldable pub signalled : Table → ℕ → Table
signalled t s =
    let row : TableRow = row_at t s in
    let lowered : Table = with_row t s (record row { pri = int_min row.pri (pos 100) }) in
    if is_waiting row.stat then setrun lowered s else lowered
