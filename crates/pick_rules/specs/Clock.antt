-- The clock: Lions' Commentary, `clock`. Sixty ticks are a second.
use Rattle.std.specs.Prelude.{ℕ, ◌+◌, ◌-◌, ◌%◌, ◌^◌, min, ◌||◌, ◌==◌, pos, int_lt, if◌then◌else◌}
use Rattle.std.specs.Option.{unwrap_or}
use Rattle.pick_rules.specs.declared.row.Mode.{Mode}
use Rattle.pick_rules.specs.declared.row.Mode.TheVariants.{User, Kernel, Idle}
use Rattle.pick_rules.specs.declared.row.Second.{Second}
use Rattle.pick_rules.specs.declared.row.Second.TheVariants.{No, Yes}
use Rattle.pick_rules.specs.declared.row.TableRow.{TableRow}
use Rattle.pick_rules.specs.Search.{each_slot}
use Rattle.pick_rules.specs.declared.table.Table.{Table}
use Rattle.pick_rules.specs.Table.{row_at, with_row, is_empty}
use Rattle.pick_rules.specs.Priority.{setpri}
use Rattle.pick_rules.specs.Sleepers.{runin_told}

-- who is charged with a tick: the running slot, or slot 0
abbrev pub charged_slot : Table → ℕ
charged_slot t = unwrap_or t.running 0

abbrev pub charged : Table → Table
charged t =
    let row : TableRow = row_at t (charged_slot t) in
    with_row t (charged_slot t) (record row { cpu = min (row.cpu + 1) 255 })

-- a second passes for a slot in use
unfoldable pub aged : Table → ℕ → Table
aged t s =
    let row : TableRow = row_at t s in
    let old : Table = with_row t s (record row { time = min (row.time + 1) 127; cpu = row.cpu - 10 }) in
    if is_empty row.stat then t else (
    if int_lt (pos 100) row.pri then setpri old s else old)

-- the time; every fourth second a new choice; the slots; process 0
unfoldable pub second : Table → Table
second t =
    let now : ℕ = (t.now + 1) % 2 ^ 32 in
    runin_told (each_slot aged (record t { ticks = 0; now = now; runrun = t.runrun || (now % 4 == 0) }))

unfoldable pub ticked : Table → Table
ticked t = if t.ticks == 59 then second (charged t) else record (charged t) { ticks = t.ticks + 1 }

-- in user mode a second ends with the running slot's priority
abbrev pub tick : Mode → Table → Table
tick User t = if t.ticks == 59 then setpri (ticked t) (charged_slot t) else ticked t
tick Kernel t = ticked t
tick Idle t = ticked t

-- what a tick tells: whether it ends a second, and whether the time is then that at which sleepers are to be woken
abbrev pub told : Table → Second
told t = if t.ticks == 59 then Yes ((t.now + 1) % 2 ^ 32 == t.tout) else No
