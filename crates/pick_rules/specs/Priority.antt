-- Priorities: Lions' Commentary, `setpri`. A smaller number goes first.
use Rattle.std.specs.Prelude.{ℕ, ◌/◌, ◌||◌, ℤ, pos, negsuc, ◌+ℤ◌, int_lt}
use Rattle.std.specs.Int.{int_min}
use Rattle.pick_rules.specs.declared.row.TableRow.{TableRow}
use Rattle.pick_rules.specs.declared.table.Table.{Table}
use Rattle.pick_rules.specs.Table.{row_at, with_row}

-- what a process sleeps at: process 0, at the disk, at a pipe, for keys of a terminal, for room on one, for a child, for a
-- time. Below 0 no signal wakes it.
abbrev pub pswp : ℤ
pswp = negsuc 99

abbrev pub pribio : ℤ
pribio = negsuc 49

abbrev pub ppipe : ℤ
ppipe = pos 1

abbrev pub ttipri : ℤ
ttipri = pos 10

abbrev pub ttopri : ℤ
ttopri = pos 20

abbrev pub pwait : ℤ
pwait = pos 40

abbrev pub pslep : ℤ
pslep = pos 90

abbrev pub puser : ℤ
puser = pos 100

-- the priority in user mode
abbrev pub user_pri : TableRow → ℤ
user_pri row = int_min (pos 127) (puser +ℤ row.nice +ℤ pos (row.cpu / 16))

-- the slot gets its priority anew; where that exceeds the running one's, a new choice is asked for
unfoldable pub setpri : Table → ℕ → Table
setpri t s =
    let row : TableRow = row_at t s in
    record (with_row t s (record row { pri = user_pri row })) { runrun = t.runrun || int_lt t.curpri (user_pri row) }
