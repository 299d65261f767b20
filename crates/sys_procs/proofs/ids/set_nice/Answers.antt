use Rattle.std.proofs.Common.{refl, w8, to_z, of_z}
use Rattle.pick_rules.specs.declared.row.TableRow.{TableRow}
use Rattle.pick_rules.specs.Table.{row_at, with_row, IsTable}
use Rattle.sys_procs.specs.declared.procs.Procs.{Procs}
use Rattle.sys_procs.proofs.Agreement.{IsLike, row_like}
use Rattle.sys_procs.proofs.Alive.{table_alive}
use Rattle.sys_procs.proofs.ids.set_nice.Goals as goal

pub returns-clause-alive : goal.returns-clause-alive
returns-clause-alive g c =
    let p : Procs = c.args.p.now in
    let row : TableRow = record (row_at p.table c.args.s) { nice = to_z w8 (of_z w8 c.args.nice) } in
    let like : IsLike (row_at p.table c.args.s) row = record { place = refl; size = refl; text = refl; awake = λ e. (refl, e); woken = λ e l. l } in
    let old : IsTable p.table = c.requires.agree.table in
    let good : IsTable (with_row p.table c.args.s row) = record { last = old.last; running = old.running; ticks = old.ticks } in
    table_alive p (with_row p.table c.args.s row) c.args.s c.requires good (row_like p.table c.args.s row like)
