use Rattle.std.proofs.Common.{◌∙◌, ap, subst, sym}
use Rattle.v6_base.specs.declared.entry.Chan.TheVariants.{Tout}
use Rattle.v6_base.proofs.Took.{took_more}
use Rattle.pick_rules.specs.declared.table.Table.{Table}
use Rattle.pick_rules.specs.Sleepers.{wakeup}
use Rattle.pick_rules.specs.Apply.{applied}
use Rattle.sys_procs.specs.declared.procs.Procs.{Procs}
use Rattle.sys_procs.specs.World.{Clock, clock_of}
use Rattle.sys_procs.specs.Agree.{board_of}
use Rattle.sys_procs.specs.Handed.{handed}
use Rattle.sys_procs.proofs.Tables.{board_woken}
use Rattle.sys_procs.proofs.Agreement.{AreLike, wakeup_like}
use Rattle.sys_procs.proofs.Alive.{table_alive}
use Rattle.sys_procs.proofs.TimesLemmas.{clock_woken}
use Rattle.sys_procs.proofs.times.put_time.Goals as goal

pub returns-clause-state : goal.returns-clause-state
returns-clause-state g c = λ fs.
    let p : Procs = c.args.p.now in
    let t : Table = record p.table { now = c.args.time } in
    ap (λ (k : Clock). record (handed p fs) { clock = k }) (ap clock_of c.wake.ensures.table ∙ clock_woken t Tout)

pub returns-clause-board : goal.returns-clause-board
unfolding applied
returns-clause-board g c =
    let p : Procs = c.args.p.now in
    let t : Table = record p.table { now = c.args.time } in
    ap (λ (u : Table). board_of u p.images.kept) c.wake.ensures.table ∙ board_woken t p.images.kept Tout

pub returns-clause-items : goal.returns-clause-items
returns-clause-items g c = took_more _ _ _ _ _ c.entry.ensures.took c.wake.ensures.items

pub returns-clause-alive : goal.returns-clause-alive
returns-clause-alive g c =
    let p : Procs = c.args.p.now in
    let t : Table = record p.table { now = c.args.time } in
    let woken : AreLike t (wakeup t Tout) = wakeup_like t Tout in
    let like : AreLike p.table (wakeup t Tout) = record { long = woken.long; each = woken.each } in
    table_alive p c.wake.new.self c.args.s c.requires c.wake.ensures.good (subst (λ (u : Table). AreLike p.table u) (sym c.wake.ensures.table) like)
