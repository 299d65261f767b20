use Rattle.std.proofs.Common.{◌∙◌, sym, ap}
use Rattle.proc_tab.specs.declared.row.Row.{Row}
use Rattle.sys_procs.specs.declared.procs.Procs.{Procs}
use Rattle.sys_procs.specs.Process.{Process}
use Rattle.sys_procs.specs.World.{with_process}
use Rattle.sys_procs.specs.Handed.{handed, process_here}
use Rattle.sys_procs.proofs.SignalCalls.{forgets, forgets_none, stays_there}
use Rattle.sys_procs.proofs.signals.forget.Goals as goal

pub returns-then-from-sig-clause-state : goal.returns-then-from-sig-clause-state
returns-then-from-sig-clause-state c = λ fs.
    let p : Procs = c.args.p.now in
    let own : Process = process_here p c.args.s in
    c.put_row.ensures.state fs
    ∙ ap (λ (r : Row). with_process (handed p fs) c.args.s (record own { row = r }))
    (forgets c.row-row.result own.row c.args.sig c.row-row.ensures (sym c.from.ensures ∙ c.if-from-sig.true))

pub returns-else-from-sig-clause-state : goal.returns-else-from-sig-clause-state
returns-else-from-sig-clause-state c = λ fs.
    let p : Procs = c.args.p.now in
    let own : Process = process_here p c.args.s in
    stays_there p fs c.args.s c.requires
    ∙ ap (λ (r : Row). with_process (handed p fs) c.args.s (record own { row = r }))
    (forgets_none c.row-row.result own.row c.args.sig c.row-row.ensures (λ e. c.if-from-sig.false (c.from.ensures ∙ e)))
