use Rattle.std.proofs.Common.{◌∙◌, List, get_or, Option, None, sym, ap, subst, arith}
use Rattle.std.specs.Option.{unwrap_or}
use Rattle.proc_tab.specs.declared.row.Row.{Row}
use Rattle.proc_tab.specs.Processes.{Processes}
use Rattle.sys_procs.specs.declared.procs.Procs.{Procs}
use Rattle.sys_procs.specs.Process.{Process, no_process}
use Rattle.sys_procs.specs.World.{processes_in}
use Rattle.sys_procs.specs.Handed.{handed, process_here, IsAlive}
use Rattle.sys_procs.proofs.Slots.{own_row, fifty_processes}
use Rattle.sys_procs.proofs.Alive.{put_here, row_put, row_alive}
use Rattle.sys_procs.proofs.procs.Procs.put_row.Goals as goal

pub set_row-requires-clause-pid : goal.set_row-requires-clause-pid
set_row-requires-clause-pid c = let p : Procs = c.args.self.now in c.requires.pid ∙ ap (λ (r : Row). r.pid) (own_row p.rows.slots p.images.kept c.args.s c.requires.alive.below)

pub set_row-requires-clause-ppid : goal.set_row-requires-clause-ppid
set_row-requires-clause-ppid c = let p : Procs = c.args.self.now in c.requires.ppid ∙ ap (λ (r : Row). r.ppid) (own_row p.rows.slots p.images.kept c.args.s c.requires.alive.below)

pub returns-clause-state : goal.returns-clause-state
returns-clause-state c = λ fs.
    let p : Procs = c.args.self.now in
    ap (λ (v : Processes). handed (record p { rows = v }) fs) c.set_row.ensures
    ∙ ap (λ (ps : List (Option Process)). record (handed p fs) { processes = ps }) (row_put p c.args.s c.args.row c.requires.alive)

pub returns-clause-here : goal.returns-clause-here
returns-clause-here c =
    let p : Procs = c.args.self.now in
    let at : List (Option Process) → Process = λ ps. unwrap_or (get_or ps c.args.s None) no_process in
    ap (λ (v : Processes). at (processes_in v.slots p.images.kept)) c.set_row.ensures
    ∙ (ap at (row_put p c.args.s c.args.row c.requires.alive)
    ∙ put_here (processes_in p.rows.slots p.images.kept) c.args.s (record (process_here p c.args.s) { row = c.args.row }) (omega (arith, c.requires.alive.below, fifty_processes p.rows.slots p.images.kept)))

pub returns-clause-alive : goal.returns-clause-alive
returns-clause-alive c =
    let p : Procs = c.args.self.now in
    subst (λ (v : Processes). IsAlive (record p { rows = v }) c.args.s) (sym c.set_row.ensures) (row_alive p c.args.s c.args.row c.requires.alive)
