use Rattle.std.proofs.Common.{◌∙◌, List, Option, Some, ap}
use Rattle.std.proofs.lemmas.List.{set-set}
use Rattle.u_area.specs.declared.area.UArea.{UArea}
use Rattle.proc_tab.specs.declared.row.Row.{Row}
use Rattle.sys_procs.specs.declared.procs.Procs.{Procs}
use Rattle.sys_procs.specs.Process.{Process}
use Rattle.sys_procs.specs.World.{World, with_process}
use Rattle.sys_procs.specs.Handed.{handed, process_here}
use Rattle.sys_procs.proofs.exec.begin.Goals as goal

pub returns-clause-state : goal.returns-clause-state
returns-clause-state c = λ fs.
    let p : Procs = c.args.p.now in
    let old : Process = process_here p c.args.s in
    let row : Row = c.args.row in
    let u : UArea = c.args.u.now in
    c.put_area.ensures.state fs
    ∙ (ap (λ (q : Process). with_process (handed c.put_row.new.self fs) c.args.s (record q { u = u }))
    c.put_row.ensures.here
    ∙ (ap (λ (w : World). with_process w c.args.s (record old { row = row; u = u })) (c.put_row.ensures.state fs)
    ∙ ap (λ (ps : List (Option Process)). record (handed p fs) { processes = ps })
    (set-set (handed p fs).processes c.args.s (Some (record old { row = row }))
    (Some (record old { row = row; u = u })))))
