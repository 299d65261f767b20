use Rattle.std.proofs.Common.{◌∙◌, ap}
use Rattle.proc_tab.specs.declared.row.Row.{Row}
use Rattle.proc_tab.specs.Processes.{with_change, with_row}
use Rattle.unix_core.proofs.HeedLemmas.{heeded_unix, heeded_ready}
use Rattle.unix_core.proofs.delivery.heed.Goals as goal

pub returns-clause-unix : goal.returns-clause-unix
returns-clause-unix c =
    let w = c.args.world.now in
    heeded_unix w c.args.s c.requires c.set_row.new.self
    (c.set_row.ensures ∙ ap (λ (r : Row). with_change w.procs.rows c.args.s (with_row (record r { sig = 0 }))) c.row-row.ensures)

pub returns-clause-ready : goal.returns-clause-ready
returns-clause-ready c =
    let w = c.args.world.now in
    heeded_ready w c.args.s c.requires c.set_row.new.self
    (c.set_row.ensures ∙ ap (λ (r : Row). with_change w.procs.rows c.args.s (with_row (record r { sig = 0 }))) c.row-row.ensures)
