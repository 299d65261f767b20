use Rattle.std.proofs.Common.{◌∙◌, sym, ap}
use Rattle.proc_tab.specs.declared.row.Row.{Row}
use Rattle.u_area.specs.declared.area.UArea.{UArea}
use Rattle.u_area.specs.Area.{fetched}
use Rattle.sig_core.specs.Signals.{due}
use Rattle.sys_procs.specs.Handed.{process_here}
use Rattle.sys_procs.proofs.Alive.{area_here}
use Rattle.sys_procs.proofs.Slots.{own_row}
use Rattle.unix_core.proofs.HeedLemmas.{none_due}
use Rattle.unix_core.proofs.delivery.due_to.Goals as goal

pub area_bytes-requires : goal.area_bytes-requires
area_bytes-requires c = c.requires.alive.image

pub returns-then-row-eq0 : goal.returns-then-row-eq0
returns-then-row-eq0 c =
    let procs = c.args.procs.now in
    let same = own_row procs.rows.slots procs.images.kept c.args.s c.requires.alive.below in
    sym (none_due (process_here procs c.args.s).row (process_here procs c.args.s).u
    (ap (λ (r : Row). r.sig) (same ∙ sym c.row-row.ensures) ∙ c.if-row-eq0.true))

pub returns : goal.returns
returns c =
    let procs = c.args.procs.now in
    let same = own_row procs.rows.slots procs.images.kept c.args.s c.requires.alive.below in
    let area = area_here procs c.args.s c.requires.alive in
    c.due_in.ensures ∙ ap (λ (r : Row). due r (fetched c.area_bytes.result.now)) (c.row-row.ensures ∙ sym same)
    ∙ ap (λ (u : UArea). due (process_here procs c.args.s).row u) (c.area_bytes.ensures.read ∙ area)
