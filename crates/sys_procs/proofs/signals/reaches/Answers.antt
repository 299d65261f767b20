use Rattle.std.proofs.Common.{◌∙◌, sym}
use Rattle.sys_procs.specs.declared.procs.Procs.{Procs}
use Rattle.sys_procs.specs.World.{process_of}
use Rattle.sys_procs.specs.Signals.{is_reached}
use Rattle.sys_procs.specs.Handed.{handed}
use Rattle.sys_procs.proofs.Slots.{own_row}
use Rattle.sys_procs.proofs.Signalled.{meant_not, meant_there}
use Rattle.sys_procs.proofs.signals.reaches.Goals as goal

pub returns-then-not-in_use-clause-meant : goal.returns-then-not-in_use-clause-meant
returns-then-not-in_use-clause-meant c = λ fs who sender.
    sym (meant_not c.args.p.now fs c.args.s (is_reached c.args.sender.slot who) c.requires
    (sym c.in_use.ensures.used ∙ c.if-not-in_use.true))

pub returns-clause-meant : goal.returns-clause-meant
returns-clause-meant c = λ fs who sender.
    let p : Procs = c.args.p.now in
    c.is_reached.ensures who (process_of (handed p fs) c.args.s) sender
    (own_row p.rows.slots p.images.kept c.args.s c.requires ∙ sym c.row.ensures)
    ∙ sym (meant_there p fs c.args.s (is_reached c.args.sender.slot who) c.requires
    (sym c.in_use.ensures.used ∙ c.if-not-in_use.false))
