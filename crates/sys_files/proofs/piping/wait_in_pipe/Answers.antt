use Rattle.std.proofs.Common.{is_some, sym, ap, ◌∙◌}
use Rattle.sys_files.specs.Piping.{words_of}
use Rattle.sys_files.proofs.MovingLemmas.{pending_changed}
use Rattle.sys_files.proofs.PipingLemmas.{waits_by}
use Rattle.sys_files.proofs.piping.wait_in_pipe.Goals as goal

pub returns : goal.returns
returns c h area own =
    let words = words_of c.args.transfer.entry c.args.transfer.at c.args.transfer.count c.args.transfer.left in
    waits_by h c.args.u.now _ c.args.row.now c.args.chan c.args.pending words area own
    (ap is_some (sym c.due.ensures) ∙ sym c.is_some.ensures ∙ c.if-is_some.false)
    (sym (pending_changed c.args.u.now c.args.pending words _))
