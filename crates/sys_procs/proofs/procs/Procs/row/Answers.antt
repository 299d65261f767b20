use Rattle.std.proofs.Common.{◌∙◌, sym}
use Rattle.sys_procs.proofs.Slots.{own_row}
use Rattle.sys_procs.proofs.procs.Procs.row.Goals as goal

pub returns : goal.returns
returns c = c.row.ensures ∙ sym (own_row c.args.self.now.rows.slots c.args.self.now.images.kept c.args.s c.requires.below)
