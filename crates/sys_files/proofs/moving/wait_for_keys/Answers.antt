use Rattle.std.proofs.Common.{◌∷◌, [], is_some, sym, ap, ◌∙◌}
use Rattle.u_area.specs.declared.layout.TheConstants.{LINE_READ}
use Rattle.sys_files.proofs.MovingLemmas.{pending_changed, keys_by}
use Rattle.sys_files.proofs.moving.wait_for_keys.Goals as goal

pub returns : goal.returns
returns c h area own =
    keys_by h c.args.line c.args.u.now _ c.args.row.now c.args.entry c.args.at c.args.count c.keys_of.result c.keys_of.ensures area own
    (ap is_some (sym c.due.ensures) ∙ sym c.is_some.ensures ∙ c.if-is_some.false)
    (sym (pending_changed c.args.u.now LINE_READ (c.args.entry ∷ c.args.at ∷ c.args.count ∷ 0 ∷ 0 ∷ 0 ∷ 0 ∷ 0 ∷ []) _))
