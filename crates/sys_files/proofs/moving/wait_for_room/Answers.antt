use Rattle.std.proofs.Common.{◌∷◌, [], is_some, sym, ap, ◌∙◌}
use Rattle.u_area.specs.declared.layout.TheConstants.{LINE_WRITE}
use Rattle.sys_files.proofs.MovingLemmas.{pending_changed, room_by}
use Rattle.sys_files.proofs.moving.wait_for_room.Goals as goal

pub returns : goal.returns
returns c h area own =
    room_by h c.args.line c.args.u.now _ c.args.row.now c.args.entry c.args.at c.args.count c.args.done c.show_of.result c.show_of.ensures area own
    (ap is_some (sym c.due.ensures) ∙ sym c.is_some.ensures ∙ c.if-is_some.false)
    (sym (pending_changed c.args.u.now LINE_WRITE (c.args.entry ∷ c.args.at ∷ c.args.count ∷ c.args.done ∷ 0 ∷ 0 ∷ 0 ∷ 0 ∷ []) _))
