use Rattle.std.proofs.Common.{◌∙◌, refl, ap, subst}
use Rattle.u_area.specs.declared.area.UArea.{UArea}
use Rattle.u_area.specs.Area.{IsSized, half_bytes}
use Rattle.sys_procs.proofs.SameKept.{SameKept, same_handed, same_board, same_agree}
use Rattle.sys_procs.proofs.Graves.{area_buried, cleared, state_cleared, board_cleared, agree_cleared}
use Rattle.sys_procs.proofs.wait.clear.Goals as goal

-- the three parts after the slot is free
now : (c : goal.After-clear_slot) → SameKept
    (record c.args.p.now { rows = c.clear_row.new.self; table = c.clear_slot.new.table; images = c.reap-half.new.self }) (cleared c.args.p.now c.args.dead)
now c = record { rows = c.clear_row.ensures; table = c.clear_slot.ensures.table; kept = c.reap-half.ensures.kept; switches = refl }

pub returns-clause-half : goal.returns-clause-half
returns-clause-half c =
    c.reap-half.ensures.half ∙ ap half_bytes (area_buried c.args.p.now c.args.dead c.requires.agree c.requires.above c.requires.low c.requires.grave)

pub returns-clause-sized : goal.returns-clause-sized
returns-clause-sized c =
    subst (λ (u : UArea). IsSized u) (area_buried c.args.p.now c.args.dead c.requires.agree c.requires.above c.requires.low c.requires.grave) c.reap-half.ensures.sized

pub returns-clause-state : goal.returns-clause-state
returns-clause-state c = λ fs.
    same_handed (now c) fs ∙ state_cleared c.args.p.now c.args.dead c.requires.low c.requires.rows.long c.requires.images.slots fs

pub returns-clause-board : goal.returns-clause-board
returns-clause-board c = same_board (now c) ∙ board_cleared c.args.p.now c.args.dead c.requires.low c.requires.rows.long c.requires.images.slots

pub returns-clause-agree : goal.returns-clause-agree
returns-clause-agree c =
    same_agree (now c)
    (agree_cleared c.args.p.now c.args.dead c.requires.low c.requires.rows.long c.requires.images.slots c.requires.above c.requires.agree
    c.requires.grave)
