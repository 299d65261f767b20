use Rattle.std.proofs.Common.{◌∙◌, refl, sym}
use Rattle.sys_procs.specs.Handed.{board}
use Rattle.sys_procs.proofs.SameKept.{SameKept, same_handed, same_board, same_bare}
use Rattle.sys_procs.proofs.PlacingRows.{row_low, text_row, board_bared}
use Rattle.sys_procs.proofs.Bare.{now, state_bare, is_bare}
use Rattle.sys_procs.proofs.placing.leave_place.Given as given
use Rattle.sys_procs.proofs.placing.leave_place.Goals as goal

it_is : (g : given.Over) (c : goal.After-entry g) → SameKept
    (record c.args.p.now { table = c.clear_place.new.table; images = c.bare.new.self })
    (now c.args.p.now c.args.s c.requires.alive c.see.ensures.images.slots)
it_is g c = record { rows = refl; table = c.clear_place.ensures; kept = c.bare.ensures; switches = refl }

pub returns-clause-state : goal.returns-clause-state
returns-clause-state g c = λ fs.
    same_handed (it_is g c) fs ∙ state_bare c.args.p.now c.args.s c.requires.alive c.see.ensures.images.slots fs

pub returns-clause-board : goal.returns-clause-board
returns-clause-board g c =
    same_board (it_is g c)
    ∙ sym (board_bared (board c.args.p.now) c.args.s (row_low c.args.p.now c.args.s c.requires.alive)
    (text_row c.args.p.now c.args.s c.requires.alive ∙ c.requires.none))

pub returns-clause-bare : goal.returns-clause-bare
returns-clause-bare g c =
    same_bare (it_is g c)
    (is_bare c.args.p.now c.args.s c.requires.alive c.see.ensures.images.slots)
