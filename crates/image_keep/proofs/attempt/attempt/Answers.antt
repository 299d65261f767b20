-- The word at PC has its row.
use Rattle.image_keep.proofs.AtPc.{row_attempted}
use Rattle.image_keep.proofs.attempt.attempt.Goals as goal

pub returns-in-Some : goal.returns-in-Some
returns-in-Some c =
    let r = c.attempt_row.ensures in
    row_attempted c.args.core.now c.attempt_row.new.core c.args.standing.now c.pc_of-pc.result c.in-Some.word c.attempt_row.result c.pc_of-pc.ensures c.in-Some.ensures.low c.in-Some.ensures.near c.in-Some.ensures.word r.row r.missed r.around r.stands
