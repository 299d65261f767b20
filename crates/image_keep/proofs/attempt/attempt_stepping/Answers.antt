-- The row isn't done, and the registers are put back.
use Rattle.std.proofs.Common.{◌≡◌, length, ap, arith, ◌∙◌}
use Rattle.core_mem.specs.Bytes.{over}
use Rattle.core_mem.proofs.Parts.{length-part}
use Rattle.image_keep.proofs.NearParts.{state_room, back_machine, back_around, back_stands}
use Rattle.image_keep.proofs.attempt.attempt_stepping.Goals as goal

pub state_at-state-requires : goal.state_at-state-requires
state_at-state-requires c = state_room (length c.args.core.now) c.args.standing.now c.requires.stands.inside

pub set_state-requires : goal.set_state-requires
set_state-requires c =
    let room = state_room (length c.step_row.new.core) c.args.standing.now c.step_row.ensures.stands.inside in
    let before = state_room (length c.args.core.now) c.args.standing.now c.requires.stands.inside in
    let long : length c.state_at-state.result ≡ 18 = ap length c.state_at-state.ensures ∙ length-part c.args.core.now c.args.standing.now.area 18 before in
    omega (arith, room, long)

pub returns-clause-missed : goal.returns-clause-missed
returns-clause-missed c = λ _.
    back_machine c.args.core.now c.step_row.new.core c.set_state.new.core c.args.standing.now c.requires.stands c.step_row.ensures.around
    (c.set_state.ensures ∙ ap (over c.step_row.new.core c.args.standing.now.area) c.state_at-state.ensures) (c.step_row.ensures.image c.if-step_row.false)

pub returns-clause-around : goal.returns-clause-around
returns-clause-around c =
    back_around c.args.core.now c.step_row.new.core c.set_state.new.core c.args.standing.now c.requires.stands c.step_row.ensures.around
    (c.set_state.ensures ∙ ap (over c.step_row.new.core c.args.standing.now.area) c.state_at-state.ensures)

pub returns-clause-stands : goal.returns-clause-stands
returns-clause-stands c =
    back_stands c.args.core.now c.step_row.new.core c.set_state.new.core c.args.standing.now c.requires.stands c.step_row.ensures.around
    (c.set_state.ensures ∙ ap (over c.step_row.new.core c.args.standing.now.area) c.state_at-state.ensures)
