use Rattle.std.proofs.Common.{◌∙◌, sym}
use Rattle.swap_sched.specs.Match.{board_of}
use Rattle.swap_sched.proofs.Movable.{move_none}
use Rattle.swap_sched.proofs.moves.make_move.Goals as goal

pub serve-requires-clause-next : goal.serve-requires-clause-next
serve-requires-clause-next g c = sym c.in-Some.ensures.candidate

pub sleep-requires-clause-comes : goal.sleep-requires-clause-comes
sleep-requires-clause-comes g c = move_none (board_of c.args.table.now c.args.images.now.kept) (sym c.in-None.ensures.candidate)

pub returns-in-Some-clause-still : goal.returns-in-Some-clause-still
returns-in-Some-clause-still g c = λ none. absurd (cc (c.in-Some.ensures.candidate ∙ none))

pub returns-in-Some-clause-asleep : goal.returns-in-Some-clause-asleep
returns-in-Some-clause-asleep g c = λ none. absurd (cc (c.in-Some.ensures.candidate ∙ none))
