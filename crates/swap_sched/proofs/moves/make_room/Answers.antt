use Rattle.std.proofs.Common.{◌∙◌}
use Rattle.swap_sched.proofs.moves.make_room.Goals as goal

pub go_out-requires-clause-comes : goal.go_out-requires-clause-comes
go_out-requires-clause-comes g c = c.requires.comes ∙ c.in-Some.ensures.goes

pub sleep-requires-clause-comes : goal.sleep-requires-clause-comes
sleep-requires-clause-comes g c = c.requires.comes ∙ c.in-None.ensures.goes
