use Rattle.std.proofs.Common.{◌∙◌, sym, ap}
use Rattle.pick_rules.specs.Swapper.{makes_room}
use Rattle.swap_sched.proofs.candidates.who_goes.Goals as goal

pub returns-in-Some-clause-goes : goal.returns-in-Some-clause-goes
returns-in-Some-clause-goes c = ap (makes_room c.args.table.now c.args.s) (sym c.in-Some.ensures.waiter)

pub returns-in-None-clause-goes : goal.returns-in-None-clause-goes
returns-in-None-clause-goes c = ap (makes_room c.args.table.now c.args.s) (sym c.in-None.ensures.waiter) ∙ c.runner_for.ensures.goes
