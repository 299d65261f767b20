use Rattle.std.proofs.Common.{◌∙◌, sym, ap}
use Rattle.pick_rules.specs.Swapper.{out_if_old}
use Rattle.swap_sched.proofs.SearchLemmas.{is_runner}
use Rattle.swap_sched.proofs.candidates.old_runner.Goals as goal

pub returns-in-Some-clause-goes : goal.returns-in-Some-clause-goes
returns-in-Some-clause-goes c =
    ap (out_if_old c.args.table.now) (sym (c.in-Some.ensures.oldest ∙ is_runner c.args.table.now)) ∙ c.if_old.ensures.goes

pub returns-in-None-clause-goes : goal.returns-in-None-clause-goes
returns-in-None-clause-goes c = ap (out_if_old c.args.table.now) (sym (c.in-None.ensures.oldest ∙ is_runner c.args.table.now))
