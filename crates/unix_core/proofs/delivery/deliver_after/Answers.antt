use Rattle.std.proofs.Common.{rules, ◌∙◌, refl, sym, ap, subst}
use Rattle.abstract_unix.specs.declared.ending.Ending.{Ending}
use Rattle.unix_core.specs.Parts.{HasCome, is_over}
use Rattle.unix_core.proofs.TurnEnds.{due_come, due_items, other_come, other_items}
use Rattle.unix_core.proofs.delivery.deliver_after.Goals as goal

pub returns-in-Trapped-clause-come : goal.returns-in-Trapped-clause-come
returns-in-Trapped-clause-come g c b steps come =
    due_come b steps c.args.s c.args.world.now (subst (λ (e : Ending). HasCome b steps e c.args.world.now) c.in-Trapped.is come)
    c.deliver_due.result c.deliver_due.new.world c.deliver_due.ensures.come

pub returns-in-Trapped-clause-items : goal.returns-in-Trapped-clause-items
returns-in-Trapped-clause-items g c b steps start come took =
    due_items b steps c.args.s c.args.world.now (subst (λ (e : Ending). HasCome b steps e c.args.world.now) c.in-Trapped.is come)
    start _ _ took c.deliver_due.ensures.items

pub deliver_due-requires-clause-ready : goal.deliver_due-requires-clause-ready
deliver_due-requires-clause-ready g c = record {
  good = c.requires.good (ap is_over c.in-Trapped.is);
  runs = c.requires.runs (ap is_over c.in-Trapped.is) (λ ended. (let never = sym ended ∙ c.in-Trapped.is in cc never));
  user = c.requires.above;
}

pub returns-in_default : goal.returns-in_default
returns-in_default g c = record {
  good = c.requires.good;
  covered = c.requires.covered;
  runs = c.requires.runs;
  come = λ b steps come. other_come b steps c.args.s c.args.ending c.args.world.now c.in_default.not-Trapped come;
  items = λ b steps start come took. other_items b steps c.args.s c.args.ending c.args.world.now c.in_default.not-Trapped come start _ took;
  frame = search rules;
  rest = search rules;
  slots = refl;
  stopped = λ over. refl;
}
