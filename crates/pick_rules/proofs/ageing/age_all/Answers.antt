use Rattle.pick_rules.specs.Clock.{aged}
use Rattle.pick_rules.proofs.RoundLemmas.{fold_next}
use Rattle.pick_rules.proofs.ageing.age_all.Goals as goal

pub loop-s-preserved : goal.loop-s-preserved
loop-s-preserved c = record {
  done = fold_next aged c.args.table.now c.loop-s.table c.age_slot.new.table c.loop-s.s c.loop-s.invariant.done c.age_slot.ensures.table;
  good = c.age_slot.ensures.good;
}
