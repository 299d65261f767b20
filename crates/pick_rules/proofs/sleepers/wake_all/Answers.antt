use Rattle.std.proofs.Common.{◌≡◌, ◌∙◌, ap, fold, if◌then◌else◌, arith}
use Rattle.std.specs.List.{range_with_len}
use Rattle.pick_rules.specs.Sleepers.{sleeps_on, setrun, wakeup}
use Rattle.pick_rules.proofs.RoundLemmas.{fold_next}
use Rattle.pick_rules.proofs.sleepers.wake_all.Goals as goal

pub loop-s-preserved : goal.loop-s-preserved
loop-s-preserved c = record {
  done = fold_next (λ now s. if sleeps_on now s c.args.chan then setrun now s else now) c.args.table.now c.loop-s.table c.wake_sleeper.new.table c.loop-s.s c.loop-s.invariant.done c.wake_sleeper.ensures.table;
  good = c.wake_sleeper.ensures.good;
}

pub returns-clause-table : goal.returns-clause-table
unfolding wakeup
returns-clause-table c =
    let e : c.loop-s.s ≡ 50 = omega arith in
    c.loop-s.invariant.done ∙ ap (λ n. fold (λ now s. if sleeps_on now s c.args.chan then setrun now s else now) c.args.table.now (range_with_len 0 n)) e
