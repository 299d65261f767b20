use Rattle.std.proofs.Common.{◌≡◌, fold, if◌then◌else◌}
use Rattle.std.specs.List.{range_with_len}
use Rattle.pick_rules.specs.Table.{IsTable}
use Rattle.pick_rules.specs.Sleepers.{sleeps_on, setrun}
use Rattle.pick_rules.proofs.sleepers.wake_all.Given as goal

abbrev pub invariant-loop-s : goal.invariant-loop-s
invariant-loop-s l = record {
  done : l.table ≡ fold (λ now s. if sleeps_on now s l.fn.chan then setrun now s else now) l.initial.table (range_with_len 0 l.s);
  good : IsTable l.table;
}
