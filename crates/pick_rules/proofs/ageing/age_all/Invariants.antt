use Rattle.std.proofs.Common.{◌≡◌, fold}
use Rattle.std.specs.List.{range_with_len}
use Rattle.pick_rules.specs.Table.{IsTable}
use Rattle.pick_rules.specs.Clock.{aged}
use Rattle.pick_rules.proofs.ageing.age_all.Given as goal

abbrev pub invariant-loop-s : goal.invariant-loop-s
invariant-loop-s l = record {
  done : l.table ≡ fold aged l.initial.table (range_with_len 0 l.s);
  good : IsTable l.table;
}
