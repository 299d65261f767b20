use Rattle.std.proofs.Common.{◌+◌, ◌-◌, ◌<◌, MatchOption}
use Rattle.std.specs.Bool.{⊤}
use Rattle.pick_rules.proofs.ChoiceLemmas.{IsSoFar}
use Rattle.pick_rules.proofs.choice.choose.Given as goal

abbrev pub invariant-loop-s : goal.invariant-loop-s
invariant-loop-s l = record {
  slot : MatchOption l.best ⊤ (λ b. b < 50);
  value : IsSoFar l.fn.rows l.fn.last (l.s - (l.fn.last + 1)) l.best;
}

abbrev pub invariant-loop-s-2 : goal.invariant-loop-s-2
invariant-loop-s-2 l = record {
  slot : MatchOption l.best ⊤ (λ b. b < 50);
  value : IsSoFar l.fn.rows l.fn.last (49 - l.fn.last + l.s) l.best;
}
