use Rattle.std.proofs.Common.{◌≡◌, ◌+◌, ◌<◌, ℕ, MatchOption}
use Rattle.std.specs.Bool.{⊤}
use Rattle.swap_sched.proofs.SearchLemmas.{scanned}
use Rattle.swap_sched.proofs.candidates.oldest.Given as goal

abbrev pub invariant-loop-k : goal.invariant-loop-k
invariant-loop-k l = record {
  slot : MatchOption l.best ⊤ (λ b. b < 50);
  found : (first n : ℕ) → first + l.k ≡ 51 → n + 1 ≡ l.k → l.best ≡ scanned l.loaded l.table first n;
}
