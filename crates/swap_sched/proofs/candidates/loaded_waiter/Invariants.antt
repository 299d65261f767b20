use Rattle.std.proofs.Common.{◌≡◌, ◌+◌, ℕ}
use Rattle.pick_rules.specs.Swapper.{loaded_waiter}
use Rattle.swap_sched.proofs.SearchLemmas.{waiting_from}
use Rattle.swap_sched.proofs.candidates.loaded_waiter.Given as goal

abbrev pub invariant-loop-s : goal.invariant-loop-s
invariant-loop-s l = (n : ℕ) → l.s + n ≡ 50 → loaded_waiter l.table ≡ waiting_from l.table l.s n
