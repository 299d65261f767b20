use Rattle.std.proofs.Common.{◌≡◌, ◌≤◌, ℕ, nat_eq, count_by}
use Rattle.fs_laws.specs.Chain.{free}
use Rattle.fs_blocks.specs.State.{disk}
use Rattle.file_rows.proofs.file_system.volume.gives.Given as goal

-- no block from the next on is free
abbrev pub invariant-loop-b : goal.invariant-loop-b
invariant-loop-b l = (k : ℕ) → l.b ≤ k → count_by (nat_eq k) (free (disk l.volume.state)) ≡ 0
