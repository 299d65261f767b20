use Rattle.std.proofs.Common.{◌≤◌, ℕ, slice_index}
use Rattle.file_rows.proofs.file_system.shared.first_change.Given as goal

abbrev pub invariant-loop-k : goal.invariant-loop-k
invariant-loop-k l = (i : ℕ) → slice_index l.tree.nodes.references i ≤ 65530
