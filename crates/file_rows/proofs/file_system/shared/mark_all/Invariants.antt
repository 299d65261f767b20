use Rattle.std.proofs.Common.{◌≤◌, ℕ, slice_index}
use Rattle.file_rows.proofs.file_system.shared.mark_all.Given as goal

abbrev pub invariant-loop-ino : goal.invariant-loop-ino
invariant-loop-ino l = (i : ℕ) → slice_index l.tree.nodes.references i ≤ 65530
