use Rattle.std.proofs.Common.{◌≡◌, ◌≤◌, ℕ, slice_index}
use Rattle.file_rows.proofs.system_calls.world.refer_to_crowd.Given as goal

abbrev pub invariant-loop-ino : goal.invariant-loop-ino
invariant-loop-ino l = record {
  few : (i : ℕ) → slice_index l.nodes.references i ≤ 1;
  store : l.nodes.store ≡ l.fn.nodes.store;
}
