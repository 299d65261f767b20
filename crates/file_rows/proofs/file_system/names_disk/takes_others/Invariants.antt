use Rattle.std.proofs.Common.{◌≡◌, ◌≤◌, ◌+◌, ℕ, slice_index}
use Rattle.file_rows.proofs.file_system.names_disk.takes_others.Given as goal

-- each inode is referred to once more at most for each of those before
abbrev pub invariant-loop-k : goal.invariant-loop-k
invariant-loop-k l = record {
  few : (i : ℕ) → slice_index l.nodes.references i ≤ l.k + 1;
  store : l.nodes.store ≡ l.fn.nodes.store;
}
