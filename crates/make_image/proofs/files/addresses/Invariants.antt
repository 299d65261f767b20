use Rattle.std.proofs.Common.{◌≡◌, ◌+◌, ◌<◌, ◌≤◌, ℕ, length, slice_index}
use Rattle.make_image.proofs.files.addresses.Given as goal

abbrev pub invariant-loop-i : goal.invariant-loop-i
invariant-loop-i l = record {
  long : length l.addresses ≡ 8;
  each : (k : ℕ) → k < l.i → slice_index l.addresses k ≡ l.first + k;
  rest : (k : ℕ) → l.i ≤ k → slice_index l.addresses k ≡ 0;
}
