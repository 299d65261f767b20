use Rattle.std.proofs.Common.{◌≡◌, ◌<◌, ℕ, length, slice_index}
use Rattle.make_image.specs.FreeBlocks.{number}
use Rattle.make_image.proofs.free_list.free_numbers.Given as goal

abbrev pub invariant-loop-i : goal.invariant-loop-i
invariant-loop-i l = record {
  long : length l.numbers ≡ 100;
  each : (k : ℕ) → k < l.i → slice_index l.numbers k ≡ number l.lowest l.top k;
}
