use Rattle.std.proofs.Common.{◌≡◌, ◌+◌, ◌*◌, ◌<◌, ℕ, slice_index}
use Rattle.fs_codec.specs.Words.{word, SameOutside}
use Rattle.fs_codec.proofs.words.put_words.Given as goal

abbrev pub invariant-loop-i : goal.invariant-loop-i
invariant-loop-i l = record {
  here : (k : ℕ) → k < l.i → slice_index l.from k ≡ word l.b (l.at + 2 * k);
  others : SameOutside l.at (2 * l.i) l.fn.b l.b;
}
