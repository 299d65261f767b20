use Rattle.std.proofs.Common.{◌≡◌, ◌+◌, ◌*◌, ◌++◌, take, vec_len}
use Rattle.fs_codec.specs.Bytes.{bytes_of}
use Rattle.make_image.proofs.bytes.push_words.Given as goal

abbrev pub invariant-loop-word : goal.invariant-loop-word
invariant-loop-word l = record {
  items : l.bytes.items ≡ l.fn.bytes.items ++ bytes_of (take l.word-index l.words);
  len : vec_len l.bytes ≡ vec_len l.fn.bytes + 2 * l.word-index;
}
