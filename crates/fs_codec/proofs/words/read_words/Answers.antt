use Rattle.std.proofs.Common.{arith}
use Rattle.fs_codec.proofs.WordsLemmas.{words_by_places}
use Rattle.fs_codec.proofs.words.read_words.Goals as goal

pub returns : goal.returns
returns c = words_by_places _ _ _ _ (omega arith) (λ k h. c.loop-i.invariant k (omega arith))
