use Rattle.std.proofs.Common.{refl, sym, arith}
use Rattle.fs_codec.proofs.WordsLemmas.{words_by_places}
use Rattle.fs_codec.proofs.words.put_words.Goals as goal

pub returns-clause-here : goal.returns-clause-here
returns-clause-here c = sym (words_by_places _ _ _ _ refl (λ k h. c.loop-i.invariant.here k (omega arith)))
