use Rattle.std.proofs.Common.{rules}
use Rattle.fs_codec.proofs.WordsLemmas.{words_kept}
use Rattle.image_keep.proofs.Registers.{state_spelled}
use Rattle.image_keep.proofs.state.state_bytes.Goals as goal

pub returns : goal.returns
returns c =
    state_spelled _ c.args.r.now c.args.cc (search rules) c.see_bytes.ensures
    (words_kept _ _ _ 0 8 c.put_words.ensures.here (search rules) (λ k low high. search rules)) (search rules)
