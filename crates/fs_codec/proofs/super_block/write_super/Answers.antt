use Rattle.std.proofs.Common.{rules}
use Rattle.fs_codec.proofs.FieldsLemmas.{one_super}
use Rattle.fs_codec.proofs.WordsLemmas.{words_kept, drop_kept}
use Rattle.fs_codec.proofs.super_block.write_super.Goals as goal

pub returns-clause-spelled : goal.returns-clause-spelled
returns-clause-spelled c = one_super _ _ (search rules) (search rules) (search rules)
    (words_kept _ _ _ 6 100 c.put_words.ensures.here (search rules) (λ k low high. search rules)) (search rules)
    (words_kept _ _ _ 208 100 c.put_words-2.ensures.here (search rules) (λ k low high. search rules))
    (search rules) (search rules) (search rules) (search rules) (search rules)

pub returns-clause-rest : goal.returns-clause-rest
returns-clause-rest c = drop_kept c.args.b.now c.put_long.new.b 416 (search rules) (λ k far. search rules)
