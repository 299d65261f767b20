use Rattle.std.proofs.Common.{rules}
use Rattle.fs_codec.proofs.FieldsLemmas.{one_inode}
use Rattle.fs_codec.proofs.WordsLemmas.{words_kept}
use Rattle.fs_codec.proofs.node_bytes.write_node.Goals as goal

pub returns : goal.returns
returns c = one_inode _ _ (search rules) (search rules) (search rules) (search rules) (search rules)
    (words_kept _ _ _ 8 8 c.put_words.ensures.here (search rules) (λ k low high. search rules)) (search rules) (search rules)
