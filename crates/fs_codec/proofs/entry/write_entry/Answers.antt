use Rattle.std.proofs.Common.{◌∙◌, arith, rules}
use Rattle.std.proofs.lemmas.Slice.{between-put_mid}
use Rattle.fs_codec.proofs.FieldsLemmas.{one_entry}
use Rattle.fs_codec.proofs.entry.write_entry.Goals as goal

pub returns : goal.returns
returns c = one_entry _ _ (search rules)
    (between-put_mid 2 14 c.put_word.new.b c.copy_from_slice.new.self 16 (omega arith) (omega (arith, c.copy_from_slice.ensures.len)) ∙ c.copy_from_slice.ensures.after)
