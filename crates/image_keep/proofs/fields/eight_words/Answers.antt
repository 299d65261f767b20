use Rattle.std.proofs.Common.{rules}
use Rattle.image_keep.proofs.FieldPut.{words_put}
use Rattle.image_keep.proofs.fields.eight_words.Goals as goal

pub returns : goal.returns
returns c = words_put c.args.words.now c.put_words.new.b 8 (search rules) c.put_words.auto.b c.see_bytes.ensures c.put_words.ensures.here
