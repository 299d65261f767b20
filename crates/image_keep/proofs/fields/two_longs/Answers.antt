use Rattle.std.proofs.Common.{◌++◌, refl}
use Rattle.fs_codec.specs.Bytes.{long_words}
use Rattle.image_keep.proofs.FieldPut.{words_put}
use Rattle.image_keep.proofs.fields.two_longs.Goals as goal

pub returns : goal.returns
returns c = words_put (long_words c.args.first ++ long_words c.args.second) c.put_words.new.b 4 refl c.put_words.auto.b c.see_bytes.ensures c.put_words.ensures.here
