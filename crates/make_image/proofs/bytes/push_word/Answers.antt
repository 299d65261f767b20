use Rattle.std.proofs.Common.{◌≡◌, ◌∷◌, [], rules}
use Rattle.fs_codec.specs.Bytes.{bytes_of}
use Rattle.make_image.proofs.PaddedLemmas.{bytes_of_pair}
use Rattle.make_image.proofs.bytes.push_word.Goals as goal

pub returns-clause-items : goal.returns-clause-items
returns-clause-items c =
    let spelled : c.put_word.new.b ≡ bytes_of (c.args.word ∷ []) = bytes_of_pair _ c.args.word (search rules) c.push_bytes.ensures.fits c.put_word.ensures.here in
    search rules
