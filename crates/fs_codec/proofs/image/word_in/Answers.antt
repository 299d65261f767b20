use Rattle.std.proofs.Common.{◌≡◌, ◌+◌, ◌*◌, ◌∙◌, ap, arith}
use Rattle.fs_codec.specs.Words.{word}
use Rattle.fs_codec.specs.Disk.{disk_of}
use Rattle.fs_codec.proofs.ImageLemmas.{word_of_disk}
use Rattle.fs_codec.proofs.image.word_in.Goals as goal

pub returns : goal.returns
returns c =
    let spelled : c.byte_in.result + 256 * c.byte_in-2.result ≡ word (disk_of c.args.image.now c.from.result) c.from-2.result =
    word_of_disk c.args.image.now c.from.result c.from-2.result c.byte_in.result c.byte_in-2.result (omega arith) c.byte_in.ensures c.byte_in-2.ensures in
    c.word_at.ensures ∙ spelled ∙ ap (λ b. word (disk_of c.args.image.now b) c.from-2.result) c.from.ensures ∙ ap (word (disk_of c.args.image.now c.args.block)) c.from-2.ensures
