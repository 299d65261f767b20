use Rattle.std.proofs.Common.{◌≡◌, ap, ◌∙◌, rules}
use Rattle.fs_codec.specs.Bytes.{super_bytes}
use Rattle.make_image.specs.Padded.{padded}
use Rattle.make_image.proofs.PaddedLemmas.{padded_super}
use Rattle.make_image.proofs.bytes.push_super_block.Goals as goal

pub returns-clause-items : goal.returns-clause-items
returns-clause-items c =
    let spelled : c.write_super.new.b ≡ padded 512 (super_bytes c.args.head.now) = padded_super _ c.write_super.array_long c.push_bytes.ensures.fits c.write_super.ensures.rest ∙ ap (λ s. padded 512 (super_bytes s)) c.write_super.ensures.spelled in
    search rules
