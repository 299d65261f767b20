use Rattle.std.proofs.Common.{[], ◌++◌, ◌*◌, ◌∙◌, ap}
use Rattle.make_image.specs.Padded.{padded}
use Rattle.make_image.proofs.ImageLemmas.{built}
use Rattle.make_image.proofs.image.build.Goals as goal

pub returns-clause-bytes : goal.returns-clause-bytes
returns-clause-bytes c =
    let files = c.in_ok-files.files in
    built c.args.n c.next_block-first_free.result files c.push_padded.new.bytes.items c.push_super.new.image.items c.push_padded-2.new.bytes.items c.extend_from_slice.new.self.items c.push_free_blocks.new.image.items
    c.in_ok-files.ensures.nodes c.next_block-first_free.ensures
    (c.in_ok-push_padded.ensures.items ∙ ap (λ l. l ++ padded 512 []) c.in_ok-image.ensures.items)
    c.in_ok-push_super.ensures.items
    (c.in_ok-push_padded-2.ensures.items ∙ ap (λ l. c.push_super.new.image.items ++ padded (60 * 512) l) c.deref.ensures.value)
    (c.in_ok-extend_from_slice.ensures.items ∙ ap (λ l. c.push_padded-2.new.bytes.items ++ l) c.deref-2.ensures.value)
    c.in_ok-push_free_blocks.ensures.items
