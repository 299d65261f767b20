use Rattle.std.proofs.Common.{◌∙◌, sym, ap}
use Rattle.std.proofs.lemmas.Bool.{false≢true}
use Rattle.v6_base.specs.declared.space.Trap.TheVariants.{Segment}
use Rattle.v6_base.specs.Access.{store_byte, image_after, answer_of}
use Rattle.image_keep.specs.Kept.{image_of, with_image}
use Rattle.image_keep.proofs.Words.{refused_kept, byte_is, byte_refused, byte_stored}
use Rattle.image_keep.proofs.images.Images.store_byte.Goals as goal

pub returns-then-not-is_storable-clause-answer : goal.returns-then-not-is_storable-clause-answer
returns-then-not-is_storable-clause-answer c = sym (ap answer_of (byte_refused (image_of c.args.self.now.kept c.args.s) c.args.at c.args.value c.find-named.result c.find-named.ensures.named (λ s. false≢true (sym c.if-not-is_storable.true ∙ c.is_storable.ensures.1 s))))

pub returns-then-not-is_storable-clause-kept : goal.returns-then-not-is_storable-clause-kept
returns-then-not-is_storable-clause-kept c = refused_kept c.args.self.now.kept c.args.s (store_byte (image_of c.args.self.now.kept c.args.s) c.args.at c.args.value) Segment (byte_refused (image_of c.args.self.now.kept c.args.s) c.args.at c.args.value c.find-named.result c.find-named.ensures.named (λ s. false≢true (sym c.if-not-is_storable.true ∙ c.is_storable.ensures.1 s)))

pub returns-clause-answer : goal.returns-clause-answer
returns-clause-answer c = byte_stored (image_of c.args.self.now.kept c.args.s) c.args.at c.args.value c.find-named.result c.find-named.ensures.named (c.is_storable.ensures.0 c.if-not-is_storable.false)

pub returns-clause-kept : goal.returns-clause-kept
returns-clause-kept c = c.put_byte.ensures.kept ∙ ap (λ r. with_image c.args.self.now.kept c.args.s (image_after (image_of c.args.self.now.kept c.args.s) r)) (sym (byte_is (image_of c.args.self.now.kept c.args.s) c.args.at c.args.value c.find-named.result c.find-named.ensures.named))
