use Rattle.std.proofs.Common.{◌∙◌, sym, ap, arith}
use Rattle.std.proofs.lemmas.Bool.{false≢true}
use Rattle.v6_base.specs.declared.space.Trap.TheVariants.{Odd, Segment}
use Rattle.v6_base.specs.Access.{store_word, image_after, answer_of}
use Rattle.image_keep.specs.Kept.{image_of, with_image}
use Rattle.image_keep.proofs.Words.{refused_kept, word_is, word_refused, word_stored}
use Rattle.v6_base.proofs.Cuts.{store_odd}
use Rattle.image_keep.proofs.images.Images.store_word.Goals as goal

pub returns-then-at-eq1-clause-answer : goal.returns-then-at-eq1-clause-answer
returns-then-at-eq1-clause-answer c = sym (ap answer_of (store_odd (image_of c.args.self.now.kept c.args.s) c.args.at c.args.value c.if-at-eq1.true))

pub returns-then-at-eq1-clause-kept : goal.returns-then-at-eq1-clause-kept
returns-then-at-eq1-clause-kept c = refused_kept c.args.self.now.kept c.args.s (store_word (image_of c.args.self.now.kept c.args.s) c.args.at c.args.value) Odd (store_odd (image_of c.args.self.now.kept c.args.s) c.args.at c.args.value c.if-at-eq1.true)

pub returns-then-not-is_storable-clause-answer : goal.returns-then-not-is_storable-clause-answer
returns-then-not-is_storable-clause-answer c = sym (ap answer_of (word_refused (image_of c.args.self.now.kept c.args.s) c.args.at c.args.value c.find-named.result (omega (arith, c.if-at-eq1.false)) c.find-named.ensures.named (c.find-named.ensures.next (omega (arith, c.if-at-eq1.false))) (λ s. false≢true (sym c.if-not-is_storable.true ∙ c.is_storable.ensures.1 s))))

pub returns-then-not-is_storable-clause-kept : goal.returns-then-not-is_storable-clause-kept
returns-then-not-is_storable-clause-kept c = refused_kept c.args.self.now.kept c.args.s (store_word (image_of c.args.self.now.kept c.args.s) c.args.at c.args.value) Segment (word_refused (image_of c.args.self.now.kept c.args.s) c.args.at c.args.value c.find-named.result (omega (arith, c.if-at-eq1.false)) c.find-named.ensures.named (c.find-named.ensures.next (omega (arith, c.if-at-eq1.false))) (λ s. false≢true (sym c.if-not-is_storable.true ∙ c.is_storable.ensures.1 s)))

pub returns-clause-answer : goal.returns-clause-answer
returns-clause-answer c = word_stored (image_of c.args.self.now.kept c.args.s) c.args.at c.args.value c.find-named.result (omega (arith, c.if-at-eq1.false)) c.find-named.ensures.named (c.find-named.ensures.next (omega (arith, c.if-at-eq1.false))) (c.is_storable.ensures.0 c.if-not-is_storable.false)

pub returns-clause-kept : goal.returns-clause-kept
returns-clause-kept c = c.put_word.ensures.kept ∙ ap (λ r. with_image c.args.self.now.kept c.args.s (image_after (image_of c.args.self.now.kept c.args.s) r)) (sym (word_is (image_of c.args.self.now.kept c.args.s) c.args.at c.args.value c.find-named.result (omega (arith, c.if-at-eq1.false)) c.find-named.ensures.named (c.find-named.ensures.next (omega (arith, c.if-at-eq1.false)))))
