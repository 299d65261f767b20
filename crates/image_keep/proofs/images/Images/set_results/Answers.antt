use Rattle.image_keep.proofs.FieldPut.{results_law}
use Rattle.image_keep.proofs.images.Images.set_results.Goals as goal

pub put_field-requires-clause-law : goal.put_field-requires-clause-law
put_field-requires-clause-law c = rw c.two_words.ensures (_, results_law _ _ _)

pub returns-clause-kept : goal.returns-clause-kept
returns-clause-kept c = (rw c.two_words.ensures at c.put_field.ensures.kept) _ (results_law _ _ _)

pub returns-clause-written : goal.returns-clause-written
returns-clause-written c = rw c.two_words.ensures at c.put_field.ensures.written
