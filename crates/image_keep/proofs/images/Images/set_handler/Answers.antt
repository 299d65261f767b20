use Rattle.image_keep.proofs.FieldPut.{handler_law}
use Rattle.image_keep.proofs.images.Images.set_handler.Goals as goal

pub put_field-requires-clause-law : goal.put_field-requires-clause-law
put_field-requires-clause-law c = rw c.one_word.ensures (_, handler_law _ _ _ c.requires.number)

pub returns-clause-kept : goal.returns-clause-kept
returns-clause-kept c = (rw c.one_word.ensures at c.put_field.ensures.kept) _ (handler_law _ _ _ c.requires.number)

pub returns-clause-written : goal.returns-clause-written
returns-clause-written c = rw c.one_word.ensures at c.put_field.ensures.written
