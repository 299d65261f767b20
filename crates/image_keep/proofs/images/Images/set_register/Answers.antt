use Rattle.std.proofs.Common.{zero-add}
use Rattle.image_keep.proofs.FieldPut.{register_law}
use Rattle.image_keep.proofs.images.Images.set_register.Goals as goal

pub put_field-requires-clause-law : goal.put_field-requires-clause-law
put_field-requires-clause-law c = rw (zero-add, c.one_word.ensures) (_, register_law _ _ _ c.requires.number)

pub returns-clause-kept : goal.returns-clause-kept
returns-clause-kept c = (rw (zero-add, c.one_word.ensures) at c.put_field.ensures.kept) _ (register_law _ _ _ c.requires.number)

pub returns-clause-written : goal.returns-clause-written
returns-clause-written c = rw (zero-add, c.one_word.ensures) at c.put_field.ensures.written
