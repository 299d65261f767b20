use Rattle.image_keep.proofs.FieldPut.{codes_law}
use Rattle.image_keep.proofs.images.Images.set_codes.Goals as goal

pub put_field-requires-clause-law : goal.put_field-requires-clause-law
put_field-requires-clause-law c = (_, codes_law _ _ c.requires.codes)

pub returns-clause-kept : goal.returns-clause-kept
returns-clause-kept c = c.put_field.ensures.kept _ (codes_law _ _ c.requires.codes)
