use Rattle.std.proofs.Common.{rules}
use Rattle.image_keep.proofs.FieldPut.{ids_law}
use Rattle.image_keep.proofs.images.Images.set_ids.Goals as goal

pub put_field-requires-clause-law : goal.put_field-requires-clause-law
put_field-requires-clause-law c = (_, ids_law _ c.args.ids (search rules))

pub returns-clause-kept : goal.returns-clause-kept
returns-clause-kept c = c.put_field.ensures.kept _ (ids_law _ c.args.ids (search rules))
