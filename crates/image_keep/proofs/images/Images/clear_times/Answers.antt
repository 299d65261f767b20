use Rattle.image_keep.proofs.FieldPut.{no_times_law}
use Rattle.image_keep.proofs.images.Images.clear_times.Goals as goal

pub put_field-requires-clause-law : goal.put_field-requires-clause-law
put_field-requires-clause-law c = (_, no_times_law _)

pub returns-clause-kept : goal.returns-clause-kept
returns-clause-kept c = c.put_field.ensures.kept _ (no_times_law _)
