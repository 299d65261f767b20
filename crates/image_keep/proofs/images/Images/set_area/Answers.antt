use Rattle.image_keep.proofs.Told.{area_sizes}
use Rattle.image_keep.proofs.FieldPut.{front_law}
use Rattle.image_keep.proofs.images.Images.set_area.Goals as goal

pub put_field-requires-clause-law : goal.put_field-requires-clause-law
put_field-requires-clause-law c = rw c.front-front.ensures.written (_, front_law _ _ c.front-front.ensures.sized (area_sizes _ _ _ c.see_kept.ensures c.requires.image c.requires.sizes))

pub returns-clause-kept : goal.returns-clause-kept
returns-clause-kept c = (rw c.front-front.ensures.written at c.put_field.ensures.kept) _ (front_law _ _ c.front-front.ensures.sized (area_sizes _ _ _ c.see_kept.ensures c.requires.image c.requires.sizes))

pub returns-clause-written : goal.returns-clause-written
returns-clause-written c = rw c.front-front.ensures.written at c.put_field.ensures.written
