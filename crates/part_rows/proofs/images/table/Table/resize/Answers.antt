use Rattle.part_rows.proofs.images.table.Table.resize.Goals as goal

pub resize-requires-clause-image : goal.resize-requires-clause-image
resize-requires-clause-image c = (c.has_image.ensures c.if-not-has_image.false).1

pub area-text_size-requires : goal.area-text_size-requires
area-text_size-requires c = (c.has_image.ensures c.if-not-has_image.false).1
