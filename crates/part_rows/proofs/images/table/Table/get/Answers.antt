use Rattle.part_rows.proofs.images.table.Table.get.Goals as goal

pub space-space-requires : goal.space-space-requires
space-space-requires c = (c.has_image.ensures c.if-not-has_image.false).1
