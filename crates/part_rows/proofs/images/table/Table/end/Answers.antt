use Rattle.part_rows.proofs.images.table.Table.end.Goals as goal

pub end-requires-clause-image : goal.end-requires-clause-image
end-requires-clause-image c = (c.has_image.ensures c.if-not-has_image.false).1
