use Rattle.part_rows.proofs.TableLemmas.{tied_area, plain_area}
use Rattle.part_rows.proofs.images.table.Table.set_end.Goals as goal

pub area-u-requires : goal.area-u-requires
area-u-requires c = (c.has_image.ensures c.if-not-has_image.false).1

pub set_area-requires-clause-image : goal.set_area-requires-clause-image
set_area-requires-clause-image c = (c.has_image.ensures c.if-not-has_image.false).1

pub invariant_of-self : goal.invariant_of-self
invariant_of-self c = record {
  tied = tied_area c.args.self.now.kinds c.args.self.now.images.kept c.set_area.new.self.kept c.args.s _ c.args.self.now.tied c.set_area.ensures.kept;
  plain = plain_area c.args.self.now.images.kept c.set_area.new.self.kept c.args.s _ c.args.self.now.plain c.set_area.ensures.kept;
}
