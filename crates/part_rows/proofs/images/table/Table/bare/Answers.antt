use Rattle.image_keep.specs.Kept.{Nothing}
use Rattle.part_rows.proofs.TableLemmas.{tied_put, plain_put}
use Rattle.part_rows.proofs.images.table.Table.bare.Goals as goal

pub bare-requires-clause-image : goal.bare-requires-clause-image
bare-requires-clause-image c = (c.has_image.ensures c.if-not-has_image.false).1

pub invariant_of-self : goal.invariant_of-self
invariant_of-self c = record { tied = tied_put c.args.self.now.kinds c.args.self.now.images.kept _ c.args.s Nothing c.args.self.now.tied c.bare.ensures; plain = plain_put c.args.self.now.images.kept _ c.args.s Nothing c.args.self.now.plain c.bare.ensures }
