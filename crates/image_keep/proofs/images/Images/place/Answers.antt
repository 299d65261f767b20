use Rattle.image_keep.proofs.StateOf.{kept_is}
use Rattle.std.proofs.Common.{◌∙◌}
use Rattle.image_keep.specs.Inside.{stock_in}
use Rattle.image_keep.proofs.KeptForm.{kept_holds, place_is, row_low}
use Rattle.image_keep.proofs.images.Images.place.Goals as goal

pub row_of-row-requires : goal.row_of-row-requires
row_of-row-requires c = rw c.deref.ensures.value (row_low (stock_in c.self.inside) c.args.s c.self.invariant.sound c.requires)

pub returns-clause-place : goal.returns-clause-place
returns-clause-place c = c.place_in.ensures ∙ place_is (stock_in c.self.inside) c.args.self.now.kept c.args.s c.row_of-row.result (kept_is c.self.view_is) (rw c.deref.ensures.value at c.row_of-row.ensures)

pub returns-clause-holds : goal.returns-clause-holds
returns-clause-holds c = kept_holds (stock_in c.self.inside) c.args.self.now.kept (kept_is c.self.view_is) c.self.invariant.sound c.self.invariant.table c.self.invariant.told c.see_bytes.ensures
