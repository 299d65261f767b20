use Rattle.std.proofs.Common.{◌∙◌, ap}
use Rattle.image_keep.specs.declared.row.Row.{Row}
use Rattle.image_keep.specs.Inside.{stock_in}
use Rattle.image_keep.specs.Memory.{is_alive}
use Rattle.image_keep.proofs.StateOf.{kept_is}
use Rattle.image_keep.proofs.AreaSet.{known, starts_at}
use Rattle.image_keep.proofs.images.Images.area_start.Goals as goal

pub row_of-requires : goal.row_of-requires
row_of-requires c = rw c.deref.ensures.value ((known (stock_in c.self.inside) c.args.self.now.kept c.args.s (kept_is c.self.view_is) c.self.invariant.sound c.self.invariant.counted c.requires).low)

pub place_of-requires : goal.place_of-requires
place_of-requires c = ap is_alive (ap (λ (r : Row). r.state) (rw c.deref.ensures.value at c.row_of.ensures) ∙ (known (stock_in c.self.inside) c.args.self.now.kept c.args.s (kept_is c.self.view_is) c.self.invariant.sound c.self.invariant.counted c.requires).is)

pub returns : goal.returns
returns c = starts_at (stock_in c.self.inside) c.args.self.now.kept c.args.s c.place_click.result c.row_of.result c.place_of.result (kept_is c.self.view_is) c.self.invariant.sound c.self.invariant.counted c.requires (rw c.deref.ensures.value at c.row_of.ensures) c.place_of.ensures c.place_click.ensures
