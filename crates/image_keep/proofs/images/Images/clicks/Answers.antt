use Rattle.image_keep.proofs.StateOf.{kept_is}
use Rattle.std.proofs.Common.{◌≤◌, ◌+◌, sym, arith, subst}
use Rattle.image_keep.specs.declared.row.Row.{Row}
use Rattle.image_keep.specs.Inside.{stock_in}
use Rattle.image_keep.proofs.AreaSet.{known}
use Rattle.image_keep.proofs.SwapOut.{out_clicks}
use Rattle.image_keep.proofs.images.Images.clicks.Goals as goal

pub row_of-requires : goal.row_of-requires
row_of-requires c = rw c.deref.ensures.value ((known (stock_in c.self.inside) c.args.self.now.kept c.args.s (kept_is c.self.view_is) c.self.invariant.sound c.self.invariant.counted c.requires).low)

pub clicks_of-requires : goal.clicks_of-requires
clicks_of-requires c = let g = subst (λ (r : Row). r.data_size + r.stack_size ≤ 1024) (sym (rw c.deref.ensures.value at c.row_of.ensures)) (known (stock_in c.self.inside) c.args.self.now.kept c.args.s (kept_is c.self.view_is) c.self.invariant.sound c.self.invariant.counted c.requires).sizes in omega (arith, g)

pub returns : goal.returns
returns c = sym (out_clicks (stock_in c.self.inside) c.args.self.now.kept c.args.s c.requires.0.place c.row_of.result c.clicks_of.result (kept_is c.self.view_is) c.self.invariant.sound (known (stock_in c.self.inside) c.args.self.now.kept c.args.s (kept_is c.self.view_is) c.self.invariant.sound c.self.invariant.counted c.requires).is (rw c.deref.ensures.value at c.row_of.ensures) c.clicks_of.ensures)
