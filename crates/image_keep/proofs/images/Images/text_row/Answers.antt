use Rattle.image_keep.proofs.StateOf.{kept_is}
use Rattle.std.proofs.Common.{◌∙◌}
use Rattle.image_keep.specs.Inside.{stock_in}
use Rattle.image_keep.proofs.TextSearch.{row_is, used_is}
use Rattle.image_keep.proofs.images.Images.text_row.Goals as goal

pub row-requires : goal.row-requires
row-requires c = used_is (stock_in c.self.inside) c.args.self.now.kept c.args.t (kept_is c.self.view_is) c.requires

pub returns : goal.returns
returns c = c.row.ensures ∙ row_is (stock_in c.self.inside) c.args.self.now.kept c.args.t (kept_is c.self.view_is)
