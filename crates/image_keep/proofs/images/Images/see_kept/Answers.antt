use Rattle.image_keep.proofs.StateOf.{kept_is}
use Rattle.image_keep.specs.Inside.{stock_in}
use Rattle.image_keep.proofs.KeptForm.{kept_holds}
use Rattle.image_keep.proofs.images.Images.see_kept.Goals as goal

pub returns : goal.returns
returns c = kept_holds (stock_in c.self.inside) c.args.self.now.kept (kept_is c.self.view_is) c.self.invariant.sound c.self.invariant.table c.self.invariant.told c.see_bytes.ensures
