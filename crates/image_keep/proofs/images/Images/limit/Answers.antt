use Rattle.image_keep.proofs.StateOf.{kept_is}
use Rattle.std.proofs.Common.{◌∙◌, ap, sym}
use Rattle.std.specs.Prelude.{min}
use Rattle.image_keep.specs.Inside.{stock_in}
use Rattle.image_keep.specs.Kept.{Kept}
use Rattle.image_keep.proofs.InPlan.{core_kept}
use Rattle.image_keep.proofs.images.Images.limit.Goals as goal

pub returns : goal.returns
returns c = c.min.ensures ∙ ap (λ n. min n 2048) (sym (core_kept (stock_in c.self.inside)) ∙ ap (λ (k : Kept). k.core) (kept_is c.self.view_is))
