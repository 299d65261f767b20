use Rattle.std.proofs.Common.{◌∙◌, List, ℕ, slice_index, ap, arith}
use Rattle.image_keep.specs.Inside.{stock_in}
use Rattle.image_keep.specs.Kept.{Kept}
use Rattle.image_keep.proofs.StateOf.{kept_is, core_is}
use Rattle.image_keep.proofs.InPlan.{core_kept}
use Rattle.image_keep.proofs.Holding.{held_by}
use Rattle.image_keep.proofs.images.Images.core_byte.Goals as goal

pub core_byte-requires : goal.core_byte-requires
core_byte-requires c =
    let a = c.self.invariant.cut in
    let b = ap (λ (k : Kept). k.core) (kept_is c.self.view_is) in
    let d = core_kept (stock_in c.self.inside) in
    let e = c.requires in
    omega (arith, a, b, d, e)

pub returns-clause-byte : goal.returns-clause-byte
returns-clause-byte c = c.core_byte.ensures ∙ ap (λ (bytes : List ℕ). slice_index bytes c.args.at) (core_is c.self.view_is)

pub returns-clause-holds : goal.returns-clause-holds
returns-clause-holds c = held_by c.self.invariant c.self.view_is
