use Rattle.std.proofs.Common.{◌∙◌, List, ℕ, slice_index, length, ap, arith}
use Rattle.image_keep.proofs.StateOf.{swap_is}
use Rattle.image_keep.proofs.Holding.{held_by}
use Rattle.image_keep.proofs.images.Images.swap_byte.Goals as goal

pub swap_byte-requires : goal.swap_byte-requires
swap_byte-requires c =
    let a = (held_by c.self.invariant c.self.view_is).in_swap.size in
    let b = ap (λ (bytes : List ℕ). length bytes) (swap_is c.self.view_is) in
    let e = c.requires in
    omega (arith, a, b, e)

pub returns-clause-byte : goal.returns-clause-byte
returns-clause-byte c = c.swap_byte.ensures ∙ ap (λ (bytes : List ℕ). slice_index bytes c.args.at) (swap_is c.self.view_is)

pub returns-clause-holds : goal.returns-clause-holds
returns-clause-holds c = held_by c.self.invariant c.self.view_is
