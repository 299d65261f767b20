use Rattle.std.proofs.Common.{◌∙◌}
use Rattle.image_keep.proofs.StateOf.{swap_is}
use Rattle.image_keep.proofs.Holding.{held_by}
use Rattle.image_keep.proofs.images.Images.swap.Goals as goal

pub returns-clause-bytes : goal.returns-clause-bytes
returns-clause-bytes c = c.swap_bytes.ensures ∙ swap_is c.self.view_is

pub returns-clause-holds : goal.returns-clause-holds
returns-clause-holds c = held_by c.self.invariant c.self.view_is
