use Rattle.std.proofs.Common.{◌∙◌, ◌==◌, ℕ, slice_index, ap}
use Rattle.unix_core.proofs.delivery.is_default.Goals as goal

pub returns : goal.returns
returns c =
    ap (λ (n : ℕ). n == 0) (c.handler.ensures ∙ (λ i. slice_index (c.area_bytes.ensures.read i).handlers (c.from.ensures i)))
