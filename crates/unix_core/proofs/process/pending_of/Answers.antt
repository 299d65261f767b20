use Rattle.std.proofs.Common.{◌∙◌, ap}
use Rattle.u_area.specs.declared.area.UArea.{UArea}
use Rattle.unix_core.proofs.process.pending_of.Goals as goal

pub returns : goal.returns
returns c = c.pending_call.ensures ∙ ap (λ (u : UArea). u.pending) c.area_bytes.ensures.read
