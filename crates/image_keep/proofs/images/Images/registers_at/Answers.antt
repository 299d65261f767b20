use Rattle.std.proofs.Common.{◌∙◌, ap}
use Rattle.u_area.specs.declared.area.UArea.{UArea}
use Rattle.image_keep.proofs.images.Images.registers_at.Goals as goal

pub returns-clause-r : goal.returns-clause-r
returns-clause-r c = c.registers.ensures ∙ ap (λ (u : UArea). u.r) c.area_bytes_at-bytes.ensures.read

pub returns-clause-cc : goal.returns-clause-cc
returns-clause-cc c = c.codes.ensures ∙ ap (λ (u : UArea). u.cc) c.area_bytes_at-bytes.ensures.read
