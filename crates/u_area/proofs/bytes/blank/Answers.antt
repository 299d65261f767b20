use Rattle.u_area.proofs.PartLemmas.{zero_byte}
use Rattle.u_area.proofs.bytes.blank.Goals as goal

pub returns : goal.returns
returns c = λ k. zero_byte 120 k
