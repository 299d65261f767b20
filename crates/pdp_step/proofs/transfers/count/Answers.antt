-- Registers alone have changed.
use Rattle.std.proofs.Common.{refl, ◌/◌, ◌%◌}
use Rattle.pdp_decode.specs.Decode.{reg_of}
use Rattle.pdp_step.specs.Rows.{counted}
use Rattle.pdp_step.specs.Parts.{at_pc}
use Rattle.pdp_step.proofs.RowEnds.{plain_done}
use Rattle.pdp_step.proofs.transfers.count.Goals as goal

pub returns-clause-row : goal.returns-clause-row
returns-clause-row g c =
    let old = g.P.Processor.machine c.args.p.now in
    plain_done (g.P.Processor.machine c.count_down.new.p) (record old { r = counted (at_pc old c.args.pc).r (reg_of (c.args.word / 64 % 8)) (c.args.word % 64) }) old.image c.count_down.ensures.machine refl
