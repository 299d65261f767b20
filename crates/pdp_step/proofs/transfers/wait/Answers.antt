-- PC alone has changed.
use Rattle.std.proofs.Common.{refl}
use Rattle.pdp_step.specs.Parts.{at_pc}
use Rattle.pdp_step.proofs.RowEnds.{plain_done}
use Rattle.pdp_step.proofs.transfers.wait.Goals as goal

pub returns-clause-row : goal.returns-clause-row
returns-clause-row g c =
    let old = g.P.Processor.machine c.args.p.now in
    plain_done (g.P.Processor.machine c.set_pc.new.p) (at_pc old c.args.pc) old.image c.set_pc.ensures.machine refl
