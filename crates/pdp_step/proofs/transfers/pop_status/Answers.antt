-- PC is popped, and then the codes.
use Rattle.std.proofs.Common.{ap, ◌∙◌, ◌%◌}
use Rattle.pdp_decode.specs.Decode.{reg_of}
use Rattle.pdp_step.specs.Machine.{Machine, with_codes}
use Rattle.pdp_step.proofs.PcRows.{resumed_first, resumed_second, resumed_done}
use Rattle.pdp_step.proofs.transfers.pop_status.Goals as goal

pub returns-in-Err-clause-row : goal.returns-in-Err-clause-row
returns-in-Err-clause-row g c = resumed_first (g.P.Processor.machine c.args.p.now) (g.P.Processor.machine c.pop.new.p) c.in-Err.trap c.in-Err.ensures.popped c.pop.ensures.image

pub returns-in-Err-pop-clause-row : goal.returns-in-Err-pop-clause-row
returns-in-Err-pop-clause-row g c = resumed_second (g.P.Processor.machine c.args.p.now) (g.P.Processor.machine c.pop.new.p) (g.P.Processor.machine c.pop-in-Ok.new.p) c.in-Ok.to c.in-Err-pop.trap c.in-Ok.ensures.popped c.in-Err-pop.ensures.popped (c.pop-in-Ok.ensures.image ∙ c.pop.ensures.image)

pub returns-in-Ok-pop-clause-row : goal.returns-in-Ok-pop-clause-row
unfolding reg_of
returns-in-Ok-pop-clause-row g c = resumed_done (g.P.Processor.machine c.args.p.now) (g.P.Processor.machine c.pop.new.p) (g.P.Processor.machine c.pop-in-Ok.new.p) (g.P.Processor.machine c.set_cc.new.self) c.in-Ok.to c.in-Ok-pop.status c.in-Ok.ensures.popped c.in-Ok-pop.ensures.popped (c.pop-in-Ok.ensures.image ∙ c.pop.ensures.image) (c.set_cc.ensures.machine ∙ ap (λ (x : Machine). with_codes x (c.in-Ok-pop.status % 16)) c.set_reg.ensures.machine)
