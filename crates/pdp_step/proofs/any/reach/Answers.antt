-- PC goes into its register and comes out of it.
use Rattle.std.proofs.Common.{arith}
use Rattle.pdp_decode.specs.Decode.{reg_of}
use Rattle.pdp_step.proofs.AnyMode.{reach_done, reach_halts}
use Rattle.pdp_step.proofs.any.reach.Goals as goal

pub returns-in-Ok-clause-formed : goal.returns-in-Ok-clause-formed
unfolding reg_of
returns-in-Ok-clause-formed g c = reach_done (g.P.Processor.machine c.args.p.now) (g.P.Processor.machine c.set_pc.new.p) (g.P.Processor.machine c.find.new.p) c.args.pc.now c.reg.result c.in-Ok.at c.args.n g.W.Size.width c.mode_in.result c.set_pc.ensures.machine c.mode_in.ensures c.reg.ensures (omega arith) c.in-Ok.ensures.formed

pub returns-in-Err-clause-formed : goal.returns-in-Err-clause-formed
returns-in-Err-clause-formed g c = reach_halts (g.P.Processor.machine c.args.p.now) (g.P.Processor.machine c.set_pc.new.p) (g.P.Processor.machine c.find.new.p) c.args.pc.now c.args.n c.in-Err.halt g.W.Size.width c.mode_in.result c.set_pc.ensures.machine c.mode_in.ensures c.in-Err.ensures.formed
