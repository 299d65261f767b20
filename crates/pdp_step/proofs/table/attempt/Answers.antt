-- A word that is fetched has its row.
use Rattle.std.proofs.Common.{arith}
use Rattle.pdp_decode.specs.Decode.{reg_of}
use Rattle.pdp_step.proofs.TableRows.{attempted, unattempted}
use Rattle.pdp_step.proofs.table.attempt.Goals as goal

pub returns-in-Ok-clause-attempt : goal.returns-in-Ok-clause-attempt
unfolding reg_of
returns-in-Ok-clause-attempt g c = attempted c.perform_instruction.result (g.P.Processor.machine c.perform_instruction.new.p) (g.P.Processor.machine c.args.p.now) c.reg-pc.result c.in-Ok.word c.reg-pc.ensures (omega arith) c.in-Ok.ensures.word c.perform_instruction.ensures.row

pub returns-in-Err-clause-attempt : goal.returns-in-Err-clause-attempt
unfolding reg_of
returns-in-Err-clause-attempt g c = unattempted c.in-Err.halt (g.P.Processor.machine c.args.p.now) c.reg-pc.result c.reg-pc.ensures (omega arith) c.in-Err.ensures.word
