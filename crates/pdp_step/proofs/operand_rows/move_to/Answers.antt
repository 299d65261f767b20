-- The row goes on after its source, or stops there.
use Rattle.std.proofs.Common.{◌/◌}
use Rattle.pdp_decode.specs.Decode.{operand_of}
use Rattle.pdp_step.proofs.RowEnds.{moved_goes, moved_halts}
use Rattle.pdp_step.proofs.operand_rows.move_to.Goals as goal

pub returns-in-Ok-clause-row : goal.returns-in-Ok-clause-row
returns-in-Ok-clause-row g c = moved_goes c.put_moved.result (g.P.Processor.machine c.put_moved.new.p) (g.P.Processor.machine c.args.p.now) (g.P.Processor.machine c.value.new.p) c.value.new.pc c.args.from c.in-Ok.value g.W.Size.width (operand_of (c.args.word / 64)) (operand_of c.args.word) c.value.ensures.image c.value.ensures.codes c.in-Ok.ensures.source c.put_moved.ensures.row

pub returns-in-Err-clause-row : goal.returns-in-Err-clause-row
returns-in-Err-clause-row g c = moved_halts (g.P.Processor.machine c.args.p.now) (g.P.Processor.machine c.value.new.p) c.value.new.pc c.args.from g.W.Size.width (operand_of (c.args.word / 64)) (operand_of c.args.word) c.in-Err.halt c.value.ensures.image c.in-Err.ensures.source
