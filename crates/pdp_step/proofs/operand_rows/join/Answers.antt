-- The row goes on after its source, or stops there.
use Rattle.std.proofs.Common.{◌/◌}
use Rattle.pdp_decode.specs.Decode.{operand_of}
use Rattle.pdp_step.specs.Machine.{carry_in}
use Rattle.pdp_step.proofs.RowEnds.{joined_goes, joined_halts}
use Rattle.pdp_step.proofs.operand_rows.join.Goals as goal

pub returns-in-Ok-clause-row : goal.returns-in-Ok-clause-row
returns-in-Ok-clause-row g c = joined_goes c.alter_with.result (g.P.Processor.machine c.alter_with.new.p) (g.P.Processor.machine c.args.p.now) (g.P.Processor.machine c.value.new.p) c.value.new.pc c.args.from c.in-Ok.source g.W.Size.width (operand_of (c.args.word / 64)) (operand_of c.args.word) (λ b. g.O.Operation.made g.W.Size.width b) c.value.ensures.image c.value.ensures.codes c.in-Ok.ensures.source c.alter_with.ensures.row

pub returns-in-Err-clause-row : goal.returns-in-Err-clause-row
returns-in-Err-clause-row g c = joined_halts (g.P.Processor.machine c.args.p.now) (g.P.Processor.machine c.value.new.p) c.value.new.pc c.args.from g.W.Size.width (operand_of (c.args.word / 64)) (operand_of c.args.word) (g.O.Operation.made g.W.Size.width (carry_in (g.P.Processor.machine c.args.p.now))) c.in-Err.halt c.value.ensures.image c.in-Err.ensures.source
