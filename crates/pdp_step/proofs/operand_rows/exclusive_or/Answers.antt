-- The row goes on after its register.
use Rattle.std.proofs.Common.{◌/◌, ◌%◌}
use Rattle.pdp_decode.specs.declared.instr.Width.TheVariants.{Word}
use Rattle.pdp_decode.specs.Decode.{reg_of, operand_of}
use Rattle.pdp_step.specs.Machine.{reg_in, carry_in}
use Rattle.pdp_step.specs.Arithmetic.{ExclusiveOr, combine_of}
use Rattle.pdp_step.specs.Parts.{at_pc}
use Rattle.pdp_step.proofs.RowEnds.{exclusive_goes, exclusive_halts}
use Rattle.pdp_step.proofs.operand_rows.exclusive_or.Goals as goal

pub returns-in-Ok-clause-row : goal.returns-in-Ok-clause-row
returns-in-Ok-clause-row g c = exclusive_goes c.alter_with.result (g.P.Processor.machine c.alter_with.new.p) (g.P.Processor.machine c.args.p.now) (g.P.Processor.machine c.value.new.p) c.value.new.pc c.args.from c.in-Ok.source (c.args.word / 64) (operand_of c.args.word) c.in-Ok.ensures.source c.alter_with.ensures.row

pub returns-in-Err-clause-row : goal.returns-in-Err-clause-row
returns-in-Err-clause-row g c = exclusive_halts (g.P.Processor.machine c.args.p.now) (g.P.Processor.machine c.value.new.p) c.value.new.pc c.args.from (c.args.word / 64) (operand_of c.args.word) (combine_of ExclusiveOr Word (carry_in (g.P.Processor.machine c.args.p.now)) (reg_in (at_pc (g.P.Processor.machine c.args.p.now) c.args.from) (reg_of (c.args.word / 64 % 8)))) c.in-Err.halt c.in-Err.ensures.source
