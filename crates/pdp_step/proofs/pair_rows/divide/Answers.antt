-- The row goes by its source.
use Rattle.std.proofs.Common.{◌/◌, ◌%◌, ap, ◌∙◌}
use Rattle.pdp_decode.specs.Decode.{reg_of, operand_of}
use Rattle.pdp_step.proofs.RowEnds.{divided_halts, divided_done}
use Rattle.pdp_step.specs.Machine.{Machine}
use Rattle.pdp_step.specs.Rows.{division_of}
use Rattle.pdp_step.specs.Parts.{at_pc}
use Rattle.pdp_step.proofs.pair_rows.divide.Goals as goal

pub returns-in-Err-clause-row : goal.returns-in-Err-clause-row
returns-in-Err-clause-row g c = divided_halts (g.P.Processor.machine c.args.p.now) (g.P.Processor.machine c.value.new.p) c.value.new.pc c.args.from (reg_of (c.args.word / 64 % 8)) (operand_of c.args.word) c.in-Err.halt c.value.ensures.image c.in-Err.ensures.source

pub returns-in-Ok-clause-row : goal.returns-in-Ok-clause-row
returns-in-Ok-clause-row g c =
    let old = g.P.Processor.machine c.args.p.now in
    let mid = g.P.Processor.machine c.value.new.p in
    let m = at_pc mid c.value.new.pc in
    let n = reg_of (c.args.word / 64 % 8) in
    let is = c.divide_by.ensures.machine ∙ ap (λ (x : Machine). division_of x n c.in-Ok.source) c.set_pc.ensures.machine in
    let image = c.divide_by.ensures.image ∙ (ap (λ (x : Machine). x.image) c.set_pc.ensures.machine ∙ c.value.ensures.image) in
    divided_done old mid (g.P.Processor.machine c.divide_by.new.p) c.value.new.pc c.args.from c.in-Ok.source n (operand_of c.args.word) image c.in-Ok.ensures.source is
