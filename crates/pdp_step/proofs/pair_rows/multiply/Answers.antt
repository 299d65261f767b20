-- The row goes by its source.
use Rattle.std.proofs.Common.{◌/◌, ◌%◌, ℕ, ap, ◌∙◌}
use Rattle.pdp_decode.specs.Decode.{reg_of, operand_of}
use Rattle.pdp_step.proofs.RowEnds.{multiplied_halts, multiplied_done}
use Rattle.pdp_decode.specs.Numbers.{flag_bits}
use Rattle.pdp_step.specs.Machine.{Machine, reg_in, with_codes}
use Rattle.pdp_step.specs.Rows.{with_pair}
use Rattle.pdp_step.specs.Extended.{product_of, product_codes}
use Rattle.pdp_step.specs.Parts.{at_pc}
use Rattle.pdp_step.proofs.pair_rows.multiply.Goals as goal

pub returns-in-Err-clause-row : goal.returns-in-Err-clause-row
returns-in-Err-clause-row g c = multiplied_halts (g.P.Processor.machine c.args.p.now) (g.P.Processor.machine c.value.new.p) c.value.new.pc c.args.from (reg_of (c.args.word / 64 % 8)) (operand_of c.args.word) c.in-Err.halt c.value.ensures.image c.in-Err.ensures.source

pub returns-in-Ok-clause-row : goal.returns-in-Ok-clause-row
returns-in-Ok-clause-row g c =
    let old = g.P.Processor.machine c.args.p.now in
    let mid = g.P.Processor.machine c.value.new.p in
    let m = at_pc mid c.value.new.pc in
    let n = reg_of (c.args.word / 64 % 8) in
    let made = c.product-made.result in
    let flags = c.product_flags.result in
    let made_is = c.product-made.ensures ∙ ap (λ (x : ℕ). product_of x c.in-Ok.source) (c.reg.ensures ∙ ap (λ (x : Machine). reg_in x n) c.set_pc.ensures.machine) in
    let is = c.hold_pair.ensures.machine ∙ (ap (λ (x : Machine). with_codes (with_pair x n (made / 65536) (made % 65536)) flags) c.set_pc.ensures.machine ∙ (ap (λ (x : ℕ). with_codes (with_pair m n (made / 65536) (made % 65536)) x) c.product_flags.ensures.bits ∙ ap (λ (x : ℕ). with_codes (with_pair m n (x / 65536) (x % 65536)) (flag_bits (product_codes x))) made_is)) in
    multiplied_done old mid (g.P.Processor.machine c.hold_pair.new.p) c.value.new.pc c.args.from c.in-Ok.source n (operand_of c.args.word) c.value.ensures.image c.in-Ok.ensures.source is
