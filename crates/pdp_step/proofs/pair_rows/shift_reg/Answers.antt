-- The row goes by its source.
use Rattle.std.proofs.Common.{◌/◌, ◌%◌, ℕ, ap, ◌∙◌}
use Rattle.pdp_decode.specs.Decode.{reg_of, operand_of}
use Rattle.pdp_step.proofs.RowEnds.{shifted_reg_halts, shifted_reg_done}
use Rattle.pdp_decode.specs.Numbers.{flag_bits}
use Rattle.pdp_step.specs.declared.extended.Shifting.{Shifting}
use Rattle.pdp_step.specs.Machine.{Machine, reg_in, with_reg, with_codes}
use Rattle.pdp_step.specs.Extended.{shift_of, shift_codes}
use Rattle.pdp_step.specs.Parts.{at_pc}
use Rattle.pdp_step.proofs.pair_rows.shift_reg.Goals as goal

pub returns-in-Err-clause-row : goal.returns-in-Err-clause-row
returns-in-Err-clause-row g c = shifted_reg_halts (g.P.Processor.machine c.args.p.now) (g.P.Processor.machine c.value.new.p) c.value.new.pc c.args.from (reg_of (c.args.word / 64 % 8)) (operand_of c.args.word) c.in-Err.halt c.value.ensures.image c.in-Err.ensures.source

pub returns-in-Ok-clause-row : goal.returns-in-Ok-clause-row
returns-in-Ok-clause-row g c =
    let old = g.P.Processor.machine c.args.p.now in
    let mid = g.P.Processor.machine c.value.new.p in
    let m = at_pc mid c.value.new.pc in
    let n = reg_of (c.args.word / 64 % 8) in
    let y = c.shift-x.result in
    let flags = c.shift_flags.result in
    let y_is = c.shift-x.ensures.shift ∙ ap (λ (x : ℕ). shift_of 0o100000 c.in-Ok.source x) (c.reg.ensures ∙ ap (λ (x : Machine). reg_in x n) c.set_pc.ensures.machine) in
    let is = c.set_cc.ensures.machine ∙ (ap (λ (x : Machine). with_codes x flags) c.set_reg.ensures.machine ∙ (ap (λ (x : Machine). with_codes (with_reg x n y.value) flags) c.set_pc.ensures.machine ∙ (ap (λ (x : ℕ). with_codes (with_reg m n y.value) x) c.shift_flags.ensures.bits ∙ ap (λ (x : Shifting). with_codes (with_reg m n x.value) (flag_bits (shift_codes 0o100000 x))) y_is))) in
    shifted_reg_done old mid (g.P.Processor.machine c.set_cc.new.self) c.value.new.pc c.args.from c.in-Ok.source n (operand_of c.args.word) c.value.ensures.image c.in-Ok.ensures.source is
