-- The row goes by its source.
use Rattle.std.proofs.Common.{◌/◌, ◌%◌, ℕ, ap, ◌∙◌}
use Rattle.pdp_decode.specs.Decode.{reg_of, operand_of}
use Rattle.pdp_step.proofs.RowEnds.{shifted_pair_halts, shifted_pair_done}
use Rattle.pdp_decode.specs.Numbers.{flag_bits}
use Rattle.pdp_step.specs.declared.extended.Shifting.{Shifting}
use Rattle.pdp_step.specs.Machine.{Machine, with_codes}
use Rattle.pdp_step.specs.Rows.{with_pair, pair_in}
use Rattle.pdp_step.specs.Extended.{shift_of, shift_codes}
use Rattle.pdp_step.specs.Parts.{at_pc}
use Rattle.pdp_step.proofs.pair_rows.shift_pair.Goals as goal

pub returns-in-Err-clause-row : goal.returns-in-Err-clause-row
returns-in-Err-clause-row g c = shifted_pair_halts (g.P.Processor.machine c.args.p.now) (g.P.Processor.machine c.value.new.p) c.value.new.pc c.args.from (reg_of (c.args.word / 64 % 8)) (operand_of c.args.word) c.in-Err.halt c.value.ensures.image c.in-Err.ensures.source

pub returns-in-Ok-clause-row : goal.returns-in-Ok-clause-row
returns-in-Ok-clause-row g c =
    let old = g.P.Processor.machine c.args.p.now in
    let mid = g.P.Processor.machine c.value.new.p in
    let m = at_pc mid c.value.new.pc in
    let n = reg_of (c.args.word / 64 % 8) in
    let y = c.shift-x.result in
    let flags = c.shift_flags.result in
    let y_is = c.shift-x.ensures.shift ∙ ap (λ (x : ℕ). shift_of 0x80000000 c.in-Ok.source x) (c.pair.ensures ∙ ap (λ (x : Machine). pair_in x n) c.set_pc.ensures.machine) in
    let is = c.hold_pair.ensures.machine ∙ (ap (λ (x : Machine). with_codes (with_pair x n (y.value / 65536) (y.value % 65536)) flags) c.set_pc.ensures.machine ∙ (ap (λ (x : ℕ). with_codes (with_pair m n (y.value / 65536) (y.value % 65536)) x) c.shift_flags.ensures.bits ∙ ap (λ (x : Shifting). with_codes (with_pair m n (x.value / 65536) (x.value % 65536)) (flag_bits (shift_codes 0x80000000 x))) y_is)) in
    shifted_pair_done old mid (g.P.Processor.machine c.hold_pair.new.p) c.value.new.pc c.args.from c.in-Ok.source n (operand_of c.args.word) c.value.ensures.image c.in-Ok.ensures.source is
