-- Each row is the table's, where the operands are those of the word.
use Rattle.std.proofs.Common.{◌/◌, ◌%◌, false, refl, sym}
use Rattle.pdp_decode.specs.declared.instr.Width.TheVariants.{Word}
use Rattle.pdp_decode.specs.declared.instr.Instr.TheVariants.{Mov, Cmp, Bit, Bic, Bis, Add, Sub, Clr, Com, Inc, Dec, Neg, Adc, Sbc, Tst, Ror, Rol, Asr, Asl, Swab, Sxt, Mul, Div, Ash, Ashc, Xor, Jmp, Jsr, Rts, Mark, Rti, Sob, Branch, Codes, Wait}
use Rattle.pdp_decode.specs.declared.addressing.Addressing.TheVariants.{Other}
use Rattle.pdp_decode.specs.Decode.{reg_of, operand_of}
use Rattle.pdp_decode.proofs.Handled.{double_by, single_by, extended_by, count_by, branch_by}
use Rattle.pdp_decode.specs.Numbers.{flag_bits}
use Rattle.pdp_step.specs.Registers.{codes_in}
use Rattle.pdp_step.specs.Machine.{reg_in, carry_in}
use Rattle.pdp_step.specs.Arithmetic.{Complement, Increase, Decrease, Negate, AddCarry, SubtractCarry, RotateRight, RotateLeft, ShiftRight, ShiftLeft, Compare, TestBits, ClearBits, SetBits, Sum, Difference, ExclusiveOr, result_of, swapped, change_of, combine_of, is_taken}
use Rattle.pdp_step.specs.Rows.{moved, compared, joined, modified, replaced, tested, sign_made, multiplied, divided, shifted_reg, shifted_pair, jumped, jumped_to_subroutine, returned, marked, resumed, counted, branched, named_codes, without_write}
use Rattle.pdp_step.specs.Instruction.{Go, go, on_registers, on_codes, row_of}
use Rattle.pdp_step.specs.Parts.{at_pc}
use Rattle.pdp_step.proofs.TableRows.{row_ends, return_word, mark_word, jump_memory, link_memory}
use Rattle.pdp_step.proofs.table.perform_instruction.Goals as goal

pub returns-in-Mov-clause-row : goal.returns-in-Mov-clause-row
unfolding row_of
returns-in-Mov-clause-row g c =
    let old = g.P.Processor.machine c.args.p.now in
    row_ends c.any_move.result c.refuse.result (g.P.Processor.machine c.any_move.new.p) (at_pc old c.args.pc) c.args.word (Mov c.in-Mov.w (operand_of (c.args.word / 64)) (operand_of c.args.word)) (go (moved (at_pc old c.args.pc) c.in-Mov.w (operand_of (c.args.word / 64)) (operand_of c.args.word))) c.refuse.ensures ((double_by c.in-Mov.w (Mov c.in-Mov.w) c.in-Mov._s c.in-Mov._d Other Other c.args.word 1 c.in-Mov.ensures.word (sym c.in-Mov.ensures.value) tt tt).is) refl c.any_move.ensures.row

pub returns-in-Cmp-clause-row : goal.returns-in-Cmp-clause-row
unfolding row_of
returns-in-Cmp-clause-row g c =
    let old = g.P.Processor.machine c.args.p.now in
    row_ends c.any_compare.result c.refuse-in-Cmp.result (g.P.Processor.machine c.any_compare.new.p) (at_pc old c.args.pc) c.args.word (Cmp c.in-Cmp.w (operand_of (c.args.word / 64)) (operand_of c.args.word)) (go (compared (at_pc old c.args.pc) c.in-Cmp.w (operand_of (c.args.word / 64)) (operand_of c.args.word) (combine_of Compare c.in-Cmp.w (carry_in old)))) c.refuse-in-Cmp.ensures ((double_by c.in-Cmp.w (Cmp c.in-Cmp.w) c.in-Cmp._s c.in-Cmp._d Other Other c.args.word 2 c.in-Cmp.ensures.word (sym c.in-Cmp.ensures.value) tt tt).is) refl c.any_compare.ensures.row

pub returns-in-Bit-clause-row : goal.returns-in-Bit-clause-row
unfolding row_of
returns-in-Bit-clause-row g c =
    let old = g.P.Processor.machine c.args.p.now in
    row_ends c.any_compare-in-Bit.result c.refuse-in-Bit.result (g.P.Processor.machine c.any_compare-in-Bit.new.p) (at_pc old c.args.pc) c.args.word (Bit c.in-Bit.w (operand_of (c.args.word / 64)) (operand_of c.args.word)) (go (compared (at_pc old c.args.pc) c.in-Bit.w (operand_of (c.args.word / 64)) (operand_of c.args.word) (combine_of TestBits c.in-Bit.w (carry_in old)))) c.refuse-in-Bit.ensures ((double_by c.in-Bit.w (Bit c.in-Bit.w) c.in-Bit._s c.in-Bit._d Other Other c.args.word 3 c.in-Bit.ensures.word (sym c.in-Bit.ensures.value) tt tt).is) refl c.any_compare-in-Bit.ensures.row

pub returns-in-Bic-clause-row : goal.returns-in-Bic-clause-row
unfolding row_of
returns-in-Bic-clause-row g c =
    let old = g.P.Processor.machine c.args.p.now in
    row_ends c.any_join.result c.refuse-in-Bic.result (g.P.Processor.machine c.any_join.new.p) (at_pc old c.args.pc) c.args.word (Bic c.in-Bic.w (operand_of (c.args.word / 64)) (operand_of c.args.word)) (go (joined (at_pc old c.args.pc) c.in-Bic.w (operand_of (c.args.word / 64)) (operand_of c.args.word) (combine_of ClearBits c.in-Bic.w (carry_in old)))) c.refuse-in-Bic.ensures ((double_by c.in-Bic.w (Bic c.in-Bic.w) c.in-Bic._s c.in-Bic._d Other Other c.args.word 4 c.in-Bic.ensures.word (sym c.in-Bic.ensures.value) tt tt).is) refl c.any_join.ensures.row

pub returns-in-Bis-clause-row : goal.returns-in-Bis-clause-row
unfolding row_of
returns-in-Bis-clause-row g c =
    let old = g.P.Processor.machine c.args.p.now in
    row_ends c.any_join-in-Bis.result c.refuse-in-Bis.result (g.P.Processor.machine c.any_join-in-Bis.new.p) (at_pc old c.args.pc) c.args.word (Bis c.in-Bis.w (operand_of (c.args.word / 64)) (operand_of c.args.word)) (go (joined (at_pc old c.args.pc) c.in-Bis.w (operand_of (c.args.word / 64)) (operand_of c.args.word) (combine_of SetBits c.in-Bis.w (carry_in old)))) c.refuse-in-Bis.ensures ((double_by c.in-Bis.w (Bis c.in-Bis.w) c.in-Bis._s c.in-Bis._d Other Other c.args.word 5 c.in-Bis.ensures.word (sym c.in-Bis.ensures.value) tt tt).is) refl c.any_join-in-Bis.ensures.row

pub returns-in-Add-clause-row : goal.returns-in-Add-clause-row
unfolding row_of
returns-in-Add-clause-row g c =
    let old = g.P.Processor.machine c.args.p.now in
    row_ends c.join.result c.refuse-in-Add.result (g.P.Processor.machine c.join.new.p) (at_pc old c.args.pc) c.args.word (Add (operand_of (c.args.word / 64)) (operand_of c.args.word)) (go (joined (at_pc old c.args.pc) Word (operand_of (c.args.word / 64)) (operand_of c.args.word) (combine_of Sum Word (carry_in old)))) c.refuse-in-Add.ensures ((double_by Word Add c.in-Add._s c.in-Add._d Other Other c.args.word 6 c.in-Add.ensures.word (sym c.in-Add.ensures.value) tt tt).is) refl c.join.ensures.row

pub returns-in-Sub-clause-row : goal.returns-in-Sub-clause-row
unfolding row_of
returns-in-Sub-clause-row g c =
    let old = g.P.Processor.machine c.args.p.now in
    row_ends c.join-in-Sub.result c.refuse-in-Sub.result (g.P.Processor.machine c.join-in-Sub.new.p) (at_pc old c.args.pc) c.args.word (Sub (operand_of (c.args.word / 64)) (operand_of c.args.word)) (go (joined (at_pc old c.args.pc) Word (operand_of (c.args.word / 64)) (operand_of c.args.word) (combine_of Difference Word (carry_in old)))) c.refuse-in-Sub.ensures ((double_by Word Sub c.in-Sub._s c.in-Sub._d Other Other c.args.word 14 c.in-Sub.ensures.word (sym c.in-Sub.ensures.value) tt tt).is) refl c.join-in-Sub.ensures.row

pub returns-in-Clr-clause-row : goal.returns-in-Clr-clause-row
unfolding row_of
returns-in-Clr-clause-row g c =
    let old = g.P.Processor.machine c.args.p.now in
    row_ends c.any_clear.result c.refuse-in-Clr.result (g.P.Processor.machine c.any_clear.new.p) (at_pc old c.args.pc) c.args.word (Clr c.in-Clr.w (operand_of c.args.word)) (go (replaced (at_pc old c.args.pc) c.in-Clr.w (operand_of c.args.word) (result_of c.in-Clr.w 0 false false))) c.refuse-in-Clr.ensures ((single_by c.in-Clr.w (Clr c.in-Clr.w) c.in-Clr._d Other c.args.word 0o50 c.in-Clr.ensures.word (sym c.in-Clr.ensures.value) tt).is) refl c.any_clear.ensures.row

pub returns-in-Com-clause-row : goal.returns-in-Com-clause-row
unfolding row_of
returns-in-Com-clause-row g c =
    let old = g.P.Processor.machine c.args.p.now in
    row_ends c.any_modify.result c.refuse-in-Com.result (g.P.Processor.machine c.any_modify.new.p) (at_pc old c.args.pc) c.args.word (Com c.in-Com.w (operand_of c.args.word)) (go (modified (at_pc old c.args.pc) c.in-Com.w (operand_of c.args.word) (change_of Complement c.in-Com.w (carry_in old)))) c.refuse-in-Com.ensures ((single_by c.in-Com.w (Com c.in-Com.w) c.in-Com._d Other c.args.word 0o51 c.in-Com.ensures.word (sym c.in-Com.ensures.value) tt).is) refl c.any_modify.ensures.row

pub returns-in-Inc-clause-row : goal.returns-in-Inc-clause-row
unfolding row_of
returns-in-Inc-clause-row g c =
    let old = g.P.Processor.machine c.args.p.now in
    row_ends c.any_modify-in-Inc.result c.refuse-in-Inc.result (g.P.Processor.machine c.any_modify-in-Inc.new.p) (at_pc old c.args.pc) c.args.word (Inc c.in-Inc.w (operand_of c.args.word)) (go (modified (at_pc old c.args.pc) c.in-Inc.w (operand_of c.args.word) (change_of Increase c.in-Inc.w (carry_in old)))) c.refuse-in-Inc.ensures ((single_by c.in-Inc.w (Inc c.in-Inc.w) c.in-Inc._d Other c.args.word 0o52 c.in-Inc.ensures.word (sym c.in-Inc.ensures.value) tt).is) refl c.any_modify-in-Inc.ensures.row

pub returns-in-Dec-clause-row : goal.returns-in-Dec-clause-row
unfolding row_of
returns-in-Dec-clause-row g c =
    let old = g.P.Processor.machine c.args.p.now in
    row_ends c.any_modify-in-Dec.result c.refuse-in-Dec.result (g.P.Processor.machine c.any_modify-in-Dec.new.p) (at_pc old c.args.pc) c.args.word (Dec c.in-Dec.w (operand_of c.args.word)) (go (modified (at_pc old c.args.pc) c.in-Dec.w (operand_of c.args.word) (change_of Decrease c.in-Dec.w (carry_in old)))) c.refuse-in-Dec.ensures ((single_by c.in-Dec.w (Dec c.in-Dec.w) c.in-Dec._d Other c.args.word 0o53 c.in-Dec.ensures.word (sym c.in-Dec.ensures.value) tt).is) refl c.any_modify-in-Dec.ensures.row

pub returns-in-Neg-clause-row : goal.returns-in-Neg-clause-row
unfolding row_of
returns-in-Neg-clause-row g c =
    let old = g.P.Processor.machine c.args.p.now in
    row_ends c.any_modify-in-Neg.result c.refuse-in-Neg.result (g.P.Processor.machine c.any_modify-in-Neg.new.p) (at_pc old c.args.pc) c.args.word (Neg c.in-Neg.w (operand_of c.args.word)) (go (modified (at_pc old c.args.pc) c.in-Neg.w (operand_of c.args.word) (change_of Negate c.in-Neg.w (carry_in old)))) c.refuse-in-Neg.ensures ((single_by c.in-Neg.w (Neg c.in-Neg.w) c.in-Neg._d Other c.args.word 0o54 c.in-Neg.ensures.word (sym c.in-Neg.ensures.value) tt).is) refl c.any_modify-in-Neg.ensures.row

pub returns-in-Adc-clause-row : goal.returns-in-Adc-clause-row
unfolding row_of
returns-in-Adc-clause-row g c =
    let old = g.P.Processor.machine c.args.p.now in
    row_ends c.any_modify-in-Adc.result c.refuse-in-Adc.result (g.P.Processor.machine c.any_modify-in-Adc.new.p) (at_pc old c.args.pc) c.args.word (Adc c.in-Adc.w (operand_of c.args.word)) (go (modified (at_pc old c.args.pc) c.in-Adc.w (operand_of c.args.word) (change_of AddCarry c.in-Adc.w (carry_in old)))) c.refuse-in-Adc.ensures ((single_by c.in-Adc.w (Adc c.in-Adc.w) c.in-Adc._d Other c.args.word 0o55 c.in-Adc.ensures.word (sym c.in-Adc.ensures.value) tt).is) refl c.any_modify-in-Adc.ensures.row

pub returns-in-Sbc-clause-row : goal.returns-in-Sbc-clause-row
unfolding row_of
returns-in-Sbc-clause-row g c =
    let old = g.P.Processor.machine c.args.p.now in
    row_ends c.any_modify-in-Sbc.result c.refuse-in-Sbc.result (g.P.Processor.machine c.any_modify-in-Sbc.new.p) (at_pc old c.args.pc) c.args.word (Sbc c.in-Sbc.w (operand_of c.args.word)) (go (modified (at_pc old c.args.pc) c.in-Sbc.w (operand_of c.args.word) (change_of SubtractCarry c.in-Sbc.w (carry_in old)))) c.refuse-in-Sbc.ensures ((single_by c.in-Sbc.w (Sbc c.in-Sbc.w) c.in-Sbc._d Other c.args.word 0o56 c.in-Sbc.ensures.word (sym c.in-Sbc.ensures.value) tt).is) refl c.any_modify-in-Sbc.ensures.row

pub returns-in-Tst-clause-row : goal.returns-in-Tst-clause-row
unfolding row_of
returns-in-Tst-clause-row g c =
    let old = g.P.Processor.machine c.args.p.now in
    row_ends c.any_test.result c.refuse-in-Tst.result (g.P.Processor.machine c.any_test.new.p) (at_pc old c.args.pc) c.args.word (Tst c.in-Tst.w (operand_of c.args.word)) (go (tested (at_pc old c.args.pc) c.in-Tst.w (operand_of c.args.word) (λ x. result_of c.in-Tst.w x false false))) c.refuse-in-Tst.ensures ((single_by c.in-Tst.w (Tst c.in-Tst.w) c.in-Tst._d Other c.args.word 0o57 c.in-Tst.ensures.word (sym c.in-Tst.ensures.value) tt).is) refl c.any_test.ensures.row

pub returns-in-Ror-clause-row : goal.returns-in-Ror-clause-row
unfolding row_of
returns-in-Ror-clause-row g c =
    let old = g.P.Processor.machine c.args.p.now in
    row_ends c.any_modify-in-Ror.result c.refuse-in-Ror.result (g.P.Processor.machine c.any_modify-in-Ror.new.p) (at_pc old c.args.pc) c.args.word (Ror c.in-Ror.w (operand_of c.args.word)) (go (modified (at_pc old c.args.pc) c.in-Ror.w (operand_of c.args.word) (change_of RotateRight c.in-Ror.w (carry_in old)))) c.refuse-in-Ror.ensures ((single_by c.in-Ror.w (Ror c.in-Ror.w) c.in-Ror._d Other c.args.word 0o60 c.in-Ror.ensures.word (sym c.in-Ror.ensures.value) tt).is) refl c.any_modify-in-Ror.ensures.row

pub returns-in-Rol-clause-row : goal.returns-in-Rol-clause-row
unfolding row_of
returns-in-Rol-clause-row g c =
    let old = g.P.Processor.machine c.args.p.now in
    row_ends c.any_modify-in-Rol.result c.refuse-in-Rol.result (g.P.Processor.machine c.any_modify-in-Rol.new.p) (at_pc old c.args.pc) c.args.word (Rol c.in-Rol.w (operand_of c.args.word)) (go (modified (at_pc old c.args.pc) c.in-Rol.w (operand_of c.args.word) (change_of RotateLeft c.in-Rol.w (carry_in old)))) c.refuse-in-Rol.ensures ((single_by c.in-Rol.w (Rol c.in-Rol.w) c.in-Rol._d Other c.args.word 0o61 c.in-Rol.ensures.word (sym c.in-Rol.ensures.value) tt).is) refl c.any_modify-in-Rol.ensures.row

pub returns-in-Asr-clause-row : goal.returns-in-Asr-clause-row
unfolding row_of
returns-in-Asr-clause-row g c =
    let old = g.P.Processor.machine c.args.p.now in
    row_ends c.any_modify-in-Asr.result c.refuse-in-Asr.result (g.P.Processor.machine c.any_modify-in-Asr.new.p) (at_pc old c.args.pc) c.args.word (Asr c.in-Asr.w (operand_of c.args.word)) (go (modified (at_pc old c.args.pc) c.in-Asr.w (operand_of c.args.word) (change_of ShiftRight c.in-Asr.w (carry_in old)))) c.refuse-in-Asr.ensures ((single_by c.in-Asr.w (Asr c.in-Asr.w) c.in-Asr._d Other c.args.word 0o62 c.in-Asr.ensures.word (sym c.in-Asr.ensures.value) tt).is) refl c.any_modify-in-Asr.ensures.row

pub returns-in-Asl-clause-row : goal.returns-in-Asl-clause-row
unfolding row_of
returns-in-Asl-clause-row g c =
    let old = g.P.Processor.machine c.args.p.now in
    row_ends c.any_modify-in-Asl.result c.refuse-in-Asl.result (g.P.Processor.machine c.any_modify-in-Asl.new.p) (at_pc old c.args.pc) c.args.word (Asl c.in-Asl.w (operand_of c.args.word)) (go (modified (at_pc old c.args.pc) c.in-Asl.w (operand_of c.args.word) (change_of ShiftLeft c.in-Asl.w (carry_in old)))) c.refuse-in-Asl.ensures ((single_by c.in-Asl.w (Asl c.in-Asl.w) c.in-Asl._d Other c.args.word 0o63 c.in-Asl.ensures.word (sym c.in-Asl.ensures.value) tt).is) refl c.any_modify-in-Asl.ensures.row

pub returns-in-Swab-clause-row : goal.returns-in-Swab-clause-row
unfolding row_of
returns-in-Swab-clause-row g c =
    let old = g.P.Processor.machine c.args.p.now in
    row_ends c.exchange.result c.refuse-in-Swab.result (g.P.Processor.machine c.exchange.new.p) (at_pc old c.args.pc) c.args.word (Swab (operand_of c.args.word)) (go (modified (at_pc old c.args.pc) Word (operand_of c.args.word) swapped)) c.refuse-in-Swab.ensures ((single_by Word Swab c.in-Swab._d Other c.args.word 0o3 c.in-Swab.ensures.word (sym c.in-Swab.ensures.value) tt).is) refl c.exchange.ensures.row

pub returns-in-Sxt-clause-row : goal.returns-in-Sxt-clause-row
unfolding row_of
returns-in-Sxt-clause-row g c =
    let old = g.P.Processor.machine c.args.p.now in
    row_ends c.extend_sign.result c.refuse-in-Sxt.result (g.P.Processor.machine c.extend_sign.new.p) (at_pc old c.args.pc) c.args.word (Sxt (operand_of c.args.word)) (go (replaced (at_pc old c.args.pc) Word (operand_of c.args.word) (sign_made old.cc))) c.refuse-in-Sxt.ensures ((single_by Word Sxt c.in-Sxt._d Other c.args.word 0o67 c.in-Sxt.ensures.word (sym c.in-Sxt.ensures.value) tt).is) refl c.extend_sign.ensures.row

pub returns-in-Mul-clause-row : goal.returns-in-Mul-clause-row
unfolding row_of
returns-in-Mul-clause-row g c =
    let old = g.P.Processor.machine c.args.p.now in
    row_ends c.multiply.result c.refuse-in-Mul.result (g.P.Processor.machine c.multiply.new.p) (at_pc old c.args.pc) c.args.word (Mul (reg_of (c.args.word / 64 % 8)) (operand_of c.args.word)) (go (multiplied (at_pc old c.args.pc) (reg_of (c.args.word / 64 % 8)) (operand_of c.args.word))) c.refuse-in-Mul.ensures ((extended_by Mul c.in-Mul._n c.in-Mul._s Other c.args.word 0o70 c.in-Mul.ensures.word (sym c.in-Mul.ensures.value) tt).is) refl c.multiply.ensures.row

pub returns-in-Div-clause-row : goal.returns-in-Div-clause-row
unfolding row_of
returns-in-Div-clause-row g c =
    let old = g.P.Processor.machine c.args.p.now in
    row_ends c.divide.result c.refuse-in-Div.result (g.P.Processor.machine c.divide.new.p) (at_pc old c.args.pc) c.args.word (Div (reg_of (c.args.word / 64 % 8)) (operand_of c.args.word)) (go (divided (at_pc old c.args.pc) (reg_of (c.args.word / 64 % 8)) (operand_of c.args.word))) c.refuse-in-Div.ensures ((extended_by Div c.in-Div._n c.in-Div._s Other c.args.word 0o71 c.in-Div.ensures.word (sym c.in-Div.ensures.value) tt).is) refl c.divide.ensures.row

pub returns-in-Ash-clause-row : goal.returns-in-Ash-clause-row
unfolding row_of
returns-in-Ash-clause-row g c =
    let old = g.P.Processor.machine c.args.p.now in
    row_ends c.shift_reg.result c.refuse-in-Ash.result (g.P.Processor.machine c.shift_reg.new.p) (at_pc old c.args.pc) c.args.word (Ash (reg_of (c.args.word / 64 % 8)) (operand_of c.args.word)) (go (shifted_reg (at_pc old c.args.pc) (reg_of (c.args.word / 64 % 8)) (operand_of c.args.word))) c.refuse-in-Ash.ensures ((extended_by Ash c.in-Ash._n c.in-Ash._s Other c.args.word 0o72 c.in-Ash.ensures.word (sym c.in-Ash.ensures.value) tt).is) refl c.shift_reg.ensures.row

pub returns-in-Ashc-clause-row : goal.returns-in-Ashc-clause-row
unfolding row_of
returns-in-Ashc-clause-row g c =
    let old = g.P.Processor.machine c.args.p.now in
    row_ends c.shift_pair.result c.refuse-in-Ashc.result (g.P.Processor.machine c.shift_pair.new.p) (at_pc old c.args.pc) c.args.word (Ashc (reg_of (c.args.word / 64 % 8)) (operand_of c.args.word)) (go (shifted_pair (at_pc old c.args.pc) (reg_of (c.args.word / 64 % 8)) (operand_of c.args.word))) c.refuse-in-Ashc.ensures ((extended_by Ashc c.in-Ashc._n c.in-Ashc._s Other c.args.word 0o73 c.in-Ashc.ensures.word (sym c.in-Ashc.ensures.value) tt).is) refl c.shift_pair.ensures.row

pub returns-in-Xor-clause-row : goal.returns-in-Xor-clause-row
unfolding row_of
returns-in-Xor-clause-row g c =
    let old = g.P.Processor.machine c.args.p.now in
    row_ends c.exclusive_or.result c.refuse-in-Xor.result (g.P.Processor.machine c.exclusive_or.new.p) (at_pc old c.args.pc) c.args.word (Xor (reg_of (c.args.word / 64 % 8)) (operand_of c.args.word)) (go (modified (at_pc old c.args.pc) Word (operand_of c.args.word) (combine_of ExclusiveOr Word (carry_in old) (reg_in (at_pc old c.args.pc) (reg_of (c.args.word / 64 % 8)))))) c.refuse-in-Xor.ensures ((extended_by Xor c.in-Xor._n c.in-Xor._s Other c.args.word 0o74 c.in-Xor.ensures.word (sym c.in-Xor.ensures.value) tt).is) refl c.exclusive_or.ensures.row

pub returns-in-Jmp-clause-row : goal.returns-in-Jmp-clause-row
unfolding row_of
returns-in-Jmp-clause-row g c =
    let old = g.P.Processor.machine c.args.p.now in
    row_ends c.jump.result c.refuse-in-Jmp.result (g.P.Processor.machine c.jump.new.p) (at_pc old c.args.pc) c.args.word (Jmp (operand_of c.args.word)) (go (jumped (at_pc old c.args.pc) (operand_of c.args.word))) c.refuse-in-Jmp.ensures ((single_by Word Jmp c.in-Jmp._d Other c.args.word 0o1 c.in-Jmp.ensures.word.0 (sym c.in-Jmp.ensures.value) tt).is) refl c.jump.ensures.row

pub returns-in-Jsr-clause-row : goal.returns-in-Jsr-clause-row
unfolding row_of
returns-in-Jsr-clause-row g c =
    let old = g.P.Processor.machine c.args.p.now in
    row_ends c.jump_to_subroutine.result c.refuse-in-Jsr.result (g.P.Processor.machine c.jump_to_subroutine.new.p) (at_pc old c.args.pc) c.args.word (Jsr (reg_of (c.args.word / 64 % 8)) (operand_of c.args.word)) (go (jumped_to_subroutine (at_pc old c.args.pc) (reg_of (c.args.word / 64 % 8)) (operand_of c.args.word))) c.refuse-in-Jsr.ensures ((extended_by Jsr c.in-Jsr._n c.in-Jsr._s Other c.args.word 0o4 c.in-Jsr.ensures.word.0 (sym c.in-Jsr.ensures.value) tt).is) refl c.jump_to_subroutine.ensures.row

pub returns-in-Rts-clause-row : goal.returns-in-Rts-clause-row
unfolding row_of
returns-in-Rts-clause-row g c =
    let old = g.P.Processor.machine c.args.p.now in
    row_ends c.return_by.result c.refuse-in-Rts.result (g.P.Processor.machine c.return_by.new.p) (at_pc old c.args.pc) c.args.word (Rts (reg_of (c.args.word % 8))) (go (returned (at_pc old c.args.pc) (reg_of (c.args.word % 8)))) c.refuse-in-Rts.ensures (return_word c.in-Rts._n c.args.word c.in-Rts.ensures.word (sym c.in-Rts.ensures.value)) refl c.return_by.ensures.row

pub returns-in-Mark-clause-row : goal.returns-in-Mark-clause-row
unfolding row_of
returns-in-Mark-clause-row g c =
    let old = g.P.Processor.machine c.args.p.now in
    row_ends c.mark.result c.refuse-in-Mark.result (g.P.Processor.machine c.mark.new.p) (at_pc old c.args.pc) c.args.word (Mark (c.args.word % 64)) (go (marked (at_pc old c.args.pc) (c.args.word % 64))) c.refuse-in-Mark.ensures (mark_word c.in-Mark._words c.args.word c.in-Mark.ensures.word (sym c.in-Mark.ensures.value)) refl c.mark.ensures.row

pub returns-in-Rti-clause-row : goal.returns-in-Rti-clause-row
unfolding row_of
returns-in-Rti-clause-row g c =
    let old = g.P.Processor.machine c.args.p.now in
    row_ends c.resume.result c.refuse-in-Rti.result (g.P.Processor.machine c.resume.new.p) (at_pc old c.args.pc) c.args.word Rti (go (resumed (at_pc old c.args.pc))) c.refuse-in-Rti.ensures (sym c.in-Rti.ensures.value) refl c.resume.ensures.row

pub returns-in-Sob-clause-row : goal.returns-in-Sob-clause-row
unfolding row_of
returns-in-Sob-clause-row g c =
    let old = g.P.Processor.machine c.args.p.now in
    row_ends c.count.result c.refuse-in-Sob.result (g.P.Processor.machine c.count.new.p) (at_pc old c.args.pc) c.args.word (Sob (reg_of (c.args.word / 64 % 8)) (c.args.word % 64)) (on_registers (at_pc old c.args.pc) (counted (at_pc old c.args.pc).r (reg_of (c.args.word / 64 % 8)) (c.args.word % 64))) c.refuse-in-Sob.ensures (count_by c.in-Sob._n c.in-Sob._words c.args.word c.in-Sob.ensures.word.0 c.in-Sob.ensures.word.1 (sym c.in-Sob.ensures.value)) refl c.count.ensures.row

pub returns-in-Branch-clause-row : goal.returns-in-Branch-clause-row
unfolding row_of
returns-in-Branch-clause-row g c =
    let old = g.P.Processor.machine c.args.p.now in
    row_ends c.branch_if.result c.refuse-in-Branch.result (g.P.Processor.machine c.branch_if.new.p) (at_pc old c.args.pc) c.args.word (Branch c.in-Branch.condition (c.args.word % 256)) (on_registers (at_pc old c.args.pc) (branched (at_pc old c.args.pc).r (is_taken c.in-Branch.condition (codes_in old.cc)) (c.args.word % 256))) c.refuse-in-Branch.ensures (branch_by c.in-Branch.condition c.in-Branch._offset c.args.word c.in-Branch.ensures.word.0 c.in-Branch.ensures.word.1 (sym c.in-Branch.ensures.value)) refl c.branch_if.ensures.row

pub returns-in-Codes-clause-row : goal.returns-in-Codes-clause-row
unfolding row_of
returns-in-Codes-clause-row g c =
    let old = g.P.Processor.machine c.args.p.now in
    row_ends c.set_codes.result c.refuse-in-Codes.result (g.P.Processor.machine c.set_codes.new.p) (at_pc old c.args.pc) c.args.word (Codes c.in-Codes.set c.in-Codes.names) (on_codes (at_pc old c.args.pc) (flag_bits (named_codes c.in-Codes.set c.in-Codes.names (codes_in old.cc)))) c.refuse-in-Codes.ensures (sym c.in-Codes.ensures.value) refl c.set_codes.ensures.row

pub returns-in-Wait-clause-row : goal.returns-in-Wait-clause-row
unfolding row_of
returns-in-Wait-clause-row g c =
    let old = g.P.Processor.machine c.args.p.now in
    row_ends c.wait.result c.refuse-in-Wait.result (g.P.Processor.machine c.wait.new.p) (at_pc old c.args.pc) c.args.word (Wait) (Go (without_write (at_pc old c.args.pc))) c.refuse-in-Wait.ensures (sym c.in-Wait.ensures.value) refl c.wait.ensures.row

pub jump-requires-clause-memory : goal.jump-requires-clause-memory
jump-requires-clause-memory g c = jump_memory c.in-Jmp._d c.args.word c.in-Jmp.ensures.word

pub jump_to_subroutine-requires-clause-memory : goal.jump_to_subroutine-requires-clause-memory
jump_to_subroutine-requires-clause-memory g c = link_memory c.in-Jsr._n c.in-Jsr._s c.args.word c.in-Jsr.ensures.word
