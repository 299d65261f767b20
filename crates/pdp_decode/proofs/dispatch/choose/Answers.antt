-- The fields of an instruction are those of its word.
use Rattle.std.proofs.Common.{◌∙◌}
use Rattle.pdp_decode.specs.declared.instr.Width.TheVariants.{Word}
use Rattle.pdp_decode.specs.declared.instr.Instr.TheVariants.{Mov, Cmp, Bit, Bic, Bis, Add, Sub, Clr, Com, Inc, Dec, Neg, Adc, Sbc, Tst, Ror, Rol, Asr, Asl, Swab, Sxt, Mul, Div, Ash, Ashc, Xor, Jmp, Jsr}
use Rattle.pdp_decode.proofs.Handled.{double_by, single_by, extended_by, register_of, count_by, branch_by, return_by, codes_by}
use Rattle.pdp_decode.proofs.dispatch.choose.Goals as goal

pub returns-in-Mov-clause-handles : goal.returns-in-Mov-clause-handles
returns-in-Mov-clause-handles c = c.mov.ensures.handles c.args.word (double_by c.in-Mov.w (Mov c.in-Mov.w) c.in-Mov.s c.in-Mov.d _ _ c.args.word 1 (rw c.in-Mov.is at c.requires.word) (c.requires.value ∙ c.in-Mov.is) c.addressed.ensures.is c.addressed-in-Mov.ensures.is)

pub returns-in-Cmp-clause-handles : goal.returns-in-Cmp-clause-handles
returns-in-Cmp-clause-handles c = c.cmp.ensures.handles c.args.word (double_by c.in-Cmp.w (Cmp c.in-Cmp.w) c.in-Cmp.s c.in-Cmp.d _ _ c.args.word 2 (rw c.in-Cmp.is at c.requires.word) (c.requires.value ∙ c.in-Cmp.is) c.addressed-in-Cmp.ensures.is c.addressed-in-Cmp-2.ensures.is)

pub returns-in-Bit-clause-handles : goal.returns-in-Bit-clause-handles
returns-in-Bit-clause-handles c = c.bit.ensures.handles c.args.word (double_by c.in-Bit.w (Bit c.in-Bit.w) c.in-Bit.s c.in-Bit.d _ _ c.args.word 3 (rw c.in-Bit.is at c.requires.word) (c.requires.value ∙ c.in-Bit.is) c.addressed-in-Bit.ensures.is c.addressed-in-Bit-2.ensures.is)

pub returns-in-Bic-clause-handles : goal.returns-in-Bic-clause-handles
returns-in-Bic-clause-handles c = c.bic.ensures.handles c.args.word (double_by c.in-Bic.w (Bic c.in-Bic.w) c.in-Bic.s c.in-Bic.d _ _ c.args.word 4 (rw c.in-Bic.is at c.requires.word) (c.requires.value ∙ c.in-Bic.is) c.addressed-in-Bic.ensures.is c.addressed-in-Bic-2.ensures.is)

pub returns-in-Bis-clause-handles : goal.returns-in-Bis-clause-handles
returns-in-Bis-clause-handles c = c.bis.ensures.handles c.args.word (double_by c.in-Bis.w (Bis c.in-Bis.w) c.in-Bis.s c.in-Bis.d _ _ c.args.word 5 (rw c.in-Bis.is at c.requires.word) (c.requires.value ∙ c.in-Bis.is) c.addressed-in-Bis.ensures.is c.addressed-in-Bis-2.ensures.is)

pub returns-in-Add-clause-handles : goal.returns-in-Add-clause-handles
returns-in-Add-clause-handles c = c.add.ensures.handles c.args.word (double_by Word Add c.in-Add.s c.in-Add.d _ _ c.args.word 6 (rw c.in-Add.is at c.requires.word) (c.requires.value ∙ c.in-Add.is) c.addressed-in-Add.ensures.is c.addressed-in-Add-2.ensures.is)

pub returns-in-Sub-clause-handles : goal.returns-in-Sub-clause-handles
returns-in-Sub-clause-handles c = c.sub.ensures.handles c.args.word (double_by Word Sub c.in-Sub.s c.in-Sub.d _ _ c.args.word 14 (rw c.in-Sub.is at c.requires.word) (c.requires.value ∙ c.in-Sub.is) c.addressed-in-Sub.ensures.is c.addressed-in-Sub-2.ensures.is)

pub returns-in-Clr-clause-handles : goal.returns-in-Clr-clause-handles
returns-in-Clr-clause-handles c = c.clr.ensures.handles c.args.word (single_by c.in-Clr.w (Clr c.in-Clr.w) c.in-Clr.d _ c.args.word 0o50 (rw c.in-Clr.is at c.requires.word) (c.requires.value ∙ c.in-Clr.is) c.addressed-in-Clr.ensures.is)

pub returns-in-Com-clause-handles : goal.returns-in-Com-clause-handles
returns-in-Com-clause-handles c = c.com.ensures.handles c.args.word (single_by c.in-Com.w (Com c.in-Com.w) c.in-Com.d _ c.args.word 0o51 (rw c.in-Com.is at c.requires.word) (c.requires.value ∙ c.in-Com.is) c.addressed-in-Com.ensures.is)

pub returns-in-Inc-clause-handles : goal.returns-in-Inc-clause-handles
returns-in-Inc-clause-handles c = c.inc.ensures.handles c.args.word (single_by c.in-Inc.w (Inc c.in-Inc.w) c.in-Inc.d _ c.args.word 0o52 (rw c.in-Inc.is at c.requires.word) (c.requires.value ∙ c.in-Inc.is) c.addressed-in-Inc.ensures.is)

pub returns-in-Dec-clause-handles : goal.returns-in-Dec-clause-handles
returns-in-Dec-clause-handles c = c.dec.ensures.handles c.args.word (single_by c.in-Dec.w (Dec c.in-Dec.w) c.in-Dec.d _ c.args.word 0o53 (rw c.in-Dec.is at c.requires.word) (c.requires.value ∙ c.in-Dec.is) c.addressed-in-Dec.ensures.is)

pub returns-in-Neg-clause-handles : goal.returns-in-Neg-clause-handles
returns-in-Neg-clause-handles c = c.neg.ensures.handles c.args.word (single_by c.in-Neg.w (Neg c.in-Neg.w) c.in-Neg.d _ c.args.word 0o54 (rw c.in-Neg.is at c.requires.word) (c.requires.value ∙ c.in-Neg.is) c.addressed-in-Neg.ensures.is)

pub returns-in-Adc-clause-handles : goal.returns-in-Adc-clause-handles
returns-in-Adc-clause-handles c = c.adc.ensures.handles c.args.word (single_by c.in-Adc.w (Adc c.in-Adc.w) c.in-Adc.d _ c.args.word 0o55 (rw c.in-Adc.is at c.requires.word) (c.requires.value ∙ c.in-Adc.is) c.addressed-in-Adc.ensures.is)

pub returns-in-Sbc-clause-handles : goal.returns-in-Sbc-clause-handles
returns-in-Sbc-clause-handles c = c.sbc.ensures.handles c.args.word (single_by c.in-Sbc.w (Sbc c.in-Sbc.w) c.in-Sbc.d _ c.args.word 0o56 (rw c.in-Sbc.is at c.requires.word) (c.requires.value ∙ c.in-Sbc.is) c.addressed-in-Sbc.ensures.is)

pub returns-in-Tst-clause-handles : goal.returns-in-Tst-clause-handles
returns-in-Tst-clause-handles c = c.tst.ensures.handles c.args.word (single_by c.in-Tst.w (Tst c.in-Tst.w) c.in-Tst.d _ c.args.word 0o57 (rw c.in-Tst.is at c.requires.word) (c.requires.value ∙ c.in-Tst.is) c.addressed-in-Tst.ensures.is)

pub returns-in-Ror-clause-handles : goal.returns-in-Ror-clause-handles
returns-in-Ror-clause-handles c = c.ror.ensures.handles c.args.word (single_by c.in-Ror.w (Ror c.in-Ror.w) c.in-Ror.d _ c.args.word 0o60 (rw c.in-Ror.is at c.requires.word) (c.requires.value ∙ c.in-Ror.is) c.addressed-in-Ror.ensures.is)

pub returns-in-Rol-clause-handles : goal.returns-in-Rol-clause-handles
returns-in-Rol-clause-handles c = c.rol.ensures.handles c.args.word (single_by c.in-Rol.w (Rol c.in-Rol.w) c.in-Rol.d _ c.args.word 0o61 (rw c.in-Rol.is at c.requires.word) (c.requires.value ∙ c.in-Rol.is) c.addressed-in-Rol.ensures.is)

pub returns-in-Asr-clause-handles : goal.returns-in-Asr-clause-handles
returns-in-Asr-clause-handles c = c.asr.ensures.handles c.args.word (single_by c.in-Asr.w (Asr c.in-Asr.w) c.in-Asr.d _ c.args.word 0o62 (rw c.in-Asr.is at c.requires.word) (c.requires.value ∙ c.in-Asr.is) c.addressed-in-Asr.ensures.is)

pub returns-in-Asl-clause-handles : goal.returns-in-Asl-clause-handles
returns-in-Asl-clause-handles c = c.asl.ensures.handles c.args.word (single_by c.in-Asl.w (Asl c.in-Asl.w) c.in-Asl.d _ c.args.word 0o63 (rw c.in-Asl.is at c.requires.word) (c.requires.value ∙ c.in-Asl.is) c.addressed-in-Asl.ensures.is)

pub returns-in-Swab-clause-handles : goal.returns-in-Swab-clause-handles
returns-in-Swab-clause-handles c = c.swab.ensures.handles c.args.word (single_by Word Swab c.in-Swab.d _ c.args.word 0o3 (rw c.in-Swab.is at c.requires.word) (c.requires.value ∙ c.in-Swab.is) c.addressed-in-Swab.ensures.is)

pub returns-in-Sxt-clause-handles : goal.returns-in-Sxt-clause-handles
returns-in-Sxt-clause-handles c = c.sxt.ensures.handles c.args.word (single_by Word Sxt c.in-Sxt.d _ c.args.word 0o67 (rw c.in-Sxt.is at c.requires.word) (c.requires.value ∙ c.in-Sxt.is) c.addressed-in-Sxt.ensures.is)

pub returns-in-Mul-clause-handles : goal.returns-in-Mul-clause-handles
returns-in-Mul-clause-handles c = c.mul.ensures.handles c.args.word (extended_by Mul c.in-Mul.field-0 c.in-Mul.s _ c.args.word 0o70 (rw c.in-Mul.is at c.requires.word) (c.requires.value ∙ c.in-Mul.is) c.addressed-in-Mul.ensures.is)

pub returns-in-Div-clause-handles : goal.returns-in-Div-clause-handles
returns-in-Div-clause-handles c = c.div.ensures.handles c.args.word (extended_by Div c.in-Div.field-0 c.in-Div.s _ c.args.word 0o71 (rw c.in-Div.is at c.requires.word) (c.requires.value ∙ c.in-Div.is) c.addressed-in-Div.ensures.is)

pub returns-in-Ash-clause-handles : goal.returns-in-Ash-clause-handles
returns-in-Ash-clause-handles c = c.ash.ensures.handles c.args.word (extended_by Ash c.in-Ash.field-0 c.in-Ash.s _ c.args.word 0o72 (rw c.in-Ash.is at c.requires.word) (c.requires.value ∙ c.in-Ash.is) c.addressed-in-Ash.ensures.is)

pub returns-in-Ashc-clause-handles : goal.returns-in-Ashc-clause-handles
returns-in-Ashc-clause-handles c = c.ashc.ensures.handles c.args.word (extended_by Ashc c.in-Ashc.field-0 c.in-Ashc.s _ c.args.word 0o73 (rw c.in-Ashc.is at c.requires.word) (c.requires.value ∙ c.in-Ashc.is) c.addressed-in-Ashc.ensures.is)

pub returns-in-Xor-clause-handles : goal.returns-in-Xor-clause-handles
returns-in-Xor-clause-handles c = c.xor.ensures.handles c.args.word (extended_by Xor c.in-Xor.n c.in-Xor.d _ c.args.word 0o74 (rw c.in-Xor.is at c.requires.word) (c.requires.value ∙ c.in-Xor.is) c.addressed-in-Xor.ensures.is) (register_of c.in-Xor.n c.in-Xor.d c.args.word 0o74 (rw c.in-Xor.is at c.requires.word))

pub returns-in-Sob-clause-handles : goal.returns-in-Sob-clause-handles
returns-in-Sob-clause-handles c = count_by c.in-Sob.field-0 c.in-Sob.field-1 c.args.word (rw c.in-Sob.is at c.requires.word).0 (rw c.in-Sob.is at c.requires.word).1 (c.requires.value ∙ c.in-Sob.is)

pub returns-in-Branch-clause-handles : goal.returns-in-Branch-clause-handles
returns-in-Branch-clause-handles c = c.branch-condition.ensures.handles c.args.word (branch_by c.in-Branch.condition c.in-Branch.field-1 c.args.word (rw c.in-Branch.is at c.requires.word).0 (rw c.in-Branch.is at c.requires.word).1 (c.requires.value ∙ c.in-Branch.is))

pub returns-in-Jmp-clause-handles : goal.returns-in-Jmp-clause-handles
returns-in-Jmp-clause-handles c = c.jmp.ensures.handles c.args.word (single_by Word Jmp c.in-Jmp.d _ c.args.word 0o1 (rw c.in-Jmp.is at c.requires.word).0 (c.requires.value ∙ c.in-Jmp.is) c.addressed-in-Jmp.ensures.is)

pub returns-in-Jsr-clause-handles : goal.returns-in-Jsr-clause-handles
returns-in-Jsr-clause-handles c = c.jsr.ensures.handles c.args.word (extended_by Jsr c.in-Jsr.field-0 c.in-Jsr.d _ c.args.word 0o4 (rw c.in-Jsr.is at c.requires.word).0 (c.requires.value ∙ c.in-Jsr.is) c.addressed-in-Jsr.ensures.is)

pub returns-in-Rts-clause-handles : goal.returns-in-Rts-clause-handles
returns-in-Rts-clause-handles c = return_by c.in-Rts.field-0 c.args.word (rw c.in-Rts.is at c.requires.word) (c.requires.value ∙ c.in-Rts.is)

pub returns-in-Rti-clause-handles : goal.returns-in-Rti-clause-handles
returns-in-Rti-clause-handles c = c.requires.value ∙ c.in-Rti.is

pub returns-in-Codes-clause-handles : goal.returns-in-Codes-clause-handles
returns-in-Codes-clause-handles c = c.codes.ensures.handles c.args.word (codes_by c.in-Codes.set c.in-Codes.field-1 c.args.word (rw c.in-Codes.is at c.requires.word) (c.requires.value ∙ c.in-Codes.is))
