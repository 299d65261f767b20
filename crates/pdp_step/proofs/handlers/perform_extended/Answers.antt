-- A handler says what its word is.
use Rattle.std.proofs.Common.{◌/◌, ◌%◌, true, false, refl, subst}
use Rattle.pdp_decode.specs.declared.instr.Width.TheVariants.{Word}
use Rattle.pdp_decode.specs.declared.instr.Instr.TheVariants.{Neg, Adc, Asr, Asl, Sxt, Mul, Div, Ash, Ashc, Rti, Codes}
use Rattle.pdp_decode.specs.declared.handler.Handler.TheVariants as handler
use Rattle.pdp_decode.specs.declared.instr.Flags.{Flags}
use Rattle.pdp_decode.specs.Numbers.{flag_bits}
use Rattle.pdp_decode.specs.Decode.{reg_of, operand_of, flags_of}
use Rattle.pdp_step.specs.Registers.{codes_in}
use Rattle.pdp_step.specs.Machine.{carry_in}
use Rattle.pdp_step.specs.Arithmetic.{Negate, AddCarry, ShiftRight, ShiftLeft, change_of}
use Rattle.pdp_step.specs.Rows.{modified, replaced, sign_made, multiplied, divided, shifted_reg, shifted_pair, resumed, named_codes}
use Rattle.pdp_step.specs.Instruction.{go, on_codes, row_of}
use Rattle.pdp_step.specs.After.{finished}
use Rattle.pdp_step.specs.Parts.{at_pc, Ends}
use Rattle.pdp_step.proofs.TableRows.{handled, row_as}
use Rattle.pdp_step.proofs.handlers.perform_extended.Goals as goal

pub extend_sign-requires-clause-dest : goal.extend_sign-requires-clause-dest
extend_sign-requires-clause-dest g c = (handled c.args.handler handler.SxtR c.args.word c.in-SxtR.is c.requires.handles).dest

pub returns-in-SxtR-clause-row : goal.returns-in-SxtR-clause-row
unfolding row_of
returns-in-SxtR-clause-row g c = row_as c.extend_sign.result (g.P.Processor.machine c.extend_sign.new.p) (at_pc (g.P.Processor.machine c.args.p.now) c.args.pc) c.args.word (Sxt (operand_of c.args.word)) (go (replaced (at_pc (g.P.Processor.machine c.args.p.now) c.args.pc) Word (operand_of c.args.word) (sign_made (g.P.Processor.machine c.args.p.now).cc))) (handled c.args.handler handler.SxtR c.args.word c.in-SxtR.is c.requires.handles).is refl c.extend_sign.ensures.row

pub returns-in-ClearCodes-clause-row : goal.returns-in-ClearCodes-clause-row
unfolding row_of
returns-in-ClearCodes-clause-row g c = row_as c.set_codes.result (g.P.Processor.machine c.set_codes.new.p) (at_pc (g.P.Processor.machine c.args.p.now) c.args.pc) c.args.word (Codes false (flags_of c.args.word)) (on_codes (at_pc (g.P.Processor.machine c.args.p.now) c.args.pc) (flag_bits (named_codes false (flags_of c.args.word) (codes_in (g.P.Processor.machine c.args.p.now).cc)))) (handled c.args.handler handler.ClearCodes c.args.word c.in-ClearCodes.is c.requires.handles) refl (subst (λ (x : Flags). Ends c.set_codes.result (g.P.Processor.machine c.set_codes.new.p) (finished (g.P.Processor.machine c.args.p.now).image (on_codes (at_pc (g.P.Processor.machine c.args.p.now) c.args.pc) (flag_bits (named_codes false x (codes_in (g.P.Processor.machine c.args.p.now).cc)))))) c.names_in.ensures c.set_codes.ensures.row)

pub returns-in-SetCodes-clause-row : goal.returns-in-SetCodes-clause-row
unfolding row_of
returns-in-SetCodes-clause-row g c = row_as c.set_codes-in-SetCodes.result (g.P.Processor.machine c.set_codes-in-SetCodes.new.p) (at_pc (g.P.Processor.machine c.args.p.now) c.args.pc) c.args.word (Codes true (flags_of c.args.word)) (on_codes (at_pc (g.P.Processor.machine c.args.p.now) c.args.pc) (flag_bits (named_codes true (flags_of c.args.word) (codes_in (g.P.Processor.machine c.args.p.now).cc)))) (handled c.args.handler handler.SetCodes c.args.word c.in-SetCodes.is c.requires.handles) refl (subst (λ (x : Flags). Ends c.set_codes-in-SetCodes.result (g.P.Processor.machine c.set_codes-in-SetCodes.new.p) (finished (g.P.Processor.machine c.args.p.now).image (on_codes (at_pc (g.P.Processor.machine c.args.p.now) c.args.pc) (flag_bits (named_codes true x (codes_in (g.P.Processor.machine c.args.p.now).cc)))))) c.names_in-in-SetCodes.ensures c.set_codes-in-SetCodes.ensures.row)

pub returns-in-Rti-clause-row : goal.returns-in-Rti-clause-row
unfolding row_of
returns-in-Rti-clause-row g c = row_as c.resume.result (g.P.Processor.machine c.resume.new.p) (at_pc (g.P.Processor.machine c.args.p.now) c.args.pc) c.args.word Rti (go (resumed (at_pc (g.P.Processor.machine c.args.p.now) c.args.pc))) (handled c.args.handler handler.Rti c.args.word c.in-Rti.is c.requires.handles) refl c.resume.ensures.row

pub multiply-requires-clause-source : goal.multiply-requires-clause-source
multiply-requires-clause-source g c = (handled c.args.handler handler.MulR c.args.word c.in-MulR.is c.requires.handles).operand

pub returns-in-MulR-clause-row : goal.returns-in-MulR-clause-row
unfolding row_of
returns-in-MulR-clause-row g c = row_as c.multiply.result (g.P.Processor.machine c.multiply.new.p) (at_pc (g.P.Processor.machine c.args.p.now) c.args.pc) c.args.word (Mul (reg_of (c.args.word / 64 % 8)) (operand_of c.args.word)) (go (multiplied (at_pc (g.P.Processor.machine c.args.p.now) c.args.pc) (reg_of (c.args.word / 64 % 8)) (operand_of c.args.word))) (handled c.args.handler handler.MulR c.args.word c.in-MulR.is c.requires.handles).is refl c.multiply.ensures.row

pub multiply-requires-in-MulI-clause-source : goal.multiply-requires-in-MulI-clause-source
multiply-requires-in-MulI-clause-source g c = (handled c.args.handler handler.MulI c.args.word c.in-MulI.is c.requires.handles).operand

pub returns-in-MulI-clause-row : goal.returns-in-MulI-clause-row
unfolding row_of
returns-in-MulI-clause-row g c = row_as c.multiply-in-MulI.result (g.P.Processor.machine c.multiply-in-MulI.new.p) (at_pc (g.P.Processor.machine c.args.p.now) c.args.pc) c.args.word (Mul (reg_of (c.args.word / 64 % 8)) (operand_of c.args.word)) (go (multiplied (at_pc (g.P.Processor.machine c.args.p.now) c.args.pc) (reg_of (c.args.word / 64 % 8)) (operand_of c.args.word))) (handled c.args.handler handler.MulI c.args.word c.in-MulI.is c.requires.handles).is refl c.multiply-in-MulI.ensures.row

pub multiply-requires-in-MulX-clause-source : goal.multiply-requires-in-MulX-clause-source
multiply-requires-in-MulX-clause-source g c = (handled c.args.handler handler.MulX c.args.word c.in-MulX.is c.requires.handles).operand

pub returns-in-MulX-clause-row : goal.returns-in-MulX-clause-row
unfolding row_of
returns-in-MulX-clause-row g c = row_as c.multiply-in-MulX.result (g.P.Processor.machine c.multiply-in-MulX.new.p) (at_pc (g.P.Processor.machine c.args.p.now) c.args.pc) c.args.word (Mul (reg_of (c.args.word / 64 % 8)) (operand_of c.args.word)) (go (multiplied (at_pc (g.P.Processor.machine c.args.p.now) c.args.pc) (reg_of (c.args.word / 64 % 8)) (operand_of c.args.word))) (handled c.args.handler handler.MulX c.args.word c.in-MulX.is c.requires.handles).is refl c.multiply-in-MulX.ensures.row

pub divide-requires-clause-source : goal.divide-requires-clause-source
divide-requires-clause-source g c = (handled c.args.handler handler.DivR c.args.word c.in-DivR.is c.requires.handles).operand

pub returns-in-DivR-clause-row : goal.returns-in-DivR-clause-row
unfolding row_of
returns-in-DivR-clause-row g c = row_as c.divide.result (g.P.Processor.machine c.divide.new.p) (at_pc (g.P.Processor.machine c.args.p.now) c.args.pc) c.args.word (Div (reg_of (c.args.word / 64 % 8)) (operand_of c.args.word)) (go (divided (at_pc (g.P.Processor.machine c.args.p.now) c.args.pc) (reg_of (c.args.word / 64 % 8)) (operand_of c.args.word))) (handled c.args.handler handler.DivR c.args.word c.in-DivR.is c.requires.handles).is refl c.divide.ensures.row

pub divide-requires-in-DivI-clause-source : goal.divide-requires-in-DivI-clause-source
divide-requires-in-DivI-clause-source g c = (handled c.args.handler handler.DivI c.args.word c.in-DivI.is c.requires.handles).operand

pub returns-in-DivI-clause-row : goal.returns-in-DivI-clause-row
unfolding row_of
returns-in-DivI-clause-row g c = row_as c.divide-in-DivI.result (g.P.Processor.machine c.divide-in-DivI.new.p) (at_pc (g.P.Processor.machine c.args.p.now) c.args.pc) c.args.word (Div (reg_of (c.args.word / 64 % 8)) (operand_of c.args.word)) (go (divided (at_pc (g.P.Processor.machine c.args.p.now) c.args.pc) (reg_of (c.args.word / 64 % 8)) (operand_of c.args.word))) (handled c.args.handler handler.DivI c.args.word c.in-DivI.is c.requires.handles).is refl c.divide-in-DivI.ensures.row

pub divide-requires-in-DivX-clause-source : goal.divide-requires-in-DivX-clause-source
divide-requires-in-DivX-clause-source g c = (handled c.args.handler handler.DivX c.args.word c.in-DivX.is c.requires.handles).operand

pub returns-in-DivX-clause-row : goal.returns-in-DivX-clause-row
unfolding row_of
returns-in-DivX-clause-row g c = row_as c.divide-in-DivX.result (g.P.Processor.machine c.divide-in-DivX.new.p) (at_pc (g.P.Processor.machine c.args.p.now) c.args.pc) c.args.word (Div (reg_of (c.args.word / 64 % 8)) (operand_of c.args.word)) (go (divided (at_pc (g.P.Processor.machine c.args.p.now) c.args.pc) (reg_of (c.args.word / 64 % 8)) (operand_of c.args.word))) (handled c.args.handler handler.DivX c.args.word c.in-DivX.is c.requires.handles).is refl c.divide-in-DivX.ensures.row

pub shift_reg-requires-clause-source : goal.shift_reg-requires-clause-source
shift_reg-requires-clause-source g c = (handled c.args.handler handler.AshR c.args.word c.in-AshR.is c.requires.handles).operand

pub returns-in-AshR-clause-row : goal.returns-in-AshR-clause-row
unfolding row_of
returns-in-AshR-clause-row g c = row_as c.shift_reg.result (g.P.Processor.machine c.shift_reg.new.p) (at_pc (g.P.Processor.machine c.args.p.now) c.args.pc) c.args.word (Ash (reg_of (c.args.word / 64 % 8)) (operand_of c.args.word)) (go (shifted_reg (at_pc (g.P.Processor.machine c.args.p.now) c.args.pc) (reg_of (c.args.word / 64 % 8)) (operand_of c.args.word))) (handled c.args.handler handler.AshR c.args.word c.in-AshR.is c.requires.handles).is refl c.shift_reg.ensures.row

pub shift_reg-requires-in-AshI-clause-source : goal.shift_reg-requires-in-AshI-clause-source
shift_reg-requires-in-AshI-clause-source g c = (handled c.args.handler handler.AshI c.args.word c.in-AshI.is c.requires.handles).operand

pub returns-in-AshI-clause-row : goal.returns-in-AshI-clause-row
unfolding row_of
returns-in-AshI-clause-row g c = row_as c.shift_reg-in-AshI.result (g.P.Processor.machine c.shift_reg-in-AshI.new.p) (at_pc (g.P.Processor.machine c.args.p.now) c.args.pc) c.args.word (Ash (reg_of (c.args.word / 64 % 8)) (operand_of c.args.word)) (go (shifted_reg (at_pc (g.P.Processor.machine c.args.p.now) c.args.pc) (reg_of (c.args.word / 64 % 8)) (operand_of c.args.word))) (handled c.args.handler handler.AshI c.args.word c.in-AshI.is c.requires.handles).is refl c.shift_reg-in-AshI.ensures.row

pub shift_reg-requires-in-AshX-clause-source : goal.shift_reg-requires-in-AshX-clause-source
shift_reg-requires-in-AshX-clause-source g c = (handled c.args.handler handler.AshX c.args.word c.in-AshX.is c.requires.handles).operand

pub returns-in-AshX-clause-row : goal.returns-in-AshX-clause-row
unfolding row_of
returns-in-AshX-clause-row g c = row_as c.shift_reg-in-AshX.result (g.P.Processor.machine c.shift_reg-in-AshX.new.p) (at_pc (g.P.Processor.machine c.args.p.now) c.args.pc) c.args.word (Ash (reg_of (c.args.word / 64 % 8)) (operand_of c.args.word)) (go (shifted_reg (at_pc (g.P.Processor.machine c.args.p.now) c.args.pc) (reg_of (c.args.word / 64 % 8)) (operand_of c.args.word))) (handled c.args.handler handler.AshX c.args.word c.in-AshX.is c.requires.handles).is refl c.shift_reg-in-AshX.ensures.row

pub shift_pair-requires-clause-source : goal.shift_pair-requires-clause-source
shift_pair-requires-clause-source g c = (handled c.args.handler handler.AshcR c.args.word c.in-AshcR.is c.requires.handles).operand

pub returns-in-AshcR-clause-row : goal.returns-in-AshcR-clause-row
unfolding row_of
returns-in-AshcR-clause-row g c = row_as c.shift_pair.result (g.P.Processor.machine c.shift_pair.new.p) (at_pc (g.P.Processor.machine c.args.p.now) c.args.pc) c.args.word (Ashc (reg_of (c.args.word / 64 % 8)) (operand_of c.args.word)) (go (shifted_pair (at_pc (g.P.Processor.machine c.args.p.now) c.args.pc) (reg_of (c.args.word / 64 % 8)) (operand_of c.args.word))) (handled c.args.handler handler.AshcR c.args.word c.in-AshcR.is c.requires.handles).is refl c.shift_pair.ensures.row

pub shift_pair-requires-in-AshcI-clause-source : goal.shift_pair-requires-in-AshcI-clause-source
shift_pair-requires-in-AshcI-clause-source g c = (handled c.args.handler handler.AshcI c.args.word c.in-AshcI.is c.requires.handles).operand

pub returns-in-AshcI-clause-row : goal.returns-in-AshcI-clause-row
unfolding row_of
returns-in-AshcI-clause-row g c = row_as c.shift_pair-in-AshcI.result (g.P.Processor.machine c.shift_pair-in-AshcI.new.p) (at_pc (g.P.Processor.machine c.args.p.now) c.args.pc) c.args.word (Ashc (reg_of (c.args.word / 64 % 8)) (operand_of c.args.word)) (go (shifted_pair (at_pc (g.P.Processor.machine c.args.p.now) c.args.pc) (reg_of (c.args.word / 64 % 8)) (operand_of c.args.word))) (handled c.args.handler handler.AshcI c.args.word c.in-AshcI.is c.requires.handles).is refl c.shift_pair-in-AshcI.ensures.row

pub shift_pair-requires-in-AshcX-clause-source : goal.shift_pair-requires-in-AshcX-clause-source
shift_pair-requires-in-AshcX-clause-source g c = (handled c.args.handler handler.AshcX c.args.word c.in-AshcX.is c.requires.handles).operand

pub returns-in-AshcX-clause-row : goal.returns-in-AshcX-clause-row
unfolding row_of
returns-in-AshcX-clause-row g c = row_as c.shift_pair-in-AshcX.result (g.P.Processor.machine c.shift_pair-in-AshcX.new.p) (at_pc (g.P.Processor.machine c.args.p.now) c.args.pc) c.args.word (Ashc (reg_of (c.args.word / 64 % 8)) (operand_of c.args.word)) (go (shifted_pair (at_pc (g.P.Processor.machine c.args.p.now) c.args.pc) (reg_of (c.args.word / 64 % 8)) (operand_of c.args.word))) (handled c.args.handler handler.AshcX c.args.word c.in-AshcX.is c.requires.handles).is refl c.shift_pair-in-AshcX.ensures.row

pub modify-requires-clause-dest : goal.modify-requires-clause-dest
modify-requires-clause-dest g c = (handled c.args.handler handler.AdcA c.args.word c.in-AdcA.is c.requires.handles).dest

pub returns-in-AdcA-clause-row : goal.returns-in-AdcA-clause-row
unfolding row_of
returns-in-AdcA-clause-row g c = row_as c.modify.result (g.P.Processor.machine c.modify.new.p) (at_pc (g.P.Processor.machine c.args.p.now) c.args.pc) c.args.word (Adc Word (operand_of c.args.word)) (go (modified (at_pc (g.P.Processor.machine c.args.p.now) c.args.pc) Word (operand_of c.args.word) (change_of AddCarry Word (carry_in (g.P.Processor.machine c.args.p.now))))) (handled c.args.handler handler.AdcA c.args.word c.in-AdcA.is c.requires.handles).is refl c.modify.ensures.row

pub modify-requires-in-AdcX-clause-dest : goal.modify-requires-in-AdcX-clause-dest
modify-requires-in-AdcX-clause-dest g c = (handled c.args.handler handler.AdcX c.args.word c.in-AdcX.is c.requires.handles).dest

pub returns-in-AdcX-clause-row : goal.returns-in-AdcX-clause-row
unfolding row_of
returns-in-AdcX-clause-row g c = row_as c.modify-in-AdcX.result (g.P.Processor.machine c.modify-in-AdcX.new.p) (at_pc (g.P.Processor.machine c.args.p.now) c.args.pc) c.args.word (Adc Word (operand_of c.args.word)) (go (modified (at_pc (g.P.Processor.machine c.args.p.now) c.args.pc) Word (operand_of c.args.word) (change_of AddCarry Word (carry_in (g.P.Processor.machine c.args.p.now))))) (handled c.args.handler handler.AdcX c.args.word c.in-AdcX.is c.requires.handles).is refl c.modify-in-AdcX.ensures.row

pub modify-requires-in-AslA-clause-dest : goal.modify-requires-in-AslA-clause-dest
modify-requires-in-AslA-clause-dest g c = (handled c.args.handler handler.AslA c.args.word c.in-AslA.is c.requires.handles).dest

pub returns-in-AslA-clause-row : goal.returns-in-AslA-clause-row
unfolding row_of
returns-in-AslA-clause-row g c = row_as c.modify-in-AslA.result (g.P.Processor.machine c.modify-in-AslA.new.p) (at_pc (g.P.Processor.machine c.args.p.now) c.args.pc) c.args.word (Asl Word (operand_of c.args.word)) (go (modified (at_pc (g.P.Processor.machine c.args.p.now) c.args.pc) Word (operand_of c.args.word) (change_of ShiftLeft Word (carry_in (g.P.Processor.machine c.args.p.now))))) (handled c.args.handler handler.AslA c.args.word c.in-AslA.is c.requires.handles).is refl c.modify-in-AslA.ensures.row

pub modify-requires-in-AsrA-clause-dest : goal.modify-requires-in-AsrA-clause-dest
modify-requires-in-AsrA-clause-dest g c = (handled c.args.handler handler.AsrA c.args.word c.in-AsrA.is c.requires.handles).dest

pub returns-in-AsrA-clause-row : goal.returns-in-AsrA-clause-row
unfolding row_of
returns-in-AsrA-clause-row g c = row_as c.modify-in-AsrA.result (g.P.Processor.machine c.modify-in-AsrA.new.p) (at_pc (g.P.Processor.machine c.args.p.now) c.args.pc) c.args.word (Asr Word (operand_of c.args.word)) (go (modified (at_pc (g.P.Processor.machine c.args.p.now) c.args.pc) Word (operand_of c.args.word) (change_of ShiftRight Word (carry_in (g.P.Processor.machine c.args.p.now))))) (handled c.args.handler handler.AsrA c.args.word c.in-AsrA.is c.requires.handles).is refl c.modify-in-AsrA.ensures.row

pub modify-requires-in-NegA-clause-dest : goal.modify-requires-in-NegA-clause-dest
modify-requires-in-NegA-clause-dest g c = (handled c.args.handler handler.NegA c.args.word c.in-NegA.is c.requires.handles).dest

pub returns-in-NegA-clause-row : goal.returns-in-NegA-clause-row
unfolding row_of
returns-in-NegA-clause-row g c = row_as c.modify-in-NegA.result (g.P.Processor.machine c.modify-in-NegA.new.p) (at_pc (g.P.Processor.machine c.args.p.now) c.args.pc) c.args.word (Neg Word (operand_of c.args.word)) (go (modified (at_pc (g.P.Processor.machine c.args.p.now) c.args.pc) Word (operand_of c.args.word) (change_of Negate Word (carry_in (g.P.Processor.machine c.args.p.now))))) (handled c.args.handler handler.NegA c.args.word c.in-NegA.is c.requires.handles).is refl c.modify-in-NegA.ensures.row
