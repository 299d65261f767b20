-- A handler says what its word is.
use Rattle.std.proofs.Common.{◌/◌, ◌%◌, false, refl}
use Rattle.pdp_decode.specs.declared.instr.Width.TheVariants.{Word, Byte}
use Rattle.pdp_decode.specs.declared.instr.Condition.TheVariants as condition
use Rattle.pdp_decode.specs.declared.instr.Instr.TheVariants.{Mov, Cmp, Bit, Bic, Bis, Add, Sub, Clr, Com, Inc, Dec, Neg, Adc, Sbc, Tst, Ror, Rol, Asr, Asl, Swab, Xor, Sob, Branch, Jmp, Jsr, Rts}
use Rattle.pdp_decode.specs.declared.handler.Handler.TheVariants as handler
use Rattle.pdp_decode.specs.Decode.{reg_of, operand_of}
use Rattle.pdp_step.specs.Registers.{codes_in}
use Rattle.pdp_step.specs.Machine.{reg_in, carry_in}
use Rattle.pdp_step.specs.Arithmetic.{Complement, Increase, Decrease, Negate, AddCarry, SubtractCarry, RotateRight, RotateLeft, ShiftRight, ShiftLeft, Compare, TestBits, ClearBits, SetBits, Sum, Difference, ExclusiveOr, result_of, swapped, change_of, combine_of, is_taken}
use Rattle.pdp_step.specs.Rows.{moved, compared, joined, modified, replaced, tested, jumped, jumped_to_subroutine, returned, counted, branched}
use Rattle.pdp_step.specs.Instruction.{go, on_registers, row_of}
use Rattle.pdp_step.specs.Parts.{at_pc}
use Rattle.pdp_step.proofs.TableRows.{handled, row_as, low_register, in_memory_absolute, in_memory_relative, in_memory_deferred}
use Rattle.pdp_step.proofs.handlers.perform.Goals as goal

pub move_to-requires-clause-source : goal.move_to-requires-clause-source
move_to-requires-clause-source g c = (handled c.args.handler handler.MovRR c.args.word c.in-MovRR.is c.requires.handles).source

pub move_to-requires-clause-dest : goal.move_to-requires-clause-dest
move_to-requires-clause-dest g c = (handled c.args.handler handler.MovRR c.args.word c.in-MovRR.is c.requires.handles).dest

pub returns-in-MovRR-clause-row : goal.returns-in-MovRR-clause-row
unfolding row_of
returns-in-MovRR-clause-row g c = row_as c.move_to.result (g.P.Processor.machine c.move_to.new.p) (at_pc (g.P.Processor.machine c.args.p.now) c.args.pc) c.args.word (Mov Word (operand_of (c.args.word / 64)) (operand_of c.args.word)) (go (moved (at_pc (g.P.Processor.machine c.args.p.now) c.args.pc) Word (operand_of (c.args.word / 64)) (operand_of c.args.word))) (handled c.args.handler handler.MovRR c.args.word c.in-MovRR.is c.requires.handles).is refl c.move_to.ensures.row

pub move_to-requires-in-MovIR-clause-source : goal.move_to-requires-in-MovIR-clause-source
move_to-requires-in-MovIR-clause-source g c = (handled c.args.handler handler.MovIR c.args.word c.in-MovIR.is c.requires.handles).source

pub move_to-requires-in-MovIR-clause-dest : goal.move_to-requires-in-MovIR-clause-dest
move_to-requires-in-MovIR-clause-dest g c = (handled c.args.handler handler.MovIR c.args.word c.in-MovIR.is c.requires.handles).dest

pub returns-in-MovIR-clause-row : goal.returns-in-MovIR-clause-row
unfolding row_of
returns-in-MovIR-clause-row g c = row_as c.move_to-in-MovIR.result (g.P.Processor.machine c.move_to-in-MovIR.new.p) (at_pc (g.P.Processor.machine c.args.p.now) c.args.pc) c.args.word (Mov Word (operand_of (c.args.word / 64)) (operand_of c.args.word)) (go (moved (at_pc (g.P.Processor.machine c.args.p.now) c.args.pc) Word (operand_of (c.args.word / 64)) (operand_of c.args.word))) (handled c.args.handler handler.MovIR c.args.word c.in-MovIR.is c.requires.handles).is refl c.move_to-in-MovIR.ensures.row

pub move_to-requires-in-MovAR-clause-source : goal.move_to-requires-in-MovAR-clause-source
move_to-requires-in-MovAR-clause-source g c = (handled c.args.handler handler.MovAR c.args.word c.in-MovAR.is c.requires.handles).source

pub move_to-requires-in-MovAR-clause-dest : goal.move_to-requires-in-MovAR-clause-dest
move_to-requires-in-MovAR-clause-dest g c = (handled c.args.handler handler.MovAR c.args.word c.in-MovAR.is c.requires.handles).dest

pub returns-in-MovAR-clause-row : goal.returns-in-MovAR-clause-row
unfolding row_of
returns-in-MovAR-clause-row g c = row_as c.move_to-in-MovAR.result (g.P.Processor.machine c.move_to-in-MovAR.new.p) (at_pc (g.P.Processor.machine c.args.p.now) c.args.pc) c.args.word (Mov Word (operand_of (c.args.word / 64)) (operand_of c.args.word)) (go (moved (at_pc (g.P.Processor.machine c.args.p.now) c.args.pc) Word (operand_of (c.args.word / 64)) (operand_of c.args.word))) (handled c.args.handler handler.MovAR c.args.word c.in-MovAR.is c.requires.handles).is refl c.move_to-in-MovAR.ensures.row

pub move_to-requires-in-MovXR-clause-source : goal.move_to-requires-in-MovXR-clause-source
move_to-requires-in-MovXR-clause-source g c = (handled c.args.handler handler.MovXR c.args.word c.in-MovXR.is c.requires.handles).source

pub move_to-requires-in-MovXR-clause-dest : goal.move_to-requires-in-MovXR-clause-dest
move_to-requires-in-MovXR-clause-dest g c = (handled c.args.handler handler.MovXR c.args.word c.in-MovXR.is c.requires.handles).dest

pub returns-in-MovXR-clause-row : goal.returns-in-MovXR-clause-row
unfolding row_of
returns-in-MovXR-clause-row g c = row_as c.move_to-in-MovXR.result (g.P.Processor.machine c.move_to-in-MovXR.new.p) (at_pc (g.P.Processor.machine c.args.p.now) c.args.pc) c.args.word (Mov Word (operand_of (c.args.word / 64)) (operand_of c.args.word)) (go (moved (at_pc (g.P.Processor.machine c.args.p.now) c.args.pc) Word (operand_of (c.args.word / 64)) (operand_of c.args.word))) (handled c.args.handler handler.MovXR c.args.word c.in-MovXR.is c.requires.handles).is refl c.move_to-in-MovXR.ensures.row

pub move_to-requires-in-MovDR-clause-source : goal.move_to-requires-in-MovDR-clause-source
move_to-requires-in-MovDR-clause-source g c = (handled c.args.handler handler.MovDR c.args.word c.in-MovDR.is c.requires.handles).source

pub move_to-requires-in-MovDR-clause-dest : goal.move_to-requires-in-MovDR-clause-dest
move_to-requires-in-MovDR-clause-dest g c = (handled c.args.handler handler.MovDR c.args.word c.in-MovDR.is c.requires.handles).dest

pub returns-in-MovDR-clause-row : goal.returns-in-MovDR-clause-row
unfolding row_of
returns-in-MovDR-clause-row g c = row_as c.move_to-in-MovDR.result (g.P.Processor.machine c.move_to-in-MovDR.new.p) (at_pc (g.P.Processor.machine c.args.p.now) c.args.pc) c.args.word (Mov Word (operand_of (c.args.word / 64)) (operand_of c.args.word)) (go (moved (at_pc (g.P.Processor.machine c.args.p.now) c.args.pc) Word (operand_of (c.args.word / 64)) (operand_of c.args.word))) (handled c.args.handler handler.MovDR c.args.word c.in-MovDR.is c.requires.handles).is refl c.move_to-in-MovDR.ensures.row

pub move_to-requires-in-MovPR-clause-source : goal.move_to-requires-in-MovPR-clause-source
move_to-requires-in-MovPR-clause-source g c = (handled c.args.handler handler.MovPR c.args.word c.in-MovPR.is c.requires.handles).source

pub move_to-requires-in-MovPR-clause-dest : goal.move_to-requires-in-MovPR-clause-dest
move_to-requires-in-MovPR-clause-dest g c = (handled c.args.handler handler.MovPR c.args.word c.in-MovPR.is c.requires.handles).dest

pub returns-in-MovPR-clause-row : goal.returns-in-MovPR-clause-row
unfolding row_of
returns-in-MovPR-clause-row g c = row_as c.move_to-in-MovPR.result (g.P.Processor.machine c.move_to-in-MovPR.new.p) (at_pc (g.P.Processor.machine c.args.p.now) c.args.pc) c.args.word (Mov Word (operand_of (c.args.word / 64)) (operand_of c.args.word)) (go (moved (at_pc (g.P.Processor.machine c.args.p.now) c.args.pc) Word (operand_of (c.args.word / 64)) (operand_of c.args.word))) (handled c.args.handler handler.MovPR c.args.word c.in-MovPR.is c.requires.handles).is refl c.move_to-in-MovPR.ensures.row

pub move_to-requires-in-MovLR-clause-source : goal.move_to-requires-in-MovLR-clause-source
move_to-requires-in-MovLR-clause-source g c = (handled c.args.handler handler.MovLR c.args.word c.in-MovLR.is c.requires.handles).source

pub move_to-requires-in-MovLR-clause-dest : goal.move_to-requires-in-MovLR-clause-dest
move_to-requires-in-MovLR-clause-dest g c = (handled c.args.handler handler.MovLR c.args.word c.in-MovLR.is c.requires.handles).dest

pub returns-in-MovLR-clause-row : goal.returns-in-MovLR-clause-row
unfolding row_of
returns-in-MovLR-clause-row g c = row_as c.move_to-in-MovLR.result (g.P.Processor.machine c.move_to-in-MovLR.new.p) (at_pc (g.P.Processor.machine c.args.p.now) c.args.pc) c.args.word (Mov Word (operand_of (c.args.word / 64)) (operand_of c.args.word)) (go (moved (at_pc (g.P.Processor.machine c.args.p.now) c.args.pc) Word (operand_of (c.args.word / 64)) (operand_of c.args.word))) (handled c.args.handler handler.MovLR c.args.word c.in-MovLR.is c.requires.handles).is refl c.move_to-in-MovLR.ensures.row

pub move_to-requires-in-MovRA-clause-source : goal.move_to-requires-in-MovRA-clause-source
move_to-requires-in-MovRA-clause-source g c = (handled c.args.handler handler.MovRA c.args.word c.in-MovRA.is c.requires.handles).source

pub move_to-requires-in-MovRA-clause-dest : goal.move_to-requires-in-MovRA-clause-dest
move_to-requires-in-MovRA-clause-dest g c = (handled c.args.handler handler.MovRA c.args.word c.in-MovRA.is c.requires.handles).dest

pub returns-in-MovRA-clause-row : goal.returns-in-MovRA-clause-row
unfolding row_of
returns-in-MovRA-clause-row g c = row_as c.move_to-in-MovRA.result (g.P.Processor.machine c.move_to-in-MovRA.new.p) (at_pc (g.P.Processor.machine c.args.p.now) c.args.pc) c.args.word (Mov Word (operand_of (c.args.word / 64)) (operand_of c.args.word)) (go (moved (at_pc (g.P.Processor.machine c.args.p.now) c.args.pc) Word (operand_of (c.args.word / 64)) (operand_of c.args.word))) (handled c.args.handler handler.MovRA c.args.word c.in-MovRA.is c.requires.handles).is refl c.move_to-in-MovRA.ensures.row

pub move_to-requires-in-MovRX-clause-source : goal.move_to-requires-in-MovRX-clause-source
move_to-requires-in-MovRX-clause-source g c = (handled c.args.handler handler.MovRX c.args.word c.in-MovRX.is c.requires.handles).source

pub move_to-requires-in-MovRX-clause-dest : goal.move_to-requires-in-MovRX-clause-dest
move_to-requires-in-MovRX-clause-dest g c = (handled c.args.handler handler.MovRX c.args.word c.in-MovRX.is c.requires.handles).dest

pub returns-in-MovRX-clause-row : goal.returns-in-MovRX-clause-row
unfolding row_of
returns-in-MovRX-clause-row g c = row_as c.move_to-in-MovRX.result (g.P.Processor.machine c.move_to-in-MovRX.new.p) (at_pc (g.P.Processor.machine c.args.p.now) c.args.pc) c.args.word (Mov Word (operand_of (c.args.word / 64)) (operand_of c.args.word)) (go (moved (at_pc (g.P.Processor.machine c.args.p.now) c.args.pc) Word (operand_of (c.args.word / 64)) (operand_of c.args.word))) (handled c.args.handler handler.MovRX c.args.word c.in-MovRX.is c.requires.handles).is refl c.move_to-in-MovRX.ensures.row

pub move_to-requires-in-MovRD-clause-source : goal.move_to-requires-in-MovRD-clause-source
move_to-requires-in-MovRD-clause-source g c = (handled c.args.handler handler.MovRD c.args.word c.in-MovRD.is c.requires.handles).source

pub move_to-requires-in-MovRD-clause-dest : goal.move_to-requires-in-MovRD-clause-dest
move_to-requires-in-MovRD-clause-dest g c = (handled c.args.handler handler.MovRD c.args.word c.in-MovRD.is c.requires.handles).dest

pub returns-in-MovRD-clause-row : goal.returns-in-MovRD-clause-row
unfolding row_of
returns-in-MovRD-clause-row g c = row_as c.move_to-in-MovRD.result (g.P.Processor.machine c.move_to-in-MovRD.new.p) (at_pc (g.P.Processor.machine c.args.p.now) c.args.pc) c.args.word (Mov Word (operand_of (c.args.word / 64)) (operand_of c.args.word)) (go (moved (at_pc (g.P.Processor.machine c.args.p.now) c.args.pc) Word (operand_of (c.args.word / 64)) (operand_of c.args.word))) (handled c.args.handler handler.MovRD c.args.word c.in-MovRD.is c.requires.handles).is refl c.move_to-in-MovRD.ensures.row

pub move_to-requires-in-MovRP-clause-source : goal.move_to-requires-in-MovRP-clause-source
move_to-requires-in-MovRP-clause-source g c = (handled c.args.handler handler.MovRP c.args.word c.in-MovRP.is c.requires.handles).source

pub move_to-requires-in-MovRP-clause-dest : goal.move_to-requires-in-MovRP-clause-dest
move_to-requires-in-MovRP-clause-dest g c = (handled c.args.handler handler.MovRP c.args.word c.in-MovRP.is c.requires.handles).dest

pub returns-in-MovRP-clause-row : goal.returns-in-MovRP-clause-row
unfolding row_of
returns-in-MovRP-clause-row g c = row_as c.move_to-in-MovRP.result (g.P.Processor.machine c.move_to-in-MovRP.new.p) (at_pc (g.P.Processor.machine c.args.p.now) c.args.pc) c.args.word (Mov Word (operand_of (c.args.word / 64)) (operand_of c.args.word)) (go (moved (at_pc (g.P.Processor.machine c.args.p.now) c.args.pc) Word (operand_of (c.args.word / 64)) (operand_of c.args.word))) (handled c.args.handler handler.MovRP c.args.word c.in-MovRP.is c.requires.handles).is refl c.move_to-in-MovRP.ensures.row

pub move_to-requires-in-MovRM-clause-source : goal.move_to-requires-in-MovRM-clause-source
move_to-requires-in-MovRM-clause-source g c = (handled c.args.handler handler.MovRM c.args.word c.in-MovRM.is c.requires.handles).source

pub move_to-requires-in-MovRM-clause-dest : goal.move_to-requires-in-MovRM-clause-dest
move_to-requires-in-MovRM-clause-dest g c = (handled c.args.handler handler.MovRM c.args.word c.in-MovRM.is c.requires.handles).dest

pub returns-in-MovRM-clause-row : goal.returns-in-MovRM-clause-row
unfolding row_of
returns-in-MovRM-clause-row g c = row_as c.move_to-in-MovRM.result (g.P.Processor.machine c.move_to-in-MovRM.new.p) (at_pc (g.P.Processor.machine c.args.p.now) c.args.pc) c.args.word (Mov Word (operand_of (c.args.word / 64)) (operand_of c.args.word)) (go (moved (at_pc (g.P.Processor.machine c.args.p.now) c.args.pc) Word (operand_of (c.args.word / 64)) (operand_of c.args.word))) (handled c.args.handler handler.MovRM c.args.word c.in-MovRM.is c.requires.handles).is refl c.move_to-in-MovRM.ensures.row

pub move_to-requires-in-MovRL-clause-source : goal.move_to-requires-in-MovRL-clause-source
move_to-requires-in-MovRL-clause-source g c = (handled c.args.handler handler.MovRL c.args.word c.in-MovRL.is c.requires.handles).source

pub move_to-requires-in-MovRL-clause-dest : goal.move_to-requires-in-MovRL-clause-dest
move_to-requires-in-MovRL-clause-dest g c = (handled c.args.handler handler.MovRL c.args.word c.in-MovRL.is c.requires.handles).dest

pub returns-in-MovRL-clause-row : goal.returns-in-MovRL-clause-row
unfolding row_of
returns-in-MovRL-clause-row g c = row_as c.move_to-in-MovRL.result (g.P.Processor.machine c.move_to-in-MovRL.new.p) (at_pc (g.P.Processor.machine c.args.p.now) c.args.pc) c.args.word (Mov Word (operand_of (c.args.word / 64)) (operand_of c.args.word)) (go (moved (at_pc (g.P.Processor.machine c.args.p.now) c.args.pc) Word (operand_of (c.args.word / 64)) (operand_of c.args.word))) (handled c.args.handler handler.MovRL c.args.word c.in-MovRL.is c.requires.handles).is refl c.move_to-in-MovRL.ensures.row

pub compare-requires-clause-source : goal.compare-requires-clause-source
compare-requires-clause-source g c = (handled c.args.handler handler.CmpRR c.args.word c.in-CmpRR.is c.requires.handles).source

pub compare-requires-clause-dest : goal.compare-requires-clause-dest
compare-requires-clause-dest g c = (handled c.args.handler handler.CmpRR c.args.word c.in-CmpRR.is c.requires.handles).dest

pub returns-in-CmpRR-clause-row : goal.returns-in-CmpRR-clause-row
unfolding row_of
returns-in-CmpRR-clause-row g c = row_as c.compare.result (g.P.Processor.machine c.compare.new.p) (at_pc (g.P.Processor.machine c.args.p.now) c.args.pc) c.args.word (Cmp Word (operand_of (c.args.word / 64)) (operand_of c.args.word)) (go (compared (at_pc (g.P.Processor.machine c.args.p.now) c.args.pc) Word (operand_of (c.args.word / 64)) (operand_of c.args.word) (combine_of Compare Word (carry_in (g.P.Processor.machine c.args.p.now))))) (handled c.args.handler handler.CmpRR c.args.word c.in-CmpRR.is c.requires.handles).is refl c.compare.ensures.row

pub compare-requires-in-CmpIR-clause-source : goal.compare-requires-in-CmpIR-clause-source
compare-requires-in-CmpIR-clause-source g c = (handled c.args.handler handler.CmpIR c.args.word c.in-CmpIR.is c.requires.handles).source

pub compare-requires-in-CmpIR-clause-dest : goal.compare-requires-in-CmpIR-clause-dest
compare-requires-in-CmpIR-clause-dest g c = (handled c.args.handler handler.CmpIR c.args.word c.in-CmpIR.is c.requires.handles).dest

pub returns-in-CmpIR-clause-row : goal.returns-in-CmpIR-clause-row
unfolding row_of
returns-in-CmpIR-clause-row g c = row_as c.compare-in-CmpIR.result (g.P.Processor.machine c.compare-in-CmpIR.new.p) (at_pc (g.P.Processor.machine c.args.p.now) c.args.pc) c.args.word (Cmp Word (operand_of (c.args.word / 64)) (operand_of c.args.word)) (go (compared (at_pc (g.P.Processor.machine c.args.p.now) c.args.pc) Word (operand_of (c.args.word / 64)) (operand_of c.args.word) (combine_of Compare Word (carry_in (g.P.Processor.machine c.args.p.now))))) (handled c.args.handler handler.CmpIR c.args.word c.in-CmpIR.is c.requires.handles).is refl c.compare-in-CmpIR.ensures.row

pub compare-requires-in-CmpAR-clause-source : goal.compare-requires-in-CmpAR-clause-source
compare-requires-in-CmpAR-clause-source g c = (handled c.args.handler handler.CmpAR c.args.word c.in-CmpAR.is c.requires.handles).source

pub compare-requires-in-CmpAR-clause-dest : goal.compare-requires-in-CmpAR-clause-dest
compare-requires-in-CmpAR-clause-dest g c = (handled c.args.handler handler.CmpAR c.args.word c.in-CmpAR.is c.requires.handles).dest

pub returns-in-CmpAR-clause-row : goal.returns-in-CmpAR-clause-row
unfolding row_of
returns-in-CmpAR-clause-row g c = row_as c.compare-in-CmpAR.result (g.P.Processor.machine c.compare-in-CmpAR.new.p) (at_pc (g.P.Processor.machine c.args.p.now) c.args.pc) c.args.word (Cmp Word (operand_of (c.args.word / 64)) (operand_of c.args.word)) (go (compared (at_pc (g.P.Processor.machine c.args.p.now) c.args.pc) Word (operand_of (c.args.word / 64)) (operand_of c.args.word) (combine_of Compare Word (carry_in (g.P.Processor.machine c.args.p.now))))) (handled c.args.handler handler.CmpAR c.args.word c.in-CmpAR.is c.requires.handles).is refl c.compare-in-CmpAR.ensures.row

pub compare-requires-in-CmpXR-clause-source : goal.compare-requires-in-CmpXR-clause-source
compare-requires-in-CmpXR-clause-source g c = (handled c.args.handler handler.CmpXR c.args.word c.in-CmpXR.is c.requires.handles).source

pub compare-requires-in-CmpXR-clause-dest : goal.compare-requires-in-CmpXR-clause-dest
compare-requires-in-CmpXR-clause-dest g c = (handled c.args.handler handler.CmpXR c.args.word c.in-CmpXR.is c.requires.handles).dest

pub returns-in-CmpXR-clause-row : goal.returns-in-CmpXR-clause-row
unfolding row_of
returns-in-CmpXR-clause-row g c = row_as c.compare-in-CmpXR.result (g.P.Processor.machine c.compare-in-CmpXR.new.p) (at_pc (g.P.Processor.machine c.args.p.now) c.args.pc) c.args.word (Cmp Word (operand_of (c.args.word / 64)) (operand_of c.args.word)) (go (compared (at_pc (g.P.Processor.machine c.args.p.now) c.args.pc) Word (operand_of (c.args.word / 64)) (operand_of c.args.word) (combine_of Compare Word (carry_in (g.P.Processor.machine c.args.p.now))))) (handled c.args.handler handler.CmpXR c.args.word c.in-CmpXR.is c.requires.handles).is refl c.compare-in-CmpXR.ensures.row

pub join-requires-clause-source : goal.join-requires-clause-source
join-requires-clause-source g c = (handled c.args.handler handler.AddRR c.args.word c.in-AddRR.is c.requires.handles).source

pub join-requires-clause-dest : goal.join-requires-clause-dest
join-requires-clause-dest g c = (handled c.args.handler handler.AddRR c.args.word c.in-AddRR.is c.requires.handles).dest

pub returns-in-AddRR-clause-row : goal.returns-in-AddRR-clause-row
unfolding row_of
returns-in-AddRR-clause-row g c = row_as c.join.result (g.P.Processor.machine c.join.new.p) (at_pc (g.P.Processor.machine c.args.p.now) c.args.pc) c.args.word (Add (operand_of (c.args.word / 64)) (operand_of c.args.word)) (go (joined (at_pc (g.P.Processor.machine c.args.p.now) c.args.pc) Word (operand_of (c.args.word / 64)) (operand_of c.args.word) (combine_of Sum Word (carry_in (g.P.Processor.machine c.args.p.now))))) (handled c.args.handler handler.AddRR c.args.word c.in-AddRR.is c.requires.handles).is refl c.join.ensures.row

pub join-requires-in-AddIR-clause-source : goal.join-requires-in-AddIR-clause-source
join-requires-in-AddIR-clause-source g c = (handled c.args.handler handler.AddIR c.args.word c.in-AddIR.is c.requires.handles).source

pub join-requires-in-AddIR-clause-dest : goal.join-requires-in-AddIR-clause-dest
join-requires-in-AddIR-clause-dest g c = (handled c.args.handler handler.AddIR c.args.word c.in-AddIR.is c.requires.handles).dest

pub returns-in-AddIR-clause-row : goal.returns-in-AddIR-clause-row
unfolding row_of
returns-in-AddIR-clause-row g c = row_as c.join-in-AddIR.result (g.P.Processor.machine c.join-in-AddIR.new.p) (at_pc (g.P.Processor.machine c.args.p.now) c.args.pc) c.args.word (Add (operand_of (c.args.word / 64)) (operand_of c.args.word)) (go (joined (at_pc (g.P.Processor.machine c.args.p.now) c.args.pc) Word (operand_of (c.args.word / 64)) (operand_of c.args.word) (combine_of Sum Word (carry_in (g.P.Processor.machine c.args.p.now))))) (handled c.args.handler handler.AddIR c.args.word c.in-AddIR.is c.requires.handles).is refl c.join-in-AddIR.ensures.row

pub join-requires-in-AddAR-clause-source : goal.join-requires-in-AddAR-clause-source
join-requires-in-AddAR-clause-source g c = (handled c.args.handler handler.AddAR c.args.word c.in-AddAR.is c.requires.handles).source

pub join-requires-in-AddAR-clause-dest : goal.join-requires-in-AddAR-clause-dest
join-requires-in-AddAR-clause-dest g c = (handled c.args.handler handler.AddAR c.args.word c.in-AddAR.is c.requires.handles).dest

pub returns-in-AddAR-clause-row : goal.returns-in-AddAR-clause-row
unfolding row_of
returns-in-AddAR-clause-row g c = row_as c.join-in-AddAR.result (g.P.Processor.machine c.join-in-AddAR.new.p) (at_pc (g.P.Processor.machine c.args.p.now) c.args.pc) c.args.word (Add (operand_of (c.args.word / 64)) (operand_of c.args.word)) (go (joined (at_pc (g.P.Processor.machine c.args.p.now) c.args.pc) Word (operand_of (c.args.word / 64)) (operand_of c.args.word) (combine_of Sum Word (carry_in (g.P.Processor.machine c.args.p.now))))) (handled c.args.handler handler.AddAR c.args.word c.in-AddAR.is c.requires.handles).is refl c.join-in-AddAR.ensures.row

pub join-requires-in-AddXR-clause-source : goal.join-requires-in-AddXR-clause-source
join-requires-in-AddXR-clause-source g c = (handled c.args.handler handler.AddXR c.args.word c.in-AddXR.is c.requires.handles).source

pub join-requires-in-AddXR-clause-dest : goal.join-requires-in-AddXR-clause-dest
join-requires-in-AddXR-clause-dest g c = (handled c.args.handler handler.AddXR c.args.word c.in-AddXR.is c.requires.handles).dest

pub returns-in-AddXR-clause-row : goal.returns-in-AddXR-clause-row
unfolding row_of
returns-in-AddXR-clause-row g c = row_as c.join-in-AddXR.result (g.P.Processor.machine c.join-in-AddXR.new.p) (at_pc (g.P.Processor.machine c.args.p.now) c.args.pc) c.args.word (Add (operand_of (c.args.word / 64)) (operand_of c.args.word)) (go (joined (at_pc (g.P.Processor.machine c.args.p.now) c.args.pc) Word (operand_of (c.args.word / 64)) (operand_of c.args.word) (combine_of Sum Word (carry_in (g.P.Processor.machine c.args.p.now))))) (handled c.args.handler handler.AddXR c.args.word c.in-AddXR.is c.requires.handles).is refl c.join-in-AddXR.ensures.row

pub join-requires-in-AddRA-clause-source : goal.join-requires-in-AddRA-clause-source
join-requires-in-AddRA-clause-source g c = (handled c.args.handler handler.AddRA c.args.word c.in-AddRA.is c.requires.handles).source

pub join-requires-in-AddRA-clause-dest : goal.join-requires-in-AddRA-clause-dest
join-requires-in-AddRA-clause-dest g c = (handled c.args.handler handler.AddRA c.args.word c.in-AddRA.is c.requires.handles).dest

pub returns-in-AddRA-clause-row : goal.returns-in-AddRA-clause-row
unfolding row_of
returns-in-AddRA-clause-row g c = row_as c.join-in-AddRA.result (g.P.Processor.machine c.join-in-AddRA.new.p) (at_pc (g.P.Processor.machine c.args.p.now) c.args.pc) c.args.word (Add (operand_of (c.args.word / 64)) (operand_of c.args.word)) (go (joined (at_pc (g.P.Processor.machine c.args.p.now) c.args.pc) Word (operand_of (c.args.word / 64)) (operand_of c.args.word) (combine_of Sum Word (carry_in (g.P.Processor.machine c.args.p.now))))) (handled c.args.handler handler.AddRA c.args.word c.in-AddRA.is c.requires.handles).is refl c.join-in-AddRA.ensures.row

pub join-requires-in-AddRX-clause-source : goal.join-requires-in-AddRX-clause-source
join-requires-in-AddRX-clause-source g c = (handled c.args.handler handler.AddRX c.args.word c.in-AddRX.is c.requires.handles).source

pub join-requires-in-AddRX-clause-dest : goal.join-requires-in-AddRX-clause-dest
join-requires-in-AddRX-clause-dest g c = (handled c.args.handler handler.AddRX c.args.word c.in-AddRX.is c.requires.handles).dest

pub returns-in-AddRX-clause-row : goal.returns-in-AddRX-clause-row
unfolding row_of
returns-in-AddRX-clause-row g c = row_as c.join-in-AddRX.result (g.P.Processor.machine c.join-in-AddRX.new.p) (at_pc (g.P.Processor.machine c.args.p.now) c.args.pc) c.args.word (Add (operand_of (c.args.word / 64)) (operand_of c.args.word)) (go (joined (at_pc (g.P.Processor.machine c.args.p.now) c.args.pc) Word (operand_of (c.args.word / 64)) (operand_of c.args.word) (combine_of Sum Word (carry_in (g.P.Processor.machine c.args.p.now))))) (handled c.args.handler handler.AddRX c.args.word c.in-AddRX.is c.requires.handles).is refl c.join-in-AddRX.ensures.row

pub join-requires-in-SubRR-clause-source : goal.join-requires-in-SubRR-clause-source
join-requires-in-SubRR-clause-source g c = (handled c.args.handler handler.SubRR c.args.word c.in-SubRR.is c.requires.handles).source

pub join-requires-in-SubRR-clause-dest : goal.join-requires-in-SubRR-clause-dest
join-requires-in-SubRR-clause-dest g c = (handled c.args.handler handler.SubRR c.args.word c.in-SubRR.is c.requires.handles).dest

pub returns-in-SubRR-clause-row : goal.returns-in-SubRR-clause-row
unfolding row_of
returns-in-SubRR-clause-row g c = row_as c.join-in-SubRR.result (g.P.Processor.machine c.join-in-SubRR.new.p) (at_pc (g.P.Processor.machine c.args.p.now) c.args.pc) c.args.word (Sub (operand_of (c.args.word / 64)) (operand_of c.args.word)) (go (joined (at_pc (g.P.Processor.machine c.args.p.now) c.args.pc) Word (operand_of (c.args.word / 64)) (operand_of c.args.word) (combine_of Difference Word (carry_in (g.P.Processor.machine c.args.p.now))))) (handled c.args.handler handler.SubRR c.args.word c.in-SubRR.is c.requires.handles).is refl c.join-in-SubRR.ensures.row

pub join-requires-in-SubIR-clause-source : goal.join-requires-in-SubIR-clause-source
join-requires-in-SubIR-clause-source g c = (handled c.args.handler handler.SubIR c.args.word c.in-SubIR.is c.requires.handles).source

pub join-requires-in-SubIR-clause-dest : goal.join-requires-in-SubIR-clause-dest
join-requires-in-SubIR-clause-dest g c = (handled c.args.handler handler.SubIR c.args.word c.in-SubIR.is c.requires.handles).dest

pub returns-in-SubIR-clause-row : goal.returns-in-SubIR-clause-row
unfolding row_of
returns-in-SubIR-clause-row g c = row_as c.join-in-SubIR.result (g.P.Processor.machine c.join-in-SubIR.new.p) (at_pc (g.P.Processor.machine c.args.p.now) c.args.pc) c.args.word (Sub (operand_of (c.args.word / 64)) (operand_of c.args.word)) (go (joined (at_pc (g.P.Processor.machine c.args.p.now) c.args.pc) Word (operand_of (c.args.word / 64)) (operand_of c.args.word) (combine_of Difference Word (carry_in (g.P.Processor.machine c.args.p.now))))) (handled c.args.handler handler.SubIR c.args.word c.in-SubIR.is c.requires.handles).is refl c.join-in-SubIR.ensures.row

pub compare-requires-in-BitRR-clause-source : goal.compare-requires-in-BitRR-clause-source
compare-requires-in-BitRR-clause-source g c = (handled c.args.handler handler.BitRR c.args.word c.in-BitRR.is c.requires.handles).source

pub compare-requires-in-BitRR-clause-dest : goal.compare-requires-in-BitRR-clause-dest
compare-requires-in-BitRR-clause-dest g c = (handled c.args.handler handler.BitRR c.args.word c.in-BitRR.is c.requires.handles).dest

pub returns-in-BitRR-clause-row : goal.returns-in-BitRR-clause-row
unfolding row_of
returns-in-BitRR-clause-row g c = row_as c.compare-in-BitRR.result (g.P.Processor.machine c.compare-in-BitRR.new.p) (at_pc (g.P.Processor.machine c.args.p.now) c.args.pc) c.args.word (Bit Word (operand_of (c.args.word / 64)) (operand_of c.args.word)) (go (compared (at_pc (g.P.Processor.machine c.args.p.now) c.args.pc) Word (operand_of (c.args.word / 64)) (operand_of c.args.word) (combine_of TestBits Word (carry_in (g.P.Processor.machine c.args.p.now))))) (handled c.args.handler handler.BitRR c.args.word c.in-BitRR.is c.requires.handles).is refl c.compare-in-BitRR.ensures.row

pub compare-requires-in-BitIR-clause-source : goal.compare-requires-in-BitIR-clause-source
compare-requires-in-BitIR-clause-source g c = (handled c.args.handler handler.BitIR c.args.word c.in-BitIR.is c.requires.handles).source

pub compare-requires-in-BitIR-clause-dest : goal.compare-requires-in-BitIR-clause-dest
compare-requires-in-BitIR-clause-dest g c = (handled c.args.handler handler.BitIR c.args.word c.in-BitIR.is c.requires.handles).dest

pub returns-in-BitIR-clause-row : goal.returns-in-BitIR-clause-row
unfolding row_of
returns-in-BitIR-clause-row g c = row_as c.compare-in-BitIR.result (g.P.Processor.machine c.compare-in-BitIR.new.p) (at_pc (g.P.Processor.machine c.args.p.now) c.args.pc) c.args.word (Bit Word (operand_of (c.args.word / 64)) (operand_of c.args.word)) (go (compared (at_pc (g.P.Processor.machine c.args.p.now) c.args.pc) Word (operand_of (c.args.word / 64)) (operand_of c.args.word) (combine_of TestBits Word (carry_in (g.P.Processor.machine c.args.p.now))))) (handled c.args.handler handler.BitIR c.args.word c.in-BitIR.is c.requires.handles).is refl c.compare-in-BitIR.ensures.row

pub join-requires-in-BicRR-clause-source : goal.join-requires-in-BicRR-clause-source
join-requires-in-BicRR-clause-source g c = (handled c.args.handler handler.BicRR c.args.word c.in-BicRR.is c.requires.handles).source

pub join-requires-in-BicRR-clause-dest : goal.join-requires-in-BicRR-clause-dest
join-requires-in-BicRR-clause-dest g c = (handled c.args.handler handler.BicRR c.args.word c.in-BicRR.is c.requires.handles).dest

pub returns-in-BicRR-clause-row : goal.returns-in-BicRR-clause-row
unfolding row_of
returns-in-BicRR-clause-row g c = row_as c.join-in-BicRR.result (g.P.Processor.machine c.join-in-BicRR.new.p) (at_pc (g.P.Processor.machine c.args.p.now) c.args.pc) c.args.word (Bic Word (operand_of (c.args.word / 64)) (operand_of c.args.word)) (go (joined (at_pc (g.P.Processor.machine c.args.p.now) c.args.pc) Word (operand_of (c.args.word / 64)) (operand_of c.args.word) (combine_of ClearBits Word (carry_in (g.P.Processor.machine c.args.p.now))))) (handled c.args.handler handler.BicRR c.args.word c.in-BicRR.is c.requires.handles).is refl c.join-in-BicRR.ensures.row

pub join-requires-in-BicIR-clause-source : goal.join-requires-in-BicIR-clause-source
join-requires-in-BicIR-clause-source g c = (handled c.args.handler handler.BicIR c.args.word c.in-BicIR.is c.requires.handles).source

pub join-requires-in-BicIR-clause-dest : goal.join-requires-in-BicIR-clause-dest
join-requires-in-BicIR-clause-dest g c = (handled c.args.handler handler.BicIR c.args.word c.in-BicIR.is c.requires.handles).dest

pub returns-in-BicIR-clause-row : goal.returns-in-BicIR-clause-row
unfolding row_of
returns-in-BicIR-clause-row g c = row_as c.join-in-BicIR.result (g.P.Processor.machine c.join-in-BicIR.new.p) (at_pc (g.P.Processor.machine c.args.p.now) c.args.pc) c.args.word (Bic Word (operand_of (c.args.word / 64)) (operand_of c.args.word)) (go (joined (at_pc (g.P.Processor.machine c.args.p.now) c.args.pc) Word (operand_of (c.args.word / 64)) (operand_of c.args.word) (combine_of ClearBits Word (carry_in (g.P.Processor.machine c.args.p.now))))) (handled c.args.handler handler.BicIR c.args.word c.in-BicIR.is c.requires.handles).is refl c.join-in-BicIR.ensures.row

pub join-requires-in-BisRR-clause-source : goal.join-requires-in-BisRR-clause-source
join-requires-in-BisRR-clause-source g c = (handled c.args.handler handler.BisRR c.args.word c.in-BisRR.is c.requires.handles).source

pub join-requires-in-BisRR-clause-dest : goal.join-requires-in-BisRR-clause-dest
join-requires-in-BisRR-clause-dest g c = (handled c.args.handler handler.BisRR c.args.word c.in-BisRR.is c.requires.handles).dest

pub returns-in-BisRR-clause-row : goal.returns-in-BisRR-clause-row
unfolding row_of
returns-in-BisRR-clause-row g c = row_as c.join-in-BisRR.result (g.P.Processor.machine c.join-in-BisRR.new.p) (at_pc (g.P.Processor.machine c.args.p.now) c.args.pc) c.args.word (Bis Word (operand_of (c.args.word / 64)) (operand_of c.args.word)) (go (joined (at_pc (g.P.Processor.machine c.args.p.now) c.args.pc) Word (operand_of (c.args.word / 64)) (operand_of c.args.word) (combine_of SetBits Word (carry_in (g.P.Processor.machine c.args.p.now))))) (handled c.args.handler handler.BisRR c.args.word c.in-BisRR.is c.requires.handles).is refl c.join-in-BisRR.ensures.row

pub join-requires-in-BisIR-clause-source : goal.join-requires-in-BisIR-clause-source
join-requires-in-BisIR-clause-source g c = (handled c.args.handler handler.BisIR c.args.word c.in-BisIR.is c.requires.handles).source

pub join-requires-in-BisIR-clause-dest : goal.join-requires-in-BisIR-clause-dest
join-requires-in-BisIR-clause-dest g c = (handled c.args.handler handler.BisIR c.args.word c.in-BisIR.is c.requires.handles).dest

pub returns-in-BisIR-clause-row : goal.returns-in-BisIR-clause-row
unfolding row_of
returns-in-BisIR-clause-row g c = row_as c.join-in-BisIR.result (g.P.Processor.machine c.join-in-BisIR.new.p) (at_pc (g.P.Processor.machine c.args.p.now) c.args.pc) c.args.word (Bis Word (operand_of (c.args.word / 64)) (operand_of c.args.word)) (go (joined (at_pc (g.P.Processor.machine c.args.p.now) c.args.pc) Word (operand_of (c.args.word / 64)) (operand_of c.args.word) (combine_of SetBits Word (carry_in (g.P.Processor.machine c.args.p.now))))) (handled c.args.handler handler.BisIR c.args.word c.in-BisIR.is c.requires.handles).is refl c.join-in-BisIR.ensures.row

pub move_to-requires-in-MovbRR-clause-source : goal.move_to-requires-in-MovbRR-clause-source
move_to-requires-in-MovbRR-clause-source g c = (handled c.args.handler handler.MovbRR c.args.word c.in-MovbRR.is c.requires.handles).source

pub move_to-requires-in-MovbRR-clause-dest : goal.move_to-requires-in-MovbRR-clause-dest
move_to-requires-in-MovbRR-clause-dest g c = (handled c.args.handler handler.MovbRR c.args.word c.in-MovbRR.is c.requires.handles).dest

pub returns-in-MovbRR-clause-row : goal.returns-in-MovbRR-clause-row
unfolding row_of
returns-in-MovbRR-clause-row g c = row_as c.move_to-in-MovbRR.result (g.P.Processor.machine c.move_to-in-MovbRR.new.p) (at_pc (g.P.Processor.machine c.args.p.now) c.args.pc) c.args.word (Mov Byte (operand_of (c.args.word / 64)) (operand_of c.args.word)) (go (moved (at_pc (g.P.Processor.machine c.args.p.now) c.args.pc) Byte (operand_of (c.args.word / 64)) (operand_of c.args.word))) (handled c.args.handler handler.MovbRR c.args.word c.in-MovbRR.is c.requires.handles).is refl c.move_to-in-MovbRR.ensures.row

pub move_to-requires-in-MovbXR-clause-source : goal.move_to-requires-in-MovbXR-clause-source
move_to-requires-in-MovbXR-clause-source g c = (handled c.args.handler handler.MovbXR c.args.word c.in-MovbXR.is c.requires.handles).source

pub move_to-requires-in-MovbXR-clause-dest : goal.move_to-requires-in-MovbXR-clause-dest
move_to-requires-in-MovbXR-clause-dest g c = (handled c.args.handler handler.MovbXR c.args.word c.in-MovbXR.is c.requires.handles).dest

pub returns-in-MovbXR-clause-row : goal.returns-in-MovbXR-clause-row
unfolding row_of
returns-in-MovbXR-clause-row g c = row_as c.move_to-in-MovbXR.result (g.P.Processor.machine c.move_to-in-MovbXR.new.p) (at_pc (g.P.Processor.machine c.args.p.now) c.args.pc) c.args.word (Mov Byte (operand_of (c.args.word / 64)) (operand_of c.args.word)) (go (moved (at_pc (g.P.Processor.machine c.args.p.now) c.args.pc) Byte (operand_of (c.args.word / 64)) (operand_of c.args.word))) (handled c.args.handler handler.MovbXR c.args.word c.in-MovbXR.is c.requires.handles).is refl c.move_to-in-MovbXR.ensures.row

pub move_to-requires-in-MovbDR-clause-source : goal.move_to-requires-in-MovbDR-clause-source
move_to-requires-in-MovbDR-clause-source g c = (handled c.args.handler handler.MovbDR c.args.word c.in-MovbDR.is c.requires.handles).source

pub move_to-requires-in-MovbDR-clause-dest : goal.move_to-requires-in-MovbDR-clause-dest
move_to-requires-in-MovbDR-clause-dest g c = (handled c.args.handler handler.MovbDR c.args.word c.in-MovbDR.is c.requires.handles).dest

pub returns-in-MovbDR-clause-row : goal.returns-in-MovbDR-clause-row
unfolding row_of
returns-in-MovbDR-clause-row g c = row_as c.move_to-in-MovbDR.result (g.P.Processor.machine c.move_to-in-MovbDR.new.p) (at_pc (g.P.Processor.machine c.args.p.now) c.args.pc) c.args.word (Mov Byte (operand_of (c.args.word / 64)) (operand_of c.args.word)) (go (moved (at_pc (g.P.Processor.machine c.args.p.now) c.args.pc) Byte (operand_of (c.args.word / 64)) (operand_of c.args.word))) (handled c.args.handler handler.MovbDR c.args.word c.in-MovbDR.is c.requires.handles).is refl c.move_to-in-MovbDR.ensures.row

pub move_to-requires-in-MovbPR-clause-source : goal.move_to-requires-in-MovbPR-clause-source
move_to-requires-in-MovbPR-clause-source g c = (handled c.args.handler handler.MovbPR c.args.word c.in-MovbPR.is c.requires.handles).source

pub move_to-requires-in-MovbPR-clause-dest : goal.move_to-requires-in-MovbPR-clause-dest
move_to-requires-in-MovbPR-clause-dest g c = (handled c.args.handler handler.MovbPR c.args.word c.in-MovbPR.is c.requires.handles).dest

pub returns-in-MovbPR-clause-row : goal.returns-in-MovbPR-clause-row
unfolding row_of
returns-in-MovbPR-clause-row g c = row_as c.move_to-in-MovbPR.result (g.P.Processor.machine c.move_to-in-MovbPR.new.p) (at_pc (g.P.Processor.machine c.args.p.now) c.args.pc) c.args.word (Mov Byte (operand_of (c.args.word / 64)) (operand_of c.args.word)) (go (moved (at_pc (g.P.Processor.machine c.args.p.now) c.args.pc) Byte (operand_of (c.args.word / 64)) (operand_of c.args.word))) (handled c.args.handler handler.MovbPR c.args.word c.in-MovbPR.is c.requires.handles).is refl c.move_to-in-MovbPR.ensures.row

pub move_to-requires-in-MovbRX-clause-source : goal.move_to-requires-in-MovbRX-clause-source
move_to-requires-in-MovbRX-clause-source g c = (handled c.args.handler handler.MovbRX c.args.word c.in-MovbRX.is c.requires.handles).source

pub move_to-requires-in-MovbRX-clause-dest : goal.move_to-requires-in-MovbRX-clause-dest
move_to-requires-in-MovbRX-clause-dest g c = (handled c.args.handler handler.MovbRX c.args.word c.in-MovbRX.is c.requires.handles).dest

pub returns-in-MovbRX-clause-row : goal.returns-in-MovbRX-clause-row
unfolding row_of
returns-in-MovbRX-clause-row g c = row_as c.move_to-in-MovbRX.result (g.P.Processor.machine c.move_to-in-MovbRX.new.p) (at_pc (g.P.Processor.machine c.args.p.now) c.args.pc) c.args.word (Mov Byte (operand_of (c.args.word / 64)) (operand_of c.args.word)) (go (moved (at_pc (g.P.Processor.machine c.args.p.now) c.args.pc) Byte (operand_of (c.args.word / 64)) (operand_of c.args.word))) (handled c.args.handler handler.MovbRX c.args.word c.in-MovbRX.is c.requires.handles).is refl c.move_to-in-MovbRX.ensures.row

pub move_to-requires-in-MovbRD-clause-source : goal.move_to-requires-in-MovbRD-clause-source
move_to-requires-in-MovbRD-clause-source g c = (handled c.args.handler handler.MovbRD c.args.word c.in-MovbRD.is c.requires.handles).source

pub move_to-requires-in-MovbRD-clause-dest : goal.move_to-requires-in-MovbRD-clause-dest
move_to-requires-in-MovbRD-clause-dest g c = (handled c.args.handler handler.MovbRD c.args.word c.in-MovbRD.is c.requires.handles).dest

pub returns-in-MovbRD-clause-row : goal.returns-in-MovbRD-clause-row
unfolding row_of
returns-in-MovbRD-clause-row g c = row_as c.move_to-in-MovbRD.result (g.P.Processor.machine c.move_to-in-MovbRD.new.p) (at_pc (g.P.Processor.machine c.args.p.now) c.args.pc) c.args.word (Mov Byte (operand_of (c.args.word / 64)) (operand_of c.args.word)) (go (moved (at_pc (g.P.Processor.machine c.args.p.now) c.args.pc) Byte (operand_of (c.args.word / 64)) (operand_of c.args.word))) (handled c.args.handler handler.MovbRD c.args.word c.in-MovbRD.is c.requires.handles).is refl c.move_to-in-MovbRD.ensures.row

pub move_to-requires-in-MovbRP-clause-source : goal.move_to-requires-in-MovbRP-clause-source
move_to-requires-in-MovbRP-clause-source g c = (handled c.args.handler handler.MovbRP c.args.word c.in-MovbRP.is c.requires.handles).source

pub move_to-requires-in-MovbRP-clause-dest : goal.move_to-requires-in-MovbRP-clause-dest
move_to-requires-in-MovbRP-clause-dest g c = (handled c.args.handler handler.MovbRP c.args.word c.in-MovbRP.is c.requires.handles).dest

pub returns-in-MovbRP-clause-row : goal.returns-in-MovbRP-clause-row
unfolding row_of
returns-in-MovbRP-clause-row g c = row_as c.move_to-in-MovbRP.result (g.P.Processor.machine c.move_to-in-MovbRP.new.p) (at_pc (g.P.Processor.machine c.args.p.now) c.args.pc) c.args.word (Mov Byte (operand_of (c.args.word / 64)) (operand_of c.args.word)) (go (moved (at_pc (g.P.Processor.machine c.args.p.now) c.args.pc) Byte (operand_of (c.args.word / 64)) (operand_of c.args.word))) (handled c.args.handler handler.MovbRP c.args.word c.in-MovbRP.is c.requires.handles).is refl c.move_to-in-MovbRP.ensures.row

pub compare-requires-in-CmpbIR-clause-source : goal.compare-requires-in-CmpbIR-clause-source
compare-requires-in-CmpbIR-clause-source g c = (handled c.args.handler handler.CmpbIR c.args.word c.in-CmpbIR.is c.requires.handles).source

pub compare-requires-in-CmpbIR-clause-dest : goal.compare-requires-in-CmpbIR-clause-dest
compare-requires-in-CmpbIR-clause-dest g c = (handled c.args.handler handler.CmpbIR c.args.word c.in-CmpbIR.is c.requires.handles).dest

pub returns-in-CmpbIR-clause-row : goal.returns-in-CmpbIR-clause-row
unfolding row_of
returns-in-CmpbIR-clause-row g c = row_as c.compare-in-CmpbIR.result (g.P.Processor.machine c.compare-in-CmpbIR.new.p) (at_pc (g.P.Processor.machine c.args.p.now) c.args.pc) c.args.word (Cmp Byte (operand_of (c.args.word / 64)) (operand_of c.args.word)) (go (compared (at_pc (g.P.Processor.machine c.args.p.now) c.args.pc) Byte (operand_of (c.args.word / 64)) (operand_of c.args.word) (combine_of Compare Byte (carry_in (g.P.Processor.machine c.args.p.now))))) (handled c.args.handler handler.CmpbIR c.args.word c.in-CmpbIR.is c.requires.handles).is refl c.compare-in-CmpbIR.ensures.row

pub clear-requires-clause-dest : goal.clear-requires-clause-dest
clear-requires-clause-dest g c = (handled c.args.handler handler.ClrR c.args.word c.in-ClrR.is c.requires.handles).dest

pub returns-in-ClrR-clause-row : goal.returns-in-ClrR-clause-row
unfolding row_of
returns-in-ClrR-clause-row g c = row_as c.clear.result (g.P.Processor.machine c.clear.new.p) (at_pc (g.P.Processor.machine c.args.p.now) c.args.pc) c.args.word (Clr Word (operand_of c.args.word)) (go (replaced (at_pc (g.P.Processor.machine c.args.p.now) c.args.pc) Word (operand_of c.args.word) (result_of Word 0 false false))) (handled c.args.handler handler.ClrR c.args.word c.in-ClrR.is c.requires.handles).is refl c.clear.ensures.row

pub clear-requires-in-ClrA-clause-dest : goal.clear-requires-in-ClrA-clause-dest
clear-requires-in-ClrA-clause-dest g c = (handled c.args.handler handler.ClrA c.args.word c.in-ClrA.is c.requires.handles).dest

pub returns-in-ClrA-clause-row : goal.returns-in-ClrA-clause-row
unfolding row_of
returns-in-ClrA-clause-row g c = row_as c.clear-in-ClrA.result (g.P.Processor.machine c.clear-in-ClrA.new.p) (at_pc (g.P.Processor.machine c.args.p.now) c.args.pc) c.args.word (Clr Word (operand_of c.args.word)) (go (replaced (at_pc (g.P.Processor.machine c.args.p.now) c.args.pc) Word (operand_of c.args.word) (result_of Word 0 false false))) (handled c.args.handler handler.ClrA c.args.word c.in-ClrA.is c.requires.handles).is refl c.clear-in-ClrA.ensures.row

pub clear-requires-in-ClrX-clause-dest : goal.clear-requires-in-ClrX-clause-dest
clear-requires-in-ClrX-clause-dest g c = (handled c.args.handler handler.ClrX c.args.word c.in-ClrX.is c.requires.handles).dest

pub returns-in-ClrX-clause-row : goal.returns-in-ClrX-clause-row
unfolding row_of
returns-in-ClrX-clause-row g c = row_as c.clear-in-ClrX.result (g.P.Processor.machine c.clear-in-ClrX.new.p) (at_pc (g.P.Processor.machine c.args.p.now) c.args.pc) c.args.word (Clr Word (operand_of c.args.word)) (go (replaced (at_pc (g.P.Processor.machine c.args.p.now) c.args.pc) Word (operand_of c.args.word) (result_of Word 0 false false))) (handled c.args.handler handler.ClrX c.args.word c.in-ClrX.is c.requires.handles).is refl c.clear-in-ClrX.ensures.row

pub clear-requires-in-ClrM-clause-dest : goal.clear-requires-in-ClrM-clause-dest
clear-requires-in-ClrM-clause-dest g c = (handled c.args.handler handler.ClrM c.args.word c.in-ClrM.is c.requires.handles).dest

pub returns-in-ClrM-clause-row : goal.returns-in-ClrM-clause-row
unfolding row_of
returns-in-ClrM-clause-row g c = row_as c.clear-in-ClrM.result (g.P.Processor.machine c.clear-in-ClrM.new.p) (at_pc (g.P.Processor.machine c.args.p.now) c.args.pc) c.args.word (Clr Word (operand_of c.args.word)) (go (replaced (at_pc (g.P.Processor.machine c.args.p.now) c.args.pc) Word (operand_of c.args.word) (result_of Word 0 false false))) (handled c.args.handler handler.ClrM c.args.word c.in-ClrM.is c.requires.handles).is refl c.clear-in-ClrM.ensures.row

pub modify-requires-clause-dest : goal.modify-requires-clause-dest
modify-requires-clause-dest g c = (handled c.args.handler handler.IncR c.args.word c.in-IncR.is c.requires.handles).dest

pub returns-in-IncR-clause-row : goal.returns-in-IncR-clause-row
unfolding row_of
returns-in-IncR-clause-row g c = row_as c.modify.result (g.P.Processor.machine c.modify.new.p) (at_pc (g.P.Processor.machine c.args.p.now) c.args.pc) c.args.word (Inc Word (operand_of c.args.word)) (go (modified (at_pc (g.P.Processor.machine c.args.p.now) c.args.pc) Word (operand_of c.args.word) (change_of Increase Word (carry_in (g.P.Processor.machine c.args.p.now))))) (handled c.args.handler handler.IncR c.args.word c.in-IncR.is c.requires.handles).is refl c.modify.ensures.row

pub modify-requires-in-IncA-clause-dest : goal.modify-requires-in-IncA-clause-dest
modify-requires-in-IncA-clause-dest g c = (handled c.args.handler handler.IncA c.args.word c.in-IncA.is c.requires.handles).dest

pub returns-in-IncA-clause-row : goal.returns-in-IncA-clause-row
unfolding row_of
returns-in-IncA-clause-row g c = row_as c.modify-in-IncA.result (g.P.Processor.machine c.modify-in-IncA.new.p) (at_pc (g.P.Processor.machine c.args.p.now) c.args.pc) c.args.word (Inc Word (operand_of c.args.word)) (go (modified (at_pc (g.P.Processor.machine c.args.p.now) c.args.pc) Word (operand_of c.args.word) (change_of Increase Word (carry_in (g.P.Processor.machine c.args.p.now))))) (handled c.args.handler handler.IncA c.args.word c.in-IncA.is c.requires.handles).is refl c.modify-in-IncA.ensures.row

pub modify-requires-in-IncX-clause-dest : goal.modify-requires-in-IncX-clause-dest
modify-requires-in-IncX-clause-dest g c = (handled c.args.handler handler.IncX c.args.word c.in-IncX.is c.requires.handles).dest

pub returns-in-IncX-clause-row : goal.returns-in-IncX-clause-row
unfolding row_of
returns-in-IncX-clause-row g c = row_as c.modify-in-IncX.result (g.P.Processor.machine c.modify-in-IncX.new.p) (at_pc (g.P.Processor.machine c.args.p.now) c.args.pc) c.args.word (Inc Word (operand_of c.args.word)) (go (modified (at_pc (g.P.Processor.machine c.args.p.now) c.args.pc) Word (operand_of c.args.word) (change_of Increase Word (carry_in (g.P.Processor.machine c.args.p.now))))) (handled c.args.handler handler.IncX c.args.word c.in-IncX.is c.requires.handles).is refl c.modify-in-IncX.ensures.row

pub modify-requires-in-DecR-clause-dest : goal.modify-requires-in-DecR-clause-dest
modify-requires-in-DecR-clause-dest g c = (handled c.args.handler handler.DecR c.args.word c.in-DecR.is c.requires.handles).dest

pub returns-in-DecR-clause-row : goal.returns-in-DecR-clause-row
unfolding row_of
returns-in-DecR-clause-row g c = row_as c.modify-in-DecR.result (g.P.Processor.machine c.modify-in-DecR.new.p) (at_pc (g.P.Processor.machine c.args.p.now) c.args.pc) c.args.word (Dec Word (operand_of c.args.word)) (go (modified (at_pc (g.P.Processor.machine c.args.p.now) c.args.pc) Word (operand_of c.args.word) (change_of Decrease Word (carry_in (g.P.Processor.machine c.args.p.now))))) (handled c.args.handler handler.DecR c.args.word c.in-DecR.is c.requires.handles).is refl c.modify-in-DecR.ensures.row

pub modify-requires-in-DecA-clause-dest : goal.modify-requires-in-DecA-clause-dest
modify-requires-in-DecA-clause-dest g c = (handled c.args.handler handler.DecA c.args.word c.in-DecA.is c.requires.handles).dest

pub returns-in-DecA-clause-row : goal.returns-in-DecA-clause-row
unfolding row_of
returns-in-DecA-clause-row g c = row_as c.modify-in-DecA.result (g.P.Processor.machine c.modify-in-DecA.new.p) (at_pc (g.P.Processor.machine c.args.p.now) c.args.pc) c.args.word (Dec Word (operand_of c.args.word)) (go (modified (at_pc (g.P.Processor.machine c.args.p.now) c.args.pc) Word (operand_of c.args.word) (change_of Decrease Word (carry_in (g.P.Processor.machine c.args.p.now))))) (handled c.args.handler handler.DecA c.args.word c.in-DecA.is c.requires.handles).is refl c.modify-in-DecA.ensures.row

pub modify-requires-in-DecX-clause-dest : goal.modify-requires-in-DecX-clause-dest
modify-requires-in-DecX-clause-dest g c = (handled c.args.handler handler.DecX c.args.word c.in-DecX.is c.requires.handles).dest

pub returns-in-DecX-clause-row : goal.returns-in-DecX-clause-row
unfolding row_of
returns-in-DecX-clause-row g c = row_as c.modify-in-DecX.result (g.P.Processor.machine c.modify-in-DecX.new.p) (at_pc (g.P.Processor.machine c.args.p.now) c.args.pc) c.args.word (Dec Word (operand_of c.args.word)) (go (modified (at_pc (g.P.Processor.machine c.args.p.now) c.args.pc) Word (operand_of c.args.word) (change_of Decrease Word (carry_in (g.P.Processor.machine c.args.p.now))))) (handled c.args.handler handler.DecX c.args.word c.in-DecX.is c.requires.handles).is refl c.modify-in-DecX.ensures.row

pub test-requires-clause-dest : goal.test-requires-clause-dest
test-requires-clause-dest g c = (handled c.args.handler handler.TstR c.args.word c.in-TstR.is c.requires.handles).dest

pub returns-in-TstR-clause-row : goal.returns-in-TstR-clause-row
unfolding row_of
returns-in-TstR-clause-row g c = row_as c.test.result (g.P.Processor.machine c.test.new.p) (at_pc (g.P.Processor.machine c.args.p.now) c.args.pc) c.args.word (Tst Word (operand_of c.args.word)) (go (tested (at_pc (g.P.Processor.machine c.args.p.now) c.args.pc) Word (operand_of c.args.word) (λ x. result_of Word x false false))) (handled c.args.handler handler.TstR c.args.word c.in-TstR.is c.requires.handles).is refl c.test.ensures.row

pub test-requires-in-TstA-clause-dest : goal.test-requires-in-TstA-clause-dest
test-requires-in-TstA-clause-dest g c = (handled c.args.handler handler.TstA c.args.word c.in-TstA.is c.requires.handles).dest

pub returns-in-TstA-clause-row : goal.returns-in-TstA-clause-row
unfolding row_of
returns-in-TstA-clause-row g c = row_as c.test-in-TstA.result (g.P.Processor.machine c.test-in-TstA.new.p) (at_pc (g.P.Processor.machine c.args.p.now) c.args.pc) c.args.word (Tst Word (operand_of c.args.word)) (go (tested (at_pc (g.P.Processor.machine c.args.p.now) c.args.pc) Word (operand_of c.args.word) (λ x. result_of Word x false false))) (handled c.args.handler handler.TstA c.args.word c.in-TstA.is c.requires.handles).is refl c.test-in-TstA.ensures.row

pub test-requires-in-TstX-clause-dest : goal.test-requires-in-TstX-clause-dest
test-requires-in-TstX-clause-dest g c = (handled c.args.handler handler.TstX c.args.word c.in-TstX.is c.requires.handles).dest

pub returns-in-TstX-clause-row : goal.returns-in-TstX-clause-row
unfolding row_of
returns-in-TstX-clause-row g c = row_as c.test-in-TstX.result (g.P.Processor.machine c.test-in-TstX.new.p) (at_pc (g.P.Processor.machine c.args.p.now) c.args.pc) c.args.word (Tst Word (operand_of c.args.word)) (go (tested (at_pc (g.P.Processor.machine c.args.p.now) c.args.pc) Word (operand_of c.args.word) (λ x. result_of Word x false false))) (handled c.args.handler handler.TstX c.args.word c.in-TstX.is c.requires.handles).is refl c.test-in-TstX.ensures.row

pub test-requires-in-TstP-clause-dest : goal.test-requires-in-TstP-clause-dest
test-requires-in-TstP-clause-dest g c = (handled c.args.handler handler.TstP c.args.word c.in-TstP.is c.requires.handles).dest

pub returns-in-TstP-clause-row : goal.returns-in-TstP-clause-row
unfolding row_of
returns-in-TstP-clause-row g c = row_as c.test-in-TstP.result (g.P.Processor.machine c.test-in-TstP.new.p) (at_pc (g.P.Processor.machine c.args.p.now) c.args.pc) c.args.word (Tst Word (operand_of c.args.word)) (go (tested (at_pc (g.P.Processor.machine c.args.p.now) c.args.pc) Word (operand_of c.args.word) (λ x. result_of Word x false false))) (handled c.args.handler handler.TstP c.args.word c.in-TstP.is c.requires.handles).is refl c.test-in-TstP.ensures.row

pub test-requires-in-TstL-clause-dest : goal.test-requires-in-TstL-clause-dest
test-requires-in-TstL-clause-dest g c = (handled c.args.handler handler.TstL c.args.word c.in-TstL.is c.requires.handles).dest

pub returns-in-TstL-clause-row : goal.returns-in-TstL-clause-row
unfolding row_of
returns-in-TstL-clause-row g c = row_as c.test-in-TstL.result (g.P.Processor.machine c.test-in-TstL.new.p) (at_pc (g.P.Processor.machine c.args.p.now) c.args.pc) c.args.word (Tst Word (operand_of c.args.word)) (go (tested (at_pc (g.P.Processor.machine c.args.p.now) c.args.pc) Word (operand_of c.args.word) (λ x. result_of Word x false false))) (handled c.args.handler handler.TstL c.args.word c.in-TstL.is c.requires.handles).is refl c.test-in-TstL.ensures.row

pub modify-requires-in-ComR-clause-dest : goal.modify-requires-in-ComR-clause-dest
modify-requires-in-ComR-clause-dest g c = (handled c.args.handler handler.ComR c.args.word c.in-ComR.is c.requires.handles).dest

pub returns-in-ComR-clause-row : goal.returns-in-ComR-clause-row
unfolding row_of
returns-in-ComR-clause-row g c = row_as c.modify-in-ComR.result (g.P.Processor.machine c.modify-in-ComR.new.p) (at_pc (g.P.Processor.machine c.args.p.now) c.args.pc) c.args.word (Com Word (operand_of c.args.word)) (go (modified (at_pc (g.P.Processor.machine c.args.p.now) c.args.pc) Word (operand_of c.args.word) (change_of Complement Word (carry_in (g.P.Processor.machine c.args.p.now))))) (handled c.args.handler handler.ComR c.args.word c.in-ComR.is c.requires.handles).is refl c.modify-in-ComR.ensures.row

pub modify-requires-in-NegR-clause-dest : goal.modify-requires-in-NegR-clause-dest
modify-requires-in-NegR-clause-dest g c = (handled c.args.handler handler.NegR c.args.word c.in-NegR.is c.requires.handles).dest

pub returns-in-NegR-clause-row : goal.returns-in-NegR-clause-row
unfolding row_of
returns-in-NegR-clause-row g c = row_as c.modify-in-NegR.result (g.P.Processor.machine c.modify-in-NegR.new.p) (at_pc (g.P.Processor.machine c.args.p.now) c.args.pc) c.args.word (Neg Word (operand_of c.args.word)) (go (modified (at_pc (g.P.Processor.machine c.args.p.now) c.args.pc) Word (operand_of c.args.word) (change_of Negate Word (carry_in (g.P.Processor.machine c.args.p.now))))) (handled c.args.handler handler.NegR c.args.word c.in-NegR.is c.requires.handles).is refl c.modify-in-NegR.ensures.row

pub modify-requires-in-AdcR-clause-dest : goal.modify-requires-in-AdcR-clause-dest
modify-requires-in-AdcR-clause-dest g c = (handled c.args.handler handler.AdcR c.args.word c.in-AdcR.is c.requires.handles).dest

pub returns-in-AdcR-clause-row : goal.returns-in-AdcR-clause-row
unfolding row_of
returns-in-AdcR-clause-row g c = row_as c.modify-in-AdcR.result (g.P.Processor.machine c.modify-in-AdcR.new.p) (at_pc (g.P.Processor.machine c.args.p.now) c.args.pc) c.args.word (Adc Word (operand_of c.args.word)) (go (modified (at_pc (g.P.Processor.machine c.args.p.now) c.args.pc) Word (operand_of c.args.word) (change_of AddCarry Word (carry_in (g.P.Processor.machine c.args.p.now))))) (handled c.args.handler handler.AdcR c.args.word c.in-AdcR.is c.requires.handles).is refl c.modify-in-AdcR.ensures.row

pub modify-requires-in-SbcR-clause-dest : goal.modify-requires-in-SbcR-clause-dest
modify-requires-in-SbcR-clause-dest g c = (handled c.args.handler handler.SbcR c.args.word c.in-SbcR.is c.requires.handles).dest

pub returns-in-SbcR-clause-row : goal.returns-in-SbcR-clause-row
unfolding row_of
returns-in-SbcR-clause-row g c = row_as c.modify-in-SbcR.result (g.P.Processor.machine c.modify-in-SbcR.new.p) (at_pc (g.P.Processor.machine c.args.p.now) c.args.pc) c.args.word (Sbc Word (operand_of c.args.word)) (go (modified (at_pc (g.P.Processor.machine c.args.p.now) c.args.pc) Word (operand_of c.args.word) (change_of SubtractCarry Word (carry_in (g.P.Processor.machine c.args.p.now))))) (handled c.args.handler handler.SbcR c.args.word c.in-SbcR.is c.requires.handles).is refl c.modify-in-SbcR.ensures.row

pub modify-requires-in-RorR-clause-dest : goal.modify-requires-in-RorR-clause-dest
modify-requires-in-RorR-clause-dest g c = (handled c.args.handler handler.RorR c.args.word c.in-RorR.is c.requires.handles).dest

pub returns-in-RorR-clause-row : goal.returns-in-RorR-clause-row
unfolding row_of
returns-in-RorR-clause-row g c = row_as c.modify-in-RorR.result (g.P.Processor.machine c.modify-in-RorR.new.p) (at_pc (g.P.Processor.machine c.args.p.now) c.args.pc) c.args.word (Ror Word (operand_of c.args.word)) (go (modified (at_pc (g.P.Processor.machine c.args.p.now) c.args.pc) Word (operand_of c.args.word) (change_of RotateRight Word (carry_in (g.P.Processor.machine c.args.p.now))))) (handled c.args.handler handler.RorR c.args.word c.in-RorR.is c.requires.handles).is refl c.modify-in-RorR.ensures.row

pub modify-requires-in-RolR-clause-dest : goal.modify-requires-in-RolR-clause-dest
modify-requires-in-RolR-clause-dest g c = (handled c.args.handler handler.RolR c.args.word c.in-RolR.is c.requires.handles).dest

pub returns-in-RolR-clause-row : goal.returns-in-RolR-clause-row
unfolding row_of
returns-in-RolR-clause-row g c = row_as c.modify-in-RolR.result (g.P.Processor.machine c.modify-in-RolR.new.p) (at_pc (g.P.Processor.machine c.args.p.now) c.args.pc) c.args.word (Rol Word (operand_of c.args.word)) (go (modified (at_pc (g.P.Processor.machine c.args.p.now) c.args.pc) Word (operand_of c.args.word) (change_of RotateLeft Word (carry_in (g.P.Processor.machine c.args.p.now))))) (handled c.args.handler handler.RolR c.args.word c.in-RolR.is c.requires.handles).is refl c.modify-in-RolR.ensures.row

pub modify-requires-in-AsrR-clause-dest : goal.modify-requires-in-AsrR-clause-dest
modify-requires-in-AsrR-clause-dest g c = (handled c.args.handler handler.AsrR c.args.word c.in-AsrR.is c.requires.handles).dest

pub returns-in-AsrR-clause-row : goal.returns-in-AsrR-clause-row
unfolding row_of
returns-in-AsrR-clause-row g c = row_as c.modify-in-AsrR.result (g.P.Processor.machine c.modify-in-AsrR.new.p) (at_pc (g.P.Processor.machine c.args.p.now) c.args.pc) c.args.word (Asr Word (operand_of c.args.word)) (go (modified (at_pc (g.P.Processor.machine c.args.p.now) c.args.pc) Word (operand_of c.args.word) (change_of ShiftRight Word (carry_in (g.P.Processor.machine c.args.p.now))))) (handled c.args.handler handler.AsrR c.args.word c.in-AsrR.is c.requires.handles).is refl c.modify-in-AsrR.ensures.row

pub modify-requires-in-AslR-clause-dest : goal.modify-requires-in-AslR-clause-dest
modify-requires-in-AslR-clause-dest g c = (handled c.args.handler handler.AslR c.args.word c.in-AslR.is c.requires.handles).dest

pub returns-in-AslR-clause-row : goal.returns-in-AslR-clause-row
unfolding row_of
returns-in-AslR-clause-row g c = row_as c.modify-in-AslR.result (g.P.Processor.machine c.modify-in-AslR.new.p) (at_pc (g.P.Processor.machine c.args.p.now) c.args.pc) c.args.word (Asl Word (operand_of c.args.word)) (go (modified (at_pc (g.P.Processor.machine c.args.p.now) c.args.pc) Word (operand_of c.args.word) (change_of ShiftLeft Word (carry_in (g.P.Processor.machine c.args.p.now))))) (handled c.args.handler handler.AslR c.args.word c.in-AslR.is c.requires.handles).is refl c.modify-in-AslR.ensures.row

pub returns-in-Always-clause-row : goal.returns-in-Always-clause-row
unfolding row_of
returns-in-Always-clause-row g c = row_as c.branch_if.result (g.P.Processor.machine c.branch_if.new.p) (at_pc (g.P.Processor.machine c.args.p.now) c.args.pc) c.args.word (Branch condition.Always (c.args.word % 256)) (on_registers (at_pc (g.P.Processor.machine c.args.p.now) c.args.pc) (branched (at_pc (g.P.Processor.machine c.args.p.now) c.args.pc).r (is_taken condition.Always (codes_in (g.P.Processor.machine c.args.p.now).cc)) (c.args.word % 256))) (handled c.args.handler handler.Always c.args.word c.in-Always.is c.requires.handles) refl c.branch_if.ensures.row

pub returns-in-NotEqual-clause-row : goal.returns-in-NotEqual-clause-row
unfolding row_of
returns-in-NotEqual-clause-row g c = row_as c.branch_if-in-NotEqual.result (g.P.Processor.machine c.branch_if-in-NotEqual.new.p) (at_pc (g.P.Processor.machine c.args.p.now) c.args.pc) c.args.word (Branch condition.NotEqual (c.args.word % 256)) (on_registers (at_pc (g.P.Processor.machine c.args.p.now) c.args.pc) (branched (at_pc (g.P.Processor.machine c.args.p.now) c.args.pc).r (is_taken condition.NotEqual (codes_in (g.P.Processor.machine c.args.p.now).cc)) (c.args.word % 256))) (handled c.args.handler handler.NotEqual c.args.word c.in-NotEqual.is c.requires.handles) refl c.branch_if-in-NotEqual.ensures.row

pub returns-in-Equal-clause-row : goal.returns-in-Equal-clause-row
unfolding row_of
returns-in-Equal-clause-row g c = row_as c.branch_if-in-Equal.result (g.P.Processor.machine c.branch_if-in-Equal.new.p) (at_pc (g.P.Processor.machine c.args.p.now) c.args.pc) c.args.word (Branch condition.Equal (c.args.word % 256)) (on_registers (at_pc (g.P.Processor.machine c.args.p.now) c.args.pc) (branched (at_pc (g.P.Processor.machine c.args.p.now) c.args.pc).r (is_taken condition.Equal (codes_in (g.P.Processor.machine c.args.p.now).cc)) (c.args.word % 256))) (handled c.args.handler handler.Equal c.args.word c.in-Equal.is c.requires.handles) refl c.branch_if-in-Equal.ensures.row

pub returns-in-GreaterOrEqual-clause-row : goal.returns-in-GreaterOrEqual-clause-row
unfolding row_of
returns-in-GreaterOrEqual-clause-row g c = row_as c.branch_if-in-GreaterOrEqual.result (g.P.Processor.machine c.branch_if-in-GreaterOrEqual.new.p) (at_pc (g.P.Processor.machine c.args.p.now) c.args.pc) c.args.word (Branch condition.GreaterOrEqual (c.args.word % 256)) (on_registers (at_pc (g.P.Processor.machine c.args.p.now) c.args.pc) (branched (at_pc (g.P.Processor.machine c.args.p.now) c.args.pc).r (is_taken condition.GreaterOrEqual (codes_in (g.P.Processor.machine c.args.p.now).cc)) (c.args.word % 256))) (handled c.args.handler handler.GreaterOrEqual c.args.word c.in-GreaterOrEqual.is c.requires.handles) refl c.branch_if-in-GreaterOrEqual.ensures.row

pub returns-in-Less-clause-row : goal.returns-in-Less-clause-row
unfolding row_of
returns-in-Less-clause-row g c = row_as c.branch_if-in-Less.result (g.P.Processor.machine c.branch_if-in-Less.new.p) (at_pc (g.P.Processor.machine c.args.p.now) c.args.pc) c.args.word (Branch condition.Less (c.args.word % 256)) (on_registers (at_pc (g.P.Processor.machine c.args.p.now) c.args.pc) (branched (at_pc (g.P.Processor.machine c.args.p.now) c.args.pc).r (is_taken condition.Less (codes_in (g.P.Processor.machine c.args.p.now).cc)) (c.args.word % 256))) (handled c.args.handler handler.Less c.args.word c.in-Less.is c.requires.handles) refl c.branch_if-in-Less.ensures.row

pub returns-in-Greater-clause-row : goal.returns-in-Greater-clause-row
unfolding row_of
returns-in-Greater-clause-row g c = row_as c.branch_if-in-Greater.result (g.P.Processor.machine c.branch_if-in-Greater.new.p) (at_pc (g.P.Processor.machine c.args.p.now) c.args.pc) c.args.word (Branch condition.Greater (c.args.word % 256)) (on_registers (at_pc (g.P.Processor.machine c.args.p.now) c.args.pc) (branched (at_pc (g.P.Processor.machine c.args.p.now) c.args.pc).r (is_taken condition.Greater (codes_in (g.P.Processor.machine c.args.p.now).cc)) (c.args.word % 256))) (handled c.args.handler handler.Greater c.args.word c.in-Greater.is c.requires.handles) refl c.branch_if-in-Greater.ensures.row

pub returns-in-LessOrEqual-clause-row : goal.returns-in-LessOrEqual-clause-row
unfolding row_of
returns-in-LessOrEqual-clause-row g c = row_as c.branch_if-in-LessOrEqual.result (g.P.Processor.machine c.branch_if-in-LessOrEqual.new.p) (at_pc (g.P.Processor.machine c.args.p.now) c.args.pc) c.args.word (Branch condition.LessOrEqual (c.args.word % 256)) (on_registers (at_pc (g.P.Processor.machine c.args.p.now) c.args.pc) (branched (at_pc (g.P.Processor.machine c.args.p.now) c.args.pc).r (is_taken condition.LessOrEqual (codes_in (g.P.Processor.machine c.args.p.now).cc)) (c.args.word % 256))) (handled c.args.handler handler.LessOrEqual c.args.word c.in-LessOrEqual.is c.requires.handles) refl c.branch_if-in-LessOrEqual.ensures.row

pub returns-in-Plus-clause-row : goal.returns-in-Plus-clause-row
unfolding row_of
returns-in-Plus-clause-row g c = row_as c.branch_if-in-Plus.result (g.P.Processor.machine c.branch_if-in-Plus.new.p) (at_pc (g.P.Processor.machine c.args.p.now) c.args.pc) c.args.word (Branch condition.Plus (c.args.word % 256)) (on_registers (at_pc (g.P.Processor.machine c.args.p.now) c.args.pc) (branched (at_pc (g.P.Processor.machine c.args.p.now) c.args.pc).r (is_taken condition.Plus (codes_in (g.P.Processor.machine c.args.p.now).cc)) (c.args.word % 256))) (handled c.args.handler handler.Plus c.args.word c.in-Plus.is c.requires.handles) refl c.branch_if-in-Plus.ensures.row

pub returns-in-Minus-clause-row : goal.returns-in-Minus-clause-row
unfolding row_of
returns-in-Minus-clause-row g c = row_as c.branch_if-in-Minus.result (g.P.Processor.machine c.branch_if-in-Minus.new.p) (at_pc (g.P.Processor.machine c.args.p.now) c.args.pc) c.args.word (Branch condition.Minus (c.args.word % 256)) (on_registers (at_pc (g.P.Processor.machine c.args.p.now) c.args.pc) (branched (at_pc (g.P.Processor.machine c.args.p.now) c.args.pc).r (is_taken condition.Minus (codes_in (g.P.Processor.machine c.args.p.now).cc)) (c.args.word % 256))) (handled c.args.handler handler.Minus c.args.word c.in-Minus.is c.requires.handles) refl c.branch_if-in-Minus.ensures.row

pub returns-in-Higher-clause-row : goal.returns-in-Higher-clause-row
unfolding row_of
returns-in-Higher-clause-row g c = row_as c.branch_if-in-Higher.result (g.P.Processor.machine c.branch_if-in-Higher.new.p) (at_pc (g.P.Processor.machine c.args.p.now) c.args.pc) c.args.word (Branch condition.Higher (c.args.word % 256)) (on_registers (at_pc (g.P.Processor.machine c.args.p.now) c.args.pc) (branched (at_pc (g.P.Processor.machine c.args.p.now) c.args.pc).r (is_taken condition.Higher (codes_in (g.P.Processor.machine c.args.p.now).cc)) (c.args.word % 256))) (handled c.args.handler handler.Higher c.args.word c.in-Higher.is c.requires.handles) refl c.branch_if-in-Higher.ensures.row

pub returns-in-LowerOrSame-clause-row : goal.returns-in-LowerOrSame-clause-row
unfolding row_of
returns-in-LowerOrSame-clause-row g c = row_as c.branch_if-in-LowerOrSame.result (g.P.Processor.machine c.branch_if-in-LowerOrSame.new.p) (at_pc (g.P.Processor.machine c.args.p.now) c.args.pc) c.args.word (Branch condition.LowerOrSame (c.args.word % 256)) (on_registers (at_pc (g.P.Processor.machine c.args.p.now) c.args.pc) (branched (at_pc (g.P.Processor.machine c.args.p.now) c.args.pc).r (is_taken condition.LowerOrSame (codes_in (g.P.Processor.machine c.args.p.now).cc)) (c.args.word % 256))) (handled c.args.handler handler.LowerOrSame c.args.word c.in-LowerOrSame.is c.requires.handles) refl c.branch_if-in-LowerOrSame.ensures.row

pub returns-in-OverflowClear-clause-row : goal.returns-in-OverflowClear-clause-row
unfolding row_of
returns-in-OverflowClear-clause-row g c = row_as c.branch_if-in-OverflowClear.result (g.P.Processor.machine c.branch_if-in-OverflowClear.new.p) (at_pc (g.P.Processor.machine c.args.p.now) c.args.pc) c.args.word (Branch condition.OverflowClear (c.args.word % 256)) (on_registers (at_pc (g.P.Processor.machine c.args.p.now) c.args.pc) (branched (at_pc (g.P.Processor.machine c.args.p.now) c.args.pc).r (is_taken condition.OverflowClear (codes_in (g.P.Processor.machine c.args.p.now).cc)) (c.args.word % 256))) (handled c.args.handler handler.OverflowClear c.args.word c.in-OverflowClear.is c.requires.handles) refl c.branch_if-in-OverflowClear.ensures.row

pub returns-in-OverflowSet-clause-row : goal.returns-in-OverflowSet-clause-row
unfolding row_of
returns-in-OverflowSet-clause-row g c = row_as c.branch_if-in-OverflowSet.result (g.P.Processor.machine c.branch_if-in-OverflowSet.new.p) (at_pc (g.P.Processor.machine c.args.p.now) c.args.pc) c.args.word (Branch condition.OverflowSet (c.args.word % 256)) (on_registers (at_pc (g.P.Processor.machine c.args.p.now) c.args.pc) (branched (at_pc (g.P.Processor.machine c.args.p.now) c.args.pc).r (is_taken condition.OverflowSet (codes_in (g.P.Processor.machine c.args.p.now).cc)) (c.args.word % 256))) (handled c.args.handler handler.OverflowSet c.args.word c.in-OverflowSet.is c.requires.handles) refl c.branch_if-in-OverflowSet.ensures.row

pub returns-in-CarryClear-clause-row : goal.returns-in-CarryClear-clause-row
unfolding row_of
returns-in-CarryClear-clause-row g c = row_as c.branch_if-in-CarryClear.result (g.P.Processor.machine c.branch_if-in-CarryClear.new.p) (at_pc (g.P.Processor.machine c.args.p.now) c.args.pc) c.args.word (Branch condition.CarryClear (c.args.word % 256)) (on_registers (at_pc (g.P.Processor.machine c.args.p.now) c.args.pc) (branched (at_pc (g.P.Processor.machine c.args.p.now) c.args.pc).r (is_taken condition.CarryClear (codes_in (g.P.Processor.machine c.args.p.now).cc)) (c.args.word % 256))) (handled c.args.handler handler.CarryClear c.args.word c.in-CarryClear.is c.requires.handles) refl c.branch_if-in-CarryClear.ensures.row

pub returns-in-CarrySet-clause-row : goal.returns-in-CarrySet-clause-row
unfolding row_of
returns-in-CarrySet-clause-row g c = row_as c.branch_if-in-CarrySet.result (g.P.Processor.machine c.branch_if-in-CarrySet.new.p) (at_pc (g.P.Processor.machine c.args.p.now) c.args.pc) c.args.word (Branch condition.CarrySet (c.args.word % 256)) (on_registers (at_pc (g.P.Processor.machine c.args.p.now) c.args.pc) (branched (at_pc (g.P.Processor.machine c.args.p.now) c.args.pc).r (is_taken condition.CarrySet (codes_in (g.P.Processor.machine c.args.p.now).cc)) (c.args.word % 256))) (handled c.args.handler handler.CarrySet c.args.word c.in-CarrySet.is c.requires.handles) refl c.branch_if-in-CarrySet.ensures.row

pub returns-in-Sob-clause-row : goal.returns-in-Sob-clause-row
unfolding row_of
returns-in-Sob-clause-row g c = row_as c.count.result (g.P.Processor.machine c.count.new.p) (at_pc (g.P.Processor.machine c.args.p.now) c.args.pc) c.args.word (Sob (reg_of (c.args.word / 64 % 8)) (c.args.word % 64)) (on_registers (at_pc (g.P.Processor.machine c.args.p.now) c.args.pc) (counted (at_pc (g.P.Processor.machine c.args.p.now) c.args.pc).r (reg_of (c.args.word / 64 % 8)) (c.args.word % 64))) (handled c.args.handler handler.Sob c.args.word c.in-Sob.is c.requires.handles) refl c.count.ensures.row

pub jump-requires-clause-dest : goal.jump-requires-clause-dest
jump-requires-clause-dest g c = (handled c.args.handler handler.JmpA c.args.word c.in-JmpA.is c.requires.handles).dest

pub jump-requires-clause-memory : goal.jump-requires-clause-memory
jump-requires-clause-memory g c = in_memory_absolute (operand_of c.args.word) (handled c.args.handler handler.JmpA c.args.word c.in-JmpA.is c.requires.handles).dest

pub returns-in-JmpA-clause-row : goal.returns-in-JmpA-clause-row
unfolding row_of
returns-in-JmpA-clause-row g c = row_as c.jump.result (g.P.Processor.machine c.jump.new.p) (at_pc (g.P.Processor.machine c.args.p.now) c.args.pc) c.args.word (Jmp (operand_of c.args.word)) (go (jumped (at_pc (g.P.Processor.machine c.args.p.now) c.args.pc) (operand_of c.args.word))) (handled c.args.handler handler.JmpA c.args.word c.in-JmpA.is c.requires.handles).is refl c.jump.ensures.row

pub jump-requires-in-JmpL-clause-dest : goal.jump-requires-in-JmpL-clause-dest
jump-requires-in-JmpL-clause-dest g c = (handled c.args.handler handler.JmpL c.args.word c.in-JmpL.is c.requires.handles).dest

pub jump-requires-in-JmpL-clause-memory : goal.jump-requires-in-JmpL-clause-memory
jump-requires-in-JmpL-clause-memory g c = in_memory_relative (operand_of c.args.word) (handled c.args.handler handler.JmpL c.args.word c.in-JmpL.is c.requires.handles).dest

pub returns-in-JmpL-clause-row : goal.returns-in-JmpL-clause-row
unfolding row_of
returns-in-JmpL-clause-row g c = row_as c.jump-in-JmpL.result (g.P.Processor.machine c.jump-in-JmpL.new.p) (at_pc (g.P.Processor.machine c.args.p.now) c.args.pc) c.args.word (Jmp (operand_of c.args.word)) (go (jumped (at_pc (g.P.Processor.machine c.args.p.now) c.args.pc) (operand_of c.args.word))) (handled c.args.handler handler.JmpL c.args.word c.in-JmpL.is c.requires.handles).is refl c.jump-in-JmpL.ensures.row

pub jump-requires-in-JmpD-clause-dest : goal.jump-requires-in-JmpD-clause-dest
jump-requires-in-JmpD-clause-dest g c = (handled c.args.handler handler.JmpD c.args.word c.in-JmpD.is c.requires.handles).dest

pub jump-requires-in-JmpD-clause-memory : goal.jump-requires-in-JmpD-clause-memory
jump-requires-in-JmpD-clause-memory g c = in_memory_deferred (operand_of c.args.word) (handled c.args.handler handler.JmpD c.args.word c.in-JmpD.is c.requires.handles).dest

pub returns-in-JmpD-clause-row : goal.returns-in-JmpD-clause-row
unfolding row_of
returns-in-JmpD-clause-row g c = row_as c.jump-in-JmpD.result (g.P.Processor.machine c.jump-in-JmpD.new.p) (at_pc (g.P.Processor.machine c.args.p.now) c.args.pc) c.args.word (Jmp (operand_of c.args.word)) (go (jumped (at_pc (g.P.Processor.machine c.args.p.now) c.args.pc) (operand_of c.args.word))) (handled c.args.handler handler.JmpD c.args.word c.in-JmpD.is c.requires.handles).is refl c.jump-in-JmpD.ensures.row

pub jump_to_subroutine-requires-clause-dest : goal.jump_to_subroutine-requires-clause-dest
jump_to_subroutine-requires-clause-dest g c = (handled c.args.handler handler.JsrA c.args.word c.in-JsrA.is c.requires.handles).operand

pub jump_to_subroutine-requires-clause-memory : goal.jump_to_subroutine-requires-clause-memory
jump_to_subroutine-requires-clause-memory g c = in_memory_absolute (operand_of c.args.word) (handled c.args.handler handler.JsrA c.args.word c.in-JsrA.is c.requires.handles).operand

pub returns-in-JsrA-clause-row : goal.returns-in-JsrA-clause-row
unfolding row_of
returns-in-JsrA-clause-row g c = row_as c.jump_to_subroutine.result (g.P.Processor.machine c.jump_to_subroutine.new.p) (at_pc (g.P.Processor.machine c.args.p.now) c.args.pc) c.args.word (Jsr (reg_of (c.args.word / 64 % 8)) (operand_of c.args.word)) (go (jumped_to_subroutine (at_pc (g.P.Processor.machine c.args.p.now) c.args.pc) (reg_of (c.args.word / 64 % 8)) (operand_of c.args.word))) (handled c.args.handler handler.JsrA c.args.word c.in-JsrA.is c.requires.handles).is refl c.jump_to_subroutine.ensures.row

pub jump_to_subroutine-requires-in-JsrL-clause-dest : goal.jump_to_subroutine-requires-in-JsrL-clause-dest
jump_to_subroutine-requires-in-JsrL-clause-dest g c = (handled c.args.handler handler.JsrL c.args.word c.in-JsrL.is c.requires.handles).operand

pub jump_to_subroutine-requires-in-JsrL-clause-memory : goal.jump_to_subroutine-requires-in-JsrL-clause-memory
jump_to_subroutine-requires-in-JsrL-clause-memory g c = in_memory_relative (operand_of c.args.word) (handled c.args.handler handler.JsrL c.args.word c.in-JsrL.is c.requires.handles).operand

pub returns-in-JsrL-clause-row : goal.returns-in-JsrL-clause-row
unfolding row_of
returns-in-JsrL-clause-row g c = row_as c.jump_to_subroutine-in-JsrL.result (g.P.Processor.machine c.jump_to_subroutine-in-JsrL.new.p) (at_pc (g.P.Processor.machine c.args.p.now) c.args.pc) c.args.word (Jsr (reg_of (c.args.word / 64 % 8)) (operand_of c.args.word)) (go (jumped_to_subroutine (at_pc (g.P.Processor.machine c.args.p.now) c.args.pc) (reg_of (c.args.word / 64 % 8)) (operand_of c.args.word))) (handled c.args.handler handler.JsrL c.args.word c.in-JsrL.is c.requires.handles).is refl c.jump_to_subroutine-in-JsrL.ensures.row

pub returns-in-Rts-clause-row : goal.returns-in-Rts-clause-row
unfolding row_of
returns-in-Rts-clause-row g c = row_as c.return_by.result (g.P.Processor.machine c.return_by.new.p) (at_pc (g.P.Processor.machine c.args.p.now) c.args.pc) c.args.word (Rts (reg_of (c.args.word % 8))) (go (returned (at_pc (g.P.Processor.machine c.args.p.now) c.args.pc) (reg_of (c.args.word % 8)))) (handled c.args.handler handler.Rts c.args.word c.in-Rts.is c.requires.handles) refl c.return_by.ensures.row

pub exclusive_or-requires-clause-source : goal.exclusive_or-requires-clause-source
exclusive_or-requires-clause-source g c = low_register (c.args.word / 64) (handled c.args.handler handler.XorRR c.args.word c.in-XorRR.is c.requires.handles).source

pub exclusive_or-requires-clause-dest : goal.exclusive_or-requires-clause-dest
exclusive_or-requires-clause-dest g c = (handled c.args.handler handler.XorRR c.args.word c.in-XorRR.is c.requires.handles).dest

pub returns-in-XorRR-clause-row : goal.returns-in-XorRR-clause-row
unfolding row_of
returns-in-XorRR-clause-row g c = row_as c.exclusive_or.result (g.P.Processor.machine c.exclusive_or.new.p) (at_pc (g.P.Processor.machine c.args.p.now) c.args.pc) c.args.word (Xor (reg_of (c.args.word / 64 % 8)) (operand_of c.args.word)) (go (modified (at_pc (g.P.Processor.machine c.args.p.now) c.args.pc) Word (operand_of c.args.word) (combine_of ExclusiveOr Word (carry_in (g.P.Processor.machine c.args.p.now)) (reg_in (at_pc (g.P.Processor.machine c.args.p.now) c.args.pc) (reg_of (c.args.word / 64 % 8)))))) (handled c.args.handler handler.XorRR c.args.word c.in-XorRR.is c.requires.handles).is refl c.exclusive_or.ensures.row

pub exchange-requires-clause-dest : goal.exchange-requires-clause-dest
exchange-requires-clause-dest g c = (handled c.args.handler handler.SwabR c.args.word c.in-SwabR.is c.requires.handles).dest

pub returns-in-SwabR-clause-row : goal.returns-in-SwabR-clause-row
unfolding row_of
returns-in-SwabR-clause-row g c = row_as c.exchange.result (g.P.Processor.machine c.exchange.new.p) (at_pc (g.P.Processor.machine c.args.p.now) c.args.pc) c.args.word (Swab (operand_of c.args.word)) (go (modified (at_pc (g.P.Processor.machine c.args.p.now) c.args.pc) Word (operand_of c.args.word) swapped)) (handled c.args.handler handler.SwabR c.args.word c.in-SwabR.is c.requires.handles).is refl c.exchange.ensures.row
