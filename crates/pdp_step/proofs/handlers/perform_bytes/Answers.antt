-- A handler says what its word is.
use Rattle.std.proofs.Common.{◌/◌, false, refl}
use Rattle.pdp_decode.specs.declared.instr.Width.TheVariants.{Byte}
use Rattle.pdp_decode.specs.declared.instr.Instr.TheVariants.{Mov, Cmp, Bit, Bic, Bis, Clr, Com, Inc, Dec, Neg, Adc, Sbc, Tst, Ror, Rol, Asr, Asl}
use Rattle.pdp_decode.specs.declared.handler.Handler.TheVariants as handler
use Rattle.pdp_decode.specs.Decode.{operand_of}
use Rattle.pdp_step.specs.Machine.{carry_in}
use Rattle.pdp_step.specs.Arithmetic.{Complement, Increase, Decrease, Negate, AddCarry, SubtractCarry, RotateRight, RotateLeft, ShiftRight, ShiftLeft, Compare, TestBits, ClearBits, SetBits, result_of, change_of, combine_of}
use Rattle.pdp_step.specs.Rows.{moved, compared, joined, modified, replaced, tested}
use Rattle.pdp_step.specs.Instruction.{go, row_of}
use Rattle.pdp_step.specs.Parts.{at_pc}
use Rattle.pdp_step.proofs.TableRows.{handled, row_as}
use Rattle.pdp_step.proofs.handlers.perform_bytes.Goals as goal

pub move_to-requires-clause-source : goal.move_to-requires-clause-source
move_to-requires-clause-source g c = (handled c.args.handler handler.MovbAR c.args.word c.in-MovbAR.is c.requires.handles).source

pub move_to-requires-clause-dest : goal.move_to-requires-clause-dest
move_to-requires-clause-dest g c = (handled c.args.handler handler.MovbAR c.args.word c.in-MovbAR.is c.requires.handles).dest

pub returns-in-MovbAR-clause-row : goal.returns-in-MovbAR-clause-row
unfolding row_of
returns-in-MovbAR-clause-row g c = row_as c.move_to.result (g.P.Processor.machine c.move_to.new.p) (at_pc (g.P.Processor.machine c.args.p.now) c.args.pc) c.args.word (Mov Byte (operand_of (c.args.word / 64)) (operand_of c.args.word)) (go (moved (at_pc (g.P.Processor.machine c.args.p.now) c.args.pc) Byte (operand_of (c.args.word / 64)) (operand_of c.args.word))) (handled c.args.handler handler.MovbAR c.args.word c.in-MovbAR.is c.requires.handles).is refl c.move_to.ensures.row

pub move_to-requires-in-MovbRA-clause-source : goal.move_to-requires-in-MovbRA-clause-source
move_to-requires-in-MovbRA-clause-source g c = (handled c.args.handler handler.MovbRA c.args.word c.in-MovbRA.is c.requires.handles).source

pub move_to-requires-in-MovbRA-clause-dest : goal.move_to-requires-in-MovbRA-clause-dest
move_to-requires-in-MovbRA-clause-dest g c = (handled c.args.handler handler.MovbRA c.args.word c.in-MovbRA.is c.requires.handles).dest

pub returns-in-MovbRA-clause-row : goal.returns-in-MovbRA-clause-row
unfolding row_of
returns-in-MovbRA-clause-row g c = row_as c.move_to-in-MovbRA.result (g.P.Processor.machine c.move_to-in-MovbRA.new.p) (at_pc (g.P.Processor.machine c.args.p.now) c.args.pc) c.args.word (Mov Byte (operand_of (c.args.word / 64)) (operand_of c.args.word)) (go (moved (at_pc (g.P.Processor.machine c.args.p.now) c.args.pc) Byte (operand_of (c.args.word / 64)) (operand_of c.args.word))) (handled c.args.handler handler.MovbRA c.args.word c.in-MovbRA.is c.requires.handles).is refl c.move_to-in-MovbRA.ensures.row

pub move_to-requires-in-MovbRM-clause-source : goal.move_to-requires-in-MovbRM-clause-source
move_to-requires-in-MovbRM-clause-source g c = (handled c.args.handler handler.MovbRM c.args.word c.in-MovbRM.is c.requires.handles).source

pub move_to-requires-in-MovbRM-clause-dest : goal.move_to-requires-in-MovbRM-clause-dest
move_to-requires-in-MovbRM-clause-dest g c = (handled c.args.handler handler.MovbRM c.args.word c.in-MovbRM.is c.requires.handles).dest

pub returns-in-MovbRM-clause-row : goal.returns-in-MovbRM-clause-row
unfolding row_of
returns-in-MovbRM-clause-row g c = row_as c.move_to-in-MovbRM.result (g.P.Processor.machine c.move_to-in-MovbRM.new.p) (at_pc (g.P.Processor.machine c.args.p.now) c.args.pc) c.args.word (Mov Byte (operand_of (c.args.word / 64)) (operand_of c.args.word)) (go (moved (at_pc (g.P.Processor.machine c.args.p.now) c.args.pc) Byte (operand_of (c.args.word / 64)) (operand_of c.args.word))) (handled c.args.handler handler.MovbRM c.args.word c.in-MovbRM.is c.requires.handles).is refl c.move_to-in-MovbRM.ensures.row

pub move_to-requires-in-MovbIX-clause-source : goal.move_to-requires-in-MovbIX-clause-source
move_to-requires-in-MovbIX-clause-source g c = (handled c.args.handler handler.MovbIX c.args.word c.in-MovbIX.is c.requires.handles).source

pub move_to-requires-in-MovbIX-clause-dest : goal.move_to-requires-in-MovbIX-clause-dest
move_to-requires-in-MovbIX-clause-dest g c = (handled c.args.handler handler.MovbIX c.args.word c.in-MovbIX.is c.requires.handles).dest

pub returns-in-MovbIX-clause-row : goal.returns-in-MovbIX-clause-row
unfolding row_of
returns-in-MovbIX-clause-row g c = row_as c.move_to-in-MovbIX.result (g.P.Processor.machine c.move_to-in-MovbIX.new.p) (at_pc (g.P.Processor.machine c.args.p.now) c.args.pc) c.args.word (Mov Byte (operand_of (c.args.word / 64)) (operand_of c.args.word)) (go (moved (at_pc (g.P.Processor.machine c.args.p.now) c.args.pc) Byte (operand_of (c.args.word / 64)) (operand_of c.args.word))) (handled c.args.handler handler.MovbIX c.args.word c.in-MovbIX.is c.requires.handles).is refl c.move_to-in-MovbIX.ensures.row

pub move_to-requires-in-MovbAA-clause-source : goal.move_to-requires-in-MovbAA-clause-source
move_to-requires-in-MovbAA-clause-source g c = (handled c.args.handler handler.MovbAA c.args.word c.in-MovbAA.is c.requires.handles).source

pub move_to-requires-in-MovbAA-clause-dest : goal.move_to-requires-in-MovbAA-clause-dest
move_to-requires-in-MovbAA-clause-dest g c = (handled c.args.handler handler.MovbAA c.args.word c.in-MovbAA.is c.requires.handles).dest

pub returns-in-MovbAA-clause-row : goal.returns-in-MovbAA-clause-row
unfolding row_of
returns-in-MovbAA-clause-row g c = row_as c.move_to-in-MovbAA.result (g.P.Processor.machine c.move_to-in-MovbAA.new.p) (at_pc (g.P.Processor.machine c.args.p.now) c.args.pc) c.args.word (Mov Byte (operand_of (c.args.word / 64)) (operand_of c.args.word)) (go (moved (at_pc (g.P.Processor.machine c.args.p.now) c.args.pc) Byte (operand_of (c.args.word / 64)) (operand_of c.args.word))) (handled c.args.handler handler.MovbAA c.args.word c.in-MovbAA.is c.requires.handles).is refl c.move_to-in-MovbAA.ensures.row

pub move_to-requires-in-MovbDD-clause-source : goal.move_to-requires-in-MovbDD-clause-source
move_to-requires-in-MovbDD-clause-source g c = (handled c.args.handler handler.MovbDD c.args.word c.in-MovbDD.is c.requires.handles).source

pub move_to-requires-in-MovbDD-clause-dest : goal.move_to-requires-in-MovbDD-clause-dest
move_to-requires-in-MovbDD-clause-dest g c = (handled c.args.handler handler.MovbDD c.args.word c.in-MovbDD.is c.requires.handles).dest

pub returns-in-MovbDD-clause-row : goal.returns-in-MovbDD-clause-row
unfolding row_of
returns-in-MovbDD-clause-row g c = row_as c.move_to-in-MovbDD.result (g.P.Processor.machine c.move_to-in-MovbDD.new.p) (at_pc (g.P.Processor.machine c.args.p.now) c.args.pc) c.args.word (Mov Byte (operand_of (c.args.word / 64)) (operand_of c.args.word)) (go (moved (at_pc (g.P.Processor.machine c.args.p.now) c.args.pc) Byte (operand_of (c.args.word / 64)) (operand_of c.args.word))) (handled c.args.handler handler.MovbDD c.args.word c.in-MovbDD.is c.requires.handles).is refl c.move_to-in-MovbDD.ensures.row

pub move_to-requires-in-MovbIA-clause-source : goal.move_to-requires-in-MovbIA-clause-source
move_to-requires-in-MovbIA-clause-source g c = (handled c.args.handler handler.MovbIA c.args.word c.in-MovbIA.is c.requires.handles).source

pub move_to-requires-in-MovbIA-clause-dest : goal.move_to-requires-in-MovbIA-clause-dest
move_to-requires-in-MovbIA-clause-dest g c = (handled c.args.handler handler.MovbIA c.args.word c.in-MovbIA.is c.requires.handles).dest

pub returns-in-MovbIA-clause-row : goal.returns-in-MovbIA-clause-row
unfolding row_of
returns-in-MovbIA-clause-row g c = row_as c.move_to-in-MovbIA.result (g.P.Processor.machine c.move_to-in-MovbIA.new.p) (at_pc (g.P.Processor.machine c.args.p.now) c.args.pc) c.args.word (Mov Byte (operand_of (c.args.word / 64)) (operand_of c.args.word)) (go (moved (at_pc (g.P.Processor.machine c.args.p.now) c.args.pc) Byte (operand_of (c.args.word / 64)) (operand_of c.args.word))) (handled c.args.handler handler.MovbIA c.args.word c.in-MovbIA.is c.requires.handles).is refl c.move_to-in-MovbIA.ensures.row

pub move_to-requires-in-MovbID-clause-source : goal.move_to-requires-in-MovbID-clause-source
move_to-requires-in-MovbID-clause-source g c = (handled c.args.handler handler.MovbID c.args.word c.in-MovbID.is c.requires.handles).source

pub move_to-requires-in-MovbID-clause-dest : goal.move_to-requires-in-MovbID-clause-dest
move_to-requires-in-MovbID-clause-dest g c = (handled c.args.handler handler.MovbID c.args.word c.in-MovbID.is c.requires.handles).dest

pub returns-in-MovbID-clause-row : goal.returns-in-MovbID-clause-row
unfolding row_of
returns-in-MovbID-clause-row g c = row_as c.move_to-in-MovbID.result (g.P.Processor.machine c.move_to-in-MovbID.new.p) (at_pc (g.P.Processor.machine c.args.p.now) c.args.pc) c.args.word (Mov Byte (operand_of (c.args.word / 64)) (operand_of c.args.word)) (go (moved (at_pc (g.P.Processor.machine c.args.p.now) c.args.pc) Byte (operand_of (c.args.word / 64)) (operand_of c.args.word))) (handled c.args.handler handler.MovbID c.args.word c.in-MovbID.is c.requires.handles).is refl c.move_to-in-MovbID.ensures.row

pub compare-requires-clause-source : goal.compare-requires-clause-source
compare-requires-clause-source g c = (handled c.args.handler handler.CmpbRR c.args.word c.in-CmpbRR.is c.requires.handles).source

pub compare-requires-clause-dest : goal.compare-requires-clause-dest
compare-requires-clause-dest g c = (handled c.args.handler handler.CmpbRR c.args.word c.in-CmpbRR.is c.requires.handles).dest

pub returns-in-CmpbRR-clause-row : goal.returns-in-CmpbRR-clause-row
unfolding row_of
returns-in-CmpbRR-clause-row g c = row_as c.compare.result (g.P.Processor.machine c.compare.new.p) (at_pc (g.P.Processor.machine c.args.p.now) c.args.pc) c.args.word (Cmp Byte (operand_of (c.args.word / 64)) (operand_of c.args.word)) (go (compared (at_pc (g.P.Processor.machine c.args.p.now) c.args.pc) Byte (operand_of (c.args.word / 64)) (operand_of c.args.word) (combine_of Compare Byte (carry_in (g.P.Processor.machine c.args.p.now))))) (handled c.args.handler handler.CmpbRR c.args.word c.in-CmpbRR.is c.requires.handles).is refl c.compare.ensures.row

pub compare-requires-in-CmpbDR-clause-source : goal.compare-requires-in-CmpbDR-clause-source
compare-requires-in-CmpbDR-clause-source g c = (handled c.args.handler handler.CmpbDR c.args.word c.in-CmpbDR.is c.requires.handles).source

pub compare-requires-in-CmpbDR-clause-dest : goal.compare-requires-in-CmpbDR-clause-dest
compare-requires-in-CmpbDR-clause-dest g c = (handled c.args.handler handler.CmpbDR c.args.word c.in-CmpbDR.is c.requires.handles).dest

pub returns-in-CmpbDR-clause-row : goal.returns-in-CmpbDR-clause-row
unfolding row_of
returns-in-CmpbDR-clause-row g c = row_as c.compare-in-CmpbDR.result (g.P.Processor.machine c.compare-in-CmpbDR.new.p) (at_pc (g.P.Processor.machine c.args.p.now) c.args.pc) c.args.word (Cmp Byte (operand_of (c.args.word / 64)) (operand_of c.args.word)) (go (compared (at_pc (g.P.Processor.machine c.args.p.now) c.args.pc) Byte (operand_of (c.args.word / 64)) (operand_of c.args.word) (combine_of Compare Byte (carry_in (g.P.Processor.machine c.args.p.now))))) (handled c.args.handler handler.CmpbDR c.args.word c.in-CmpbDR.is c.requires.handles).is refl c.compare-in-CmpbDR.ensures.row

pub compare-requires-in-CmpbPR-clause-source : goal.compare-requires-in-CmpbPR-clause-source
compare-requires-in-CmpbPR-clause-source g c = (handled c.args.handler handler.CmpbPR c.args.word c.in-CmpbPR.is c.requires.handles).source

pub compare-requires-in-CmpbPR-clause-dest : goal.compare-requires-in-CmpbPR-clause-dest
compare-requires-in-CmpbPR-clause-dest g c = (handled c.args.handler handler.CmpbPR c.args.word c.in-CmpbPR.is c.requires.handles).dest

pub returns-in-CmpbPR-clause-row : goal.returns-in-CmpbPR-clause-row
unfolding row_of
returns-in-CmpbPR-clause-row g c = row_as c.compare-in-CmpbPR.result (g.P.Processor.machine c.compare-in-CmpbPR.new.p) (at_pc (g.P.Processor.machine c.args.p.now) c.args.pc) c.args.word (Cmp Byte (operand_of (c.args.word / 64)) (operand_of c.args.word)) (go (compared (at_pc (g.P.Processor.machine c.args.p.now) c.args.pc) Byte (operand_of (c.args.word / 64)) (operand_of c.args.word) (combine_of Compare Byte (carry_in (g.P.Processor.machine c.args.p.now))))) (handled c.args.handler handler.CmpbPR c.args.word c.in-CmpbPR.is c.requires.handles).is refl c.compare-in-CmpbPR.ensures.row

pub compare-requires-in-CmpbXR-clause-source : goal.compare-requires-in-CmpbXR-clause-source
compare-requires-in-CmpbXR-clause-source g c = (handled c.args.handler handler.CmpbXR c.args.word c.in-CmpbXR.is c.requires.handles).source

pub compare-requires-in-CmpbXR-clause-dest : goal.compare-requires-in-CmpbXR-clause-dest
compare-requires-in-CmpbXR-clause-dest g c = (handled c.args.handler handler.CmpbXR c.args.word c.in-CmpbXR.is c.requires.handles).dest

pub returns-in-CmpbXR-clause-row : goal.returns-in-CmpbXR-clause-row
unfolding row_of
returns-in-CmpbXR-clause-row g c = row_as c.compare-in-CmpbXR.result (g.P.Processor.machine c.compare-in-CmpbXR.new.p) (at_pc (g.P.Processor.machine c.args.p.now) c.args.pc) c.args.word (Cmp Byte (operand_of (c.args.word / 64)) (operand_of c.args.word)) (go (compared (at_pc (g.P.Processor.machine c.args.p.now) c.args.pc) Byte (operand_of (c.args.word / 64)) (operand_of c.args.word) (combine_of Compare Byte (carry_in (g.P.Processor.machine c.args.p.now))))) (handled c.args.handler handler.CmpbXR c.args.word c.in-CmpbXR.is c.requires.handles).is refl c.compare-in-CmpbXR.ensures.row

pub compare-requires-in-CmpbRD-clause-source : goal.compare-requires-in-CmpbRD-clause-source
compare-requires-in-CmpbRD-clause-source g c = (handled c.args.handler handler.CmpbRD c.args.word c.in-CmpbRD.is c.requires.handles).source

pub compare-requires-in-CmpbRD-clause-dest : goal.compare-requires-in-CmpbRD-clause-dest
compare-requires-in-CmpbRD-clause-dest g c = (handled c.args.handler handler.CmpbRD c.args.word c.in-CmpbRD.is c.requires.handles).dest

pub returns-in-CmpbRD-clause-row : goal.returns-in-CmpbRD-clause-row
unfolding row_of
returns-in-CmpbRD-clause-row g c = row_as c.compare-in-CmpbRD.result (g.P.Processor.machine c.compare-in-CmpbRD.new.p) (at_pc (g.P.Processor.machine c.args.p.now) c.args.pc) c.args.word (Cmp Byte (operand_of (c.args.word / 64)) (operand_of c.args.word)) (go (compared (at_pc (g.P.Processor.machine c.args.p.now) c.args.pc) Byte (operand_of (c.args.word / 64)) (operand_of c.args.word) (combine_of Compare Byte (carry_in (g.P.Processor.machine c.args.p.now))))) (handled c.args.handler handler.CmpbRD c.args.word c.in-CmpbRD.is c.requires.handles).is refl c.compare-in-CmpbRD.ensures.row

pub compare-requires-in-CmpbAR-clause-source : goal.compare-requires-in-CmpbAR-clause-source
compare-requires-in-CmpbAR-clause-source g c = (handled c.args.handler handler.CmpbAR c.args.word c.in-CmpbAR.is c.requires.handles).source

pub compare-requires-in-CmpbAR-clause-dest : goal.compare-requires-in-CmpbAR-clause-dest
compare-requires-in-CmpbAR-clause-dest g c = (handled c.args.handler handler.CmpbAR c.args.word c.in-CmpbAR.is c.requires.handles).dest

pub returns-in-CmpbAR-clause-row : goal.returns-in-CmpbAR-clause-row
unfolding row_of
returns-in-CmpbAR-clause-row g c = row_as c.compare-in-CmpbAR.result (g.P.Processor.machine c.compare-in-CmpbAR.new.p) (at_pc (g.P.Processor.machine c.args.p.now) c.args.pc) c.args.word (Cmp Byte (operand_of (c.args.word / 64)) (operand_of c.args.word)) (go (compared (at_pc (g.P.Processor.machine c.args.p.now) c.args.pc) Byte (operand_of (c.args.word / 64)) (operand_of c.args.word) (combine_of Compare Byte (carry_in (g.P.Processor.machine c.args.p.now))))) (handled c.args.handler handler.CmpbAR c.args.word c.in-CmpbAR.is c.requires.handles).is refl c.compare-in-CmpbAR.ensures.row

pub compare-requires-in-CmpbAI-clause-source : goal.compare-requires-in-CmpbAI-clause-source
compare-requires-in-CmpbAI-clause-source g c = (handled c.args.handler handler.CmpbAI c.args.word c.in-CmpbAI.is c.requires.handles).source

pub compare-requires-in-CmpbAI-clause-dest : goal.compare-requires-in-CmpbAI-clause-dest
compare-requires-in-CmpbAI-clause-dest g c = (handled c.args.handler handler.CmpbAI c.args.word c.in-CmpbAI.is c.requires.handles).dest

pub returns-in-CmpbAI-clause-row : goal.returns-in-CmpbAI-clause-row
unfolding row_of
returns-in-CmpbAI-clause-row g c = row_as c.compare-in-CmpbAI.result (g.P.Processor.machine c.compare-in-CmpbAI.new.p) (at_pc (g.P.Processor.machine c.args.p.now) c.args.pc) c.args.word (Cmp Byte (operand_of (c.args.word / 64)) (operand_of c.args.word)) (go (compared (at_pc (g.P.Processor.machine c.args.p.now) c.args.pc) Byte (operand_of (c.args.word / 64)) (operand_of c.args.word) (combine_of Compare Byte (carry_in (g.P.Processor.machine c.args.p.now))))) (handled c.args.handler handler.CmpbAI c.args.word c.in-CmpbAI.is c.requires.handles).is refl c.compare-in-CmpbAI.ensures.row

pub compare-requires-in-CmpbXI-clause-source : goal.compare-requires-in-CmpbXI-clause-source
compare-requires-in-CmpbXI-clause-source g c = (handled c.args.handler handler.CmpbXI c.args.word c.in-CmpbXI.is c.requires.handles).source

pub compare-requires-in-CmpbXI-clause-dest : goal.compare-requires-in-CmpbXI-clause-dest
compare-requires-in-CmpbXI-clause-dest g c = (handled c.args.handler handler.CmpbXI c.args.word c.in-CmpbXI.is c.requires.handles).dest

pub returns-in-CmpbXI-clause-row : goal.returns-in-CmpbXI-clause-row
unfolding row_of
returns-in-CmpbXI-clause-row g c = row_as c.compare-in-CmpbXI.result (g.P.Processor.machine c.compare-in-CmpbXI.new.p) (at_pc (g.P.Processor.machine c.args.p.now) c.args.pc) c.args.word (Cmp Byte (operand_of (c.args.word / 64)) (operand_of c.args.word)) (go (compared (at_pc (g.P.Processor.machine c.args.p.now) c.args.pc) Byte (operand_of (c.args.word / 64)) (operand_of c.args.word) (combine_of Compare Byte (carry_in (g.P.Processor.machine c.args.p.now))))) (handled c.args.handler handler.CmpbXI c.args.word c.in-CmpbXI.is c.requires.handles).is refl c.compare-in-CmpbXI.ensures.row

pub compare-requires-in-CmpbDI-clause-source : goal.compare-requires-in-CmpbDI-clause-source
compare-requires-in-CmpbDI-clause-source g c = (handled c.args.handler handler.CmpbDI c.args.word c.in-CmpbDI.is c.requires.handles).source

pub compare-requires-in-CmpbDI-clause-dest : goal.compare-requires-in-CmpbDI-clause-dest
compare-requires-in-CmpbDI-clause-dest g c = (handled c.args.handler handler.CmpbDI c.args.word c.in-CmpbDI.is c.requires.handles).dest

pub returns-in-CmpbDI-clause-row : goal.returns-in-CmpbDI-clause-row
unfolding row_of
returns-in-CmpbDI-clause-row g c = row_as c.compare-in-CmpbDI.result (g.P.Processor.machine c.compare-in-CmpbDI.new.p) (at_pc (g.P.Processor.machine c.args.p.now) c.args.pc) c.args.word (Cmp Byte (operand_of (c.args.word / 64)) (operand_of c.args.word)) (go (compared (at_pc (g.P.Processor.machine c.args.p.now) c.args.pc) Byte (operand_of (c.args.word / 64)) (operand_of c.args.word) (combine_of Compare Byte (carry_in (g.P.Processor.machine c.args.p.now))))) (handled c.args.handler handler.CmpbDI c.args.word c.in-CmpbDI.is c.requires.handles).is refl c.compare-in-CmpbDI.ensures.row

pub compare-requires-in-BitbRR-clause-source : goal.compare-requires-in-BitbRR-clause-source
compare-requires-in-BitbRR-clause-source g c = (handled c.args.handler handler.BitbRR c.args.word c.in-BitbRR.is c.requires.handles).source

pub compare-requires-in-BitbRR-clause-dest : goal.compare-requires-in-BitbRR-clause-dest
compare-requires-in-BitbRR-clause-dest g c = (handled c.args.handler handler.BitbRR c.args.word c.in-BitbRR.is c.requires.handles).dest

pub returns-in-BitbRR-clause-row : goal.returns-in-BitbRR-clause-row
unfolding row_of
returns-in-BitbRR-clause-row g c = row_as c.compare-in-BitbRR.result (g.P.Processor.machine c.compare-in-BitbRR.new.p) (at_pc (g.P.Processor.machine c.args.p.now) c.args.pc) c.args.word (Bit Byte (operand_of (c.args.word / 64)) (operand_of c.args.word)) (go (compared (at_pc (g.P.Processor.machine c.args.p.now) c.args.pc) Byte (operand_of (c.args.word / 64)) (operand_of c.args.word) (combine_of TestBits Byte (carry_in (g.P.Processor.machine c.args.p.now))))) (handled c.args.handler handler.BitbRR c.args.word c.in-BitbRR.is c.requires.handles).is refl c.compare-in-BitbRR.ensures.row

pub compare-requires-in-BitbIR-clause-source : goal.compare-requires-in-BitbIR-clause-source
compare-requires-in-BitbIR-clause-source g c = (handled c.args.handler handler.BitbIR c.args.word c.in-BitbIR.is c.requires.handles).source

pub compare-requires-in-BitbIR-clause-dest : goal.compare-requires-in-BitbIR-clause-dest
compare-requires-in-BitbIR-clause-dest g c = (handled c.args.handler handler.BitbIR c.args.word c.in-BitbIR.is c.requires.handles).dest

pub returns-in-BitbIR-clause-row : goal.returns-in-BitbIR-clause-row
unfolding row_of
returns-in-BitbIR-clause-row g c = row_as c.compare-in-BitbIR.result (g.P.Processor.machine c.compare-in-BitbIR.new.p) (at_pc (g.P.Processor.machine c.args.p.now) c.args.pc) c.args.word (Bit Byte (operand_of (c.args.word / 64)) (operand_of c.args.word)) (go (compared (at_pc (g.P.Processor.machine c.args.p.now) c.args.pc) Byte (operand_of (c.args.word / 64)) (operand_of c.args.word) (combine_of TestBits Byte (carry_in (g.P.Processor.machine c.args.p.now))))) (handled c.args.handler handler.BitbIR c.args.word c.in-BitbIR.is c.requires.handles).is refl c.compare-in-BitbIR.ensures.row

pub compare-requires-in-BitbAR-clause-source : goal.compare-requires-in-BitbAR-clause-source
compare-requires-in-BitbAR-clause-source g c = (handled c.args.handler handler.BitbAR c.args.word c.in-BitbAR.is c.requires.handles).source

pub compare-requires-in-BitbAR-clause-dest : goal.compare-requires-in-BitbAR-clause-dest
compare-requires-in-BitbAR-clause-dest g c = (handled c.args.handler handler.BitbAR c.args.word c.in-BitbAR.is c.requires.handles).dest

pub returns-in-BitbAR-clause-row : goal.returns-in-BitbAR-clause-row
unfolding row_of
returns-in-BitbAR-clause-row g c = row_as c.compare-in-BitbAR.result (g.P.Processor.machine c.compare-in-BitbAR.new.p) (at_pc (g.P.Processor.machine c.args.p.now) c.args.pc) c.args.word (Bit Byte (operand_of (c.args.word / 64)) (operand_of c.args.word)) (go (compared (at_pc (g.P.Processor.machine c.args.p.now) c.args.pc) Byte (operand_of (c.args.word / 64)) (operand_of c.args.word) (combine_of TestBits Byte (carry_in (g.P.Processor.machine c.args.p.now))))) (handled c.args.handler handler.BitbAR c.args.word c.in-BitbAR.is c.requires.handles).is refl c.compare-in-BitbAR.ensures.row

pub compare-requires-in-BitbIX-clause-source : goal.compare-requires-in-BitbIX-clause-source
compare-requires-in-BitbIX-clause-source g c = (handled c.args.handler handler.BitbIX c.args.word c.in-BitbIX.is c.requires.handles).source

pub compare-requires-in-BitbIX-clause-dest : goal.compare-requires-in-BitbIX-clause-dest
compare-requires-in-BitbIX-clause-dest g c = (handled c.args.handler handler.BitbIX c.args.word c.in-BitbIX.is c.requires.handles).dest

pub returns-in-BitbIX-clause-row : goal.returns-in-BitbIX-clause-row
unfolding row_of
returns-in-BitbIX-clause-row g c = row_as c.compare-in-BitbIX.result (g.P.Processor.machine c.compare-in-BitbIX.new.p) (at_pc (g.P.Processor.machine c.args.p.now) c.args.pc) c.args.word (Bit Byte (operand_of (c.args.word / 64)) (operand_of c.args.word)) (go (compared (at_pc (g.P.Processor.machine c.args.p.now) c.args.pc) Byte (operand_of (c.args.word / 64)) (operand_of c.args.word) (combine_of TestBits Byte (carry_in (g.P.Processor.machine c.args.p.now))))) (handled c.args.handler handler.BitbIX c.args.word c.in-BitbIX.is c.requires.handles).is refl c.compare-in-BitbIX.ensures.row

pub compare-requires-in-BitbID-clause-source : goal.compare-requires-in-BitbID-clause-source
compare-requires-in-BitbID-clause-source g c = (handled c.args.handler handler.BitbID c.args.word c.in-BitbID.is c.requires.handles).source

pub compare-requires-in-BitbID-clause-dest : goal.compare-requires-in-BitbID-clause-dest
compare-requires-in-BitbID-clause-dest g c = (handled c.args.handler handler.BitbID c.args.word c.in-BitbID.is c.requires.handles).dest

pub returns-in-BitbID-clause-row : goal.returns-in-BitbID-clause-row
unfolding row_of
returns-in-BitbID-clause-row g c = row_as c.compare-in-BitbID.result (g.P.Processor.machine c.compare-in-BitbID.new.p) (at_pc (g.P.Processor.machine c.args.p.now) c.args.pc) c.args.word (Bit Byte (operand_of (c.args.word / 64)) (operand_of c.args.word)) (go (compared (at_pc (g.P.Processor.machine c.args.p.now) c.args.pc) Byte (operand_of (c.args.word / 64)) (operand_of c.args.word) (combine_of TestBits Byte (carry_in (g.P.Processor.machine c.args.p.now))))) (handled c.args.handler handler.BitbID c.args.word c.in-BitbID.is c.requires.handles).is refl c.compare-in-BitbID.ensures.row

pub join-requires-clause-source : goal.join-requires-clause-source
join-requires-clause-source g c = (handled c.args.handler handler.BicbRR c.args.word c.in-BicbRR.is c.requires.handles).source

pub join-requires-clause-dest : goal.join-requires-clause-dest
join-requires-clause-dest g c = (handled c.args.handler handler.BicbRR c.args.word c.in-BicbRR.is c.requires.handles).dest

pub returns-in-BicbRR-clause-row : goal.returns-in-BicbRR-clause-row
unfolding row_of
returns-in-BicbRR-clause-row g c = row_as c.join.result (g.P.Processor.machine c.join.new.p) (at_pc (g.P.Processor.machine c.args.p.now) c.args.pc) c.args.word (Bic Byte (operand_of (c.args.word / 64)) (operand_of c.args.word)) (go (joined (at_pc (g.P.Processor.machine c.args.p.now) c.args.pc) Byte (operand_of (c.args.word / 64)) (operand_of c.args.word) (combine_of ClearBits Byte (carry_in (g.P.Processor.machine c.args.p.now))))) (handled c.args.handler handler.BicbRR c.args.word c.in-BicbRR.is c.requires.handles).is refl c.join.ensures.row

pub join-requires-in-BicbIR-clause-source : goal.join-requires-in-BicbIR-clause-source
join-requires-in-BicbIR-clause-source g c = (handled c.args.handler handler.BicbIR c.args.word c.in-BicbIR.is c.requires.handles).source

pub join-requires-in-BicbIR-clause-dest : goal.join-requires-in-BicbIR-clause-dest
join-requires-in-BicbIR-clause-dest g c = (handled c.args.handler handler.BicbIR c.args.word c.in-BicbIR.is c.requires.handles).dest

pub returns-in-BicbIR-clause-row : goal.returns-in-BicbIR-clause-row
unfolding row_of
returns-in-BicbIR-clause-row g c = row_as c.join-in-BicbIR.result (g.P.Processor.machine c.join-in-BicbIR.new.p) (at_pc (g.P.Processor.machine c.args.p.now) c.args.pc) c.args.word (Bic Byte (operand_of (c.args.word / 64)) (operand_of c.args.word)) (go (joined (at_pc (g.P.Processor.machine c.args.p.now) c.args.pc) Byte (operand_of (c.args.word / 64)) (operand_of c.args.word) (combine_of ClearBits Byte (carry_in (g.P.Processor.machine c.args.p.now))))) (handled c.args.handler handler.BicbIR c.args.word c.in-BicbIR.is c.requires.handles).is refl c.join-in-BicbIR.ensures.row

pub join-requires-in-BisbRR-clause-source : goal.join-requires-in-BisbRR-clause-source
join-requires-in-BisbRR-clause-source g c = (handled c.args.handler handler.BisbRR c.args.word c.in-BisbRR.is c.requires.handles).source

pub join-requires-in-BisbRR-clause-dest : goal.join-requires-in-BisbRR-clause-dest
join-requires-in-BisbRR-clause-dest g c = (handled c.args.handler handler.BisbRR c.args.word c.in-BisbRR.is c.requires.handles).dest

pub returns-in-BisbRR-clause-row : goal.returns-in-BisbRR-clause-row
unfolding row_of
returns-in-BisbRR-clause-row g c = row_as c.join-in-BisbRR.result (g.P.Processor.machine c.join-in-BisbRR.new.p) (at_pc (g.P.Processor.machine c.args.p.now) c.args.pc) c.args.word (Bis Byte (operand_of (c.args.word / 64)) (operand_of c.args.word)) (go (joined (at_pc (g.P.Processor.machine c.args.p.now) c.args.pc) Byte (operand_of (c.args.word / 64)) (operand_of c.args.word) (combine_of SetBits Byte (carry_in (g.P.Processor.machine c.args.p.now))))) (handled c.args.handler handler.BisbRR c.args.word c.in-BisbRR.is c.requires.handles).is refl c.join-in-BisbRR.ensures.row

pub join-requires-in-BisbIR-clause-source : goal.join-requires-in-BisbIR-clause-source
join-requires-in-BisbIR-clause-source g c = (handled c.args.handler handler.BisbIR c.args.word c.in-BisbIR.is c.requires.handles).source

pub join-requires-in-BisbIR-clause-dest : goal.join-requires-in-BisbIR-clause-dest
join-requires-in-BisbIR-clause-dest g c = (handled c.args.handler handler.BisbIR c.args.word c.in-BisbIR.is c.requires.handles).dest

pub returns-in-BisbIR-clause-row : goal.returns-in-BisbIR-clause-row
unfolding row_of
returns-in-BisbIR-clause-row g c = row_as c.join-in-BisbIR.result (g.P.Processor.machine c.join-in-BisbIR.new.p) (at_pc (g.P.Processor.machine c.args.p.now) c.args.pc) c.args.word (Bis Byte (operand_of (c.args.word / 64)) (operand_of c.args.word)) (go (joined (at_pc (g.P.Processor.machine c.args.p.now) c.args.pc) Byte (operand_of (c.args.word / 64)) (operand_of c.args.word) (combine_of SetBits Byte (carry_in (g.P.Processor.machine c.args.p.now))))) (handled c.args.handler handler.BisbIR c.args.word c.in-BisbIR.is c.requires.handles).is refl c.join-in-BisbIR.ensures.row

pub join-requires-in-BisbDR-clause-source : goal.join-requires-in-BisbDR-clause-source
join-requires-in-BisbDR-clause-source g c = (handled c.args.handler handler.BisbDR c.args.word c.in-BisbDR.is c.requires.handles).source

pub join-requires-in-BisbDR-clause-dest : goal.join-requires-in-BisbDR-clause-dest
join-requires-in-BisbDR-clause-dest g c = (handled c.args.handler handler.BisbDR c.args.word c.in-BisbDR.is c.requires.handles).dest

pub returns-in-BisbDR-clause-row : goal.returns-in-BisbDR-clause-row
unfolding row_of
returns-in-BisbDR-clause-row g c = row_as c.join-in-BisbDR.result (g.P.Processor.machine c.join-in-BisbDR.new.p) (at_pc (g.P.Processor.machine c.args.p.now) c.args.pc) c.args.word (Bis Byte (operand_of (c.args.word / 64)) (operand_of c.args.word)) (go (joined (at_pc (g.P.Processor.machine c.args.p.now) c.args.pc) Byte (operand_of (c.args.word / 64)) (operand_of c.args.word) (combine_of SetBits Byte (carry_in (g.P.Processor.machine c.args.p.now))))) (handled c.args.handler handler.BisbDR c.args.word c.in-BisbDR.is c.requires.handles).is refl c.join-in-BisbDR.ensures.row

pub join-requires-in-BisbPR-clause-source : goal.join-requires-in-BisbPR-clause-source
join-requires-in-BisbPR-clause-source g c = (handled c.args.handler handler.BisbPR c.args.word c.in-BisbPR.is c.requires.handles).source

pub join-requires-in-BisbPR-clause-dest : goal.join-requires-in-BisbPR-clause-dest
join-requires-in-BisbPR-clause-dest g c = (handled c.args.handler handler.BisbPR c.args.word c.in-BisbPR.is c.requires.handles).dest

pub returns-in-BisbPR-clause-row : goal.returns-in-BisbPR-clause-row
unfolding row_of
returns-in-BisbPR-clause-row g c = row_as c.join-in-BisbPR.result (g.P.Processor.machine c.join-in-BisbPR.new.p) (at_pc (g.P.Processor.machine c.args.p.now) c.args.pc) c.args.word (Bis Byte (operand_of (c.args.word / 64)) (operand_of c.args.word)) (go (joined (at_pc (g.P.Processor.machine c.args.p.now) c.args.pc) Byte (operand_of (c.args.word / 64)) (operand_of c.args.word) (combine_of SetBits Byte (carry_in (g.P.Processor.machine c.args.p.now))))) (handled c.args.handler handler.BisbPR c.args.word c.in-BisbPR.is c.requires.handles).is refl c.join-in-BisbPR.ensures.row

pub join-requires-in-BisbRD-clause-source : goal.join-requires-in-BisbRD-clause-source
join-requires-in-BisbRD-clause-source g c = (handled c.args.handler handler.BisbRD c.args.word c.in-BisbRD.is c.requires.handles).source

pub join-requires-in-BisbRD-clause-dest : goal.join-requires-in-BisbRD-clause-dest
join-requires-in-BisbRD-clause-dest g c = (handled c.args.handler handler.BisbRD c.args.word c.in-BisbRD.is c.requires.handles).dest

pub returns-in-BisbRD-clause-row : goal.returns-in-BisbRD-clause-row
unfolding row_of
returns-in-BisbRD-clause-row g c = row_as c.join-in-BisbRD.result (g.P.Processor.machine c.join-in-BisbRD.new.p) (at_pc (g.P.Processor.machine c.args.p.now) c.args.pc) c.args.word (Bis Byte (operand_of (c.args.word / 64)) (operand_of c.args.word)) (go (joined (at_pc (g.P.Processor.machine c.args.p.now) c.args.pc) Byte (operand_of (c.args.word / 64)) (operand_of c.args.word) (combine_of SetBits Byte (carry_in (g.P.Processor.machine c.args.p.now))))) (handled c.args.handler handler.BisbRD c.args.word c.in-BisbRD.is c.requires.handles).is refl c.join-in-BisbRD.ensures.row

pub join-requires-in-BisbRP-clause-source : goal.join-requires-in-BisbRP-clause-source
join-requires-in-BisbRP-clause-source g c = (handled c.args.handler handler.BisbRP c.args.word c.in-BisbRP.is c.requires.handles).source

pub join-requires-in-BisbRP-clause-dest : goal.join-requires-in-BisbRP-clause-dest
join-requires-in-BisbRP-clause-dest g c = (handled c.args.handler handler.BisbRP c.args.word c.in-BisbRP.is c.requires.handles).dest

pub returns-in-BisbRP-clause-row : goal.returns-in-BisbRP-clause-row
unfolding row_of
returns-in-BisbRP-clause-row g c = row_as c.join-in-BisbRP.result (g.P.Processor.machine c.join-in-BisbRP.new.p) (at_pc (g.P.Processor.machine c.args.p.now) c.args.pc) c.args.word (Bis Byte (operand_of (c.args.word / 64)) (operand_of c.args.word)) (go (joined (at_pc (g.P.Processor.machine c.args.p.now) c.args.pc) Byte (operand_of (c.args.word / 64)) (operand_of c.args.word) (combine_of SetBits Byte (carry_in (g.P.Processor.machine c.args.p.now))))) (handled c.args.handler handler.BisbRP c.args.word c.in-BisbRP.is c.requires.handles).is refl c.join-in-BisbRP.ensures.row

pub join-requires-in-BisbRA-clause-source : goal.join-requires-in-BisbRA-clause-source
join-requires-in-BisbRA-clause-source g c = (handled c.args.handler handler.BisbRA c.args.word c.in-BisbRA.is c.requires.handles).source

pub join-requires-in-BisbRA-clause-dest : goal.join-requires-in-BisbRA-clause-dest
join-requires-in-BisbRA-clause-dest g c = (handled c.args.handler handler.BisbRA c.args.word c.in-BisbRA.is c.requires.handles).dest

pub returns-in-BisbRA-clause-row : goal.returns-in-BisbRA-clause-row
unfolding row_of
returns-in-BisbRA-clause-row g c = row_as c.join-in-BisbRA.result (g.P.Processor.machine c.join-in-BisbRA.new.p) (at_pc (g.P.Processor.machine c.args.p.now) c.args.pc) c.args.word (Bis Byte (operand_of (c.args.word / 64)) (operand_of c.args.word)) (go (joined (at_pc (g.P.Processor.machine c.args.p.now) c.args.pc) Byte (operand_of (c.args.word / 64)) (operand_of c.args.word) (combine_of SetBits Byte (carry_in (g.P.Processor.machine c.args.p.now))))) (handled c.args.handler handler.BisbRA c.args.word c.in-BisbRA.is c.requires.handles).is refl c.join-in-BisbRA.ensures.row

pub modify-requires-clause-dest : goal.modify-requires-clause-dest
modify-requires-clause-dest g c = (handled c.args.handler handler.CombR c.args.word c.in-CombR.is c.requires.handles).dest

pub returns-in-CombR-clause-row : goal.returns-in-CombR-clause-row
unfolding row_of
returns-in-CombR-clause-row g c = row_as c.modify.result (g.P.Processor.machine c.modify.new.p) (at_pc (g.P.Processor.machine c.args.p.now) c.args.pc) c.args.word (Com Byte (operand_of c.args.word)) (go (modified (at_pc (g.P.Processor.machine c.args.p.now) c.args.pc) Byte (operand_of c.args.word) (change_of Complement Byte (carry_in (g.P.Processor.machine c.args.p.now))))) (handled c.args.handler handler.CombR c.args.word c.in-CombR.is c.requires.handles).is refl c.modify.ensures.row

pub modify-requires-in-IncbR-clause-dest : goal.modify-requires-in-IncbR-clause-dest
modify-requires-in-IncbR-clause-dest g c = (handled c.args.handler handler.IncbR c.args.word c.in-IncbR.is c.requires.handles).dest

pub returns-in-IncbR-clause-row : goal.returns-in-IncbR-clause-row
unfolding row_of
returns-in-IncbR-clause-row g c = row_as c.modify-in-IncbR.result (g.P.Processor.machine c.modify-in-IncbR.new.p) (at_pc (g.P.Processor.machine c.args.p.now) c.args.pc) c.args.word (Inc Byte (operand_of c.args.word)) (go (modified (at_pc (g.P.Processor.machine c.args.p.now) c.args.pc) Byte (operand_of c.args.word) (change_of Increase Byte (carry_in (g.P.Processor.machine c.args.p.now))))) (handled c.args.handler handler.IncbR c.args.word c.in-IncbR.is c.requires.handles).is refl c.modify-in-IncbR.ensures.row

pub modify-requires-in-IncbA-clause-dest : goal.modify-requires-in-IncbA-clause-dest
modify-requires-in-IncbA-clause-dest g c = (handled c.args.handler handler.IncbA c.args.word c.in-IncbA.is c.requires.handles).dest

pub returns-in-IncbA-clause-row : goal.returns-in-IncbA-clause-row
unfolding row_of
returns-in-IncbA-clause-row g c = row_as c.modify-in-IncbA.result (g.P.Processor.machine c.modify-in-IncbA.new.p) (at_pc (g.P.Processor.machine c.args.p.now) c.args.pc) c.args.word (Inc Byte (operand_of c.args.word)) (go (modified (at_pc (g.P.Processor.machine c.args.p.now) c.args.pc) Byte (operand_of c.args.word) (change_of Increase Byte (carry_in (g.P.Processor.machine c.args.p.now))))) (handled c.args.handler handler.IncbA c.args.word c.in-IncbA.is c.requires.handles).is refl c.modify-in-IncbA.ensures.row

pub modify-requires-in-IncbX-clause-dest : goal.modify-requires-in-IncbX-clause-dest
modify-requires-in-IncbX-clause-dest g c = (handled c.args.handler handler.IncbX c.args.word c.in-IncbX.is c.requires.handles).dest

pub returns-in-IncbX-clause-row : goal.returns-in-IncbX-clause-row
unfolding row_of
returns-in-IncbX-clause-row g c = row_as c.modify-in-IncbX.result (g.P.Processor.machine c.modify-in-IncbX.new.p) (at_pc (g.P.Processor.machine c.args.p.now) c.args.pc) c.args.word (Inc Byte (operand_of c.args.word)) (go (modified (at_pc (g.P.Processor.machine c.args.p.now) c.args.pc) Byte (operand_of c.args.word) (change_of Increase Byte (carry_in (g.P.Processor.machine c.args.p.now))))) (handled c.args.handler handler.IncbX c.args.word c.in-IncbX.is c.requires.handles).is refl c.modify-in-IncbX.ensures.row

pub modify-requires-in-DecbR-clause-dest : goal.modify-requires-in-DecbR-clause-dest
modify-requires-in-DecbR-clause-dest g c = (handled c.args.handler handler.DecbR c.args.word c.in-DecbR.is c.requires.handles).dest

pub returns-in-DecbR-clause-row : goal.returns-in-DecbR-clause-row
unfolding row_of
returns-in-DecbR-clause-row g c = row_as c.modify-in-DecbR.result (g.P.Processor.machine c.modify-in-DecbR.new.p) (at_pc (g.P.Processor.machine c.args.p.now) c.args.pc) c.args.word (Dec Byte (operand_of c.args.word)) (go (modified (at_pc (g.P.Processor.machine c.args.p.now) c.args.pc) Byte (operand_of c.args.word) (change_of Decrease Byte (carry_in (g.P.Processor.machine c.args.p.now))))) (handled c.args.handler handler.DecbR c.args.word c.in-DecbR.is c.requires.handles).is refl c.modify-in-DecbR.ensures.row

pub modify-requires-in-DecbA-clause-dest : goal.modify-requires-in-DecbA-clause-dest
modify-requires-in-DecbA-clause-dest g c = (handled c.args.handler handler.DecbA c.args.word c.in-DecbA.is c.requires.handles).dest

pub returns-in-DecbA-clause-row : goal.returns-in-DecbA-clause-row
unfolding row_of
returns-in-DecbA-clause-row g c = row_as c.modify-in-DecbA.result (g.P.Processor.machine c.modify-in-DecbA.new.p) (at_pc (g.P.Processor.machine c.args.p.now) c.args.pc) c.args.word (Dec Byte (operand_of c.args.word)) (go (modified (at_pc (g.P.Processor.machine c.args.p.now) c.args.pc) Byte (operand_of c.args.word) (change_of Decrease Byte (carry_in (g.P.Processor.machine c.args.p.now))))) (handled c.args.handler handler.DecbA c.args.word c.in-DecbA.is c.requires.handles).is refl c.modify-in-DecbA.ensures.row

pub modify-requires-in-NegbR-clause-dest : goal.modify-requires-in-NegbR-clause-dest
modify-requires-in-NegbR-clause-dest g c = (handled c.args.handler handler.NegbR c.args.word c.in-NegbR.is c.requires.handles).dest

pub returns-in-NegbR-clause-row : goal.returns-in-NegbR-clause-row
unfolding row_of
returns-in-NegbR-clause-row g c = row_as c.modify-in-NegbR.result (g.P.Processor.machine c.modify-in-NegbR.new.p) (at_pc (g.P.Processor.machine c.args.p.now) c.args.pc) c.args.word (Neg Byte (operand_of c.args.word)) (go (modified (at_pc (g.P.Processor.machine c.args.p.now) c.args.pc) Byte (operand_of c.args.word) (change_of Negate Byte (carry_in (g.P.Processor.machine c.args.p.now))))) (handled c.args.handler handler.NegbR c.args.word c.in-NegbR.is c.requires.handles).is refl c.modify-in-NegbR.ensures.row

pub modify-requires-in-AdcbR-clause-dest : goal.modify-requires-in-AdcbR-clause-dest
modify-requires-in-AdcbR-clause-dest g c = (handled c.args.handler handler.AdcbR c.args.word c.in-AdcbR.is c.requires.handles).dest

pub returns-in-AdcbR-clause-row : goal.returns-in-AdcbR-clause-row
unfolding row_of
returns-in-AdcbR-clause-row g c = row_as c.modify-in-AdcbR.result (g.P.Processor.machine c.modify-in-AdcbR.new.p) (at_pc (g.P.Processor.machine c.args.p.now) c.args.pc) c.args.word (Adc Byte (operand_of c.args.word)) (go (modified (at_pc (g.P.Processor.machine c.args.p.now) c.args.pc) Byte (operand_of c.args.word) (change_of AddCarry Byte (carry_in (g.P.Processor.machine c.args.p.now))))) (handled c.args.handler handler.AdcbR c.args.word c.in-AdcbR.is c.requires.handles).is refl c.modify-in-AdcbR.ensures.row

pub modify-requires-in-SbcbR-clause-dest : goal.modify-requires-in-SbcbR-clause-dest
modify-requires-in-SbcbR-clause-dest g c = (handled c.args.handler handler.SbcbR c.args.word c.in-SbcbR.is c.requires.handles).dest

pub returns-in-SbcbR-clause-row : goal.returns-in-SbcbR-clause-row
unfolding row_of
returns-in-SbcbR-clause-row g c = row_as c.modify-in-SbcbR.result (g.P.Processor.machine c.modify-in-SbcbR.new.p) (at_pc (g.P.Processor.machine c.args.p.now) c.args.pc) c.args.word (Sbc Byte (operand_of c.args.word)) (go (modified (at_pc (g.P.Processor.machine c.args.p.now) c.args.pc) Byte (operand_of c.args.word) (change_of SubtractCarry Byte (carry_in (g.P.Processor.machine c.args.p.now))))) (handled c.args.handler handler.SbcbR c.args.word c.in-SbcbR.is c.requires.handles).is refl c.modify-in-SbcbR.ensures.row

pub modify-requires-in-RorbR-clause-dest : goal.modify-requires-in-RorbR-clause-dest
modify-requires-in-RorbR-clause-dest g c = (handled c.args.handler handler.RorbR c.args.word c.in-RorbR.is c.requires.handles).dest

pub returns-in-RorbR-clause-row : goal.returns-in-RorbR-clause-row
unfolding row_of
returns-in-RorbR-clause-row g c = row_as c.modify-in-RorbR.result (g.P.Processor.machine c.modify-in-RorbR.new.p) (at_pc (g.P.Processor.machine c.args.p.now) c.args.pc) c.args.word (Ror Byte (operand_of c.args.word)) (go (modified (at_pc (g.P.Processor.machine c.args.p.now) c.args.pc) Byte (operand_of c.args.word) (change_of RotateRight Byte (carry_in (g.P.Processor.machine c.args.p.now))))) (handled c.args.handler handler.RorbR c.args.word c.in-RorbR.is c.requires.handles).is refl c.modify-in-RorbR.ensures.row

pub modify-requires-in-RolbR-clause-dest : goal.modify-requires-in-RolbR-clause-dest
modify-requires-in-RolbR-clause-dest g c = (handled c.args.handler handler.RolbR c.args.word c.in-RolbR.is c.requires.handles).dest

pub returns-in-RolbR-clause-row : goal.returns-in-RolbR-clause-row
unfolding row_of
returns-in-RolbR-clause-row g c = row_as c.modify-in-RolbR.result (g.P.Processor.machine c.modify-in-RolbR.new.p) (at_pc (g.P.Processor.machine c.args.p.now) c.args.pc) c.args.word (Rol Byte (operand_of c.args.word)) (go (modified (at_pc (g.P.Processor.machine c.args.p.now) c.args.pc) Byte (operand_of c.args.word) (change_of RotateLeft Byte (carry_in (g.P.Processor.machine c.args.p.now))))) (handled c.args.handler handler.RolbR c.args.word c.in-RolbR.is c.requires.handles).is refl c.modify-in-RolbR.ensures.row

pub modify-requires-in-AsrbR-clause-dest : goal.modify-requires-in-AsrbR-clause-dest
modify-requires-in-AsrbR-clause-dest g c = (handled c.args.handler handler.AsrbR c.args.word c.in-AsrbR.is c.requires.handles).dest

pub returns-in-AsrbR-clause-row : goal.returns-in-AsrbR-clause-row
unfolding row_of
returns-in-AsrbR-clause-row g c = row_as c.modify-in-AsrbR.result (g.P.Processor.machine c.modify-in-AsrbR.new.p) (at_pc (g.P.Processor.machine c.args.p.now) c.args.pc) c.args.word (Asr Byte (operand_of c.args.word)) (go (modified (at_pc (g.P.Processor.machine c.args.p.now) c.args.pc) Byte (operand_of c.args.word) (change_of ShiftRight Byte (carry_in (g.P.Processor.machine c.args.p.now))))) (handled c.args.handler handler.AsrbR c.args.word c.in-AsrbR.is c.requires.handles).is refl c.modify-in-AsrbR.ensures.row

pub modify-requires-in-AslbR-clause-dest : goal.modify-requires-in-AslbR-clause-dest
modify-requires-in-AslbR-clause-dest g c = (handled c.args.handler handler.AslbR c.args.word c.in-AslbR.is c.requires.handles).dest

pub returns-in-AslbR-clause-row : goal.returns-in-AslbR-clause-row
unfolding row_of
returns-in-AslbR-clause-row g c = row_as c.modify-in-AslbR.result (g.P.Processor.machine c.modify-in-AslbR.new.p) (at_pc (g.P.Processor.machine c.args.p.now) c.args.pc) c.args.word (Asl Byte (operand_of c.args.word)) (go (modified (at_pc (g.P.Processor.machine c.args.p.now) c.args.pc) Byte (operand_of c.args.word) (change_of ShiftLeft Byte (carry_in (g.P.Processor.machine c.args.p.now))))) (handled c.args.handler handler.AslbR c.args.word c.in-AslbR.is c.requires.handles).is refl c.modify-in-AslbR.ensures.row

pub clear-requires-clause-dest : goal.clear-requires-clause-dest
clear-requires-clause-dest g c = (handled c.args.handler handler.ClrbR c.args.word c.in-ClrbR.is c.requires.handles).dest

pub returns-in-ClrbR-clause-row : goal.returns-in-ClrbR-clause-row
unfolding row_of
returns-in-ClrbR-clause-row g c = row_as c.clear.result (g.P.Processor.machine c.clear.new.p) (at_pc (g.P.Processor.machine c.args.p.now) c.args.pc) c.args.word (Clr Byte (operand_of c.args.word)) (go (replaced (at_pc (g.P.Processor.machine c.args.p.now) c.args.pc) Byte (operand_of c.args.word) (result_of Byte 0 false false))) (handled c.args.handler handler.ClrbR c.args.word c.in-ClrbR.is c.requires.handles).is refl c.clear.ensures.row

pub clear-requires-in-ClrbA-clause-dest : goal.clear-requires-in-ClrbA-clause-dest
clear-requires-in-ClrbA-clause-dest g c = (handled c.args.handler handler.ClrbA c.args.word c.in-ClrbA.is c.requires.handles).dest

pub returns-in-ClrbA-clause-row : goal.returns-in-ClrbA-clause-row
unfolding row_of
returns-in-ClrbA-clause-row g c = row_as c.clear-in-ClrbA.result (g.P.Processor.machine c.clear-in-ClrbA.new.p) (at_pc (g.P.Processor.machine c.args.p.now) c.args.pc) c.args.word (Clr Byte (operand_of c.args.word)) (go (replaced (at_pc (g.P.Processor.machine c.args.p.now) c.args.pc) Byte (operand_of c.args.word) (result_of Byte 0 false false))) (handled c.args.handler handler.ClrbA c.args.word c.in-ClrbA.is c.requires.handles).is refl c.clear-in-ClrbA.ensures.row

pub clear-requires-in-ClrbX-clause-dest : goal.clear-requires-in-ClrbX-clause-dest
clear-requires-in-ClrbX-clause-dest g c = (handled c.args.handler handler.ClrbX c.args.word c.in-ClrbX.is c.requires.handles).dest

pub returns-in-ClrbX-clause-row : goal.returns-in-ClrbX-clause-row
unfolding row_of
returns-in-ClrbX-clause-row g c = row_as c.clear-in-ClrbX.result (g.P.Processor.machine c.clear-in-ClrbX.new.p) (at_pc (g.P.Processor.machine c.args.p.now) c.args.pc) c.args.word (Clr Byte (operand_of c.args.word)) (go (replaced (at_pc (g.P.Processor.machine c.args.p.now) c.args.pc) Byte (operand_of c.args.word) (result_of Byte 0 false false))) (handled c.args.handler handler.ClrbX c.args.word c.in-ClrbX.is c.requires.handles).is refl c.clear-in-ClrbX.ensures.row

pub clear-requires-in-ClrbD-clause-dest : goal.clear-requires-in-ClrbD-clause-dest
clear-requires-in-ClrbD-clause-dest g c = (handled c.args.handler handler.ClrbD c.args.word c.in-ClrbD.is c.requires.handles).dest

pub returns-in-ClrbD-clause-row : goal.returns-in-ClrbD-clause-row
unfolding row_of
returns-in-ClrbD-clause-row g c = row_as c.clear-in-ClrbD.result (g.P.Processor.machine c.clear-in-ClrbD.new.p) (at_pc (g.P.Processor.machine c.args.p.now) c.args.pc) c.args.word (Clr Byte (operand_of c.args.word)) (go (replaced (at_pc (g.P.Processor.machine c.args.p.now) c.args.pc) Byte (operand_of c.args.word) (result_of Byte 0 false false))) (handled c.args.handler handler.ClrbD c.args.word c.in-ClrbD.is c.requires.handles).is refl c.clear-in-ClrbD.ensures.row

pub clear-requires-in-ClrbP-clause-dest : goal.clear-requires-in-ClrbP-clause-dest
clear-requires-in-ClrbP-clause-dest g c = (handled c.args.handler handler.ClrbP c.args.word c.in-ClrbP.is c.requires.handles).dest

pub returns-in-ClrbP-clause-row : goal.returns-in-ClrbP-clause-row
unfolding row_of
returns-in-ClrbP-clause-row g c = row_as c.clear-in-ClrbP.result (g.P.Processor.machine c.clear-in-ClrbP.new.p) (at_pc (g.P.Processor.machine c.args.p.now) c.args.pc) c.args.word (Clr Byte (operand_of c.args.word)) (go (replaced (at_pc (g.P.Processor.machine c.args.p.now) c.args.pc) Byte (operand_of c.args.word) (result_of Byte 0 false false))) (handled c.args.handler handler.ClrbP c.args.word c.in-ClrbP.is c.requires.handles).is refl c.clear-in-ClrbP.ensures.row

pub test-requires-clause-dest : goal.test-requires-clause-dest
test-requires-clause-dest g c = (handled c.args.handler handler.TstbR c.args.word c.in-TstbR.is c.requires.handles).dest

pub returns-in-TstbR-clause-row : goal.returns-in-TstbR-clause-row
unfolding row_of
returns-in-TstbR-clause-row g c = row_as c.test.result (g.P.Processor.machine c.test.new.p) (at_pc (g.P.Processor.machine c.args.p.now) c.args.pc) c.args.word (Tst Byte (operand_of c.args.word)) (go (tested (at_pc (g.P.Processor.machine c.args.p.now) c.args.pc) Byte (operand_of c.args.word) (λ x. result_of Byte x false false))) (handled c.args.handler handler.TstbR c.args.word c.in-TstbR.is c.requires.handles).is refl c.test.ensures.row

pub test-requires-in-TstbA-clause-dest : goal.test-requires-in-TstbA-clause-dest
test-requires-in-TstbA-clause-dest g c = (handled c.args.handler handler.TstbA c.args.word c.in-TstbA.is c.requires.handles).dest

pub returns-in-TstbA-clause-row : goal.returns-in-TstbA-clause-row
unfolding row_of
returns-in-TstbA-clause-row g c = row_as c.test-in-TstbA.result (g.P.Processor.machine c.test-in-TstbA.new.p) (at_pc (g.P.Processor.machine c.args.p.now) c.args.pc) c.args.word (Tst Byte (operand_of c.args.word)) (go (tested (at_pc (g.P.Processor.machine c.args.p.now) c.args.pc) Byte (operand_of c.args.word) (λ x. result_of Byte x false false))) (handled c.args.handler handler.TstbA c.args.word c.in-TstbA.is c.requires.handles).is refl c.test-in-TstbA.ensures.row

pub test-requires-in-TstbX-clause-dest : goal.test-requires-in-TstbX-clause-dest
test-requires-in-TstbX-clause-dest g c = (handled c.args.handler handler.TstbX c.args.word c.in-TstbX.is c.requires.handles).dest

pub returns-in-TstbX-clause-row : goal.returns-in-TstbX-clause-row
unfolding row_of
returns-in-TstbX-clause-row g c = row_as c.test-in-TstbX.result (g.P.Processor.machine c.test-in-TstbX.new.p) (at_pc (g.P.Processor.machine c.args.p.now) c.args.pc) c.args.word (Tst Byte (operand_of c.args.word)) (go (tested (at_pc (g.P.Processor.machine c.args.p.now) c.args.pc) Byte (operand_of c.args.word) (λ x. result_of Byte x false false))) (handled c.args.handler handler.TstbX c.args.word c.in-TstbX.is c.requires.handles).is refl c.test-in-TstbX.ensures.row

pub test-requires-in-TstbD-clause-dest : goal.test-requires-in-TstbD-clause-dest
test-requires-in-TstbD-clause-dest g c = (handled c.args.handler handler.TstbD c.args.word c.in-TstbD.is c.requires.handles).dest

pub returns-in-TstbD-clause-row : goal.returns-in-TstbD-clause-row
unfolding row_of
returns-in-TstbD-clause-row g c = row_as c.test-in-TstbD.result (g.P.Processor.machine c.test-in-TstbD.new.p) (at_pc (g.P.Processor.machine c.args.p.now) c.args.pc) c.args.word (Tst Byte (operand_of c.args.word)) (go (tested (at_pc (g.P.Processor.machine c.args.p.now) c.args.pc) Byte (operand_of c.args.word) (λ x. result_of Byte x false false))) (handled c.args.handler handler.TstbD c.args.word c.in-TstbD.is c.requires.handles).is refl c.test-in-TstbD.ensures.row

pub test-requires-in-TstbP-clause-dest : goal.test-requires-in-TstbP-clause-dest
test-requires-in-TstbP-clause-dest g c = (handled c.args.handler handler.TstbP c.args.word c.in-TstbP.is c.requires.handles).dest

pub returns-in-TstbP-clause-row : goal.returns-in-TstbP-clause-row
unfolding row_of
returns-in-TstbP-clause-row g c = row_as c.test-in-TstbP.result (g.P.Processor.machine c.test-in-TstbP.new.p) (at_pc (g.P.Processor.machine c.args.p.now) c.args.pc) c.args.word (Tst Byte (operand_of c.args.word)) (go (tested (at_pc (g.P.Processor.machine c.args.p.now) c.args.pc) Byte (operand_of c.args.word) (λ x. result_of Byte x false false))) (handled c.args.handler handler.TstbP c.args.word c.in-TstbP.is c.requires.handles).is refl c.test-in-TstbP.ensures.row
