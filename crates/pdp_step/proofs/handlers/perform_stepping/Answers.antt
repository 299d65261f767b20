-- A handler says what its word is.
use Rattle.std.proofs.Common.{◌/◌, refl}
use Rattle.pdp_decode.specs.declared.instr.Width.TheVariants.{Word, Byte}
use Rattle.pdp_decode.specs.declared.instr.Instr.TheVariants.{Mov, Cmp}
use Rattle.pdp_decode.specs.declared.handler.Handler.TheVariants as handler
use Rattle.pdp_decode.specs.Decode.{operand_of}
use Rattle.pdp_step.specs.Machine.{carry_in}
use Rattle.pdp_step.specs.Arithmetic.{Compare, combine_of}
use Rattle.pdp_step.specs.Rows.{moved, compared}
use Rattle.pdp_step.specs.Instruction.{go, row_of}
use Rattle.pdp_step.specs.Parts.{at_pc}
use Rattle.pdp_step.proofs.TableRows.{handled, row_as}
use Rattle.pdp_step.proofs.handlers.perform_stepping.Goals as goal

pub move_to-requires-clause-source : goal.move_to-requires-clause-source
move_to-requires-clause-source g c = (handled c.args.handler handler.MovPP c.args.word c.in-MovPP.is c.requires.handles).source

pub move_to-requires-clause-dest : goal.move_to-requires-clause-dest
move_to-requires-clause-dest g c = (handled c.args.handler handler.MovPP c.args.word c.in-MovPP.is c.requires.handles).dest

pub returns-in-MovPP-clause-row : goal.returns-in-MovPP-clause-row
unfolding row_of
returns-in-MovPP-clause-row g c = row_as c.move_to.result (g.P.Processor.machine c.move_to.new.p) (at_pc (g.P.Processor.machine c.args.p.now) c.args.pc) c.args.word (Mov Word (operand_of (c.args.word / 64)) (operand_of c.args.word)) (go (moved (at_pc (g.P.Processor.machine c.args.p.now) c.args.pc) Word (operand_of (c.args.word / 64)) (operand_of c.args.word))) (handled c.args.handler handler.MovPP c.args.word c.in-MovPP.is c.requires.handles).is refl c.move_to.ensures.row

pub move_to-requires-in-MovPD-clause-source : goal.move_to-requires-in-MovPD-clause-source
move_to-requires-in-MovPD-clause-source g c = (handled c.args.handler handler.MovPD c.args.word c.in-MovPD.is c.requires.handles).source

pub move_to-requires-in-MovPD-clause-dest : goal.move_to-requires-in-MovPD-clause-dest
move_to-requires-in-MovPD-clause-dest g c = (handled c.args.handler handler.MovPD c.args.word c.in-MovPD.is c.requires.handles).dest

pub returns-in-MovPD-clause-row : goal.returns-in-MovPD-clause-row
unfolding row_of
returns-in-MovPD-clause-row g c = row_as c.move_to-in-MovPD.result (g.P.Processor.machine c.move_to-in-MovPD.new.p) (at_pc (g.P.Processor.machine c.args.p.now) c.args.pc) c.args.word (Mov Word (operand_of (c.args.word / 64)) (operand_of c.args.word)) (go (moved (at_pc (g.P.Processor.machine c.args.p.now) c.args.pc) Word (operand_of (c.args.word / 64)) (operand_of c.args.word))) (handled c.args.handler handler.MovPD c.args.word c.in-MovPD.is c.requires.handles).is refl c.move_to-in-MovPD.ensures.row

pub move_to-requires-in-MovPM-clause-source : goal.move_to-requires-in-MovPM-clause-source
move_to-requires-in-MovPM-clause-source g c = (handled c.args.handler handler.MovPM c.args.word c.in-MovPM.is c.requires.handles).source

pub move_to-requires-in-MovPM-clause-dest : goal.move_to-requires-in-MovPM-clause-dest
move_to-requires-in-MovPM-clause-dest g c = (handled c.args.handler handler.MovPM c.args.word c.in-MovPM.is c.requires.handles).dest

pub returns-in-MovPM-clause-row : goal.returns-in-MovPM-clause-row
unfolding row_of
returns-in-MovPM-clause-row g c = row_as c.move_to-in-MovPM.result (g.P.Processor.machine c.move_to-in-MovPM.new.p) (at_pc (g.P.Processor.machine c.args.p.now) c.args.pc) c.args.word (Mov Word (operand_of (c.args.word / 64)) (operand_of c.args.word)) (go (moved (at_pc (g.P.Processor.machine c.args.p.now) c.args.pc) Word (operand_of (c.args.word / 64)) (operand_of c.args.word))) (handled c.args.handler handler.MovPM c.args.word c.in-MovPM.is c.requires.handles).is refl c.move_to-in-MovPM.ensures.row

pub move_to-requires-in-MovPX-clause-source : goal.move_to-requires-in-MovPX-clause-source
move_to-requires-in-MovPX-clause-source g c = (handled c.args.handler handler.MovPX c.args.word c.in-MovPX.is c.requires.handles).source

pub move_to-requires-in-MovPX-clause-dest : goal.move_to-requires-in-MovPX-clause-dest
move_to-requires-in-MovPX-clause-dest g c = (handled c.args.handler handler.MovPX c.args.word c.in-MovPX.is c.requires.handles).dest

pub returns-in-MovPX-clause-row : goal.returns-in-MovPX-clause-row
unfolding row_of
returns-in-MovPX-clause-row g c = row_as c.move_to-in-MovPX.result (g.P.Processor.machine c.move_to-in-MovPX.new.p) (at_pc (g.P.Processor.machine c.args.p.now) c.args.pc) c.args.word (Mov Word (operand_of (c.args.word / 64)) (operand_of c.args.word)) (go (moved (at_pc (g.P.Processor.machine c.args.p.now) c.args.pc) Word (operand_of (c.args.word / 64)) (operand_of c.args.word))) (handled c.args.handler handler.MovPX c.args.word c.in-MovPX.is c.requires.handles).is refl c.move_to-in-MovPX.ensures.row

pub move_to-requires-in-MovbPP-clause-source : goal.move_to-requires-in-MovbPP-clause-source
move_to-requires-in-MovbPP-clause-source g c = (handled c.args.handler handler.MovbPP c.args.word c.in-MovbPP.is c.requires.handles).source

pub move_to-requires-in-MovbPP-clause-dest : goal.move_to-requires-in-MovbPP-clause-dest
move_to-requires-in-MovbPP-clause-dest g c = (handled c.args.handler handler.MovbPP c.args.word c.in-MovbPP.is c.requires.handles).dest

pub returns-in-MovbPP-clause-row : goal.returns-in-MovbPP-clause-row
unfolding row_of
returns-in-MovbPP-clause-row g c = row_as c.move_to-in-MovbPP.result (g.P.Processor.machine c.move_to-in-MovbPP.new.p) (at_pc (g.P.Processor.machine c.args.p.now) c.args.pc) c.args.word (Mov Byte (operand_of (c.args.word / 64)) (operand_of c.args.word)) (go (moved (at_pc (g.P.Processor.machine c.args.p.now) c.args.pc) Byte (operand_of (c.args.word / 64)) (operand_of c.args.word))) (handled c.args.handler handler.MovbPP c.args.word c.in-MovbPP.is c.requires.handles).is refl c.move_to-in-MovbPP.ensures.row

pub move_to-requires-in-MovbPD-clause-source : goal.move_to-requires-in-MovbPD-clause-source
move_to-requires-in-MovbPD-clause-source g c = (handled c.args.handler handler.MovbPD c.args.word c.in-MovbPD.is c.requires.handles).source

pub move_to-requires-in-MovbPD-clause-dest : goal.move_to-requires-in-MovbPD-clause-dest
move_to-requires-in-MovbPD-clause-dest g c = (handled c.args.handler handler.MovbPD c.args.word c.in-MovbPD.is c.requires.handles).dest

pub returns-in-MovbPD-clause-row : goal.returns-in-MovbPD-clause-row
unfolding row_of
returns-in-MovbPD-clause-row g c = row_as c.move_to-in-MovbPD.result (g.P.Processor.machine c.move_to-in-MovbPD.new.p) (at_pc (g.P.Processor.machine c.args.p.now) c.args.pc) c.args.word (Mov Byte (operand_of (c.args.word / 64)) (operand_of c.args.word)) (go (moved (at_pc (g.P.Processor.machine c.args.p.now) c.args.pc) Byte (operand_of (c.args.word / 64)) (operand_of c.args.word))) (handled c.args.handler handler.MovbPD c.args.word c.in-MovbPD.is c.requires.handles).is refl c.move_to-in-MovbPD.ensures.row

pub compare-requires-clause-source : goal.compare-requires-clause-source
compare-requires-clause-source g c = (handled c.args.handler handler.CmpbPI c.args.word c.in-CmpbPI.is c.requires.handles).source

pub compare-requires-clause-dest : goal.compare-requires-clause-dest
compare-requires-clause-dest g c = (handled c.args.handler handler.CmpbPI c.args.word c.in-CmpbPI.is c.requires.handles).dest

pub returns-in-CmpbPI-clause-row : goal.returns-in-CmpbPI-clause-row
unfolding row_of
returns-in-CmpbPI-clause-row g c = row_as c.compare.result (g.P.Processor.machine c.compare.new.p) (at_pc (g.P.Processor.machine c.args.p.now) c.args.pc) c.args.word (Cmp Byte (operand_of (c.args.word / 64)) (operand_of c.args.word)) (go (compared (at_pc (g.P.Processor.machine c.args.p.now) c.args.pc) Byte (operand_of (c.args.word / 64)) (operand_of c.args.word) (combine_of Compare Byte (carry_in (g.P.Processor.machine c.args.p.now))))) (handled c.args.handler handler.CmpbPI c.args.word c.in-CmpbPI.is c.requires.handles).is refl c.compare.ensures.row

pub compare-requires-in-CmpbPP-clause-source : goal.compare-requires-in-CmpbPP-clause-source
compare-requires-in-CmpbPP-clause-source g c = (handled c.args.handler handler.CmpbPP c.args.word c.in-CmpbPP.is c.requires.handles).source

pub compare-requires-in-CmpbPP-clause-dest : goal.compare-requires-in-CmpbPP-clause-dest
compare-requires-in-CmpbPP-clause-dest g c = (handled c.args.handler handler.CmpbPP c.args.word c.in-CmpbPP.is c.requires.handles).dest

pub returns-in-CmpbPP-clause-row : goal.returns-in-CmpbPP-clause-row
unfolding row_of
returns-in-CmpbPP-clause-row g c = row_as c.compare-in-CmpbPP.result (g.P.Processor.machine c.compare-in-CmpbPP.new.p) (at_pc (g.P.Processor.machine c.args.p.now) c.args.pc) c.args.word (Cmp Byte (operand_of (c.args.word / 64)) (operand_of c.args.word)) (go (compared (at_pc (g.P.Processor.machine c.args.p.now) c.args.pc) Byte (operand_of (c.args.word / 64)) (operand_of c.args.word) (combine_of Compare Byte (carry_in (g.P.Processor.machine c.args.p.now))))) (handled c.args.handler handler.CmpbPP c.args.word c.in-CmpbPP.is c.requires.handles).is refl c.compare-in-CmpbPP.ensures.row
