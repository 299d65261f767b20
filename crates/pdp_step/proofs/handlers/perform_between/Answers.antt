-- A handler says what its word is.
use Rattle.std.proofs.Common.{◌/◌, refl}
use Rattle.pdp_decode.specs.declared.instr.Width.TheVariants.{Word}
use Rattle.pdp_decode.specs.declared.instr.Instr.TheVariants.{Mov, Cmp, Bit, Bic, Bis, Add}
use Rattle.pdp_decode.specs.declared.handler.Handler.TheVariants as handler
use Rattle.pdp_decode.specs.Decode.{operand_of}
use Rattle.pdp_step.specs.Machine.{carry_in}
use Rattle.pdp_step.specs.Arithmetic.{Compare, TestBits, ClearBits, SetBits, Sum, combine_of}
use Rattle.pdp_step.specs.Rows.{moved, compared, joined}
use Rattle.pdp_step.specs.Instruction.{go, row_of}
use Rattle.pdp_step.specs.Parts.{at_pc}
use Rattle.pdp_step.proofs.TableRows.{handled, row_as}
use Rattle.pdp_step.proofs.handlers.perform_between.Goals as goal

pub move_to-requires-clause-source : goal.move_to-requires-clause-source
move_to-requires-clause-source g c = (handled c.args.handler handler.MovDD c.args.word c.in-MovDD.is c.requires.handles).source

pub move_to-requires-clause-dest : goal.move_to-requires-clause-dest
move_to-requires-clause-dest g c = (handled c.args.handler handler.MovDD c.args.word c.in-MovDD.is c.requires.handles).dest

pub returns-in-MovDD-clause-row : goal.returns-in-MovDD-clause-row
unfolding row_of
returns-in-MovDD-clause-row g c = row_as c.move_to.result (g.P.Processor.machine c.move_to.new.p) (at_pc (g.P.Processor.machine c.args.p.now) c.args.pc) c.args.word (Mov Word (operand_of (c.args.word / 64)) (operand_of c.args.word)) (go (moved (at_pc (g.P.Processor.machine c.args.p.now) c.args.pc) Word (operand_of (c.args.word / 64)) (operand_of c.args.word))) (handled c.args.handler handler.MovDD c.args.word c.in-MovDD.is c.requires.handles).is refl c.move_to.ensures.row

pub move_to-requires-in-MovAA-clause-source : goal.move_to-requires-in-MovAA-clause-source
move_to-requires-in-MovAA-clause-source g c = (handled c.args.handler handler.MovAA c.args.word c.in-MovAA.is c.requires.handles).source

pub move_to-requires-in-MovAA-clause-dest : goal.move_to-requires-in-MovAA-clause-dest
move_to-requires-in-MovAA-clause-dest g c = (handled c.args.handler handler.MovAA c.args.word c.in-MovAA.is c.requires.handles).dest

pub returns-in-MovAA-clause-row : goal.returns-in-MovAA-clause-row
unfolding row_of
returns-in-MovAA-clause-row g c = row_as c.move_to-in-MovAA.result (g.P.Processor.machine c.move_to-in-MovAA.new.p) (at_pc (g.P.Processor.machine c.args.p.now) c.args.pc) c.args.word (Mov Word (operand_of (c.args.word / 64)) (operand_of c.args.word)) (go (moved (at_pc (g.P.Processor.machine c.args.p.now) c.args.pc) Word (operand_of (c.args.word / 64)) (operand_of c.args.word))) (handled c.args.handler handler.MovAA c.args.word c.in-MovAA.is c.requires.handles).is refl c.move_to-in-MovAA.ensures.row

pub move_to-requires-in-MovDM-clause-source : goal.move_to-requires-in-MovDM-clause-source
move_to-requires-in-MovDM-clause-source g c = (handled c.args.handler handler.MovDM c.args.word c.in-MovDM.is c.requires.handles).source

pub move_to-requires-in-MovDM-clause-dest : goal.move_to-requires-in-MovDM-clause-dest
move_to-requires-in-MovDM-clause-dest g c = (handled c.args.handler handler.MovDM c.args.word c.in-MovDM.is c.requires.handles).dest

pub returns-in-MovDM-clause-row : goal.returns-in-MovDM-clause-row
unfolding row_of
returns-in-MovDM-clause-row g c = row_as c.move_to-in-MovDM.result (g.P.Processor.machine c.move_to-in-MovDM.new.p) (at_pc (g.P.Processor.machine c.args.p.now) c.args.pc) c.args.word (Mov Word (operand_of (c.args.word / 64)) (operand_of c.args.word)) (go (moved (at_pc (g.P.Processor.machine c.args.p.now) c.args.pc) Word (operand_of (c.args.word / 64)) (operand_of c.args.word))) (handled c.args.handler handler.MovDM c.args.word c.in-MovDM.is c.requires.handles).is refl c.move_to-in-MovDM.ensures.row

pub move_to-requires-in-MovID-clause-source : goal.move_to-requires-in-MovID-clause-source
move_to-requires-in-MovID-clause-source g c = (handled c.args.handler handler.MovID c.args.word c.in-MovID.is c.requires.handles).source

pub move_to-requires-in-MovID-clause-dest : goal.move_to-requires-in-MovID-clause-dest
move_to-requires-in-MovID-clause-dest g c = (handled c.args.handler handler.MovID c.args.word c.in-MovID.is c.requires.handles).dest

pub returns-in-MovID-clause-row : goal.returns-in-MovID-clause-row
unfolding row_of
returns-in-MovID-clause-row g c = row_as c.move_to-in-MovID.result (g.P.Processor.machine c.move_to-in-MovID.new.p) (at_pc (g.P.Processor.machine c.args.p.now) c.args.pc) c.args.word (Mov Word (operand_of (c.args.word / 64)) (operand_of c.args.word)) (go (moved (at_pc (g.P.Processor.machine c.args.p.now) c.args.pc) Word (operand_of (c.args.word / 64)) (operand_of c.args.word))) (handled c.args.handler handler.MovID c.args.word c.in-MovID.is c.requires.handles).is refl c.move_to-in-MovID.ensures.row

pub move_to-requires-in-MovXD-clause-source : goal.move_to-requires-in-MovXD-clause-source
move_to-requires-in-MovXD-clause-source g c = (handled c.args.handler handler.MovXD c.args.word c.in-MovXD.is c.requires.handles).source

pub move_to-requires-in-MovXD-clause-dest : goal.move_to-requires-in-MovXD-clause-dest
move_to-requires-in-MovXD-clause-dest g c = (handled c.args.handler handler.MovXD c.args.word c.in-MovXD.is c.requires.handles).dest

pub returns-in-MovXD-clause-row : goal.returns-in-MovXD-clause-row
unfolding row_of
returns-in-MovXD-clause-row g c = row_as c.move_to-in-MovXD.result (g.P.Processor.machine c.move_to-in-MovXD.new.p) (at_pc (g.P.Processor.machine c.args.p.now) c.args.pc) c.args.word (Mov Word (operand_of (c.args.word / 64)) (operand_of c.args.word)) (go (moved (at_pc (g.P.Processor.machine c.args.p.now) c.args.pc) Word (operand_of (c.args.word / 64)) (operand_of c.args.word))) (handled c.args.handler handler.MovXD c.args.word c.in-MovXD.is c.requires.handles).is refl c.move_to-in-MovXD.ensures.row

pub move_to-requires-in-MovDX-clause-source : goal.move_to-requires-in-MovDX-clause-source
move_to-requires-in-MovDX-clause-source g c = (handled c.args.handler handler.MovDX c.args.word c.in-MovDX.is c.requires.handles).source

pub move_to-requires-in-MovDX-clause-dest : goal.move_to-requires-in-MovDX-clause-dest
move_to-requires-in-MovDX-clause-dest g c = (handled c.args.handler handler.MovDX c.args.word c.in-MovDX.is c.requires.handles).dest

pub returns-in-MovDX-clause-row : goal.returns-in-MovDX-clause-row
unfolding row_of
returns-in-MovDX-clause-row g c = row_as c.move_to-in-MovDX.result (g.P.Processor.machine c.move_to-in-MovDX.new.p) (at_pc (g.P.Processor.machine c.args.p.now) c.args.pc) c.args.word (Mov Word (operand_of (c.args.word / 64)) (operand_of c.args.word)) (go (moved (at_pc (g.P.Processor.machine c.args.p.now) c.args.pc) Word (operand_of (c.args.word / 64)) (operand_of c.args.word))) (handled c.args.handler handler.MovDX c.args.word c.in-MovDX.is c.requires.handles).is refl c.move_to-in-MovDX.ensures.row

pub compare-requires-clause-source : goal.compare-requires-clause-source
compare-requires-clause-source g c = (handled c.args.handler handler.CmpDD c.args.word c.in-CmpDD.is c.requires.handles).source

pub compare-requires-clause-dest : goal.compare-requires-clause-dest
compare-requires-clause-dest g c = (handled c.args.handler handler.CmpDD c.args.word c.in-CmpDD.is c.requires.handles).dest

pub returns-in-CmpDD-clause-row : goal.returns-in-CmpDD-clause-row
unfolding row_of
returns-in-CmpDD-clause-row g c = row_as c.compare.result (g.P.Processor.machine c.compare.new.p) (at_pc (g.P.Processor.machine c.args.p.now) c.args.pc) c.args.word (Cmp Word (operand_of (c.args.word / 64)) (operand_of c.args.word)) (go (compared (at_pc (g.P.Processor.machine c.args.p.now) c.args.pc) Word (operand_of (c.args.word / 64)) (operand_of c.args.word) (combine_of Compare Word (carry_in (g.P.Processor.machine c.args.p.now))))) (handled c.args.handler handler.CmpDD c.args.word c.in-CmpDD.is c.requires.handles).is refl c.compare.ensures.row

pub compare-requires-in-CmpAA-clause-source : goal.compare-requires-in-CmpAA-clause-source
compare-requires-in-CmpAA-clause-source g c = (handled c.args.handler handler.CmpAA c.args.word c.in-CmpAA.is c.requires.handles).source

pub compare-requires-in-CmpAA-clause-dest : goal.compare-requires-in-CmpAA-clause-dest
compare-requires-in-CmpAA-clause-dest g c = (handled c.args.handler handler.CmpAA c.args.word c.in-CmpAA.is c.requires.handles).dest

pub returns-in-CmpAA-clause-row : goal.returns-in-CmpAA-clause-row
unfolding row_of
returns-in-CmpAA-clause-row g c = row_as c.compare-in-CmpAA.result (g.P.Processor.machine c.compare-in-CmpAA.new.p) (at_pc (g.P.Processor.machine c.args.p.now) c.args.pc) c.args.word (Cmp Word (operand_of (c.args.word / 64)) (operand_of c.args.word)) (go (compared (at_pc (g.P.Processor.machine c.args.p.now) c.args.pc) Word (operand_of (c.args.word / 64)) (operand_of c.args.word) (combine_of Compare Word (carry_in (g.P.Processor.machine c.args.p.now))))) (handled c.args.handler handler.CmpAA c.args.word c.in-CmpAA.is c.requires.handles).is refl c.compare-in-CmpAA.ensures.row

pub compare-requires-in-CmpDI-clause-source : goal.compare-requires-in-CmpDI-clause-source
compare-requires-in-CmpDI-clause-source g c = (handled c.args.handler handler.CmpDI c.args.word c.in-CmpDI.is c.requires.handles).source

pub compare-requires-in-CmpDI-clause-dest : goal.compare-requires-in-CmpDI-clause-dest
compare-requires-in-CmpDI-clause-dest g c = (handled c.args.handler handler.CmpDI c.args.word c.in-CmpDI.is c.requires.handles).dest

pub returns-in-CmpDI-clause-row : goal.returns-in-CmpDI-clause-row
unfolding row_of
returns-in-CmpDI-clause-row g c = row_as c.compare-in-CmpDI.result (g.P.Processor.machine c.compare-in-CmpDI.new.p) (at_pc (g.P.Processor.machine c.args.p.now) c.args.pc) c.args.word (Cmp Word (operand_of (c.args.word / 64)) (operand_of c.args.word)) (go (compared (at_pc (g.P.Processor.machine c.args.p.now) c.args.pc) Word (operand_of (c.args.word / 64)) (operand_of c.args.word) (combine_of Compare Word (carry_in (g.P.Processor.machine c.args.p.now))))) (handled c.args.handler handler.CmpDI c.args.word c.in-CmpDI.is c.requires.handles).is refl c.compare-in-CmpDI.ensures.row

pub join-requires-clause-source : goal.join-requires-clause-source
join-requires-clause-source g c = (handled c.args.handler handler.AddDD c.args.word c.in-AddDD.is c.requires.handles).source

pub join-requires-clause-dest : goal.join-requires-clause-dest
join-requires-clause-dest g c = (handled c.args.handler handler.AddDD c.args.word c.in-AddDD.is c.requires.handles).dest

pub returns-in-AddDD-clause-row : goal.returns-in-AddDD-clause-row
unfolding row_of
returns-in-AddDD-clause-row g c = row_as c.join.result (g.P.Processor.machine c.join.new.p) (at_pc (g.P.Processor.machine c.args.p.now) c.args.pc) c.args.word (Add (operand_of (c.args.word / 64)) (operand_of c.args.word)) (go (joined (at_pc (g.P.Processor.machine c.args.p.now) c.args.pc) Word (operand_of (c.args.word / 64)) (operand_of c.args.word) (combine_of Sum Word (carry_in (g.P.Processor.machine c.args.p.now))))) (handled c.args.handler handler.AddDD c.args.word c.in-AddDD.is c.requires.handles).is refl c.join.ensures.row

pub join-requires-in-AddAA-clause-source : goal.join-requires-in-AddAA-clause-source
join-requires-in-AddAA-clause-source g c = (handled c.args.handler handler.AddAA c.args.word c.in-AddAA.is c.requires.handles).source

pub join-requires-in-AddAA-clause-dest : goal.join-requires-in-AddAA-clause-dest
join-requires-in-AddAA-clause-dest g c = (handled c.args.handler handler.AddAA c.args.word c.in-AddAA.is c.requires.handles).dest

pub returns-in-AddAA-clause-row : goal.returns-in-AddAA-clause-row
unfolding row_of
returns-in-AddAA-clause-row g c = row_as c.join-in-AddAA.result (g.P.Processor.machine c.join-in-AddAA.new.p) (at_pc (g.P.Processor.machine c.args.p.now) c.args.pc) c.args.word (Add (operand_of (c.args.word / 64)) (operand_of c.args.word)) (go (joined (at_pc (g.P.Processor.machine c.args.p.now) c.args.pc) Word (operand_of (c.args.word / 64)) (operand_of c.args.word) (combine_of Sum Word (carry_in (g.P.Processor.machine c.args.p.now))))) (handled c.args.handler handler.AddAA c.args.word c.in-AddAA.is c.requires.handles).is refl c.join-in-AddAA.ensures.row

pub join-requires-in-AddID-clause-source : goal.join-requires-in-AddID-clause-source
join-requires-in-AddID-clause-source g c = (handled c.args.handler handler.AddID c.args.word c.in-AddID.is c.requires.handles).source

pub join-requires-in-AddID-clause-dest : goal.join-requires-in-AddID-clause-dest
join-requires-in-AddID-clause-dest g c = (handled c.args.handler handler.AddID c.args.word c.in-AddID.is c.requires.handles).dest

pub returns-in-AddID-clause-row : goal.returns-in-AddID-clause-row
unfolding row_of
returns-in-AddID-clause-row g c = row_as c.join-in-AddID.result (g.P.Processor.machine c.join-in-AddID.new.p) (at_pc (g.P.Processor.machine c.args.p.now) c.args.pc) c.args.word (Add (operand_of (c.args.word / 64)) (operand_of c.args.word)) (go (joined (at_pc (g.P.Processor.machine c.args.p.now) c.args.pc) Word (operand_of (c.args.word / 64)) (operand_of c.args.word) (combine_of Sum Word (carry_in (g.P.Processor.machine c.args.p.now))))) (handled c.args.handler handler.AddID c.args.word c.in-AddID.is c.requires.handles).is refl c.join-in-AddID.ensures.row

pub compare-requires-in-BitIA-clause-source : goal.compare-requires-in-BitIA-clause-source
compare-requires-in-BitIA-clause-source g c = (handled c.args.handler handler.BitIA c.args.word c.in-BitIA.is c.requires.handles).source

pub compare-requires-in-BitIA-clause-dest : goal.compare-requires-in-BitIA-clause-dest
compare-requires-in-BitIA-clause-dest g c = (handled c.args.handler handler.BitIA c.args.word c.in-BitIA.is c.requires.handles).dest

pub returns-in-BitIA-clause-row : goal.returns-in-BitIA-clause-row
unfolding row_of
returns-in-BitIA-clause-row g c = row_as c.compare-in-BitIA.result (g.P.Processor.machine c.compare-in-BitIA.new.p) (at_pc (g.P.Processor.machine c.args.p.now) c.args.pc) c.args.word (Bit Word (operand_of (c.args.word / 64)) (operand_of c.args.word)) (go (compared (at_pc (g.P.Processor.machine c.args.p.now) c.args.pc) Word (operand_of (c.args.word / 64)) (operand_of c.args.word) (combine_of TestBits Word (carry_in (g.P.Processor.machine c.args.p.now))))) (handled c.args.handler handler.BitIA c.args.word c.in-BitIA.is c.requires.handles).is refl c.compare-in-BitIA.ensures.row

pub compare-requires-in-BitIX-clause-source : goal.compare-requires-in-BitIX-clause-source
compare-requires-in-BitIX-clause-source g c = (handled c.args.handler handler.BitIX c.args.word c.in-BitIX.is c.requires.handles).source

pub compare-requires-in-BitIX-clause-dest : goal.compare-requires-in-BitIX-clause-dest
compare-requires-in-BitIX-clause-dest g c = (handled c.args.handler handler.BitIX c.args.word c.in-BitIX.is c.requires.handles).dest

pub returns-in-BitIX-clause-row : goal.returns-in-BitIX-clause-row
unfolding row_of
returns-in-BitIX-clause-row g c = row_as c.compare-in-BitIX.result (g.P.Processor.machine c.compare-in-BitIX.new.p) (at_pc (g.P.Processor.machine c.args.p.now) c.args.pc) c.args.word (Bit Word (operand_of (c.args.word / 64)) (operand_of c.args.word)) (go (compared (at_pc (g.P.Processor.machine c.args.p.now) c.args.pc) Word (operand_of (c.args.word / 64)) (operand_of c.args.word) (combine_of TestBits Word (carry_in (g.P.Processor.machine c.args.p.now))))) (handled c.args.handler handler.BitIX c.args.word c.in-BitIX.is c.requires.handles).is refl c.compare-in-BitIX.ensures.row

pub join-requires-in-BisIA-clause-source : goal.join-requires-in-BisIA-clause-source
join-requires-in-BisIA-clause-source g c = (handled c.args.handler handler.BisIA c.args.word c.in-BisIA.is c.requires.handles).source

pub join-requires-in-BisIA-clause-dest : goal.join-requires-in-BisIA-clause-dest
join-requires-in-BisIA-clause-dest g c = (handled c.args.handler handler.BisIA c.args.word c.in-BisIA.is c.requires.handles).dest

pub returns-in-BisIA-clause-row : goal.returns-in-BisIA-clause-row
unfolding row_of
returns-in-BisIA-clause-row g c = row_as c.join-in-BisIA.result (g.P.Processor.machine c.join-in-BisIA.new.p) (at_pc (g.P.Processor.machine c.args.p.now) c.args.pc) c.args.word (Bis Word (operand_of (c.args.word / 64)) (operand_of c.args.word)) (go (joined (at_pc (g.P.Processor.machine c.args.p.now) c.args.pc) Word (operand_of (c.args.word / 64)) (operand_of c.args.word) (combine_of SetBits Word (carry_in (g.P.Processor.machine c.args.p.now))))) (handled c.args.handler handler.BisIA c.args.word c.in-BisIA.is c.requires.handles).is refl c.join-in-BisIA.ensures.row

pub join-requires-in-BicIA-clause-source : goal.join-requires-in-BicIA-clause-source
join-requires-in-BicIA-clause-source g c = (handled c.args.handler handler.BicIA c.args.word c.in-BicIA.is c.requires.handles).source

pub join-requires-in-BicIA-clause-dest : goal.join-requires-in-BicIA-clause-dest
join-requires-in-BicIA-clause-dest g c = (handled c.args.handler handler.BicIA c.args.word c.in-BicIA.is c.requires.handles).dest

pub returns-in-BicIA-clause-row : goal.returns-in-BicIA-clause-row
unfolding row_of
returns-in-BicIA-clause-row g c = row_as c.join-in-BicIA.result (g.P.Processor.machine c.join-in-BicIA.new.p) (at_pc (g.P.Processor.machine c.args.p.now) c.args.pc) c.args.word (Bic Word (operand_of (c.args.word / 64)) (operand_of c.args.word)) (go (joined (at_pc (g.P.Processor.machine c.args.p.now) c.args.pc) Word (operand_of (c.args.word / 64)) (operand_of c.args.word) (combine_of ClearBits Word (carry_in (g.P.Processor.machine c.args.p.now))))) (handled c.args.handler handler.BicIA c.args.word c.in-BicIA.is c.requires.handles).is refl c.join-in-BicIA.ensures.row

pub move_to-requires-in-MovXX-clause-source : goal.move_to-requires-in-MovXX-clause-source
move_to-requires-in-MovXX-clause-source g c = (handled c.args.handler handler.MovXX c.args.word c.in-MovXX.is c.requires.handles).source

pub move_to-requires-in-MovXX-clause-dest : goal.move_to-requires-in-MovXX-clause-dest
move_to-requires-in-MovXX-clause-dest g c = (handled c.args.handler handler.MovXX c.args.word c.in-MovXX.is c.requires.handles).dest

pub returns-in-MovXX-clause-row : goal.returns-in-MovXX-clause-row
unfolding row_of
returns-in-MovXX-clause-row g c = row_as c.move_to-in-MovXX.result (g.P.Processor.machine c.move_to-in-MovXX.new.p) (at_pc (g.P.Processor.machine c.args.p.now) c.args.pc) c.args.word (Mov Word (operand_of (c.args.word / 64)) (operand_of c.args.word)) (go (moved (at_pc (g.P.Processor.machine c.args.p.now) c.args.pc) Word (operand_of (c.args.word / 64)) (operand_of c.args.word))) (handled c.args.handler handler.MovXX c.args.word c.in-MovXX.is c.requires.handles).is refl c.move_to-in-MovXX.ensures.row

pub move_to-requires-in-MovXM-clause-source : goal.move_to-requires-in-MovXM-clause-source
move_to-requires-in-MovXM-clause-source g c = (handled c.args.handler handler.MovXM c.args.word c.in-MovXM.is c.requires.handles).source

pub move_to-requires-in-MovXM-clause-dest : goal.move_to-requires-in-MovXM-clause-dest
move_to-requires-in-MovXM-clause-dest g c = (handled c.args.handler handler.MovXM c.args.word c.in-MovXM.is c.requires.handles).dest

pub returns-in-MovXM-clause-row : goal.returns-in-MovXM-clause-row
unfolding row_of
returns-in-MovXM-clause-row g c = row_as c.move_to-in-MovXM.result (g.P.Processor.machine c.move_to-in-MovXM.new.p) (at_pc (g.P.Processor.machine c.args.p.now) c.args.pc) c.args.word (Mov Word (operand_of (c.args.word / 64)) (operand_of c.args.word)) (go (moved (at_pc (g.P.Processor.machine c.args.p.now) c.args.pc) Word (operand_of (c.args.word / 64)) (operand_of c.args.word))) (handled c.args.handler handler.MovXM c.args.word c.in-MovXM.is c.requires.handles).is refl c.move_to-in-MovXM.ensures.row

pub move_to-requires-in-MovAM-clause-source : goal.move_to-requires-in-MovAM-clause-source
move_to-requires-in-MovAM-clause-source g c = (handled c.args.handler handler.MovAM c.args.word c.in-MovAM.is c.requires.handles).source

pub move_to-requires-in-MovAM-clause-dest : goal.move_to-requires-in-MovAM-clause-dest
move_to-requires-in-MovAM-clause-dest g c = (handled c.args.handler handler.MovAM c.args.word c.in-MovAM.is c.requires.handles).dest

pub returns-in-MovAM-clause-row : goal.returns-in-MovAM-clause-row
unfolding row_of
returns-in-MovAM-clause-row g c = row_as c.move_to-in-MovAM.result (g.P.Processor.machine c.move_to-in-MovAM.new.p) (at_pc (g.P.Processor.machine c.args.p.now) c.args.pc) c.args.word (Mov Word (operand_of (c.args.word / 64)) (operand_of c.args.word)) (go (moved (at_pc (g.P.Processor.machine c.args.p.now) c.args.pc) Word (operand_of (c.args.word / 64)) (operand_of c.args.word))) (handled c.args.handler handler.MovAM c.args.word c.in-MovAM.is c.requires.handles).is refl c.move_to-in-MovAM.ensures.row
