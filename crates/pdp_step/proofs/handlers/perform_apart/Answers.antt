-- A handler says what its word is.
use Rattle.std.proofs.Common.{◌/◌, false, refl}
use Rattle.pdp_decode.specs.declared.instr.Width.TheVariants.{Word}
use Rattle.pdp_decode.specs.declared.instr.Instr.TheVariants.{Mov, Cmp, Bit, Bic, Bis, Add, Sub, Clr, Inc, Dec, Tst}
use Rattle.pdp_decode.specs.declared.handler.Handler.TheVariants as handler
use Rattle.pdp_decode.specs.Decode.{operand_of}
use Rattle.pdp_step.specs.Machine.{carry_in}
use Rattle.pdp_step.specs.Arithmetic.{Increase, Decrease, Compare, TestBits, ClearBits, SetBits, Sum, Difference, result_of, change_of, combine_of}
use Rattle.pdp_step.specs.Rows.{moved, compared, joined, modified, replaced, tested}
use Rattle.pdp_step.specs.Instruction.{go, row_of}
use Rattle.pdp_step.specs.Parts.{at_pc}
use Rattle.pdp_step.proofs.TableRows.{handled, row_as}
use Rattle.pdp_step.proofs.handlers.perform_apart.Goals as goal

pub move_to-requires-clause-source : goal.move_to-requires-clause-source
move_to-requires-clause-source g c = (handled c.args.handler handler.MovIA c.args.word c.in-MovIA.is c.requires.handles).source

pub move_to-requires-clause-dest : goal.move_to-requires-clause-dest
move_to-requires-clause-dest g c = (handled c.args.handler handler.MovIA c.args.word c.in-MovIA.is c.requires.handles).dest

pub returns-in-MovIA-clause-row : goal.returns-in-MovIA-clause-row
unfolding row_of
returns-in-MovIA-clause-row g c = row_as c.move_to.result (g.P.Processor.machine c.move_to.new.p) (at_pc (g.P.Processor.machine c.args.p.now) c.args.pc) c.args.word (Mov Word (operand_of (c.args.word / 64)) (operand_of c.args.word)) (go (moved (at_pc (g.P.Processor.machine c.args.p.now) c.args.pc) Word (operand_of (c.args.word / 64)) (operand_of c.args.word))) (handled c.args.handler handler.MovIA c.args.word c.in-MovIA.is c.requires.handles).is refl c.move_to.ensures.row

pub move_to-requires-in-MovIX-clause-source : goal.move_to-requires-in-MovIX-clause-source
move_to-requires-in-MovIX-clause-source g c = (handled c.args.handler handler.MovIX c.args.word c.in-MovIX.is c.requires.handles).source

pub move_to-requires-in-MovIX-clause-dest : goal.move_to-requires-in-MovIX-clause-dest
move_to-requires-in-MovIX-clause-dest g c = (handled c.args.handler handler.MovIX c.args.word c.in-MovIX.is c.requires.handles).dest

pub returns-in-MovIX-clause-row : goal.returns-in-MovIX-clause-row
unfolding row_of
returns-in-MovIX-clause-row g c = row_as c.move_to-in-MovIX.result (g.P.Processor.machine c.move_to-in-MovIX.new.p) (at_pc (g.P.Processor.machine c.args.p.now) c.args.pc) c.args.word (Mov Word (operand_of (c.args.word / 64)) (operand_of c.args.word)) (go (moved (at_pc (g.P.Processor.machine c.args.p.now) c.args.pc) Word (operand_of (c.args.word / 64)) (operand_of c.args.word))) (handled c.args.handler handler.MovIX c.args.word c.in-MovIX.is c.requires.handles).is refl c.move_to-in-MovIX.ensures.row

pub move_to-requires-in-MovIM-clause-source : goal.move_to-requires-in-MovIM-clause-source
move_to-requires-in-MovIM-clause-source g c = (handled c.args.handler handler.MovIM c.args.word c.in-MovIM.is c.requires.handles).source

pub move_to-requires-in-MovIM-clause-dest : goal.move_to-requires-in-MovIM-clause-dest
move_to-requires-in-MovIM-clause-dest g c = (handled c.args.handler handler.MovIM c.args.word c.in-MovIM.is c.requires.handles).dest

pub returns-in-MovIM-clause-row : goal.returns-in-MovIM-clause-row
unfolding row_of
returns-in-MovIM-clause-row g c = row_as c.move_to-in-MovIM.result (g.P.Processor.machine c.move_to-in-MovIM.new.p) (at_pc (g.P.Processor.machine c.args.p.now) c.args.pc) c.args.word (Mov Word (operand_of (c.args.word / 64)) (operand_of c.args.word)) (go (moved (at_pc (g.P.Processor.machine c.args.p.now) c.args.pc) Word (operand_of (c.args.word / 64)) (operand_of c.args.word))) (handled c.args.handler handler.MovIM c.args.word c.in-MovIM.is c.requires.handles).is refl c.move_to-in-MovIM.ensures.row

pub compare-requires-clause-source : goal.compare-requires-clause-source
compare-requires-clause-source g c = (handled c.args.handler handler.CmpDR c.args.word c.in-CmpDR.is c.requires.handles).source

pub compare-requires-clause-dest : goal.compare-requires-clause-dest
compare-requires-clause-dest g c = (handled c.args.handler handler.CmpDR c.args.word c.in-CmpDR.is c.requires.handles).dest

pub returns-in-CmpDR-clause-row : goal.returns-in-CmpDR-clause-row
unfolding row_of
returns-in-CmpDR-clause-row g c = row_as c.compare.result (g.P.Processor.machine c.compare.new.p) (at_pc (g.P.Processor.machine c.args.p.now) c.args.pc) c.args.word (Cmp Word (operand_of (c.args.word / 64)) (operand_of c.args.word)) (go (compared (at_pc (g.P.Processor.machine c.args.p.now) c.args.pc) Word (operand_of (c.args.word / 64)) (operand_of c.args.word) (combine_of Compare Word (carry_in (g.P.Processor.machine c.args.p.now))))) (handled c.args.handler handler.CmpDR c.args.word c.in-CmpDR.is c.requires.handles).is refl c.compare.ensures.row

pub compare-requires-in-CmpPR-clause-source : goal.compare-requires-in-CmpPR-clause-source
compare-requires-in-CmpPR-clause-source g c = (handled c.args.handler handler.CmpPR c.args.word c.in-CmpPR.is c.requires.handles).source

pub compare-requires-in-CmpPR-clause-dest : goal.compare-requires-in-CmpPR-clause-dest
compare-requires-in-CmpPR-clause-dest g c = (handled c.args.handler handler.CmpPR c.args.word c.in-CmpPR.is c.requires.handles).dest

pub returns-in-CmpPR-clause-row : goal.returns-in-CmpPR-clause-row
unfolding row_of
returns-in-CmpPR-clause-row g c = row_as c.compare-in-CmpPR.result (g.P.Processor.machine c.compare-in-CmpPR.new.p) (at_pc (g.P.Processor.machine c.args.p.now) c.args.pc) c.args.word (Cmp Word (operand_of (c.args.word / 64)) (operand_of c.args.word)) (go (compared (at_pc (g.P.Processor.machine c.args.p.now) c.args.pc) Word (operand_of (c.args.word / 64)) (operand_of c.args.word) (combine_of Compare Word (carry_in (g.P.Processor.machine c.args.p.now))))) (handled c.args.handler handler.CmpPR c.args.word c.in-CmpPR.is c.requires.handles).is refl c.compare-in-CmpPR.ensures.row

pub compare-requires-in-CmpLR-clause-source : goal.compare-requires-in-CmpLR-clause-source
compare-requires-in-CmpLR-clause-source g c = (handled c.args.handler handler.CmpLR c.args.word c.in-CmpLR.is c.requires.handles).source

pub compare-requires-in-CmpLR-clause-dest : goal.compare-requires-in-CmpLR-clause-dest
compare-requires-in-CmpLR-clause-dest g c = (handled c.args.handler handler.CmpLR c.args.word c.in-CmpLR.is c.requires.handles).dest

pub returns-in-CmpLR-clause-row : goal.returns-in-CmpLR-clause-row
unfolding row_of
returns-in-CmpLR-clause-row g c = row_as c.compare-in-CmpLR.result (g.P.Processor.machine c.compare-in-CmpLR.new.p) (at_pc (g.P.Processor.machine c.args.p.now) c.args.pc) c.args.word (Cmp Word (operand_of (c.args.word / 64)) (operand_of c.args.word)) (go (compared (at_pc (g.P.Processor.machine c.args.p.now) c.args.pc) Word (operand_of (c.args.word / 64)) (operand_of c.args.word) (combine_of Compare Word (carry_in (g.P.Processor.machine c.args.p.now))))) (handled c.args.handler handler.CmpLR c.args.word c.in-CmpLR.is c.requires.handles).is refl c.compare-in-CmpLR.ensures.row

pub compare-requires-in-CmpRA-clause-source : goal.compare-requires-in-CmpRA-clause-source
compare-requires-in-CmpRA-clause-source g c = (handled c.args.handler handler.CmpRA c.args.word c.in-CmpRA.is c.requires.handles).source

pub compare-requires-in-CmpRA-clause-dest : goal.compare-requires-in-CmpRA-clause-dest
compare-requires-in-CmpRA-clause-dest g c = (handled c.args.handler handler.CmpRA c.args.word c.in-CmpRA.is c.requires.handles).dest

pub returns-in-CmpRA-clause-row : goal.returns-in-CmpRA-clause-row
unfolding row_of
returns-in-CmpRA-clause-row g c = row_as c.compare-in-CmpRA.result (g.P.Processor.machine c.compare-in-CmpRA.new.p) (at_pc (g.P.Processor.machine c.args.p.now) c.args.pc) c.args.word (Cmp Word (operand_of (c.args.word / 64)) (operand_of c.args.word)) (go (compared (at_pc (g.P.Processor.machine c.args.p.now) c.args.pc) Word (operand_of (c.args.word / 64)) (operand_of c.args.word) (combine_of Compare Word (carry_in (g.P.Processor.machine c.args.p.now))))) (handled c.args.handler handler.CmpRA c.args.word c.in-CmpRA.is c.requires.handles).is refl c.compare-in-CmpRA.ensures.row

pub compare-requires-in-CmpRX-clause-source : goal.compare-requires-in-CmpRX-clause-source
compare-requires-in-CmpRX-clause-source g c = (handled c.args.handler handler.CmpRX c.args.word c.in-CmpRX.is c.requires.handles).source

pub compare-requires-in-CmpRX-clause-dest : goal.compare-requires-in-CmpRX-clause-dest
compare-requires-in-CmpRX-clause-dest g c = (handled c.args.handler handler.CmpRX c.args.word c.in-CmpRX.is c.requires.handles).dest

pub returns-in-CmpRX-clause-row : goal.returns-in-CmpRX-clause-row
unfolding row_of
returns-in-CmpRX-clause-row g c = row_as c.compare-in-CmpRX.result (g.P.Processor.machine c.compare-in-CmpRX.new.p) (at_pc (g.P.Processor.machine c.args.p.now) c.args.pc) c.args.word (Cmp Word (operand_of (c.args.word / 64)) (operand_of c.args.word)) (go (compared (at_pc (g.P.Processor.machine c.args.p.now) c.args.pc) Word (operand_of (c.args.word / 64)) (operand_of c.args.word) (combine_of Compare Word (carry_in (g.P.Processor.machine c.args.p.now))))) (handled c.args.handler handler.CmpRX c.args.word c.in-CmpRX.is c.requires.handles).is refl c.compare-in-CmpRX.ensures.row

pub compare-requires-in-CmpRD-clause-source : goal.compare-requires-in-CmpRD-clause-source
compare-requires-in-CmpRD-clause-source g c = (handled c.args.handler handler.CmpRD c.args.word c.in-CmpRD.is c.requires.handles).source

pub compare-requires-in-CmpRD-clause-dest : goal.compare-requires-in-CmpRD-clause-dest
compare-requires-in-CmpRD-clause-dest g c = (handled c.args.handler handler.CmpRD c.args.word c.in-CmpRD.is c.requires.handles).dest

pub returns-in-CmpRD-clause-row : goal.returns-in-CmpRD-clause-row
unfolding row_of
returns-in-CmpRD-clause-row g c = row_as c.compare-in-CmpRD.result (g.P.Processor.machine c.compare-in-CmpRD.new.p) (at_pc (g.P.Processor.machine c.args.p.now) c.args.pc) c.args.word (Cmp Word (operand_of (c.args.word / 64)) (operand_of c.args.word)) (go (compared (at_pc (g.P.Processor.machine c.args.p.now) c.args.pc) Word (operand_of (c.args.word / 64)) (operand_of c.args.word) (combine_of Compare Word (carry_in (g.P.Processor.machine c.args.p.now))))) (handled c.args.handler handler.CmpRD c.args.word c.in-CmpRD.is c.requires.handles).is refl c.compare-in-CmpRD.ensures.row

pub compare-requires-in-CmpXI-clause-source : goal.compare-requires-in-CmpXI-clause-source
compare-requires-in-CmpXI-clause-source g c = (handled c.args.handler handler.CmpXI c.args.word c.in-CmpXI.is c.requires.handles).source

pub compare-requires-in-CmpXI-clause-dest : goal.compare-requires-in-CmpXI-clause-dest
compare-requires-in-CmpXI-clause-dest g c = (handled c.args.handler handler.CmpXI c.args.word c.in-CmpXI.is c.requires.handles).dest

pub returns-in-CmpXI-clause-row : goal.returns-in-CmpXI-clause-row
unfolding row_of
returns-in-CmpXI-clause-row g c = row_as c.compare-in-CmpXI.result (g.P.Processor.machine c.compare-in-CmpXI.new.p) (at_pc (g.P.Processor.machine c.args.p.now) c.args.pc) c.args.word (Cmp Word (operand_of (c.args.word / 64)) (operand_of c.args.word)) (go (compared (at_pc (g.P.Processor.machine c.args.p.now) c.args.pc) Word (operand_of (c.args.word / 64)) (operand_of c.args.word) (combine_of Compare Word (carry_in (g.P.Processor.machine c.args.p.now))))) (handled c.args.handler handler.CmpXI c.args.word c.in-CmpXI.is c.requires.handles).is refl c.compare-in-CmpXI.ensures.row

pub compare-requires-in-CmpAI-clause-source : goal.compare-requires-in-CmpAI-clause-source
compare-requires-in-CmpAI-clause-source g c = (handled c.args.handler handler.CmpAI c.args.word c.in-CmpAI.is c.requires.handles).source

pub compare-requires-in-CmpAI-clause-dest : goal.compare-requires-in-CmpAI-clause-dest
compare-requires-in-CmpAI-clause-dest g c = (handled c.args.handler handler.CmpAI c.args.word c.in-CmpAI.is c.requires.handles).dest

pub returns-in-CmpAI-clause-row : goal.returns-in-CmpAI-clause-row
unfolding row_of
returns-in-CmpAI-clause-row g c = row_as c.compare-in-CmpAI.result (g.P.Processor.machine c.compare-in-CmpAI.new.p) (at_pc (g.P.Processor.machine c.args.p.now) c.args.pc) c.args.word (Cmp Word (operand_of (c.args.word / 64)) (operand_of c.args.word)) (go (compared (at_pc (g.P.Processor.machine c.args.p.now) c.args.pc) Word (operand_of (c.args.word / 64)) (operand_of c.args.word) (combine_of Compare Word (carry_in (g.P.Processor.machine c.args.p.now))))) (handled c.args.handler handler.CmpAI c.args.word c.in-CmpAI.is c.requires.handles).is refl c.compare-in-CmpAI.ensures.row

pub join-requires-clause-source : goal.join-requires-clause-source
join-requires-clause-source g c = (handled c.args.handler handler.AddDR c.args.word c.in-AddDR.is c.requires.handles).source

pub join-requires-clause-dest : goal.join-requires-clause-dest
join-requires-clause-dest g c = (handled c.args.handler handler.AddDR c.args.word c.in-AddDR.is c.requires.handles).dest

pub returns-in-AddDR-clause-row : goal.returns-in-AddDR-clause-row
unfolding row_of
returns-in-AddDR-clause-row g c = row_as c.join.result (g.P.Processor.machine c.join.new.p) (at_pc (g.P.Processor.machine c.args.p.now) c.args.pc) c.args.word (Add (operand_of (c.args.word / 64)) (operand_of c.args.word)) (go (joined (at_pc (g.P.Processor.machine c.args.p.now) c.args.pc) Word (operand_of (c.args.word / 64)) (operand_of c.args.word) (combine_of Sum Word (carry_in (g.P.Processor.machine c.args.p.now))))) (handled c.args.handler handler.AddDR c.args.word c.in-AddDR.is c.requires.handles).is refl c.join.ensures.row

pub join-requires-in-AddPR-clause-source : goal.join-requires-in-AddPR-clause-source
join-requires-in-AddPR-clause-source g c = (handled c.args.handler handler.AddPR c.args.word c.in-AddPR.is c.requires.handles).source

pub join-requires-in-AddPR-clause-dest : goal.join-requires-in-AddPR-clause-dest
join-requires-in-AddPR-clause-dest g c = (handled c.args.handler handler.AddPR c.args.word c.in-AddPR.is c.requires.handles).dest

pub returns-in-AddPR-clause-row : goal.returns-in-AddPR-clause-row
unfolding row_of
returns-in-AddPR-clause-row g c = row_as c.join-in-AddPR.result (g.P.Processor.machine c.join-in-AddPR.new.p) (at_pc (g.P.Processor.machine c.args.p.now) c.args.pc) c.args.word (Add (operand_of (c.args.word / 64)) (operand_of c.args.word)) (go (joined (at_pc (g.P.Processor.machine c.args.p.now) c.args.pc) Word (operand_of (c.args.word / 64)) (operand_of c.args.word) (combine_of Sum Word (carry_in (g.P.Processor.machine c.args.p.now))))) (handled c.args.handler handler.AddPR c.args.word c.in-AddPR.is c.requires.handles).is refl c.join-in-AddPR.ensures.row

pub join-requires-in-AddLR-clause-source : goal.join-requires-in-AddLR-clause-source
join-requires-in-AddLR-clause-source g c = (handled c.args.handler handler.AddLR c.args.word c.in-AddLR.is c.requires.handles).source

pub join-requires-in-AddLR-clause-dest : goal.join-requires-in-AddLR-clause-dest
join-requires-in-AddLR-clause-dest g c = (handled c.args.handler handler.AddLR c.args.word c.in-AddLR.is c.requires.handles).dest

pub returns-in-AddLR-clause-row : goal.returns-in-AddLR-clause-row
unfolding row_of
returns-in-AddLR-clause-row g c = row_as c.join-in-AddLR.result (g.P.Processor.machine c.join-in-AddLR.new.p) (at_pc (g.P.Processor.machine c.args.p.now) c.args.pc) c.args.word (Add (operand_of (c.args.word / 64)) (operand_of c.args.word)) (go (joined (at_pc (g.P.Processor.machine c.args.p.now) c.args.pc) Word (operand_of (c.args.word / 64)) (operand_of c.args.word) (combine_of Sum Word (carry_in (g.P.Processor.machine c.args.p.now))))) (handled c.args.handler handler.AddLR c.args.word c.in-AddLR.is c.requires.handles).is refl c.join-in-AddLR.ensures.row

pub join-requires-in-AddRD-clause-source : goal.join-requires-in-AddRD-clause-source
join-requires-in-AddRD-clause-source g c = (handled c.args.handler handler.AddRD c.args.word c.in-AddRD.is c.requires.handles).source

pub join-requires-in-AddRD-clause-dest : goal.join-requires-in-AddRD-clause-dest
join-requires-in-AddRD-clause-dest g c = (handled c.args.handler handler.AddRD c.args.word c.in-AddRD.is c.requires.handles).dest

pub returns-in-AddRD-clause-row : goal.returns-in-AddRD-clause-row
unfolding row_of
returns-in-AddRD-clause-row g c = row_as c.join-in-AddRD.result (g.P.Processor.machine c.join-in-AddRD.new.p) (at_pc (g.P.Processor.machine c.args.p.now) c.args.pc) c.args.word (Add (operand_of (c.args.word / 64)) (operand_of c.args.word)) (go (joined (at_pc (g.P.Processor.machine c.args.p.now) c.args.pc) Word (operand_of (c.args.word / 64)) (operand_of c.args.word) (combine_of Sum Word (carry_in (g.P.Processor.machine c.args.p.now))))) (handled c.args.handler handler.AddRD c.args.word c.in-AddRD.is c.requires.handles).is refl c.join-in-AddRD.ensures.row

pub join-requires-in-AddRP-clause-source : goal.join-requires-in-AddRP-clause-source
join-requires-in-AddRP-clause-source g c = (handled c.args.handler handler.AddRP c.args.word c.in-AddRP.is c.requires.handles).source

pub join-requires-in-AddRP-clause-dest : goal.join-requires-in-AddRP-clause-dest
join-requires-in-AddRP-clause-dest g c = (handled c.args.handler handler.AddRP c.args.word c.in-AddRP.is c.requires.handles).dest

pub returns-in-AddRP-clause-row : goal.returns-in-AddRP-clause-row
unfolding row_of
returns-in-AddRP-clause-row g c = row_as c.join-in-AddRP.result (g.P.Processor.machine c.join-in-AddRP.new.p) (at_pc (g.P.Processor.machine c.args.p.now) c.args.pc) c.args.word (Add (operand_of (c.args.word / 64)) (operand_of c.args.word)) (go (joined (at_pc (g.P.Processor.machine c.args.p.now) c.args.pc) Word (operand_of (c.args.word / 64)) (operand_of c.args.word) (combine_of Sum Word (carry_in (g.P.Processor.machine c.args.p.now))))) (handled c.args.handler handler.AddRP c.args.word c.in-AddRP.is c.requires.handles).is refl c.join-in-AddRP.ensures.row

pub join-requires-in-AddIX-clause-source : goal.join-requires-in-AddIX-clause-source
join-requires-in-AddIX-clause-source g c = (handled c.args.handler handler.AddIX c.args.word c.in-AddIX.is c.requires.handles).source

pub join-requires-in-AddIX-clause-dest : goal.join-requires-in-AddIX-clause-dest
join-requires-in-AddIX-clause-dest g c = (handled c.args.handler handler.AddIX c.args.word c.in-AddIX.is c.requires.handles).dest

pub returns-in-AddIX-clause-row : goal.returns-in-AddIX-clause-row
unfolding row_of
returns-in-AddIX-clause-row g c = row_as c.join-in-AddIX.result (g.P.Processor.machine c.join-in-AddIX.new.p) (at_pc (g.P.Processor.machine c.args.p.now) c.args.pc) c.args.word (Add (operand_of (c.args.word / 64)) (operand_of c.args.word)) (go (joined (at_pc (g.P.Processor.machine c.args.p.now) c.args.pc) Word (operand_of (c.args.word / 64)) (operand_of c.args.word) (combine_of Sum Word (carry_in (g.P.Processor.machine c.args.p.now))))) (handled c.args.handler handler.AddIX c.args.word c.in-AddIX.is c.requires.handles).is refl c.join-in-AddIX.ensures.row

pub join-requires-in-AddIA-clause-source : goal.join-requires-in-AddIA-clause-source
join-requires-in-AddIA-clause-source g c = (handled c.args.handler handler.AddIA c.args.word c.in-AddIA.is c.requires.handles).source

pub join-requires-in-AddIA-clause-dest : goal.join-requires-in-AddIA-clause-dest
join-requires-in-AddIA-clause-dest g c = (handled c.args.handler handler.AddIA c.args.word c.in-AddIA.is c.requires.handles).dest

pub returns-in-AddIA-clause-row : goal.returns-in-AddIA-clause-row
unfolding row_of
returns-in-AddIA-clause-row g c = row_as c.join-in-AddIA.result (g.P.Processor.machine c.join-in-AddIA.new.p) (at_pc (g.P.Processor.machine c.args.p.now) c.args.pc) c.args.word (Add (operand_of (c.args.word / 64)) (operand_of c.args.word)) (go (joined (at_pc (g.P.Processor.machine c.args.p.now) c.args.pc) Word (operand_of (c.args.word / 64)) (operand_of c.args.word) (combine_of Sum Word (carry_in (g.P.Processor.machine c.args.p.now))))) (handled c.args.handler handler.AddIA c.args.word c.in-AddIA.is c.requires.handles).is refl c.join-in-AddIA.ensures.row

pub join-requires-in-SubAR-clause-source : goal.join-requires-in-SubAR-clause-source
join-requires-in-SubAR-clause-source g c = (handled c.args.handler handler.SubAR c.args.word c.in-SubAR.is c.requires.handles).source

pub join-requires-in-SubAR-clause-dest : goal.join-requires-in-SubAR-clause-dest
join-requires-in-SubAR-clause-dest g c = (handled c.args.handler handler.SubAR c.args.word c.in-SubAR.is c.requires.handles).dest

pub returns-in-SubAR-clause-row : goal.returns-in-SubAR-clause-row
unfolding row_of
returns-in-SubAR-clause-row g c = row_as c.join-in-SubAR.result (g.P.Processor.machine c.join-in-SubAR.new.p) (at_pc (g.P.Processor.machine c.args.p.now) c.args.pc) c.args.word (Sub (operand_of (c.args.word / 64)) (operand_of c.args.word)) (go (joined (at_pc (g.P.Processor.machine c.args.p.now) c.args.pc) Word (operand_of (c.args.word / 64)) (operand_of c.args.word) (combine_of Difference Word (carry_in (g.P.Processor.machine c.args.p.now))))) (handled c.args.handler handler.SubAR c.args.word c.in-SubAR.is c.requires.handles).is refl c.join-in-SubAR.ensures.row

pub join-requires-in-SubXR-clause-source : goal.join-requires-in-SubXR-clause-source
join-requires-in-SubXR-clause-source g c = (handled c.args.handler handler.SubXR c.args.word c.in-SubXR.is c.requires.handles).source

pub join-requires-in-SubXR-clause-dest : goal.join-requires-in-SubXR-clause-dest
join-requires-in-SubXR-clause-dest g c = (handled c.args.handler handler.SubXR c.args.word c.in-SubXR.is c.requires.handles).dest

pub returns-in-SubXR-clause-row : goal.returns-in-SubXR-clause-row
unfolding row_of
returns-in-SubXR-clause-row g c = row_as c.join-in-SubXR.result (g.P.Processor.machine c.join-in-SubXR.new.p) (at_pc (g.P.Processor.machine c.args.p.now) c.args.pc) c.args.word (Sub (operand_of (c.args.word / 64)) (operand_of c.args.word)) (go (joined (at_pc (g.P.Processor.machine c.args.p.now) c.args.pc) Word (operand_of (c.args.word / 64)) (operand_of c.args.word) (combine_of Difference Word (carry_in (g.P.Processor.machine c.args.p.now))))) (handled c.args.handler handler.SubXR c.args.word c.in-SubXR.is c.requires.handles).is refl c.join-in-SubXR.ensures.row

pub join-requires-in-SubDR-clause-source : goal.join-requires-in-SubDR-clause-source
join-requires-in-SubDR-clause-source g c = (handled c.args.handler handler.SubDR c.args.word c.in-SubDR.is c.requires.handles).source

pub join-requires-in-SubDR-clause-dest : goal.join-requires-in-SubDR-clause-dest
join-requires-in-SubDR-clause-dest g c = (handled c.args.handler handler.SubDR c.args.word c.in-SubDR.is c.requires.handles).dest

pub returns-in-SubDR-clause-row : goal.returns-in-SubDR-clause-row
unfolding row_of
returns-in-SubDR-clause-row g c = row_as c.join-in-SubDR.result (g.P.Processor.machine c.join-in-SubDR.new.p) (at_pc (g.P.Processor.machine c.args.p.now) c.args.pc) c.args.word (Sub (operand_of (c.args.word / 64)) (operand_of c.args.word)) (go (joined (at_pc (g.P.Processor.machine c.args.p.now) c.args.pc) Word (operand_of (c.args.word / 64)) (operand_of c.args.word) (combine_of Difference Word (carry_in (g.P.Processor.machine c.args.p.now))))) (handled c.args.handler handler.SubDR c.args.word c.in-SubDR.is c.requires.handles).is refl c.join-in-SubDR.ensures.row

pub join-requires-in-SubPR-clause-source : goal.join-requires-in-SubPR-clause-source
join-requires-in-SubPR-clause-source g c = (handled c.args.handler handler.SubPR c.args.word c.in-SubPR.is c.requires.handles).source

pub join-requires-in-SubPR-clause-dest : goal.join-requires-in-SubPR-clause-dest
join-requires-in-SubPR-clause-dest g c = (handled c.args.handler handler.SubPR c.args.word c.in-SubPR.is c.requires.handles).dest

pub returns-in-SubPR-clause-row : goal.returns-in-SubPR-clause-row
unfolding row_of
returns-in-SubPR-clause-row g c = row_as c.join-in-SubPR.result (g.P.Processor.machine c.join-in-SubPR.new.p) (at_pc (g.P.Processor.machine c.args.p.now) c.args.pc) c.args.word (Sub (operand_of (c.args.word / 64)) (operand_of c.args.word)) (go (joined (at_pc (g.P.Processor.machine c.args.p.now) c.args.pc) Word (operand_of (c.args.word / 64)) (operand_of c.args.word) (combine_of Difference Word (carry_in (g.P.Processor.machine c.args.p.now))))) (handled c.args.handler handler.SubPR c.args.word c.in-SubPR.is c.requires.handles).is refl c.join-in-SubPR.ensures.row

pub join-requires-in-SubLR-clause-source : goal.join-requires-in-SubLR-clause-source
join-requires-in-SubLR-clause-source g c = (handled c.args.handler handler.SubLR c.args.word c.in-SubLR.is c.requires.handles).source

pub join-requires-in-SubLR-clause-dest : goal.join-requires-in-SubLR-clause-dest
join-requires-in-SubLR-clause-dest g c = (handled c.args.handler handler.SubLR c.args.word c.in-SubLR.is c.requires.handles).dest

pub returns-in-SubLR-clause-row : goal.returns-in-SubLR-clause-row
unfolding row_of
returns-in-SubLR-clause-row g c = row_as c.join-in-SubLR.result (g.P.Processor.machine c.join-in-SubLR.new.p) (at_pc (g.P.Processor.machine c.args.p.now) c.args.pc) c.args.word (Sub (operand_of (c.args.word / 64)) (operand_of c.args.word)) (go (joined (at_pc (g.P.Processor.machine c.args.p.now) c.args.pc) Word (operand_of (c.args.word / 64)) (operand_of c.args.word) (combine_of Difference Word (carry_in (g.P.Processor.machine c.args.p.now))))) (handled c.args.handler handler.SubLR c.args.word c.in-SubLR.is c.requires.handles).is refl c.join-in-SubLR.ensures.row

pub join-requires-in-SubRA-clause-source : goal.join-requires-in-SubRA-clause-source
join-requires-in-SubRA-clause-source g c = (handled c.args.handler handler.SubRA c.args.word c.in-SubRA.is c.requires.handles).source

pub join-requires-in-SubRA-clause-dest : goal.join-requires-in-SubRA-clause-dest
join-requires-in-SubRA-clause-dest g c = (handled c.args.handler handler.SubRA c.args.word c.in-SubRA.is c.requires.handles).dest

pub returns-in-SubRA-clause-row : goal.returns-in-SubRA-clause-row
unfolding row_of
returns-in-SubRA-clause-row g c = row_as c.join-in-SubRA.result (g.P.Processor.machine c.join-in-SubRA.new.p) (at_pc (g.P.Processor.machine c.args.p.now) c.args.pc) c.args.word (Sub (operand_of (c.args.word / 64)) (operand_of c.args.word)) (go (joined (at_pc (g.P.Processor.machine c.args.p.now) c.args.pc) Word (operand_of (c.args.word / 64)) (operand_of c.args.word) (combine_of Difference Word (carry_in (g.P.Processor.machine c.args.p.now))))) (handled c.args.handler handler.SubRA c.args.word c.in-SubRA.is c.requires.handles).is refl c.join-in-SubRA.ensures.row

pub join-requires-in-SubRX-clause-source : goal.join-requires-in-SubRX-clause-source
join-requires-in-SubRX-clause-source g c = (handled c.args.handler handler.SubRX c.args.word c.in-SubRX.is c.requires.handles).source

pub join-requires-in-SubRX-clause-dest : goal.join-requires-in-SubRX-clause-dest
join-requires-in-SubRX-clause-dest g c = (handled c.args.handler handler.SubRX c.args.word c.in-SubRX.is c.requires.handles).dest

pub returns-in-SubRX-clause-row : goal.returns-in-SubRX-clause-row
unfolding row_of
returns-in-SubRX-clause-row g c = row_as c.join-in-SubRX.result (g.P.Processor.machine c.join-in-SubRX.new.p) (at_pc (g.P.Processor.machine c.args.p.now) c.args.pc) c.args.word (Sub (operand_of (c.args.word / 64)) (operand_of c.args.word)) (go (joined (at_pc (g.P.Processor.machine c.args.p.now) c.args.pc) Word (operand_of (c.args.word / 64)) (operand_of c.args.word) (combine_of Difference Word (carry_in (g.P.Processor.machine c.args.p.now))))) (handled c.args.handler handler.SubRX c.args.word c.in-SubRX.is c.requires.handles).is refl c.join-in-SubRX.ensures.row

pub join-requires-in-SubIX-clause-source : goal.join-requires-in-SubIX-clause-source
join-requires-in-SubIX-clause-source g c = (handled c.args.handler handler.SubIX c.args.word c.in-SubIX.is c.requires.handles).source

pub join-requires-in-SubIX-clause-dest : goal.join-requires-in-SubIX-clause-dest
join-requires-in-SubIX-clause-dest g c = (handled c.args.handler handler.SubIX c.args.word c.in-SubIX.is c.requires.handles).dest

pub returns-in-SubIX-clause-row : goal.returns-in-SubIX-clause-row
unfolding row_of
returns-in-SubIX-clause-row g c = row_as c.join-in-SubIX.result (g.P.Processor.machine c.join-in-SubIX.new.p) (at_pc (g.P.Processor.machine c.args.p.now) c.args.pc) c.args.word (Sub (operand_of (c.args.word / 64)) (operand_of c.args.word)) (go (joined (at_pc (g.P.Processor.machine c.args.p.now) c.args.pc) Word (operand_of (c.args.word / 64)) (operand_of c.args.word) (combine_of Difference Word (carry_in (g.P.Processor.machine c.args.p.now))))) (handled c.args.handler handler.SubIX c.args.word c.in-SubIX.is c.requires.handles).is refl c.join-in-SubIX.ensures.row

pub compare-requires-in-BitAR-clause-source : goal.compare-requires-in-BitAR-clause-source
compare-requires-in-BitAR-clause-source g c = (handled c.args.handler handler.BitAR c.args.word c.in-BitAR.is c.requires.handles).source

pub compare-requires-in-BitAR-clause-dest : goal.compare-requires-in-BitAR-clause-dest
compare-requires-in-BitAR-clause-dest g c = (handled c.args.handler handler.BitAR c.args.word c.in-BitAR.is c.requires.handles).dest

pub returns-in-BitAR-clause-row : goal.returns-in-BitAR-clause-row
unfolding row_of
returns-in-BitAR-clause-row g c = row_as c.compare-in-BitAR.result (g.P.Processor.machine c.compare-in-BitAR.new.p) (at_pc (g.P.Processor.machine c.args.p.now) c.args.pc) c.args.word (Bit Word (operand_of (c.args.word / 64)) (operand_of c.args.word)) (go (compared (at_pc (g.P.Processor.machine c.args.p.now) c.args.pc) Word (operand_of (c.args.word / 64)) (operand_of c.args.word) (combine_of TestBits Word (carry_in (g.P.Processor.machine c.args.p.now))))) (handled c.args.handler handler.BitAR c.args.word c.in-BitAR.is c.requires.handles).is refl c.compare-in-BitAR.ensures.row

pub compare-requires-in-BitXR-clause-source : goal.compare-requires-in-BitXR-clause-source
compare-requires-in-BitXR-clause-source g c = (handled c.args.handler handler.BitXR c.args.word c.in-BitXR.is c.requires.handles).source

pub compare-requires-in-BitXR-clause-dest : goal.compare-requires-in-BitXR-clause-dest
compare-requires-in-BitXR-clause-dest g c = (handled c.args.handler handler.BitXR c.args.word c.in-BitXR.is c.requires.handles).dest

pub returns-in-BitXR-clause-row : goal.returns-in-BitXR-clause-row
unfolding row_of
returns-in-BitXR-clause-row g c = row_as c.compare-in-BitXR.result (g.P.Processor.machine c.compare-in-BitXR.new.p) (at_pc (g.P.Processor.machine c.args.p.now) c.args.pc) c.args.word (Bit Word (operand_of (c.args.word / 64)) (operand_of c.args.word)) (go (compared (at_pc (g.P.Processor.machine c.args.p.now) c.args.pc) Word (operand_of (c.args.word / 64)) (operand_of c.args.word) (combine_of TestBits Word (carry_in (g.P.Processor.machine c.args.p.now))))) (handled c.args.handler handler.BitXR c.args.word c.in-BitXR.is c.requires.handles).is refl c.compare-in-BitXR.ensures.row

pub join-requires-in-BicAR-clause-source : goal.join-requires-in-BicAR-clause-source
join-requires-in-BicAR-clause-source g c = (handled c.args.handler handler.BicAR c.args.word c.in-BicAR.is c.requires.handles).source

pub join-requires-in-BicAR-clause-dest : goal.join-requires-in-BicAR-clause-dest
join-requires-in-BicAR-clause-dest g c = (handled c.args.handler handler.BicAR c.args.word c.in-BicAR.is c.requires.handles).dest

pub returns-in-BicAR-clause-row : goal.returns-in-BicAR-clause-row
unfolding row_of
returns-in-BicAR-clause-row g c = row_as c.join-in-BicAR.result (g.P.Processor.machine c.join-in-BicAR.new.p) (at_pc (g.P.Processor.machine c.args.p.now) c.args.pc) c.args.word (Bic Word (operand_of (c.args.word / 64)) (operand_of c.args.word)) (go (joined (at_pc (g.P.Processor.machine c.args.p.now) c.args.pc) Word (operand_of (c.args.word / 64)) (operand_of c.args.word) (combine_of ClearBits Word (carry_in (g.P.Processor.machine c.args.p.now))))) (handled c.args.handler handler.BicAR c.args.word c.in-BicAR.is c.requires.handles).is refl c.join-in-BicAR.ensures.row

pub join-requires-in-BicXR-clause-source : goal.join-requires-in-BicXR-clause-source
join-requires-in-BicXR-clause-source g c = (handled c.args.handler handler.BicXR c.args.word c.in-BicXR.is c.requires.handles).source

pub join-requires-in-BicXR-clause-dest : goal.join-requires-in-BicXR-clause-dest
join-requires-in-BicXR-clause-dest g c = (handled c.args.handler handler.BicXR c.args.word c.in-BicXR.is c.requires.handles).dest

pub returns-in-BicXR-clause-row : goal.returns-in-BicXR-clause-row
unfolding row_of
returns-in-BicXR-clause-row g c = row_as c.join-in-BicXR.result (g.P.Processor.machine c.join-in-BicXR.new.p) (at_pc (g.P.Processor.machine c.args.p.now) c.args.pc) c.args.word (Bic Word (operand_of (c.args.word / 64)) (operand_of c.args.word)) (go (joined (at_pc (g.P.Processor.machine c.args.p.now) c.args.pc) Word (operand_of (c.args.word / 64)) (operand_of c.args.word) (combine_of ClearBits Word (carry_in (g.P.Processor.machine c.args.p.now))))) (handled c.args.handler handler.BicXR c.args.word c.in-BicXR.is c.requires.handles).is refl c.join-in-BicXR.ensures.row

pub join-requires-in-BicRA-clause-source : goal.join-requires-in-BicRA-clause-source
join-requires-in-BicRA-clause-source g c = (handled c.args.handler handler.BicRA c.args.word c.in-BicRA.is c.requires.handles).source

pub join-requires-in-BicRA-clause-dest : goal.join-requires-in-BicRA-clause-dest
join-requires-in-BicRA-clause-dest g c = (handled c.args.handler handler.BicRA c.args.word c.in-BicRA.is c.requires.handles).dest

pub returns-in-BicRA-clause-row : goal.returns-in-BicRA-clause-row
unfolding row_of
returns-in-BicRA-clause-row g c = row_as c.join-in-BicRA.result (g.P.Processor.machine c.join-in-BicRA.new.p) (at_pc (g.P.Processor.machine c.args.p.now) c.args.pc) c.args.word (Bic Word (operand_of (c.args.word / 64)) (operand_of c.args.word)) (go (joined (at_pc (g.P.Processor.machine c.args.p.now) c.args.pc) Word (operand_of (c.args.word / 64)) (operand_of c.args.word) (combine_of ClearBits Word (carry_in (g.P.Processor.machine c.args.p.now))))) (handled c.args.handler handler.BicRA c.args.word c.in-BicRA.is c.requires.handles).is refl c.join-in-BicRA.ensures.row

pub join-requires-in-BicRX-clause-source : goal.join-requires-in-BicRX-clause-source
join-requires-in-BicRX-clause-source g c = (handled c.args.handler handler.BicRX c.args.word c.in-BicRX.is c.requires.handles).source

pub join-requires-in-BicRX-clause-dest : goal.join-requires-in-BicRX-clause-dest
join-requires-in-BicRX-clause-dest g c = (handled c.args.handler handler.BicRX c.args.word c.in-BicRX.is c.requires.handles).dest

pub returns-in-BicRX-clause-row : goal.returns-in-BicRX-clause-row
unfolding row_of
returns-in-BicRX-clause-row g c = row_as c.join-in-BicRX.result (g.P.Processor.machine c.join-in-BicRX.new.p) (at_pc (g.P.Processor.machine c.args.p.now) c.args.pc) c.args.word (Bic Word (operand_of (c.args.word / 64)) (operand_of c.args.word)) (go (joined (at_pc (g.P.Processor.machine c.args.p.now) c.args.pc) Word (operand_of (c.args.word / 64)) (operand_of c.args.word) (combine_of ClearBits Word (carry_in (g.P.Processor.machine c.args.p.now))))) (handled c.args.handler handler.BicRX c.args.word c.in-BicRX.is c.requires.handles).is refl c.join-in-BicRX.ensures.row

pub join-requires-in-BicIX-clause-source : goal.join-requires-in-BicIX-clause-source
join-requires-in-BicIX-clause-source g c = (handled c.args.handler handler.BicIX c.args.word c.in-BicIX.is c.requires.handles).source

pub join-requires-in-BicIX-clause-dest : goal.join-requires-in-BicIX-clause-dest
join-requires-in-BicIX-clause-dest g c = (handled c.args.handler handler.BicIX c.args.word c.in-BicIX.is c.requires.handles).dest

pub returns-in-BicIX-clause-row : goal.returns-in-BicIX-clause-row
unfolding row_of
returns-in-BicIX-clause-row g c = row_as c.join-in-BicIX.result (g.P.Processor.machine c.join-in-BicIX.new.p) (at_pc (g.P.Processor.machine c.args.p.now) c.args.pc) c.args.word (Bic Word (operand_of (c.args.word / 64)) (operand_of c.args.word)) (go (joined (at_pc (g.P.Processor.machine c.args.p.now) c.args.pc) Word (operand_of (c.args.word / 64)) (operand_of c.args.word) (combine_of ClearBits Word (carry_in (g.P.Processor.machine c.args.p.now))))) (handled c.args.handler handler.BicIX c.args.word c.in-BicIX.is c.requires.handles).is refl c.join-in-BicIX.ensures.row

pub join-requires-in-BisAR-clause-source : goal.join-requires-in-BisAR-clause-source
join-requires-in-BisAR-clause-source g c = (handled c.args.handler handler.BisAR c.args.word c.in-BisAR.is c.requires.handles).source

pub join-requires-in-BisAR-clause-dest : goal.join-requires-in-BisAR-clause-dest
join-requires-in-BisAR-clause-dest g c = (handled c.args.handler handler.BisAR c.args.word c.in-BisAR.is c.requires.handles).dest

pub returns-in-BisAR-clause-row : goal.returns-in-BisAR-clause-row
unfolding row_of
returns-in-BisAR-clause-row g c = row_as c.join-in-BisAR.result (g.P.Processor.machine c.join-in-BisAR.new.p) (at_pc (g.P.Processor.machine c.args.p.now) c.args.pc) c.args.word (Bis Word (operand_of (c.args.word / 64)) (operand_of c.args.word)) (go (joined (at_pc (g.P.Processor.machine c.args.p.now) c.args.pc) Word (operand_of (c.args.word / 64)) (operand_of c.args.word) (combine_of SetBits Word (carry_in (g.P.Processor.machine c.args.p.now))))) (handled c.args.handler handler.BisAR c.args.word c.in-BisAR.is c.requires.handles).is refl c.join-in-BisAR.ensures.row

pub join-requires-in-BisXR-clause-source : goal.join-requires-in-BisXR-clause-source
join-requires-in-BisXR-clause-source g c = (handled c.args.handler handler.BisXR c.args.word c.in-BisXR.is c.requires.handles).source

pub join-requires-in-BisXR-clause-dest : goal.join-requires-in-BisXR-clause-dest
join-requires-in-BisXR-clause-dest g c = (handled c.args.handler handler.BisXR c.args.word c.in-BisXR.is c.requires.handles).dest

pub returns-in-BisXR-clause-row : goal.returns-in-BisXR-clause-row
unfolding row_of
returns-in-BisXR-clause-row g c = row_as c.join-in-BisXR.result (g.P.Processor.machine c.join-in-BisXR.new.p) (at_pc (g.P.Processor.machine c.args.p.now) c.args.pc) c.args.word (Bis Word (operand_of (c.args.word / 64)) (operand_of c.args.word)) (go (joined (at_pc (g.P.Processor.machine c.args.p.now) c.args.pc) Word (operand_of (c.args.word / 64)) (operand_of c.args.word) (combine_of SetBits Word (carry_in (g.P.Processor.machine c.args.p.now))))) (handled c.args.handler handler.BisXR c.args.word c.in-BisXR.is c.requires.handles).is refl c.join-in-BisXR.ensures.row

pub join-requires-in-BisRA-clause-source : goal.join-requires-in-BisRA-clause-source
join-requires-in-BisRA-clause-source g c = (handled c.args.handler handler.BisRA c.args.word c.in-BisRA.is c.requires.handles).source

pub join-requires-in-BisRA-clause-dest : goal.join-requires-in-BisRA-clause-dest
join-requires-in-BisRA-clause-dest g c = (handled c.args.handler handler.BisRA c.args.word c.in-BisRA.is c.requires.handles).dest

pub returns-in-BisRA-clause-row : goal.returns-in-BisRA-clause-row
unfolding row_of
returns-in-BisRA-clause-row g c = row_as c.join-in-BisRA.result (g.P.Processor.machine c.join-in-BisRA.new.p) (at_pc (g.P.Processor.machine c.args.p.now) c.args.pc) c.args.word (Bis Word (operand_of (c.args.word / 64)) (operand_of c.args.word)) (go (joined (at_pc (g.P.Processor.machine c.args.p.now) c.args.pc) Word (operand_of (c.args.word / 64)) (operand_of c.args.word) (combine_of SetBits Word (carry_in (g.P.Processor.machine c.args.p.now))))) (handled c.args.handler handler.BisRA c.args.word c.in-BisRA.is c.requires.handles).is refl c.join-in-BisRA.ensures.row

pub join-requires-in-BisRX-clause-source : goal.join-requires-in-BisRX-clause-source
join-requires-in-BisRX-clause-source g c = (handled c.args.handler handler.BisRX c.args.word c.in-BisRX.is c.requires.handles).source

pub join-requires-in-BisRX-clause-dest : goal.join-requires-in-BisRX-clause-dest
join-requires-in-BisRX-clause-dest g c = (handled c.args.handler handler.BisRX c.args.word c.in-BisRX.is c.requires.handles).dest

pub returns-in-BisRX-clause-row : goal.returns-in-BisRX-clause-row
unfolding row_of
returns-in-BisRX-clause-row g c = row_as c.join-in-BisRX.result (g.P.Processor.machine c.join-in-BisRX.new.p) (at_pc (g.P.Processor.machine c.args.p.now) c.args.pc) c.args.word (Bis Word (operand_of (c.args.word / 64)) (operand_of c.args.word)) (go (joined (at_pc (g.P.Processor.machine c.args.p.now) c.args.pc) Word (operand_of (c.args.word / 64)) (operand_of c.args.word) (combine_of SetBits Word (carry_in (g.P.Processor.machine c.args.p.now))))) (handled c.args.handler handler.BisRX c.args.word c.in-BisRX.is c.requires.handles).is refl c.join-in-BisRX.ensures.row

pub join-requires-in-BisIX-clause-source : goal.join-requires-in-BisIX-clause-source
join-requires-in-BisIX-clause-source g c = (handled c.args.handler handler.BisIX c.args.word c.in-BisIX.is c.requires.handles).source

pub join-requires-in-BisIX-clause-dest : goal.join-requires-in-BisIX-clause-dest
join-requires-in-BisIX-clause-dest g c = (handled c.args.handler handler.BisIX c.args.word c.in-BisIX.is c.requires.handles).dest

pub returns-in-BisIX-clause-row : goal.returns-in-BisIX-clause-row
unfolding row_of
returns-in-BisIX-clause-row g c = row_as c.join-in-BisIX.result (g.P.Processor.machine c.join-in-BisIX.new.p) (at_pc (g.P.Processor.machine c.args.p.now) c.args.pc) c.args.word (Bis Word (operand_of (c.args.word / 64)) (operand_of c.args.word)) (go (joined (at_pc (g.P.Processor.machine c.args.p.now) c.args.pc) Word (operand_of (c.args.word / 64)) (operand_of c.args.word) (combine_of SetBits Word (carry_in (g.P.Processor.machine c.args.p.now))))) (handled c.args.handler handler.BisIX c.args.word c.in-BisIX.is c.requires.handles).is refl c.join-in-BisIX.ensures.row

pub clear-requires-clause-dest : goal.clear-requires-clause-dest
clear-requires-clause-dest g c = (handled c.args.handler handler.ClrD c.args.word c.in-ClrD.is c.requires.handles).dest

pub returns-in-ClrD-clause-row : goal.returns-in-ClrD-clause-row
unfolding row_of
returns-in-ClrD-clause-row g c = row_as c.clear.result (g.P.Processor.machine c.clear.new.p) (at_pc (g.P.Processor.machine c.args.p.now) c.args.pc) c.args.word (Clr Word (operand_of c.args.word)) (go (replaced (at_pc (g.P.Processor.machine c.args.p.now) c.args.pc) Word (operand_of c.args.word) (result_of Word 0 false false))) (handled c.args.handler handler.ClrD c.args.word c.in-ClrD.is c.requires.handles).is refl c.clear.ensures.row

pub clear-requires-in-ClrP-clause-dest : goal.clear-requires-in-ClrP-clause-dest
clear-requires-in-ClrP-clause-dest g c = (handled c.args.handler handler.ClrP c.args.word c.in-ClrP.is c.requires.handles).dest

pub returns-in-ClrP-clause-row : goal.returns-in-ClrP-clause-row
unfolding row_of
returns-in-ClrP-clause-row g c = row_as c.clear-in-ClrP.result (g.P.Processor.machine c.clear-in-ClrP.new.p) (at_pc (g.P.Processor.machine c.args.p.now) c.args.pc) c.args.word (Clr Word (operand_of c.args.word)) (go (replaced (at_pc (g.P.Processor.machine c.args.p.now) c.args.pc) Word (operand_of c.args.word) (result_of Word 0 false false))) (handled c.args.handler handler.ClrP c.args.word c.in-ClrP.is c.requires.handles).is refl c.clear-in-ClrP.ensures.row

pub clear-requires-in-ClrL-clause-dest : goal.clear-requires-in-ClrL-clause-dest
clear-requires-in-ClrL-clause-dest g c = (handled c.args.handler handler.ClrL c.args.word c.in-ClrL.is c.requires.handles).dest

pub returns-in-ClrL-clause-row : goal.returns-in-ClrL-clause-row
unfolding row_of
returns-in-ClrL-clause-row g c = row_as c.clear-in-ClrL.result (g.P.Processor.machine c.clear-in-ClrL.new.p) (at_pc (g.P.Processor.machine c.args.p.now) c.args.pc) c.args.word (Clr Word (operand_of c.args.word)) (go (replaced (at_pc (g.P.Processor.machine c.args.p.now) c.args.pc) Word (operand_of c.args.word) (result_of Word 0 false false))) (handled c.args.handler handler.ClrL c.args.word c.in-ClrL.is c.requires.handles).is refl c.clear-in-ClrL.ensures.row

pub modify-requires-clause-dest : goal.modify-requires-clause-dest
modify-requires-clause-dest g c = (handled c.args.handler handler.IncD c.args.word c.in-IncD.is c.requires.handles).dest

pub returns-in-IncD-clause-row : goal.returns-in-IncD-clause-row
unfolding row_of
returns-in-IncD-clause-row g c = row_as c.modify.result (g.P.Processor.machine c.modify.new.p) (at_pc (g.P.Processor.machine c.args.p.now) c.args.pc) c.args.word (Inc Word (operand_of c.args.word)) (go (modified (at_pc (g.P.Processor.machine c.args.p.now) c.args.pc) Word (operand_of c.args.word) (change_of Increase Word (carry_in (g.P.Processor.machine c.args.p.now))))) (handled c.args.handler handler.IncD c.args.word c.in-IncD.is c.requires.handles).is refl c.modify.ensures.row

pub modify-requires-in-IncP-clause-dest : goal.modify-requires-in-IncP-clause-dest
modify-requires-in-IncP-clause-dest g c = (handled c.args.handler handler.IncP c.args.word c.in-IncP.is c.requires.handles).dest

pub returns-in-IncP-clause-row : goal.returns-in-IncP-clause-row
unfolding row_of
returns-in-IncP-clause-row g c = row_as c.modify-in-IncP.result (g.P.Processor.machine c.modify-in-IncP.new.p) (at_pc (g.P.Processor.machine c.args.p.now) c.args.pc) c.args.word (Inc Word (operand_of c.args.word)) (go (modified (at_pc (g.P.Processor.machine c.args.p.now) c.args.pc) Word (operand_of c.args.word) (change_of Increase Word (carry_in (g.P.Processor.machine c.args.p.now))))) (handled c.args.handler handler.IncP c.args.word c.in-IncP.is c.requires.handles).is refl c.modify-in-IncP.ensures.row

pub modify-requires-in-IncL-clause-dest : goal.modify-requires-in-IncL-clause-dest
modify-requires-in-IncL-clause-dest g c = (handled c.args.handler handler.IncL c.args.word c.in-IncL.is c.requires.handles).dest

pub returns-in-IncL-clause-row : goal.returns-in-IncL-clause-row
unfolding row_of
returns-in-IncL-clause-row g c = row_as c.modify-in-IncL.result (g.P.Processor.machine c.modify-in-IncL.new.p) (at_pc (g.P.Processor.machine c.args.p.now) c.args.pc) c.args.word (Inc Word (operand_of c.args.word)) (go (modified (at_pc (g.P.Processor.machine c.args.p.now) c.args.pc) Word (operand_of c.args.word) (change_of Increase Word (carry_in (g.P.Processor.machine c.args.p.now))))) (handled c.args.handler handler.IncL c.args.word c.in-IncL.is c.requires.handles).is refl c.modify-in-IncL.ensures.row

pub modify-requires-in-DecD-clause-dest : goal.modify-requires-in-DecD-clause-dest
modify-requires-in-DecD-clause-dest g c = (handled c.args.handler handler.DecD c.args.word c.in-DecD.is c.requires.handles).dest

pub returns-in-DecD-clause-row : goal.returns-in-DecD-clause-row
unfolding row_of
returns-in-DecD-clause-row g c = row_as c.modify-in-DecD.result (g.P.Processor.machine c.modify-in-DecD.new.p) (at_pc (g.P.Processor.machine c.args.p.now) c.args.pc) c.args.word (Dec Word (operand_of c.args.word)) (go (modified (at_pc (g.P.Processor.machine c.args.p.now) c.args.pc) Word (operand_of c.args.word) (change_of Decrease Word (carry_in (g.P.Processor.machine c.args.p.now))))) (handled c.args.handler handler.DecD c.args.word c.in-DecD.is c.requires.handles).is refl c.modify-in-DecD.ensures.row

pub modify-requires-in-DecP-clause-dest : goal.modify-requires-in-DecP-clause-dest
modify-requires-in-DecP-clause-dest g c = (handled c.args.handler handler.DecP c.args.word c.in-DecP.is c.requires.handles).dest

pub returns-in-DecP-clause-row : goal.returns-in-DecP-clause-row
unfolding row_of
returns-in-DecP-clause-row g c = row_as c.modify-in-DecP.result (g.P.Processor.machine c.modify-in-DecP.new.p) (at_pc (g.P.Processor.machine c.args.p.now) c.args.pc) c.args.word (Dec Word (operand_of c.args.word)) (go (modified (at_pc (g.P.Processor.machine c.args.p.now) c.args.pc) Word (operand_of c.args.word) (change_of Decrease Word (carry_in (g.P.Processor.machine c.args.p.now))))) (handled c.args.handler handler.DecP c.args.word c.in-DecP.is c.requires.handles).is refl c.modify-in-DecP.ensures.row

pub modify-requires-in-DecL-clause-dest : goal.modify-requires-in-DecL-clause-dest
modify-requires-in-DecL-clause-dest g c = (handled c.args.handler handler.DecL c.args.word c.in-DecL.is c.requires.handles).dest

pub returns-in-DecL-clause-row : goal.returns-in-DecL-clause-row
unfolding row_of
returns-in-DecL-clause-row g c = row_as c.modify-in-DecL.result (g.P.Processor.machine c.modify-in-DecL.new.p) (at_pc (g.P.Processor.machine c.args.p.now) c.args.pc) c.args.word (Dec Word (operand_of c.args.word)) (go (modified (at_pc (g.P.Processor.machine c.args.p.now) c.args.pc) Word (operand_of c.args.word) (change_of Decrease Word (carry_in (g.P.Processor.machine c.args.p.now))))) (handled c.args.handler handler.DecL c.args.word c.in-DecL.is c.requires.handles).is refl c.modify-in-DecL.ensures.row

pub test-requires-clause-dest : goal.test-requires-clause-dest
test-requires-clause-dest g c = (handled c.args.handler handler.TstD c.args.word c.in-TstD.is c.requires.handles).dest

pub returns-in-TstD-clause-row : goal.returns-in-TstD-clause-row
unfolding row_of
returns-in-TstD-clause-row g c = row_as c.test.result (g.P.Processor.machine c.test.new.p) (at_pc (g.P.Processor.machine c.args.p.now) c.args.pc) c.args.word (Tst Word (operand_of c.args.word)) (go (tested (at_pc (g.P.Processor.machine c.args.p.now) c.args.pc) Word (operand_of c.args.word) (λ x. result_of Word x false false))) (handled c.args.handler handler.TstD c.args.word c.in-TstD.is c.requires.handles).is refl c.test.ensures.row

pub test-requires-in-TstM-clause-dest : goal.test-requires-in-TstM-clause-dest
test-requires-in-TstM-clause-dest g c = (handled c.args.handler handler.TstM c.args.word c.in-TstM.is c.requires.handles).dest

pub returns-in-TstM-clause-row : goal.returns-in-TstM-clause-row
unfolding row_of
returns-in-TstM-clause-row g c = row_as c.test-in-TstM.result (g.P.Processor.machine c.test-in-TstM.new.p) (at_pc (g.P.Processor.machine c.args.p.now) c.args.pc) c.args.word (Tst Word (operand_of c.args.word)) (go (tested (at_pc (g.P.Processor.machine c.args.p.now) c.args.pc) Word (operand_of c.args.word) (λ x. result_of Word x false false))) (handled c.args.handler handler.TstM c.args.word c.in-TstM.is c.requires.handles).is refl c.test-in-TstM.ensures.row
