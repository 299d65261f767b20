-- A result goes where the destination is located.
use Rattle.std.proofs.Common.{ℕ, ap, ◌∙◌}
use Rattle.pdp_decode.specs.Decode.{operand_of}
use Rattle.pdp_step.specs.Machine.{Machine}
use Rattle.pdp_step.specs.Operands.{formed}
use Rattle.pdp_step.specs.Parts.{at_pc, location_at}
use Rattle.pdp_step.proofs.RowEnds.{located_at, replaced_done, replaced_halts}
use Rattle.pdp_step.proofs.operand_rows.replace.Goals as goal

pub returns-in-Ok-clause-row : goal.returns-in-Ok-clause-row
returns-in-Ok-clause-row g c =
    let old = g.P.Processor.machine c.args.p.now in
    let mid = g.P.Processor.machine c.locate.new.p in
    let new = g.P.Processor.machine c.set_pc.new.p in
    let at = λ (r : g.P.Processor.Rest). location_at (operand_of c.args.word).mode (operand_of c.args.word).reg (g.P.Processor.address r c.in-Ok.place) in
    let lies = located_at mid new c.locate.new.pc (formed (at_pc old c.args.from) g.W.Size.width (operand_of c.args.word).mode (operand_of c.args.word).reg) (at (g.P.Processor.rest c.locate.new.p)) (at (g.P.Processor.rest c.set_pc.new.p)) c.in-Ok.ensures.formed c.set_pc.ensures.machine (ap at c.set_pc.ensures.rest) in
    let image = ap (λ (m : Machine). m.image) c.set_pc.ensures.machine ∙ c.locate.ensures.image in
    let codes = ap (λ (m : Machine). m.cc) c.set_pc.ensures.machine ∙ c.locate.ensures.codes in
    rw c.halted.ensures.is (replaced_done old new (g.P.Processor.machine c.store.new.p) c.args.from g.W.Size.width (operand_of c.args.word) c.args.made (at (g.P.Processor.rest c.set_pc.new.p)) c.store.result lies image c.store.ensures.stored)

pub returns-in-Err-clause-row : goal.returns-in-Err-clause-row
returns-in-Err-clause-row g c =
    let at = λ (x : ℕ). location_at (operand_of c.args.word).mode (operand_of c.args.word).reg (g.P.Processor.address (g.P.Processor.rest c.locate.new.p) x) in
    replaced_halts (g.P.Processor.machine c.args.p.now) (g.P.Processor.machine c.locate.new.p) c.locate.new.pc c.args.from g.W.Size.width (operand_of c.args.word) c.args.made c.in-Err.halt at c.locate.ensures.image c.in-Err.ensures.formed
