-- What is moved goes to where the destination is located.
use Rattle.std.proofs.Common.{ℕ, Bool, false, ap, ◌∙◌}
use Rattle.pdp_decode.specs.Decode.{operand_of}
use Rattle.pdp_step.specs.Registers.{codes_in}
use Rattle.pdp_step.specs.Machine.{Machine}
use Rattle.pdp_step.specs.Operands.{formed}
use Rattle.pdp_step.specs.Arithmetic.{result_of}
use Rattle.pdp_step.specs.Parts.{at_pc, location_at}
use Rattle.pdp_step.proofs.RowEnds.{located_at, put_done, put_halts}
use Rattle.pdp_step.proofs.operand_rows.put_moved.Goals as goal

pub returns-in-Ok-clause-row : goal.returns-in-Ok-clause-row
returns-in-Ok-clause-row g c =
    let old = g.P.Processor.machine c.args.p.now in
    let mid = g.P.Processor.machine c.locate.new.p in
    let new = g.P.Processor.machine c.set_pc.new.p in
    let at = λ (r : g.P.Processor.Rest). location_at (operand_of c.args.word).mode (operand_of c.args.word).reg (g.P.Processor.address r c.in-Ok.place) in
    let lies = located_at mid new c.locate.new.pc (formed (at_pc old c.args.from) g.W.Size.width (operand_of c.args.word).mode (operand_of c.args.word).reg) (at (g.P.Processor.rest c.locate.new.p)) (at (g.P.Processor.rest c.set_pc.new.p)) c.in-Ok.ensures.formed c.set_pc.ensures.machine (ap at c.set_pc.ensures.rest) in
    let image = ap (λ (m : Machine). m.image) c.set_pc.ensures.machine ∙ c.locate.ensures.image in
    let codes = ap (λ (m : Machine). m.cc) c.set_pc.ensures.machine ∙ c.locate.ensures.codes in
    let carry = c.carry.ensures ∙ ap (λ (x : ℕ). (codes_in x).c) (c.cc.ensures.codes ∙ codes) in
    let made = c.outcome-made.ensures.made ∙ ap (λ (x : Bool). result_of g.W.Size.width c.args.value false x) carry in
    rw c.halted.ensures.is (put_done old new (g.P.Processor.machine c.store_moved.new.p) (formed (at_pc old c.args.from) g.W.Size.width (operand_of c.args.word).mode (operand_of c.args.word).reg) g.W.Size.width c.args.value c.outcome-made.result (at (g.P.Processor.rest c.set_pc.new.p)) c.store_moved.result lies image made c.store_moved.ensures.stored)

pub returns-in-Err-clause-row : goal.returns-in-Err-clause-row
returns-in-Err-clause-row g c =
    let at = λ (x : ℕ). location_at (operand_of c.args.word).mode (operand_of c.args.word).reg (g.P.Processor.address (g.P.Processor.rest c.locate.new.p) x) in
    put_halts (g.P.Processor.machine c.args.p.now) (g.P.Processor.machine c.locate.new.p) c.locate.new.pc (formed (at_pc (g.P.Processor.machine c.args.p.now) c.args.from) g.W.Size.width (operand_of c.args.word).mode (operand_of c.args.word).reg) g.W.Size.width c.args.value c.in-Err.halt at c.locate.ensures.image c.in-Err.ensures.formed
