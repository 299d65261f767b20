-- What is made of the destination goes where that is located.
use Rattle.std.proofs.Common.{ℕ, Bool, ap, ◌∙◌}
use Rattle.pdp_decode.specs.Decode.{operand_of}
use Rattle.pdp_step.specs.Registers.{codes_in}
use Rattle.pdp_step.specs.Machine.{Machine, carry_in}
use Rattle.pdp_step.specs.Operands.{formed}
use Rattle.pdp_step.specs.Parts.{at_pc, location_at}
use Rattle.pdp_step.proofs.RowEnds.{located_at, modified_done, modified_unread, modified_halts}
use Rattle.pdp_step.proofs.operand_rows.alter_with.Goals as goal

pub returns-in-Ok-get-clause-row : goal.returns-in-Ok-get-clause-row
returns-in-Ok-get-clause-row g c =
    let old = g.P.Processor.machine c.args.p.now in
    let mid = g.P.Processor.machine c.locate.new.p in
    let new = g.P.Processor.machine c.set_pc.new.p in
    let at = λ (r : g.P.Processor.Rest). location_at (operand_of c.args.word).mode (operand_of c.args.word).reg (g.P.Processor.address r c.in-Ok.place) in
    let lies = located_at mid new c.locate.new.pc (formed (at_pc old c.args.from) g.W.Size.width (operand_of c.args.word).mode (operand_of c.args.word).reg) (at (g.P.Processor.rest c.locate.new.p)) (at (g.P.Processor.rest c.set_pc.new.p)) c.in-Ok.ensures.formed c.set_pc.ensures.machine (ap at c.set_pc.ensures.rest) in
    let image = ap (λ (m : Machine). m.image) c.set_pc.ensures.machine ∙ c.locate.ensures.image in
    let codes = ap (λ (m : Machine). m.cc) c.set_pc.ensures.machine ∙ c.locate.ensures.codes in
    let carry = c.carry.ensures ∙ ap (λ (x : ℕ). (codes_in x).c) (c.cc.ensures.codes ∙ codes) in
    let make = λ (x : Bool). g.A.Alteration.made c.args.alteration.now g.W.Size.width x c.in-Ok-get.dest in
    let made = c.make-made.ensures.made ∙ ap make carry in
    rw c.halted.ensures.is (modified_done old new (g.P.Processor.machine c.store.new.p) c.args.from g.W.Size.width (operand_of c.args.word) (g.A.Alteration.made c.args.alteration.now g.W.Size.width (carry_in old)) (at (g.P.Processor.rest c.set_pc.new.p)) c.in-Ok-get.dest c.make-made.result c.store.result lies c.in-Ok-get.ensures.value image made c.store.ensures.stored)

pub returns-in-Err-get-clause-row : goal.returns-in-Err-get-clause-row
returns-in-Err-get-clause-row g c =
    let old = g.P.Processor.machine c.args.p.now in
    let mid = g.P.Processor.machine c.locate.new.p in
    let new = g.P.Processor.machine c.set_pc.new.p in
    let at = λ (r : g.P.Processor.Rest). location_at (operand_of c.args.word).mode (operand_of c.args.word).reg (g.P.Processor.address r c.in-Ok.place) in
    let lies = located_at mid new c.locate.new.pc (formed (at_pc old c.args.from) g.W.Size.width (operand_of c.args.word).mode (operand_of c.args.word).reg) (at (g.P.Processor.rest c.locate.new.p)) (at (g.P.Processor.rest c.set_pc.new.p)) c.in-Ok.ensures.formed c.set_pc.ensures.machine (ap at c.set_pc.ensures.rest) in
    let image = ap (λ (m : Machine). m.image) c.set_pc.ensures.machine ∙ c.locate.ensures.image in
    let codes = ap (λ (m : Machine). m.cc) c.set_pc.ensures.machine ∙ c.locate.ensures.codes in
    modified_unread old new c.args.from g.W.Size.width (operand_of c.args.word) (g.A.Alteration.made c.args.alteration.now g.W.Size.width (carry_in old)) (at (g.P.Processor.rest c.set_pc.new.p)) c.in-Err-get.trap lies c.in-Err-get.ensures.value image

pub returns-in-Err-clause-row : goal.returns-in-Err-clause-row
returns-in-Err-clause-row g c =
    let at = λ (x : ℕ). location_at (operand_of c.args.word).mode (operand_of c.args.word).reg (g.P.Processor.address (g.P.Processor.rest c.locate.new.p) x) in
    modified_halts (g.P.Processor.machine c.args.p.now) (g.P.Processor.machine c.locate.new.p) c.locate.new.pc c.args.from g.W.Size.width (operand_of c.args.word) (g.A.Alteration.made c.args.alteration.now g.W.Size.width (carry_in (g.P.Processor.machine c.args.p.now))) c.in-Err.halt at c.locate.ensures.image c.in-Err.ensures.formed
