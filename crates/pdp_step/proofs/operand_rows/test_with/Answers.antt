-- The codes go by what is made of the destination.
use Rattle.std.proofs.Common.{ℕ, Bool, ap, ◌∙◌}
use Rattle.pdp_decode.specs.Decode.{operand_of}
use Rattle.pdp_step.specs.declared.arithmetic.Made.{Made}
use Rattle.pdp_step.specs.Registers.{codes_in}
use Rattle.pdp_step.specs.Machine.{Machine, with_codes, carry_in}
use Rattle.pdp_step.specs.Parts.{at_pc}
use Rattle.pdp_step.proofs.RowEnds.{tested_done, tested_halts}
use Rattle.pdp_step.proofs.operand_rows.test_with.Goals as goal

pub returns-in-Ok-clause-row : goal.returns-in-Ok-clause-row
returns-in-Ok-clause-row g c =
    let old = g.P.Processor.machine c.args.p.now in
    let mid = g.P.Processor.machine c.value.new.p in
    let carry = c.carry.ensures ∙ ap (λ (x : ℕ). (codes_in x).c) (c.cc.ensures.codes ∙ c.value.ensures.codes) in
    let make = λ (x : Bool). g.A.Alteration.made c.args.alteration.now g.W.Size.width x c.in-Ok.dest in
    let made = c.make-made.ensures.made ∙ ap make carry in
    let last = c.set_cc.ensures.machine ∙ (ap (λ (m : Machine). with_codes m c.make-made.result.cc) c.set_pc.ensures.machine ∙ ap (λ (x : Made). with_codes (at_pc mid c.value.new.pc) x.cc) made) in
    tested_done old mid (g.P.Processor.machine c.set_cc.new.self) c.value.new.pc c.args.from c.in-Ok.dest g.W.Size.width (operand_of c.args.word) (g.A.Alteration.made c.args.alteration.now g.W.Size.width (carry_in old)) c.value.ensures.image c.in-Ok.ensures.source last

pub returns-in-Err-clause-row : goal.returns-in-Err-clause-row
returns-in-Err-clause-row g c = tested_halts (g.P.Processor.machine c.args.p.now) (g.P.Processor.machine c.value.new.p) c.value.new.pc c.args.from g.W.Size.width (operand_of c.args.word) (g.A.Alteration.made c.args.alteration.now g.W.Size.width (carry_in (g.P.Processor.machine c.args.p.now))) c.in-Err.halt c.value.ensures.image c.in-Err.ensures.source
