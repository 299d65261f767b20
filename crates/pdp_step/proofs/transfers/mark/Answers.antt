-- R6 is put where the arguments end, PC is R5, and R5 is popped.
use Rattle.std.proofs.Common.{ℕ, ap, ◌∙◌, ◌*◌, ◌%◌}
use Rattle.pdp_decode.specs.Decode.{reg_of}
use Rattle.pdp_decode.specs.declared.instr.Reg.TheVariants.{R5, Sp, Pc}
use Rattle.pdp_step.specs.Registers.{plus}
use Rattle.pdp_step.specs.Machine.{Machine, reg_in, with_reg}
use Rattle.pdp_step.proofs.PcRows.{top_at, marked_done, marked_stopped}
use Rattle.pdp_step.proofs.transfers.mark.Goals as goal

pub returns-in-Ok-clause-row : goal.returns-in-Ok-clause-row
unfolding reg_of
returns-in-Ok-clause-row g c =
    let old = g.P.Processor.machine c.args.p.now in
    let sp = plus c.low_word.result (2 * (c.args.word % 64)) in
    let sp_is = ap (λ (x : ℕ). plus x (2 * (c.args.word % 64))) c.low_word.ensures in
    let down = c.set_reg.ensures.machine ∙ ap (λ (x : Machine). with_reg x Sp sp) c.set_pc.ensures.machine in
    let mid = c.set_reg-in-Some.ensures.machine ∙ (ap (λ (x : ℕ). with_reg (g.P.Processor.machine c.set_reg.new.self) Pc x) c.reg-to.ensures ∙ ap (λ (x : Machine). with_reg x Pc (reg_in x R5)) down) in
    marked_done old (g.P.Processor.machine c.set_reg-in-Some.new.self) (g.P.Processor.machine c.pop.new.p) (g.P.Processor.machine c.set_reg-in-Ok.new.self) c.args.pc sp (c.args.word % 64) c.in-Ok.top (g.met.P.Processor.eight c.args.p.now) sp_is mid c.in-Ok.ensures.popped c.pop.ensures.image c.set_reg-in-Ok.ensures.machine

pub returns-in-Err-clause-row : goal.returns-in-Err-clause-row
unfolding reg_of
returns-in-Err-clause-row g c =
    let old = g.P.Processor.machine c.args.p.now in
    let sp = plus c.low_word.result (2 * (c.args.word % 64)) in
    let sp_is = ap (λ (x : ℕ). plus x (2 * (c.args.word % 64))) c.low_word.ensures in
    let down = c.set_reg.ensures.machine ∙ ap (λ (x : Machine). with_reg x Sp sp) c.set_pc.ensures.machine in
    let mid = c.set_reg-in-Some.ensures.machine ∙ (ap (λ (x : ℕ). with_reg (g.P.Processor.machine c.set_reg.new.self) Pc x) c.reg-to.ensures ∙ ap (λ (x : Machine). with_reg x Pc (reg_in x R5)) down) in
    marked_stopped old (g.P.Processor.machine c.set_reg-in-Some.new.self) (g.P.Processor.machine c.pop.new.p) c.args.pc sp (c.args.word % 64) c.in-Err.trap (g.met.P.Processor.eight c.args.p.now) sp_is mid c.in-Err.ensures.popped c.pop.ensures.image

pub pop-requires-clause-top : goal.pop-requires-clause-top
unfolding reg_of
pop-requires-clause-top g c =
    let rest = c.set_reg-in-Some.ensures.rest ∙ (c.set_reg.ensures.rest ∙ c.set_pc.ensures.rest) in
    let where_ = ap (λ (x : g.P.Processor.Rest). g.P.Processor.address x c.in-Some.place) rest ∙ c.in-Some.ensures.address in
    top_at (g.P.Processor.machine c.set_pc.new.p) (g.P.Processor.machine c.set_reg.new.self) (g.P.Processor.machine c.set_reg-in-Some.new.self) (plus c.low_word.result (2 * (c.args.word % 64))) c.reg-to.result _ (g.met.P.Processor.eight c.set_pc.new.p) c.set_reg.ensures.machine c.set_reg-in-Some.ensures.machine where_
