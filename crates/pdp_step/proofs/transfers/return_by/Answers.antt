-- PC is the link, and the link is popped.
use Rattle.std.proofs.Common.{ℕ, ap, ◌∙◌, ◌%◌}
use Rattle.pdp_decode.specs.Decode.{reg_of}
use Rattle.pdp_decode.specs.declared.instr.Reg.TheVariants.{Pc}
use Rattle.pdp_step.specs.Machine.{Machine, reg_in, with_reg}
use Rattle.pdp_step.proofs.PcRows.{top_kept, returned_done, returned_stopped}
use Rattle.pdp_step.proofs.transfers.return_by.Goals as goal

pub returns-in-Ok-clause-row : goal.returns-in-Ok-clause-row
unfolding reg_of
returns-in-Ok-clause-row g c =
    let old = g.P.Processor.machine c.args.p.now in
    let n = reg_of (c.args.word % 8) in
    let mid = c.set_reg.ensures.machine ∙ (ap (λ (x : ℕ). with_reg (g.P.Processor.machine c.set_pc.new.p) Pc x) c.reg-to.ensures ∙ ap (λ (x : Machine). with_reg x Pc (reg_in x n)) c.set_pc.ensures.machine) in
    returned_done old (g.P.Processor.machine c.set_reg.new.self) (g.P.Processor.machine c.pop.new.p) (g.P.Processor.machine c.set_reg-in-Ok.new.self) c.args.pc c.in-Ok.top n mid c.in-Ok.ensures.popped c.pop.ensures.image c.set_reg-in-Ok.ensures.machine

pub returns-in-Err-clause-row : goal.returns-in-Err-clause-row
unfolding reg_of
returns-in-Err-clause-row g c =
    let old = g.P.Processor.machine c.args.p.now in
    let n = reg_of (c.args.word % 8) in
    let mid = c.set_reg.ensures.machine ∙ (ap (λ (x : ℕ). with_reg (g.P.Processor.machine c.set_pc.new.p) Pc x) c.reg-to.ensures ∙ ap (λ (x : Machine). with_reg x Pc (reg_in x n)) c.set_pc.ensures.machine) in
    returned_stopped old (g.P.Processor.machine c.set_reg.new.self) (g.P.Processor.machine c.pop.new.p) c.args.pc c.in-Err.trap n mid c.in-Err.ensures.popped c.pop.ensures.image

pub pop-requires-clause-top : goal.pop-requires-clause-top
unfolding reg_of
pop-requires-clause-top g c =
    let rest = c.set_reg.ensures.rest ∙ c.set_pc.ensures.rest in
    let where_ = ap (λ (x : g.P.Processor.Rest). g.P.Processor.address x c.in-Some.place) rest ∙ c.in-Some.ensures.address in
    top_kept (g.P.Processor.machine c.args.p.now) (g.P.Processor.machine c.set_pc.new.p) (g.P.Processor.machine c.set_reg.new.self) c.args.pc c.reg-to.result c.reg-sp.result _ c.set_pc.ensures.machine c.set_reg.ensures.machine c.reg-sp.ensures where_
