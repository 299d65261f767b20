-- The places are those that R6 names once PC is set.
use Rattle.std.proofs.Common.{ℕ, sym, ap, ◌∙◌, ◌%◌}
use Rattle.pdp_decode.specs.Decode.{reg_of}
use Rattle.pdp_decode.specs.declared.instr.Reg.TheVariants.{Sp}
use Rattle.pdp_step.specs.Registers.{plus}
use Rattle.pdp_step.specs.Machine.{Machine, reg_in}
use Rattle.pdp_step.proofs.Banks.{stack_kept}
use Rattle.pdp_step.proofs.transfers.resume.Goals as goal

pub pop_status-requires-clause-top : goal.pop_status-requires-clause-top
unfolding reg_of
pop_status-requires-clause-top g c =
    let old = g.P.Processor.machine c.args.p.now in
    let sp = ap (λ (x : Machine). reg_in x Sp) c.set_pc.ensures.machine ∙ stack_kept old.r (c.args.pc % 65536) in
    ap (λ (x : g.P.Processor.Rest). g.P.Processor.address x c.in-Some.first) c.set_pc.ensures.rest ∙ (c.in-Some.ensures.address ∙ (c.reg-sp.ensures ∙ sym sp))

pub pop_status-requires-clause-next : goal.pop_status-requires-clause-next
unfolding reg_of
pop_status-requires-clause-next g c =
    let old = g.P.Processor.machine c.args.p.now in
    let sp = ap (λ (x : Machine). reg_in x Sp) c.set_pc.ensures.machine ∙ stack_kept old.r (c.args.pc % 65536) in
    ap (λ (x : g.P.Processor.Rest). g.P.Processor.address x c.in-Some-place_of_word.second) c.set_pc.ensures.rest ∙ (c.in-Some-place_of_word.ensures.address ∙ ap (λ (x : ℕ). plus x 2) (c.reg-sp.ensures ∙ sym sp))
