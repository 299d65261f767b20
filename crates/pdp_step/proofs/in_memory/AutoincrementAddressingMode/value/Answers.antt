-- What a register names that steps.
use Rattle.std.proofs.Common.{◌≡◌, ℕ, Result, sym, ap, ◌∙◌, subst, ◌%◌}
use Rattle.v6_base.specs.declared.space.Trap.{Trap}
use Rattle.pdp_decode.specs.Decode.{reg_of, operand_of}
use Rattle.pdp_step.specs.Registers.{plus}
use Rattle.pdp_step.specs.Machine.{Machine}
use Rattle.pdp_step.specs.Parts.{IsLoaded, value_in}
use Rattle.pdp_step.proofs.Reached.{value_increment, steps_apart}
use Rattle.pdp_step.proofs.in_memory.AutoincrementAddressingMode.value.Goals as goal

pub returns-clause-source : goal.returns-clause-source
unfolding operand_of
returns-clause-source g c =
    let m = g.P.Processor.machine c.args.p.now in
    let w = g.W.Size.width in
    let same : value_in w (g.P.Processor.machine c.set_reg.new.self).image (g.P.Processor.address (g.P.Processor.rest c.set_reg.new.self) c.in_ok-place.place) ≡ value_in w m.image c.reg-at.result = ap (λ (x : Machine). value_in w x.image (g.P.Processor.address (g.P.Processor.rest c.set_reg.new.self) c.in_ok-place.place)) c.set_reg.ensures.machine ∙ (ap (λ (r : g.P.Processor.Rest). value_in w m.image (g.P.Processor.address r c.in_ok-place.place)) c.set_reg.ensures.rest ∙ ap (λ (a : ℕ). value_in w m.image a) c.in_ok-place.ensures.address) in
    let loaded = subst (λ (r : Result ℕ Trap). IsLoaded c.read.result r) same c.read.ensures.value in
    let size = sym (c.step.ensures.value (reg_of (c.args.n % 8)) c.requires.way.1) in
    rw c.set_reg.ensures.machine (value_increment m c.args._pc.now w c.args.n c.reg-at.result _ c.read.result c.requires.way (steps_apart w) c.reg-at.ensures (ap (λ (s : ℕ). plus c.reg-at.result s) size) loaded)
