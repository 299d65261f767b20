-- PC and the codes alone have changed.
use Rattle.std.proofs.Common.{ℕ, refl, ap, ◌∙◌}
use Rattle.pdp_decode.specs.Numbers.{flag_bits}
use Rattle.pdp_step.specs.Registers.{codes_in}
use Rattle.pdp_step.specs.Machine.{Machine, with_codes}
use Rattle.pdp_step.specs.Rows.{named_codes}
use Rattle.pdp_step.specs.Parts.{at_pc}
use Rattle.pdp_step.proofs.RowEnds.{plain_done}
use Rattle.pdp_step.proofs.transfers.set_codes.Goals as goal

pub returns-clause-row : goal.returns-clause-row
returns-clause-row g c =
    let old = g.P.Processor.machine c.args.p.now in
    let m = at_pc old c.args.pc in
    let cc = c.named-cc.ensures.bits ∙ ap (λ (x : ℕ). flag_bits (named_codes c.args.set c.args.names (codes_in x))) c.cc.ensures.codes in
    plain_done (g.P.Processor.machine c.set_cc.new.self) (with_codes m (flag_bits (named_codes c.args.set c.args.names (codes_in old.cc)))) old.image (c.set_cc.ensures.machine ∙ (ap (λ (x : Machine). with_codes x c.named-cc.result) c.set_pc.ensures.machine ∙ ap (λ (x : ℕ). with_codes m x) cc)) refl
