-- PC alone has changed.
use Rattle.std.proofs.Common.{ℕ, Bool, List, refl, ap, ◌∙◌, ◌%◌}
use Rattle.pdp_decode.specs.declared.instr.Flags.{Flags}
use Rattle.pdp_decode.specs.Decode.{reg_of}
use Rattle.pdp_step.specs.Registers.{codes_in}
use Rattle.pdp_step.specs.Arithmetic.{is_taken}
use Rattle.pdp_step.specs.Rows.{branched}
use Rattle.pdp_step.specs.Parts.{at_pc}
use Rattle.pdp_step.proofs.PcRows.{branched_at}
use Rattle.pdp_step.proofs.RowEnds.{plain_done}
use Rattle.pdp_step.proofs.transfers.branch_if.Goals as goal

pub returns-clause-row : goal.returns-clause-row
unfolding reg_of
returns-clause-row g c =
    let old = g.P.Processor.machine c.args.p.now in
    let r = (at_pc old c.args.pc).r in
    let goes = c.taken-goes.ensures ∙ (ap (λ (x : Flags). is_taken c.args.condition x) c.codes.ensures ∙ ap (λ (x : ℕ). is_taken c.args.condition (codes_in x)) c.cc.ensures.codes) in
    let one = branched_at old.r c.args.pc c.target-to.result c.taken-goes.result (c.args.word % 256) (g.met.P.Processor.eight c.args.p.now) c.target-to.ensures.goes c.target-to.ensures.stays in
    let registers = one ∙ ap (λ (x : Bool). branched r x (c.args.word % 256)) goes in
    plain_done (g.P.Processor.machine c.set_reg.new.self) (record old { r = branched r (is_taken c.args.condition (codes_in old.cc)) (c.args.word % 256) }) old.image (c.set_reg.ensures.machine ∙ ap (λ (x : List ℕ). record old { r = x }) registers) refl
