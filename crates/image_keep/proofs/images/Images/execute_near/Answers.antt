use Rattle.std.proofs.Common.{◌∙◌, ◌-◌, ap, subst}
use Rattle.pdp_step.specs.Instruction.{instr}
use Rattle.image_keep.specs.Inside.{state_of}
use Rattle.image_keep.specs.Lent.{outside_of}
use Rattle.image_keep.specs.Running.{machine_in}
use Rattle.image_keep.specs.Stepped.{IsSteppedAt}
use Rattle.image_keep.proofs.StateOf.{kept_is}
use Rattle.image_keep.proofs.SteppedNear.{executed_near}
use Rattle.image_keep.proofs.NearCore.{at_hand_in, executed_in}
use Rattle.image_keep.proofs.images.Images.execute_near.Goals as goal

pub attempt-requires-clause-at_hand : goal.attempt-requires-clause-at_hand
attempt-requires-clause-at_hand c = at_hand_in c.self.inside c.args.self.now.kept c.args.fixed.now (kept_is c.self.view_is) c.self.invariant c.see_bytes.ensures c.requires

pub invariant_of-self : goal.invariant_of-self
invariant_of-self c = (executed_in c.self.inside c.args.self.now.kept c.args.fixed.now c.attempt.new.self c.attempt.result (kept_is c.self.view_is) c.self.invariant c.see_bytes.ensures c.requires c.attempt.ensures.did c.attempt.ensures.swap).images

pub returns : goal.returns
returns c =
    let e = executed_in c.self.inside c.args.self.now.kept c.args.fixed.now c.attempt.new.self c.attempt.result (kept_is c.self.view_is) c.self.invariant c.see_bytes.ensures c.requires c.attempt.ensures.did c.attempt.ensures.swap in
    let near = executed_near c.self.inside c.args.self.now.kept c.args.fixed.now (kept_is c.self.view_is) c.self.invariant c.see_bytes.ensures c.requires c.attempt.new.self c.attempt.result c.attempt.ensures.did c.attempt.ensures.swap in
    let s = c.args.fixed.now.slot in
    let after = state_of (record c.self.inside { memory = c.attempt.new.self }) in
    let m = (instr (machine_in c.args.self.now.kept s)).machine in
    record {
      outcome = e.outcome;
      done = e.done;
      kept = e.kept;
      written = λ well. subst (λ x. IsSteppedAt x after s (c.args.fixed.now.starts.image - 1024) m) c.self.view_is (near.written well);
      same = λ ill. near.same ill ∙ ap (λ x. outside_of x s) c.self.view_is;
      fixed = e.fixed;
    }
