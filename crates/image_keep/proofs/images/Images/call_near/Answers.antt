use Rattle.std.proofs.Common.{◌∙◌, ◌-◌, ap, subst}
use Rattle.std.specs.Prelude.{IfSome}
use Rattle.pdp_step.specs.Instruction.{instr}
use Rattle.image_keep.specs.Inside.{state_of}
use Rattle.image_keep.specs.Lent.{outside_of}
use Rattle.image_keep.specs.Running.{machine_in}
use Rattle.image_keep.specs.Stepped.{IsSteppedAt}
use Rattle.image_keep.proofs.StateOf.{kept_is}
use Rattle.image_keep.proofs.SteppedNear.{called_near}
use Rattle.image_keep.proofs.NearCore.{at_hand_in, called_in}
use Rattle.image_keep.proofs.images.Images.call_near.Goals as goal

pub attempt_call-requires : goal.attempt_call-requires
attempt_call-requires c = at_hand_in c.self.inside c.args.self.now.kept c.args.fixed.now (kept_is c.self.view_is) c.self.invariant c.see_bytes.ensures c.requires

pub invariant_of-self : goal.invariant_of-self
invariant_of-self c = (called_in c.self.inside c.args.self.now.kept c.args.fixed.now c.attempt_call.new.self c.attempt_call.result (kept_is c.self.view_is) c.self.invariant c.see_bytes.ensures c.requires c.attempt_call.ensures.did c.attempt_call.ensures.swap).images

pub returns : goal.returns
returns c =
    let e = called_in c.self.inside c.args.self.now.kept c.args.fixed.now c.attempt_call.new.self c.attempt_call.result (kept_is c.self.view_is) c.self.invariant c.see_bytes.ensures c.requires c.attempt_call.ensures.did c.attempt_call.ensures.swap in
    let near = called_near c.self.inside c.args.self.now.kept c.args.fixed.now (kept_is c.self.view_is) c.self.invariant c.see_bytes.ensures c.requires c.attempt_call.new.self c.attempt_call.result c.attempt_call.ensures.did c.attempt_call.ensures.swap in
    let s = c.args.fixed.now.slot in
    let after = state_of (record c.self.inside { memory = c.attempt_call.new.self }) in
    let m = (instr (machine_in c.args.self.now.kept s)).machine in
    record {
      outcome = e.outcome;
      done = e.done;
      kept = e.kept;
      written =
          subst (λ x. IfSome c.attempt_call.result (λ _. IsSteppedAt x after s (c.args.fixed.now.starts.image - 1024) m)) c.self.view_is
          near.written;
      same = λ none. near.same none ∙ ap (λ x. outside_of x s) c.self.view_is;
      fixed = e.fixed;
    }
