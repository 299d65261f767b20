-- The word at PC asks for a call.
use Rattle.std.proofs.Common.{◌≡◌, ◌%◌, ℕ, refl, sym, ap, ◌∙◌}
use Rattle.v6_base.specs.Access.{load_word}
use Rattle.pdp_decode.specs.declared.instr.Instr.TheVariants.{Sys}
use Rattle.pdp_decode.proofs.Alone.{word_alone}
use Rattle.pdp_step.specs.declared.outcome.Outcome.TheVariants.{Call}
use Rattle.pdp_step.specs.Machine.{Machine}
use Rattle.pdp_step.specs.Instruction.{stepped, instr}
use Rattle.image_keep.specs.Standing.{standing_image}
use Rattle.image_keep.specs.Near.{standing_machine, Around}
use Rattle.image_keep.proofs.AtPc.{instr_call}
use Rattle.image_keep.proofs.attempt.attempt_call.Goals as goal

pub returns-in-Some : goal.returns-in-Some
returns-in-Some c =
    let here : Machine = standing_machine c.args.core.now c.args.standing.now in
    let new : Machine = standing_machine c.set_pc.new.core c.args.standing.now in
    let n : ℕ = c.in-Some.word % 64 in
    let asks : instr here ≡ stepped (Call n) new =
    instr_call here c.reg-pc.result c.in-Some.word n c.reg-pc.ensures (ap (λ (a : ℕ). load_word (standing_image c.args.core.now c.args.standing.now) a) (sym c.from.ensures) ∙ c.in-Some.ensures.word) (sym (word_alone (Sys n) c.in-Some.word ((c.if-word-ge-FIRST_TRAP.true, c.if-word-le-LAST_TRAP.true), refl)))
    ∙ ap (λ (m : Machine). stepped (Call n) m) (sym c.set_pc.ensures.machine) in
    record {
      near = c.in-Some.ensures.near;
      called = asks;
      kept_core = λ none. absurd (cc none);
      around = λ _. c.set_pc.ensures.around;
      stated = λ _. c.set_pc.ensures.stands.stated;
      size = ap (λ (a : Around). a.size) c.set_pc.ensures.around;
    }
