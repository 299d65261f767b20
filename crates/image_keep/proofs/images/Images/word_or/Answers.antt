use Rattle.std.proofs.Common.{◌≡◌, ◌%◌, ◌∙◌, ℕ, List, length, sym, ap, subst, arith}
use Rattle.v6_base.specs.Image.{Image}
use Rattle.v6_base.specs.Access.{load_word}
use Rattle.pdp_step.specs.Machine.{Machine}
use Rattle.image_keep.specs.Kept.{image_of}
use Rattle.image_keep.specs.Running.{value_or}
use Rattle.image_keep.specs.Standing.{standing_image, StandsIn}
use Rattle.image_keep.proofs.StateOf.{kept_is}
use Rattle.image_keep.proofs.NearCore.{at_hand}
use Rattle.image_keep.proofs.images.Images.word_or.Goals as goal

pub instruction_word-requires : goal.instruction_word-requires
instruction_word-requires c some =
    let there = at_hand c.self.inside c.args.self.now.kept c.args.fixed.now (kept_is c.self.view_is) c.self.invariant c.see_bytes.ensures c.requires in
    subst (λ (l : List ℕ). StandsIn (length l) c.args.fixed.now.standing) (sym c.core_bytes.ensures) (there.inside some)

pub returns-in-Some : goal.returns-in-Some
returns-in-Some c =
    let there = at_hand c.self.inside c.args.self.now.kept c.args.fixed.now (kept_is c.self.view_is) c.self.invariant c.see_bytes.ensures c.requires in
    let same : c.args.at % 65536 ≡ c.args.at = omega arith in
    sym (
    ap (λ (a : ℕ). value_or (load_word (image_of c.args.self.now.kept c.args.fixed.now.slot) a) c.args.other) same
    ∙ ap (λ (m : Image). value_or (load_word m c.args.at) c.args.other) (sym (ap (λ (n : Machine). n.image) (there.machine c.in-Some.ensures.near)))
    ∙ ap (λ (l : List ℕ). value_or (load_word (standing_image l c.args.fixed.now.standing) c.args.at) c.args.other) (sym c.core_bytes.ensures)
    ∙ ap (λ (a : ℕ). value_or (load_word (standing_image c.core_bytes.result.now c.args.fixed.now.standing) a) c.args.other) (sym c.from.ensures)
    ∙ ap (λ r. value_or r c.args.other) c.in-Some.ensures.word
    )
