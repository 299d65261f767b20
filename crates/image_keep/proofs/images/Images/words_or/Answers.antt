use Rattle.std.proofs.Common.{◌∙◌, ℕ, List, length, sym, ap, subst}
use Rattle.v6_base.specs.Image.{Image}
use Rattle.pdp_step.specs.Machine.{Machine}
use Rattle.image_keep.specs.Running.{words_or}
use Rattle.image_keep.specs.Standing.{standing_image, StandsIn}
use Rattle.image_keep.proofs.StateOf.{kept_is}
use Rattle.image_keep.proofs.NearCore.{at_hand}
use Rattle.image_keep.proofs.images.Images.words_or.Goals as goal

pub program_words-requires-clause-stands : goal.program_words-requires-clause-stands
program_words-requires-clause-stands c some =
    let there = at_hand c.self.inside c.args.self.now.kept c.args.fixed.now (kept_is c.self.view_is) c.self.invariant c.see_bytes.ensures c.requires in
    subst (λ (l : List ℕ). StandsIn (length l) c.args.fixed.now.standing) (sym c.core_bytes.ensures) (there.inside some)

pub returns-in-Some : goal.returns-in-Some
returns-in-Some c =
    let there = at_hand c.self.inside c.args.self.now.kept c.args.fixed.now (kept_is c.self.view_is) c.self.invariant c.see_bytes.ensures c.requires in
    c.in-Some.ensures.words c.args.other
    ∙ ap (λ (a : ℕ). words_or (standing_image c.core_bytes.result.now c.args.fixed.now.standing) a c.args.other) c.from.ensures
    ∙ ap (λ (l : List ℕ). words_or (standing_image l c.args.fixed.now.standing) c.args.at c.args.other) c.core_bytes.ensures
    ∙ ap (λ (m : Image). words_or m c.args.at c.args.other) (ap (λ (n : Machine). n.image) (there.machine c.in-Some.ensures.near))
