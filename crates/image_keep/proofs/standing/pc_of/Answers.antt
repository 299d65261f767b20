use Rattle.std.proofs.Common.{◌≡◌, ◌+◌, ◌∙◌, arith}
use Rattle.image_keep.proofs.StandingState.{register_nth}
use Rattle.image_keep.proofs.standing.pc_of.Goals as goal

pub returns : goal.returns
returns c =
    let nil = c.requires.nil in
    let same : c.from.result + c.args.f.now.nil ≡ c.from.result = omega (arith, nil) in
    same ∙ (c.from.ensures ∙ (c.word_in.ensures ∙ register_nth c.args.core.now c.args.f.now.area 7 (omega arith)))
