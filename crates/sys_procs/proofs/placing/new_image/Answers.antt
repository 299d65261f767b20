use Rattle.std.proofs.Common.{◌≡◌, ◌∙◌, ◌+◌, Some, None, MatchResult, subst}
use Rattle.image_keep.specs.Area.{made_area}
use Rattle.image_keep.specs.Kept.{text_bytes}
use Rattle.image_keep.specs.Moves.{with_image_moved}
use Rattle.image_keep.specs.Places.{placed, made_image}
use Rattle.sys_procs.proofs.placing.new_image.Goals as goal

pub returns-clause-place : goal.returns-clause-place
returns-clause-place c =
    let clicks : 16 + c.in-Ok.proto.data_size + c.in-Ok.proto.stack_size ≡ 16 + c.args.d + 20 =
    λ i. 16 + c.in-Ok.ensures.2 i + c.in-Ok.ensures.3 i in
    subst (λ n. MatchResult c.replace.result
    (λ place. placed c.args.images.now.kept c.args.s n ≡ Some place)
    (λ _. placed c.args.images.now.kept c.args.s n ≡ None)) clicks c.replace.ensures.place

pub replace-requires-clause-text_size : goal.replace-requires-clause-text_size
replace-requires-clause-text_size c = c.in-Ok.ensures.1 ∙ c.requires.clicks

pub returns-clause-images : goal.returns-clause-images
returns-clause-images c =
    c.replace.ensures.kept
    ∙ (λ i. with_image_moved c.args.images.now.kept c.args.s
    (made_area (c.in-Ok.ensures.1 i) (c.in-Ok.ensures.2 i) (c.in-Ok.ensures.3 i))
    (made_image (text_bytes c.args.images.now.kept c.args.text) (c.in-Ok.ensures.2 i) (c.in-Ok.ensures.3 i))
    (placed c.args.images.now.kept c.args.s (16 + c.in-Ok.ensures.2 i + c.in-Ok.ensures.3 i)))
