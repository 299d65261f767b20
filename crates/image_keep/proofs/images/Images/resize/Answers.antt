use Rattle.std.proofs.Common.{◌≡◌, ◌+◌, ◌∙◌, sym, ap, arith, subst, Some, None}
use Rattle.std.specs.Prelude.{MatchResult}
use Rattle.image_keep.specs.Kept.{area_of, image_of}
use Rattle.image_keep.specs.Growth.{area_resized, image_resized}
use Rattle.image_keep.specs.Moves.{with_image_moved}
use Rattle.image_keep.proofs.Growing.{expanded_cut, expanded_grown, moved_here}
use Rattle.image_keep.proofs.images.Images.resize.Goals as goal

pub returns-then-d-stack-clause-place : goal.returns-then-d-stack-clause-place
returns-then-d-stack-clause-place c = (expanded_cut c.args.self.now.kept c.args.s (16 + c.args.d + c.args.stack) (let t = c.if-d-stack.true in let e = c.clicks.ensures in omega (arith, t, e))) ∙ c.cut.ensures.place

pub returns-then-d-stack-clause-kept : goal.returns-then-d-stack-clause-kept
returns-then-d-stack-clause-kept c = c.cut.ensures.kept ∙ moved_here c.args.self.now.kept c.args.s c.cut.result (area_resized (area_of c.args.self.now.kept c.args.s) c.args.d c.args.stack) (image_resized (image_of c.args.self.now.kept c.args.s) c.args.d c.args.stack) c.cut.ensures.place ∙ ap (with_image_moved c.args.self.now.kept c.args.s (area_resized (area_of c.args.self.now.kept c.args.s) c.args.d c.args.stack) (image_resized (image_of c.args.self.now.kept c.args.s) c.args.d c.args.stack)) (sym ((expanded_cut c.args.self.now.kept c.args.s (16 + c.args.d + c.args.stack) (let t = c.if-d-stack.true in let e = c.clicks.ensures in omega (arith, t, e))) ∙ c.cut.ensures.place))

pub returns-clause-place : goal.returns-clause-place
returns-clause-place c = subst (λ o. MatchResult c.grow.result (λ place. o ≡ Some place) (λ _. o ≡ None)) (sym (expanded_grown c.args.self.now.kept c.args.s (16 + c.args.d + c.args.stack) (let t = c.if-d-stack.false in let e = c.clicks.ensures in omega (arith, t, e)))) c.grow.ensures.place

pub returns-clause-kept : goal.returns-clause-kept
returns-clause-kept c = c.grow.ensures.kept ∙ ap (with_image_moved c.args.self.now.kept c.args.s (area_resized (area_of c.args.self.now.kept c.args.s) c.args.d c.args.stack) (image_resized (image_of c.args.self.now.kept c.args.s) c.args.d c.args.stack)) (sym (expanded_grown c.args.self.now.kept c.args.s (16 + c.args.d + c.args.stack) (let t = c.if-d-stack.false in let e = c.clicks.ensures in omega (arith, t, e))))
