-- What is known when the loan of a slot's image has ended.
use Rattle.std.proofs.Common.{◌≡◌, ℕ, sym, ap, ◌∙◌}
use Rattle.std.specs.Borrow.{GName}
use Rattle.image_keep.specs.Kept.{Kept, image_of, with_image}
use Rattle.image_keep.specs.Lent.{Lent, Outside, left_of}
use Rattle.image_keep.proofs.Frames.{after}

-- When the memory of a slot that was lent comes back, that alone has changed.
pub lent_back : (k before now : Kept) (s was is : ℕ) (a b : GName) {x y : Outside} → before ≡ k → was ≡ s
    → ◌≡◌ {A = Lent} (record { loan = a; slot = is; left = left_of now is; outside = x }) (record { loan = b; slot = was; left = left_of before was; outside = y })
    → now ≡ with_image k s (image_of now is)
lent_back k before now s was is a b begins slot same =
    let at : is ≡ s = ap (λ (l : Lent). l.slot) same ∙ slot in
    let left : left_of now is ≡ left_of before was = ap (λ (l : Lent). l.left) same in
    let alike : left_of now s ≡ left_of k s = ap (left_of now) (sym at) ∙ (left ∙ (ap (λ x. left_of x was) begins ∙ ap (left_of k) slot)) in
    after k now s alike ∙ ap (λ x. with_image k s (image_of now x)) (sym at)
