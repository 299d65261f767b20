use Rattle.std.proofs.Common.{◌≡◌, ◌%◌, ◌∙◌, ℕ, sym, ap, arith}
use Rattle.v6_base.specs.Access.{load_word}
use Rattle.image_keep.specs.Kept.{image_of}
use Rattle.image_keep.specs.Running.{value_or}
use Rattle.image_keep.proofs.images.Images.any_word_or.Goals as goal

pub returns-in-Ok : goal.returns-in-Ok
returns-in-Ok c =
    let same : c.args.at ≡ c.args.at % 65536 = omega arith in
    ap (λ r. value_or r c.args.other) (sym c.in-Ok.is ∙ c.load_word.ensures)
    ∙ ap (λ (s : ℕ). value_or (load_word (image_of c.args.self.now.kept s) c.args.at) c.args.other) c.args.fixed.now.indexed
    ∙ ap (λ (a : ℕ). value_or (load_word (image_of c.args.self.now.kept c.args.fixed.now.slot) a) c.args.other) same

pub returns-in-Err : goal.returns-in-Err
returns-in-Err c =
    let same : c.args.at ≡ c.args.at % 65536 = omega arith in
    ap (λ r. value_or r c.args.other) (sym c.in-Err.is ∙ c.load_word.ensures)
    ∙ ap (λ (s : ℕ). value_or (load_word (image_of c.args.self.now.kept s) c.args.at) c.args.other) c.args.fixed.now.indexed
    ∙ ap (λ (a : ℕ). value_or (load_word (image_of c.args.self.now.kept c.args.fixed.now.slot) a) c.args.other) same
