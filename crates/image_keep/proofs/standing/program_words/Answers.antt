use Rattle.std.proofs.Common.{◌≡◌, ◌+◌, ◌%◌, ◌<◌, ◌∙◌, ◌∷◌, [], length, rules, arith}
use Rattle.image_keep.specs.Standing.{StandsIn}
use Rattle.image_keep.proofs.ProgramWords.{words_are}
use Rattle.image_keep.proofs.standing.program_words.Goals as goal

pub returns-clause-words : goal.returns-clause-words
returns-clause-words c other =
    let even : c.args.pc % 2 ≡ 0 = search rules in
    let low : c.args.pc + 6 < c.args.f.now.code_len = search rules in
    let stands : StandsIn (length c.args.core.now) c.args.f.now = c.requires.stands (omega (arith, low)) in
    (λ i. c.word_in.ensures i ∷ c.word_in-2.ensures i ∷ c.word_in-3.ensures i ∷ c.word_in-4.ensures i ∷ [])
    ∙ words_are c.args.core.now c.args.f.now c.args.pc other stands even low
