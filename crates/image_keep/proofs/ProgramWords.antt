-- Words of the program, one after another, are those of the image.
use Rattle.std.proofs.Common.{◌≡◌, ℕ, ◌+◌, ◌*◌, ◌%◌, ◌<◌, List, [], ◌∷◌, length, slice_index, sym, ap, ◌∙◌, arith}
use Rattle.v6_base.specs.Access.{load_word}
use Rattle.image_keep.specs.declared.standing.Standing.{Standing}
use Rattle.image_keep.specs.Running.{value_or, word_or, words_or}
use Rattle.image_keep.specs.Standing.{standing_image, StandsIn}
use Rattle.image_keep.proofs.StandingParts.{program_loaded, program_small}

word_is : (core : List ℕ) (f : Standing) (pc k other : ℕ) → StandsIn (length core) f → pc % 2 ≡ 0 → k % 2 ≡ 0 → pc + k < f.code_len
    → word_or (standing_image core f) (pc + k) other ≡ slice_index core (f.code + pc + k) + 256 * slice_index core (f.code + pc + k + 1)
word_is core f pc k other s even two low =
    let small = program_small (length core) f (pc + k) s low in
    let both : (pc + k) % 2 ≡ 0 = omega (arith, even, two) in
    let same : (pc + k) % 65536 ≡ pc + k = omega (arith, small) in
    let at : f.code + (pc + k) ≡ f.code + pc + k = omega arith in
    ap (λ a. value_or (load_word (standing_image core f) a) other) same
    ∙ ap (λ r. value_or r other) (program_loaded core f (pc + k) s both low)
    ∙ ap (λ i. slice_index core i + 256 * slice_index core (i + 1)) at

-- the four words from an even address on
pub words_are : (core : List ℕ) (f : Standing) (pc other : ℕ) → StandsIn (length core) f → pc % 2 ≡ 0 → pc + 6 < f.code_len
    → (slice_index core (f.code + pc) + 256 * slice_index core (f.code + pc + 1)) ∷ (slice_index core (f.code + pc + 2) + 256 * slice_index core (f.code + pc + 2 + 1))
    ∷ (slice_index core (f.code + pc + 4) + 256 * slice_index core (f.code + pc + 4 + 1)) ∷ (slice_index core (f.code + pc + 6) + 256 * slice_index core (f.code + pc + 6 + 1)) ∷ []
    ≡ words_or (standing_image core f) pc other
words_are core f pc other s even low =
    let e : pc + 0 ≡ pc = omega arith in
    let d : f.code + pc + 0 ≡ f.code + pc = omega arith in
    let first = ap (λ i. slice_index core i + 256 * slice_index core (i + 1)) (sym d) ∙ sym (word_is core f pc 0 other s even (omega arith) (omega (arith, low))) ∙ ap (λ a. word_or (standing_image core f) a other) e in
    let second = sym (word_is core f pc 2 other s even (omega arith) (omega (arith, low))) in
    let third = sym (word_is core f pc 4 other s even (omega arith) (omega (arith, low))) in
    let fourth = sym (word_is core f pc 6 other s even (omega arith) low) in
    λ i. first i ∷ second i ∷ third i ∷ fourth i ∷ []
