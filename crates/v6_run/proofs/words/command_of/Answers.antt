use Rattle.std.proofs.Common.{◌≡◌, ◌≢◌, ◌<◌, ◌≤◌, List, [], ◌∷◌, length, String, None, refl, arith}
use Rattle.std.proofs.lemmas.Bool.{ltb-true, ltb-false}
use Rattle.std.specs.declared.alloc.Global.{Global}
use Rattle.v6_run.specs.Words.{command_in}
use Rattle.v6_run.proofs.words.command_of.Goals as goal

-- So many words are no command's.
no_command : (words : List (String Global)) → length words ≢ 2 → length words ≢ 3 → length words ≢ 5
    → length words ≢ 7 → length words ≢ 9 → None ≡ command_in words
no_command [] two three five seven nine = refl
no_command (a ∷ []) two three five seven nine = refl
no_command (a ∷ b ∷ []) two three five seven nine = absurd (two refl)
no_command (a ∷ b ∷ c ∷ []) two three five seven nine = absurd (three refl)
no_command (a ∷ b ∷ c ∷ d ∷ []) two three five seven nine = refl
no_command (a ∷ b ∷ c ∷ d ∷ e ∷ []) two three five seven nine = absurd (five refl)
no_command (a ∷ b ∷ c ∷ d ∷ e ∷ f ∷ []) two three five seven nine = refl
no_command (a ∷ b ∷ c ∷ d ∷ e ∷ f ∷ g ∷ []) two three five seven nine = absurd (seven refl)
no_command (a ∷ b ∷ c ∷ d ∷ e ∷ f ∷ g ∷ h ∷ []) two three five seven nine = refl
no_command (a ∷ b ∷ c ∷ d ∷ e ∷ f ∷ g ∷ h ∷ i ∷ []) two three five seven nine = absurd (nine refl)
no_command (a ∷ b ∷ c ∷ d ∷ e ∷ f ∷ g ∷ h ∷ i ∷ j ∷ more) two three five seven nine = refl

pub returns-in_default : goal.returns-in_default
returns-in_default c =
    let words = c.args.words.now in
    elim c.in_default.branch [
      | goal.in_default-via-then-words-lt6+then-words-lt2 w ↦
          let most : length words < 2 = ltb-true (length words) 2 w.if-words-lt2-1.true in
          no_command words (omega (arith, most)) (omega (arith, most)) (omega (arith, most))
          (omega (arith, most)) (omega (arith, most))
      | goal.in_default-via-then-words-lt6+else-words-lt2+else-words-lt3+else-words-lt4+then-words-lt5 w ↦
          let least : 4 ≤ length words = ltb-false (length words) 4 w.if-words-lt4-1.false in
          let most : length words < 5 = ltb-true (length words) 5 w.if-words-lt5-1.true in
          no_command words (omega (arith, least)) (omega (arith, least)) (omega (arith, most))
          (omega (arith, most)) (omega (arith, most))
      | goal.in_default-via-else-words-lt6+then-words-lt7 w ↦
          let least : 6 ≤ length words = ltb-false (length words) 6 w.if-words-lt6-1.false in
          let most : length words < 7 = ltb-true (length words) 7 w.if-words-lt7-1.true in
          no_command words (omega (arith, least)) (omega (arith, least)) (omega (arith, least))
          (omega (arith, most)) (omega (arith, most))
      | goal.in_default-via-else-words-lt6+else-words-lt7+else-words-lt8+then-words-lt9 w ↦
          let least : 8 ≤ length words = ltb-false (length words) 8 w.if-words-lt8-1.false in
          let most : length words < 9 = ltb-true (length words) 9 w.if-words-lt9-1.true in
          no_command words (omega (arith, least)) (omega (arith, least)) (omega (arith, least))
          (omega (arith, least)) (omega (arith, most))
      | goal.in_default-via-else-words-lt6+else-words-lt7+else-words-lt8+else-words-lt9+else-words-lt10 w ↦
          let least : 10 ≤ length words = ltb-false (length words) 10 w.if-words-lt10-1.false in
          no_command words (omega (arith, least)) (omega (arith, least)) (omega (arith, least))
          (omega (arith, least)) (omega (arith, least))
    ]
