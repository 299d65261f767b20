-- A word that a call takes, where one that can't be read is all ones.
use Rattle.std.proofs.Common.{◌≡◌, ℕ, ◌+◌, ◌%◌, [], ◌∷◌, refl}
use Rattle.std.specs.Prelude.{Result, Ok, Err}
use Rattle.v6_base.specs.declared.space.Trap.{Trap}
use Rattle.v6_base.specs.Image.{Image}
use Rattle.v6_base.specs.Access.{load_word}
use Rattle.image_keep.specs.Running.{value_or, word_or, words_or}
use Rattle.abstract_unix.specs.Calls.{word_or_ones, word_at, arguments_at}

ones : (r : Result ℕ Trap) → value_or r 0o177777 ≡ word_or_ones r
ones (Ok word) = refl
ones (Err trap) = refl

pub word_is : (m : Image) (at : ℕ) → word_or m at 0o177777 ≡ word_at m at
word_is m at = ones (load_word m (at % 65536))

pub words_are : (m : Image) (at : ℕ) → words_or m at 0o177777 ≡ arguments_at m at
words_are m at = λ i. word_is m at i ∷ word_is m (at + 2) i ∷ word_is m (at + 4) i ∷ word_is m (at + 6) i ∷ []
