-- Words in a list of bytes, as the PDP-11 keeps them: a word is two bytes, the low one first.
use Rattle.std.specs.Prelude.{◌≡◌, ℕ, ◌+◌, ◌*◌, ◌<◌, ◌≤◌, List, map, slice_index}
use Rattle.std.specs.List.{range_with_len}

abbrev pub word : List ℕ → ℕ → ℕ
word bytes at = slice_index bytes at + 256 * slice_index bytes (at + 1)

-- a number in two words, the high word first
abbrev pub long : List ℕ → ℕ → ℕ
long bytes at = 65536 * word bytes at + word bytes (at + 2)

-- n words, one after the other
unfoldable pub words : List ℕ → ℕ → ℕ → List ℕ
words bytes at n = map (λ k. word bytes (at + 2 * k)) (range_with_len 0 n)

-- n bytes, of which those past the list's end are 0
unfoldable pub bytes_from : List ℕ → ℕ → ℕ → List ℕ
bytes_from bytes at n = map (λ k. slice_index bytes (at + k)) (range_with_len 0 n)

-- all bytes but the n from `at` on are the same
pub record SameOutside (at n : ℕ) (old new : List ℕ) : Type 0 where
  pub before : (k : ℕ) → k < at → slice_index new k ≡ slice_index old k
  pub after : (k : ℕ) → at + n ≤ k → slice_index new k ≡ slice_index old k
