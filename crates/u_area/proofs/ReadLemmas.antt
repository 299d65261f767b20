-- Fields are read where they stand, one by one.
use Rattle.std.proofs.Common.{◌≡◌, ◌+◌, ◌*◌, ◌<◌, ◌≤◌, ℕ, zero, suc, List, [], ◌∷◌, length, slice_index, refl, sym, ap, ◌∙◌, arith}
use Rattle.fs_codec.specs.Words.{word, words}
use Rattle.fs_codec.proofs.BytesLemmas.{part, part_cons}
use Rattle.fs_codec.proofs.WordsLemmas.{word_of_words}

-- a word of several
pub word_nth : (b : List ℕ) (at n k : ℕ) → k < n → word b (at + 2 * k) ≡ slice_index (words b at n) k
word_nth b at n k low = sym (word_of_words b at n k low)

pub ruleset nths = (word_nth)

-- n bytes, one by one, from the one k behind a place on
abbrev pub each : ℕ → ℕ → ℕ → List ℕ → List ℕ
each at k zero b = []
each at k (suc n) b = slice_index b (at + k) ∷ each at (suc k) n b

each_on : (n at k : ℕ) (b : List ℕ) → at + k + n ≤ length b → part (at + k) n b ≡ each at k n b
unfolding part
each_on zero at k b fits = refl
each_on (suc n) at k b fits =
    let more : n + 1 ≡ suc n = omega arith in
    let next : at + k + 1 ≡ at + suc k = omega arith in
    sym (ap (λ m. part (at + k) m b) more) ∙ sym (part_cons (at + k) n b (omega (arith, fits)))
    ∙ ap (λ (l : List ℕ). slice_index b (at + k) ∷ l) (ap (λ i. part i n b) next ∙ each_on n at (suc k) b (omega (arith, fits)))

pub part_each : (n at : ℕ) (b : List ℕ) → at + n ≤ length b → part at n b ≡ each at 0 n b
part_each n at b fits =
    let first : at ≡ at + 0 = omega arith in
    ap (λ i. part i n b) first ∙ each_on n at 0 b (omega (arith, fits))
