-- Words among bytes, as lists and by their places.
use Rattle.std.proofs.Common.{◌≡◌, ◌+◌, ◌*◌, ◌<◌, ◌≤◌, ℕ, List, length, slice_index, sym, ap, ◌∙◌, ◌-◌, drop, length-drop, arith}
use Rattle.std.proofs.lemmas.List.{get_or-drop, same_lists, get_or_default}
use Rattle.std.proofs.lemmas.List.FromFn.{fill_by_all, get_or-map-range_with_len, length-map-range_with_len}
use Rattle.fs_codec.specs.Words.{word, words}

-- a list is the words at a place, where each of its numbers is
pub words_by_places : (bytes list : List ℕ) (at n : ℕ) → length list ≡ n → ((k : ℕ) → k < n → slice_index list k ≡ word bytes (at + 2 * k)) → list ≡ words bytes at n
unfolding words
words_by_places bytes list at n long each = fill_by_all (λ k. word bytes (at + 2 * k)) list n 0 long each

pub word_of_words : (bytes : List ℕ) (at n k : ℕ) → k < n → slice_index (words bytes at n) k ≡ word bytes (at + 2 * k)
unfolding words
word_of_words bytes at n k h = get_or-map-range_with_len (λ k. word bytes (at + 2 * k)) 0 n k k 0 h (omega arith)

pub length-words : (bytes : List ℕ) (at n : ℕ) → length (words bytes at n) ≡ n
unfolding words
length-words bytes at n = length-map-range_with_len (λ k. word bytes (at + 2 * k)) 0 n

-- words that were put stay where the bytes do
pub words_kept : (old new list : List ℕ) (at n : ℕ) → words old at (length list) ≡ list → length list ≡ n → ((k : ℕ) → at ≤ k → k < at + 2 * n → slice_index new k ≡ slice_index old k) → words new at n ≡ list
words_kept old new list at n is long same =
    let put : words old at n ≡ list = ap (words old at) (sym long) ∙ is in
    sym (words_by_places new (words old at n) at n (length-words old at n) (λ k h. let old_word : slice_index (words old at n) k ≡ word old (at + 2 * k) = word_of_words old at n k h in
    let low : slice_index new (at + 2 * k) ≡ slice_index old (at + 2 * k) = same (at + 2 * k) (omega arith) (omega arith) in
    let high : slice_index new (at + 2 * k + 1) ≡ slice_index old (at + 2 * k + 1) = same (at + 2 * k + 1) (omega arith) (omega arith) in
    omega arith)) ∙ put

-- what lies after a place stays where each byte does
pub drop_kept : (old new : List ℕ) (at : ℕ) → length new ≡ length old → ((k : ℕ) → at ≤ k → slice_index new k ≡ slice_index old k) → drop at new ≡ drop at old
drop_kept old new at long same =
    same_lists (drop at new) (drop at old) (simp length-drop (omega arith)) (λ k d h.
    let new_length : length (drop at new) ≡ length new - at = length-drop at new in
    let kept : slice_index new (at + k) ≡ slice_index old (at + k) = same (at + k) (omega arith) in
    get_or-drop at new k d ∙ get_or_default new (at + k) d 0 (omega arith) ∙ kept ∙ get_or_default old (at + k) 0 d (omega arith) ∙ sym (get_or-drop at old k d))
