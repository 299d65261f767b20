-- The first line of a text, and those after it.
use Rattle.std.proofs.Common.{◌≡◌, ◌≤◌, ◌<◌, ◌+◌, ℕ, Bool, true, false, List, [], ◌∷◌, length, take, drop, Some, None, refl, sym, ◌∙◌, ap, arith, subst, eqb, ltb, cond}
use Rattle.std.proofs.lemmas.Bool.{ltb-true}
use Rattle.std.proofs.lemmas.Bool.Decides.{nat_tests}
use Rattle.std.proofs.lemmas.List.Splits.{slice_split_first, slice_split_none, length-slice_split}
use Rattle.std.proofs.lemmas.List.Sums.{fails_before_first}
use Rattle.std.specs.List.{slice_split, position, position_or_len, All}
use Rattle.std.specs.Str.Lines.{strip_carriage_return}
use Rattle.script_text.specs.Lines.{lines_of_parts, lines_of}

abbrev is_feed : ℕ → Bool
is_feed byte = eqb byte 10

one_more : (part : List ℕ) (parts : List (List ℕ)) → 0 < length parts
    → lines_of_parts (part ∷ parts) ≡ strip_carriage_return part ∷ lines_of_parts parts
one_more part [] more = absurd (omega arith)
one_more part (next ∷ parts) more = refl

cut_at : (test : Bool) (k m n : ℕ) → ltb k m ≡ test → cond test (Some k) None ≡ Some n → (n ≡ k) × (k < m)
cut_at true k m n below is = (sym (cc), ltb-true k m below)
cut_at false k m n above is = cc

cut_past : (test : Bool) (k m : ℕ) → ltb k m ≡ test → cond test (Some k) None ≡ None → m ≤ k
cut_past true k m below is = cc
cut_past false k m above is = grind (arith, nat_tests)

at_feed : (text : List ℕ) (n : ℕ) → position is_feed text ≡ Some n
    → (n ≡ position_or_len is_feed text) × (n < length text)
at_feed text n is =
    let cut = cut_at (ltb (position_or_len is_feed text) (length text)) (position_or_len is_feed text) (length text) n refl is in
    (cut.0, rw cut.0 cut.1)

no_feed : (text : List ℕ) → position is_feed text ≡ None → length text ≤ position_or_len is_feed text
no_feed text is = cut_past (ltb (position_or_len is_feed text) (length text)) (position_or_len is_feed text) (length text) refl is

pub lines_of-feed : (text : List ℕ) (n : ℕ) → position is_feed text ≡ Some n
    → lines_of text ≡ strip_carriage_return (take n text) ∷ lines_of (drop (n + 1) text)
lines_of-feed text n is =
    let found = at_feed text n is in
    let first : n ≡ position_or_len is_feed text = found.0 in
    let parts : slice_split is_feed text ≡ take n text ∷ slice_split is_feed (drop (n + 1) text) =
    rw first (slice_split_first is_feed text 0 (subst (λ k. k < length text) first found.1)) in
    let more : 0 < length (slice_split is_feed (drop (n + 1) text)) = omega (arith, length-slice_split is_feed (drop (n + 1) text)) in
    ap lines_of_parts parts ∙ one_more (take n text) (slice_split is_feed (drop (n + 1) text)) more

last_part : (text : List ℕ) → 0 < length text → lines_of_parts (text ∷ []) ≡ text ∷ []
last_part [] more = absurd (omega arith)
last_part (x ∷ xs) more = grind (arith, nat_tests)

pub lines_of-last : (text : List ℕ) → position is_feed text ≡ None → 0 < length text
    → lines_of text ≡ text ∷ []
lines_of-last text is more =
    let past = no_feed text is in
    let none : All (λ byte. is_feed byte ≡ false) text = λ k d inside. fails_before_first is_feed text k d (omega arith) in
    ap lines_of_parts (slice_split_none is_feed text none) ∙ last_part text more
