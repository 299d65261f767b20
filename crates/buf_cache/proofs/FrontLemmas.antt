-- An element that comes forward in a list, place by place.
use Rattle.std.proofs.Common.{◌≡◌, ℕ, zero, suc, ◌+◌, ◌-◌, ◌<◌, ◌≤◌, List, [], ◌∷◌, length, get_or, set, refl, sym, ap, ◌∙◌, arith}
use Rattle.std.proofs.lemmas.List.Edits.{swap_is, length-insert, length-remove}
use Rattle.std.specs.List.{insert, remove, swap}

-- At its own place the list is as it was.
pub at_its_place : {X : Type 0} (xs : List X) (place : ℕ) (d : X) → place < length xs → xs ≡ insert (remove xs place) place (get_or xs place d)
at_its_place [] place d low = absurd (omega (arith, low))
at_its_place (x ∷ xs) zero d low = refl
at_its_place (x ∷ xs) (suc place) d low = ap (λ l. x ∷ l) (at_its_place xs place d (omega (arith, low)))

-- It changes places with the one before it.
one_before : {X : Type 0} (xs : List X) (k : ℕ) (x d : X) → k < length xs
    → set (set (insert xs (suc k) x) k (get_or (insert xs (suc k) x) (suc k) d)) (suc k) (get_or (insert xs (suc k) x) k d) ≡ insert xs k x
one_before [] k x d low = absurd (omega (arith, low))
one_before (y ∷ xs) zero x d low = refl
one_before (y ∷ xs) (suc k) x d low = ap (λ l. y ∷ l) (one_before xs k x d (omega (arith, low)))

pub comes_forward : {X : Type 0} (xs now new : List X) (place k : ℕ) (d : X) → 1 ≤ k → k ≤ place → place < length xs
    → now ≡ insert (remove xs place) k (get_or xs place d) → new ≡ swap now (k - 1) (k - 1 + 1) → new ≡ insert (remove xs place) (k - 1) (get_or xs place d)
comes_forward {X} xs now new place zero d some few low is next = absurd (omega (arith, some))
comes_forward {X} xs now new place (suc k) d some few low is next =
    let before : suc k - 1 ≡ k = omega arith in
    let after : suc k - 1 + 1 ≡ suc k = omega arith in
    let rest : List X = remove xs place in
    let x : X = get_or xs place d in
    let short = length-remove xs place low in
    let long = length-insert rest (suc k) x (omega (arith, short, few, low)) in
    next ∙ ap (λ l. swap l (suc k - 1) (suc k - 1 + 1)) is ∙ (λ j. swap (insert rest (suc k) x) (before j) (after j))
    ∙ sym (swap_is (insert rest (suc k) x) k (suc k) d (omega (arith, long, short, few, low)) (omega (arith, long, short, few, low)))
    ∙ one_before rest k x d (omega (arith, short, few, low))
    ∙ ap (λ i. insert rest i x) (sym before)
