-- References of which none are many.
use Rattle.std.proofs.Common.{◌≡◌, ◌+◌, ◌-◌, ◌≤◌, ℕ, zero, suc, Bool, true, false, if◌then◌else◌, List, [], ◌∷◌, slice_index, slice_set, arith}

-- one of them is set
set_few : (r : List ℕ) (k i v n : ℕ) → ((j : ℕ) → slice_index r j ≤ n) → v ≤ n → slice_index (slice_set r k v) i ≤ n
set_few [] k i v n few low = few i
set_few (x ∷ r) zero zero v n few low = low
set_few (x ∷ r) zero (suc i) v n few low = few (suc i)
set_few (x ∷ r) (suc k) zero v n few low = few zero
set_few (x ∷ r) (suc k) (suc i) v n few low = set_few r k i v n (λ j. few (suc j)) low

-- one goes
pub lowered : (r : List ℕ) (k n : ℕ) → ((j : ℕ) → slice_index r j ≤ n) → (i : ℕ)
    → slice_index (slice_set r k (slice_index r k - 1)) i ≤ n
lowered r k n few i = let here = few k in set_few r k i (slice_index r k - 1) n few (omega (arith, here))

-- two references more, of which one goes
pub one_left : (b : Bool) (old more new : ℕ) → more ≡ old + (if b then 2 else 0) → new + (if b then 1 else 0) ≡ more
    → new ≡ old + (if b then 1 else 0)
one_left true old more new two less = omega (arith, two, less)
one_left false old more new two less = omega (arith, two, less)
