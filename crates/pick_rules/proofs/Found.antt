-- What is found among some numbers is one of them and passes the test.
use Rattle.std.proofs.Common.{◌≡◌, ◌≤◌, ◌<◌, ◌+◌, ℕ, zero, suc, Bool, true, false, cond, ◌∷◌, Option, Some, None, find, filter, refl, subst, arith}
use Rattle.std.specs.List.{range_with_len}
use Rattle.pick_rules.specs.Search.{first_of_two, least}

pub record IsFound (test : ℕ → Bool) (first n s : ℕ) : Type 0 where
  pub least : first ≤ s
  pub below : s < first + n
  pub passes : test s ≡ true

here : (test : ℕ → Bool) (first n s : ℕ) → test first ≡ true → first ≡ s → IsFound test first (suc n) s
here test first n s t e =
    subst (IsFound test first (suc n)) e (record { least = omega arith; below = omega arith; passes = t })

later : (test : ℕ → Bool) (first n s : ℕ) → IsFound test (first + 1) n s → IsFound test first (suc n) s
later test first n s k = let l = k.least in let m = k.below in record { least = omega (arith, l); below = omega (arith, m); passes = k.passes }

pub found_in : (test : ℕ → Bool) (first n s : ℕ) → find test (range_with_len first n) ≡ Some s → IsFound test first n s
found_in test first zero s e = absurd (cc e)
found_in test first (suc n) s e = by (test first) refl e (found_in test (first + 1) n s)
  where
    by : (b : Bool) → test first ≡ b → cond b (Some first) (find test (range_with_len (first + 1) n)) ≡ Some s
        → (find test (range_with_len (first + 1) n) ≡ Some s → IsFound test (first + 1) n s)
        → IsFound test first (suc n) s
    by true t f rest = here test first n s t (cc f)
    by false t f rest = later test first n s (rest f)

-- the least of those that pass a test
pub least_in : (before : ℕ → ℕ → Bool) (test : ℕ → Bool) (first n s : ℕ)
    → least before (filter test (range_with_len first n)) ≡ Some s
    → IsFound test first n s
unfolding least
least_in before test first zero s e = absurd (cc e)
least_in before test first (suc n) s e = by (test first) refl e (least_in before test (first + 1) n)
  where
    of_two : (o : Option ℕ) → test first ≡ true → first_of_two before first o ≡ Some s
        → ((r : ℕ) → o ≡ Some r → IsFound test (first + 1) n r)
        → IsFound test first (suc n) s
    of_two None t f rest = here test first n s t (cc f)
    of_two (Some y) t f rest = one (before y first) f
      where
        one : (b : Bool) → cond b (Some y) (Some first) ≡ Some s → IsFound test first (suc n) s
        one true g = later test first n s (rest s g)
        one false g = here test first n s t (cc g)

    by : (b : Bool) → test first ≡ b
        → least before (cond b (first ∷ filter test (range_with_len (first + 1) n)) (filter test (range_with_len (first + 1) n))) ≡ Some s
        → ((r : ℕ) → least before (filter test (range_with_len (first + 1) n)) ≡ Some r → IsFound test (first + 1) n r)
        → IsFound test first (suc n) s
    by true t f rest = of_two (least before (filter test (range_with_len (first + 1) n))) t f rest
    by false t f rest = later test first n s (rest s f)
