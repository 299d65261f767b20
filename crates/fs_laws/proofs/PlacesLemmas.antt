-- Numbers in lists, and in lists of lists, by their places and by how often they come.
use Rattle.std.proofs.Common.{◌≡◌, ◌≢◌, ◌+◌, ◌<◌, ◌≤◌, inl, inr, ℕ, zero, suc, cond, List, [], ◌∷◌, ◌++◌, length, get_or, set, slice_index, nat_eq, refl, sym, ap, subst, arith}
use Rattle.std.proofs.lemmas.Bool.Decides.{eqb_tells}
use Rattle.std.specs.List.{count_by, flat_map}
use Rattle.fs_codec.proofs.CountLemmas.{count-cons, count-append}
use Rattle.fs_laws.proofs.ChainLemmas.{count_first}

-- a list with another number at one place
pub count_set : (k : ℕ) (xs : List ℕ) (n b : ℕ) → n < length xs → count_by (nat_eq k) (set xs n b) + cond (nat_eq k (get_or xs n 0)) 1 0 ≡ count_by (nat_eq k) xs + cond (nat_eq k b) 1 0
count_set k [] n b h = absurd (omega (arith, h))
count_set k (x ∷ xs) zero b h = omega (arith, count-cons k x xs, count-cons k b xs)
count_set k (x ∷ xs) (suc n) b h = let rest = count_set k xs n b (omega (arith, h)) in omega (arith, rest, count-cons k x xs, count-cons k x (set xs n b))

-- what the lists of two parts count
pub flat_parts : (f : ℕ → List ℕ) (xs ys : List ℕ) (k : ℕ) → count_by (nat_eq k) (flat_map f (xs ++ ys)) ≡ count_by (nat_eq k) (flat_map f xs) + count_by (nat_eq k) (flat_map f ys)
flat_parts f [] ys k = omega arith
flat_parts f (x ∷ xs) ys k = let rest = flat_parts f xs ys k in omega (arith, rest, count-append k (f x) (flat_map f (xs ++ ys)), count-append k (f x) (flat_map f xs))

-- a number that a list has at a place
pub counted_at : (xs : List ℕ) (i d : ℕ) → slice_index xs i ≡ d → d ≢ 0 → 1 ≤ count_by (nat_eq d) xs
counted_at [] i d is some = absurd (some (sym is))
counted_at (x ∷ xs) zero d is some = let P : ℕ → Type 0 = λ y. 1 ≤ count_by (nat_eq y) (x ∷ xs) in subst P is (omega (arith, count_first x xs))
counted_at (x ∷ xs) (suc i) d is some = let rest = counted_at xs i d is some in omega (arith, rest, count-cons d x xs)

-- a number that comes once has one place
pub one_place : (xs : List ℕ) (i j d : ℕ) → count_by (nat_eq d) xs ≤ 1 → d ≢ 0 → slice_index xs i ≡ d → slice_index xs j ≡ d → i ≡ j
one_place [] i j d once some a b = absurd (some (sym a))
one_place (x ∷ xs) zero zero d once some a b = refl
one_place (x ∷ xs) zero (suc j) d once some a b =
    let rest = counted_at xs j d b some in let t : cond {A = ℕ} (nat_eq d x) 1 0 ≡ 1 = elim (eqb_tells d x) [ inl e ↦ ap (λ t. cond t 1 0) e.0 | inr e ↦ absurd (e.1 (sym a)) ] in
    absurd (omega (arith, rest, t, once, count-cons d x xs))
one_place (x ∷ xs) (suc i) zero d once some a b =
    let rest = counted_at xs i d a some in let t : cond {A = ℕ} (nat_eq d x) 1 0 ≡ 1 = elim (eqb_tells d x) [ inl e ↦ ap (λ t. cond t 1 0) e.0 | inr e ↦ absurd (e.1 (sym b)) ] in
    absurd (omega (arith, rest, t, once, count-cons d x xs))
one_place (x ∷ xs) (suc i) (suc j) d once some a b = ap suc (one_place xs i j d (omega (arith, once, count-cons d x xs)) some a b)

-- the lists of the others stay where one changes
pub flat_kept : (f g : ℕ → List ℕ) (xs : List ℕ) (k d : ℕ) → count_by (nat_eq d) xs ≡ 0 → ((x : ℕ) → 1 ≤ count_by (nat_eq x) xs → x ≢ d → g x ≡ f x) → count_by (nat_eq k) (flat_map g xs) ≡ count_by (nat_eq k) (flat_map f xs)
flat_kept f g [] k d none same = refl
flat_kept f g (x ∷ xs) k d none same =
    let other : x ≢ d = (λ e. let P : ℕ → Type 0 = λ y. count_by (nat_eq y) (x ∷ xs) ≡ 0 in let z : count_by (nat_eq x) (x ∷ xs) ≡ 0 = subst P (sym e) none in absurd (omega (arith, z, count_first x xs))) in
    let here : count_by (nat_eq k) (g x) ≡ count_by (nat_eq k) (f x) = ap (count_by (nat_eq k)) (same x (omega (arith, count_first x xs)) other) in
    let rest = flat_kept f g xs k d (omega (arith, none, count-cons d x xs)) (λ y c o. same y (omega (arith, c, count-cons y x xs)) o) in
    omega (arith, here, rest, count-append k (g x) (flat_map g xs), count-append k (f x) (flat_map f xs))

pub flat_changed : (f g : ℕ → List ℕ) (xs : List ℕ) (k d : ℕ) → count_by (nat_eq d) xs ≡ 1 → ((x : ℕ) → 1 ≤ count_by (nat_eq x) xs → x ≢ d → g x ≡ f x)
    → count_by (nat_eq k) (flat_map g xs) + count_by (nat_eq k) (f d) ≡ count_by (nat_eq k) (flat_map f xs) + count_by (nat_eq k) (g d)
flat_changed f g [] k d one same = absurd (omega (arith, one))
flat_changed f g (x ∷ xs) k d one same = elim (eqb_tells d x) [
  | inl e ↦
      let t : cond {A = ℕ} (nat_eq d x) 1 0 ≡ 1 = ap (λ t. cond t 1 0) e.0 in
      let rest = flat_kept f g xs k d (omega (arith, t, one, count-cons d x xs)) (λ y c o. same y (omega (arith, c, count-cons y x xs)) o) in
      let a : count_by (nat_eq k) (f d) ≡ count_by (nat_eq k) (f x) = ap (λ y. count_by (nat_eq k) (f y)) e.1 in
      let b : count_by (nat_eq k) (g d) ≡ count_by (nat_eq k) (g x) = ap (λ y. count_by (nat_eq k) (g y)) e.1 in
      omega (arith, rest, a, b, count-append k (g x) (flat_map g xs), count-append k (f x) (flat_map f xs))
  | inr e ↦
      let t : cond {A = ℕ} (nat_eq d x) 1 0 ≡ 0 = ap (λ t. cond t 1 0) e.0 in
      let rest = flat_changed f g xs k d (omega (arith, t, one, count-cons d x xs)) (λ y c o. same y (omega (arith, c, count-cons y x xs)) o) in
      let here : count_by (nat_eq k) (g x) ≡ count_by (nat_eq k) (f x) = ap (count_by (nat_eq k)) (same x (omega (arith, count_first x xs)) (λ s. e.1 (sym s))) in
      omega (arith, rest, here, count-append k (g x) (flat_map g xs), count-append k (f x) (flat_map f xs))
]
