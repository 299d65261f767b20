-- What is free, as holes in rising order, and what it has to do with what is taken: Lions' Commentary, `malloc.c`.
use Rattle.std.specs.Prelude.{◌≡◌, ℕ, ◌+◌, ◌<◌, ◌≤◌, Bool, false, ◌&&◌, ◌||◌, nat_lt, nat_le, List, [], ◌∷◌}
use Rattle.map_fit.specs.declared.holes.Hole.{Hole}
use Rattle.map_fit.specs.Fit.{Range, is_clear}

-- a unit is one of the n from a place on
abbrev pub is_within : ℕ → ℕ → ℕ → Bool
is_within at n x = nat_le at x && nat_lt x (at + n)

-- a unit is free
abbrev pub is_free : List Hole → ℕ → Bool
is_free [] x = false
is_free (h ∷ hs) x = is_within h.at h.size x || is_free hs x

-- holes in rising order from a place on: none is empty, and after each a unit is taken before the next begins
abbrev pub AreFrom : ℕ → List Hole → Type 0
AreFrom low [] = Unit {0}
AreFrom low (h ∷ hs) = (low ≤ h.at) × (0 < h.size) × (h.at + h.size ≤ 65535) × AreFrom (h.at + h.size + 1) hs

abbrev pub AreHoles : List Hole → Type 0
AreHoles holes = AreFrom 0 holes

-- no range is empty
abbrev pub ArePositive : List Range → Type 0
ArePositive [] = Unit {0}
ArePositive (r ∷ rs) = (0 < r.size) × ArePositive rs

-- The holes are what ranges leave of the units from the first to the last: a unit is free exactly where none holds it.
pub record IsMap (holes : List Hole) (taken : List Range) (first last : ℕ) : Type 0 where
  pub positive : ArePositive taken
  pub free : (x : ℕ) → is_free holes x ≡ (nat_le first x && (nat_le x last && is_clear taken 1 x))
