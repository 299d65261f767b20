-- The list of holes, by index: a hole that is cut, and a range that comes among them. What these do to units is in the laws
-- of proofs/.
use Rattle.std.specs.Prelude.{ℕ, zero, suc, ◌+◌, ◌-◌, ◌<◌, ◌≤◌, ◌==◌, Bool, ◌||◌, nat_le, List, [], ◌∷◌, length, slice_index_or, if◌then◌else◌}
use Rattle.map_fit.specs.declared.holes.Hole.{Hole}

abbrev pub no_hole : Hole
no_hole = record { at = 0; size = 0 }

abbrev pub hole_at : List Hole → ℕ → Hole
hole_at holes i = slice_index_or holes i no_hole

abbrev pub ends_at : Hole → ℕ
ends_at h = h.at + h.size

-- without the first units of a hole
abbrev pub cut_at : List Hole → ℕ → ℕ → List Hole
cut_at [] i n = []
cut_at (h ∷ hs) zero n = if h.size == n then hs else record { at = h.at + n; size = h.size - n } ∷ hs
cut_at (h ∷ hs) (suc i) n = h ∷ cut_at hs i n

-- with a range at an index, which is one with the hole after it where it touches that
abbrev pub joined_at : List Hole → ℕ → ℕ → ℕ → List Hole
joined_at [] i at n = record { at = at; size = n } ∷ []
joined_at (h ∷ hs) zero at n =
    if at + n == h.at then record { at = at; size = n + h.size } ∷ hs else record { at = at; size = n } ∷ h ∷ hs
joined_at (h ∷ hs) (suc i) at n = h ∷ joined_at hs i at n

-- with a range at an index, which is one with the hole before it, too, where it touches that
abbrev pub given_at : List Hole → ℕ → ℕ → ℕ → List Hole
given_at [] i at n = joined_at [] i at n
given_at (h ∷ hs) zero at n = if h.at + h.size == at then joined_at hs zero h.at (h.size + n) else joined_at (h ∷ hs) zero at n
given_at (h ∷ hs) (suc i) at n = h ∷ given_at hs i at n

-- where a range that is taken belongs
pub record IsPlace (hs : List Hole) (at i : ℕ) : Type 0 where
  pub small : i ≤ length hs
  pub before : (k : ℕ) → k < i → ends_at (hole_at hs k) < at
  pub here : i < length hs → at ≤ ends_at (hole_at hs i)

-- a hole and the n units from a place on have none in common
abbrev pub is_apart : ℕ → ℕ → Hole → Bool
is_apart at n h = nat_le (at + n) h.at || nat_le (h.at + h.size) at
