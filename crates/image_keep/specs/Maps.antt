-- What is free of core and of the swap area is what nobody has: `coremap` and `swapmap`, `systm.h` in Lions' Commentary.
use Rattle.std.specs.Prelude.{◌≡◌, ◌↔◌, ℕ, ◌+◌, ◌-◌, ◌*◌, ◌≤◌, Bool, true, false, List}
use Rattle.v6_base.specs.declared.entry.Place.TheVariants.{Core, Swap}
use Rattle.map_fit.specs.declared.holes.Hole.{Hole}
use Rattle.map_fit.specs.Free.{is_free, is_within}
use Rattle.image_keep.specs.declared.row.State.{State}
use Rattle.image_keep.specs.declared.row.State.TheVariants as state
use Rattle.image_keep.specs.Memory.{Stock, Spot, Owner, spot, AreApart, swap_at, IsIn}
use Rattle.image_keep.specs.Places.{blocks}

-- a click of core and a block of the swap area in the line
abbrev pub click : ℕ → Spot
click x = record { at = 64 * (x - 1); size = 64 }

abbrev pub block : ℕ → ℕ → Spot
block core x = record { at = swap_at core x; size = 512 }

-- What is free is what nobody has.
abbrev pub IsFreeCore : Stock → ℕ → Type 0
IsFreeCore v x = (1 ≤ x) × (x ≤ v.core) × ((p : Owner) → AreApart (click x) (spot v p))

abbrev pub IsFreeSwap : Stock → ℕ → Type 0
IsFreeSwap v x = (4000 ≤ x) × (x ≤ 4871) × ((p : Owner) → AreApart (block v.core x) (spot v p))

pub record AreMaps (v : Stock) (core_map swap_map : List Hole) : Type 0 where
  pub core : (x : ℕ) → (is_free core_map x ≡ true) ↔ IsFreeCore v x
  pub swap : (x : ℕ) → (is_free swap_map x ≡ true) ↔ IsFreeSwap v x

-- the range of a state is inside
abbrev pub InsideBy : ℕ → State → ℕ → Type 0
InsideBy core state.Nothing n = Unit {0}
InsideBy core (state.Alive place) n = IsIn core place n
InsideBy core (state.Grave b) n = (4000 ≤ b) × (b + 1 ≤ 4872)

-- the units of core and of the swap area that a state takes
abbrev pub core_units : State → ℕ → ℕ → Bool
core_units state.Nothing n x = false
core_units (state.Alive (Core c)) n x = is_within c n x
core_units (state.Alive (Swap b)) n x = false
core_units (state.Grave b) n x = false

abbrev pub swap_units : State → ℕ → ℕ → Bool
swap_units state.Nothing n x = false
swap_units (state.Alive (Core c)) n x = false
swap_units (state.Alive (Swap b)) n x = is_within b (blocks n) x
swap_units (state.Grave b) n x = is_within b 1 x
