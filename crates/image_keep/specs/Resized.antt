-- The bytes of an image that gets other sizes: `expand` in Lions' Commentary, `slp.c`.
use Rattle.std.specs.Prelude.{◌≡◌, ℕ, ◌+◌, ◌-◌, ◌*◌, ◌≤◌, ◌⊎◌, Bool, false, List, ◌++◌, replicate}
use Rattle.v6_base.specs.declared.entry.Place.{Place}
use Rattle.v6_base.specs.declared.entry.Place.TheVariants.{Core, Swap}
use Rattle.v6_base.specs.Sizes.{cut_back, cut_front}
use Rattle.core_mem.specs.Bytes.{part}
use Rattle.map_fit.specs.Free.{is_within}
use Rattle.image_keep.specs.declared.row.State.TheVariants as state
use Rattle.image_keep.specs.declared.row.Row.{Row}
use Rattle.image_keep.specs.Places.{blocks}

-- the lesser of two sizes
pub record IsLess (x d e : ℕ) : Type 0 where
  pub left : x ≤ d
  pub right : x ≤ e
  pub one : (x ≡ d) ⊎ (x ≡ e)

-- an image that stands from `at` on, with other sizes and this u area
abbrev pub resized_bytes : List ℕ → ℕ → Row → ℕ → ℕ → List ℕ → List ℕ
resized_bytes line at row d stack area =
    area
    ++ (cut_back (64 * d) (part line (at + 1024) (64 * row.data_size))
    ++ cut_front (64 * stack) (part line (at + 1024 + 64 * row.data_size) (64 * row.stack_size)))

-- the units that are free when of `n` clicks at a place the first `m` stay
abbrev pub core_tail : Place → ℕ → ℕ → ℕ → Bool
core_tail (Core click) n m x = is_within (click + m) (n - m) x
core_tail (Swap block) n m x = false

abbrev pub swap_tail : Place → ℕ → ℕ → ℕ → Bool
swap_tail (Core click) n m x = false
swap_tail (Swap block) n m x = is_within (block + blocks m) (blocks n - blocks m) x

-- its row
abbrev pub sized_row : Row → Place → ℕ → ℕ → Row
sized_row row place d stack = record row { state = state.Alive place; data_size = d; stack_size = stack }

-- an image that is cleared, behind this u area
abbrev pub cleared_bytes : ℕ → ℕ → List ℕ → List ℕ
cleared_bytes d stack area = area ++ (replicate (64 * d) 0 ++ replicate (64 * stack) 0)
