-- Which byte of its data or of its stack a row's image has at a place of the line.
use Rattle.std.specs.Prelude.{ℕ, ◌+◌, ◌-◌, ◌*◌, nat_lt, Bool, true, false, if◌then◌else◌}
use Rattle.v6_base.specs.declared.named.Named.{Named}
use Rattle.v6_base.specs.declared.named.Named.TheVariants.{InText, InData, InStack}
use Rattle.v6_base.specs.declared.named.Named.TheVariants as named_is
use Rattle.image_keep.specs.declared.row.State.{State}
use Rattle.image_keep.specs.declared.row.State.TheVariants as state
use Rattle.image_keep.specs.declared.row.Row.{Row}
use Rattle.image_keep.specs.Memory.{place_at}

-- a byte of core, or with `swap` of the swap area, in the line
abbrev pub line_place : ℕ → Bool → ℕ → ℕ
line_place core swap at = if swap then 64 * core + at else at

-- the byte at a place, where data of so many bytes begin at `start` and a stack of so many stands behind them
abbrev pub byte_from : ℕ → ℕ → ℕ → ℕ → Named
byte_from start d k at =
    if nat_lt at start then named_is.Nothing
    else (if nat_lt at (start + d) then InData (at - start)
    else (if nat_lt at (start + d + k) then InStack (at - (start + d)) else named_is.Nothing))

abbrev pub byte_by : ℕ → State → ℕ → ℕ → ℕ → Named
byte_by core state.Nothing d k at = named_is.Nothing
byte_by core (state.Alive place) d k at = byte_from (place_at core place + 1024) (64 * d) (64 * k) at
byte_by core (state.Grave block) d k at = named_is.Nothing

abbrev pub byte_of : ℕ → Row → ℕ → Named
byte_of core row at = byte_by core row.state row.data_size row.stack_size at

abbrev pub is_some_byte : Named → Bool
is_some_byte (InText i) = true
is_some_byte (InData i) = true
is_some_byte (InStack i) = true
is_some_byte named_is.Nothing = false

abbrev pub has_byte : ℕ → ℕ → Row → Bool
has_byte core at row = is_some_byte (byte_of core row at)
