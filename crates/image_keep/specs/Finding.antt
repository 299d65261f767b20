-- What finding a place takes of the maps.
use Rattle.std.specs.Prelude.{ℕ, ◌==◌, Bool, true, false, not, List, Option, Some, None}
use Rattle.v6_base.specs.declared.entry.Place.{Place}
use Rattle.text_tab.specs.declared.row.TextRow.{TextRow}
use Rattle.text_tab.specs.Table.{row_at as text_row}
use Rattle.image_keep.specs.declared.row.State.TheVariants as state
use Rattle.image_keep.specs.Maps.{core_units, swap_units}

-- an image may stand in core where it has no text, or one that is there
abbrev pub may_stand : List (Option TextRow) → Option ℕ → Bool
may_stand texts None = true
may_stand texts (Some t) = not ((text_row texts t).loaded == 0)

-- the units of core and of the swap area that a place takes, if one was found
abbrev pub found_core : Option Place → ℕ → ℕ → Bool
found_core None n x = false
found_core (Some place) n x = core_units (state.Alive place) n x

abbrev pub found_swap : Option Place → ℕ → ℕ → Bool
found_swap None n x = false
found_swap (Some place) n x = swap_units (state.Alive place) n x
