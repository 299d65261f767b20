-- What becomes of the bytes and of the table when a slot leaves its text.
use Rattle.std.specs.Prelude.{◌≡◌, ℕ, Bool, false, List, length, Option, None}
use Rattle.v6_base.specs.declared.entry.Place.{Place}
use Rattle.v6_base.specs.declared.entry.Place.TheVariants.{Core, Swap}
use Rattle.core_mem.specs.Bytes.{part, over}
use Rattle.u_area.specs.declared.area.UArea.{UArea}
use Rattle.u_area.specs.Area.{fetched, area_bytes, IsStored}
use Rattle.text_tab.specs.declared.row.TextRow.{TextRow}
use Rattle.text_tab.specs.declared.left.Left.{Left}
use Rattle.text_tab.specs.declared.left.Left.TheVariants as left_is
use Rattle.map_fit.specs.Free.{is_within}
use Rattle.image_keep.specs.declared.row.State.{State}
use Rattle.image_keep.specs.declared.row.State.TheVariants as state
use Rattle.image_keep.specs.Memory.{place_at}
use Rattle.image_keep.specs.Places.{blocks}

-- the u area at a place, without a text
abbrev pub textless_at : List ℕ → ℕ → Place → UArea
textless_at line core place = record (fetched (part line (place_at core place) 1024)) { text_size = 0 }

-- the line, when the u area of an image says that it has no text
abbrev pub textless_line : List ℕ → ℕ → State → List ℕ
textless_line line core state.Nothing = line
textless_line line core (state.Alive place) = over line (place_at core place) (area_bytes (textless_at line core place))
textless_line line core (state.Grave block) = line

-- where an image stands, its u area does
abbrev pub IsStoredBy : List ℕ → ℕ → State → Type 0
IsStoredBy line core state.Nothing = Unit {0}
IsStoredBy line core (state.Alive place) = IsStored (part line (place_at core place) 1024)
IsStoredBy line core (state.Grave block) = Unit {0}

abbrev pub IsLongBy : List ℕ → ℕ → State → Type 0
IsLongBy line core state.Nothing = Unit {0}
IsLongBy line core (state.Alive place) = length (area_bytes (textless_at line core place)) ≡ 1024
IsLongBy line core (state.Grave block) = Unit {0}

-- the text of a slot that is in core
abbrev pub loaded_text : State → Option ℕ → Option ℕ
loaded_text state.Nothing text = None
loaded_text (state.Alive (Core click)) text = text
loaded_text (state.Alive (Swap block)) text = None
loaded_text (state.Grave block) text = None

-- the blocks that a text leaves free
abbrev pub gone_units : Left → TextRow → ℕ → Bool
gone_units left_is.Used row x = false
gone_units left_is.Kept row x = false
gone_units left_is.Gone row x = is_within row.block (blocks row.clicks) x
