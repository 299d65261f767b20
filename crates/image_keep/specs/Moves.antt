-- What becomes of what is kept when an image comes into core or goes out: `sched`, `xswap` and `swap` in Lions'
-- Commentary, `slp.c` and `text.c`.
use Rattle.std.specs.Prelude.{ℕ, ◌+◌, ◌-◌, ◌*◌, ◌==◌, if◌then◌else◌, Bool, false, List, Option, Some, None}
use Rattle.v6_base.specs.declared.entry.Place.{Place}
use Rattle.v6_base.specs.declared.entry.Place.TheVariants.{Core, Swap}
use Rattle.v6_base.specs.Image.{Image}
use Rattle.u_area.specs.declared.area.UArea.{UArea}
use Rattle.map_fit.specs.Free.{is_within}
use Rattle.core_mem.specs.Bytes.{part, over}
use Rattle.text_tab.specs.declared.row.TextRow.{TextRow}
use Rattle.text_tab.specs.Table.{text_at, row_at as text_row, joined, loaded_at, unloaded, with_change}
use Rattle.image_keep.specs.Kept.{Kept, Shared, keeping, with_keeping, shared, with_shared, changed, text_of, with_text_of, at_place, place_of, area_of, image_of, clicks_of}
use Rattle.image_keep.specs.Places.{with_image_at}
use Rattle.image_keep.specs.Memory.{swap_at}

-- the clicks of a text that is not in core
abbrev pub need_by : TextRow → ℕ
need_by row = if row.loaded == 0 then row.clicks else 0

abbrev pub need_in : Option TextRow → ℕ
need_in None = 0
need_in (Some row) = need_by row

abbrev pub need_for : List (Option TextRow) → Option ℕ → ℕ
need_for texts None = 0
need_for texts (Some t) = need_in (text_at texts t)

-- a text comes into core, where it isn't there
abbrev pub come_by : List ℕ → ℕ → ℕ → TextRow → List ℕ
come_by line core at row =
    if row.loaded == 0 then over line (64 * (at - 1)) (part line (swap_at core row.block) (64 * row.clicks)) else line

abbrev pub come_in : List ℕ → ℕ → ℕ → Option TextRow → List ℕ
come_in line core at None = line
come_in line core at (Some row) = come_by line core at row

abbrev pub come_line : List ℕ → ℕ → List (Option TextRow) → Option ℕ → ℕ → List ℕ
come_line line core texts None at = line
come_line line core texts (Some t) at = come_in line core at (text_at texts t)

abbrev pub come_texts : List (Option TextRow) → Option ℕ → ℕ → List (Option TextRow)
come_texts texts None at = texts
come_texts texts (Some t) at = with_change texts t (loaded_at at)

-- the same of what is kept
abbrev pub come_shared : Kept → Option ℕ → ℕ → Kept
come_shared k None at = k
come_shared k (Some t) at = with_shared k t (changed (loaded_at at) (shared k t))

abbrev pub need_shared : Option Shared → ℕ
need_shared None = 0
need_shared (Some x) = need_by x.row

-- the clicks of a slot's text, where that isn't in core
abbrev pub text_need : Kept → Option ℕ → ℕ
text_need k None = 0
text_need k (Some t) = need_shared (shared k t)

-- the clicks that a slot needs to come into core
abbrev pub clicks_to_load : Kept → ℕ → ℕ
clicks_to_load k s = text_need k (text_of k s) + clicks_of (area_of k s)

-- an image comes in as one piece with its text, the text first
unfoldable pub swapped_in : Kept → ℕ → Option ℕ → Kept
swapped_in k s None = k
swapped_in k s (Some at) =
    with_keeping (come_shared k (text_of k s) at) s (at_place (Core (at + text_need k (text_of k s))) (keeping k s))

-- A text is left in core, where others use it; the last user in core leaves its clicks free.
abbrev pub leave_texts : List (Option TextRow) → Option ℕ → List (Option TextRow)
leave_texts texts None = texts
leave_texts texts (Some t) = with_change texts t unloaded

abbrev pub leave_shared : Kept → Option ℕ → Kept
leave_shared k None = k
leave_shared k (Some t) = with_shared k t (changed unloaded (shared k t))

abbrev pub last_units : TextRow → ℕ → Bool
last_units row x = if row.loaded == 1 then is_within row.at row.clicks x else false

abbrev pub leaving_units : List (Option TextRow) → Option ℕ → ℕ → Bool
leaving_units texts None x = false
leaving_units texts (Some t) x = last_units (text_row texts t) x

-- an image goes out to a block
unfoldable pub swapped_out : Kept → ℕ → Option ℕ → Kept
swapped_out k s None = k
swapped_out k s (Some block) =
    with_keeping (leave_shared k (text_of k s)) s (at_place (Swap block) (keeping k s))

-- What the table knows of a text when the image of one who shares it goes from a place, or from none, to another: one
-- user more is in core, or one fewer.
abbrev pub moved_row : Option Place → Place → TextRow → TextRow
moved_row None (Core click) row = loaded_at click row
moved_row None (Swap block) row = row
moved_row (Some (Core from)) (Core to) row = row
moved_row (Some (Core from)) (Swap block) row = unloaded row
moved_row (Some (Swap block)) (Core click) row = loaded_at click row
moved_row (Some (Swap from)) (Swap to) row = row

abbrev pub moved_entries : List (Option TextRow) → Option ℕ → Option Place → Place → List (Option TextRow)
moved_entries texts None from to = texts
moved_entries texts (Some t) from to = with_change texts t (moved_row from to)

abbrev pub moved_texts : Kept → Option ℕ → Option Place → Place → Kept
moved_texts k None from to = k
moved_texts k (Some t) from to = with_shared k t (changed (moved_row from to) (shared k t))

-- the clicks of a text that are free when an image leaves core
abbrev pub moving_units : List (Option TextRow) → Option ℕ → Option Place → Place → ℕ → Bool
moving_units texts text None to x = false
moving_units texts text (Some (Core from)) (Core to) x = false
moving_units texts text (Some (Core from)) (Swap block) x = leaving_units texts text x
moving_units texts text (Some (Swap block)) to x = false

-- A slot has an image at a place that was found, and its text goes with it; or nothing changes.
abbrev pub with_image_moved : Kept → ℕ → UArea → Image → Option Place → Kept
with_image_moved k s u image None = k
with_image_moved k s u image (Some place) =
    with_image_at (moved_texts k (text_of k s) (place_of k s) place) s u image (Some place)

-- what the table knows of a text that a child shares, whose image is at this place
abbrev pub forked_row : Place → TextRow → TextRow
forked_row place row = moved_row None place (joined row)

abbrev pub forked_entries : List (Option TextRow) → Option ℕ → Place → List (Option TextRow)
forked_entries texts None place = texts
forked_entries texts (Some t) place = with_change texts t (forked_row place)

abbrev pub forked_texts : Kept → Option ℕ → Place → Kept
forked_texts k None place = k
forked_texts k (Some t) place = with_shared k t (changed (forked_row place) (shared k t))

-- A slot has a copy of another slot's image at a place that was found, and shares its text; or nothing changes.
abbrev pub forked_at : Kept → ℕ → ℕ → Option Place → Kept
forked_at k from to None = k
forked_at k from to (Some place) =
    with_text_of (with_image_at (forked_texts k (text_of k from) place) to (area_of k from) (image_of k from) (Some place))
    to (text_of k from)
