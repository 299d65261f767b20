-- Where images are placed: first fit, core before the swap area. `malloc` and `xalloc` in Lions' Commentary.
use Rattle.std.specs.Prelude.{ℕ, ◌+◌, ◌/◌, ◌*◌, ◌==◌, Bool, true, false, not, if◌then◌else◌, List, [], ◌∷◌, ◌++◌, replicate, flat_map, Option, Some, None}
use Rattle.std.specs.Option.{option_map, option_or}
use Rattle.v6_base.specs.declared.entry.Place.{Place}
use Rattle.v6_base.specs.declared.entry.Place.TheVariants.{Core, Swap}
use Rattle.v6_base.specs.Image.{Image}
use Rattle.u_area.specs.declared.area.UArea.{UArea}
use Rattle.map_fit.specs.Fit.{Range, first_fit}
use Rattle.image_keep.specs.Kept.{Keeping, Nothing, Alive, Grave, Shared, Kept, shared, text_of, clicks_of, with_keeping}

-- a block of the swap area holds eight clicks
abbrev pub blocks : ℕ → ℕ
blocks clicks = (clicks + 7) / 8

abbrev pub range : ℕ → ℕ → List Range
range at size = record { at = at; size = size } ∷ []

-- what an image takes of core, and of the swap area
abbrev pub core_of_place : Place → ℕ → List Range
core_of_place (Core click) clicks = range click clicks
core_of_place (Swap block) clicks = []

abbrev pub swap_of_place : Place → ℕ → List Range
swap_of_place (Core click) clicks = []
swap_of_place (Swap block) clicks = range block (blocks clicks)

abbrev pub core_of : Keeping → List Range
core_of Nothing = []
core_of (Alive held) = core_of_place held.place (clicks_of held.u)
core_of (Grave u block) = []

abbrev pub swap_of : Keeping → List Range
swap_of Nothing = []
swap_of (Alive held) = swap_of_place held.place (clicks_of held.u)
swap_of (Grave u block) = range block 1

-- what a text takes: core while a user is in core, and always its blocks
abbrev pub core_of_text : Option Shared → List Range
core_of_text None = []
core_of_text (Some x) = if x.row.loaded == 0 then [] else range x.row.at x.row.clicks

abbrev pub swap_of_text : Option Shared → List Range
swap_of_text None = []
swap_of_text (Some x) = range x.row.block (blocks x.row.clicks)

abbrev pub core_taken : Kept → List Range
core_taken k = flat_map core_of k.slots ++ flat_map core_of_text k.texts

abbrev pub swap_taken : Kept → List Range
swap_taken k = flat_map swap_of k.slots ++ flat_map swap_of_text k.texts

-- the first clicks of core that are free, and the first blocks of the swap area, which is blocks 4000 to 4871
unfoldable pub core_fit : Kept → ℕ → Option ℕ
core_fit k clicks = first_fit (core_taken k) 1 k.core clicks

unfoldable pub swap_fit : Kept → ℕ → Option ℕ
swap_fit k count = first_fit (swap_taken k) 4000 4871 count

abbrev pub is_text_loaded : Option Shared → Bool
is_text_loaded None = false
is_text_loaded (Some x) = not (x.row.loaded == 0)

-- an image may stand in core where it has no text, or one that is there
abbrev pub may_load : Kept → Option ℕ → Bool
may_load k None = true
may_load k (Some t) = is_text_loaded (shared k t)

-- the place of so many clicks for a slot: core where it may stand there and a start is found, else the swap area
unfoldable pub placed : Kept → ℕ → ℕ → Option Place
placed k s clicks =
    option_or (if may_load k (text_of k s) then option_map Core (core_fit k clicks) else None)
    (option_map Swap (swap_fit k (blocks clicks)))

-- the slot has this image at a place that was found, or nothing changes
abbrev pub with_image_at : Kept → ℕ → UArea → Image → Option Place → Kept
with_image_at k s u image None = k
with_image_at k s u image (Some place) = with_keeping k s (Alive (record { u = u; image = image; place = place }))

abbrev pub with_grave_at : Kept → ℕ → UArea → Option ℕ → Kept
with_grave_at k s u None = k
with_grave_at k s u (Some block) = with_keeping k s (Grave u block)

-- an image that is cleared
abbrev pub cleared : ℕ → ℕ → Image
cleared d stack = record { text = []; «data» = replicate (64 * d) 0; stack = replicate (64 * stack) 0 }

-- the same beside a text
abbrev pub made_image : List ℕ → ℕ → ℕ → Image
made_image text d stack = record { text = text; «data» = replicate (64 * d) 0; stack = replicate (64 * stack) 0 }
