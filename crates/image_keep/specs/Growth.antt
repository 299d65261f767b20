-- What becomes of an image whose sizes change: `expand` in Lions' Commentary, `slp.c`. Sizes are clicks of 64 bytes.
use Rattle.std.specs.Prelude.{ℕ, ◌*◌, min, nat_le, if◌then◌else◌, Option}
use Rattle.v6_base.specs.declared.entry.Place.{Place}
use Rattle.v6_base.specs.Image.{Image}
use Rattle.v6_base.specs.Sizes.{cut_back, cut_front}
use Rattle.u_area.specs.declared.area.UArea.{UArea}
use Rattle.image_keep.specs.Kept.{Kept, clicks_of, area_of, place_of}
use Rattle.image_keep.specs.Places.{placed}

-- the most clicks that an image may have, its u area among them
abbrev pub most_clicks : Kept → ℕ
most_clicks k = min k.core 2048

-- a u area with other sizes of data and stack
abbrev pub area_resized : UArea → ℕ → ℕ → UArea
area_resized u d stack = record u { data_size = d; stack_size = stack }

-- an image with other sizes: data grow and are cut at their end, the stack at its low end
abbrev pub image_resized : Image → ℕ → ℕ → Image
image_resized m d stack = record m { «data» = cut_back (64 * d) m.data; stack = cut_front (64 * stack) m.stack }

-- The place of a slot's image that gets so many clicks. One that doesn't grow keeps its place, and its tail is free.
-- For one that grows a place is found while the image stands, and then the old place is free.
unfoldable pub expanded : Kept → ℕ → ℕ → Option Place
expanded k s clicks = if nat_le clicks (clicks_of (area_of k s)) then place_of k s else placed k s clicks
