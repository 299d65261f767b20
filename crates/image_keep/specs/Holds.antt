-- What core and the swap area hold: the images, the texts and what is kept of those who have ended, at their places. Byte 0 of
-- click c is byte 64 * (c - 1) of core, byte 0 of block b is byte 512 * (b - 4000) of the swap area.
use Rattle.std.specs.Prelude.{◌≡◌, ◌≢◌, ℕ, ◌-◌, ◌*◌, ◌==◌, if◌then◌else◌, List, ◌++◌, length, Option, Some, None}
use Rattle.v6_base.specs.declared.entry.Place.TheVariants.{Core, Swap}
use Rattle.core_mem.specs.Bytes.{part}
use Rattle.u_area.specs.declared.area.UArea.{UArea}
use Rattle.u_area.specs.Area.{area_bytes, half_bytes}
use Rattle.image_keep.specs.declared.memory.TheConstants.{SWAP_BYTES}
use Rattle.image_keep.specs.Kept.{Kept, Keeping, Nothing, Alive, Grave, Held, Has, Shared, keeping, shared, clicks_of}
use Rattle.image_keep.specs.Memory.{Spot, no_spot, Owner, RowOf, OutOf, InOf, AreApart, place_at, place_size, swap_at}
use Rattle.image_keep.specs.Places.{blocks}

-- what an image is in bytes: its u area, its data, its stack
abbrev pub image_bytes : Held → List ℕ
image_bytes held = area_bytes held.u ++ (held.image.data ++ held.image.stack)

-- the ranges that slots and texts have, core and behind it the swap area
abbrev pub keeping_spot : ℕ → Keeping → Spot
keeping_spot core Nothing = no_spot
keeping_spot core (Alive held) = record { at = place_at core held.place; size = place_size held.place (clicks_of held.u) }
keeping_spot core (Grave u block) = record { at = swap_at core block; size = 512 }

abbrev pub text_out : ℕ → Option Shared → Spot
text_out core None = no_spot
text_out core (Some x) = record { at = swap_at core x.row.block; size = 512 * blocks x.row.clicks }

abbrev pub text_in_core : Option Shared → Spot
text_in_core None = no_spot
text_in_core (Some x) = if x.row.loaded == 0 then no_spot else record { at = 64 * (x.row.at - 1); size = 64 * x.row.clicks }

abbrev pub spot_of : Kept → Owner → Spot
spot_of k (RowOf s) = keeping_spot k.core (keeping k s)
spot_of k (OutOf t) = text_out k.core (shared k t)
spot_of k (InOf t) = text_in_core (shared k t)

-- No range of a slot or of a text meets another.
abbrev pub AreRangesApart : Kept → Type 0
AreRangesApart k = (o p : Owner) → o ≢ p → AreApart (spot_of k o) (spot_of k p)

-- Core holds the images and the texts that are there.
pub record CoreHolds (core : List ℕ) (k : Kept) : Type 0 where
  pub size : length core ≡ 64 * k.core
  pub images : (s : ℕ) (held : Held) (click : ℕ) → Has k s held → held.place ≡ Core click
      → part core (64 * (click - 1)) (64 * clicks_of held.u) ≡ image_bytes held
  pub texts : (t : ℕ) (x : Shared) → shared k t ≡ Some x → x.row.loaded ≢ 0
      → part core (64 * (x.row.at - 1)) (64 * x.row.clicks) ≡ x.bytes

-- The swap area holds the images that are out of core, half of the u area of each process that has ended, and all texts.
pub record SwapHolds (swap : List ℕ) (k : Kept) : Type 0 where
  pub size : length swap ≡ SWAP_BYTES
  pub images : (s : ℕ) (held : Held) (block : ℕ) → Has k s held → held.place ≡ Swap block
      → part swap (512 * (block - 4000)) (64 * clicks_of held.u) ≡ image_bytes held
  pub graves : (s : ℕ) (u : UArea) (block : ℕ) → keeping k s ≡ Grave u block
      → part swap (512 * (block - 4000)) 512 ≡ half_bytes u
  pub texts : (t : ℕ) (x : Shared) → shared k t ≡ Some x → part swap (512 * (x.row.block - 4000)) (64 * x.row.clicks) ≡ x.bytes

-- Both hold what is kept.
pub record MemoryHolds (core swap : List ℕ) (k : Kept) : Type 0 where
  pub in_core : CoreHolds core k
  pub in_swap : SwapHolds swap k
  pub apart : AreRangesApart k
