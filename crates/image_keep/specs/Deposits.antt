-- Whose byte stands at a place of core or of the swap area, and what becomes of what is kept when another byte is put there.
-- Byte 0 of click c is byte 64 * (c - 1) of core, byte 0 of block b is byte 512 * (b - 4000) of the swap area.
use Rattle.std.specs.Prelude.{◌≡◌, ℕ, ◌+◌, ◌-◌, ◌*◌, Bool, true, false, if◌then◌else◌, List, length, slice_index}
use Rattle.v6_base.specs.declared.entry.Place.{Place}
use Rattle.v6_base.specs.declared.entry.Place.TheVariants.{Core, Swap}
use Rattle.v6_base.specs.declared.named.Named.{Named}
use Rattle.v6_base.specs.declared.named.Named.TheVariants.{InText, InData, InStack}
use Rattle.v6_base.specs.declared.named.Named.TheVariants as named_is
use Rattle.v6_base.specs.Image.{Image}
use Rattle.v6_base.specs.Access.{with_byte, image_after}
use Rattle.v6_base.specs.Words.{IsWithin, IsStorable}
use Rattle.image_keep.specs.declared.memory.TheConstants.{SWAP_BYTES}
use Rattle.image_keep.specs.Kept.{Kept, Held, Has, image_of, with_image}
use Rattle.image_keep.specs.Holds.{CoreHolds, SwapHolds}

-- how many bytes core has, and how many the swap area
abbrev pub memory_size : Kept → Bool → ℕ
memory_size k swap = if swap then SWAP_BYTES else 64 * k.core

-- whether a place is in the swap area, and the byte with which it begins
abbrev pub is_out : Place → Bool
is_out (Core click) = false
is_out (Swap block) = true

abbrev pub first_byte : Place → ℕ
first_byte (Core click) = 64 * (click - 1)
first_byte (Swap block) = 512 * (block - 4000)

-- An image stands there with its u area of 1,024 bytes, then its data, then its stack: how many bytes stand before one of the
-- data or of the stack.
abbrev pub bytes_before : Image → Named → ℕ
bytes_before m (InText i) = 0
bytes_before m (InData i) = 1024 + i
bytes_before m (InStack i) = 1024 + length m.data + i
bytes_before m named_is.Nothing = 0

-- Byte `at` of core, or with `swap` of the swap area, is this byte of the image: one of its data or of its stack.
pub record StandsAt (held : Held) (swap : Bool) (at : ℕ) (byte : Named) : Type 0 where
  pub side : is_out held.place ≡ swap
  pub kind : IsStorable byte
  pub within : IsWithin held.image byte
  pub there : at ≡ first_byte held.place + bytes_before held.image byte

-- it is this byte of the image of slot `s`
abbrev pub IsByteOf : Kept → Bool → ℕ → ℕ → Named → Type 0
IsByteOf k swap at s byte = (held : Held) × Has k s held × StandsAt held swap at byte

-- it is no byte of the data or of the stack of any process
abbrev pub IsNobodys : Kept → Bool → ℕ → Type 0
IsNobodys k swap at = (s : ℕ) (byte : Named) → IsByteOf k swap at s byte → ⊥

-- a byte of the image of a slot is another one, and nothing else
unfoldable pub with_byte_of : Kept → ℕ → Named → ℕ → Kept
with_byte_of k s byte b = with_image k s (image_after (image_of k s) (with_byte (image_of k s) byte b))

-- The byte that stands there, of a process, is another one, and nothing else.
abbrev pub IsPut : Kept → Bool → ℕ → ℕ → Kept → Type 0
IsPut old swap at b new = (s : ℕ) × (byte : Named) × IsByteOf old swap at s byte × (new ≡ with_byte_of old s byte b)

-- Core, or with `swap` the swap area, has this byte at a place: each list of bytes has it there that holds what is kept.
abbrev pub HasByte : Kept → Bool → ℕ → ℕ → Type 0
HasByte k false at b = (core : List ℕ) → CoreHolds core k → slice_index core at ≡ b
HasByte k true at b = (area : List ℕ) → SwapHolds area k → slice_index area at ≡ b
