-- Where the u area of an image stands, its bytes there, and which of them are written.
use Rattle.std.specs.Prelude.{◌≡◌, ℕ, ◌+◌, ◌-◌, ◌*◌, ◌%◌, Bool, true, false, List, [], ◌∷◌, ◌++◌, length}
use Rattle.v6_base.specs.declared.entry.Place.{Place}
use Rattle.v6_base.specs.declared.entry.Place.TheVariants.{Core, Swap}
use Rattle.v6_base.specs.Image.{Image}
use Rattle.core_mem.specs.Bytes.{part, over}
use Rattle.fs_codec.specs.Bytes.{bytes_of}
use Rattle.u_area.specs.declared.area.UArea.{UArea}
use Rattle.u_area.specs.Area.{area_bytes, IsSized}
use Rattle.u_area.specs.Fields.{Becomes}
use Rattle.image_keep.specs.Kept.{Kept, Held, Has, area_of}
use Rattle.image_keep.specs.Memory.{place_at}
use Rattle.image_keep.specs.State.{ImagesState}

-- the bytes of an image with this u area
abbrev pub laid_bytes : UArea → Image → List ℕ
laid_bytes u image = area_bytes u ++ (image.data ++ image.stack)

-- the place in the line of core and the swap area at which the image of a slot begins, with its u area
abbrev pub IsAreaAt : Kept → ℕ → ℕ → Type 0
IsAreaAt k s at = (held : Held) → Has k s held → at ≡ place_at k.core held.place

-- the 1,024 bytes at a place
abbrev pub area_there : ImagesState → Place → List ℕ
area_there x (Core click) = part x.core (64 * (click - 1)) 1024
area_there x (Swap block) = part x.swap (512 * (block - 4000)) 1024

-- Bytes that are put at a place of a u area make it another one, with as long lists and the same sizes.
pub record IsPut (own : UArea) (field : ℕ) (bytes : List ℕ) (u : UArea) : Type 0 where
  pub law : IsSized own → Becomes own field bytes u × IsSized u
  pub sizes : (u.text_size ≡ own.text_size) × (u.data_size ≡ own.data_size) × (u.stack_size ≡ own.stack_size)

-- Something is written where a slot's u area stands, and nothing else of core and the swap area behind it.
abbrev pub IsWritten : ImagesState → ImagesState → ℕ → (ℕ → List ℕ → List ℕ) → Type 0
IsWritten x y s put = (held : Held) → Has x.kept s held → (length y.core ≡ length x.core)
    × (y.core ++ y.swap ≡ put (place_at x.kept.core held.place) (x.core ++ x.swap))

-- These bytes are laid at a place, and nothing else of core and the swap area after it has changed.
abbrev pub AreLaid : ImagesState → ImagesState → Place → List ℕ → Type 0
AreLaid x y place bytes = (length y.core ≡ length x.core)
    × (y.core ++ y.swap ≡ over (x.core ++ x.swap) (place_at x.kept.core place) bytes)

-- these bytes are, at one place of the u area
abbrev pub AreWritten : ImagesState → ImagesState → ℕ → ℕ → List ℕ → Type 0
AreWritten x y s field bytes = IsWritten x y s (λ at line. over line (at + field) bytes)

-- one word of its times is, by whether they are the kernel's
abbrev pub IsTicked : ImagesState → ImagesState → ℕ → Bool → Type 0
IsTicked x y s false = AreWritten x y s 48 (bytes_of ((((area_of x.kept s).user_time + 1) % 65536) ∷ []))
IsTicked x y s true = AreWritten x y s 50 (bytes_of ((((area_of x.kept s).system_time + 1) % 65536) ∷ []))

-- a call that is pending and what is kept of it, and an end: no directory, its status, and what it does about signals
abbrev pub over_call : ℕ → List ℕ → ℕ → List ℕ → List ℕ
over_call pending call at line = over (over line (at + 30) (pending ∷ [])) (at + 32) (bytes_of call)

abbrev pub over_end : ℕ → List ℕ → ℕ → List ℕ → List ℕ
over_end status handlers at line =
    over (over (over line (at + 22) (bytes_of (0 ∷ []))) (at + 60) (bytes_of (status ∷ []))) (at + 64) (bytes_of handlers)
