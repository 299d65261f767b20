-- What is kept of each process's image: `proc.h`, `user.h` and `text.h` in Lions' Commentary. An image is the u area of sixteen
-- clicks, the data and the stack; it stands in core or in the swap area. A click is 64 bytes, a block 512.
use Rattle.std.specs.Prelude.{◌≡◌, ℕ, ◌+◌, ◌*◌, ◌≤◌, Bool, true, false, List, [], replicate, slice_set, slice_index_or, length, Option, Some, None}
use Rattle.v6_base.specs.declared.entry.Place.{Place}
use Rattle.v6_base.specs.declared.entry.Place.TheVariants.{Core, Swap}
use Rattle.v6_base.specs.Image.{Image, IsImage}
use Rattle.u_area.specs.declared.area.UArea.{UArea}
use Rattle.text_tab.specs.declared.row.TextRow.{TextRow}
use Rattle.image_keep.specs.Area.{no_area}

-- an image that can run
pub record Held : Type 0 where
  pub u : UArea
  pub image : Image
  pub place : Place

-- what is kept for a slot
pub data Keeping : Type 0 where
  Nothing : Keeping
  Alive : Held → Keeping
  Grave : UArea → ℕ → Keeping  -- of a process that has ended: half of its u area, in this block of the swap area

-- a text that is shared: what the table of texts knows of it, and its bytes
pub record Shared : Type 0 where
  pub row : TextRow
  pub bytes : List ℕ

pub record Kept : Type 0 where
  pub slots : List Keeping  -- fifty
  pub texts : List (Option Shared)  -- forty
  pub users : List (Option ℕ)  -- the text of each slot
  pub core : ℕ  -- clicks

-- no text is shared, and no slot has one
unfoldable pub no_texts : List (Option Shared)
no_texts = replicate 40 None

unfoldable pub no_users : List (Option ℕ)
no_users = replicate 50 None

abbrev pub first_kept : ℕ → Kept
first_kept core = record { slots = replicate 50 Nothing; texts = no_texts; users = no_users; core = core }

abbrev pub keeping : Kept → ℕ → Keeping
keeping k s = slice_index_or k.slots s Nothing

abbrev pub with_keeping : Kept → ℕ → Keeping → Kept
with_keeping k s x = record k { slots = slice_set k.slots s x }

-- the text of an entry, and the entry of a slot's text
abbrev pub shared : Kept → ℕ → Option Shared
shared k t = slice_index_or k.texts t None

abbrev pub text_of : Kept → ℕ → Option ℕ
text_of k s = slice_index_or k.users s None

abbrev pub with_shared : Kept → ℕ → Option Shared → Kept
with_shared k t x = record k { texts = slice_set k.texts t x }

abbrev pub with_text_of : Kept → ℕ → Option ℕ → Kept
with_text_of k s t = record k { users = slice_set k.users s t }

-- what the table knows of a text is another thing
abbrev pub changed : (TextRow → TextRow) → Option Shared → Option Shared
changed rule None = None
changed rule (Some x) = Some (record x { row = rule x.row })

abbrev pub bytes_in : Option Shared → List ℕ
bytes_in None = []
bytes_in (Some x) = x.bytes

abbrev pub shared_clicks : Option Shared → ℕ
shared_clicks None = 0
shared_clicks (Some x) = x.row.clicks

-- the clicks of a text, and its bytes
abbrev pub text_clicks : Kept → Option ℕ → ℕ
text_clicks k None = 0
text_clicks k (Some t) = shared_clicks (shared k t)

abbrev pub text_bytes : Kept → Option ℕ → List ℕ
text_bytes k None = []
text_bytes k (Some t) = bytes_in (shared k t)

-- the clicks of an image
abbrev pub clicks_of : UArea → ℕ
clicks_of u = 16 + u.data_size + u.stack_size

abbrev pub place_in : Keeping → Option Place
place_in Nothing = None
place_in (Alive held) = Some held.place
place_in (Grave u block) = Some (Swap block)

abbrev pub place_of : Kept → ℕ → Option Place
place_of k s = place_in (keeping k s)

-- the sizes in a u area are those of the lists
pub record HasSizes (u : UArea) (image : Image) : Type 0 where
  pub text_size : length image.text ≡ 64 * u.text_size
  pub data_size : length image.data ≡ 64 * u.data_size
  pub stack_size : length image.stack ≡ 64 * u.stack_size

-- a slot has an image, this one
abbrev pub Has : Kept → ℕ → Held → Type 0
Has k s held = keeping k s ≡ Alive held

-- a slot has an image
abbrev pub HasImage : Kept → ℕ → Type 0
HasImage k s = (held : Held) × Has k s held

-- a slot has what is kept of a process that has ended
abbrev pub HasGrave : Kept → ℕ → Type 0
HasGrave k s = (u : UArea) × (block : ℕ) × (keeping k s ≡ Grave u block)

-- a slot's image is in the swap area, from this block on, or in core
abbrev pub IsOut : Kept → ℕ → Type 0
IsOut k s = (block : ℕ) × (place_of k s ≡ Some (Swap block)) × HasImage k s

abbrev pub IsLoaded : Kept → ℕ → Type 0
IsLoaded k s = (click : ℕ) × (place_of k s ≡ Some (Core click)) × HasImage k s

abbrev pub is_alive : Keeping → Bool
is_alive Nothing = false
is_alive (Alive held) = true
is_alive (Grave u block) = false

-- the image and the u area of a slot; where it has none, one that is empty
abbrev pub no_image : Image
no_image = record { text = []; «data» = []; stack = [] }

abbrev pub image_in : Keeping → Image
image_in Nothing = no_image
image_in (Alive held) = held.image
image_in (Grave u block) = no_image

abbrev pub area_in : Keeping → UArea
area_in Nothing = no_area
area_in (Alive held) = held.u
area_in (Grave u block) = u

abbrev pub image_of : Kept → ℕ → Image
image_of k s = image_in (keeping k s)

abbrev pub area_of : Kept → ℕ → UArea
area_of k s = area_in (keeping k s)

-- the slot's place is another one, its image, or its u area
abbrev pub at_place : Place → Keeping → Keeping
at_place place Nothing = Nothing
at_place place (Alive held) = Alive (record held { place = place })
at_place place (Grave u block) = Grave u block

abbrev pub imaged : Image → Keeping → Keeping
imaged image Nothing = Nothing
imaged image (Alive held) = Alive (record held { image = image })
imaged image (Grave u block) = Grave u block

abbrev pub described : UArea → Keeping → Keeping
described u Nothing = Nothing
described u (Alive held) = Alive (record held { u = u })
described u (Grave v block) = Grave v block

unfoldable pub with_image : Kept → ℕ → Image → Kept
with_image k s image = with_keeping k s (imaged image (keeping k s))

unfoldable pub with_area : Kept → ℕ → UArea → Kept
with_area k s u = with_keeping k s (described u (keeping k s))

-- What holds of all that is kept: fifty slots and forty texts, a core that the kernel can begin with, and images in their
-- form and their sizes, each with the bytes of its slot's text.
pub record IsKept (k : Kept) : Type 0 where
  pub slots : length k.slots ≡ 50
  pub table : length k.texts ≡ 40
  pub seats : length k.users ≡ 50
  pub least : 64 ≤ k.core
  pub most : k.core ≤ 3968
  pub text : (s : ℕ) → HasImage k s → (image_of k s).text ≡ text_bytes k (text_of k s)
  pub sizes : (s : ℕ) → HasImage k s → HasSizes (area_of k s) (image_of k s)
  pub formed : (s : ℕ) → IsImage (image_of k s)
