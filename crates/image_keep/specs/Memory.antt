-- What the memory holds: one line of bytes, core and behind it the swap area, and where in it each slot's image and each
-- text stand. Click 1 of core is the first 64 bytes, block 4000 the first 512 behind core.
use Rattle.std.specs.Prelude.{◌≡◌, ◌≢◌, ℕ, ◌+◌, ◌-◌, ◌*◌, ◌<◌, ◌≤◌, ◌⊎◌, ◌==◌, Bool, true, false, List, [], map, length, slice_index_or, if◌then◌else◌, Option, Some, None}
use Rattle.v6_base.specs.declared.entry.Place.{Place}
use Rattle.v6_base.specs.declared.entry.Place.TheVariants.{Core, Swap}
use Rattle.v6_base.specs.Image.{Image, nseg}
use Rattle.core_mem.specs.Bytes.{part}
use Rattle.u_area.specs.declared.area.UArea.{UArea}
use Rattle.u_area.specs.Area.{fetched, widened, half_bytes, IsSized, IsStored}
use Rattle.text_tab.specs.declared.row.TextRow.{TextRow}
use Rattle.text_tab.specs.Table.{text_at}
use Rattle.image_keep.specs.declared.row.State.{State}
use Rattle.image_keep.specs.declared.row.State.TheVariants as state
use Rattle.image_keep.specs.declared.row.Row.{Row}
use Rattle.image_keep.specs.declared.memory.TheConstants.{SWAP_BYTES}
use Rattle.image_keep.specs.Kept.{Keeping, Nothing, Alive, Grave, Shared, Kept}
use Rattle.image_keep.specs.Places.{blocks}

-- the parts of the memory
pub record Stock : Type 0 where
  pub line : List ℕ
  pub core : ℕ  -- clicks
  pub rows : List Row
  pub texts : List (Option TextRow)

abbrev pub no_row : Row
no_row = record { state = state.Nothing; data_size = 0; stack_size = 0; text = None }

abbrev pub row_at : List Row → ℕ → Row
row_at rows s = slice_index_or rows s no_row

abbrev pub at_row : Row → Place → Row
at_row r place = record r { state = state.Alive place }

abbrev pub grave_row : Row → ℕ → Row
grave_row r b = record r { state = state.Grave b }

abbrev pub nothing_row : Row → Row
nothing_row r = record r { state = state.Nothing }

-- with another text, or none
abbrev pub given_text : Row → Option ℕ → Row
given_text r x = record r { text = x }

-- where a place is in the line, and what it takes there
abbrev pub swap_at : ℕ → ℕ → ℕ
swap_at core block = 64 * core + 512 * (block - 4000)

abbrev pub place_at : ℕ → Place → ℕ
place_at core (Core click) = 64 * (click - 1)
place_at core (Swap block) = swap_at core block

abbrev pub place_size : Place → ℕ → ℕ
place_size (Core click) n = 64 * n
place_size (Swap block) n = 512 * blocks n

abbrev pub is_alive : State → Bool
is_alive state.Nothing = false
is_alive (state.Alive place) = true
is_alive (state.Grave block) = false

-- where an image stands, or what is kept of a process that has ended
abbrev pub place_by : State → Option Place
place_by state.Nothing = None
place_by (state.Alive place) = Some place
place_by (state.Grave block) = Some (Swap block)

-- the clicks of a row's image
abbrev pub clicks_in : Row → ℕ
clicks_in row = 16 + row.data_size + row.stack_size

-- a range of the line
pub record Spot : Type 0 where
  pub at : ℕ
  pub size : ℕ

abbrev pub no_spot : Spot
no_spot = record { at = 0; size = 0 }

abbrev pub spot_by : ℕ → State → ℕ → Spot
spot_by core state.Nothing n = no_spot
spot_by core (state.Alive place) n = record { at = place_at core place; size = place_size place n }
spot_by core (state.Grave block) n = record { at = swap_at core block; size = 512 }

abbrev pub row_spot : ℕ → Row → Spot
row_spot core row = spot_by core row.state (clicks_in row)

-- a text has its blocks always, and its clicks while a user is in core
abbrev pub out_spot : ℕ → Option TextRow → Spot
out_spot core None = no_spot
out_spot core (Some t) = record { at = swap_at core t.block; size = 512 * blocks t.clicks }

abbrev pub in_spot : Option TextRow → Spot
in_spot None = no_spot
in_spot (Some t) = if t.loaded == 0 then no_spot else record { at = 64 * (t.at - 1); size = 64 * t.clicks }

-- who has a range
pub data Owner : Type 0 where
  RowOf : ℕ → Owner
  OutOf : ℕ → Owner
  InOf : ℕ → Owner

abbrev pub spot : Stock → Owner → Spot
spot v (RowOf s) = row_spot v.core (row_at v.rows s)
spot v (OutOf t) = out_spot v.core (text_at v.texts t)
spot v (InOf t) = in_spot (text_at v.texts t)

abbrev pub AreApart : Spot → Spot → Type 0
AreApart p q = (p.at + p.size ≤ q.at) ⊎ (q.at + q.size ≤ p.at)

-- What bytes mean. The bytes of a text stand in its blocks.
unfoldable pub text_in : List ℕ → ℕ → Option TextRow → List ℕ
text_in line core None = []
text_in line core (Some t) = part line (swap_at core t.block) (64 * t.clicks)

unfoldable pub text_for : List ℕ → ℕ → List (Option TextRow) → Option ℕ → List ℕ
text_for line core texts None = []
text_for line core texts (Some k) = text_in line core (text_at texts k)

-- the bytes of an image, as u area, data and stack
unfoldable pub image_by : List ℕ → ℕ → ℕ → List ℕ → Image
image_by bytes d k text = record { text = text; «data» = part bytes 1024 (64 * d); stack = part bytes (1024 + 64 * d) (64 * k) }

unfoldable pub keeping_by : List ℕ → ℕ → List ℕ → State → ℕ → ℕ → Keeping
keeping_by line core text state.Nothing d k = Nothing
keeping_by line core text (state.Alive place) d k =
    Alive (record {
      u = fetched (part (part line (place_at core place) (64 * (16 + d + k))) 0 1024);
      image = image_by (part line (place_at core place) (64 * (16 + d + k))) d k text;
      place = place;
    })
keeping_by line core text (state.Grave block) d k = Grave (fetched (widened (part line (swap_at core block) 512))) block

abbrev pub keeping_in : List ℕ → ℕ → List (Option TextRow) → Row → Keeping
keeping_in line core texts row = keeping_by line core (text_for line core texts row.text) row.state row.data_size row.stack_size

abbrev pub shared_in : List ℕ → ℕ → Option TextRow → Option Shared
shared_in line core None = None
shared_in line core (Some t) = Some (record { row = t; bytes = text_in line core (Some t) })

-- what the memory keeps
unfoldable pub kept_of : Stock → Kept
kept_of v = record {
  slots = map (keeping_in v.line v.core v.texts) v.rows;
  texts = map (shared_in v.line v.core) v.texts;
  users = map (λ row. row.text) v.rows;
  core = v.core;
}

-- a place is one of core, or of the swap area
abbrev pub IsIn : ℕ → Place → ℕ → Type 0
IsIn core (Core click) n = (1 ≤ click) × (click + n ≤ core + 1)
IsIn core (Swap block) n = (4000 ≤ block) × (block + blocks n ≤ 4872)

-- what holds of the bytes of a row: they are those of a u area with its sizes, or of half a u area
pub record IsAlive (bytes : List ℕ) (core d k : ℕ) (place : Place) : Type 0 where
  pub inside : IsIn core place (16 + d + k)
  pub stored : IsStored (part bytes 0 1024)
  pub data_size : (fetched (part bytes 0 1024)).data_size ≡ d
  pub stack_size : (fetched (part bytes 0 1024)).stack_size ≡ k
  pub segments : nseg d + nseg k ≤ 8

pub record IsGrave (bytes : List ℕ) (block : ℕ) : Type 0 where
  pub inside : (4000 ≤ block) × (block + 1 ≤ 4872)
  pub stored : (u : UArea) × IsSized u × (bytes ≡ half_bytes u)

abbrev pub HoldsBy : List ℕ → ℕ → State → ℕ → ℕ → Type 0
HoldsBy line core state.Nothing d k = Unit {0}
HoldsBy line core (state.Alive place) d k = IsAlive (part line (place_at core place) (64 * (16 + d + k))) core d k place
HoldsBy line core (state.Grave block) d k = IsGrave (part line (swap_at core block) 512) block

abbrev pub Holds : List ℕ → ℕ → Row → Type 0
Holds line core row = HoldsBy line core row.state row.data_size row.stack_size

-- what holds of a text: its blocks are in the swap area; and while it is in core, it is there as it is in its blocks
pub record IsText (line : List ℕ) (core : ℕ) (t : TextRow) : Type 0 where
  pub some : 0 < t.clicks
  pub out : (4000 ≤ t.block) × (t.block + blocks t.clicks ≤ 4872)
  pub within : t.loaded ≢ 0 → (1 ≤ t.at) × (t.at + t.clicks ≤ core + 1)
  pub copy : t.loaded ≢ 0 → part line (64 * (t.at - 1)) (64 * t.clicks) ≡ part line (swap_at core t.block) (64 * t.clicks)

pub record IsSound (v : Stock) : Type 0 where
  pub slots : length v.rows ≡ 50
  pub size : length v.line ≡ 64 * v.core + SWAP_BYTES
  pub least : 64 ≤ v.core
  pub most : v.core ≤ 3968
  pub rows : (s : ℕ) → Holds v.line v.core (row_at v.rows s)
  pub texts : (t : ℕ) (row : TextRow) → text_at v.texts t ≡ Some row → IsText v.line v.core row
  pub apart : (o p : Owner) → o ≢ p → AreApart (spot v o) (spot v p)
