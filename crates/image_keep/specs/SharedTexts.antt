-- What becomes of what is kept when a text is made, filled, joined or left: `xalloc` and `xfree` in Lions' Commentary.
use Rattle.std.specs.Prelude.{◌≡◌, ◌≢◌, MatchOption, ℕ, ◌*◌, ◌<◌, ◌==◌, Bool, true, false, if◌then◌else◌, List, [], length, replicate, position, Option, Some, None, is_none, Result, Ok, Err}
use Rattle.core_mem.specs.Bytes.{over}
use Rattle.text_tab.specs.Table.{no_row, new_text, joined, unloaded, left, remaining}
use Rattle.text_tab.specs.declared.row.TextRow.{TextRow}
use Rattle.v6_base.specs.declared.entry.Place.{Place}
use Rattle.v6_base.specs.declared.entry.Place.TheVariants.{Core, Swap}
use Rattle.image_keep.specs.Kept.{Kept, Keeping, Nothing, Alive, Grave, Shared, text_of, keeping, with_keeping, shared, with_shared, with_text_of, changed, text_bytes, text_clicks}
use Rattle.image_keep.specs.declared.texts.TextRefusal.{TextRefusal}
use Rattle.image_keep.specs.declared.texts.TextRefusal.TheVariants as refusal
use Rattle.image_keep.specs.Counts.{is_text}

-- a new text, which is zeros until it is read
abbrev pub zeros_text : ℕ → ℕ → ℕ → Shared
zeros_text ino clicks block = record { row = new_text ino clicks block; bytes = replicate (64 * clicks) 0 }

unfoldable pub with_new_text : Kept → ℕ → ℕ → ℕ → ℕ → ℕ → Kept
with_new_text k s t ino clicks block = with_text_of (with_shared k t (Some (zeros_text ino clicks block))) s (Some t)

-- bytes are put into a text: those who share it see them
abbrev pub filled : ℕ → List ℕ → Option Shared → Option Shared
filled at bytes None = None
filled at bytes (Some x) = Some (record x { bytes = over x.bytes at bytes })

abbrev pub with_text : List ℕ → Keeping → Keeping
with_text text Nothing = Nothing
with_text text (Alive held) = Alive (record held { image = record held.image { text = text } })
with_text text (Grave u block) = Grave u block

abbrev pub retexted : ℕ → List ℕ → Option ℕ → Keeping → Keeping
retexted t text user x = if is_text t user then with_text text x else x

-- a slot has left its text: its image has none, and its u area says so
abbrev pub textless : Keeping → Keeping
textless Nothing = Nothing
textless (Alive held) = Alive (record held { u = record held.u { text_size = 0 }; image = record held.image { text = [] } })
textless (Grave u block) = Grave u block

-- the entry of the text of an inode, and the lowest entry that is free
abbrev pub is_of_inode : ℕ → Option Shared → Bool
is_of_inode ino None = false
is_of_inode ino (Some x) = x.row.ino == ino

abbrev pub found_text : Kept → ℕ → Option ℕ
found_text k ino = position (is_of_inode ino) k.texts

-- The same in words: an entry with a text of that inode, or that no text is.
abbrev pub IsTextOf : Kept → ℕ → ℕ → Type 0
IsTextOf k ino t = (x : Shared) × (shared k t ≡ Some x) × (x.row.ino ≡ ino)

abbrev pub HasNoText : Kept → ℕ → Type 0
HasNoText k ino = (t : ℕ) (x : Shared) → shared k t ≡ Some x → x.row.ino ≢ ino

abbrev pub FindsText : Kept → ℕ → Option ℕ → Type 0
FindsText k ino o = MatchOption o (HasNoText k ino) (IsTextOf k ino)

abbrev pub free_text : Kept → Option ℕ
free_text k = position is_none k.texts

-- what is known of a text
abbrev pub row_in : Option Shared → TextRow
row_in None = no_row
row_in (Some x) = x.row

-- What comes of a call for a new text. Whether an entry is free is tested before the place.
abbrev pub making : Option ℕ → Option ℕ → Result ℕ TextRefusal
making None block = Err refusal.Full
making (Some t) None = Err refusal.NoSwap
making (Some t) (Some block) = Ok t

abbrev pub with_made_text : Kept → ℕ → ℕ → ℕ → Option ℕ → Option ℕ → Kept
with_made_text k s ino clicks None block = k
with_made_text k s ino clicks (Some t) None = k
with_made_text k s ino clicks (Some t) (Some block) = with_new_text k s t ino clicks block

-- a slot shares a text that is there
unfoldable pub with_joined_text : Kept → ℕ → ℕ → Kept
with_joined_text k s t = with_text_of (with_shared k t (changed joined (shared k t))) s (Some t)

-- What is known of the text of a slot, and whether the slot's image is in core.
abbrev pub row_of_text : Kept → Option ℕ → TextRow
row_of_text k None = no_row
row_of_text k (Some t) = row_in (shared k t)

abbrev pub is_place_in_core : Place → Bool
is_place_in_core (Core click) = true
is_place_in_core (Swap block) = false

abbrev pub is_loaded : Keeping → Bool
is_loaded Nothing = false
is_loaded (Alive held) = is_place_in_core held.place
is_loaded (Grave u block) = false

-- What holds of the texts that are kept: no two are of one inode, and the text of a slot is there, has a user, and has one in
-- core where the slot's image is there.
pub record IsTextOfSlot (k : Kept) (s t : ℕ) : Type 0 where
  pub text : Shared
  pub there : shared k t ≡ Some text
  pub users : 0 < text.row.users
  pub loaded : is_loaded (keeping k s) ≡ true → 0 < text.row.loaded

pub record AreShared (k : Kept) : Type 0 where
  pub apart : (t u : ℕ) (x y : Shared) → shared k t ≡ Some x → shared k u ≡ Some y → x.row.ino ≡ y.row.ino → t ≡ u
  pub used : (s t : ℕ) → text_of k s ≡ Some t → IsTextOfSlot k s t

-- each text has the bytes of its clicks
abbrev pub AreLong : Kept → Type 0
AreLong k = (t : ℕ) → length (text_bytes k (Some t)) ≡ 64 * text_clicks k (Some t)

-- A slot leaves its text: one fewer uses it, and one fewer in core where the slot's image is there. A text that nobody uses
-- stays where its file is sticky, and else its entry is free.
abbrev pub left_core : Bool → TextRow → TextRow
left_core is_in row = if is_in then unloaded row else row

abbrev pub with_row : List ℕ → Option TextRow → Option Shared
with_row bytes None = None
with_row bytes (Some row) = Some (record { row = row; bytes = bytes })

abbrev pub shared_left : Bool → Bool → Option Shared → Option Shared
shared_left is_in sticky None = None
shared_left is_in sticky (Some x) = with_row x.bytes (remaining (left x.row sticky) (left_core is_in x.row))

unfoldable pub with_left_text : Kept → ℕ → Bool → Option ℕ → Kept
with_left_text k s sticky None = k
with_left_text k s sticky (Some t) =
    with_text_of
    (with_shared (with_keeping k s (textless (keeping k s))) t (shared_left (is_loaded (keeping k s)) sticky (shared k t)))
    s None
