-- The table of shared texts: `text` in `text.h` of Lions' Commentary, and what `xalloc`, `xfree` and `xccdec` in `text.c`
-- do to it. It is forty entries, each with a text or free.
use Rattle.std.specs.Prelude.{◌≡◌, ◌≢◌, ℕ, ◌+◌, ◌-◌, ◌<◌, ◌==◌, Bool, true, false, if◌then◌else◌, List, length, replicate, position, slice_index_or, slice_set, Option, Some, None, is_none, IsSome, MatchOption}
use Rattle.text_tab.specs.declared.row.TextRow.{TextRow}
use Rattle.text_tab.specs.declared.left.Left.{Left}
use Rattle.text_tab.specs.declared.left.Left.TheVariants.{Used, Kept, Gone}

-- the text of an entry
abbrev pub text_at : List (Option TextRow) → ℕ → Option TextRow
text_at texts t = slice_index_or texts t None

-- What holds of each table: it has forty entries, and no two texts are of one inode.
pub record AreTexts (texts : List (Option TextRow)) : Type 0 where
  pub long : length texts ≡ 40
  pub apart : (s t : ℕ) (p q : TextRow) → text_at texts s ≡ Some p → text_at texts t ≡ Some q → p.ino ≡ q.ino → s ≡ t

abbrev pub no_texts : List (Option TextRow)
no_texts = replicate 40 None

abbrev pub IsUsed : List (Option TextRow) → ℕ → Type 0
IsUsed texts t = IsSome (text_at texts t)

abbrev pub no_row : TextRow
no_row = record { ino = 0; clicks = 0; users = 0; loaded = 0; at = 0; block = 0 }

abbrev pub row_of : Option TextRow → TextRow
row_of None = no_row
row_of (Some row) = row

-- what is known of a text
abbrev pub row_at : List (Option TextRow) → ℕ → TextRow
row_at texts t = row_of (text_at texts t)

-- the entry with the text of an inode
abbrev pub is_of : ℕ → Option TextRow → Bool
is_of ino None = false
is_of ino (Some row) = row.ino == ino

abbrev pub found : List (Option TextRow) → ℕ → Option ℕ
found texts ino = position (is_of ino) texts

-- The same in words: an entry with a text of that inode, or that no text is.
pub record IsTextOf (texts : List (Option TextRow)) (ino t : ℕ) : Type 0 where
  pub low : t < 40
  pub used : IsUsed texts t
  pub is : (row_at texts t).ino ≡ ino

abbrev pub HasNone : List (Option TextRow) → ℕ → Type 0
HasNone texts ino = (t : ℕ) (row : TextRow) → text_at texts t ≡ Some row → row.ino ≢ ino

abbrev pub Finds : List (Option TextRow) → ℕ → Option ℕ → Type 0
Finds texts ino o = MatchOption o (HasNone texts ino) (IsTextOf texts ino)

-- the lowest free entry
abbrev pub free_entry : List (Option TextRow) → Option ℕ
free_entry texts = position is_none texts

-- The same in words.
pub record IsFree (texts : List (Option TextRow)) (t : ℕ) : Type 0 where
  pub low : t < 40
  pub free : text_at texts t ≡ None
  pub first : (s : ℕ) → s < t → IsUsed texts s

abbrev pub IsFull : List (Option TextRow) → Type 0
IsFull texts = (t : ℕ) → t < 40 → IsUsed texts t

-- A text that is new has one user, and is not in core.
abbrev pub new_text : ℕ → ℕ → ℕ → TextRow
new_text ino clicks block = record { ino = ino; clicks = clicks; users = 1; loaded = 0; at = 0; block = block }

-- a text in an entry
abbrev pub with_text : List (Option TextRow) → ℕ → TextRow → List (Option TextRow)
with_text texts t row = slice_set texts t (Some row)

-- a change to the text of an entry
abbrev pub with_change : List (Option TextRow) → ℕ → (TextRow → TextRow) → List (Option TextRow)
with_change texts t change = with_text texts t (change (row_at texts t))

-- with one user more
abbrev pub joined : TextRow → TextRow
joined row = record row { users = row.users + 1 }

-- with one user more in core: the first brings it to a click
abbrev pub loaded_at : ℕ → TextRow → TextRow
loaded_at click row = record row { loaded = row.loaded + 1; at = if row.loaded == 0 then click else row.at }

-- with one user fewer in core
abbrev pub unloaded : TextRow → TextRow
unloaded row = record row { loaded = row.loaded - 1 }

-- What becomes of a text when one of its users leaves it: with none left it stays where its file is sticky.
abbrev pub left : TextRow → Bool → Left
left row sticky = if row.users == 1 then (if sticky then Kept else Gone) else Used

-- The same in words.
abbrev pub IsLeft : TextRow → Bool → Left → Type 0
IsLeft row sticky Used = 1 < row.users
IsLeft row sticky Kept = (row.users ≡ 1) × (sticky ≡ true)
IsLeft row sticky Gone = (row.users ≡ 1) × (sticky ≡ false)

-- what its entry has then
abbrev pub remaining : Left → TextRow → Option TextRow
remaining Used row = Some (record row { users = row.users - 1 })
remaining Kept row = Some (record row { users = row.users - 1 })
remaining Gone row = None

abbrev pub detached : List (Option TextRow) → ℕ → Bool → List (Option TextRow)
detached texts t sticky = slice_set texts t (remaining (left (row_at texts t) sticky) (row_at texts t))
