-- When a table of processes is that of the images which are kept: the slots with an image, those of processes that have ended,
-- and the sizes, places and texts are the same. `proc.h` in Lions' Commentary.
use Rattle.std.specs.Prelude.{◌≡◌, ℕ, ◌<◌, Bool, true, false, map, length, Option, Some, None}
use Rattle.pick_rules.specs.declared.row.TableRow.{TableRow}
use Rattle.pick_rules.specs.declared.table.Table.{Table}
use Rattle.pick_rules.specs.Table.{IsTable, row_at, is_empty, is_zombie}
use Rattle.pick_rules.specs.Board.{Board, TextPlace}
use Rattle.image_keep.specs.Kept.{Kept, Keeping, Nothing, Alive, Grave, Held, Shared, keeping, text_of, place_in, clicks_of}

-- nothing is kept, or what is left of a process that has ended
abbrev pub is_nothing : Keeping → Bool
is_nothing Nothing = true
is_nothing (Alive held) = false
is_nothing (Grave u block) = false

abbrev pub is_grave : Keeping → Bool
is_grave Nothing = false
is_grave (Alive held) = false
is_grave (Grave u block) = true

-- one slot: its row, its text, and what is kept
pub record IsRowOf (row : TableRow) (user : Option ℕ) (x : Keeping) : Type 0 where
  pub empty : is_empty row.stat ≡ is_nothing x
  pub zombie : is_zombie row.stat ≡ is_grave x
  pub place : row.place ≡ place_in x
  pub size : (held : Held) → x ≡ Alive held → row.size ≡ clicks_of held.u
  pub text : row.text ≡ user

-- all of them; slot 0 has no image
pub record Matches (t : Table) (k : Kept) : Type 0 where
  pub table : IsTable t
  pub rows : length t.rows ≡ 50
  pub kernel : (row_at t 0).place ≡ None
  pub images : keeping k 0 ≡ Nothing
  pub each : (s : ℕ) → 0 < s → s < 50 → IsRowOf (row_at t s) (text_of k s) (keeping k s)

-- The board of the log: it has the places of the texts, and doesn't tell the time at which sleepers are woken.
abbrev pub text_place : Option Shared → Option TextPlace
text_place None = None
text_place (Some x) = Some (record {
  clicks = x.row.clicks;
  users = x.row.users;
  loaded = x.row.loaded;
  click = x.row.at;
  block = x.row.block;
})

abbrev pub board_of : Table → Kept → Board
board_of t k = record { table = record t { tout = 0 }; texts = map text_place k.texts; core = k.core }
