-- What holds of what the auditor keeps: each unit of core and of the swap area has one owner at most, or is free, and the users
-- of a text are those rows that share it.
use Rattle.std.specs.Prelude.{◌≡◌, ◌≢◌, ℕ, ◌+◌, ◌<◌, ◌≤◌, ◌==◌, Bool, true, false, ◌&&◌, if◌then◌else◌, List, [], length, sum_by, slice_index_or, Option, Some, None}
use Rattle.map_fit.specs.Fit.{Range}
use Rattle.map_fit.specs.Free.{is_free, is_within, ArePositive}
use Rattle.v6_base.specs.declared.entry.Place.{Place}
use Rattle.v6_base.specs.declared.entry.Place.TheVariants.{Core, Swap}
use Rattle.pick_rules.specs.declared.row.TableRow.{TableRow}
use Rattle.pick_rules.specs.declared.table.Table.{Table}
use Rattle.pick_rules.specs.Table.{IsTable, row_at, is_empty, is_zombie, is_in_core}
use Rattle.v6_base.specs.declared.entry.Entry.{Entry}
use Rattle.v6_base.specs.declared.entry.Entry.TheVariants as line
use Rattle.pick_rules.specs.Board.{blocks}
use Rattle.pick_rules.proofs.Shapes.{Sleeps}
use Rattle.log_audit.specs.declared.world.TextRow.{TextRow}
use Rattle.log_audit.specs.declared.world.Stage.{Stage}
use Rattle.log_audit.specs.declared.world.Stage.TheVariants.{Blank, Booted, Open, Idling, Bared, Over}
use Rattle.log_audit.specs.declared.world.World.{World}

abbrev pub one : Bool → ℕ
one b = if b then 1 else 0

-- how often a row has a unit of core, or of the swap area: once or not at all
abbrev pub core_by : Option Place → ℕ → ℕ → ℕ
core_by None size x = 0
core_by (Some (Core c)) size x = one (is_within c size x)
core_by (Some (Swap block)) size x = 0

abbrev pub swap_by : Option Place → ℕ → ℕ → ℕ
swap_by None size x = 0
swap_by (Some (Core c)) size x = 0
swap_by (Some (Swap block)) size x = one (is_within block size x)

abbrev pub swap_size : TableRow → ℕ
swap_size row = if is_zombie row.stat then 1 else blocks row.size

abbrev pub row_core : ℕ → TableRow → ℕ
row_core x row = core_by row.place row.size x

abbrev pub row_swap : ℕ → TableRow → ℕ
row_swap x row = swap_by row.place (swap_size row) x

abbrev pub text_core : ℕ → Option TextRow → ℕ
text_core x None = 0
text_core x (Some text) = if text.loaded == 0 then 0 else one (is_within text.click text.clicks x)

abbrev pub text_swap : ℕ → Option TextRow → ℕ
text_swap x None = 0
text_swap x (Some text) = one (is_within text.block (blocks text.clicks) x)

-- how many rows and texts have a unit
abbrev pub core_owners : World → ℕ → ℕ
core_owners w x = sum_by (row_core x) w.table.rows + sum_by (text_core x) w.texts

abbrev pub swap_owners : World → ℕ → ℕ
swap_owners w x = sum_by (row_swap x) w.table.rows + sum_by (text_swap x) w.texts

-- the users of a text, and those in core
abbrev pub is_text : ℕ → Option ℕ → Bool
is_text k None = false
is_text k (Some j) = j == k

abbrev pub uses : ℕ → TableRow → ℕ
uses k row = one (is_text k row.text)

abbrev pub loads : ℕ → TableRow → ℕ
loads k row = one (is_in_core row.place && is_text k row.text)

abbrev pub users_of : Option TextRow → ℕ
users_of None = 0
users_of (Some text) = text.users

abbrev pub loaded_of : Option TextRow → ℕ
loaded_of None = 0
loaded_of (Some text) = text.loaded

abbrev pub entry_at : List (Option TextRow) → ℕ → Option TextRow
entry_at texts k = slice_index_or texts k None

-- a slot without a process has nothing, and an ended one has a block of the swap area alone; a size is that of an image
pub record IsRow (row : TableRow) : Type 0 where
  pub sleeps : Sleeps row
  pub empty_place : is_empty row.stat ≡ true → row.place ≡ None
  pub empty_text : is_empty row.stat ≡ true → row.text ≡ None
  pub zombie_place : is_zombie row.stat ≡ true → is_in_core row.place ≡ false
  pub zombie_text : is_zombie row.stat ≡ true → row.text ≡ None
  pub some : row.place ≢ None → is_zombie row.stat ≡ false → 1 ≤ row.size
  pub most : row.size ≤ 2048

pub record IsEntry (text : TextRow) : Type 0 where
  pub some : 1 ≤ text.clicks
  pub most : text.clicks ≤ 2048

-- how often a range has a unit
abbrev pub range_has : ℕ → Range → ℕ
range_has x range = one (is_within range.at range.size x)

-- Some ranges are claimed, and have no owner yet.
pub record IsLoose (w : World) (cl sl : List Range) : Type 0 where
  pub table : IsTable w.table
  pub rows : length w.table.rows ≡ 50
  pub texts : length w.texts ≡ 40
  pub least : 64 ≤ w.core
  pub most : w.core ≤ 3968
  pub each : (s : ℕ) → IsRow (row_at w.table s)
  pub entries : (k : ℕ) (text : TextRow) → entry_at w.texts k ≡ Some text → IsEntry text
  pub core : (x : ℕ) → core_owners w x + sum_by (range_has x) cl + one (is_free w.core_map x) ≡ one (is_within 1 w.core x)
  pub swap : (x : ℕ) → swap_owners w x + sum_by (range_has x) sl + one (is_free w.swap_map x) ≡ one (is_within 4000 872 x)
  pub core_some : ArePositive cl
  pub swap_some : ArePositive sl
  pub users : (k : ℕ) → users_of (entry_at w.texts k) ≡ sum_by (uses k) w.table.rows
  pub loaded : (k : ℕ) → loaded_of (entry_at w.texts k) ≡ sum_by (loads k) w.table.rows

-- each process has a place, but for one
abbrev pub AllPlaced : Table → Option ℕ → Type 0
AllPlaced t but = (s : ℕ) → 0 < s → is_empty (row_at t s).stat ≡ false → but ≢ Some s → (row_at t s).place ≢ None

abbrev pub IsAt : Stage → Table → Type 0
IsAt Blank t = AllPlaced t None
IsAt Booted t = (t.running ≡ Some 0) × AllPlaced t None
IsAt Open t = AllPlaced t None
IsAt Idling t = AllPlaced t None
IsAt (Bared s) t = (0 < s) × (s < 50) × (t.running ≡ Some s) × AllPlaced t (Some s)
IsAt Over t = Unit {0}

-- who runs is a process
abbrev pub IsAlive : Table → Option ℕ → Type 0
IsAlive t None = Unit {0}
IsAlive t (Some s) = (is_empty (row_at t s).stat ≡ false) × (is_zombie (row_at t s).stat ≡ false)

pub record IsSound (w : World) : Type 0 where
  pub loose : IsLoose w [] []
  pub at : IsAt w.stage w.table
  pub alive : IsAlive w.table w.table.running

-- the same where each process has a place
pub record IsWhole (w : World) : Type 0 where
  pub loose : IsLoose w [] []
  pub placed : AllPlaced w.table None
  pub alive : IsAlive w.table w.table.running

-- or where the exec of one slot has given up its place
pub record IsStripped (w : World) (s : ℕ) : Type 0 where
  pub loose : IsLoose w [] []
  pub placed : AllPlaced w.table (Some s)
  pub alive : IsAlive w.table w.table.running
  pub runs : w.table.running ≡ Some s
  pub user : 0 < s

-- what holds after a line where each process has a place, and after one in the exec of a slot
abbrev pub IsAfter : Entry → World → Type 0
IsAfter (line.Bare s) w = IsStripped w s
IsAfter e w = IsWhole w

abbrev pub IsAfterExec : ℕ → Entry → World → Type 0
IsAfterExec s (line.Image r clicks place) w = IsWhole w
IsAfterExec s e w = IsStripped w s
