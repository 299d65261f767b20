-- Where the parts of an image stand in the line of core and the swap area, for a slot that has one.
use Rattle.std.specs.Prelude.{◌≡◌, ℕ, ◌+◌, ◌-◌, ◌*◌, ◌<◌, ◌≤◌, ◌==◌, true, if◌then◌else◌, List, length, Option, Some, None}
use Rattle.v6_base.specs.declared.named.Named.{Named}
use Rattle.v6_base.specs.declared.named.Named.TheVariants as named_is
use Rattle.text_tab.specs.declared.row.TextRow.{TextRow}
use Rattle.text_tab.specs.Table.{row_at as text_row}
use Rattle.image_keep.specs.declared.starts.Starts.{Starts}
use Rattle.image_keep.specs.Kept.{Keeping, Nothing, Alive, Grave, Shared, Kept, is_alive, keeping, shared, text_of, image_of}
use Rattle.image_keep.specs.Memory.{swap_at, place_at}

-- the data stand behind the u area
abbrev pub data_start : ℕ → Keeping → ℕ
data_start core Nothing = 0
data_start core (Alive held) = place_at core held.place + 1024
data_start core (Grave u block) = 0

-- a text is read in core, where it is there, and else in its blocks
abbrev pub shared_start : ℕ → Option Shared → ℕ
shared_start core None = 0
shared_start core (Some x) = if x.row.loaded == 0 then swap_at core x.row.block else 64 * (x.row.at - 1)

abbrev pub text_start : Kept → Option ℕ → ℕ
text_start k None = 0
text_start k (Some t) = shared_start k.core (shared k t)

pub record AreStarts (k : Kept) (s : ℕ) (x : Starts) : Type 0 where
  pub alive : is_alive (keeping k s) ≡ true
  pub text : x.text ≡ text_start k (text_of k s)
  pub image : x.image ≡ data_start k.core (keeping k s)
  pub text_len : x.text_len ≡ length (image_of k s).text
  pub data_len : x.data_len ≡ length (image_of k s).data
  pub stack_start : x.stack_start + length (image_of k s).stack ≡ 65536
  pub core : x.core ≡ 64 * k.core

-- where a byte stands that an address names
abbrev pub start_of : Starts → Named → ℕ
start_of x (named_is.InText i) = x.text + i
start_of x (named_is.InData i) = x.image + i
start_of x (named_is.InStack i) = x.image + x.data_len + i
start_of x named_is.Nothing = 0

abbrev pub IsLow : Named → Type 0
IsLow (named_is.InText i) = i ≤ 65536
IsLow (named_is.InData i) = i ≤ 65536
IsLow (named_is.InStack i) = i ≤ 65536
IsLow named_is.Nothing = Unit {0}

abbrev pub IsThere : Starts → Named → Type 0
IsThere x (named_is.InText i) = i < x.text_len
IsThere x (named_is.InData i) = i < x.data_len
IsThere x (named_is.InStack i) = i + x.stack_start < 65536
IsThere x named_is.Nothing = Unit {0}

-- the same by the table of texts
abbrev pub text_clicks_in : List (Option TextRow) → Option ℕ → ℕ
text_clicks_in texts None = 0
text_clicks_in texts (Some t) = (text_row texts t).clicks

abbrev pub row_start : ℕ → TextRow → ℕ
row_start core row = if row.loaded == 0 then swap_at core row.block else 64 * (row.at - 1)

abbrev pub start_in : List (Option TextRow) → ℕ → Option ℕ → ℕ
start_in texts core None = 0
start_in texts core (Some t) = row_start core (text_row texts t)
