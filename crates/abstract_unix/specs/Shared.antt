-- A text that processes share stays as the exec(II) that made it has loaded it, until its entry goes. `text.h` in Lions'
-- Commentary.
use Rattle.std.specs.Prelude.{◌≡◌, ℕ, ◌==◌, Bool, false, List, Option, Some, None, slice_index_or}
use Rattle.std.specs.List.{list_any}
use Rattle.v6_base.specs.Trace.{Item, Log}
use Rattle.v6_base.specs.declared.entry.Entry.TheVariants as line
use Rattle.abstract_unix.specs.Unix.{Text, System}

-- An entry had a text, of the same file and with the same bytes. Others may use it by now.
pub record WasThere (entry : Option Text) (text : Text) : Type 0 where
  pub before : Text
  pub there : entry ≡ Some before
  pub ino : text.ino ≡ before.ino
  pub bytes : text.bytes ≡ before.bytes

-- If an entry has a text in the second of two tables, it was there in the first.
abbrev pub TextStays : List (Option Text) → List (Option Text) → ℕ → Type 0
TextStays before after k = (text : Text) → slice_index_or after k None ≡ Some text → WasThere (slice_index_or before k None) text

-- So each text was there,
abbrev pub AllTextsStay : System → System → Type 0
AllTextsStay before after = (k : ℕ) → TextStays before.unix.texts after.unix.texts k

-- or each but one that a line of the event's log makes: a process that executes a program has made a text in that entry.
abbrev pub is_made_by : ℕ → Item → Bool
is_made_by k (Log (line.Text s text clicks block)) = text == k
is_made_by k item = false

abbrev pub OtherTextsStay : System → List Item → System → Type 0
OtherTextsStay before items after =
    (k : ℕ) → list_any (is_made_by k) items ≡ false → TextStays before.unix.texts after.unix.texts k
