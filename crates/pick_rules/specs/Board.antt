-- Where images stand, and where a new one can: the table with the texts' places and the size of core.
use Rattle.std.specs.Prelude.{ℕ, ◌+◌, ◌/◌, min, Bool, true, false, not, ◌==◌, List, [], ◌∷◌, ◌++◌, flat_map, slice_index_or, slice_set, replicate, if◌then◌else◌, Option, Some, None, option_map, is_none, find}
use Rattle.std.specs.List.{range_with_len}
use Rattle.std.specs.Option.{option_or}
use Rattle.v6_base.specs.declared.entry.Place.{Place}
use Rattle.v6_base.specs.declared.entry.Place.TheVariants.{Core, Swap}
use Rattle.pick_rules.specs.declared.row.TableRow.{TableRow}
use Rattle.map_fit.specs.Fit.{Range, first_fit}
use Rattle.pick_rules.specs.declared.table.Table.{Table}
use Rattle.pick_rules.specs.Table.{row_at, is_zombie, first_table}

-- a text: its clicks, its users, those of them in core, its click where there are any, and its block
pub record TextPlace : Type 0 where
  pub clicks : ℕ
  pub users : ℕ
  pub loaded : ℕ
  pub click : ℕ
  pub block : ℕ

pub record Board : Type 0 where
  pub table : Table
  pub texts : List (Option TextPlace)
  pub core : ℕ  -- clicks

abbrev pub first_board : ℕ → ℕ → Board
first_board core time = record { table = first_table time; texts = replicate 40 None; core = core }

-- no image is larger
abbrev pub limit : ℕ → ℕ
limit core = min core 2048

abbrev pub text_at : Board → ℕ → Option TextPlace
text_at b k = slice_index_or b.texts k None

abbrev pub with_text : Board → ℕ → Option TextPlace → Board
with_text b k text = record b { texts = slice_set b.texts k text }

-- a block of the swap area holds eight clicks
abbrev pub blocks : ℕ → ℕ
blocks clicks = (clicks + 7) / 8

-- what a place takes of core and of the swap area
abbrev pub core_range : Option Place → ℕ → List Range
core_range None size = []
core_range (Some (Core c)) size = record { at = c; size = size } ∷ []
core_range (Some (Swap block)) size = []

abbrev pub swap_range : Option Place → ℕ → List Range
swap_range None size = []
swap_range (Some (Core c)) size = []
swap_range (Some (Swap block)) size = record { at = block; size = size } ∷ []

-- of a zombie one block is kept
abbrev pub core_of_row : TableRow → List Range
core_of_row row = core_range row.place row.size

abbrev pub swap_of_row : TableRow → List Range
swap_of_row row = swap_range row.place (if is_zombie row.stat then 1 else blocks row.size)

-- what a text takes: core while a user is in core, and always its blocks
abbrev pub core_of_text : Option TextPlace → List Range
core_of_text None = []
core_of_text (Some text) = if text.loaded == 0 then [] else record { at = text.click; size = text.clicks } ∷ []

abbrev pub swap_of_text : Option TextPlace → List Range
swap_of_text None = []
swap_of_text (Some text) = record { at = text.block; size = blocks text.clicks } ∷ []

abbrev pub core_fit : Board → ℕ → Option ℕ
core_fit b clicks = first_fit (flat_map core_of_row b.table.rows ++ flat_map core_of_text b.texts) 1 b.core clicks

abbrev pub swap_fit : Board → ℕ → Option ℕ
swap_fit b count = first_fit (flat_map swap_of_row b.table.rows ++ flat_map swap_of_text b.texts) 4000 4871 count

abbrev pub is_text_loaded : Option TextPlace → Bool
is_text_loaded None = false
is_text_loaded (Some text) = not (text.loaded == 0)

-- an image may stand in core where it has no text, or one that is there
abbrev pub may_load : Board → Option ℕ → Bool
may_load b None = true
may_load b (Some k) = is_text_loaded (text_at b k)

-- the place of so many clicks for a slot: core where it may stand there and a start is found, else the swap area
unfoldable pub placed : Board → ℕ → ℕ → Option Place
placed b s clicks =
    option_or (if may_load b (row_at b.table s).text then option_map Core (core_fit b clicks) else None)
    (option_map Swap (swap_fit b (blocks clicks)))

abbrev pub free_text : Board → Option ℕ
free_text b = find (λ k. is_none (text_at b k)) (range_with_len 0 40)
