-- The table with the row of an image that has been placed: where that stands in the swap area, process 0 is told. `newproc` and
-- `expand` in Lions' Commentary, `slp.c`.
use Rattle.std.specs.Prelude.{ℕ, Some}
use Rattle.v6_base.specs.declared.entry.Place.{Place}
use Rattle.v6_base.specs.declared.entry.Place.TheVariants.{Core, Swap}
use Rattle.pick_rules.specs.declared.row.TableRow.{TableRow}
use Rattle.pick_rules.specs.declared.table.Table.{Table}
use Rattle.pick_rules.specs.Table.{row_at, with_row}
use Rattle.pick_rules.specs.Sleepers.{runout_told}

abbrev pub with_image_row : Table → ℕ → TableRow → Place → Table
with_image_row t s row (Core click) = with_row t s row
with_image_row t s row (Swap block) = runout_told (with_row t s row)

-- The row of an image of so many clicks that goes to a place; in the swap area its time begins anew.
abbrev pub placed_row : ℕ → Place → TableRow → TableRow
placed_row clicks (Core click) row = record row { size = clicks; place = Some (Core click) }
placed_row clicks (Swap block) row = record row { size = clicks; place = Some (Swap block); time = 0 }

abbrev pub with_place : Table → ℕ → ℕ → Place → Table
with_place t s clicks place = with_image_row t s (placed_row clicks place (row_at t s)) place
