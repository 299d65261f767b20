-- The searches for who comes in and who goes out, by the row alone.
use Rattle.std.specs.Prelude.{ℕ, Bool, true, false, not, ◌&&◌, ◌||◌, nat_lt, filter, Option, Some, None}
use Rattle.v6_base.specs.declared.entry.Chan.TheVariants.{RunIn}
use Rattle.pick_rules.specs.declared.row.TableRow.{TableRow}
use Rattle.pick_rules.specs.declared.table.Table.{Table}
use Rattle.pick_rules.specs.Search.{slots_above_0, first_of_two, least}
use Rattle.pick_rules.specs.Table.{row_at, is_ready, is_waiting, is_sleeping, is_in_core}
use Rattle.pick_rules.specs.Swapper.{SwapMove, Out, Waits}

-- those in core that may go out, or those out of core that want to come in
abbrev pub asks : Bool → TableRow → Bool
asks true row = (is_ready row.stat || is_sleeping row.stat) && is_in_core row.place
asks false row = is_ready row.stat && not (is_in_core row.place)

abbrev pub waits : TableRow → Bool
waits row = is_waiting row.stat && is_in_core row.place

-- the longer one stays, and of equals the first
abbrev pub goes_before : Table → ℕ → ℕ → Bool
goes_before t s r = nat_lt (row_at t r).time (row_at t s).time

abbrev pub older : Table → ℕ → Option ℕ → Option ℕ
older t s best = first_of_two (goes_before t) s best

abbrev pub asks_at : Bool → Table → ℕ → Bool
asks_at loaded t s = asks loaded (row_at t s)

unfoldable pub oldest_of : Bool → Table → Option ℕ
oldest_of loaded t = least (goes_before t) (filter (asks_at loaded t) slots_above_0)

abbrev pub out_or_waits : Option ℕ → SwapMove
out_or_waits None = Waits RunIn
out_or_waits (Some s) = Out s
