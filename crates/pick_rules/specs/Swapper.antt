-- What process 0 does next: Lions' Commentary, `sched`.
use Rattle.std.specs.Prelude.{ℕ, ◌+◌, Bool, not, ◌&&◌, ◌||◌, nat_lt, nat_le, filter, find, if◌then◌else◌, Option, Some, None}
use Rattle.v6_base.specs.declared.entry.Chan.{Chan}
use Rattle.v6_base.specs.declared.entry.Chan.TheVariants.{RunIn, RunOut}
use Rattle.pick_rules.specs.Search.{slots_above_0, least}
use Rattle.pick_rules.specs.declared.table.Table.{Table}
use Rattle.pick_rules.specs.Table.{row_at, is_ready, is_waiting, is_sleeping, is_loaded}
use Rattle.pick_rules.specs.Board.{TextPlace, Board, text_at, core_fit}

pub data SwapMove : Type 0 where
  In : ℕ → ℕ → SwapMove  -- this slot comes in, from this click on
  Out : ℕ → SwapMove  -- this slot goes out
  Waits : Chan → SwapMove  -- process 0 sleeps

-- the slot of greatest time, the lowest of equals
abbrev pub oldest : Table → (ℕ → Bool) → Option ℕ
oldest t test = least (λ s r. nat_lt (row_at t r).time (row_at t s).time) (filter test slots_above_0)

-- who shall come in
abbrev pub candidate : Table → Option ℕ
candidate t = oldest t (λ s. is_ready (row_at t s).stat && not (is_loaded t s))

-- the clicks that it needs: its image, and its text where that isn't in core
abbrev pub clicks_to_load : Option TextPlace → ℕ
clicks_to_load None = 0
clicks_to_load (Some text) = if nat_lt 0 text.loaded then 0 else text.clicks

abbrev pub clicks_of_text : Board → Option ℕ → ℕ
clicks_of_text b None = 0
clicks_of_text b (Some k) = clicks_to_load (text_at b k)

abbrev pub need : Board → ℕ → ℕ
need b s = (row_at b.table s).size + clicks_of_text b (row_at b.table s).text

-- who goes out at once, and who where the candidate has been out for three seconds
abbrev pub loaded_waiter : Table → Option ℕ
loaded_waiter t = find (λ s. is_waiting (row_at t s).stat && is_loaded t s) slots_above_0

abbrev pub loaded_runner : Table → Option ℕ
loaded_runner t = oldest t (λ s. (is_ready (row_at t s).stat || is_sleeping (row_at t s).stat) && is_loaded t s)

abbrev pub out_if_old : Table → Option ℕ → SwapMove
out_if_old t None = Waits RunIn
out_if_old t (Some s) = if nat_le 2 (row_at t s).time then Out s else Waits RunIn

abbrev pub makes_room : Table → ℕ → Option ℕ → SwapMove
makes_room t s (Some waiter) = Out waiter
makes_room t s None = if nat_lt (row_at t s).time 3 then Waits RunIn else out_if_old t (loaded_runner t)

abbrev pub comes_in : Table → ℕ → Option ℕ → SwapMove
comes_in t s (Some c) = In s c
comes_in t s None = makes_room t s (loaded_waiter t)

abbrev pub move_for : Board → Option ℕ → SwapMove
move_for b None = Waits RunOut
move_for b (Some s) = comes_in b.table s (core_fit b (need b s))

unfoldable pub swap_move : Board → SwapMove
swap_move b = move_for b (candidate b.table)
