-- What one move has done.
use Rattle.std.specs.Prelude.{◌≡◌, ◌⊎◌, None, Result}
use Rattle.v6_base.specs.declared.entry.PanicKind.{PanicKind}
use Rattle.v6_base.specs.Trace.{Taken}
use Rattle.pick_rules.specs.declared.table.Table.{Table}
use Rattle.pick_rules.specs.Board.{Board}
use Rattle.pick_rules.specs.Logged.{Logged, nothing_logged, with_what_came}
use Rattle.pick_rules.specs.Swapper.{SwapMove, swap_move}
use Rattle.image_keep.specs.Kept.{Kept}
use Rattle.swap_sched.specs.Match.{board_of}
use Rattle.swap_sched.specs.Moved.{HasMoved, answered}
use Rattle.swap_sched.specs.Pass.{came_of_move}

-- what is logged of one move
abbrev pub logged_move : Board → SwapMove → Logged (Unit {0})
logged_move b move = with_what_came (nothing_logged b) (came_of_move b move)

-- what is logged of the next move
abbrev pub next_logged : Board → Logged (Unit {0})
next_logged b = logged_move b (swap_move b)

-- The next move has been made, and this was answered: process 0 sleeps then, or still runs.
pub record MakesMove (t : Table) (k : Kept) (a : Taken) (r : Result (Unit {0}) PanicKind) (u : Table) (n : Kept)
    (z : Taken) : Type 0 where
  pub moved : HasMoved t k a (next_logged (board_of t k)) u n z
  pub answer : r ≡ answered (next_logged (board_of t k)).stop
  pub runs : (u.running ≡ None) ⊎ (u.running ≡ t.running)
