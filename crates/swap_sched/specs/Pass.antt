-- A pass of process 0: its moves, one after another, until it sleeps, or panics since the swap area has no room for who goes
-- out. Lions' Commentary, `sched` in `slp.c`.
use Rattle.std.specs.Prelude.{ℕ, zero, suc, Option, Some, None}
use Rattle.v6_base.specs.Trace.{Log}
use Rattle.v6_base.specs.declared.entry.PanicKind.TheVariants as panic
use Rattle.v6_base.specs.declared.entry.Entry.TheVariants as line
use Rattle.pick_rules.specs.Priority.{pswp}
use Rattle.pick_rules.specs.Table.{row_at}
use Rattle.pick_rules.specs.Board.{Board, blocks, swap_fit}
use Rattle.pick_rules.specs.Swapper.{SwapMove, In, Out, Waits, swap_move}
use Rattle.pick_rules.specs.Effects.{Came, Lets, at_fit}
use Rattle.pick_rules.specs.Logged.{Stop, Logged, nothing_logged, with_what_came, unless_stopped}

-- A pass makes no more moves than this.
abbrev pub most_moves : ℕ
most_moves = 150

-- the line of a move; who goes out and finds no blocks is a panic
abbrev pub came_of_move : Board → SwapMove → Came (Unit {0})
came_of_move b (In s c) = Lets (Log (line.SwapIn s c))
came_of_move b (Out s) = at_fit panic.Swap tt (swap_fit b (blocks (row_at b.table s).size)) (λ block. line.SwapOut s block)
came_of_move b (Waits chan) = Lets (Log (line.Sleep 0 pswp chan))

abbrev pub while_it_runs : Option ℕ → Logged (Unit {0}) → Logged (Unit {0}) → Logged (Unit {0})
while_it_runs None l next = l
while_it_runs (Some s) l next = next

-- the next move, unless process 0 sleeps or has panicked
unfoldable pub moved : Logged (Unit {0}) → Logged (Unit {0})
moved l =
    while_it_runs l.board.table.running l
    (unless_stopped l.stop l (with_what_came l (came_of_move l.board (swap_move l.board))))

-- what is logged of so many moves
abbrev pub moves_after : Board → ℕ → Logged (Unit {0})
moves_after b zero = nothing_logged b
moves_after b (suc n) = moved (moves_after b n)

unfoldable pub pass : Board → Logged (Unit {0})
pass b = moves_after b most_moves

-- the same over any other state, which a pass leaves: a panic comes in the present one
abbrev pub stop_over : {W : Type 0} → W → Option (Stop (Unit {0})) → Option (Stop W)
stop_over before None = None
stop_over before (Some stop) = Some (record { why = stop.why; before = before })

abbrev pub over : {W : Type 0} → W → Logged (Unit {0}) → Logged W
over before l = record { items = l.items; board = l.board; stop = stop_over before l.stop }
