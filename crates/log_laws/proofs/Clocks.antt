-- A tick of the clock: its line fits, and the time of the seats goes with that of the board.
use Rattle.std.proofs.Common.{◌≡◌, ◌∙◌, ◌==◌, ◌+◌, ◌%◌, ◌^◌, ℕ, Bool, true, false, cond, if◌then◌else◌, Option, Some, None, refl, sym, ap, subst, inl, inr}
use Rattle.v6_base.specs.declared.entry.Entry.{Entry}
use Rattle.v6_base.specs.declared.entry.Entry.TheVariants as line
use Rattle.pick_rules.specs.declared.row.Mode.{Mode}
use Rattle.pick_rules.specs.declared.row.Mode.TheVariants.{User, Kernel, Idle}
use Rattle.pick_rules.specs.Table.{row_at}
use Rattle.pick_rules.specs.Clock.{tick}
use Rattle.pick_rules.specs.Board.{Board}
use Rattle.pick_rules.specs.Apply.{applied}
use Rattle.pick_rules.specs.Fits.{FitsBoard, mode_of, mode_now}
use Rattle.pick_rules.specs.Lawful.{Seen, Fits, seen_after}
use Rattle.pick_rules.proofs.Laws.{time_passed, passed_running}
use Rattle.pick_rules.proofs.Shapes.{SameShapes}
use Rattle.pick_rules.proofs.TickShapes.{tick_same}
use Rattle.log_laws.proofs.Fitting.{IsGoing, going_fits}
use Rattle.log_laws.proofs.Seats.{Seats, Agrees, InTurn, RunnerAt, Paused, not_zero, own, kept_agrees}
use Rattle.log_laws.proofs.Lines.{same_runner}

-- the line of a tick in a mode
abbrev pub tick_line : Mode → Entry
tick_line User = line.TickUser
tick_line Kernel = line.TickKernel
tick_line Idle = line.TickIdle

-- the seats a tick later
abbrev pub ticked_at : ℕ → Seats → Seats
ticked_at ticks v =
    if ticks == 59 then record v { ticks = 0; time = (v.time + 1) % 2 ^ 32 } else record v { ticks = ticks + 1 }

abbrev pub a_tick_later : Seats → Seats
a_tick_later v = ticked_at v.ticks v

clock_agrees : (v : Seats) (b : Board) → Agrees 0 v b
    → Agrees 0 (a_tick_later v) (record b { table = time_passed b.table })
clock_agrees v b a = subst (λ n. Agrees 0 (ticked_at n v) (record b { table = time_passed b.table })) (sym a.ticks) (by (b.table.ticks == 59))
  where
    by : (x : Bool)
        → Agrees 0 (cond x (record v { ticks = 0; time = (v.time + 1) % 2 ^ 32 }) (record v { ticks = b.table.ticks + 1 }))
        (record b { table = cond x (record b.table { ticks = 0; now = (b.table.now + 1) % 2 ^ 32 }) (record b.table { ticks = b.table.ticks + 1; now = b.table.now }) })
    by true =
        record { each = a.each; sleeps = a.sleeps; rows = a.rows; seats = a.seats; time = ap (λ n. (n + 1) % 2 ^ 32) a.time; ticks = refl; texts = a.texts; forty = a.forty; core = a.core; most = a.most }
    by false = record { each = a.each; sleeps = a.sleeps; rows = a.rows; seats = a.seats; time = a.time; ticks = refl; texts = a.texts; forty = a.forty; core = a.core; most = a.most }

-- who runs is the same a tick later
later_runner : (v : Seats) (b : Board) (o : Option ℕ) → RunnerAt v b o → RunnerAt (a_tick_later v) b o
later_runner v b None r = tt
later_runner v b (Some s) (inl z) = inl z
later_runner v b (Some s) (inr t) = inr (by (v.ticks == 59))
  where
    by : (x : Bool)
        → InTurn s (cond x (record v { ticks = 0; time = (v.time + 1) % 2 ^ 32 }) (record v { ticks = v.ticks + 1 })) b
    by true = record { seat = t.seat; at = t.at; runs = t.runs; user = t.user; small = t.small; alive = t.alive }
    by false = record { seat = t.seat; at = t.at; runs = t.runs; user = t.user; small = t.small; alive = t.alive }

pub tick_paused : (v : Seats) (seen : Seen) (mode : Mode) → Paused v seen
    → Paused (a_tick_later v) (seen_after seen (tick_line mode))
unfolding applied
tick_paused v seen mode p = on mode
  where
    b : Board
    b = seen.board

    same : (m : Mode) → SameShapes (time_passed b.table) (tick m b.table)
    same m = tick_same m b.table p.agrees.sleeps

    agrees : (m : Mode) → Agrees 0 (a_tick_later v) (record b { table = tick m b.table })
    agrees m =
        kept_agrees 0 (a_tick_later v) (record b { table = time_passed b.table }) (record b { table = tick m b.table })
        (same m) (record { core = refl; users = refl }) (clock_agrees v b p.agrees)

    runs : (m : Mode) → RunnerAt (a_tick_later v) (record b { table = tick m b.table }) (tick m b.table).running
    runs m = same_runner (a_tick_later v) b (record b { table = tick m b.table }) ((same m).running ∙ passed_running b.table)
        (later_runner v b b.table.running p.runner)

    on : (m : Mode) → Paused (a_tick_later v) (seen_after seen (tick_line m))
    on User = record { going = tt; agrees = agrees User; runner = runs User }
    on Kernel = record { going = tt; agrees = agrees Kernel; runner = runs Kernel }
    on Idle = record { going = tt; agrees = agrees Idle; runner = runs Idle }

-- the mode is the board's
pub tick_fits : (seen : Seen) → IsGoing seen.stage → Fits seen (tick_line (mode_now seen.board))
unfolding FitsBoard
tick_fits seen g = by (mode_now seen.board) refl
  where
    by : (m : Mode) → mode_now seen.board ≡ m → Fits seen (tick_line m)
    by User e = going_fits seen line.TickUser g tt e
    by Kernel e = going_fits seen line.TickKernel g tt e
    by Idle e = going_fits seen line.TickIdle g tt e

-- the mode of a process is whether it waits in a call
pub mode_is : (s : ℕ) (v : Seats) (b : Board) → Agrees 0 v b → (t : InTurn s v b)
    → mode_now b ≡ (if t.seat.calling then Kernel else User)
mode_is s v b a t = ap (mode_of b.table) t.runs ∙ rw (not_zero s t.user, calls) refl
  where
    calls : (row_at b.table s).calling ≡ t.seat.calling
    calls = (own 0 s v b a t).calling (not_zero s t.user) t.alive
