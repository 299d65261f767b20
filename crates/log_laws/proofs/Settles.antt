-- The kernel settles: its line fits, and then it rests.
use Rattle.std.proofs.Common.{◌≡◌, ◌∙◌, ◌<◌, ◌==◌, ℕ, zero, suc, Bool, true, false, cond, Option, Some, None, refl, sym, subst, inl, inr, ◌⊎◌, arith}
use Rattle.v6_base.specs.declared.entry.Entry.{Entry}
use Rattle.v6_base.specs.declared.entry.Entry.TheVariants as line
use Rattle.pick_rules.specs.declared.table.Table.{Table}
use Rattle.pick_rules.specs.Table.{row_at}
use Rattle.pick_rules.specs.Choice.{can_run, chosen, gives_up, line_of_choice, settle}
use Rattle.pick_rules.specs.Board.{Board}
use Rattle.pick_rules.specs.Apply.{runs, applied}
use Rattle.pick_rules.specs.Fits.{FitsBoard}
use Rattle.pick_rules.specs.Lawful.{Stage, Blank, Booted, Open, Idling, Bared, Over, Seen, Fits, FitsStage, seen_after}
use Rattle.pick_rules.proofs.Laws.{chosen_runs, runs_ready, go_settles}
use Rattle.pick_rules.proofs.Movers.{IsAlive, in_rows, ready_alive}
use Rattle.pick_rules.proofs.Shapes.{shape_at}
use Rattle.log_laws.proofs.Fitting.{IsGoing, going_fits}
use Rattle.log_laws.proofs.Seats.{Seat, Seats, seat_at, AgreesAt, Agrees, InTurn, RunnerAt, Paused, Holds}

-- a slot that can run and is not 0 has a living process
living : (s : ℕ) (v : Seats) (b : Board) → Agrees 0 v b → 0 < s → can_run b.table s ≡ true → b.table.running ≡ Some s
    → InTurn s v b
living s v b a h e runs = by (seat_at v s) refl (a.each s h)
  where
    stat : IsAlive (row_at b.table s).stat
    stat = ready_alive _ (runs_ready b.table s e)

    by : (o : Option Seat) → seat_at v s ≡ o → AgreesAt (s == 0) v.most o (shape_at b.table s) → InTurn s v b
    by None f k = absurd (let x = stat.used in cc (x, k))
    by (Some seat) f k = record {
      seat = seat;
      at = f;
      runs = runs;
      user = h;
      small = subst (λ n. s < n) a.rows (in_rows b.table.rows s stat.used);
      alive = sym k.zombie ∙ stat.alive;
    }

-- the line of a choice fits, and with it the kernel rests
pub record Settled (v : Seats) (seen : Seen) (e : Entry) : Type 0 where
  pub fits : Fits seen e
  pub holds : Holds v (seen_after seen e)

go_holds : (v : Seats) (seen : Seen) (s : ℕ) → Paused v seen → chosen seen.board.table ≡ Some s
    → settle seen.board.table ≡ Some (line.Go s) → Settled v seen (line.Go s)
unfolding FitsBoard applied
go_holds v seen s p c e = record {
  fits = going_fits seen (line.Go s) p.going (let l = small in omega (arith, l)) e;
  holds = record {
    paused = record { going = tt; agrees = agrees; runner = by s refl };
    rests = inr (go_settles seen.board.table s c);
  };
}
  where
    b : Board
    b = record seen.board { table = runs seen.board.table s }

    agrees : Agrees 0 v b
    agrees = let a = p.agrees in record { each = a.each; sleeps = a.sleeps; rows = a.rows; seats = a.seats; time = a.time; ticks = a.ticks; texts = a.texts; forty = a.forty; core = a.core; most = a.most }

    small : s < 50
    small = subst (λ n. s < n) p.agrees.rows (in_rows seen.board.table.rows s (ready_alive _ (runs_ready seen.board.table s (chosen_runs seen.board.table s c))).used)

    by : (r : ℕ) → s ≡ r → RunnerAt v b (Some s)
    by zero f = inl f
    by (suc r) f = inr (living s v b agrees (omega (arith, f)) (chosen_runs seen.board.table s c) refl)

idle_holds : (v : Seats) (seen : Seen) → Paused v seen → settle seen.board.table ≡ Some line.Idle
    → Settled v seen line.Idle
unfolding FitsBoard applied
idle_holds v seen p e = record {
  fits = going_fits seen line.Idle p.going tt e;
  holds = record {
    paused = record {
      going = tt;
      agrees = let a = p.agrees in record { each = a.each; sleeps = a.sleeps; rows = a.rows; seats = a.seats; time = a.time; ticks = a.ticks; texts = a.texts; forty = a.forty; core = a.core; most = a.most };
      runner = tt;
    };
    rests = inl refl;
  };
}

abbrev pub IsSettled : Seats → Seen → Option Entry → Type 0
IsSettled v seen None = Holds v seen
IsSettled v seen (Some e) = Settled v seen e

pub settling : (v : Seats) (seen : Seen) → Paused v seen → IsSettled v seen (settle seen.board.table)
unfolding settle
settling v seen p = by (gives_up t t.running) (chosen t) refl refl
  where
    t : Table
    t = seen.board.table

    choice : (o : Option ℕ) → chosen t ≡ o → settle t ≡ Some (line_of_choice o) → Settled v seen (line_of_choice o)
    choice None c e = idle_holds v seen p e
    choice (Some s) c e = go_holds v seen s p c e

    by : (g : Bool) (o : Option ℕ) → gives_up t t.running ≡ g → chosen t ≡ o
        → IsSettled v seen (cond g (Some (line_of_choice o)) None)
    by true o f c = choice o c (rw (f, c) refl)
    by false o f c = record { paused = p; rests = inr (rw f refl) }

-- where the kernel rests the log may end
pub end_fits : (v : Seats) (seen : Seen) → Holds v seen → Fits seen line.End
unfolding FitsBoard
end_fits v seen h = (tt, by seen.stage h.paused.going h.rests)
  where
    by : (stage : Stage) → IsGoing stage → (stage ≡ Idling) ⊎ (settle seen.board.table ≡ None)
        → FitsStage stage seen.board line.End
    by Blank g r = absurd g
    by Booted g r = absurd g
    by Open g (inl e) = absurd (cc e)
    by Open g (inr e) = e
    by Idling g r = inl refl
    by (Bared s) g r = absurd g
    by Over g r = absurd g
