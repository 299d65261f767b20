-- A pass of process 0: each of its moves fits, or there is no place for who goes out and the panic fits.
use Rattle.std.proofs.Common.{◌≡◌, ◌∙◌, ◌<◌, ◌≤◌, ◌==◌, ℕ, nat_lt, nat_le, Bool, true, false, cond, Option, Some, None, is_some, get_or, set, length-set, get_or-set_other, refl, sym, ap, subst, inl, inr, ◌⊎◌, arith}
use Rattle.std.proofs.lemmas.Int.{ints}
use Rattle.std.proofs.lemmas.List.{set-get_or}
use Rattle.v6_base.specs.declared.entry.Chan.{Chan}
use Rattle.v6_base.specs.declared.entry.Chan.TheVariants.{RunIn}
use Rattle.v6_base.specs.declared.entry.Place.{Place}
use Rattle.v6_base.specs.declared.entry.Place.TheVariants.{Core, Swap}
use Rattle.v6_base.specs.declared.entry.PanicKind.TheVariants as panic
use Rattle.v6_base.specs.declared.entry.Entry.{Entry}
use Rattle.v6_base.specs.declared.entry.Entry.TheVariants as line
use Rattle.pick_rules.specs.declared.row.Stat.TheVariants.{Sleeping}
use Rattle.pick_rules.specs.declared.row.TableRow.{TableRow}
use Rattle.pick_rules.specs.declared.table.Table.{Table}
use Rattle.pick_rules.specs.Priority.{pswp}
use Rattle.pick_rules.specs.Table.{empty_row, row_at, with_row, same_chan}
use Rattle.pick_rules.specs.Sleepers.{runout_told, asleep, fall_asleep}
use Rattle.pick_rules.specs.Board.{Board, blocks, core_fit, swap_fit}
use Rattle.pick_rules.specs.Apply.{applied}
use Rattle.pick_rules.specs.Swapper.{SwapMove, In, Out, Waits, candidate, need, loaded_waiter, loaded_runner, out_if_old, makes_room, comes_in, move_for, swap_move}
use Rattle.pick_rules.specs.Ranges.{IsSlot, IsClicks, IsChannel}
use Rattle.pick_rules.specs.Fits.{FitsBoard}
use Rattle.pick_rules.specs.Lawful.{Open, Seen, Fits, stage_after, seen_after}
use Rattle.pick_rules.proofs.Within.{block_within, core_within}
use Rattle.pick_rules.proofs.Movers.{Lives, IsMover, mover}
use Rattle.pick_rules.proofs.Shapes.{is_asleep, shape, shape_at, Sleeps, SameShapes, same_none, each_set, runout_same}
use Rattle.pick_rules.proofs.Placing.{row_out, loaded_row, HasCome, goes_out, goes_core}
use Rattle.pick_rules.proofs.Placing as placing
use Rattle.log_laws.proofs.Fitting.{going_fits}
use Rattle.log_laws.proofs.Users.{come_users, gone_users}
use Rattle.log_laws.proofs.Seats.{Seat, Seats, seat_at, Same, AgreesAt, Agrees, RunnerAt, Paused, same_board, kept_agrees, change_agrees}

-- while process 0 runs, and when it has fallen asleep
pub record InPass (v : Seats) (seen : Seen) : Type 0 where
  pub paused : Paused v seen
  pub zero : (seen.board.table.running ≡ None) ⊎ (seen.board.table.running ≡ Some 0)

-- a line of the pass that fits
pub record Moves (v : Seats) (seen : Seen) (e : Entry) : Type 0 where
  pub fits : Fits seen e
  pub next : InPass v (seen_after seen e)

-- who lives sits in a seat of a living process
pub record IsSeated (v : Seats) (b : Board) (s : ℕ) : Type 0 where
  pub seat : Seat
  pub at : seat_at v s ≡ Some seat
  pub alive : seat.dead ≡ false
  pub same : Same (s == 0) v.most seat (shape_at b.table s)

seated : (v : Seats) (b : Board) (s : ℕ) → Agrees 0 v b → Lives b.table s → IsSeated v b s
seated v b s a l = by (seat_at v s) refl (a.each s l.user)
  where
    by : (o : Option Seat) → seat_at v s ≡ o → AgreesAt (s == 0) v.most o (shape_at b.table s) → IsSeated v b s
    by None f k = absurd (let x = l.stat.used in cc (x, k))
    by (Some seat) f k = record { seat = seat; at = f; alive = sym k.zombie ∙ l.stat.alive; same = k }

-- a move changes the place of a living slot alone
module _ (v : Seats) (seen : Seen) (p : Paused v seen) (r : seen.board.table.running ≡ Some 0) (s : ℕ) (l : Lives seen.board.table s) where
  small : s < 50
  small = subst (λ n. s < n) p.agrees.rows l.small

  moved_agrees : (row : TableRow) (place : Place) → record (shape row) { place = (row_at seen.board.table s).place } ≡ shape_at seen.board.table s
      → row.place ≡ Some place → row.channel ≡ (row_at seen.board.table s).channel
      → row.stat ≡ (row_at seen.board.table s).stat
      → Agrees 0 v (record seen.board { table = with_row seen.board.table s row })
  moved_agrees row place e f g h =
      let k : IsSeated v seen.board s = seated v seen.board s p.agrees l in
      let o = k.same in
      change_agrees 0 0 s v v.slots seen.board (with_row seen.board.table s row) (Some k.seat) row (λ f. refl) p.agrees small
      (sym (ap (set v.slots s) (sym k.at) ∙ set-get_or v.slots s None)) refl p.agrees.time p.agrees.ticks
      (record {
        used = ap (λ x. x.empty) e ∙ o.used;
        zombie = ap (λ x. x.zombie) e ∙ o.zombie;
        calling = λ x y. ap (λ x. x.calling) e ∙ o.calling x y;
        text = ap (λ x. x.text) e ∙ o.text;
        entry = o.entry;
        place = λ x. ap is_some f;
        size = λ x. ap (λ x. x.size) e ∙ o.size x;
        most = rw (ap (λ x. x.size) e) o.most;
      })
      (subst (λ stat. (row.channel ≡ None) ⊎ (is_asleep stat ≡ true)) (sym h) (subst (λ c. (c ≡ None) ⊎ (is_asleep (row_at seen.board.table s).stat ≡ true)) (sym g) (p.agrees.sleeps s)))

  after_move : (e : Entry) → stage_after seen.stage e ≡ Open → Agrees 0 v (applied seen.board e)
      → (applied seen.board e).table.running ≡ Some 0
      → InPass v (seen_after seen e)
  after_move e o a runs = record {
    paused = record { going = rw o tt; agrees = a; runner = subst (RunnerAt v (applied seen.board e)) (sym runs) (inl refl) };
    zero = inr runs;
  }

  come : (c : ℕ) → InPass v (seen_after seen (line.SwapIn s c))
  come c =
      let k : HasCome seen.board s (applied seen.board (line.SwapIn s c)) = placing.comes_in seen.board s c l.small in
      let row : TableRow = loaded_row (row_at seen.board.table s) k.click in
      let newer : Board = record seen.board { table = with_row seen.board.table s row } in
      after_move (line.SwapIn s c) refl
      (same_board 0 v newer (applied seen.board (line.SwapIn s c)) k.table (record { core = k.core; users = come_users seen.board s c }) (moved_agrees row (Core k.click) refl refl refl refl))
      (ap (λ t. t.running) k.table ∙ r)

  go : (block : ℕ) → InPass v (seen_after seen (line.SwapOut s block))
  go block =
      let row : TableRow = row_out (row_at seen.board.table s) (row_at seen.board.table s).size block in
      let newer : Board = record seen.board { table = with_row seen.board.table s row } in
      let now : Board = applied seen.board (line.SwapOut s block) in
      let e : now.table ≡ runout_told newer.table = goes_out seen.board s block l.small in
      let a : Agrees 0 v newer = moved_agrees row (Swap block) refl refl refl refl in
      let told : SameShapes newer.table (runout_told newer.table) = runout_same newer.table newer.table (same_none newer.table a.sleeps) in
      after_move (line.SwapOut s block) refl
      (same_board 0 v (record newer { table = runout_told newer.table }) now e (record { core = goes_core seen.board s block; users = gone_users seen.board s block })
      (kept_agrees 0 v newer (record newer { table = runout_told newer.table }) told (record { core = refl; users = refl }) a))
      (ap (λ t. t.running) e ∙ told.running ∙ r)

-- one move, or the panic
module _ (v : Seats) (seen : Seen) (p : Paused v seen) (r : seen.board.table.running ≡ Some 0) where
  lives_in : (s c : ℕ) → swap_move seen.board ≡ In s c → Lives seen.board.table s
  lives_in s c e = subst (IsMover seen.board.table) e (mover seen.board)

  lives_out : (s : ℕ) → swap_move seen.board ≡ Out s → Lives seen.board.table s
  lives_out s e = subst (IsMover seen.board.table) e (mover seen.board)

  slot_of : (s : ℕ) → Lives seen.board.table s → IsSlot s
  slot_of s l = let k = small v seen p r s l in omega (arith, k)

  pub in_moves : (s c : ℕ) → IsClicks c → swap_move seen.board ≡ In s c → Moves v seen (line.SwapIn s c)
  unfolding FitsBoard
  in_moves s c k e = record {
    fits = going_fits seen (line.SwapIn s c) p.going (slot_of s (lives_in s c e), k) (r, e);
    next = come v seen p r s (lives_in s c e) c;
  }

  -- each image has clicks
  pub out_moves : (s block : ℕ) → ((q : ℕ) (seat : Seat) → seat_at v q ≡ Some seat → 1 ≤ seat.size) → swap_move seen.board ≡ Out s
      → swap_fit seen.board (blocks (row_at seen.board.table s).size) ≡ Some block
      → Moves v seen (line.SwapOut s block)
  unfolding FitsBoard
  out_moves s block least e f = record {
    fits = going_fits seen (line.SwapOut s block) p.going (
      slot_of s (lives_out s e),
      block_within seen.board (blocks (row_at seen.board.table s).size) block
          (let k = seated v seen.board s p.agrees (lives_out s e) in
          let some = least s k.seat k.at in
          let size : (row_at seen.board.table s).size ≡ k.seat.size = k.same.size k.alive in
          omega (arith, some, size)) f,
    ) (r, e, f);
    next = go v seen p r s (lives_out s e) block;
  }

  pub no_room : (s : ℕ) → swap_move seen.board ≡ Out s
      → swap_fit seen.board (blocks (row_at seen.board.table s).size) ≡ None
      → Fits seen (line.Panic panic.Swap)
  unfolding FitsBoard
  no_room s e f =
      going_fits seen (line.Panic panic.Swap) p.going tt
      (inr (refl, record { runs = r; s = s; out = e; full = f }))

-- the numbers of a move are in their ranges
abbrev pub IsMoveInRange : SwapMove → Type 0
IsMoveInRange (In s c) = IsClicks c
IsMoveInRange (Out s) = Unit {0}
IsMoveInRange (Waits chan) = IsChannel chan

pub move_within : (b : Board) → b.core ≤ 3968 → IsMoveInRange (swap_move b)
unfolding swap_move
move_within b most = by (candidate b.table)
  where
    old : (x : Bool) (s : ℕ) → IsMoveInRange (cond x (Out s) (Waits RunIn))
    old true s = tt
    old false s = tt

    out : (o : Option ℕ) → IsMoveInRange (out_if_old b.table o)
    out None = tt
    out (Some r) = old (nat_le 2 (row_at b.table r).time) r

    waits : (x : Bool) → IsMoveInRange (cond x (Waits RunIn) (out_if_old b.table (loaded_runner b.table)))
    waits true = tt
    waits false = out (loaded_runner b.table)

    room : (s : ℕ) (o : Option ℕ) → IsMoveInRange (makes_room b.table s o)
    room s None = waits (nat_lt (row_at b.table s).time 3)
    room s (Some w) = tt

    comes : (s : ℕ) (o : Option ℕ) → core_fit b (need b s) ≡ o → IsMoveInRange (comes_in b.table s o)
    comes s (Some c) e = core_within b (need b s) c most e
    comes s None e = room s (loaded_waiter b.table)

    by : (o : Option ℕ) → IsMoveInRange (move_for b o)
    by None = tt
    by (Some s) = comes s (core_fit b (need b s)) refl

-- process 0 falls asleep
zero_sleeps : (v : Seats) (seen : Seen) (chan : Chan) → Paused v seen
    → InPass v (seen_after seen (line.Sleep 0 pswp chan))
unfolding applied fall_asleep
zero_sleeps v seen chan p = by (same_chan chan RunIn)
  where
    t : Table
    t = asleep seen.board.table 0 pswp chan

    each : (r : ℕ) → 0 < r → AgreesAt (r == 0) v.most (seat_at v r) (shape (get_or t.rows r empty_row))
    each r h = rw (get_or-set_other seen.board.table.rows 0 r (record (row_at seen.board.table 0) { stat = Sleeping; pri = pswp; channel = Some chan; calling = true }) empty_row
        (λ e. absurd (omega (arith, e, h)))) (p.agrees.each r h)

    agrees : (runin runout : Bool)
        → Agrees 0 v (record seen.board { table = record t { runin = runin; runout = runout } })
    agrees x y = record {
      each = each;
      sleeps = each_set Sleeps seen.board.table.rows 0 _ p.agrees.sleeps (inr refl);
      rows = length-set seen.board.table.rows 0 _ ∙ p.agrees.rows;
      seats = p.agrees.seats;
      time = p.agrees.time;
      ticks = p.agrees.ticks;
      texts = p.agrees.texts;
      forty = p.agrees.forty;
      core = p.agrees.core;
      most = p.agrees.most;
    }

    by : (x : Bool)
        → InPass v (record { stage = Open; board = record seen.board { table = cond x (record t { runin = true }) (record t { runout = true }) } })
    by true = record { paused = record { going = tt; agrees = agrees true t.runout; runner = tt }; zero = inl refl }
    by false = record { paused = record { going = tt; agrees = agrees t.runin true; runner = tt }; zero = inl refl }

pub pass_ends : (v : Seats) (seen : Seen) (chan : Chan) → Paused v seen → seen.board.table.running ≡ Some 0
    → IsChannel chan → swap_move seen.board ≡ Waits chan
    → Moves v seen (line.Sleep 0 pswp chan)
unfolding FitsBoard
pass_ends v seen chan p r k e = record {
  fits = going_fits seen (line.Sleep 0 pswp chan) p.going (omega arith, (omega (arith, ints), omega (arith, ints)), k) (inr (r, refl, refl, e));
  next = zero_sleeps v seen chan p;
}
