-- The end of a process, and the wait for it: it leaves its text; its exit finds a block, or panics; its slot is emptied.
use Rattle.std.proofs.Common.{◌≡◌, ◌≢◌, ◌∙◌, ◌<◌, ◌==◌, ℕ, Bool, true, false, cond, List, ◌∷◌, Option, Some, None, set, length, get_or-set_same, refl, sym, ap, subst, inl, arith}
use Rattle.std.proofs.lemmas.Bool.{eq-eqb}
use Rattle.std.proofs.lemmas.List.{set-get_or}
use Rattle.v6_base.specs.declared.entry.Place.TheVariants.{Swap}
use Rattle.v6_base.specs.declared.entry.PanicKind.TheVariants as panic
use Rattle.v6_base.specs.declared.entry.Entry.TheVariants as line
use Rattle.pick_rules.specs.declared.row.Stat.{Stat}
use Rattle.pick_rules.specs.declared.row.Stat.TheVariants as stat
use Rattle.pick_rules.specs.declared.row.TableRow.{TableRow}
use Rattle.pick_rules.specs.Table.{empty_row, row_at, with_row, is_zombie, is_loaded}
use Rattle.pick_rules.specs.Board.{Board, swap_fit}
use Rattle.pick_rules.specs.Apply.{in_table, change_row, leaves_core, parted, goes_if_unused, applied}
use Rattle.pick_rules.specs.Effects.{Effect, at_fit, came}
use Rattle.pick_rules.specs.Effects as effect
use Rattle.pick_rules.specs.Fits.{FitsBoard, IsRunning}
use Rattle.pick_rules.specs.Lawful.{Seen, Fits, seen_after}
use Rattle.pick_rules.proofs.Within.{block_within}
use Rattle.pick_rules.proofs.Shapes.{shape_at}
use Rattle.pick_rules.proofs.Placing.{text_table, text_core}
use Rattle.log_laws.proofs.Fitting.{going_fits, Apt, AptCame}
use Rattle.log_laws.proofs.Users.{users_on, left_users, left_long, leave_users}
use Rattle.log_laws.proofs.Seats.{Seat, Seats, seat_at, with_seat, Same, AgreesAt, Agrees, InTurn, InCall, Paused, runs_in, in_its_slot, own, same_board, texts_agree, change_agrees}
use Rattle.log_laws.proofs.Births.{other_turn}

-- a process that has ended
pub record IsDead (v : Seats) (c : ℕ) : Type 0 where
  pub seat : Seat
  pub at : seat_at v c ≡ Some seat
  pub dead : seat.dead ≡ true
  pub user : 0 < c
  pub small : c < 50

is_zombie_stat : (x : Stat) → is_zombie x ≡ true → x ≡ stat.Zombie
is_zombie_stat stat.Empty e = absurd (cc e)
is_zombie_stat stat.Sleeping e = absurd (cc e)
is_zombie_stat stat.Waiting e = absurd (cc e)
is_zombie_stat stat.Ready e = absurd (cc e)
is_zombie_stat stat.Zombie e = refl

module _ (s : ℕ) (calling : Bool) (v : Seats) (seen : Seen) (c : ℕ) (i : InCall s calling v seen) (d : IsDead v c) where
  pub reap_fits : Fits seen (line.Reap c)
  unfolding FitsBoard
  reap_fits =
      going_fits seen (line.Reap c) i.going (let l = d.small in omega (arith, l))
      ((s, runs_in s v seen.board i.turn), is_zombie_stat _ (same.zombie ∙ d.dead))
    where
      same : Same (c == s) v.most d.seat (shape_at seen.board.table c)
      same =
          subst (λ o. AgreesAt (c == s) v.most o (shape_at seen.board.table c)) d.at
          (i.agrees.each c d.user)

  not_itself : s ≢ c
  not_itself e = absurd (
      let f : Some i.turn.seat ≡ Some d.seat = sym i.turn.at ∙ ap (seat_at v) e ∙ d.at in
      let g = i.turn.alive in let h = d.dead in let k : i.turn.seat ≡ d.seat = cc f in cc (k, g, h)
      )

  pub reap_in : InCall s calling (with_seat v c None) (seen_after seen (line.Reap c))
  unfolding applied other_turn
  reap_in = record {
    going = tt;
    agrees = change_agrees s s c v (set v.slots c None) seen.board (with_row seen.board.table c empty_row) None empty_row (λ f. refl) i.agrees d.small refl refl
        i.agrees.time i.agrees.ticks refl (inl refl);
    turn = other_turn s c v seen.board (record seen.board { table = with_row seen.board.table c empty_row }) None i.turn not_itself refl;
    calls = i.calls;
  }

-- what leaving a text does to the table
leave_table : (b : Board) (s k : ℕ) (sticky : Bool)
    → (applied b (line.Leave s k sticky)).table ≡ change_row b.table s (λ row. record row { text = None })
unfolding applied
leave_table b s k sticky = by sticky (is_loaded b.table s)
  where
    by : (x y : Bool)
        → (cond x (parted (in_table (cond y (leaves_core b (row_at b.table s).text) b) (λ t. change_row t s (λ row. record row { text = None }))) k)
        (goes_if_unused (parted (in_table (cond y (leaves_core b (row_at b.table s).text) b) (λ t. change_row t s (λ row. record row { text = None }))) k) k)).table
        ≡ change_row b.table s (λ row. record row { text = None })
    by true true = ap (λ t. change_row t s (λ row. record row { text = None })) (text_table b (row_at b.table s).text _)
    by true false = refl
    by false true =
        ap (λ t. change_row t s (λ row. record row { text = None })) (text_table b (row_at b.table s).text _)
    by false false = refl

leave_core : (b : Board) (s k : ℕ) (sticky : Bool) → (applied b (line.Leave s k sticky)).core ≡ b.core
unfolding applied
leave_core b s k sticky = by sticky (is_loaded b.table s)
  where
    by : (x y : Bool)
        → (cond x (parted (in_table (cond y (leaves_core b (row_at b.table s).text) b) (λ t. change_row t s (λ row. record row { text = None }))) k)
        (goes_if_unused (parted (in_table (cond y (leaves_core b (row_at b.table s).text) b) (λ t. change_row t s (λ row. record row { text = None }))) k) k)).core
        ≡ b.core
    by true true = text_core b (row_at b.table s).text _
    by true false = refl
    by false true = text_core b (row_at b.table s).text _
    by false false = refl

-- the seat of the process is another
abbrev pub with_own : (s : ℕ) (v : Seats) (seat : Seat) → Seats
with_own s v seat = with_seat v s (Some seat)

-- the process has left its text
abbrev pub without_text : (s : ℕ) (v : Seats) (seat : Seat) → ℕ → Bool → Seats
without_text s v seat k sticky = record v { slots = set v.slots s (Some (record seat { text = None })); texts = left_users v.texts k sticky }

unfoldable pub own_turn : (s : ℕ) (v : Seats) (b d : Board) (seat : Seat) → length v.slots ≡ 50 → InTurn s v b
    → seat.dead ≡ false → d.table.running ≡ b.table.running
    → InTurn s (with_own s v seat) d
own_turn s v b d seat a t n e = record {
  seat = seat;
  at = get_or-set_same v.slots s (Some seat) None (rw a t.small);
  runs = e ∙ t.runs;
  user = t.user;
  small = t.small;
  alive = n;
}

module _ (s : ℕ) (calling : Bool) (v : Seats) (seen : Seen) (i : InCall s calling v seen) where
  -- its text is left
  pub leave_fits : (k : ℕ) (sticky : Bool) → i.turn.seat.text ≡ Some k
      → Fits seen (line.Leave s k sticky)
  unfolding FitsBoard
  leave_fits k sticky e =
      let o = own s s v seen.board i.agrees i.turn in
      going_fits seen (line.Leave s k sticky) i.going (in_its_slot i.turn, (let low = o.entry k e in omega (arith, low)))
      (runs_in s v seen.board i.turn, o.text ∙ e)

  pub leave_in : (k : ℕ) (sticky : Bool)
      → InCall s calling (without_text s v i.turn.seat k sticky) (seen_after seen (line.Leave s k sticky))
  leave_in k sticky =
      let b : Board = seen.board in
      let now : Board = applied b (line.Leave s k sticky) in
      let bare : TableRow = record (row_at b.table s) { text = None } in
      let newer : Board = record b { table = with_row b.table s bare; texts = now.texts } in
      let seat : Seat = record i.turn.seat { text = None } in
      let e : now.table ≡ newer.table = leave_table b s k sticky in
      let o = own s s v b i.agrees i.turn in
      let users : users_on now ≡ left_users v.texts k sticky = leave_users b s k sticky ∙ ap (λ us. left_users us k sticky) (sym i.agrees.texts) in
      record {
        going = tt;
        agrees = subst (λ us. Agrees s (record v { slots = set v.slots s (Some seat); texts = us }) now) users
            (same_board s (record v { slots = set v.slots s (Some seat); texts = users_on now }) newer now e (record { core = leave_core b s k sticky; users = refl })
            (change_agrees s s s (record v { texts = users_on now }) (set v.slots s (Some seat)) (record b { texts = now.texts }) newer.table (Some seat) bare (λ f. refl)
            (texts_agree s v b now.texts (ap length users ∙ left_long v.texts k sticky ∙ i.agrees.forty) i.agrees) i.turn.small refl refl i.agrees.time i.agrees.ticks
            (record { used = o.used; zombie = o.zombie; calling = o.calling; text = refl; entry = λ j f. absurd (cc f); place = o.place; size = o.size; most = o.most })
            (i.agrees.sleeps s)));
        turn = record {
          seat = seat;
          at = get_or-set_same v.slots s (Some seat) None (rw i.agrees.seats i.turn.small);
          runs = ap (λ t. t.running) e ∙ i.turn.runs;
          user = i.turn.user;
          small = i.turn.small;
          alive = i.turn.alive;
        };
        calls = i.calls;
      }

  -- The exit: a zombie that nobody runs.
  abbrev grave : ℕ → TableRow
  grave block = record (row_at seen.board.table s) { stat = stat.Zombie; channel = None; place = Some (Swap block) }

  exit_paused : (block : ℕ) (seat : Seat) → seat.dead ≡ true → seat.text ≡ i.turn.seat.text
      → Paused (with_own s v seat) (seen_after seen (line.Exit s block))
  unfolding applied
  exit_paused block seat dead text = record {
    going = tt;
    agrees = let o = own s s v seen.board i.agrees i.turn in
        change_agrees s 0 s v (set v.slots s (Some seat)) seen.board _ (Some seat) (grave block) (λ f. absurd (f refl)) i.agrees i.turn.small refl refl
        i.agrees.time i.agrees.ticks
        (record {
          used = refl;
          zombie = sym dead;
          calling = λ f g. absurd (cc (dead, g));
          text = o.text ∙ sym text;
          entry = λ k e. o.entry k (sym text ∙ e);
          place = λ f. absurd (cc (dead, f));
          size = λ f. absurd (cc (dead, f));
          most = o.most;
        }) (inl refl);
    runner = tt;
  }

  -- the rest is to be apt where the exit has found a block
  pub exit_apt : {W : Type 0} → (Q : Seen → Type 0) (before : W) (es : List (Effect W)) (seat : Seat)
      → i.turn.seat.text ≡ None
      → seat.dead ≡ true → seat.text ≡ None → ((now : Seen) → Paused (with_own s v seat) now → Apt Q now es)
      → Apt Q seen (effect.Exit s before ∷ es)
  unfolding Apt came FitsBoard
  exit_apt Q before es seat bare dead text rest = by (swap_fit seen.board 1) refl
    where
      running : IsRunning seen.board s
      running = runs_in s v seen.board i.turn

      by : (o : Option ℕ) → swap_fit seen.board 1 ≡ o
          → AptCame seen (at_fit panic.Zombie before o (λ block. line.Exit s block)) (λ now. Apt Q now es)
      by (Some block) e = (
        going_fits seen (line.Exit s block) i.going (in_its_slot i.turn, block_within seen.board 1 block (omega arith) e) (running, (own s s v seen.board i.agrees i.turn).text ∙ bare, e),
        rest (seen_after seen (line.Exit s block)) (exit_paused block seat dead (text ∙ sym bare)),
      )
      by None e = going_fits seen (line.Panic panic.Zombie) i.going tt (inl ((s, running), e))

  -- a change of the process that doesn't show in its row
  pub change_in : (seat : Seat) → seat.dead ≡ false → seat.text ≡ i.turn.seat.text → seat.size ≡ i.turn.seat.size
      → InCall s seat.calling (with_own s v seat) seen
  unfolding own_turn
  change_in seat dead text size = record {
    going = i.going;
    agrees = let o = own s s v seen.board i.agrees i.turn in
        change_agrees s s s v (set v.slots s (Some seat)) seen.board seen.board.table (Some seat) (row_at seen.board.table s) (λ f. refl) i.agrees i.turn.small refl
        (sym (set-get_or seen.board.table.rows s empty_row)) i.agrees.time i.agrees.ticks
        (record {
          used = o.used;
          zombie = o.zombie ∙ i.turn.alive ∙ sym dead;
          calling = λ f g. absurd (let e = eq-eqb s s refl in cc (e, f));
          text = o.text ∙ sym text;
          entry = λ k e. o.entry k (sym text ∙ e);
          place = λ f. o.place i.turn.alive;
          size = λ f. o.size i.turn.alive ∙ sym size;
          most = o.most;
        }) (i.agrees.sleeps s);
    turn = own_turn s v seen.board seen.board seat i.agrees.seats i.turn dead refl;
    calls = refl;
  }
