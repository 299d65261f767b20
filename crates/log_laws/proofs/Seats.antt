-- Who sits in which slot, as far as the board of the log tells it too, and what both have in common.
use Rattle.std.proofs.Common.{◌≡◌, ◌≢◌, ◌∙◌, ◌<◌, ◌≤◌, ◌==◌, ℕ, Bool, true, false, List, map, Option, Some, None, is_some, get_or, set, length, length-set, get_or-set_same, get_or-set_other, refl, sym, ap, subst, ◌⊎◌, arith}
use Rattle.std.proofs.lemmas.Bool.{eqb-true, eqb-false}
use Rattle.pick_rules.specs.declared.row.TableRow.{TableRow}
use Rattle.pick_rules.specs.declared.table.Table.{Table}
use Rattle.pick_rules.specs.Table.{empty_row, row_at}
use Rattle.pick_rules.specs.Choice.{settle}
use Rattle.pick_rules.specs.Board.{TextPlace, Board, limit}
use Rattle.pick_rules.specs.Ranges.{IsSlot}
use Rattle.pick_rules.specs.Fits.{IsRunning}
use Rattle.pick_rules.specs.Lawful.{Idling, Seen}
use Rattle.pick_rules.proofs.Shapes.{Shape, shape, shape_at, Sleeps, SameShapes, each_set}
use Rattle.log_laws.proofs.Fitting.{IsGoing}
use Rattle.log_laws.proofs.Users.{users_of, users_on, SameRest}

pub record Seat : Type 0 where
  pub dead : Bool  -- its process has ended
  pub calling : Bool  -- its process waits in a call
  pub text : Option ℕ
  pub size : ℕ  -- the clicks of its image

-- the slots, of which there are 50, and the clock
pub record Seats : Type 0 where
  pub slots : List (Option Seat)
  pub time : ℕ
  pub ticks : ℕ
  pub texts : List (Option ℕ)  -- the users of each text that is shared, by entries
  pub most : ℕ  -- the most clicks of an image

abbrev pub seat_at : Seats → ℕ → Option Seat
seat_at v s = get_or v.slots s None

abbrev pub with_seat : Seats → ℕ → Option Seat → Seats
with_seat v s o = record v { slots = set v.slots s o }

-- A seat and its row. In the middle of a turn the row may still say that a call waits.
pub record Same (busy : Bool) (clicks : ℕ) (seat : Seat) (row : Shape) : Type 0 where
  pub used : row.empty ≡ false
  pub zombie : row.zombie ≡ seat.dead
  pub calling : busy ≡ false → seat.dead ≡ false → row.calling ≡ seat.calling
  pub text : row.text ≡ seat.text
  pub entry : (k : ℕ) → seat.text ≡ Some k → k < 40
  pub place : seat.dead ≡ false → is_some row.place ≡ true
  pub size : seat.dead ≡ false → row.size ≡ seat.size
  pub most : row.size ≤ clicks

abbrev pub AgreesAt : Bool → ℕ → Option Seat → Shape → Type 0
AgreesAt busy most None row = row.empty ≡ true
AgreesAt busy most (Some seat) row = Same busy most seat row

-- `busy` is the slot that is in the middle of its turn, or 0
pub record Agrees (busy : ℕ) (v : Seats) (b : Board) : Type 0 where
  pub each : (r : ℕ) → 0 < r → AgreesAt (r == busy) v.most (seat_at v r) (shape_at b.table r)
  pub sleeps : (r : ℕ) → Sleeps (row_at b.table r)
  pub rows : length b.table.rows ≡ 50
  pub seats : length v.slots ≡ 50
  pub time : v.time ≡ b.table.now
  pub ticks : v.ticks ≡ b.table.ticks
  pub texts : v.texts ≡ users_on b
  pub forty : length v.texts ≡ 40
  pub core : b.core ≤ 3968
  pub most : v.most ≡ limit b.core

-- the slot that is in its turn
pub record InTurn (s : ℕ) (v : Seats) (b : Board) : Type 0 where
  pub seat : Seat
  pub at : seat_at v s ≡ Some seat
  pub runs : b.table.running ≡ Some s
  pub user : 0 < s
  pub small : s < 50
  pub alive : seat.dead ≡ false

-- In the middle of a turn. The process waits in a call, or it doesn't.
pub record InCall (s : ℕ) (calling : Bool) (v : Seats) (seen : Seen) : Type 0 where
  pub going : IsGoing seen.stage
  pub agrees : Agrees s v seen.board
  pub turn : InTurn s v seen.board
  pub calls : turn.seat.calling ≡ calling

-- who runs is process 0, or a living process
abbrev pub RunnerAt : Seats → Board → Option ℕ → Type 0
RunnerAt v b None = Unit {0}
RunnerAt v b (Some s) = (s ≡ 0) ⊎ InTurn s v b

-- between two turns, before the kernel has settled
pub record Paused (v : Seats) (seen : Seen) : Type 0 where
  pub going : IsGoing seen.stage
  pub agrees : Agrees 0 v seen.board
  pub runner : RunnerAt v seen.board seen.board.table.running

-- and after
pub record Holds (v : Seats) (seen : Seen) : Type 0 where
  pub paused : Paused v seen
  pub rests : (seen.stage ≡ Idling) ⊎ (settle seen.board.table ≡ None)

pub runs_in : (s : ℕ) (v : Seats) (b : Board) → InTurn s v b → IsRunning b s
runs_in s v b t = record { runs = t.runs; user = t.user }

pub in_its_slot : {s : ℕ} {v : Seats} {b : Board} → InTurn s v b → IsSlot s
in_its_slot t = let l = t.small in omega (arith, l)

-- at another slot than the busy one, who is busy makes no difference
pub not_busy : (s r : ℕ) → r ≢ s → (r == s) ≡ false
not_busy s r e = by (r == s) refl
  where
    by : (b : Bool) → (r == s) ≡ b → b ≡ false
    by true f = absurd (e (eqb-true r s f))
    by false f = refl

pub not_zero : (s : ℕ) → 0 < s → (s == 0) ≡ false
not_zero s l = not_busy 0 s (λ e. absurd (omega (arith, l, e)))

unbusy : (most : ℕ) (o : Option Seat) (row : Shape) → AgreesAt false most o row → (busy : Bool)
    → AgreesAt busy most o row
unbusy most None row a busy = a
unbusy most (Some seat) row a busy =
    record { used = a.used; zombie = a.zombie; calling = λ f g. a.calling refl g; text = a.text; entry = a.entry; place = a.place; size = a.size; most = a.most }

-- another busy slot, at a slot that is neither
others : (s t r most : ℕ) (o : Option Seat) (row : Shape) → r ≢ s → AgreesAt (r == s) most o row
    → AgreesAt (r == t) most o row
others s t r most o row e a = unbusy most o row (subst (λ x. AgreesAt x most o row) (not_busy s r e) a) (r == t)

-- a turn begins
pub busy_agrees : (s : ℕ) (v : Seats) (b : Board) → Agrees 0 v b → Agrees s v b
busy_agrees s v b a = record {
  each = λ r h. others 0 s r v.most (seat_at v r) (shape_at b.table r) (λ e. absurd (omega (arith, e, h))) (a.each r h);
  sleeps = a.sleeps;
  rows = a.rows;
  seats = a.seats;
  time = a.time;
  ticks = a.ticks;
  texts = a.texts;
  forty = a.forty;
  core = a.core;
  most = a.most;
}

-- what the busy slot has in common with its row
pub own : (busy s : ℕ) (v : Seats) (b : Board) → Agrees busy v b → (t : InTurn s v b)
    → Same (s == busy) v.most t.seat (shape_at b.table s)
own busy s v b a t = subst (λ o. AgreesAt (s == busy) v.most o (shape_at b.table s)) t.at (a.each s t.user)

-- another board with the same table
pub same_board : (busy : ℕ) (v : Seats) (b c : Board) → c.table ≡ b.table → SameRest b c → Agrees busy v b
    → Agrees busy v c
same_board busy v b c e f a = record {
  each = λ r h. rw e (a.each r h);
  sleeps = rw e a.sleeps;
  rows = rw e a.rows;
  seats = a.seats;
  time = rw e a.time;
  ticks = rw e a.ticks;
  texts = a.texts ∙ sym f.users;
  forty = a.forty;
  core = rw f.core a.core;
  most = a.most ∙ ap limit (sym f.core);
}

-- a table with rows of the same shapes
pub kept_agrees : (busy : ℕ) (v : Seats) (b c : Board) → SameShapes b.table c.table → SameRest b c → Agrees busy v b
    → Agrees busy v c
kept_agrees busy v b c k f a = record {
  each = λ r h. subst (AgreesAt (r == busy) v.most (seat_at v r)) (sym (k.same r)) (a.each r h);
  sleeps = k.sleeps;
  rows = k.rows ∙ a.rows;
  seats = a.seats;
  time = a.time ∙ sym k.now;
  ticks = a.ticks ∙ sym k.ticks;
  texts = a.texts ∙ sym f.users;
  forty = a.forty;
  core = rw f.core a.core;
  most = a.most ∙ ap limit (sym f.core);
}

-- The texts are others on both sides.
pub texts_agree : (busy : ℕ) (v : Seats) (b : Board) (texts : List (Option TextPlace)) → length (map users_of texts) ≡ 40 → Agrees busy v b
    → Agrees busy (record v { texts = map users_of texts }) (record b { texts = texts })
texts_agree busy v b texts forty a =
    record { each = a.each; sleeps = a.sleeps; rows = a.rows; seats = a.seats; time = a.time; ticks = a.ticks; texts = refl; forty = forty; core = a.core; most = a.most }

-- One slot is changed on both sides. Before, `s` was busy; it is that slot, or it stays busy.
pub change_agrees : (s t c : ℕ) (v : Seats) (now : List (Option Seat)) (b : Board) (new : Table) (o : Option Seat) (row : TableRow) → (c ≢ s → s ≡ t)
    → Agrees s v b → c < 50 → now ≡ set v.slots c o → new.rows ≡ set b.table.rows c row → v.time ≡ new.now
    → v.ticks ≡ new.ticks
    → AgreesAt (c == t) v.most o (shape row) → Sleeps row
    → Agrees t (record v { slots = now }) (record b { table = new })
change_agrees s t c v now b new o row stays a l slots rows time ticks k sleeps = record {
  each = λ r h. subst (λ xs. AgreesAt (r == t) v.most (get_or xs r None) (shape (get_or new.rows r empty_row))) (sym slots)
      (subst (λ ys. AgreesAt (r == t) v.most (get_or (set v.slots c o) r None) (shape (get_or ys r empty_row))) (sym rows) (at r h (r == c) refl));
  sleeps = rw rows (each_set Sleeps b.table.rows c row a.sleeps sleeps);
  rows = rw rows (length-set b.table.rows c row ∙ a.rows);
  seats = rw slots (length-set v.slots c o ∙ a.seats);
  time = time;
  ticks = ticks;
  texts = a.texts;
  forty = a.forty;
  core = a.core;
  most = a.most;
}
  where
    another : (r : ℕ) → 0 < r → r ≢ c → (x : Bool) → (r == s) ≡ x
        → AgreesAt (r == t) v.most (seat_at v r) (shape_at b.table r)
    another r h n true e =
        let is : r ≡ s = eqb-true r s e in
        let same : s ≡ t = stays (λ f. n (is ∙ sym f)) in
        subst (λ x. AgreesAt (r == x) v.most (seat_at v r) (shape_at b.table r)) same (a.each r h)
    another r h n false e = others s t r v.most (seat_at v r) (shape_at b.table r) (eqb-false r s e) (a.each r h)

    at : (r : ℕ) → 0 < r → (x : Bool) → (r == c) ≡ x
        → AgreesAt (r == t) v.most (get_or (set v.slots c o) r None) (shape (get_or (set b.table.rows c row) r empty_row))
    at r h true e = subst (λ q. AgreesAt (q == t) v.most (get_or (set v.slots c o) q None) (shape (get_or (set b.table.rows c row) q empty_row))) (sym (eqb-true r c e))
        (rw (get_or-set_same v.slots c o None (rw a.seats l), get_or-set_same b.table.rows c row empty_row (rw a.rows l)) k)
    at r h false e = rw (get_or-set_other v.slots c r o None (eqb-false r c e), get_or-set_other b.table.rows c r row empty_row (eqb-false r c e))
        (another r h (eqb-false r c e) (r == s) refl)
