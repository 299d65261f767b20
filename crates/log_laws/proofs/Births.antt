-- A fork: its line fits, wherever the child's image stands, and so does the panic where it finds no place.
use Rattle.std.proofs.Common.{◌≡◌, ◌≢◌, ◌∙◌, ◌<◌, ◌≤◌, ◌==◌, ◌+◌, ℕ, zero, suc, Bool, true, false, List, map, ◌∷◌, Option, Some, None, is_none, find, length, set, get_or-set_other, refl, sym, ap, subst, inl, arith}
use Rattle.std.specs.List.{range_with_len}
use Rattle.v6_base.specs.declared.entry.Place.{Place}
use Rattle.v6_base.specs.declared.entry.Place.TheVariants.{Core, Swap}
use Rattle.v6_base.specs.declared.entry.PanicKind.TheVariants as panic
use Rattle.v6_base.specs.declared.entry.Entry.TheVariants as line
use Rattle.pick_rules.specs.Search.{slots_above_0}
use Rattle.pick_rules.specs.declared.row.TableRow.{TableRow}
use Rattle.pick_rules.specs.Table.{child_row, row_at, with_row}
use Rattle.pick_rules.specs.Sleepers.{runout_told}
use Rattle.pick_rules.specs.Board.{TextPlace, Board, placed}
use Rattle.pick_rules.specs.Apply.{in_table, change_row, joins, applied}
use Rattle.pick_rules.specs.Effects.{Effect, image_at, came}
use Rattle.pick_rules.specs.Effects as effect
use Rattle.pick_rules.specs.Fits.{IsRunning, FitsBoard, free_slot}
use Rattle.pick_rules.specs.Lawful.{Seen, seen_after}
use Rattle.pick_rules.proofs.Found.{IsFound, found_in}
use Rattle.pick_rules.proofs.Within.{place_within, none_placed}
use Rattle.pick_rules.proofs.Shapes.{Shape, shape_at, same_none, runout_same}
use Rattle.pick_rules.proofs.Placing.{text_table, text_core, again_row, core_table, core_core}
use Rattle.log_laws.proofs.Fitting.{going_fits, Apt, AptCame}
use Rattle.log_laws.proofs.Users.{users_of, users_on, joined_users, joined_long, at_users, join_users}
use Rattle.log_laws.proofs.Seats.{Seat, Seats, seat_at, with_seat, Same, AgreesAt, Agrees, InTurn, InCall, runs_in, in_its_slot, not_busy, own, same_board, kept_agrees, texts_agree, change_agrees}

-- the lowest slot in which nobody sits
abbrev pub free_seat : Seats → Option ℕ
free_seat v = find (λ r. is_none (seat_at v r)) slots_above_0

-- a slot is empty on the board exactly where nobody sits in it
same_empty : (busy : Bool) (most : ℕ) (o : Option Seat) (row : Shape) → AgreesAt busy most o row
    → is_none o ≡ row.empty
same_empty busy most None row a = sym a
same_empty busy most (Some seat) row a = sym a.used

find_same : (p q : ℕ → Bool) (a n : ℕ) → ((r : ℕ) → a ≤ r → p r ≡ q r)
    → find p (range_with_len a n) ≡ find q (range_with_len a n)
find_same p q a zero h = refl
find_same p q a (suc n) h = rw (h a (omega arith), find_same p q (a + 1) n (λ r l. h r (omega (arith, l)))) refl

same_free : (busy : ℕ) (v : Seats) (b : Board) → Agrees busy v b → free_seat v ≡ free_slot b
same_free busy v b a =
    find_same _ _ 1 49
    (λ r l. same_empty (r == busy) v.most (seat_at v r) (shape_at b.table r) (a.each r (omega (arith, l))))

-- the running slot's process sits as it did
unfoldable pub other_turn : (s c : ℕ) (v : Seats) (b d : Board) (o : Option Seat) → (t : InTurn s v b) → s ≢ c
    → d.table.running ≡ b.table.running → InTurn s (with_seat v c o) d
other_turn s c v b d o t n running = record {
  seat = t.seat;
  at = get_or-set_other v.slots c s o None n ∙ t.at;
  runs = running ∙ t.runs;
  user = t.user;
  small = t.small;
  alive = t.alive;
}

-- the child's row, at its place
abbrev born : TableRow → Place → TableRow
born parent place = record (child_row parent) { size = parent.size; place = Some place }

abbrev with_child_row : Board → ℕ → ℕ → Place → Board
with_child_row b s child place = in_table b (λ t. with_row t child (born (row_at t s) place))

-- where the child's row comes to stand on the board
module _ (b : Board) (s child : ℕ) (l : child < length b.table.rows) where
  abbrev parent : TableRow
  parent = row_at b.table s

  abbrev cradle : Board
  cradle = joins (in_table b (λ t. with_row t child (child_row parent))) parent.text

  born_in : (c : ℕ) → (applied b (line.Fork s child (Core c))).table ≡ (with_child_row b s child (Core c)).table
  unfolding applied
  born_in c =
      core_table cradle child parent.size c
      ∙ ap (λ t. change_row t child (λ row. record row { size = parent.size; place = Some (Core c) })) (text_table _ parent.text _)
      ∙ again_row b.table child (child_row parent) (λ row. record row { size = parent.size; place = Some (Core c) }) l

  core_in : (c : ℕ) → (applied b (line.Fork s child (Core c))).core ≡ b.core
  unfolding applied
  core_in c = core_core cradle child parent.size c ∙ text_core _ parent.text _

  born_out : (k : ℕ)
      → (applied b (line.Fork s child (Swap k))).table ≡ runout_told (with_child_row b s child (Swap k)).table
  unfolding applied
  born_out k =
      ap runout_told (ap (λ t. change_row t child (λ row. record row { size = parent.size; place = Some (Swap k); time = 0 })) (text_table _ parent.text _)
      ∙ again_row b.table child (child_row parent) (λ row. record row { size = parent.size; place = Some (Swap k); time = 0 }) l)

  core_out : (k : ℕ) → (applied b (line.Fork s child (Swap k))).core ≡ b.core
  unfolding applied
  core_out k = text_core _ parent.text _

-- the child sits as its parent does, and shares its text
abbrev pub seated_child : Seats → ℕ → Seat → Seats
seated_child v child seat = record v { slots = set v.slots child (Some seat); texts = joined_users v.texts seat.text }

module _ (s : ℕ) (v : Seats) (seen : Seen) (child : ℕ) (i : InCall s false v seen) (l : child < 50) (h : 0 < child) (d : s ≢ child) where
  not_same : (child == s) ≡ false
  not_same = not_busy s child (λ e. d (sym e))

  -- the board with the texts as they are then
  abbrev shared : List (Option TextPlace) → Board
  shared texts = record seen.board { texts = texts }

  child_agrees : (place : Place) (texts : List (Option TextPlace)) → map users_of texts ≡ joined_users v.texts i.turn.seat.text
      → Agrees s (seated_child v child i.turn.seat) (with_child_row (shared texts) s child place)
  child_agrees place texts users = let o = own s s v seen.board i.agrees i.turn in
      subst (λ us. Agrees s (record v { slots = set v.slots child (Some i.turn.seat); texts = us }) (with_child_row (shared texts) s child place)) users
      (change_agrees s s child (record v { texts = map users_of texts }) (set v.slots child (Some i.turn.seat)) (shared texts) (with_child_row (shared texts) s child place).table (Some i.turn.seat)
      (born (row_at seen.board.table s) place) (λ f. refl) (texts_agree s v seen.board texts (ap length users ∙ joined_long v.texts i.turn.seat.text ∙ i.agrees.forty) i.agrees) l refl refl i.agrees.time i.agrees.ticks
      (record { used = refl; zombie = sym i.turn.alive; calling = λ f g. sym i.calls; text = o.text; entry = o.entry; place = λ f. refl; size = o.size; most = o.most }) (inl refl))

  inside : child < length seen.board.table.rows
  inside = rw i.agrees.rows l

  turn_in : (now : Board) → now.table.running ≡ seen.board.table.running → InTurn s (seated_child v child i.turn.seat) now
  turn_in now running = record {
    seat = i.turn.seat;
    at = get_or-set_other v.slots child s (Some i.turn.seat) None d ∙ i.turn.at;
    runs = running ∙ i.turn.runs;
    user = i.turn.user;
    small = i.turn.small;
    alive = i.turn.alive;
  }

  users_born : (place : Place) → users_on (applied seen.board (line.Fork s child place)) ≡ joined_users v.texts i.turn.seat.text
  unfolding applied
  users_born place =
      let b : Board = seen.board in
      at_users (cradle b s child inside) child (row_at b.table s).size place
      ∙ join_users (in_table b (λ t. with_row t child (child_row (row_at b.table s)))) (row_at b.table s).text
      ∙ ap2 (sym i.agrees.texts) (own s s v b i.agrees i.turn).text
    where
      ap2 : {us ws : List (Option ℕ)} {j k : Option ℕ} → us ≡ ws → j ≡ k → joined_users us j ≡ joined_users ws k
      ap2 e f = cc (e, f)

  fork_in : (place : Place) → InCall s false (seated_child v child i.turn.seat) (seen_after seen (line.Fork s child place))
  unfolding turn_in
  fork_in (Core c) =
      let b : Board = seen.board in
      let now : Board = applied b (line.Fork s child (Core c)) in
      let e = born_in b s child inside c in
      record {
        going = tt;
        agrees = same_board s (seated_child v child i.turn.seat) (with_child_row (shared now.texts) s child (Core c)) now e
            (record { core = core_in b s child inside c; users = refl }) (child_agrees (Core c) now.texts (users_born (Core c)));
        turn = turn_in now (ap (λ t. t.running) e);
        calls = i.calls;
      }
  fork_in (Swap k) =
      let b : Board = seen.board in
      let now : Board = applied b (line.Fork s child (Swap k)) in
      let e = born_out b s child inside k in
      let w : Seats = seated_child v child i.turn.seat in
      let a : Agrees s w (with_child_row (shared now.texts) s child (Swap k)) = child_agrees (Swap k) now.texts (users_born (Swap k)) in
      let told = runout_same (with_child_row (shared now.texts) s child (Swap k)).table _ (same_none _ a.sleeps) in
      let after : Board = record (shared now.texts) { table = runout_told (with_child_row b s child (Swap k)).table } in
      record {
        going = tt;
        agrees = same_board s w after now e (record { core = core_out b s child inside k; users = refl })
            (kept_agrees s w (with_child_row (shared now.texts) s child (Swap k)) after told (record { core = refl; users = refl }) a);
        turn = turn_in now (ap (λ t. t.running) e ∙ told.running);
        calls = i.calls;
      }

-- the lowest free slot is not the running one
free_other : (s : ℕ) (v : Seats) (b : Board) (child : ℕ) → InTurn s v b → is_none (seat_at v child) ≡ true → s ≢ child
free_other s v b child t e f = absurd (
    let g : is_none (seat_at v s) ≡ true = ap (λ r. is_none (seat_at v r)) f ∙ e in
    let h : is_none (seat_at v s) ≡ false = ap is_none t.at in cc (g, h)
    )

-- the rest is to be apt whatever place the child gets
pub fork_apt : {W : Type 0}
    → (Q : Seen → Type 0) (s : ℕ) (v : Seats) (seen : Seen) (child : ℕ) (before : W) (es : List (Effect W))
    → (i : InCall s false v seen) → free_seat v ≡ Some child → 1 ≤ i.turn.seat.size
    → ((now : Seen) → InCall s false (seated_child v child i.turn.seat) now → Apt Q now es)
    → Apt Q seen (effect.Fork s child before ∷ es)
unfolding Apt came FitsBoard
fork_apt Q s v seen child before es i f least rest = by (placed seen.board s (row_at seen.board.table s).size) refl
  where
    running : IsRunning seen.board s
    running = runs_in s v seen.board i.turn

    found : IsFound (λ r. is_none (seat_at v r)) 1 49 child
    found = found_in _ 1 49 child f

    its : Same (s == s) v.most i.turn.seat (shape_at seen.board.table s)
    its = own s s v seen.board i.agrees i.turn

    size : (row_at seen.board.table s).size ≡ i.turn.seat.size
    size = its.size i.turn.alive

    by : (o : Option Place) → placed seen.board s (row_at seen.board.table s).size ≡ o
        → AptCame seen (image_at before o (λ place. line.Fork s child place)) (λ now. Apt Q now es)
    by (Some place) e = (
      going_fits seen (line.Fork s child place) i.going
          (in_its_slot i.turn, (let l = found.below in omega (arith, l)), place_within seen.board s _ place i.agrees.core (omega (arith, least, size)) e)
          (running, sym (same_free s v seen.board i.agrees) ∙ f, e),
      rest (seen_after seen (line.Fork s child place))
          (fork_in s v seen child i (let l = found.below in omega (arith, l)) found.least (free_other s v seen.board child i.turn found.passes) place),
    )
    by None e = going_fits seen (line.Panic panic.Swap) i.going tt
        (inl ((s, running), none_placed seen.board s _ (let most = its.most in let limit = i.agrees.most in omega (arith, most, limit)) e))
