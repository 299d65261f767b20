-- The lines of images: a size, and an exec, whose new image takes the place of the old one.
use Rattle.std.proofs.Common.{◌≡◌, ◌≢◌, ◌∙◌, ◌≤◌, ◌<◌, ◌==◌, ℕ, nat_le, Bool, true, false, cond, List, ◌∷◌, Option, Some, None, is_none, is_some, get_or, set, set-set, length, length-set, get_or-set_same, refl, sym, ap, subst, inl, inr, arith}
use Rattle.std.proofs.lemmas.Bool.{cases_lt, leb-true, leb-false}
use Rattle.std.proofs.lemmas.List.{get_or_past}
use Rattle.v6_base.specs.Trace.{Log}
use Rattle.v6_base.specs.declared.entry.Place.{Place}
use Rattle.v6_base.specs.declared.entry.Place.TheVariants.{Core, Swap}
use Rattle.v6_base.specs.declared.entry.PanicKind.{PanicKind}
use Rattle.v6_base.specs.declared.entry.PanicKind.TheVariants as panic
use Rattle.v6_base.specs.declared.entry.Entry.{Entry}
use Rattle.v6_base.specs.declared.entry.Entry.TheVariants as line
use Rattle.pick_rules.specs.declared.row.TableRow.{TableRow}
use Rattle.pick_rules.specs.declared.table.Table.{Table}
use Rattle.pick_rules.specs.Table.{empty_row, row_at, with_row}
use Rattle.pick_rules.specs.Sleepers.{runout_told}
use Rattle.pick_rules.specs.Board.{Board, limit, blocks, text_at, free_text, placed, swap_fit}
use Rattle.pick_rules.specs.Apply.{change_row, applied}
use Rattle.pick_rules.specs.Effects.{Effect, Show, Lets, image_at, new_text_at, came}
use Rattle.pick_rules.specs.Effects as effect
use Rattle.pick_rules.specs.Ranges.{IsClicks, IsPlace}
use Rattle.pick_rules.specs.Fits.{FitsBoard, IsRunning, IsBare, IsSize, PanicsInCall}
use Rattle.pick_rules.specs.Lawful.{Bared, Seen, Fits, FitsStage, stage_after, seen_after}
use Rattle.map_fit.proofs.LessRoom.{no_more}
use Rattle.pick_rules.proofs.Found.{IsFound, found_in}
use Rattle.pick_rules.proofs.Within.{block_within, place_within, none_placed}
use Rattle.pick_rules.proofs.Shapes.{shape, shape_at, Sleeps, same_none, runout_same}
use Rattle.pick_rules.proofs.Placing.{again_row, row_in, row_out, core_table, core_core, bare_table, bare_core, moved_in, moved_out, moved_core}
use Rattle.log_laws.proofs.Fitting.{going_fits, Apt, AptCame}
use Rattle.log_laws.proofs.Users.{users_of, users_on, users_at, joined_users, joined_long, without_users, at_users, moved_users, text_users, share_users, free_users, free_is}
use Rattle.log_laws.proofs.Seats.{Seat, Seats, Same, Agrees, InTurn, InCall, runs_in, in_its_slot, own, same_board, kept_agrees, texts_agree, change_agrees}
use Rattle.log_laws.proofs.Lines.{same_turn}
use Rattle.log_laws.proofs.Deaths.{with_own, own_turn}

-- the table with an image of so many clicks at a place
abbrev placed_table : Table → ℕ → TableRow → ℕ → Place → Table
placed_table t s row clicks (Core c) = with_row t s (row_in row clicks c)
placed_table t s row clicks (Swap block) = runout_told (with_row t s (row_out row clicks block))

-- A slot is to have an image: with each row of its own that has a place the board agrees.
pub record Houses (s : ℕ) (v : Seats) (b : Board) (row : TableRow) : Type 0 where
  pub seat : Seat
  pub agrees : (next : Seat) (new : TableRow) → Same (s == s) v.most next (shape new) → Sleeps new
      → Agrees s (with_own s v next) (record b { table = with_row b.table s new })
  pub same : (place : Place) (clicks : ℕ) → clicks ≤ v.most
      → Same (s == s) v.most (record seat { size = clicks }) (shape (record row { size = clicks; place = Some place }))
  pub sleeps : Sleeps row

clicks_range : (b : Board) (clicks : ℕ) → IsSize b clicks → IsClicks clicks
clicks_range b clicks z = let l = z.most in omega (arith, l)

sized_within : (b : Board) (s clicks : ℕ) (place : Place) → b.core ≤ 3968 → IsSize b clicks → placed b s clicks ≡ Some place → IsPlace place
sized_within b s clicks place core z e = place_within b s clicks place core (let l = z.least in omega (arith, l)) e

-- a seat with an image of so many clicks
abbrev pub sized : Seat → ℕ → Seat
sized seat clicks = record seat { size = clicks }

module _ (s : ℕ) (v : Seats) (b : Board) (row : TableRow) (h : Houses s v b row) (clicks : ℕ) (l : clicks ≤ v.most) where
  gone_out : (block : ℕ) → Agrees s (with_own s v (sized h.seat clicks)) (record b { table = with_row b.table s (row_out row clicks block) })
  gone_out block =
      let o = h.same (Swap block) clicks l in
      h.agrees (sized h.seat clicks) (row_out row clicks block)
      (record { used = o.used; zombie = o.zombie; calling = o.calling; text = o.text; entry = o.entry; place = o.place; size = o.size; most = o.most }) h.sleeps

  housed : (place : Place) → Agrees s (with_own s v (sized h.seat clicks)) (record b { table = placed_table b.table s row clicks place })
  housed (Core c) = h.agrees (sized h.seat clicks) (row_in row clicks c) (h.same (Core c) clicks l) h.sleeps
  housed (Swap block) =
      kept_agrees s (with_own s v (sized h.seat clicks)) (record b { table = with_row b.table s (row_out row clicks block) }) _
      (runout_same (with_row b.table s (row_out row clicks block)) _ (same_none _ (gone_out block).sleeps)) (record { core = refl; users = refl }) (gone_out block)

  placed_running : (place : Place) → (placed_table b.table s row clicks place).running ≡ b.table.running
  placed_running (Core c) = refl
  placed_running (Swap block) =
      (runout_same (with_row b.table s (row_out row clicks block)) _ (same_none _ (gone_out block).sleeps)).running

-- a call that goes on with an image of its own
module _ (s : ℕ) (calling : Bool) (v : Seats) (seen : Seen) (i : InCall s calling v seen) where
  running : IsRunning seen.board s
  running = runs_in s v seen.board i.turn

  houses : Houses s v seen.board (row_at seen.board.table s)
  houses = record {
    seat = i.turn.seat;
    agrees = λ next new k sleeps. change_agrees s s s v (set v.slots s (Some next)) seen.board (with_row seen.board.table s new) (Some next) new (λ f. refl)
        i.agrees i.turn.small refl refl i.agrees.time i.agrees.ticks k sleeps;
    same = λ place clicks l. let o = own s s v seen.board i.agrees i.turn in
        record { used = o.used; zombie = o.zombie; calling = o.calling; text = o.text; entry = o.entry; place = λ f. refl; size = λ f. refl; most = l };
    sleeps = i.agrees.sleeps s;
  }

  -- the size
  keep_in : (clicks : ℕ) → clicks ≤ v.most
      → InCall s calling (with_own s v (sized i.turn.seat clicks)) (seen_after seen (line.SizeKeep s clicks))
  unfolding applied own_turn
  keep_in clicks l =
      let row : TableRow = record (row_at seen.board.table s) { size = clicks } in
      let now : Board = record seen.board { table = with_row seen.board.table s row } in
      let o = own s s v seen.board i.agrees i.turn in
      record {
        going = tt;
        agrees = change_agrees s s s v (set v.slots s (Some (sized i.turn.seat clicks))) seen.board now.table (Some (sized i.turn.seat clicks)) row (λ f. refl)
            i.agrees i.turn.small refl refl i.agrees.time i.agrees.ticks
            (record { used = o.used; zombie = o.zombie; calling = o.calling; text = o.text; entry = o.entry; place = o.place; size = λ f. refl; most = l }) (i.agrees.sleeps s);
        turn = own_turn s v seen.board now (sized i.turn.seat clicks) i.agrees.seats i.turn i.turn.alive refl;
        calls = i.calls;
      }

  sized_table : (clicks : ℕ) (place : Place)
      → (applied seen.board (line.Size s clicks place)).table ≡ placed_table seen.board.table s (row_at seen.board.table s) clicks place
  unfolding applied
  sized_table clicks (Core c) = moved_in seen.board s clicks c (rw i.agrees.rows i.turn.small)
  sized_table clicks (Swap block) = moved_out seen.board s clicks block (rw i.agrees.rows i.turn.small)

  sized_core : (clicks : ℕ) (place : Place) → (applied seen.board (line.Size s clicks place)).core ≡ seen.board.core
  unfolding applied
  sized_core clicks place = moved_core seen.board s clicks place

  sized_users : (clicks : ℕ) (place : Place) → users_on (applied seen.board (line.Size s clicks place)) ≡ users_on seen.board
  unfolding applied
  sized_users clicks place = moved_users seen.board s clicks place

  size_in : (clicks : ℕ) (place : Place) → clicks ≤ v.most
      → InCall s calling (with_own s v (sized i.turn.seat clicks)) (seen_after seen (line.Size s clicks place))
  unfolding own_turn houses
  size_in clicks place l =
      let row : TableRow = row_at seen.board.table s in
      let newer : Board = record seen.board { table = placed_table seen.board.table s row clicks place } in
      let now : Board = applied seen.board (line.Size s clicks place) in
      let e : now.table ≡ newer.table = sized_table clicks place in
      record {
        going = tt;
        agrees = same_board s (with_own s v (sized i.turn.seat clicks)) newer now e (record { core = sized_core clicks place; users = sized_users clicks place }) (housed s v seen.board row houses clicks l place);
        turn = own_turn s v seen.board now (sized i.turn.seat clicks) i.agrees.seats i.turn i.turn.alive
            (ap (λ t. t.running) e ∙ placed_running s v seen.board row houses clicks l place);
        calls = i.calls;
      }

  -- the rest is to be apt wherever the image of another size stands
  pub size_apt : {W : Type 0} → (Q : Seen → Type 0) (clicks : ℕ) (before : W) (es : List (Effect W))
      → IsSize seen.board clicks
      → ((now : Seen) → InCall s calling (with_own s v (sized i.turn.seat clicks)) now → Apt Q now es)
      → Apt Q seen (effect.Size s clicks before ∷ es)
  unfolding Apt came FitsBoard
  size_apt Q clicks before es z rest = by (nat_le clicks (row_at seen.board.table s).size) refl
    where
      fits : clicks ≤ v.most
      fits = let most = z.most in let limit = i.agrees.most in omega (arith, most, limit)

      placing : nat_le clicks (row_at seen.board.table s).size ≡ false → (o : Option Place) → placed seen.board s clicks ≡ o
          → AptCame seen (image_at before o (λ place. line.Size s clicks place)) (λ now. Apt Q now es)
      placing g (Some place) e = (
        going_fits seen (line.Size s clicks place) i.going
            (in_its_slot i.turn, clicks_range seen.board clicks z, sized_within seen.board s clicks place i.agrees.core z e) (running, z, leb-false _ _ g, e),
        rest (seen_after seen (line.Size s clicks place)) (size_in clicks place fits),
      )
      placing g None e = going_fits seen (line.Panic panic.Swap) i.going tt (inl ((s, running), none_placed seen.board s clicks z.most e))

      by : (x : Bool) → nat_le clicks (row_at seen.board.table s).size ≡ x
          → AptCame seen (cond x (Lets (Log (line.SizeKeep s clicks))) (image_at before (placed seen.board s clicks) (λ place. line.Size s clicks place))) (λ now. Apt Q now es)
      by true e = (
        going_fits seen (line.SizeKeep s clicks) i.going (in_its_slot i.turn, clicks_range seen.board clicks z) (running, z, leb-true _ _ e),
        rest (seen_after seen (line.SizeKeep s clicks)) (keep_in clicks fits),
      )
      by false e = placing e (placed seen.board s clicks) refl

-- in the middle of an exec, which has given up the old image and has no new one yet
pub record InExec (s : ℕ) (v : Seats) (seen : Seen) : Type 0 where
  pub stage : seen.stage ≡ Bared s
  pub turn : InTurn s v seen.board
  pub calls : turn.seat.calling ≡ false
  pub place : (row_at seen.board.table s).place ≡ None
  pub rows : length seen.board.table.rows ≡ 50
  pub seats : length v.slots ≡ 50
  pub texts : v.texts ≡ users_on seen.board
  pub forty : length v.texts ≡ 40
  pub core : seen.board.core ≤ 3968
  pub most : v.most ≡ limit seen.board.core
  pub houses : Houses s v seen.board (row_at seen.board.table s)
  pub seat : houses.seat ≡ turn.seat

-- the old image is given up
module _ (s : ℕ) (v : Seats) (seen : Seen) (i : InCall s false v seen) (bare : i.turn.seat.text ≡ None) where
  pub bare_fits : Fits seen (line.Bare s)
  unfolding FitsBoard
  bare_fits = going_fits seen (line.Bare s) i.going (in_its_slot i.turn) (running s false v seen i, is_placed, o.text ∙ bare)
    where
      o : Same (s == s) v.most i.turn.seat (shape_at seen.board.table s)
      o = own s s v seen.board i.agrees i.turn

      is_placed : (row_at seen.board.table s).place ≢ None
      is_placed e = absurd (let f : is_some (row_at seen.board.table s).place ≡ true = o.place i.turn.alive in let g : is_some (row_at seen.board.table s).place ≡ false = rw e refl in cc (f, g))

  pub bare_in : InExec s v (seen_after seen (line.Bare s))
  unfolding applied same_turn houses
  bare_in =
      record {
        stage = refl;
        turn = same_turn s v seen.board now (ap (λ t. t.running) table) i.turn;
        calls = i.calls;
        place = ap (λ row. row.place) row_is;
        rows = ap (λ t. length t.rows) table ∙ length-set seen.board.table.rows s bared ∙ i.agrees.rows;
        seats = i.agrees.seats;
        texts = i.agrees.texts ∙ sym users;
        forty = i.agrees.forty;
        core = rw core i.agrees.core;
        most = i.agrees.most ∙ ap limit (sym core);
        seat = refl;
        houses = record {
          seat = i.turn.seat;
          agrees = λ next new k sleeps. same_board s (with_own s v next) (record seen.board { table = with_row seen.board.table s new }) (record now { table = with_row now.table s new })
              (ap (λ t. with_row t s new) table ∙ ap (λ rows. record seen.board.table { rows = rows }) (set-set seen.board.table.rows s bared new)) (record { core = core; users = users })
              ((houses s false v seen i).agrees next new k sleeps);
          same = λ place clicks l. let o = own s s v seen.board i.agrees i.turn in
              rw row_is (record { used = o.used; zombie = o.zombie; calling = o.calling; text = o.text; entry = o.entry; place = λ f. refl; size = λ f. refl; most = l });
          sleeps = rw row_is (i.agrees.sleeps s);
        };
      }
    where
      now : Board
      now = applied seen.board (line.Bare s)

      small : s < length seen.board.table.rows
      small = rw i.agrees.rows i.turn.small

      bared : TableRow
      bared = record (row_at seen.board.table s) { place = None; size = 0 }

      table : now.table ≡ with_row seen.board.table s bared
      table = ap (λ t. change_row t s (λ row. record row { size = 0 })) (bare_table seen.board s)
          ∙ again_row seen.board.table s (record (row_at seen.board.table s) { place = None }) (λ row. record row { size = 0 }) small

      core : now.core ≡ seen.board.core
      core = bare_core seen.board s

      users : users_on now ≡ users_on seen.board
      users = without_users seen.board s

      row_is : row_at now.table s ≡ bared
      row_is = ap (λ t. row_at t s) table ∙ get_or-set_same seen.board.table.rows s bared empty_row small

-- the new image
module _ (s : ℕ) (v : Seats) (seen : Seen) (i : InExec s v seen) where
  exec_runs : IsRunning seen.board s
  exec_runs = runs_in s v seen.board i.turn

  bared_fits : (e : Entry) → FitsStage (Bared s) seen.board e → FitsStage seen.stage seen.board e
  bared_fits e f = subst (λ stage. FitsStage stage seen.board e) (sym i.stage) f

  image_table : (clicks : ℕ) (place : Place)
      → (applied seen.board (line.Image s clicks place)).table ≡ placed_table seen.board.table s (row_at seen.board.table s) clicks place
  unfolding applied
  image_table clicks (Core c) = core_table seen.board s clicks c
  image_table clicks (Swap block) = refl

  image_core : (clicks : ℕ) (place : Place) → (applied seen.board (line.Image s clicks place)).core ≡ seen.board.core
  unfolding applied
  image_core clicks (Core c) = core_core seen.board s clicks c
  image_core clicks (Swap block) = refl

  image_users : (clicks : ℕ) (place : Place) → users_on (applied seen.board (line.Image s clicks place)) ≡ users_on seen.board
  unfolding applied
  image_users clicks place = at_users seen.board s clicks place

  image_in : (clicks : ℕ) (place : Place) → clicks ≤ v.most
      → InCall s false (with_own s v (sized i.turn.seat clicks)) (seen_after seen (line.Image s clicks place))
  unfolding own_turn
  image_in clicks place l =
      let row : TableRow = row_at seen.board.table s in
      let newer : Board = record seen.board { table = placed_table seen.board.table s row clicks place } in
      let now : Board = applied seen.board (line.Image s clicks place) in
      let e : now.table ≡ newer.table = image_table clicks place in
      record {
        going = tt;
        agrees = subst (λ seat. Agrees s (with_own s v (sized seat clicks)) now) i.seat
            (same_board s (with_own s v (sized i.houses.seat clicks)) newer now e (record { core = image_core clicks place; users = image_users clicks place }) (housed s v seen.board row i.houses clicks l place));
        turn = own_turn s v seen.board now (sized i.turn.seat clicks) i.seats i.turn i.turn.alive
            (ap (λ t. t.running) e ∙ placed_running s v seen.board row i.houses clicks l place);
        calls = i.calls;
      }

  pub image_apt : {W : Type 0} → (Q : Seen → Type 0) (clicks : ℕ) (before : W) (es : List (Effect W))
      → IsSize seen.board clicks
      → ((now : Seen) → InCall s false (with_own s v (sized i.turn.seat clicks)) now → Apt Q now es)
      → Apt Q seen (effect.Image s clicks before ∷ es)
  unfolding Apt came FitsBoard
  image_apt Q clicks before es z rest = by (placed seen.board s clicks) refl
    where
      by : (o : Option Place) → placed seen.board s clicks ≡ o
          → AptCame seen (image_at before o (λ place. line.Image s clicks place)) (λ now. Apt Q now es)
      by (Some place) e = (
        (
          (in_its_slot i.turn, clicks_range seen.board clicks z, sized_within seen.board s clicks place i.core z e),
          bared_fits (line.Image s clicks place) (refl, (exec_runs, i.place, z, e)),
        ),
        rest (seen_after seen (line.Image s clicks place)) (image_in clicks place (let most = z.most in let limit = i.most in omega (arith, most, limit))),
      )
      by None e = (tt, bared_fits (line.Panic panic.Swap) (tt, inl ((s, exec_runs), none_placed seen.board s clicks z.most e)))

-- The process takes a text, which it makes or shares.
abbrev pub with_text_of : (s : ℕ) (v : Seats) (seat : Seat) → ℕ → List (Option ℕ) → Seats
with_text_of s v seat k users = record v { slots = set v.slots s (Some (record seat { text = Some k })); texts = users }

module _ (s : ℕ) (v : Seats) (seen : Seen) (i : InExec s v seen) (k : ℕ) (low : k < 40) where
  abbrev texted : TableRow
  texted = record (row_at seen.board.table s) { text = Some k }

  -- a line after which the row has the text
  texted_in : (e : Entry) (users : List (Option ℕ)) → stage_after (Bared s) e ≡ Bared s
      → (applied seen.board e).table ≡ with_row seen.board.table s texted → (applied seen.board e).core ≡ seen.board.core
      → users_on (applied seen.board e) ≡ users → length users ≡ 40
      → InExec s (with_text_of s v i.turn.seat k users) (seen_after seen e)
  texted_in e users stage table core same forty = record {
    stage = ap (λ x. stage_after x e) i.stage ∙ stage;
    turn = record {
      seat = seat;
      at = get_or-set_same v.slots s (Some seat) None (rw i.seats i.turn.small);
      runs = ap (λ t. t.running) table ∙ i.turn.runs;
      user = i.turn.user;
      small = i.turn.small;
      alive = i.turn.alive;
    };
    calls = i.calls;
    place = ap (λ row. row.place) row_is ∙ i.place;
    rows = ap (λ t. length t.rows) table ∙ length-set seen.board.table.rows s texted ∙ i.rows;
    seats = length-set v.slots s (Some seat) ∙ i.seats;
    texts = sym same;
    forty = forty;
    core = rw core i.core;
    most = i.most ∙ ap limit (sym core);
    houses = record {
      seat = record i.houses.seat { text = Some k };
      agrees = λ next new k2 sleeps.
          subst (λ us. Agrees s (record v { slots = set (set v.slots s (Some seat)) s (Some next); texts = us }) (record now { table = with_row now.table s new })) same
          (subst (λ slots. Agrees s (record v { slots = slots; texts = users_on now }) (record now { table = with_row now.table s new })) (sym (set-set v.slots s (Some seat) (Some next)))
          (same_board s (record v { slots = set v.slots s (Some next); texts = users_on now }) (record seen.board { table = with_row seen.board.table s new; texts = now.texts }) (record now { table = with_row now.table s new })
          (ap (λ t. with_row t s new) table ∙ ap (λ rows. record seen.board.table { rows = rows }) (set-set seen.board.table.rows s texted new)) (record { core = core; users = refl })
          (texts_agree s (with_own s v next) (record seen.board { table = with_row seen.board.table s new }) now.texts (ap length same ∙ forty) (i.houses.agrees next new k2 sleeps))));
      same = λ place clicks l. (let o = i.houses.same place clicks l in
          rw row_is (record { used = o.used; zombie = o.zombie; calling = o.calling; text = refl; entry = λ j f. subst (λ n. n < 40) (some_is k j f) low; place = o.place; size = o.size; most = o.most }));
      sleeps = rw row_is i.houses.sleeps;
    };
    seat = ap (λ (x : Seat). record x { text = Some k }) i.seat;
  }
    where
      now : Board
      now = applied seen.board e

      seat : Seat
      seat = record i.turn.seat { text = Some k }

      row_is : row_at now.table s ≡ texted
      row_is = ap (λ t. row_at t s) table ∙ get_or-set_same seen.board.table.rows s texted empty_row (rw i.rows i.turn.small)

      some_is : (j n : ℕ) → Some j ≡ Some n → j ≡ n
      some_is j n f = cc f

  share_in : InExec s (with_text_of s v i.turn.seat k (joined_users v.texts (Some k))) (seen_after seen (line.Share s k))
  unfolding applied
  share_in = texted_in (line.Share s k) (joined_users v.texts (Some k)) refl refl refl
      (share_users seen.board s k ∙ ap (λ us. joined_users us (Some k)) (sym i.texts)) (joined_long v.texts (Some k) ∙ i.forty)

  text_in : (clicks block : ℕ) → InExec s (with_text_of s v i.turn.seat k (set v.texts k (Some 1))) (seen_after seen (line.Text s k clicks block))
  unfolding applied
  text_in clicks block = texted_in (line.Text s k clicks block) (set v.texts k (Some 1)) refl refl refl
      (text_users seen.board s k clicks block ∙ ap (λ us. set us k (Some 1)) (sym i.texts)) (length-set v.texts k (Some 1) ∙ i.forty)

module _ (s : ℕ) (v : Seats) (seen : Seen) (i : InExec s v seen) (bare : i.turn.seat.text ≡ None) where
  its_text : (row_at seen.board.table s).text ≡ None
  its_text = (i.houses.same (Core 1) 0 (omega arith)).text ∙ ap (λ (x : Seat). x.text) i.seat ∙ bare

  is_bare : IsBare seen.board s
  is_bare = record { runs = exec_runs s v seen i; place = i.place; text = its_text }

  -- a text that is there is shared
  pub share_apt : {W : Type 0} → (Q : Seen → Type 0) (k n : ℕ) (es : List (Effect W)) → get_or v.texts k None ≡ Some n
      → ((now : Seen) → InExec s (with_text_of s v i.turn.seat k (joined_users v.texts (Some k))) now → Apt Q now es)
      → Apt Q seen (Show (Log (line.Share s k)) ∷ es)
  unfolding Apt came FitsBoard
  share_apt Q k n es there rest = (
    ((in_its_slot i.turn, omega (arith, low)), bared_fits s v seen i (line.Share s k) (refl, (is_bare, used))),
    rest (seen_after seen (line.Share s k)) (share_in s v seen i k low),
  )
    where
      low : k < 40
      low = elim (cases_lt k (length v.texts)) [
        | inl l ↦ subst (λ m. k < m) i.forty l
        | inr past ↦ absurd (let none : get_or v.texts k None ≡ None = get_or_past v.texts k None past in cc (none, there))
      ]

      users : users_of (text_at seen.board k) ≡ Some n
      users = sym (users_at seen.board k) ∙ ap (λ us. get_or us k None) (sym i.texts) ∙ there

      used : text_at seen.board k ≢ None
      used e = absurd (let f : users_of (text_at seen.board k) ≡ None = ap users_of e in cc (f, users))

  -- or one is made, in the lowest entry that is free, where the swap area has room
  pub text_apt : {W : Type 0} → (Q : Seen → Type 0) (clicks : ℕ) (before : W) (es : List (Effect W)) → 1 ≤ clicks → clicks ≤ limit seen.board.core
      → ((now : Seen) (k : ℕ) → free_users v.texts ≡ Some k → InExec s (with_text_of s v i.turn.seat k (set v.texts k (Some 1))) now → Apt Q now es)
      → Apt Q seen (effect.Text s clicks before ∷ es)
  unfolding Apt came FitsBoard
  text_apt Q clicks before es some most rest = by (free_text seen.board) (swap_fit seen.board (blocks clicks)) refl refl
    where
      free_same : free_users v.texts ≡ free_text seen.board
      free_same = ap free_users i.texts ∙ free_is seen.board

      panics : (kind : PanicKind) → PanicsInCall seen.board kind → Fits seen (line.Panic kind)
      panics kind e = (tt, bared_fits s v seen i (line.Panic kind) (tt, inl ((s, exec_runs s v seen i), e)))

      by : (o block : Option ℕ) → free_text seen.board ≡ o → swap_fit seen.board (blocks clicks) ≡ block
          → AptCame seen (new_text_at before o block (λ k block. line.Text s k clicks block)) (λ now. Apt Q now es)
      by None block e f = panics panic.Text e
      by (Some k) None e f = panics panic.Swap (no_more _ 4000 4871 (blocks clicks) (blocks (limit seen.board.core)) (omega (arith, most)) f)
      by (Some k) (Some block) e f =
          let found : IsFound (λ k. is_none (text_at seen.board k)) 0 40 k = found_in _ 0 40 k e in
          let below = found.below in
          let low : k < 40 = omega (arith, below) in
          let core = i.core in (
            (
              (in_its_slot i.turn, omega (arith, low), omega (arith, most, core), block_within seen.board (blocks clicks) block (omega (arith, some)) f),
              bared_fits s v seen i (line.Text s k clicks block) (refl, (is_bare, e, some, most, f)),
            ),
            rest (seen_after seen (line.Text s k clicks block)) k (free_same ∙ e) (text_in s v seen i k low clicks block),
          )
