-- A pass of process 0 adds lines that fit, and the first one is its sleep alone.
use Rattle.std.proofs.Common.{◌≡◌, ◌∙◌, ◌≤◌, ℕ, zero, suc, [], ◌∷◌, ◌++◌, Option, Some, None, refl, sym, ap, subst, inl, inr, arith}
use Rattle.v6_base.specs.Trace.{Log, entries_of}
use Rattle.v6_base.specs.declared.entry.Chan.TheVariants.{RunOut}
use Rattle.v6_base.specs.declared.entry.PanicKind.TheVariants as panic
use Rattle.v6_base.specs.declared.entry.Entry.{Entry}
use Rattle.v6_base.specs.declared.entry.Entry.TheVariants as line
use Rattle.pick_rules.specs.Priority.{pswp}
use Rattle.pick_rules.specs.Table.{row_at}
use Rattle.pick_rules.specs.Board.{Board, blocks, swap_fit}
use Rattle.pick_rules.specs.Apply.{applied}
use Rattle.pick_rules.specs.Effects.{at_fit}
use Rattle.pick_rules.specs.Lawful.{Over, Seen, FitAll, seen_after}
use Rattle.pick_rules.specs.Logged.{Stop, Logged, nothing_logged, with_item, with_what_came}
use Rattle.pick_rules.specs.Swapper.{SwapMove, In, Out, Waits, candidate, move_for, swap_move}
use Rattle.pick_rules.proofs.Laws.{sleep_running}
use Rattle.log_laws.proofs.Fitting.{fit_item, seen_items, seen_append}
use Rattle.log_laws.proofs.Seats.{Seat, Seats, seat_at, Paused}
use Rattle.log_laws.proofs.Passes.{InPass, Moves, IsMoveInRange, move_within, in_moves, out_moves, no_room, pass_ends}
use Rattle.swap_sched.specs.Pass.{moved, moves_after, pass}
use Rattle.swap_sched.specs.inside.Does.{logged_move, next_logged}
use Rattle.swap_sched.proofs.PassLemmas.{joined, next_move, rests_asleep, rests_stopped, is_pass}

-- What so many moves have logged: lines that fit, and process 0 runs or sleeps, or a panic is the last of them.
module _ (v : Seats) (first : Seen) where
  abbrev pub after : Logged (Unit {0}) → Seen
  after l = seen_items first l.items

  pub record Passed (l : Logged (Unit {0})) : Type 0 where
    pub fit : FitAll first (entries_of l.items)
    pub board : (after l).board ≡ l.board
    pub goes : l.stop ≡ None → InPass v (after l)
    pub over : (stop : Stop (Unit {0})) → l.stop ≡ Some stop → (after l).stage ≡ Over

  module _ (l : Logged (Unit {0})) (p : Passed l) (i : InPass v (after l)) (r : (after l).board.table.running ≡ Some 0)
      (least : (q : ℕ) (seat : Seat) → seat_at v q ≡ Some seat → 1 ≤ seat.size) where
    abbrev b : Board
    b = (after l).board

    -- a move that fits
    moves_on : (e : Entry) → Moves v (after l) e → Passed (joined l (with_item {W = Unit {0}} (nothing_logged b) (Log e)))
    unfolding FitAll
    moves_on e m =
        let now : seen_items first (l.items ++ Log e ∷ []) ≡ seen_after (after l) e = seen_append first l.items (Log e ∷ []) in
        record {
          fit = fit_item first l.items (Log e) p.fit (m.fits, tt);
          board = ap (λ (x : Seen). x.board) now;
          goes = λ none. subst (InPass v) (sym now) m.next;
          over = λ stop x. absurd (cc x);
        }

    goes_out : (s : ℕ) → swap_move b ≡ Out s → (o : Option ℕ) → swap_fit b (blocks (row_at b.table s).size) ≡ o
        → Passed (joined l (with_what_came {W = Unit {0}} (nothing_logged b) (at_fit panic.Swap tt o (λ block. line.SwapOut s block))))
    unfolding FitAll
    goes_out s e (Some block) f = moves_on (line.SwapOut s block) (out_moves v (after l) i.paused r s block least e f)
    goes_out s e None f =
        let now : seen_items first (l.items ++ Log (line.Panic panic.Swap) ∷ []) ≡ seen_after (after l) (line.Panic panic.Swap) =
        seen_append first l.items (Log (line.Panic panic.Swap) ∷ []) in
        record {
          fit = fit_item first l.items (Log (line.Panic panic.Swap)) p.fit (no_room v (after l) i.paused r s e f, tt);
          board = ap (λ (x : Seen). x.board) now;
          goes = λ x. absurd (cc x);
          over = λ stop x. ap (λ (x : Seen). x.stage) now;
        }

    next_passes : Passed (joined l (next_logged b))
    next_passes = by (swap_move b) refl
      where
        in_range : (m : SwapMove) → swap_move b ≡ m → IsMoveInRange m
        in_range m e = subst IsMoveInRange e (move_within b i.paused.agrees.core)

        by : (m : SwapMove) → swap_move b ≡ m → Passed (joined l (logged_move b m))
        by (In s c) e = moves_on (line.SwapIn s c) (in_moves v (after l) i.paused r s c (in_range (In s c) e) e)
        by (Out s) e = goes_out s e (swap_fit b (blocks (row_at b.table s).size)) refl
        by (Waits chan) e = moves_on (line.Sleep 0 pswp chan) (pass_ends v (after l) chan i.paused r (in_range (Waits chan) e) e)

  module _ (least : (q : ℕ) (seat : Seat) → seat_at v q ≡ Some seat → 1 ≤ seat.size) where
    one_passes : (l : Logged (Unit {0})) → Passed l → Passed (moved l)
    one_passes l p = by l.stop refl
      where
        goes : l.stop ≡ None → InPass v (after l) → Passed (moved l)
        goes e i = elim i.zero [
          | inl none ↦ subst Passed (sym (rests_asleep l (ap (λ (c : Board). c.table.running) (sym p.board) ∙ none))) p
          | inr runs ↦
              subst Passed (sym (next_move l 0 e (ap (λ (c : Board). c.table.running) (sym p.board) ∙ runs)))
              (subst (λ c. Passed (joined l (next_logged c))) p.board (next_passes l p i runs least))
        ]

        by : (o : Option (Stop (Unit {0}))) → l.stop ≡ o → Passed (moved l)
        by None e = goes e (p.goes e)
        by (Some stop) e = subst Passed (sym (rests_stopped l stop e)) p

    moves_pass : Paused v first → first.board.table.running ≡ Some 0 → (n : ℕ) → Passed (moves_after first.board n)
    unfolding FitAll
    moves_pass p r zero = record { fit = tt; board = refl; goes = λ e. record { paused = p; zero = inr r }; over = λ stop e. absurd (cc e) }
    moves_pass p r (suc n) = one_passes (moves_after first.board n) (moves_pass p r n)

    pub pass_passes : Paused v first → first.board.table.running ≡ Some 0 → Passed (pass first.board)
    unfolding pass
    pass_passes p r = moves_pass p r 150

-- Where nobody is out of core a pass is the sleep of process 0 alone.
abbrev pub only_sleeps : Board → Logged (Unit {0})
only_sleeps b = record { items = Log (line.Sleep 0 pswp RunOut) ∷ []; board = applied b (line.Sleep 0 pswp RunOut); stop = None }

sleeps_then : (b : Board) → (applied b (line.Sleep 0 pswp RunOut)).table.running ≡ None
unfolding applied
sleeps_then b = sleep_running b.table 0 pswp RunOut

pub pass_sleeps : (b : Board) → b.table.running ≡ Some 0 → candidate b.table ≡ None → pass b ≡ only_sleeps b
unfolding swap_move
pass_sleeps b r none =
    sym (is_pass b 1 (omega arith) (ap moved one ∙ rests_asleep (only_sleeps b) (sleeps_then b) ∙ sym one)) ∙ one
  where
    one : moves_after b 1 ≡ only_sleeps b
    one = next_move (nothing_logged b) 0 refl r ∙ ap (λ m. joined (nothing_logged b) (logged_move b m)) (ap (move_for b) none)
