-- Each line of a pass fits the board that the lines before it make.
use Rattle.std.proofs.Common.{◌≡◌, ◌∙◌, ℕ, zero, suc, List, [], ◌∷◌, ◌++◌, fold, length, Option, Some, None, refl, sym, ap, subst, inl, inr, ◌⊎◌}
use Rattle.std.proofs.lemmas.List.Sums.{fold-append}
use Rattle.v6_base.specs.Trace.{Item, Byte, Log, entries_of}
use Rattle.v6_base.specs.declared.entry.PanicKind.TheVariants as panic
use Rattle.v6_base.specs.declared.entry.Entry.{Entry}
use Rattle.v6_base.specs.declared.entry.Entry.TheVariants as line
use Rattle.pick_rules.specs.Priority.{pswp}
use Rattle.pick_rules.specs.Table.{row_at}
use Rattle.pick_rules.specs.declared.table.Table.{Table}
use Rattle.pick_rules.specs.Board.{Board, blocks, swap_fit}
use Rattle.pick_rules.specs.Apply.{applied}
use Rattle.pick_rules.specs.Effects.{at_fit}
use Rattle.pick_rules.specs.Fits.{FitsBoard}
use Rattle.pick_rules.specs.Logged.{Logged, nothing_logged, with_what_came}
use Rattle.pick_rules.specs.Swapper.{SwapMove, In, Out, Waits, swap_move}
use Rattle.image_keep.specs.Kept.{Kept}
use Rattle.swap_sched.specs.Match.{Matches, board_of}
use Rattle.swap_sched.specs.Pass.{moved, moves_after, pass}
use Rattle.swap_sched.specs.Lines.{FitEach}
use Rattle.swap_sched.specs.inside.Does.{logged_move, next_logged}
use Rattle.swap_sched.proofs.PassLemmas.{joined, next_move}
use Rattle.swap_sched.proofs.Ending.{IsOver, Going, over_rests, over_or_going}

-- one line more
entries_more : (xs : List Item) (e : Entry) → entries_of (xs ++ Log e ∷ []) ≡ entries_of xs ++ e ∷ []
entries_more [] e = refl
entries_more (Byte l byte ∷ xs) e = entries_more xs e
entries_more (Log f ∷ xs) e = ap (λ l. f ∷ l) (entries_more xs e)

fit_more : (b : Board) (xs : List Entry) (e : Entry) → FitEach b xs → FitsBoard (fold applied b xs) e → FitEach b (xs ++ e ∷ [])
unfolding FitEach
fit_more b [] e f g = (g, tt)
fit_more b (x ∷ xs) e f g = (f.0, fit_more (applied b x) xs e f.1 g)

-- what a move logs is one line, which fits
record OneLine (b : Board) (m : Logged (Unit {0})) : Type 0 where
  pub entry : Entry
  pub items : m.items ≡ Log entry ∷ []
  pub fits : FitsBoard b entry
  pub board : m.stop ≡ None → m.board ≡ applied b entry

next_line : (b : Board) → b.table.running ≡ Some 0 → OneLine b (next_logged b)
unfolding FitsBoard
next_line b r = by (swap_move b) refl
  where
    out : (s : ℕ) → swap_move b ≡ Out s → (o : Option ℕ) → swap_fit b (blocks (row_at b.table s).size) ≡ o
        → OneLine b (with_what_came {W = Unit {0}} (nothing_logged b) (at_fit panic.Swap tt o (λ block. line.SwapOut s block)))
    out s e (Some block) f = record { entry = line.SwapOut s block; items = refl; fits = (r, e, f); board = λ z. refl }
    out s e None f = record {
      entry = line.Panic panic.Swap;
      items = refl;
      fits = inr (refl, record { runs = r; s = s; out = e; full = f });
      board = λ z. absurd (cc z);
    }

    by : (m : SwapMove) → swap_move b ≡ m → OneLine b (logged_move b m)
    by (In s c) e = record { entry = line.SwapIn s c; items = refl; fits = (r, e); board = λ z. refl }
    by (Out s) e = out s e (swap_fit b (blocks (row_at b.table s).size)) refl
    by (Waits w) e = record { entry = line.Sleep 0 pswp w; items = refl; fits = inr (r, refl, refl, e); board = λ z. refl }

record FitsSoFar (b : Board) (l : Logged (Unit {0})) : Type 0 where
  pub fit : FitEach b (entries_of l.items)
  pub board : l.stop ≡ None → fold applied b (entries_of l.items) ≡ l.board

goes_further : (b : Board) (l : Logged (Unit {0})) → FitsSoFar b l → l.stop ≡ None → l.board.table.running ≡ Some 0
    → FitsSoFar b (joined l (next_logged l.board))
goes_further b l f e r = record {
  fit = subst (FitEach b) (sym entries)
      (fit_more b (entries_of l.items) x.entry f.fit (subst (λ c. FitsBoard c x.entry) (sym (f.board e)) x.fits));
  board = λ z. ap (fold applied b) entries ∙ fold-append applied b (entries_of l.items) (x.entry ∷ [])
      ∙ ap (λ c. applied c x.entry) (f.board e) ∙ sym (x.board z);
}
  where
    x : OneLine l.board (next_logged l.board)
    x = next_line l.board r

    entries : entries_of (l.items ++ (next_logged l.board).items) ≡ entries_of l.items ++ x.entry ∷ []
    entries = ap (λ items. entries_of (l.items ++ items)) x.items ∙ entries_more l.items x.entry

fits_so_far : (b : Board) → length b.table.rows ≡ 50 → (row_at b.table 0).place ≡ None → b.table.running ≡ Some 0 → (n : ℕ)
    → FitsSoFar b (moves_after b n)
unfolding FitEach
fits_so_far b l z r zero = record { fit = tt; board = λ e. refl }
fits_so_far b l z r (suc n) = by (over_or_going b l z r n) (fits_so_far b l z r n)
  where
    by : IsOver (moves_after b n) ⊎ Going (moves_after b n) n → FitsSoFar b (moves_after b n) → FitsSoFar b (moved (moves_after b n))
    by (inl h) f = subst (FitsSoFar b) (sym (over_rests (moves_after b n) h)) f
    by (inr g) f = subst (FitsSoFar b) (sym (next_move (moves_after b n) 0 g.stop g.runs)) (goes_further b (moves_after b n) f g.stop g.runs)

pub pass_fits : (t : Table) (k : Kept) → Matches t k → t.running ≡ Some 0 → FitEach (board_of t k) (entries_of (pass (board_of t k)).items)
unfolding pass
pass_fits t k m r = (fits_so_far (board_of t k) m.rows m.kernel r 150).fit
