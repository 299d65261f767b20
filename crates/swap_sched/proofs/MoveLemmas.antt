-- What each move does is what is logged of it.
use Rattle.std.proofs.Common.{◌≡◌, ◌∙◌, ◌<◌, ◌+◌, ℕ, Bool, true, false, cond, [], ◌∷◌, Option, Some, None, Result, Ok, Err, refl, sym, ap, subst, inl, inr, ◌⊎◌, arith}
use Rattle.v6_base.specs.Trace.{Taken, Took, Log}
use Rattle.v6_base.specs.declared.entry.Chan.{Chan}
use Rattle.v6_base.specs.declared.entry.Chan.TheVariants.{RunIn, RunOut}
use Rattle.v6_base.specs.declared.entry.Place.TheVariants.{Core, Swap}
use Rattle.v6_base.specs.declared.entry.PanicKind.{PanicKind}
use Rattle.v6_base.specs.declared.entry.PanicKind.TheVariants as panic
use Rattle.v6_base.specs.declared.entry.Entry.TheVariants as line
use Rattle.pick_rules.specs.declared.table.Table.{Table}
use Rattle.pick_rules.specs.Priority.{pswp}
use Rattle.pick_rules.specs.Table.{IsTable, row_at, with_row, is_in_core, same_chan}
use Rattle.pick_rules.specs.Sleepers.{made_ready, sleeps_on, runout_told, asleep, fall_asleep}
use Rattle.pick_rules.specs.Board as board
use Rattle.pick_rules.specs.Apply.{applied}
use Rattle.pick_rules.specs.Effects.{Came, Lets, at_fit}
use Rattle.pick_rules.specs.Logged.{nothing_logged, with_what_came}
use Rattle.pick_rules.specs.Swapper.{Out, Waits, candidate, need, swap_move, makes_room, loaded_waiter}
use Rattle.pick_rules.proofs.Movers.{Lives}
use Rattle.image_keep.specs.Kept.{Kept, IsKept, IsOut, IsLoaded, place_of, text_of, area_of, clicks_of}
use Rattle.image_keep.specs.Places.{blocks, core_fit, swap_fit}
use Rattle.image_keep.specs.Moves.{clicks_to_load, text_need, swapped_in, swapped_out}
use Rattle.swap_sched.specs.Match.{Matches, board_of}
use Rattle.swap_sched.specs.Moved.{HasMoved, answered}
use Rattle.swap_sched.specs.Pass.{came_of_move}
use Rattle.swap_sched.specs.inside.Does.{MakesMove}
use Rattle.swap_sched.proofs.SearchLemmas.{loaded_above_0}
use Rattle.swap_sched.proofs.Places.{same_core_fit, same_swap_fit, same_size, same_need}
use Rattle.swap_sched.proofs.Boards.{sleep_board, in_board, out_board}
use Rattle.swap_sched.proofs.Matching.{HasSeat, seat_of, out_of, in_of, moved_to, IsMovedTo, moved_matches, in_moved, out_moved, moved_place, told_matches, asleep_matches}
use Rattle.swap_sched.proofs.Movable.{IsSwapped, goes, comes, move_in, move_room}

-- a move that comes to this
made : (t u : Table) (k n : Kept) (a z : Taken) (r : Result (Unit {0}) PanicKind) (c : Came (Unit {0}))
    → came_of_move (board_of t k) (swap_move (board_of t k)) ≡ c
    → HasMoved t k a (with_what_came (nothing_logged (board_of t k)) c) u n z
    → r ≡ answered (with_what_came (nothing_logged (board_of t k)) c).stop
    → (u.running ≡ None) ⊎ (u.running ≡ t.running)
    → MakesMove t k a r u n z
made t u k n a z r c e h f g = record {
  moved = subst (λ x. HasMoved t k a (with_what_came (nothing_logged (board_of t k)) x) u n z) (sym e) h;
  answer = f ∙ ap (λ x. answered (with_what_came (nothing_logged (board_of t k)) x).stop) (sym e);
  runs = g;
}

-- Process 0 sleeps.
asleep_runs : (t : Table) (w : Chan) → (fall_asleep t 0 pswp w).running ≡ None
unfolding fall_asleep
asleep_runs t w = by (same_chan w RunIn)
  where
    by : (x : Bool) → (cond x (record (asleep t 0 pswp w) { runin = true }) (record (asleep t 0 pswp w) { runout = true })).running ≡ None
    by true = refl
    by false = refl

asleep_tout : (t : Table) (w : Chan) → (fall_asleep t 0 pswp w).tout ≡ t.tout
unfolding fall_asleep
asleep_tout t w = by (same_chan w RunIn)
  where
    by : (x : Bool) → (cond x (record (asleep t 0 pswp w) { runin = true }) (record (asleep t 0 pswp w) { runout = true })).tout ≡ t.tout
    by true = refl
    by false = refl

pub sleeps : (t u : Table) (k : Kept) (w : Chan) (a z : Taken) → Matches t k → IsTable u → u ≡ fall_asleep t 0 pswp w
    → swap_move (board_of t k) ≡ Waits w → Took a (Log (line.Sleep 0 pswp w) ∷ []) z → MakesMove t k a (Ok tt) u k z
sleeps t u k w a z m good e f took = made t u k k a z (Ok tt) _ (ap (came_of_move (board_of t k)) f)
    (record {
      board = ap (λ x. board_of x k) e ∙ sleep_board t k w;
      images = refl;
      tout = ap (λ (x : Table). x.tout) e ∙ asleep_tout t w;
      items = took;
      matching = subst (λ x. Matches x k) (sym e) (asleep_matches t k w m (subst IsTable e good));
    })
    refl (inl (ap (λ (x : Table). x.running) e ∙ asleep_runs t w))

-- Who is to go out is in core, and who is to come in is out of it.
small : (t : Table) (k : Kept) (s : ℕ) → Matches t k → Lives t s → s < 50
small t k s m l = let x = l.small in let y = m.rows in omega (arith, x, y)

seat : (t : Table) (k : Kept) (s : ℕ) → Matches t k → Lives t s → HasSeat t k s
seat t k s m l = seat_of t k s m l.user (small t k s m l) l.stat

in_core_by : (t : Table) (s : ℕ) (x : Bool) → IsSwapped t s x → is_in_core (row_at t s).place ≡ x
in_core_by t s x w = let l = w.lives in let u = l.user in loaded_above_0 t s (omega (arith, u)) ∙ w.is

-- by the board and by the table
swapped_here : (t : Table) (k : Kept) (s : ℕ) (x : Bool) → IsSwapped (board_of t k).table s x → IsSwapped t s x
swapped_here t k s x w = record { lives = record { user = w.lives.user; small = w.lives.small; stat = w.lives.stat }; is = w.is }

pub to_load : (t : Table) (k : Kept) (s : ℕ) → Matches t k → candidate t ≡ Some s → IsOut k s
to_load t k s m e = let w : IsSwapped t s false = comes t s e in out_of t k s (seat t k s m w.lives) (in_core_by t s false w)

pub to_leave : (t : Table) (k : Kept) (s : ℕ) → Matches t k → swap_move (board_of t k) ≡ Out s → IsLoaded k s
to_leave t k s m e = let w : IsSwapped t s true = swapped_here t k s true (goes (board_of t k) s e) in in_of t k s (seat t k s m w.lives) (in_core_by t s true w)

-- Somebody comes in.
pub enters : (t u : Table) (k n : Kept) (s c : ℕ) (a z : Taken) → Matches t k → IsKept k → candidate t ≡ Some s
    → core_fit k (clicks_to_load k s) ≡ Some c → n ≡ swapped_in k s (core_fit k (clicks_to_load k s))
    → u ≡ with_row t s (record (row_at t s) { place = place_of n s; time = 0 })
    → Took a (Log (line.SwapIn s c) ∷ []) z → MakesMove t k a (Ok tt) u n z
enters t u k n s c a z m kept e f g h took = made t u k n a z (Ok tt) _ move
    (record {
      board = (λ i. board_of (row i) (images i)) ∙ in_board t k s c l.small (m.each s l.user (small t k s m l)).text;
      images = images;
      tout = ap (λ (x : Table). x.tout) h;
      items = took;
      matching = subst (λ x. Matches x n) (sym row) (moved_matches t k n s (Core (c + text_need k (text_of k s))) m l.user (small t k s m l) seated kept.slots moved);
    })
    refl (inr (ap (λ (x : Table). x.running) h))
  where
    w : IsSwapped t s false
    w = comes t s e

    l : Lives t s
    l = w.lives

    seated : HasSeat t k s
    seated = seat t k s m l

    images : n ≡ swapped_in k s (Some c)
    images = g ∙ ap (swapped_in k s) f

    moved : IsMovedTo k n s (Core (c + text_need k (text_of k s)))
    moved = subst (λ x. IsMovedTo k x s (Core (c + text_need k (text_of k s)))) (sym images) (in_moved k s c)

    row : u ≡ moved_to t s (Core (c + text_need k (text_of k s)))
    row = h ∙ ap (λ p. with_row t s (record (row_at t s) { place = p; time = 0 }))
        (moved_place t k n s (Core (c + text_need k (text_of k s))) seated (small t k s m l) kept.slots moved)

    fit : board.core_fit (board_of t k) (need (board_of t k) s) ≡ Some c
    fit = same_core_fit t k m kept.slots (need (board_of t k) s)
        ∙ ap (core_fit k) (same_need t k s seated.held m l.user (small t k s m l) seated.has) ∙ f

    move : came_of_move (board_of t k) (swap_move (board_of t k)) ≡ Lets (Log (line.SwapIn s c))
    move = ap (came_of_move (board_of t k)) (move_in (board_of t k) s c e fit)

-- Nobody can come in: what is done is what makes room.
pub no_entry : (t : Table) (k n : Kept) (s : ℕ) → Matches t k → IsKept k → candidate t ≡ Some s
    → core_fit k (clicks_to_load k s) ≡ None → n ≡ k
    → swap_move (board_of t n) ≡ makes_room t s (loaded_waiter t)
no_entry t k n s m kept e f g = ap (λ x. swap_move (board_of t x)) g ∙ move_room (board_of t k) s e fit
  where
    w : IsSwapped t s false
    w = comes t s e

    l : Lives t s
    l = w.lives

    seated : HasSeat t k s
    seated = seat t k s m l

    fit : board.core_fit (board_of t k) (need (board_of t k) s) ≡ None
    fit = same_core_fit t k m kept.slots (need (board_of t k) s)
        ∙ ap (core_fit k) (same_need t k s seated.held m l.user (small t k s m l) seated.has) ∙ f

pub not_in : (k n : Kept) (s : ℕ) → core_fit k (clicks_to_load k s) ≡ None → n ≡ swapped_in k s (core_fit k (clicks_to_load k s)) → n ≡ k
unfolding swapped_in
not_in k n s f g = g ∙ ap (swapped_in k s) f

-- Somebody goes out.
told_runs : (t : Table) → (runout_told t).running ≡ t.running
unfolding runout_told made_ready
told_runs t = by t.runout (sleeps_on t 0 RunOut)
  where
    by : (x y : Bool) → (cond x (cond y (made_ready (record t { runout = false }) 0) (record t { runout = false })) t).running ≡ t.running
    by true true = refl
    by true false = refl
    by false y = refl

told_tout : (t : Table) → (runout_told t).tout ≡ t.tout
unfolding runout_told made_ready
told_tout t = by t.runout (sleeps_on t 0 RunOut)
  where
    by : (x y : Bool) → (cond x (cond y (made_ready (record t { runout = false }) 0) (record t { runout = false })) t).tout ≡ t.tout
    by true true = refl
    by true false = refl
    by false y = refl

module _ (t : Table) (k : Kept) (s : ℕ) (m : Matches t k) (kept : IsKept k) (e : swap_move (board_of t k) ≡ Out s) where
  leaver : IsSwapped t s true
  leaver = swapped_here t k s true (goes (board_of t k) s e)

  living : Lives t s
  living = leaver.lives

  low : s < 50
  low = small t k s m living

  stands : HasSeat t k s
  stands = seat t k s m living

  fit_same : (o : Option ℕ) → swap_fit k (blocks (clicks_of (area_of k s))) ≡ o → board.swap_fit (board_of t k) (blocks (row_at t s).size) ≡ o
  fit_same o f = same_swap_fit t k m kept.slots (blocks (row_at t s).size)
      ∙ ap (λ x. swap_fit k (blocks x)) (same_size t k s stands.held m living.user low stands.has) ∙ f

  move_is : (o : Option ℕ) → swap_fit k (blocks (clicks_of (area_of k s))) ≡ o
      → came_of_move (board_of t k) (swap_move (board_of t k)) ≡ at_fit panic.Swap tt o (λ block. line.SwapOut s block)
  move_is o f = ap (came_of_move (board_of t k)) e ∙ ap (λ x. at_fit panic.Swap tt x (λ block. line.SwapOut s block)) (fit_same o f)

  pub leaves : (u : Table) (n : Kept) (block : ℕ) (a z : Taken) → swap_fit k (blocks (clicks_of (area_of k s))) ≡ Some block
      → n ≡ swapped_out k s (swap_fit k (blocks (clicks_of (area_of k s)))) → IsTable u
      → u ≡ runout_told (with_row t s (record (row_at t s) { place = Some (Swap block); time = 0 }))
      → Took a (Log (line.SwapOut s block) ∷ []) z → MakesMove t k a (Ok tt) u n z
  leaves u n block a z f g good h took = made t u k n a z (Ok tt) _ (move_is (Some block) f)
      (record {
        board = (λ i. board_of (h i) (images i)) ∙ out_board t k s block living.small leaver.is (m.each s living.user low).text;
        images = images;
        tout = ap (λ (x : Table). x.tout) h ∙ told_tout _;
        items = took;
        matching = subst (λ x. Matches x n) (sym h) (told_matches _ n
            (moved_matches t k n s (Swap block) m living.user low stands kept.slots moved) (subst IsTable h good));
      })
      refl (inr (ap (λ (x : Table). x.running) h ∙ told_runs _))
    where
      images : n ≡ swapped_out k s (Some block)
      images = g ∙ ap (swapped_out k s) f

      moved : IsMovedTo k n s (Swap block)
      moved = subst (λ x. IsMovedTo k x s (Swap block)) (sym images) (out_moved k s block)

  pub panics : (n : Kept) (a z : Taken) → swap_fit k (blocks (clicks_of (area_of k s))) ≡ None
      → n ≡ swapped_out k s (swap_fit k (blocks (clicks_of (area_of k s))))
      → Took a (Log (line.Panic panic.Swap) ∷ []) z → MakesMove t k a (Err panic.Swap) t n z
  unfolding swapped_out applied
  panics n a z f g took = made t t k n a z (Err panic.Swap) _ (move_is None f)
      (record {
        board = ap (board_of t) same;
        images = same;
        tout = refl;
        items = took;
        matching = subst (Matches t) (sym same) m;
      })
      refl (inr refl)
    where
      same : n ≡ k
      same = g ∙ ap (swapped_out k s) f

pub same_start : (t u : Table) (k n m : Kept) (a z : Taken) (r : Result (Unit {0}) PanicKind) → n ≡ k → MakesMove t n a r u m z → MakesMove t k a r u m z
same_start t u k n m a z r e h = subst (λ x. MakesMove t x a r u m z) e h
