-- Who is moved by process 0: who comes in is out of core, who goes out is in core.
use Rattle.std.proofs.Common.{◌≡◌, ◌∙◌, ◌&&◌, ◌||◌, ℕ, Bool, true, false, cond, not, nat_lt, nat_le, Option, Some, None, refl, subst}
use Rattle.std.proofs.lemmas.Bool.{and_parts, not-true}
use Rattle.v6_base.specs.declared.entry.Chan.TheVariants.{RunIn, RunOut}
use Rattle.pick_rules.specs.declared.table.Table.{Table}
use Rattle.pick_rules.specs.Table.{row_at, is_ready, is_waiting, is_sleeping, is_loaded}
use Rattle.pick_rules.specs.Board.{Board, core_fit}
use Rattle.pick_rules.specs.Swapper.{SwapMove, In, Out, Waits, candidate, need, loaded_waiter, loaded_runner, out_if_old, makes_room, comes_in, move_for, swap_move}
use Rattle.pick_rules.proofs.Found.{IsFound, found_in, least_in}
use Rattle.pick_rules.proofs.Movers.{Lives, IsMover, mover, candidate_lives}

candidate_out : (t : Table) (s : ℕ) → candidate t ≡ Some s → is_loaded t s ≡ false
candidate_out t s e =
    let found : IsFound (λ r. is_ready (row_at t r).stat && not (is_loaded t r)) 1 49 s = least_in _ _ 1 49 s e in
    let parts : (is_ready (row_at t s).stat ≡ true) × (not (is_loaded t s) ≡ true) = and_parts _ _ found.passes in
    not-true _ parts.1

waiter_loaded : (t : Table) (s : ℕ) → loaded_waiter t ≡ Some s → is_loaded t s ≡ true
waiter_loaded t s e =
    let found : IsFound (λ r. is_waiting (row_at t r).stat && is_loaded t r) 1 49 s = found_in _ 1 49 s e in
    let parts : (is_waiting (row_at t s).stat ≡ true) × (is_loaded t s ≡ true) = and_parts _ _ found.passes in
    parts.1

runner_loaded : (t : Table) (s : ℕ) → loaded_runner t ≡ Some s → is_loaded t s ≡ true
runner_loaded t s e =
    let found : IsFound (λ r. (is_ready (row_at t r).stat || is_sleeping (row_at t r).stat) && is_loaded t r) 1 49 s = least_in _ _ 1 49 s e in
    let parts : ((is_ready (row_at t s).stat || is_sleeping (row_at t s).stat) ≡ true) × (is_loaded t s ≡ true) = and_parts _ _ found.passes in
    parts.1

-- who goes out is in core, and who comes in isn't
abbrev pub IsMovable : Table → SwapMove → Type 0
IsMovable t (In s c) = is_loaded t s ≡ false
IsMovable t (Out s) = is_loaded t s ≡ true
IsMovable t (Waits chan) = Unit {0}

movable : (b : Board) → IsMovable b.table (swap_move b)
unfolding swap_move
movable b = by (candidate b.table) refl
  where
    t : Table
    t = b.table

    old : (b : Bool) (s : ℕ) → is_loaded t s ≡ true → IsMovable t (cond b (Out s) (Waits RunIn))
    old true s u = u
    old false s u = tt

    out : (o : Option ℕ) → loaded_runner t ≡ o → IsMovable t (out_if_old t o)
    out None e = tt
    out (Some r) e = old (nat_le 2 (row_at t r).time) r (runner_loaded t r e)

    waits : (b : Bool) → IsMovable t (cond b (Waits RunIn) (out_if_old t (loaded_runner t)))
    waits true = tt
    waits false = out (loaded_runner t) refl

    room : (s : ℕ) (o : Option ℕ) → loaded_waiter t ≡ o → IsMovable t (makes_room t s o)
    room s None e = waits (nat_lt (row_at t s).time 3)
    room s (Some w) e = waiter_loaded t w e

    comes : (s : ℕ) (o : Option ℕ) → is_loaded t s ≡ false → IsMovable t (comes_in t s o)
    comes s (Some c) u = u
    comes s None u = room s (loaded_waiter t) refl

    by : (o : Option ℕ) → candidate t ≡ o → IsMovable t (move_for b o)
    by None e = tt
    by (Some s) e = comes s (core_fit b (need b s)) (candidate_out t s e)

-- one who lives, in core or out of it
pub record IsSwapped (t : Table) (s : ℕ) (loaded : Bool) : Type 0 where
  pub lives : Lives t s
  pub is : is_loaded t s ≡ loaded

pub goes : (b : Board) (s : ℕ) → swap_move b ≡ Out s → IsSwapped b.table s true
goes b s e = record { lives = subst (IsMover b.table) e (mover b); is = subst (IsMovable b.table) e (movable b) }

pub comes : (t : Table) (s : ℕ) → candidate t ≡ Some s → IsSwapped t s false
comes t s e = record { lives = candidate_lives t s e; is = candidate_out t s e }

-- The next move, where somebody wants to come in.
pub move_in : (b : Board) (s c : ℕ) → candidate b.table ≡ Some s → core_fit b (need b s) ≡ Some c → swap_move b ≡ In s c
unfolding swap_move
move_in b s c e f = (λ i. move_for b (e i)) ∙ (λ i. comes_in b.table s (f i))

pub move_room : (b : Board) (s : ℕ) → candidate b.table ≡ Some s → core_fit b (need b s) ≡ None → swap_move b ≡ makes_room b.table s (loaded_waiter b.table)
unfolding swap_move
move_room b s e f = (λ i. move_for b (e i)) ∙ (λ i. comes_in b.table s (f i))

pub move_none : (b : Board) → candidate b.table ≡ None → swap_move b ≡ Waits RunOut
unfolding swap_move
move_none b e = λ i. move_for b (e i)
