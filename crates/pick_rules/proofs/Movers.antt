-- Who is moved by process 0 is a slot other than 0 with a living process.
use Rattle.std.proofs.Common.{◌≡◌, ◌<◌, ◌&&◌, ◌||◌, ℕ, zero, suc, not, Bool, true, false, cond, List, [], ◌∷◌, Option, Some, None, get_or, length, nat_lt, nat_le, refl, arith}
use Rattle.v6_base.specs.declared.entry.Chan.TheVariants.{RunIn}
use Rattle.pick_rules.specs.declared.row.Stat.{Stat}
use Rattle.pick_rules.specs.declared.row.Stat.TheVariants.{Empty, Sleeping, Waiting, Ready, Zombie}
use Rattle.pick_rules.specs.declared.row.TableRow.{TableRow}
use Rattle.pick_rules.specs.declared.table.Table.{Table}
use Rattle.pick_rules.specs.Table.{empty_row, row_at, is_empty, is_ready, is_waiting, is_sleeping, is_zombie, is_loaded}
use Rattle.pick_rules.specs.Board.{Board, core_fit}
use Rattle.pick_rules.specs.Swapper.{SwapMove, In, Out, Waits, candidate, need, loaded_waiter, loaded_runner, out_if_old, makes_room, comes_in, move_for, swap_move}
use Rattle.pick_rules.proofs.Found.{IsFound, found_in, least_in}

-- there is a process, and it has not ended
pub record IsAlive (stat : Stat) : Type 0 where
  pub used : is_empty stat ≡ false
  pub alive : is_zombie stat ≡ false

pub record Lives (t : Table) (s : ℕ) : Type 0 where
  pub user : 0 < s
  pub small : s < length t.rows
  pub stat : IsAlive (row_at t s).stat

pub in_rows : (rows : List TableRow) (s : ℕ) → is_empty (get_or rows s empty_row).stat ≡ false → s < length rows
in_rows [] s e = absurd (cc e)
in_rows (x ∷ xs) zero e = omega arith
in_rows (x ∷ xs) (suc s) e = let h = in_rows xs s e in omega (arith, h)

first_of : (a b : Bool) → (a && b) ≡ true → a ≡ true
first_of true b f = refl
first_of false b f = absurd (cc f)

pub ready_alive : (stat : Stat) → is_ready stat ≡ true → IsAlive stat
ready_alive Empty e = absurd (cc e)
ready_alive Sleeping e = absurd (cc e)
ready_alive Waiting e = absurd (cc e)
ready_alive Ready e = record { used = refl; alive = refl }
ready_alive Zombie e = absurd (cc e)

waiting_alive : (stat : Stat) → is_waiting stat ≡ true → IsAlive stat
waiting_alive Empty e = absurd (cc e)
waiting_alive Sleeping e = absurd (cc e)
waiting_alive Waiting e = record { used = refl; alive = refl }
waiting_alive Ready e = absurd (cc e)
waiting_alive Zombie e = absurd (cc e)

runner_alive : (stat : Stat) → (is_ready stat || is_sleeping stat) ≡ true → IsAlive stat
runner_alive Empty e = absurd (cc e)
runner_alive Sleeping e = record { used = refl; alive = refl }
runner_alive Waiting e = absurd (cc e)
runner_alive Ready e = record { used = refl; alive = refl }
runner_alive Zombie e = absurd (cc e)

lives_by : (t : Table) (s : ℕ) (test : ℕ → Bool) → IsFound test 1 49 s → IsAlive (row_at t s).stat → Lives t s
lives_by t s test f l = record { user = f.least; small = in_rows t.rows s l.used; stat = l }

pub candidate_lives : (t : Table) (s : ℕ) → candidate t ≡ Some s → Lives t s
candidate_lives t s e = lives_by t s _ found (ready_alive _ (first_of _ _ found.passes))
  where
    found : IsFound (λ r. is_ready (row_at t r).stat && not (is_loaded t r)) 1 49 s
    found = least_in _ _ 1 49 s e

waiter_lives : (t : Table) (s : ℕ) → loaded_waiter t ≡ Some s → Lives t s
waiter_lives t s e = lives_by t s _ found (waiting_alive _ (first_of _ _ found.passes))
  where
    found : IsFound (λ r. is_waiting (row_at t r).stat && is_loaded t r) 1 49 s
    found = found_in _ 1 49 s e

runner_lives : (t : Table) (s : ℕ) → loaded_runner t ≡ Some s → Lives t s
runner_lives t s e = lives_by t s _ found (runner_alive _ (first_of _ _ found.passes))
  where
    found : IsFound (λ r. (is_ready (row_at t r).stat || is_sleeping (row_at t r).stat) && is_loaded t r) 1 49 s
    found = least_in _ _ 1 49 s e

-- whoever a move moves
abbrev pub IsMover : Table → SwapMove → Type 0
IsMover t (In s c) = Lives t s
IsMover t (Out s) = Lives t s
IsMover t (Waits chan) = Unit {0}

pub mover : (b : Board) → IsMover b.table (swap_move b)
unfolding swap_move
mover b = by (candidate b.table) refl
  where
    t : Table
    t = b.table

    old : (b : Bool) (s : ℕ) → Lives t s → IsMover t (cond b (Out s) (Waits RunIn))
    old true s u = u
    old false s u = tt

    out : (o : Option ℕ) → loaded_runner t ≡ o → IsMover t (out_if_old t o)
    out None e = tt
    out (Some r) e = old (nat_le 2 (row_at t r).time) r (runner_lives t r e)

    waits : (b : Bool) → IsMover t (cond b (Waits RunIn) (out_if_old t (loaded_runner t)))
    waits true = tt
    waits false = out (loaded_runner t) refl

    room : (s : ℕ) (o : Option ℕ) → loaded_waiter t ≡ o → IsMover t (makes_room t s o)
    room s None e = waits (nat_lt (row_at t s).time 3)
    room s (Some w) e = waiter_lives t w e

    comes : (s : ℕ) (o : Option ℕ) → Lives t s → IsMover t (comes_in t s o)
    comes s (Some c) u = u
    comes s None u = room s (loaded_waiter t) refl

    by : (o : Option ℕ) → candidate t ≡ o → IsMover t (move_for b o)
    by None e = tt
    by (Some s) e = comes s (core_fit b (need b s)) (candidate_lives t s e)
