-- What a line that fits says of the slot that it names.
use Rattle.std.proofs.Common.{◌≡◌, ◌≢◌, ◌∙◌, ◌<◌, ◌&&◌, not, nat_le, nat_lt, ℕ, Bool, true, false, cond, Option, Some, None, refl, sym, ap, subst}
use Rattle.v6_base.specs.declared.entry.Entry.TheVariants.{Go, Idle}
use Rattle.v6_base.specs.declared.entry.Chan.TheVariants.{RunIn}
use Rattle.v6_base.specs.declared.entry.Place.{Place}
use Rattle.v6_base.specs.declared.entry.Place.TheVariants.{Core, Swap}
use Rattle.pick_rules.specs.declared.table.Table.{Table}
use Rattle.pick_rules.specs.Table.{row_at, is_empty, is_ready, is_zombie, is_loaded, is_in_core}
use Rattle.pick_rules.specs.Board.{Board, core_fit}
use Rattle.pick_rules.specs.Choice.{gives_up, chosen, line_of_choice, settle}
use Rattle.pick_rules.specs.Swapper.{In, Out, candidate, need, loaded_waiter, loaded_runner, out_if_old, makes_room, comes_in, move_for, Waits, swap_move}
use Rattle.pick_rules.specs.Fits.{IsRunning}
use Rattle.pick_rules.proofs.Found.{IsFound, least_in}
use Rattle.pick_rules.proofs.Movers.{Lives, IsMover, mover}
use Rattle.log_audit.proofs.Shared.{loaded_is}
use Rattle.log_audit.specs.declared.world.World.{World}
use Rattle.log_audit.specs.World.{board_of}
use Rattle.log_audit.specs.Sound.{IsAlive, IsWhole}

-- the choice that a line tells is the table's
pub go_chosen : (t : Table) (s : ℕ) → settle t ≡ Some (Go s) → chosen t ≡ Some s
unfolding settle
go_chosen t s e = by (gives_up t t.running) (chosen t) e
  where
    by : (x : Bool) (o : Option ℕ) → cond x (Some (line_of_choice o)) None ≡ Some (Go s) → o ≡ Some s
    by true None f = absurd (cc f)
    by true (Some r) f = cc f
    by false o f = absurd (cc f)

pub idle_chosen : (t : Table) → settle t ≡ Some Idle → chosen t ≡ None
unfolding settle
idle_chosen t e = by (gives_up t t.running) (chosen t) e
  where
    by : (x : Bool) (o : Option ℕ) → cond x (Some (line_of_choice o)) None ≡ Some Idle → o ≡ None
    by true None f = refl
    by true (Some r) f = absurd (cc f)
    by false o f = absurd (cc f)

-- who runs is a process with a place
pub record Runs (w : World) (s : ℕ) : Type 0 where
  pub used : is_empty (row_at w.table s).stat ≡ false
  pub alive : is_zombie (row_at w.table s).stat ≡ false
  pub placed : (row_at w.table s).place ≢ None

pub runner : (w : World) (s : ℕ) → IsWhole w → IsRunning (board_of w) s → Runs w s
runner w s h r =
    let a : IsAlive w.table (Some s) = subst (IsAlive w.table) r.runs h.alive in
    record { used = a.0; alive = a.1; placed = h.placed s r.user a.0 (λ f. cc f) }

-- and so is who goes out, or comes in
pub goes : (w : World) (s : ℕ) → IsWhole w → swap_move (board_of w) ≡ Out s → (0 < s) × Runs w s
goes w s h e =
    let l : Lives w.table s = subst (IsMover w.table) e (mover (board_of w)) in
    (l.user, record { used = l.stat.used; alive = l.stat.alive; placed = h.placed s l.user l.stat.used (λ f. cc f) })

pub comes : (w : World) (s c : ℕ) → IsWhole w → swap_move (board_of w) ≡ In s c → (0 < s) × Runs w s
comes w s c h e =
    let l : Lives w.table s = subst (IsMover w.table) e (mover (board_of w)) in
    (l.user, record { used = l.stat.used; alive = l.stat.alive; placed = h.placed s l.user l.stat.used (λ f. cc f) })

-- who comes in is the one that shall, and finds room; no move that makes room is one that brings in
old_is : (t : Table) (o : Option ℕ) (s c : ℕ) → out_if_old t o ≡ In s c → ⊥
old_is t None s c e = cc e
old_is t (Some r) s c e = by (nat_le 2 (row_at t r).time) e
  where
    by : (x : Bool) → cond x (Out r) (Waits RunIn) ≡ In s c → ⊥
    by true f = cc f
    by false f = cc f

room_is : (t : Table) (r : ℕ) (o : Option ℕ) (s c : ℕ) → makes_room t r o ≡ In s c → ⊥
room_is t r (Some w) s c e = cc e
room_is t r None s c e = by (nat_lt (row_at t r).time 3) e
  where
    by : (x : Bool) → cond x (Waits RunIn) (out_if_old t (loaded_runner t)) ≡ In s c → ⊥
    by true f = cc f
    by false f = old_is t (loaded_runner t) s c f

pub record Brought (b : Board) (s c : ℕ) : Type 0 where
  pub shall : candidate b.table ≡ Some s
  pub room : core_fit b (need b s) ≡ Some c

pub in_found : (b : Board) (s c : ℕ) → swap_move b ≡ In s c → Brought b s c
unfolding swap_move
in_found b s c e = by (candidate b.table) refl e
  where
    at : (r : ℕ) (o : Option ℕ) → candidate b.table ≡ Some r → core_fit b (need b r) ≡ o → comes_in b.table r o ≡ In s c → Brought b s c
    at r (Some d) f g h =
        let same : r ≡ s = cc h in let there : d ≡ c = cc h in
        record { shall = f ∙ ap Some same; room = sym (ap (λ q. core_fit b (need b q)) same) ∙ g ∙ ap Some there }
    at r None f g h = absurd (room_is b.table r (loaded_waiter b.table) s c h)

    by : (o : Option ℕ) → candidate b.table ≡ o → move_for b o ≡ In s c → Brought b s c
    by None f h = absurd (cc h)
    by (Some r) f h = at r (core_fit b (need b r)) f refl h

-- it is out of core
right_of : (a b : Bool) → (a && not b) ≡ true → b ≡ false
right_of true true f = absurd (cc f)
right_of true false f = refl
right_of false b f = absurd (cc f)

pub record IsOut (t : Table) (s : ℕ) : Type 0 where
  pub block : ℕ
  pub place : (row_at t s).place ≡ Some (Swap block)

pub out_of_core : (w : World) (s : ℕ) → 0 < s → (row_at w.table s).place ≢ None → candidate w.table ≡ Some s → IsOut w.table s
out_of_core w s u n e = by (row_at w.table s).place refl
  where
    found : IsFound (λ r. is_ready (row_at w.table r).stat && not (is_loaded w.table r)) 1 49 s
    found = least_in _ _ 1 49 s e

    away : is_in_core (row_at w.table s).place ≡ false
    away = sym (loaded_is w.table s u) ∙ right_of (is_ready (row_at w.table s).stat) (is_loaded w.table s) found.passes

    by : (o : Option Place) → (row_at w.table s).place ≡ o → IsOut w.table s
    by None f = absurd (n f)
    by (Some (Core c)) f = absurd (let in_core : is_in_core (row_at w.table s).place ≡ true = ap is_in_core f in cc (in_core, away))
    by (Some (Swap block)) f = record { block = block; place = f }
