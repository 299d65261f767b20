-- A pass comes to an end: each move but the last takes one from a sum over the slots. Who is in core and may still go out
-- counts two, who is out of core one, and who is in core to stay nothing.
use Rattle.std.proofs.Common.{◌≡◌, ◌∙◌, ◌+◌, ◌*◌, ◌<◌, ◌≤◌, ◌&&◌, ◌||◌, ℕ, zero, suc, Bool, true, false, cond, not, nat_lt, nat_le, List, slice_index_or, length, length-set, Option, Some, None, Ok, refl, sym, ap, subst, inl, inr, ◌⊎◌, arith}
use Rattle.std.specs.List.{sum_by, All}
use Rattle.std.proofs.lemmas.Bool.{and_parts, not-true}
use Rattle.std.proofs.lemmas.List.{get_or-set_same, get_or-set_other}
use Rattle.std.proofs.lemmas.List.Sums.{sum_by-set, sum_by-le}
use Rattle.v6_base.specs.Trace.{Taken}
use Rattle.image_keep.specs.Kept.{Kept}
use Rattle.swap_sched.specs.Match.{Matches, board_of}
use Rattle.swap_sched.specs.Moved.{HasMoved, answered}
use Rattle.v6_base.specs.declared.entry.Chan.{Chan}
use Rattle.v6_base.specs.declared.entry.Chan.TheVariants.{RunIn, RunOut}
use Rattle.v6_base.specs.declared.entry.PanicKind.TheVariants as panic
use Rattle.v6_base.specs.declared.entry.Entry.TheVariants as line
use Rattle.pick_rules.specs.declared.row.Stat.{Stat}
use Rattle.pick_rules.specs.declared.row.Stat.TheVariants.{Empty, Sleeping, Waiting, Ready, Zombie}
use Rattle.pick_rules.specs.declared.row.TableRow.{TableRow}
use Rattle.pick_rules.specs.declared.table.Table.{Table}
use Rattle.pick_rules.specs.Priority.{pswp}
use Rattle.pick_rules.specs.Table.{empty_row, row_at, with_row, is_ready, is_waiting, is_sleeping, is_in_core, is_loaded, same_chan}
use Rattle.pick_rules.specs.Sleepers.{made_ready, sleeps_on, runout_told, asleep, fall_asleep}
use Rattle.pick_rules.specs.Board.{Board, blocks, core_fit, swap_fit}
use Rattle.pick_rules.specs.Apply.{applied}
use Rattle.pick_rules.specs.Effects.{at_fit}
use Rattle.pick_rules.specs.Logged.{Stop, Logged, nothing_logged, with_what_came}
use Rattle.pick_rules.specs.Swapper.{SwapMove, In, Out, Waits, candidate, need, loaded_waiter, loaded_runner, out_if_old, makes_room, comes_in, move_for, swap_move}
use Rattle.pick_rules.proofs.Found.{IsFound, found_in, least_in}
use Rattle.pick_rules.proofs.Movers.{Lives, IsMover, mover}
use Rattle.pick_rules.proofs.Placing.{row_out, loaded_row, HasCome, goes_out}
use Rattle.pick_rules.proofs.Placing as placing
use Rattle.swap_sched.specs.Pass.{moved, moves_after, pass}
use Rattle.swap_sched.specs.inside.Does.{logged_move, next_logged}
use Rattle.swap_sched.proofs.SearchLemmas.{loaded_above_0}
use Rattle.swap_sched.proofs.PassLemmas.{joined, next_move, rests_asleep, rests_stopped, none_stopped}

-- who is in core may still go out in this pass
abbrev pub may_go : TableRow → Bool
may_go row = is_waiting row.stat || nat_le 2 row.time

abbrev pub weigh : TableRow → ℕ
weigh row = cond (is_in_core row.place) (cond (may_go row) 2 0) 1

abbrev pub weight : Table → ℕ
weight t = sum_by weigh t.rows

most : (row : TableRow) → weigh row ≤ 2
most row = by (is_in_core row.place) (may_go row)
  where
    by : (x y : Bool) → cond x (cond y 2 0) 1 ≤ 2
    by true true = omega arith
    by true false = omega arith
    by false y = omega arith

each_most : (rows : List TableRow) → All (λ row. weigh row ≤ 2) rows
each_most rows = λ k d l. most (slice_index_or rows k d)

all_most : (rows : List TableRow) → sum_by weigh rows ≤ 2 * length rows
all_most rows = let h : sum_by weigh rows ≤ length rows * 2 = sum_by-le weigh 2 rows (each_most rows) in omega (arith, h)

-- with another row in a slot
weight_set : (t : Table) (s : ℕ) (row : TableRow) → s < length t.rows → weight (with_row t s row) + weigh (row_at t s) ≡ weight t + weigh row
weight_set t s row l = sum_by-set weigh t.rows s row empty_row l

-- Who is moved.
old_waiter : (t : Table) (s : ℕ) → loaded_waiter t ≡ Some s → may_go (row_at t s) ≡ true
old_waiter t s e =
    let found : IsFound (λ r. is_waiting (row_at t r).stat && is_loaded t r) 1 49 s = found_in _ 1 49 s e in
    let parts : (is_waiting (row_at t s).stat ≡ true) × (is_loaded t s ≡ true) = and_parts _ _ found.passes in
    ap (λ b. b || nat_le 2 (row_at t s).time) parts.0

or_true : (a b : Bool) → b ≡ true → (a || b) ≡ true
or_true true b e = refl
or_true false b e = e

abbrev pub MayGo : Table → SwapMove → Type 0
MayGo t (In s c) = (is_ready (row_at t s).stat ≡ true) × (is_loaded t s ≡ false)
MayGo t (Out s) = (may_go (row_at t s) ≡ true) × (is_loaded t s ≡ true)
MayGo t (Waits chan) = Unit {0}

may_be : (b : Board) → MayGo b.table (swap_move b)
unfolding swap_move
may_be b = by (candidate b.table) refl
  where
    t : Table
    t = b.table

    old : (x : Bool) (s : ℕ) → nat_le 2 (row_at t s).time ≡ x → is_loaded t s ≡ true → MayGo t (cond x (Out s) (Waits RunIn))
    old true s f u = (or_true (is_waiting (row_at t s).stat) (nat_le 2 (row_at t s).time) f, u)
    old false s f u = tt

    out : (o : Option ℕ) → loaded_runner t ≡ o → MayGo t (out_if_old t o)
    out None e = tt
    out (Some r) e =
        let found : IsFound (λ q. (is_ready (row_at t q).stat || is_sleeping (row_at t q).stat) && is_loaded t q) 1 49 r = least_in _ _ 1 49 r e in
        let parts : ((is_ready (row_at t r).stat || is_sleeping (row_at t r).stat) ≡ true) × (is_loaded t r ≡ true) = and_parts _ _ found.passes in
        old (nat_le 2 (row_at t r).time) r refl parts.1

    waits : (x : Bool) → MayGo t (cond x (Waits RunIn) (out_if_old t (loaded_runner t)))
    waits true = tt
    waits false = out (loaded_runner t) refl

    room : (s : ℕ) (o : Option ℕ) → loaded_waiter t ≡ o → MayGo t (makes_room t s o)
    room s None e = waits (nat_lt (row_at t s).time 3)
    room s (Some w) e =
        let found : IsFound (λ r. is_waiting (row_at t r).stat && is_loaded t r) 1 49 w = found_in _ 1 49 w e in
        let parts : (is_waiting (row_at t w).stat ≡ true) × (is_loaded t w ≡ true) = and_parts _ _ found.passes in
        (old_waiter t w e, parts.1)

    comes : (s : ℕ) (o : Option ℕ) → (is_ready (row_at t s).stat ≡ true) × (is_loaded t s ≡ false) → MayGo t (comes_in t s o)
    comes s (Some c) u = u
    comes s None u = room s (loaded_waiter t) refl

    by : (o : Option ℕ) → candidate t ≡ o → MayGo t (move_for b o)
    by None e = tt
    by (Some s) e =
        let found : IsFound (λ r. is_ready (row_at t r).stat && not (is_loaded t r)) 1 49 s = least_in _ _ 1 49 s e in
        let parts : (is_ready (row_at t s).stat ≡ true) × (not (is_loaded t s) ≡ true) = and_parts _ _ found.passes in
        comes s (core_fit b (need b s)) (parts.0, not-true _ parts.1)

-- What a move leaves.
pub record Lighter (t u : Table) : Type 0 where
  pub kernel : (row_at u 0).place ≡ (row_at t 0).place
  pub runs : u.running ≡ t.running
  pub light : weight u + 1 ≤ weight t

in_core_of : (t : Table) (s : ℕ) (x : Bool) → 0 < s → is_loaded t s ≡ x → is_in_core (row_at t s).place ≡ x
in_core_of t s x l e = loaded_above_0 t s (omega (arith, l)) ∙ e

weigh_loaded : (row : TableRow) (c : ℕ) → is_ready row.stat ≡ true → weigh (loaded_row row c) ≡ 0
weigh_loaded row c e = by row.stat e
  where
    by : (stat : Stat) → is_ready stat ≡ true → ◌≡◌ {A = ℕ} (cond (is_waiting stat || nat_le 2 0) 2 0) 0
    by Empty f = absurd (cc f)
    by Sleeping f = absurd (cc f)
    by Waiting f = absurd (cc f)
    by Ready f = refl
    by Zombie f = absurd (cc f)

weigh_outside : (row : TableRow) → is_in_core row.place ≡ false → weigh row ≡ 1
weigh_outside row e = λ i. cond (e i) (cond (may_go row) 2 0) 1

weigh_old : (row : TableRow) → is_in_core row.place ≡ true → may_go row ≡ true → weigh row ≡ 2
weigh_old row e f = (λ i. cond (e i) (cond (may_go row) 2 0) 1) ∙ (λ i. cond (f i) 2 0)

kernel_set : (t : Table) (s : ℕ) (row : TableRow) → 0 < s → (row_at (with_row t s row) 0).place ≡ (row_at t 0).place
kernel_set t s row l = ap (λ (x : TableRow). x.place) (get_or-set_other t.rows s 0 row empty_row (λ e. omega (arith, e, l)))

lighter_in : (b : Board) (s c : ℕ) → Lives b.table s → is_ready (row_at b.table s).stat ≡ true → is_loaded b.table s ≡ false
    → Lighter b.table (applied b (line.SwapIn s c)).table
lighter_in b s c l e f =
    let k : HasCome b s (applied b (line.SwapIn s c)) = placing.comes_in b s c l.small in
    let now : weigh (loaded_row (row_at b.table s) k.click) ≡ 0 = weigh_loaded (row_at b.table s) k.click e in
    let was : weigh (row_at b.table s) ≡ 1 = weigh_outside (row_at b.table s) (in_core_of b.table s false l.user f) in
    let sum = weight_set b.table s (loaded_row (row_at b.table s) k.click) l.small in
    subst (Lighter b.table) (sym k.table) (record { kernel = kernel_set b.table s _ l.user; runs = refl; light = omega (arith, sum, now, was) })

-- Process 0 is told: its row has no place before and after.
told_lighter : (t u : Table) → (row_at u 0).place ≡ None → 0 < length u.rows → Lighter t u → Lighter t (runout_told u)
unfolding runout_told made_ready
told_lighter t u e l k = by u.runout (sleeps_on u 0 RunOut)
  where
    row : TableRow
    row = record (row_at u 0) { stat = Ready; channel = None }

    same : weight (with_row u 0 row) ≡ weight u
    same =
        let now : weigh row ≡ 1 = weigh_outside row (ap is_in_core e) in
        let was : weigh (row_at u 0) ≡ 1 = weigh_outside (row_at u 0) (ap is_in_core e) in
        let sum = weight_set u 0 row l in
        omega (arith, sum, now, was)

    by : (x y : Bool) → Lighter t (cond x (cond y (made_ready (record u { runout = false }) 0) (record u { runout = false })) u)
    by true true = record {
      kernel = ap (λ (x : TableRow). x.place) (get_or-set_same u.rows 0 row empty_row l) ∙ k.kernel;
      runs = k.runs;
      light = let h = k.light in omega (arith, h, same);
    }
    by true false = record { kernel = k.kernel; runs = k.runs; light = k.light }
    by false y = k

lighter_out : (b : Board) (s block : ℕ) → Lives b.table s → may_go (row_at b.table s) ≡ true → is_loaded b.table s ≡ true
    → (row_at b.table 0).place ≡ None → Lighter b.table (applied b (line.SwapOut s block)).table
lighter_out b s block l e f z =
    let row : TableRow = row_out (row_at b.table s) (row_at b.table s).size block in
    let was : weigh (row_at b.table s) ≡ 2 = weigh_old (row_at b.table s) (in_core_of b.table s true l.user f) e in
    let sum = weight_set b.table s row l.small in
    let small = l.small in
    let size : length (with_row b.table s row).rows ≡ length b.table.rows = length-set b.table.rows s row in
    subst (Lighter b.table) (sym (goes_out b s block l.small))
    (told_lighter b.table (with_row b.table s row) (kernel_set b.table s row l.user ∙ z) (omega (arith, small, size))
    (record { kernel = kernel_set b.table s row l.user; runs = refl; light = omega (arith, sum, was) }))

runs_not : (t : Table) (w : Chan) → (fall_asleep t 0 pswp w).running ≡ None
unfolding fall_asleep
runs_not t w = by (same_chan w RunIn)
  where
    by : (x : Bool) → (cond x (record (asleep t 0 pswp w) { runin = true }) (record (asleep t 0 pswp w) { runout = true })).running ≡ None
    by true = refl
    by false = refl

sleep_runs_not : (b : Board) (w : Chan) → (applied b (line.Sleep 0 pswp w)).table.running ≡ None
unfolding applied
sleep_runs_not b w = runs_not b.table w

abbrev pub IsDone : Board → Logged (Unit {0}) → Type 0
IsDone b l = (l.board.table.running ≡ None) ⊎ Lighter b.table l.board.table

next_done : (b : Board) → (row_at b.table 0).place ≡ None → (next_logged b).stop ≡ None → IsDone b (next_logged b)
next_done b z e = by (swap_move b) refl e
  where
    mine : (m : SwapMove) → swap_move b ≡ m → IsMover b.table m × MayGo b.table m
    mine m f = (subst (IsMover b.table) f (mover b), subst (MayGo b.table) f (may_be b))

    out : (s : ℕ) → IsMover b.table (Out s) × MayGo b.table (Out s) → (o : Option ℕ)
        → (with_what_came {W = Unit {0}} (nothing_logged b) (at_fit panic.Swap tt o (λ block. line.SwapOut s block))).stop ≡ None
        → IsDone b (with_what_came {W = Unit {0}} (nothing_logged b) (at_fit panic.Swap tt o (λ block. line.SwapOut s block)))
    out s m None f = absurd (cc f)
    out s m (Some block) f = inr (lighter_out b s block m.0 m.1.0 m.1.1 z)

    by : (m : SwapMove) → swap_move b ≡ m → (logged_move b m).stop ≡ None → IsDone b (logged_move b m)
    by (In s c) f g = let m = mine (In s c) f in inr (lighter_in b s c m.0 m.1.0 m.1.1)
    by (Out s) f g = out s (mine (Out s) f) (swap_fit b (blocks (row_at b.table s).size)) g
    by (Waits w) f g = inl (sleep_runs_not b w)

-- After so many moves process 0 sleeps or has panicked, or as many are spent.
abbrev pub IsOver : Logged (Unit {0}) → Type 0
IsOver l = l.stop ≡ None → l.board.table.running ≡ None

pub record Going (l : Logged (Unit {0})) (n : ℕ) : Type 0 where
  pub stop : l.stop ≡ None
  pub runs : l.board.table.running ≡ Some 0
  pub kernel : (row_at l.board.table 0).place ≡ None
  pub light : weight l.board.table + n ≤ 100

pub over_rests : (l : Logged (Unit {0})) → IsOver l → moved l ≡ l
over_rests l h = by l.stop refl
  where
    by : (o : Option (Stop (Unit {0}))) → l.stop ≡ o → moved l ≡ l
    by None e = rests_asleep l (h e)
    by (Some stop) e = rests_stopped l stop e

going_on : (l : Logged (Unit {0})) (n : ℕ) → Going l n → IsOver (moved l) ⊎ Going (moved l) (suc n)
going_on l n g = by (next_logged l.board).stop refl
  where
    e : moved l ≡ joined l (next_logged l.board)
    e = next_move l 0 g.stop g.runs

    done : (next_logged l.board).stop ≡ None → IsDone l.board (next_logged l.board) → IsOver (moved l) ⊎ Going (moved l) (suc n)
    done f (inl r) = inl (λ x. ap (λ (y : Logged (Unit {0})). y.board.table.running) e ∙ r)
    done f (inr k) = inr (record {
      stop = ap (λ (y : Logged (Unit {0})). y.stop) e ∙ f;
      runs = ap (λ (y : Logged (Unit {0})). y.board.table.running) e ∙ k.runs ∙ g.runs;
      kernel = ap (λ (y : Logged (Unit {0})). (row_at y.board.table 0).place) e ∙ k.kernel ∙ g.kernel;
      light =
          let h = k.light in
          let w = g.light in
          let q : weight (moved l).board.table ≡ weight (next_logged l.board).board.table = ap (λ (y : Logged (Unit {0})). weight y.board.table) e in
          omega (arith, h, w, q);
    })

    by : (o : Option (Stop (Unit {0}))) → (next_logged l.board).stop ≡ o → IsOver (moved l) ⊎ Going (moved l) (suc n)
    by None f = done f (next_done l.board g.kernel f)
    by (Some stop) f = inl (λ x. absurd (let y : (moved l).stop ≡ Some stop = ap (λ (z : Logged (Unit {0})). z.stop) e ∙ f in cc (x, y)))

pub over_or_going : (b : Board) → length b.table.rows ≡ 50 → (row_at b.table 0).place ≡ None → b.table.running ≡ Some 0 → (n : ℕ)
    → IsOver (moves_after b n) ⊎ Going (moves_after b n) n
over_or_going b l z r zero = let h = all_most b.table.rows in inr (record { stop = refl; runs = r; kernel = z; light = omega (arith, h, l) })
over_or_going b l z r (suc n) = by (over_or_going b l z r n)
  where
    by : IsOver (moves_after b n) ⊎ Going (moves_after b n) n → IsOver (moved (moves_after b n)) ⊎ Going (moved (moves_after b n)) (suc n)
    by (inl h) = inl (subst IsOver (sym (over_rests (moves_after b n) h)) h)
    by (inr g) = going_on (moves_after b n) n g

-- A pass that doesn't panic ends asleep.
pub ends_asleep : (b : Board) → length b.table.rows ≡ 50 → (row_at b.table 0).place ≡ None → b.table.running ≡ Some 0
    → (pass b).stop ≡ None → (pass b).board.table.running ≡ None
unfolding pass
ends_asleep b l z r e = by (over_or_going b l z r 150)
  where
    by : IsOver (moves_after b 150) ⊎ Going (moves_after b 150) 150 → (moves_after b 150).board.table.running ≡ None
    by (inl h) = h e
    by (inr g) = absurd (let w = g.light in omega (arith, w))

pub final_asleep : (t u : Table) (k m : Kept) (a y : Taken) → Matches t k → t.running ≡ Some 0 → HasMoved t k a (pass (board_of t k)) u m y
    → Ok tt ≡ answered (pass (board_of t k)).stop → u.running ≡ None
final_asleep t u k m a y x r h f =
    ap (λ (b : Board). b.table.running) h.board ∙ ends_asleep (board_of t k) x.rows x.kernel r (none_stopped _ f)
