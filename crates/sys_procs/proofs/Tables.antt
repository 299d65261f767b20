-- The board of the log doesn't tell when sleepers are woken: what is done to the table is done to the board.
use Rattle.std.proofs.Common.{◌≡◌, ◌∙◌, ℕ, cond, if◌then◌else◌, List, [], ◌∷◌, fold, None, refl, ap}
use Rattle.v6_base.specs.Trace.{Log}
use Rattle.v6_base.specs.declared.entry.Chan.{Chan}
use Rattle.v6_base.specs.declared.entry.Entry.{Entry}
use Rattle.v6_base.specs.declared.entry.Entry.TheVariants as line
use Rattle.pick_rules.specs.declared.table.Table.{Table}
use Rattle.pick_rules.specs.Search.{slots}
use Rattle.pick_rules.specs.Table.{is_loaded}
use Rattle.pick_rules.specs.Priority.{setpri}
use Rattle.pick_rules.specs.Sleepers.{made_ready, sleeps_on, runout_told, setrun, wakeup}
use Rattle.pick_rules.specs.Board.{Board}
use Rattle.pick_rules.specs.Apply.{applied}
use Rattle.pick_rules.specs.Effects.{Show, came}
use Rattle.pick_rules.specs.Logged.{logged, log_one}
use Rattle.image_keep.specs.Kept.{Kept}
use Rattle.sys_procs.specs.World.{World}
use Rattle.swap_sched.proofs.Boards.{either}
pub use Rattle.swap_sched.proofs.Boards.{untimed, untimed_ready, untimed_runout}
use Rattle.sys_procs.specs.Agree.{board_of}

-- a change commutes with a rule for each of some, where it does with the rule
fold_commutes : {A X : Type 0} (f : A → A) (rule : A → X → A) → ((a : A) (x : X) → f (rule a x) ≡ rule (f a) x) → (xs : List X) (a : A) → f (fold rule a xs) ≡ fold rule (f a) xs
fold_commutes f rule step [] a = refl
fold_commutes f rule step (x ∷ xs) a = fold_commutes f rule step xs (rule a x) ∙ ap (λ b. fold rule b xs) (step a x)

pub untimed_setrun : (t : Table) (s : ℕ) → untimed (setrun t s) ≡ setrun (untimed t) s
unfolding setrun
untimed_setrun t s =
    either untimed (is_loaded t s) (made_ready t s) (runout_told (made_ready t s))
    ∙ (ap (λ u. cond (is_loaded t s) u (untimed (runout_told (made_ready t s)))) (untimed_ready t s)
    ∙ ap (λ u. cond (is_loaded t s) (made_ready (untimed t) s) u) (untimed_runout (made_ready t s) ∙ ap runout_told (untimed_ready t s)))

pub untimed_wakeup : (t : Table) (w : Chan) → untimed (wakeup t w) ≡ wakeup (untimed t) w
unfolding wakeup
untimed_wakeup t w = fold_commutes untimed (λ now s. if sleeps_on now s w then setrun now s else now) step slots t
  where
    step : (now : Table) (s : ℕ) → untimed (cond (sleeps_on now s w) (setrun now s) now) ≡ cond (sleeps_on (untimed now) s w) (setrun (untimed now) s) (untimed now)
    step now s = either untimed (sleeps_on now s w) (setrun now s) now ∙ ap (λ u. cond (sleeps_on now s w) u (untimed now)) (untimed_setrun now s)

pub untimed_setpri : (t : Table) (s : ℕ) → untimed (setpri t s) ≡ setpri (untimed t) s
unfolding setpri
untimed_setpri t s = refl

-- What lines that name no place leave in the log.
pub logged_line : (b : Board) (e : Entry) → logged {W = World} b (Show (Log e) ∷ []) ≡ record { items = Log e ∷ []; board = applied b e; stop = None }
unfolding log_one came
logged_line b e = refl

pub logged_lines : (b : Board) (e f : Entry) → logged {W = World} b (Show (Log e) ∷ Show (Log f) ∷ []) ≡ record { items = Log e ∷ Log f ∷ []; board = applied (applied b e) f; stop = None }
unfolding log_one came
logged_lines b e f = refl

-- The board after some of these lines.
pub board_woken : (t : Table) (k : Kept) (w : Chan) → board_of (wakeup t w) k ≡ applied (board_of t k) (line.Wake w)
unfolding applied
board_woken t k w = ap (λ (u : Table). record (board_of t k) { table = u }) (untimed_wakeup t w)
