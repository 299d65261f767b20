-- What is done to the table is done to the board of the log, which doesn't tell when sleepers are woken.
use Rattle.std.proofs.Common.{◌≡◌, ◌∙◌, ◌∷◌, [], ℕ, Bool, true, false, cond, ◌==◌, ℤ, pos, int_lt, Option, Some, None, refl, sym, ap}
use Rattle.v6_base.specs.Trace.{Log}
use Rattle.v6_base.specs.declared.entry.Chan.{Chan}
use Rattle.v6_base.specs.declared.entry.Chan.TheVariants.{RunIn}
use Rattle.v6_base.specs.declared.entry.Entry.{Entry}
use Rattle.v6_base.specs.declared.entry.Entry.TheVariants as line
use Rattle.pick_rules.specs.declared.table.Table.{Table}
use Rattle.pick_rules.specs.Priority.{setpri}
use Rattle.pick_rules.specs.Sleepers.{made_ready, sleeps_on, process_0_woken, runin_told, asleep, flagged, fall_asleep, wakeup}
use Rattle.pick_rules.specs.Table.{same_chan}
use Rattle.pick_rules.specs.Choice.{chosen, gives_up, settle, settled_by, line_of_choice}
use Rattle.pick_rules.specs.Board.{Board}
use Rattle.pick_rules.specs.Apply.{applied}
use Rattle.pick_rules.specs.Effects.{Show, came}
use Rattle.pick_rules.specs.Logged.{logged, log_one}
use Rattle.image_keep.specs.Kept.{Kept}
use Rattle.sys_procs.specs.Agree.{board_of}
use Rattle.swap_sched.proofs.Boards.{untimed}
use Rattle.sys_procs.proofs.Tables.{untimed_ready, untimed_wakeup}
use Rattle.abstract_unix.specs.Unix.{Unix}
use Rattle.unix_core.specs.Passing.{trapped}
use Rattle.abstract_unix.specs.Turn.{settled, settled_as}

gives_same : (t : Table) (r : Option ℕ) → gives_up (untimed t) r ≡ gives_up t r
gives_same t None = refl
gives_same t (Some s) = refl

chosen_same : (t : Table) → chosen (untimed t) ≡ chosen t
unfolding chosen
chosen_same t = refl

pub settle_same : (t : Table) → settle (untimed t) ≡ settle t
unfolding settle
settle_same t = ap (λ b. cond b (Some (line_of_choice (chosen (untimed t)))) None) (gives_same t t.running)
    ∙ ap (λ o. cond (gives_up t t.running) (Some (line_of_choice o)) None) (chosen_same t)

-- a choice is made, and the board has it
board_by : (t : Table) (k : Kept) (o : Option ℕ) → board_of (settled_by t o) k ≡ applied (board_of t k) (line_of_choice o)
unfolding applied
board_by t k None = refl
board_by t k (Some s) = refl

settle_is : (t : Table) → gives_up t t.running ≡ true → settle t ≡ Some (line_of_choice (chosen t))
unfolding settle
settle_is t gives = ap (λ b. cond b (Some (line_of_choice (chosen t))) None) gives

pub settle_none : (t : Table) → gives_up t t.running ≡ false → settle t ≡ None
unfolding settle
settle_none t gives = ap (λ b. cond b (Some (line_of_choice (chosen t))) None) gives

pub settled_choice : (t : Table) (k : Kept) → gives_up t t.running ≡ true
    → settled (board_of t k) ≡ record { items = Log (line_of_choice (chosen t)) ∷ []; board = board_of (settled_by t (chosen t)) k }
settled_choice t k gives = ap (λ o. settled_as o (board_of t k)) (settle_same t ∙ settle_is t gives)
    ∙ ap (λ b. record { items = Log (line_of_choice (chosen t)) ∷ []; board = b }) (sym (board_by t k (chosen t)))

pub settled_quiet : (t : Table) (k : Kept) → gives_up t t.running ≡ false → settled (board_of t k) ≡ record { items = []; board = board_of t k }
settled_quiet t k gives = ap (λ o. settled_as o (board_of t k)) (settle_same t ∙ settle_none t gives)

-- a choice that has been made
pub settled_as_chosen : (t u : Table) (k : Kept) (o : Option ℕ) → gives_up t t.running ≡ true → o ≡ chosen t → u ≡ settled_by t (chosen t)
    → settled (board_of t k) ≡ record { items = Log (line_of_choice o) ∷ []; board = board_of u k }
settled_as_chosen t u k o gives is choice = settled_choice t k gives
    ∙ ap (λ c. record { items = Log (line_of_choice c) ∷ []; board = board_of (settled_by t (chosen t)) k }) (sym is)
    ∙ ap (λ v. record { items = Log (line_of_choice o) ∷ []; board = board_of v k }) (sym choice)

pub logged_line : (b : Board) (e : Entry) → logged {W = Unix} b (Show (Log e) ∷ []) ≡ record { items = Log e ∷ []; board = applied b e; stop = None }
unfolding log_one came
logged_line b e = refl

-- The board after some of these lines.
pub board_trapped : (t : Table) (k : Kept) (s : ℕ) → board_of (trapped t s) k ≡ applied (board_of t k) (line.Trap s)
unfolding applied setpri
board_trapped t k s = refl

pub board_woken : (t : Table) (k : Kept) (w : Chan) → board_of (wakeup t w) k ≡ applied (board_of t k) (line.Wake w)
unfolding applied
board_woken t k w = ap (λ (u : Table). record (board_of t k) { table = u }) (untimed_wakeup t w)

either : {A B : Type 0} (f : A → B) (b : Bool) (x y : A) → f (cond b x y) ≡ cond b (f x) (f y)
either f true x y = refl
either f false x y = refl

untimed_zero : (t : Table) (w : Chan) → untimed (process_0_woken t w) ≡ process_0_woken (untimed t) w
untimed_zero t w = either untimed (sleeps_on t 0 w) (made_ready t 0) t ∙ ap (λ u. cond (sleeps_on t 0 w) u (untimed t)) (untimed_ready t 0)

pub untimed_runin : (t : Table) → untimed (runin_told t) ≡ runin_told (untimed t)
unfolding runin_told
untimed_runin t =
    either untimed t.runin (process_0_woken (record t { runin = false }) RunIn) t
    ∙ ap (λ u. cond t.runin u (untimed t)) (untimed_zero (record t { runin = false }) RunIn)

untimed_flagged : (t : Table) (s : ℕ) (w : Chan) → untimed (flagged t s w) ≡ flagged (untimed t) s w
untimed_flagged t s w =
    either untimed (s == 0) (cond (same_chan w RunIn) (record t { runin = true }) (record t { runout = true })) t
    ∙ ap (λ u. cond (s == 0) u (untimed t)) (either untimed (same_chan w RunIn) (record t { runin = true }) (record t { runout = true }))

untimed_asleep : (t : Table) (s : ℕ) (pri : ℤ) (w : Chan) → untimed (fall_asleep t s pri w) ≡ fall_asleep (untimed t) s pri w
unfolding fall_asleep
untimed_asleep t s pri w =
    let bare : Table = asleep t s pri w in
    untimed_flagged (cond (int_lt pri (pos 0)) bare (runin_told bare)) s w
    ∙ ap (λ u. flagged u s w) (either untimed (int_lt pri (pos 0)) bare (runin_told bare)
    ∙ ap (λ u. cond (int_lt pri (pos 0)) (untimed bare) u) (untimed_runin bare))

pub board_asleep : (t : Table) (k : Kept) (s : ℕ) (pri : ℤ) (w : Chan) → board_of (fall_asleep t s pri w) k ≡ applied (board_of t k) (line.Sleep s pri w)
unfolding applied
board_asleep t k s pri w = ap (λ (u : Table). record (board_of t k) { table = u }) (untimed_asleep t s pri w)
