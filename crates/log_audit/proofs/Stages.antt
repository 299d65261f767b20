-- How far a log has come after a line, and what holds there.
use Rattle.std.proofs.Common.{◌≡◌, ◌≢◌, ◌∙◌, ◌<◌, ◌≤◌, ℕ, [], Some, None, refl, sym, ap, subst, arith, inr}
use Rattle.v6_base.specs.declared.entry.Entry.{Entry}
use Rattle.v6_base.specs.declared.entry.Entry.TheVariants.{Boot, Go, Idle, Trap, TickUser, TickKernel, TickIdle, Sleep, Wake, Signal, Nice, Time, Size, SizeKeep, Fork, Leave, Bare, Text, Share, Image, SwapIn, SwapOut, Exit, Reap, Panic, End}
use Rattle.pick_rules.specs.declared.table.Table.{Table}
use Rattle.pick_rules.specs.Ranges.{IsInRange}
use Rattle.pick_rules.specs.Board.{Board}
use Rattle.pick_rules.specs.Apply.{applied}
use Rattle.pick_rules.specs.Lawful as log
use Rattle.pick_rules.specs.Lawful.{IsFirstLine, IsOfExec, FitsStage, seen_after}
use Rattle.pick_rules.specs.Fits.{FitsBoard}
use Rattle.pick_rules.specs.Priority.{pswp}
use Rattle.v6_base.specs.declared.entry.Chan.TheVariants.{RunOut}
use Rattle.log_audit.specs.declared.world.Stage.{Stage}
use Rattle.log_audit.specs.declared.world.Stage.TheVariants as mine
use Rattle.log_audit.specs.declared.world.World.{World}
use Rattle.log_audit.specs.World.{board_of, board_at, stage_of, seen_of}
use Rattle.log_audit.specs.Sound.{IsLoose, AllPlaced, IsAt, IsAlive, IsSound, IsWhole, IsStripped, IsAfter, IsAfterExec}
use Rattle.log_audit.specs.After.{IsAfterAt}
use Rattle.log_audit.proofs.Owed.{Owed, owes}

-- what holds of a table, by the stage that the log tells
abbrev pub LogAt : log.Stage → Table → Type 0
LogAt log.Blank t = AllPlaced t None
LogAt log.Booted t = (t.running ≡ Some 0) × AllPlaced t None
LogAt log.Open t = AllPlaced t None
LogAt log.Idling t = AllPlaced t None
LogAt (log.Bared s) t = (0 < s) × (s < 50) × (t.running ≡ Some s) × AllPlaced t (Some s)
LogAt log.Over t = Unit {0}

at_log : (st : Stage) (t : Table) → LogAt (stage_of st) t → IsAt st t
at_log mine.Blank t h = h
at_log mine.Booted t h = h
at_log mine.Open t h = h
at_log mine.Idling t h = h
at_log (mine.Bared s) t h = h
at_log mine.Over t h = h

-- after its first line a log gives its board
board_there : (st : Stage) (v : World) → stage_of st ≢ log.Blank → board_at st v ≡ board_of v
board_there mine.Blank v n = absurd (n refl)
board_there mine.Booted v n = refl
board_there mine.Open v n = refl
board_there mine.Idling v n = refl
board_there (mine.Bared s) v n = refl
board_there mine.Over v n = refl

never_blank : (st : log.Stage) (e : Entry) → st ≢ log.Blank → log.stage_after st e ≢ log.Blank
never_blank st (Boot core time) x f = cc f
never_blank st (Go s) x f = cc f
never_blank st Idle x f = cc f
never_blank st (Trap s) x f = cc f
never_blank st TickUser x f = cc f
never_blank st TickKernel x f = cc f
never_blank st TickIdle x f = cc f
never_blank st (Sleep s pri chan) x f = cc f
never_blank st (Wake chan) x f = cc f
never_blank st (Signal s n) x f = cc f
never_blank st (Nice s nice) x f = cc f
never_blank st (Time time) x f = cc f
never_blank st (Size s clicks place) x f = cc f
never_blank st (SizeKeep s clicks) x f = cc f
never_blank st (Fork s child place) x f = cc f
never_blank st (Leave s k sticky) x f = cc f
never_blank st (Bare s) x f = cc f
never_blank st (Text s k clicks block) x f = x f
never_blank st (Share s k) x f = x f
never_blank st (Image s clicks place) x f = cc f
never_blank st (SwapIn s c) x f = cc f
never_blank st (SwapOut s block) x f = cc f
never_blank st (Exit s block) x f = cc f
never_blank st (Reap s) x f = cc f
never_blank st (Panic kind) x f = cc f
never_blank st End x f = cc f

seen_by : (w v : World) (e : Entry) → stage_of v.stage ≡ log.stage_after (stage_of w.stage) e → stage_of v.stage ≢ log.Blank
    → board_of v ≡ applied (board_at w.stage w) e → seen_of v ≡ seen_after (seen_of w) e
seen_by w v e s n b =
    ap (λ (x : Board). record { stage = stage_of v.stage; board = x }) (board_there v.stage v n ∙ b)
    ∙ ap (λ (x : log.Stage). record { stage = x; board = applied (board_at w.stage w) e }) s

-- the first line
first_stage : (st : log.Stage) (e : Entry) → IsFirstLine e → log.stage_after st e ≡ log.Booted
first_stage st (Boot core time) f = refl
first_stage st (Go s) f = absurd f
first_stage st Idle f = absurd f
first_stage st (Trap s) f = absurd f
first_stage st TickUser f = absurd f
first_stage st TickKernel f = absurd f
first_stage st TickIdle f = absurd f
first_stage st (Sleep s pri chan) f = absurd f
first_stage st (Wake chan) f = absurd f
first_stage st (Signal s n) f = absurd f
first_stage st (Nice s nice) f = absurd f
first_stage st (Time time) f = absurd f
first_stage st (Size s clicks place) f = absurd f
first_stage st (SizeKeep s clicks) f = absurd f
first_stage st (Fork s child place) f = absurd f
first_stage st (Leave s k sticky) f = absurd f
first_stage st (Bare s) f = absurd f
first_stage st (Text s k clicks block) f = absurd f
first_stage st (Share s k) f = absurd f
first_stage st (Image s clicks place) f = absurd f
first_stage st (SwapIn s c) f = absurd f
first_stage st (SwapOut s block) f = absurd f
first_stage st (Exit s block) f = absurd f
first_stage st (Reap s) f = absurd f
first_stage st (Panic kind) f = absurd f
first_stage st End f = absurd f

first_board_of : (a b : Board) (e : Entry) → IsFirstLine e → applied a e ≡ applied b e
unfolding applied
first_board_of a b (Boot core time) f = refl
first_board_of a b (Go s) f = absurd f
first_board_of a b Idle f = absurd f
first_board_of a b (Trap s) f = absurd f
first_board_of a b TickUser f = absurd f
first_board_of a b TickKernel f = absurd f
first_board_of a b TickIdle f = absurd f
first_board_of a b (Sleep s pri chan) f = absurd f
first_board_of a b (Wake chan) f = absurd f
first_board_of a b (Signal s n) f = absurd f
first_board_of a b (Nice s nice) f = absurd f
first_board_of a b (Time time) f = absurd f
first_board_of a b (Size s clicks place) f = absurd f
first_board_of a b (SizeKeep s clicks) f = absurd f
first_board_of a b (Fork s child place) f = absurd f
first_board_of a b (Leave s k sticky) f = absurd f
first_board_of a b (Bare s) f = absurd f
first_board_of a b (Text s k clicks block) f = absurd f
first_board_of a b (Share s k) f = absurd f
first_board_of a b (Image s clicks place) f = absurd f
first_board_of a b (SwapIn s c) f = absurd f
first_board_of a b (SwapOut s block) f = absurd f
first_board_of a b (Exit s block) f = absurd f
first_board_of a b (Reap s) f = absurd f
first_board_of a b (Panic kind) f = absurd f
first_board_of a b End f = absurd f

pub first_seen : (w v : World) (e : Entry) → IsFirstLine e → stage_of v.stage ≡ log.stage_after (stage_of w.stage) e
    → board_of v ≡ applied (board_of w) e → seen_of v ≡ seen_after (seen_of w) e
first_seen w v e f s b =
    seen_by w v e s (λ n. let a = sym (first_stage (stage_of w.stage) e f) ∙ sym s ∙ n in cc a) (b ∙ first_board_of (board_of w) (board_at w.stage w) e f)

pub first_sound : (w v : World) (e : Entry) → IsFirstLine e → stage_of v.stage ≡ log.stage_after (stage_of w.stage) e → v.table.running ≡ Some 0 → IsWhole v → IsSound v
first_sound w v e f s r h = record {
  loose = h.loose;
  at = at_log v.stage v.table (subst (λ x. LogAt x v.table) (sym (s ∙ first_stage (stage_of w.stage) e f)) (r, h.placed));
  alive = h.alive;
}

-- a line after it
pub next_seen : (w v : World) (e : Entry) → stage_of w.stage ≢ log.Blank → stage_of v.stage ≡ log.stage_after (stage_of w.stage) e
    → board_of v ≡ applied (board_of w) e → seen_of v ≡ seen_after (seen_of w) e
next_seen w v e k s b =
    seen_by w v e s (λ n. never_blank (stage_of w.stage) e k (sym s ∙ n)) (b ∙ ap (λ x. applied x e) (sym (board_there w.stage w k)))

-- what is kept whatever the line
pub record Kept (v : World) : Type 0 where
  pub loose : IsLoose v [] []
  pub alive : IsAlive v.table v.table.running

kept_after : (e : Entry) (v : World) → IsAfter e v → Kept v
kept_after (Boot core time) v h = record { loose = h.loose; alive = h.alive }
kept_after (Go s) v h = record { loose = h.loose; alive = h.alive }
kept_after Idle v h = record { loose = h.loose; alive = h.alive }
kept_after (Trap s) v h = record { loose = h.loose; alive = h.alive }
kept_after TickUser v h = record { loose = h.loose; alive = h.alive }
kept_after TickKernel v h = record { loose = h.loose; alive = h.alive }
kept_after TickIdle v h = record { loose = h.loose; alive = h.alive }
kept_after (Sleep s pri chan) v h = record { loose = h.loose; alive = h.alive }
kept_after (Wake chan) v h = record { loose = h.loose; alive = h.alive }
kept_after (Signal s n) v h = record { loose = h.loose; alive = h.alive }
kept_after (Nice s nice) v h = record { loose = h.loose; alive = h.alive }
kept_after (Time time) v h = record { loose = h.loose; alive = h.alive }
kept_after (Size s clicks place) v h = record { loose = h.loose; alive = h.alive }
kept_after (SizeKeep s clicks) v h = record { loose = h.loose; alive = h.alive }
kept_after (Fork s child place) v h = record { loose = h.loose; alive = h.alive }
kept_after (Leave s k sticky) v h = record { loose = h.loose; alive = h.alive }
kept_after (Bare s) v h = record { loose = h.loose; alive = h.alive }
kept_after (Text s k clicks block) v h = record { loose = h.loose; alive = h.alive }
kept_after (Share s k) v h = record { loose = h.loose; alive = h.alive }
kept_after (Image s clicks place) v h = record { loose = h.loose; alive = h.alive }
kept_after (SwapIn s c) v h = record { loose = h.loose; alive = h.alive }
kept_after (SwapOut s block) v h = record { loose = h.loose; alive = h.alive }
kept_after (Exit s block) v h = record { loose = h.loose; alive = h.alive }
kept_after (Reap s) v h = record { loose = h.loose; alive = h.alive }
kept_after (Panic kind) v h = record { loose = h.loose; alive = h.alive }
kept_after End v h = record { loose = h.loose; alive = h.alive }

kept_exec : (s : ℕ) (e : Entry) (v : World) → IsAfterExec s e v → Kept v
kept_exec r (Boot core time) v h = record { loose = h.loose; alive = h.alive }
kept_exec r (Go s) v h = record { loose = h.loose; alive = h.alive }
kept_exec r Idle v h = record { loose = h.loose; alive = h.alive }
kept_exec r (Trap s) v h = record { loose = h.loose; alive = h.alive }
kept_exec r TickUser v h = record { loose = h.loose; alive = h.alive }
kept_exec r TickKernel v h = record { loose = h.loose; alive = h.alive }
kept_exec r TickIdle v h = record { loose = h.loose; alive = h.alive }
kept_exec r (Sleep s pri chan) v h = record { loose = h.loose; alive = h.alive }
kept_exec r (Wake chan) v h = record { loose = h.loose; alive = h.alive }
kept_exec r (Signal s n) v h = record { loose = h.loose; alive = h.alive }
kept_exec r (Nice s nice) v h = record { loose = h.loose; alive = h.alive }
kept_exec r (Time time) v h = record { loose = h.loose; alive = h.alive }
kept_exec r (Size s clicks place) v h = record { loose = h.loose; alive = h.alive }
kept_exec r (SizeKeep s clicks) v h = record { loose = h.loose; alive = h.alive }
kept_exec r (Fork s child place) v h = record { loose = h.loose; alive = h.alive }
kept_exec r (Leave s k sticky) v h = record { loose = h.loose; alive = h.alive }
kept_exec r (Bare s) v h = record { loose = h.loose; alive = h.alive }
kept_exec r (Text s k clicks block) v h = record { loose = h.loose; alive = h.alive }
kept_exec r (Share s k) v h = record { loose = h.loose; alive = h.alive }
kept_exec r (Image s clicks place) v h = record { loose = h.loose; alive = h.alive }
kept_exec r (SwapIn s c) v h = record { loose = h.loose; alive = h.alive }
kept_exec r (SwapOut s block) v h = record { loose = h.loose; alive = h.alive }
kept_exec r (Exit s block) v h = record { loose = h.loose; alive = h.alive }
kept_exec r (Reap s) v h = record { loose = h.loose; alive = h.alive }
kept_exec r (Panic kind) v h = record { loose = h.loose; alive = h.alive }
kept_exec r End v h = record { loose = h.loose; alive = h.alive }

-- where each process has its place
slot_in : (s : ℕ) → s ≤ 49 → s < 50
slot_in s l = omega (arith, l)

stage_open : (w v : World) (st : log.Stage) (e : Entry) → IsInRange e → Owed w e → IsAfter e v → LogAt (log.stage_after st e) v.table
stage_open w v st (Boot core time) r o h = absurd o
stage_open w v st (Go s) r o h = h.placed
stage_open w v st Idle r o h = h.placed
stage_open w v st (Trap s) r o h = h.placed
stage_open w v st TickUser r o h = h.placed
stage_open w v st TickKernel r o h = h.placed
stage_open w v st TickIdle r o h = h.placed
stage_open w v st (Sleep s pri chan) r o h = h.placed
stage_open w v st (Wake chan) r o h = h.placed
stage_open w v st (Signal s n) r o h = h.placed
stage_open w v st (Nice s nice) r o h = h.placed
stage_open w v st (Time time) r o h = h.placed
stage_open w v st (Size s clicks place) r o h = h.placed
stage_open w v st (SizeKeep s clicks) r o h = h.placed
stage_open w v st (Fork s child place) r o h = h.placed
stage_open w v st (Leave s k sticky) r o h = h.placed
stage_open w v st (Bare s) r o h = (h.user, slot_in s r, h.runs, h.placed)
stage_open w v st (Text s k clicks block) r o h = absurd o
stage_open w v st (Share s k) r o h = absurd o
stage_open w v st (Image s clicks place) r o h = h.placed
stage_open w v st (SwapIn s c) r o h = h.placed
stage_open w v st (SwapOut s block) r o h = h.placed
stage_open w v st (Exit s block) r o h = h.placed
stage_open w v st (Reap s) r o h = h.placed
stage_open w v st (Panic kind) r o h = tt
stage_open w v st End r o h = tt

pub open_sound : (w v : World) (e : Entry) → IsInRange e → Owed w e → IsAfter e v → stage_of v.stage ≡ log.stage_after (stage_of w.stage) e → IsSound v
open_sound w v e r o h s =
    let x : Kept v = kept_after e v h in
    record {
      loose = x.loose;
      at = at_log v.stage v.table (subst (λ y. LogAt y v.table) (sym s) (stage_open w v (stage_of w.stage) e r o h));
      alive = x.alive;
    }

-- in the exec of a slot
stage_exec : (v : World) (s : ℕ) (e : Entry) → s < 50 → IsOfExec s e → IsAfterExec s e v → LogAt (log.stage_after (log.Bared s) e) v.table
stage_exec v q (Boot core time) m o h = absurd o
stage_exec v q (Go s) m o h = absurd o
stage_exec v q Idle m o h = absurd o
stage_exec v q (Trap s) m o h = absurd o
stage_exec v q TickUser m o h = absurd o
stage_exec v q TickKernel m o h = absurd o
stage_exec v q TickIdle m o h = absurd o
stage_exec v q (Sleep s pri chan) m o h = absurd o
stage_exec v q (Wake chan) m o h = absurd o
stage_exec v q (Signal s n) m o h = absurd o
stage_exec v q (Nice s nice) m o h = absurd o
stage_exec v q (Time time) m o h = absurd o
stage_exec v q (Size s clicks place) m o h = absurd o
stage_exec v q (SizeKeep s clicks) m o h = absurd o
stage_exec v q (Fork s child place) m o h = absurd o
stage_exec v q (Leave s k sticky) m o h = absurd o
stage_exec v q (Bare s) m o h = absurd o
stage_exec v q (Text s k clicks block) m o h = (h.user, m, h.runs, h.placed)
stage_exec v q (Share s k) m o h = (h.user, m, h.runs, h.placed)
stage_exec v q (Image s clicks place) m o h = h.placed
stage_exec v q (SwapIn s c) m o h = absurd o
stage_exec v q (SwapOut s block) m o h = absurd o
stage_exec v q (Exit s block) m o h = absurd o
stage_exec v q (Reap s) m o h = absurd o
stage_exec v q (Panic kind) m o h = tt
stage_exec v q End m o h = absurd o

pub exec_sound : (w v : World) (s : ℕ) (e : Entry) → s < 50 → IsOfExec s e → IsAfterExec s e v → stage_of w.stage ≡ log.Bared s
    → stage_of v.stage ≡ log.stage_after (stage_of w.stage) e → IsSound v
exec_sound w v s e m o h b k =
    let x : Kept v = kept_exec s e v h in
    record {
      loose = x.loose;
      at = at_log v.stage v.table (subst (λ y. LogAt y v.table) (sym (k ∙ ap (λ y. log.stage_after y e) b)) (stage_exec v s e m o h));
      alive = x.alive;
    }

-- a world whose stage alone is another
staged_loose : (w : World) (st : Stage) → IsLoose w [] [] → IsLoose (record w { stage = st }) [] []
staged_loose w st l = record {
  table = l.table;
  rows = l.rows;
  texts = l.texts;
  least = l.least;
  most = l.most;
  each = l.each;
  entries = l.entries;
  core = l.core;
  swap = l.swap;
  core_some = l.core_some;
  swap_some = l.swap_some;
  users = l.users;
  loaded = l.loaded;
}

pub staged_whole : (w : World) (st : Stage) → IsWhole w → IsWhole (record w { stage = st })
staged_whole w st h = record { loose = staged_loose w st h.loose; placed = h.placed; alive = h.alive }

pub staged_stripped : (w : World) (s : ℕ) (st : Stage) → IsStripped w s → IsStripped (record w { stage = st }) s
staged_stripped w s st h = record { loose = staged_loose w st h.loose; placed = h.placed; alive = h.alive; runs = h.runs; user = h.user }

pub staged_after : (e : Entry) (w : World) (st : Stage) → IsAfter e w → IsAfter e (record w { stage = st })
staged_after (Boot core time) w st h = staged_whole w st h
staged_after (Go s) w st h = staged_whole w st h
staged_after Idle w st h = staged_whole w st h
staged_after (Trap s) w st h = staged_whole w st h
staged_after TickUser w st h = staged_whole w st h
staged_after TickKernel w st h = staged_whole w st h
staged_after TickIdle w st h = staged_whole w st h
staged_after (Sleep s pri chan) w st h = staged_whole w st h
staged_after (Wake chan) w st h = staged_whole w st h
staged_after (Signal s n) w st h = staged_whole w st h
staged_after (Nice s nice) w st h = staged_whole w st h
staged_after (Time time) w st h = staged_whole w st h
staged_after (Size s clicks place) w st h = staged_whole w st h
staged_after (SizeKeep s clicks) w st h = staged_whole w st h
staged_after (Fork s child place) w st h = staged_whole w st h
staged_after (Leave s k sticky) w st h = staged_whole w st h
staged_after (Bare s) w st h = staged_stripped w s st h
staged_after (Text s k clicks block) w st h = staged_whole w st h
staged_after (Share s k) w st h = staged_whole w st h
staged_after (Image s clicks place) w st h = staged_whole w st h
staged_after (SwapIn s c) w st h = staged_whole w st h
staged_after (SwapOut s block) w st h = staged_whole w st h
staged_after (Exit s block) w st h = staged_whole w st h
staged_after (Reap s) w st h = staged_whole w st h
staged_after (Panic kind) w st h = staged_whole w st h
staged_after End w st h = staged_whole w st h

pub staged_exec : (q : ℕ) (e : Entry) (w : World) (st : Stage) → IsAfterExec q e w → IsAfterExec q e (record w { stage = st })
staged_exec q (Boot core time) w st h = staged_stripped w q st h
staged_exec q (Go s) w st h = staged_stripped w q st h
staged_exec q Idle w st h = staged_stripped w q st h
staged_exec q (Trap s) w st h = staged_stripped w q st h
staged_exec q TickUser w st h = staged_stripped w q st h
staged_exec q TickKernel w st h = staged_stripped w q st h
staged_exec q TickIdle w st h = staged_stripped w q st h
staged_exec q (Sleep s pri chan) w st h = staged_stripped w q st h
staged_exec q (Wake chan) w st h = staged_stripped w q st h
staged_exec q (Signal s n) w st h = staged_stripped w q st h
staged_exec q (Nice s nice) w st h = staged_stripped w q st h
staged_exec q (Time time) w st h = staged_stripped w q st h
staged_exec q (Size s clicks place) w st h = staged_stripped w q st h
staged_exec q (SizeKeep s clicks) w st h = staged_stripped w q st h
staged_exec q (Fork s child place) w st h = staged_stripped w q st h
staged_exec q (Leave s k sticky) w st h = staged_stripped w q st h
staged_exec q (Bare s) w st h = staged_stripped w q st h
staged_exec q (Text s k clicks block) w st h = staged_stripped w q st h
staged_exec q (Share s k) w st h = staged_stripped w q st h
staged_exec q (Image s clicks place) w st h = staged_whole w st h
staged_exec q (SwapIn s c) w st h = staged_stripped w q st h
staged_exec q (SwapOut s block) w st h = staged_stripped w q st h
staged_exec q (Exit s block) w st h = staged_stripped w q st h
staged_exec q (Reap s) w st h = staged_stripped w q st h
staged_exec q (Panic kind) w st h = staged_stripped w q st h
staged_exec q End w st h = staged_stripped w q st h

-- what a sound world is at each stage
pub sound_whole : (w : World) (st : Stage) → IsSound w → w.stage ≡ st → (IsAt st w.table → AllPlaced w.table None) → IsWhole w
sound_whole w st h k f = record { loose = h.loose; placed = f (subst (λ y. IsAt y w.table) k h.at); alive = h.alive }

pub sound_runs : (w : World) → IsSound w → w.stage ≡ mine.Booted → w.table.running ≡ Some 0
sound_runs w h k = let a : IsAt mine.Booted w.table = subst (λ y. IsAt y w.table) k h.at in a.0

pub sound_stripped : (w : World) (s : ℕ) → IsSound w → w.stage ≡ mine.Bared s → IsStripped w s
sound_stripped w s h k =
    let a : IsAt (mine.Bared s) w.table = subst (λ y. IsAt y w.table) k h.at in
    record { loose = h.loose; placed = a.3; alive = h.alive; runs = a.2; user = a.0 }

pub sound_slot : (w : World) (s : ℕ) → IsSound w → w.stage ≡ mine.Bared s → s < 50
sound_slot w s h k = let a : IsAt (mine.Bared s) w.table = subst (λ y. IsAt y w.table) k h.at in a.1

pub fits_at : (w : World) (st : Stage) (e : Entry) → w.stage ≡ st → FitsStage (stage_of w.stage) (board_at w.stage w) e → FitsStage (stage_of st) (board_at st w) e
fits_at w st e k f = subst (λ y. FitsStage (stage_of y) (board_at y w) e) k f

-- a line has been taken
pub taken_seen : (w v : World) (e : Entry) (st : Stage) → FitsStage (stage_of w.stage) (board_at w.stage w) e → board_of v ≡ applied (board_of w) e
    → stage_of st ≡ log.stage_after (stage_of w.stage) e → seen_of (record v { stage = st }) ≡ seen_after (seen_of w) e
taken_seen w v e st f b s = by w.stage refl
  where
    other : (x : Stage) → w.stage ≡ x → stage_of x ≢ log.Blank → seen_of (record v { stage = st }) ≡ seen_after (seen_of w) e
    other x k n = next_seen w (record v { stage = st }) e (λ g. n (sym (ap stage_of k) ∙ g)) s b

    by : (x : Stage) → w.stage ≡ x → seen_of (record v { stage = st }) ≡ seen_after (seen_of w) e
    by mine.Blank k = first_seen w (record v { stage = st }) e (fits_at w mine.Blank e k f) s b
    by mine.Booted k = other mine.Booted k (λ g. cc g)
    by mine.Open k = other mine.Open k (λ g. cc g)
    by mine.Idling k = other mine.Idling k (λ g. cc g)
    by (mine.Bared q) k = other (mine.Bared q) k (λ g. cc g)
    by mine.Over k = other mine.Over k (λ g. cc g)

pub taken_sound : (w v : World) (e : Entry) (st : Stage) → IsSound w → IsInRange e → FitsStage (stage_of w.stage) (board_at w.stage w) e → IsAfterAt w.stage e v
    → stage_of st ≡ log.stage_after (stage_of w.stage) e → IsSound (record v { stage = st })
taken_sound w v e st h r f a s = by w.stage refl
  where
    now : World
    now = record v { stage = st }

    after : (x : Stage) → w.stage ≡ x → IsAfterAt x e v
    after x k = subst (λ y. IsAfterAt y e v) k a

    goes_on : (x : Stage) → w.stage ≡ x → (IsAt x w.table → AllPlaced w.table None) → FitsStage log.Idling (board_of w) e → IsAfter e v → IsSound now
    goes_on x k p g b = open_sound w now e r (owes w e (sound_whole w x h k p) g) (staged_after e v st b) s

    by : (x : Stage) → w.stage ≡ x → IsSound now
    by mine.Blank k =
        let b : (v.table.running ≡ Some 0) × IsWhole v = after mine.Blank k in
        first_sound w now e (fits_at w mine.Blank e k f) s b.0 (staged_whole v st b.1)
    by mine.Booted k =
        let g : e ≡ Sleep 0 pswp RunOut = fits_at w mine.Booted e k f in
        open_sound w now e r (subst (Owed w) (sym g) (sound_runs w h k)) (staged_after e v st (after mine.Booted k)) s
    by mine.Open k = goes_on mine.Open k (λ p. p) (inr (fits_at w mine.Open e k f)) (after mine.Open k)
    by mine.Idling k = goes_on mine.Idling k (λ p. p) (fits_at w mine.Idling e k f) (after mine.Idling k)
    by (mine.Bared q) k =
        let g : IsOfExec q e × FitsBoard (board_of w) e = fits_at w (mine.Bared q) e k f in
        exec_sound w now q e (sound_slot w q h k) g.0 (staged_exec q e v st (after (mine.Bared q) k)) (ap stage_of k) s
    by mine.Over k = absurd (fits_at w mine.Over e k f)
