-- What is so of the parts after a call on processes. Where it stops they belong together, or the call says what it has left; and
-- a call that isn't exec leaves the texts, and with them which inodes are marked.
use Rattle.std.proofs.Common.{◌≡◌, ◌≢◌, ◌⊎◌, ◌∙◌, ℕ, ◌==◌, Bool, true, false, cond, List, [], ◌∷◌, ◌++◌, map, length, Option, Some, None, slice_index, refl, sym, ap, inl, inr}
use Rattle.std.specs.Prelude.{Result, Ok, Err, IfErr}
use Rattle.v6_base.specs.Trace.{Taken, Log}
use Rattle.v6_base.specs.declared.entry.Entry.TheVariants as line
use Rattle.v6_base.specs.declared.answer.Answer.{Answer}
use Rattle.v6_base.specs.declared.entry.PanicKind.{PanicKind}
use Rattle.sig_core.specs.Signals.{is_signal}
use Rattle.pick_rules.specs.Effects.{Effect, Show}
use Rattle.pick_rules.specs.Logged.{Stop, left_by}
use Rattle.fs_nodes.specs.FileSystem.{FileSystem}
use Rattle.seg_regs.specs.Sizes.{is_refused}
use Rattle.mount_tab.specs.Mounted.{MountTable}
use Rattle.sys_procs.specs.declared.procs.Procs.{Procs}
use Rattle.sys_procs.specs.World.{World, process_of, change, without_process, texts_in}
use Rattle.sys_procs.specs.Times.{with_time}
use Rattle.sys_procs.specs.Comes.{Comes}
use Rattle.sys_procs.specs.Signals.{signal_lines, meant_in, is_reached, kill_to}
use Rattle.sys_procs.specs.Break.{clicks_up_to, break_at}
use Rattle.sys_procs.specs.TextTable.{Text, marks_of}
use Rattle.sys_procs.specs.Handed.{handed, board, came, IsMarked}
use Rattle.sys_procs.specs.Done.{HasDone}
use Rattle.abstract_unix.specs.declared.calls.ProcessCall.{ProcessCall}
use Rattle.abstract_unix.specs.declared.calls.ProcessCall.TheVariants as process
use Rattle.abstract_unix.specs.Calls.{process_row}
use Rattle.abstract_unix.proofs.Moved.{AreTamed, tamed_moves, tamed_mild, mild_wake, mild_signal, mild_nice, mild_time, mild_reap}
use Rattle.abstract_unix.proofs.ProcessRows.{Plain, gives, refuses, waits, changes, due, nice, wakes, dated, buries, plain_row}

pub stops_whole : {A E : Type 0} (r : Result A E) (P Q : Type 0) → P → IfErr r (λ e. P ⊎ Q)
stops_whole (Ok a) P Q p = tt
stops_whole (Err e) P Q p = inl p

pub stops_so : {A E : Type 0} (r : Result A E) (P Q : Type 0) → IfErr r (λ e. Q) → IfErr r (λ e. P ⊎ Q)
stops_so (Ok a) P Q q = tt
stops_so (Err e) P Q q = inr q

-- A call that leaves these texts, also where it stops.
pub record Leaves (texts : List (Option Text)) (c : Comes) : Type 0 where
  pub effects : AreTamed (λ (x : World). x.texts ≡ texts) c.effects
  pub state : c.state.texts ≡ texts

mild_leaves : (texts : List (Option Text)) (c : Comes) → AreTamed (λ (x : World). ⊥) c.effects → c.state.texts ≡ texts → Leaves texts c
mild_leaves texts c tamed state = record { effects = tamed_mild _ c.effects tamed; state = state }

-- A call that wants no place for an image makes no demand, and leaves the texts.
plain_quiet : (s : ℕ) (w : World) (c : Comes) → Plain s w c → AreTamed (λ (x : World). ⊥) c.effects × (c.state.texts ≡ w.texts)
plain_quiet s w c (gives v r0 r1) = (tt, refl)
plain_quiet s w c (refuses v e) = (tt, refl)
plain_quiet s w c (waits v rule pri chan same sleeping is range) = (tt, refl)
plain_quiet s w c (changes v rule d same pending rest) = plain_quiet s (change w s rule) c rest
plain_quiet s w c (due v tout d rest) = plain_quiet s (record w { clock = record w.clock { tout = tout } }) c rest
plain_quiet s w c (nice v value d range rest) = let q = plain_quiet s w d rest in ((mild_nice s value, q.0), q.1)
plain_quiet s w c (wakes v chan d range rest) = let q = plain_quiet s w d rest in ((mild_wake chan, q.0), q.1)
plain_quiet s w c (dated v time d range rest) = let q = plain_quiet s (with_time w time) d rest in ((mild_time time, q.0), q.1)
plain_quiet s w c (buries v k d grave rest) = let q = plain_quiet s (without_process w k) d rest in ((mild_reap k, q.0), q.1)

plain_leaves : (s : ℕ) (w : World) (c : Comes) → Plain s w c → Leaves w.texts c
plain_leaves s w c plain = let q = plain_quiet s w c plain in mild_leaves w.texts c q.0 q.1

leaves_if : (texts : List (Option Text)) (b : Bool) (x y : Comes) → Leaves texts x → Leaves texts y → Leaves texts (cond b x y)
leaves_if texts true x y f g = f
leaves_if texts false x y f g = g

break_leaves : (w : World) (s at : ℕ) → Leaves w.texts (break_at w s at)
unfolding break_at
break_leaves w s at =
    let u = (process_of w s).u in
    leaves_if w.texts (is_refused u.text_size (clicks_up_to u.text_size at) u.stack_size w.limit) _ _
    (record { effects = tt; state = refl }) (record { effects = (refl, tt); state = refl })

-- lines of signals, and then what makes no demand
kill_lines : (n : ℕ) (slots : List ℕ) (rest : List (Effect World)) → AreTamed (λ (x : World). ⊥) rest
    → AreTamed (λ (x : World). ⊥) (map Show (map (λ r. Log (line.Signal r n)) slots) ++ rest)
kill_lines n [] rest tamed = tamed
kill_lines n (r ∷ slots) rest tamed = (mild_signal r n, kill_lines n slots rest tamed)

pub signal_tamed : (n : ℕ) (slots : List ℕ) (rest : List (Effect World)) → AreTamed (λ (x : World). ⊥) rest
    → AreTamed (λ (x : World). ⊥) (map Show (signal_lines n slots) ++ rest)
signal_tamed n slots rest tamed = by (is_signal n)
  where
    by : (b : Bool) → AreTamed (λ (x : World). ⊥) (map Show (cond b (map (λ r. Log (line.Signal r n)) slots) []) ++ rest)
    by true = kill_lines n slots rest tamed
    by false = tamed

kill_leaves : (w : World) (s n : ℕ) → Leaves w.texts (kill_to w s n)
unfolding kill_to
kill_leaves w s n =
    let slots : List ℕ = meant_in (is_reached s (process_of w s)) w.processes in
    leaves_if w.texts (length slots == 0) _ _ (record { effects = tt; state = refl })
    (mild_leaves w.texts _ (signal_tamed n slots [] tt) refl)

row_leaves : (call : ProcessCall) → call ≢ process.Exec → (mounts : MountTable) (s : ℕ) (w : World) (args : List ℕ)
    → Leaves w.texts (process_row call mounts w s args)
row_leaves process.Exec other mounts s w a = absurd (other refl)
row_leaves process.Break other mounts s w a = break_leaves w s (slice_index a 0)
row_leaves process.Kill other mounts s w a = kill_leaves w s (slice_index a 0)
row_leaves call other mounts s w a = plain_leaves s w _ (plain_row call tt mounts s w a)

left_so : (old new : Procs) (fs : FileSystem) (texts : List (Option Text)) {r : Result Answer PanicKind} {start end : Taken} (c : Comes) → Leaves texts c
    → HasDone old new fs r start end c → texts_in new.images.kept ≡ texts
left_so old new fs texts c leaves done = ap (λ (x : World). x.texts) done.state ∙ by (came old c).stop refl
  where
    by : (o : Option (Stop World)) → (came old c).stop ≡ o → (left_by o c.state).texts ≡ texts
    by None none = leaves.state
    by (Some stop) some = (tamed_moves (λ (x : World). x.texts ≡ texts) (board old) c.effects leaves.effects).before stop some

-- The marks after a call that isn't exec.
pub marks_stay : (call : ProcessCall) → call ≢ process.Exec → (mounts : MountTable) (old new : Procs) (was now : FileSystem) (s : ℕ) (args : List ℕ) (before after : List Bool)
    {r : Result Answer PanicKind} {start end : Taken} → HasDone old new now r start end (process_row call mounts (handed old was) s args)
    → IsMarked old before → after ≡ before → IsMarked new after
marks_stay call other mounts old new was now s args before after done marked same =
    same ∙ marked ∙ ap marks_of (sym (left_so old new now (texts_in old.images.kept) _ (row_leaves call other mounts s (handed old was) args) done))
