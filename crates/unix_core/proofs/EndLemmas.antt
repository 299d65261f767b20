-- A turn ends: what belongs together still does, whether the process goes on, sleeps or has exited.
use Rattle.std.proofs.Common.{◌≡◌, ◌≤◌, ◌≢◌, ◌<◌, ◌==◌, cond, ℕ, Bool, true, false, ℤ, int_lt, pos, [], map, Some, refl, sym, ap, ◌∙◌, subst, arith}
use Rattle.std.proofs.lemmas.List.{get_or-set_same, get_or-set_other, length-set}
use Rattle.v6_base.specs.Trace.{Took, Taken}
use Rattle.v6_base.specs.declared.entry.Chan.{Chan}
use Rattle.v6_base.specs.declared.entry.Chan.TheVariants.{RunIn}
use Rattle.pick_rules.specs.declared.row.Stat.TheVariants.{Sleeping, Waiting}
use Rattle.pick_rules.specs.declared.row.TableRow.{TableRow}
use Rattle.pick_rules.specs.declared.table.Table.{Table}
use Rattle.pick_rules.specs.Table.{empty_row, row_at, same_chan, IsTable}
use Rattle.pick_rules.specs.Priority.{setpri}
use Rattle.pick_rules.specs.Sleepers.{sleep_stat, runin_told, asleep, flagged, fall_asleep}
use Rattle.pick_rules.specs.Effects.{Show}
use Rattle.pick_rules.specs.Logged.{logged}
use Rattle.pick_rules.proofs.Laws.{sleep_now, sleep_ticks, sleep_tout, sleep_running}
use Rattle.image_keep.specs.Kept.{Kept, HasImage, keeping}
use Rattle.proc_tab.specs.Processes.{Processes, member_at}
use Rattle.sys_procs.specs.World.{clock_of}
use Rattle.sys_procs.specs.Agree.{Lives, kind_of_stat, kind_of_member, kind_of_keeping, Agrees, Agree}
use Rattle.sys_procs.proofs.Agreement.{AreLike, agree_like, agree_but, tables_same}
use Rattle.unix_core.specs.declared.world.World.{World}
use Rattle.unix_core.specs.declared.machine.Stage.{Stage}
use Rattle.unix_core.specs.declared.machine.Stage.TheVariants as stage
use Rattle.abstract_unix.specs.declared.ending.Ending.{Ending}
use Rattle.abstract_unix.specs.declared.ending.Ending.TheVariants as ending
use Rattle.abstract_unix.specs.declared.ends.Ends.TheVariants.{AtEnd}
use Rattle.abstract_unix.specs.Unix.{Unix, Started}
use Rattle.unix_core.specs.Passing.{trapped, ended_table}
use Rattle.abstract_unix.specs.Endings.{is_early}
use Rattle.abstract_unix.proofs.RunsLemmas.{whole_answer}
use Rattle.abstract_unix.specs.Turn.{Happened, with_slot, end_effects, ending_of, settled, turned_by, turned}
use Rattle.unix_core.specs.Slots.{with_sent, slot_items}
use Rattle.unix_core.specs.Parts.{unix_of, board_in, system_at, turn_end, phase_of, is_over, IsGood, IsCovered, IsKernel, Takes}
use Rattle.unix_core.proofs.BootKernelLemmas.{stopped_kernel}
use Rattle.unix_core.proofs.SlotEnds.{woken_log, settled_takes, settled_items}
use Rattle.unix_core.proofs.TableLemmas.{RunsImage, with_table, good_table}
use Rattle.unix_core.proofs.TickLemmas.{trapped_like, runin_like}

asleep_lives : (x : ℤ) → kind_of_stat (sleep_stat x) ≡ Lives
asleep_lives x = by (int_lt x (pos 0))
  where
    by : (c : Bool) → kind_of_stat (cond c Sleeping Waiting) ≡ Lives
    by true = refl
    by false = refl

flagged_like : (first t : Table) (s : ℕ) (w : Chan) → AreLike first t → AreLike first (flagged t s w)
flagged_like first t s w l = by (s == 0) (same_chan w RunIn)
  where
    by : (a b : Bool) → AreLike first (cond a (cond b (record t { runin = true }) (record t { runout = true })) t)
    by true true = record { long = l.long; each = l.each }
    by true false = record { long = l.long; each = l.each }
    by false b = l

lain_like : (t : Table) (s : ℕ) (pri : ℤ) (w : Chan) → AreLike (asleep t s pri w) (fall_asleep t s pri w)
unfolding fall_asleep
lain_like t s pri w = by (int_lt pri (pos 0))
  where
    lain : Table
    lain = asleep t s pri w

    same : AreLike lain lain
    same = tables_same lain lain refl

    by : (b : Bool) → AreLike lain (flagged (cond b lain (runin_told lain)) s w)
    by true = flagged_like lain lain s w same
    by false = flagged_like lain (runin_told lain) s w (runin_like lain lain same)

abbrev lain_row : Table → ℕ → ℤ → Chan → TableRow
lain_row t s pri w = record (row_at t s) { stat = sleep_stat pri; pri = pri; channel = Some w; calling = true }

module _ (v : Processes) (k : Kept) (t : Table) (s : ℕ) (agree : Agree v t k) (above : 0 < s) (low : s < 50) where
  lain_agree : (pri : ℤ) (w : Chan) → HasImage k s → Agree v (asleep t s pri w) k
  lain_agree pri w has =
      let old = agree.each s above low in
      let kind : kind_of_member (member_at v.slots s) ≡ Lives = sym old.image ∙ ap kind_of_keeping has.1 in
      let new : Agrees (member_at v.slots s) (lain_row t s pri w) (keeping k s) = record {
        stat = asleep_lives pri ∙ sym kind;
        image = old.image;
        place = old.place;
        size = old.size;
        quiet = λ f. absurd (f kind);
        textless = old.textless;
      } in
      let here : row_at (asleep t s pri w) s ≡ lain_row t s pri w =
      get_or-set_same t.rows s (lain_row t s pri w) empty_row (let long = agree.rows in omega (arith, long, low)) in
      agree_but v v t (asleep t s pri w) k k s agree above
      (record { last = agree.table.last; running = tt; ticks = agree.table.ticks })
      (length-set t.rows s (lain_row t s pri w))
      (subst (λ row. Agrees (member_at v.slots s) row (keeping k s)) (sym here) new)
      (ap (λ (row : TableRow). row.text) here ∙ agree.text s above low) (record { texts = refl; users = refl })
      (λ r other. refl) (λ r other. get_or-set_other t.rows s r (lain_row t s pri w) empty_row other) (λ r other. refl)

  pub ended_agree : (u : Table) (e : Ending) → u ≡ ended_table t s e → IsTable u → (e ≢ ending.Ended → HasImage k s) → Agree v u k
  ended_agree u ending.Next is good has = subst (λ x. Agree v x k) (sym is) agree
  ended_agree u ending.Trapped is good has = agree_like v t u k agree good (subst (AreLike t) (sym is) (trapped_like t t s (tables_same t t refl)))
  ended_agree u (ending.Slept pri chan) is good has =
      agree_like v (asleep t s pri chan) u k (lain_agree pri chan (has (λ e. cc e))) good (subst (AreLike (asleep t s pri chan)) (sym is) (lain_like t s pri chan))
  ended_agree u ending.Ended is good has = subst (λ x. Agree v x k) (sym is) agree
  ended_agree u (ending.Panic kind) is good has = subst (λ x. Agree v x k) (sym is) agree

-- a turn with which the run doesn't end
pub not_over : (e : Ending) → ending_of e ≡ AtEnd → is_over e ≡ false
not_over ending.Next goes = refl
not_over ending.Trapped goes = refl
not_over (ending.Slept pri chan) goes = refl
not_over ending.Ended goes = refl
not_over (ending.Panic kind) goes = absurd (cc goes)

trapped_running : (t : Table) (s : ℕ) → (trapped t s).running ≡ t.running
unfolding setpri
trapped_running t s = refl

trapped_clock : (t : Table) (s : ℕ) → clock_of (trapped t s) ≡ clock_of t
unfolding setpri
trapped_clock t s = refl

-- nobody else runs then
ended_runs : (t : Table) (s : ℕ) (e : Ending) (r : ℕ) → (ended_table t s e).running ≡ Some r → t.running ≡ Some r
ended_runs t s ending.Next r is = is
ended_runs t s ending.Trapped r is = sym (trapped_running t s) ∙ is
ended_runs t s (ending.Slept pri chan) r is = absurd (let none = sleep_running t s pri chan in cc (none, is))
ended_runs t s ending.Ended r is = is
ended_runs t s (ending.Panic kind) r is = is

pub ended_image : (k : Kept) (t u : Table) (s : ℕ) (e : Ending) → u ≡ ended_table t s e → RunsImage t k → RunsImage u k
ended_image k t u s e is runs r now above = runs r (ended_runs t s e r (ap (λ (x : Table). x.running) (sym is) ∙ now)) above

pub ended_clock : (t : Table) (s : ℕ) (e : Ending) → clock_of (ended_table t s e) ≡ clock_of t
ended_clock t s ending.Next = refl
ended_clock t s ending.Trapped = trapped_clock t s
ended_clock t s (ending.Slept pri chan) = λ i. record { time = sleep_now t s pri chan i; ticks = sleep_ticks t s pri chan i; tout = sleep_tout t s pri chan i }
ended_clock t s ending.Ended = refl
ended_clock t s (ending.Panic kind) = refl

module _ (w : World) (good : IsGood w) (s : ℕ) (above : 0 < s) (low : s < 50) (e : Ending) (runs : e ≢ ending.Ended → w.procs.table.running ≡ Some s)
    (t : Table) (is : t ≡ ended_table w.procs.table s e) (table : IsTable t) where
  pub ended_good : IsGood (with_table w t)
  ended_good =
      good_table w t
      (ended_agree w.procs.rows w.procs.images.kept w.procs.table s good.agree above low t e is table (λ alive. good.running s (runs alive) above))
      (ended_image w.procs.images.kept w.procs.table t s e is good.running) good

  -- the clock goes on as it did
  pub ended_unix : unix_of (with_table w t) ≡ unix_of w
  ended_unix = let clock : clock_of t ≡ clock_of w.procs.table = ap clock_of is ∙ ended_clock w.procs.table s e in
      λ i. record (unix_of w) { clock = clock i }

  -- The run goes on: the slot has been counted in this world.
  module _ (goes : ending_of e ≡ AtEnd) (v : World) (unix : unix_of v ≡ with_sent (with_slot (unix_of (with_table w t))))
      (woken : board_in v ≡ (logged {W = Unix} (board_in (with_table w t)) (map Show (slot_items (with_slot (unix_of (with_table w t)))))).board)
      (board : board_in (with_table w t) ≡ (logged {W = Unix} (board_in w) (end_effects s e)).board) where
    abbrev done : Happened
    done = record { unix = unix_of w; log = logged (board_in w) (end_effects s e); is_idle = false; settles = true; ending = ending_of e }

    unix_then : unix_of v ≡ with_sent (with_slot (unix_of w))
    unix_then = unix ∙ ap (λ (u : Unix). with_sent (with_slot u)) ended_unix

    board_then : board_in v ≡ (woken_log (unix_of w) (logged {W = Unix} (board_in w) (end_effects s e)).board).board
    board_then = woken ∙ (λ i. (woken_log (ended_unix i) (board i)).board)

    pub ended_takes : (at : Stage) (x : World) → IsKernel at x → phase_of at ≡ Started
        → system_at x ≡ record (system_at v) { board = (settled (board_in v)).board } → Takes (turn_end w s e) at x
    ended_takes = settled_takes done goes (λ none. refl) v unix_then board_then

    pub ended_items : (a b c d : Taken) → Took a (logged {W = Unix} (board_in w) (end_effects s e)).items b
        → Took b (slot_items (with_slot (unix_of (with_table w t)))) c → Took c (settled (board_in v)).items d → Took a (turn_end w s e).items d
    ended_items a b c d first second third =
        settled_items done goes (λ none. refl) v unix_then board_then a b c d first
        (subst (λ (u : Unix). Took b (slot_items (with_slot u)) c) ended_unix second) third

-- The run ends.
module _ (w : World) (s : ℕ) where
  pub stopped_takes : (e : Ending) → is_early (ending_of e) ≡ true → (is_over e ≡ true → IsCovered w) → w.slots.left ≤ w.slots.due
      → Takes (turn_end w s e) stage.Stopped w
  stopped_takes ending.Next f covered within = absurd (cc f)
  stopped_takes ending.Trapped f covered within = absurd (cc f)
  stopped_takes (ending.Slept pri chan) f covered within = absurd (cc f)
  stopped_takes ending.Ended f covered within = absurd (cc f)
  stopped_takes (ending.Panic kind) f covered within = record { kernel = stopped_kernel w (covered refl) within; system = refl; phase = refl }

  pub stopped_items : (e : Ending) → is_early (ending_of e) ≡ true → (turn_end w s e).items ≡ []
  stopped_items ending.Next f = absurd (cc f)
  stopped_items ending.Trapped f = absurd (cc f)
  stopped_items (ending.Slept pri chan) f = absurd (cc f)
  stopped_items ending.Ended f = absurd (cc f)
  stopped_items (ending.Panic kind) f = refl

  -- what is answered of it
  pub end_answer : (e : Ending) → turned_by (ending_of e) false ≡ turned (turn_end w s e)
  end_answer e = sym (whole_answer (record { unix = unix_of w; log = logged (board_in w) (end_effects s e); is_idle = false; settles = true; ending = ending_of e }))
