-- What a call on files has shown is passed on: sleepers are woken, and the steps of a turn have come.
use Rattle.std.proofs.Common.{◌≡◌, ◌∙◌, ◌<◌, ℕ, suc, pos, Bool, true, false, cond, List, [], ◌∷◌, map, None, refl, sym, ap, subst}
use Rattle.std.specs.Int.{int_min}
use Rattle.v6_base.specs.Trace.{Item, Taken, Took}
use Rattle.v6_base.specs.declared.entry.Chan.{Chan}
use Rattle.v6_base.specs.declared.entry.Entry.{Entry}
use Rattle.v6_base.specs.declared.entry.Entry.TheVariants.{Boot, Go, Idle, Trap, TickUser, TickKernel, TickIdle, Sleep, Wake, Signal, Nice, Time, Size, SizeKeep, Fork, Leave, Bare, Text, Share, Image, SwapIn, SwapOut, Exit, Reap, Panic, End}
use Rattle.pick_rules.specs.declared.table.Table.{Table}
use Rattle.pick_rules.specs.Table.{row_at, with_row, is_waiting, is_ready, IsTable}
use Rattle.pick_rules.specs.Sleepers.{made_ready, setrun, wakeup, signalled}
use Rattle.pick_rules.specs.Board.{Board}
use Rattle.pick_rules.specs.Effects.{Show}
use Rattle.pick_rules.specs.Logged.{Logged, logged}
use Rattle.pick_rules.proofs.Laws as law
use Rattle.proc_tab.specs.Processes.{Processes}
use Rattle.image_keep.specs.Kept.{Kept}
use Rattle.sys_files.specs.Handed.{Handed}
use Rattle.sys_procs.specs.Agree.{Agree, text_place}
use Rattle.sys_procs.proofs.Agreement.{wakeup_like, agree_like}
use Rattle.sys_procs.proofs.Signalled.{agree_signalled}
use Rattle.unix_core.specs.declared.world.World.{World}
use Rattle.abstract_unix.specs.declared.ending.Ending.{Ending}
use Rattle.abstract_unix.specs.Unix.{Unix}
use Rattle.abstract_unix.specs.Steps.{Steps, after_effects}
use Rattle.abstract_unix.specs.Calls.{in_order, with_handed}
use Rattle.unix_core.specs.Passing.{HasSlot, HaveSlots, woken_by, all_woken, shown_by}
use Rattle.unix_core.specs.Parts.{unix_of, board_in, IsReady, IsReadyToShow, HasCome}
use Rattle.unix_core.proofs.GoingLemmas.{going_same}
use Rattle.unix_core.proofs.LoggedLemmas.{logged_shown}
use Rattle.unix_core.proofs.ThenLemmas.{come_then, items_then}

-- What each waking keeps, and each signal to a process, all of them keep.
module _ (P : Table → Type 0) (wakes : (t : Table) (chan : Chan) → P t → P (wakeup t chan))
    (signals : (t : Table) (s : ℕ) → 0 < s → s < 50 → P t → P (signalled t s)) where
  one_stays : (e : Entry) → HasSlot e → (t : Table) → P t → P (woken_by t e)
  one_stays (Boot core time) slot t p = p
  one_stays (Go s) slot t p = p
  one_stays Idle slot t p = p
  one_stays (Trap s) slot t p = p
  one_stays TickUser slot t p = p
  one_stays TickKernel slot t p = p
  one_stays TickIdle slot t p = p
  one_stays (Sleep s pri chan) slot t p = p
  one_stays (Wake chan) slot t p = wakes t chan p
  one_stays (Signal s n) slot t p = let has = slot s n refl in signals t s has.0 has.1 p
  one_stays (Nice s nice) slot t p = p
  one_stays (Time time) slot t p = p
  one_stays (Size s clicks place) slot t p = p
  one_stays (SizeKeep s clicks) slot t p = p
  one_stays (Fork s child place) slot t p = p
  one_stays (Leave s k sticky) slot t p = p
  one_stays (Bare s) slot t p = p
  one_stays (Text s k clicks block) slot t p = p
  one_stays (Share s k) slot t p = p
  one_stays (Image s clicks place) slot t p = p
  one_stays (SwapIn s c) slot t p = p
  one_stays (SwapOut s block) slot t p = p
  one_stays (Exit s block) slot t p = p
  one_stays (Reap s) slot t p = p
  one_stays (Panic kind) slot t p = p
  one_stays End slot t p = p

  pub all_stays : (entries : List Entry) → HaveSlots entries → (t : Table) → P t → P (all_woken t entries)
  all_stays [] slots t p = p
  all_stays (e ∷ entries) slots t p = all_stays entries (λ i. slots (suc i)) (woken_by t e) (one_stays e (slots 0) t p)

-- A signal keeps time and who runs, and leaves ready who was.
pub signalled_kept : (t : Table) (s : ℕ) → law.Kept t (signalled t s)
unfolding signalled
signalled_kept t s = by (is_waiting (row_at t s).stat)
  where
    lowered : Table
    lowered = with_row t s (record (row_at t s) { pri = int_min (row_at t s).pri (pos 100) })

    same : law.Kept t lowered
    same = record {
      now = refl;
      ticks = refl;
      tout = refl;
      running = refl;
      ready = law.set_each (λ r x. is_ready (row_at t r).stat ≡ true → is_ready x.stat ≡ true) t.rows s _ (λ r e. e) (λ e. e);
    }

    by : (b : Bool) → law.Kept t (cond b (setrun lowered s) lowered)
    by true = law.kept_trans t lowered (setrun lowered s) same (law.setrun_kept lowered s)
    by false = same

pub woken_kept : (t : Table) (entries : List Entry) → HaveSlots entries → law.Kept t (all_woken t entries)
woken_kept t entries slots =
    all_stays (law.Kept t) (λ u chan k. law.kept_trans t u (wakeup u chan) k (law.wakeup_kept u chan))
    (λ u s above low k. law.kept_trans t u (signalled u s) k (signalled_kept u s)) entries slots t (law.kept_none t)

-- It is a table still, whoever is woken.
table_stays : law.Stays IsTable
unfolding made_ready
table_stays = record {
  woken = λ t s w on good. record { last = good.last; running = good.running; ticks = good.ticks };
  runout = λ t good. record { last = good.last; running = good.running; ticks = good.ticks };
  runin = λ t good. record { last = good.last; running = good.running; ticks = good.ticks };
}

-- Rows, slots and images still agree.
pub woken_agree : (v : Processes) (t : Table) (k : Kept) (entries : List Entry) → HaveSlots entries → Agree v t k → Agree v (all_woken t entries) k
woken_agree v t k entries slots agree =
    all_stays (λ u. Agree v u k)
    (λ u chan a. agree_like v u (wakeup u chan) k a (law.wakeup_stays IsTable table_stays u chan a.table) (wakeup_like u chan))
    (λ u s above low a. agree_signalled v u k s a above low) entries slots t agree

-- a world whose table has taken these lines
abbrev pub with_woken : World → List Entry → World
with_woken w entries = record w { procs = record w.procs { table = all_woken w.procs.table entries } }

module _ (w : World) (entries : List Entry) (slots : HaveSlots entries) where
  pub woken_unix : unix_of (with_woken w entries) ≡ unix_of w
  woken_unix =
      let kept = woken_kept w.procs.table entries slots in
      λ i. record (unix_of w) { clock = record { time = kept.now i; ticks = kept.ticks i; tout = kept.tout i } }

  pub woken_ready : (s : ℕ) → IsReady w s → IsReady (with_woken w entries) s
  woken_ready s ready =
      let kept = woken_kept w.procs.table entries slots in
      record {
        good = record {
          agree = woken_agree w.procs.rows w.procs.table w.procs.images.kept entries slots ready.good.agree;
          running = λ r is above. ready.good.running r (sym kept.running ∙ is) above;
          owed = ready.good.owed;
          pending = going_same (unix_of w) (unix_of (with_woken w entries)) refl refl ready.good.pending;
          marks = ready.good.marks;
          mounts = ready.good.mounts;
          rooms = ready.good.rooms;
          core = ready.good.core;
        };
        runs = kept.running ∙ ready.runs;
        user = ready.user;
      }

-- the board of the lines is the one of the table
pub shown_board : (w new : World) (s : ℕ) (items : List Item) → IsReadyToShow w new s items
    → board_in (with_woken new new.tape.entries) ≡ (logged {W = Unix} (board_in w) (map Show (in_order items))).board
shown_board w new s items shown =
    sym (shown.wakes new.procs.table new.procs.images.kept)
    ∙ ap (λ (b : Board). (logged {W = Unix} b (map Show (in_order items))).board)
    (λ i. record { table = record (shown.table i) { tout = 0 }; texts = map text_place (shown.texts i); core = shown.core i })

-- a world with another table
abbrev pub with_table : World → Table → World
with_table w t = record w { procs = record w.procs { table = t } }

-- A call on files has been done, and what it shows has been passed on, by which the table is this one.
module _ (w new : World) (s : ℕ) (state : Handed) (items : List Item) (shown : IsReadyToShow w new s items)
    (unix : unix_of new ≡ with_handed (unix_of w) s state) (t : Table) (is : t ≡ all_woken new.procs.table new.tape.entries) where
  pub passed_unix : unix_of (with_table new t) ≡ with_handed (unix_of w) s state
  passed_unix = ap (λ x. unix_of (with_table new x)) is ∙ woken_unix new new.tape.entries shown.slots ∙ unix

  pub passed_ready : IsReady (with_table new t) s
  passed_ready = subst (λ x. IsReady (with_table new x) s) (sym is) (woken_ready new new.tape.entries shown.slots s shown.ready)

  pub passed_board : board_in (with_table new t) ≡ (logged {W = Unix} (board_in w) (map Show (in_order items))).board
  passed_board = ap (λ x. board_in (with_table new x)) is ∙ shown_board w new s items shown

  pub passed_quiet : (logged {W = Unix} (board_in w) (map Show (in_order items))).stop ≡ None
  passed_quiet = ap (λ (l : Logged Unix). l.stop) (logged_shown {W = Unix} (board_in w) (in_order items))

  -- what has been taken is what the log has
  pub passed_took : (a b : Taken) → Took a (shown_by new.tape) b → Took a (logged {W = Unix} (board_in w) (map Show (in_order items))).items b
  passed_took a b took =
      subst (λ (l : List Item). Took a l b) (shown.shown ∙ sym (ap (λ (l : Logged Unix). l.items) (logged_shown {W = Unix} (board_in w) (in_order items)))) took

  -- The rest of the turn, over the board then.
  module _ (next : Unix → Steps) where
    pub passed_come : (e : Ending) (now : World) → HasCome (board_in (with_table new t)) (next (unix_of (with_table new t))) e now
        → HasCome (board_in w) (after_effects (map Show (in_order items)) (next (with_handed (unix_of w) s state))) e now
    passed_come e now come =
        come_then (board_in w) (map Show (in_order items)) (next (with_handed (unix_of w) s state)) passed_quiet e now
        (subst (λ (b : Board). HasCome b (next (with_handed (unix_of w) s state)) e now) passed_board
        (subst (λ (u : Unix). HasCome (board_in (with_table new t)) (next u) e now) passed_unix come))

    pub passed_items : (a b c : Taken) → Took a (shown_by new.tape) b
        → Took b (logged (board_in (with_table new t)) (next (unix_of (with_table new t))).effects).items c
        → Took a (logged (board_in w) (after_effects (map Show (in_order items)) (next (with_handed (unix_of w) s state))).effects).items c
    passed_items a b c one two =
        items_then (board_in w) (map Show (in_order items)) (next (with_handed (unix_of w) s state)) passed_quiet a b c (passed_took a b one)
        (subst (λ (x : Board). Took b (logged x (next (with_handed (unix_of w) s state)).effects).items c) passed_board
        (subst (λ (u : Unix). Took b (logged (board_in (with_table new t)) (next u).effects).items c) passed_unix two))
