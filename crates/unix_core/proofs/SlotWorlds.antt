-- A world whose slots are counted otherwise: what is so of it still is.
use Rattle.std.proofs.Common.{◌≡◌, ◌≢◌, ◌∙◌, ◌<◌, ◌≤◌, ◌+◌, ◌-◌, ◌==◌, ◌&&◌, ◌||◌, ◌++◌, not, cond, nat_lt, ℕ, suc, Bool, true, false, List, [], ◌∷◌, length, drop, map, refl, sym, ap, subst, inl, inr, arith}
use Rattle.std.proofs.lemmas.Bool.{le-leb}
use Rattle.v6_base.specs.Trace.{Took, Taken}
use Rattle.v6_base.proofs.Took.{took_more}
use Rattle.tty_line.specs.Terminal.{Terminal}
use Rattle.pick_rules.specs.Board.{Board}
use Rattle.pick_rules.specs.Effects.{Show}
use Rattle.pick_rules.specs.Logged.{logged}
use Rattle.sys_procs.specs.declared.procs.Procs.{Procs}
use Rattle.sys_procs.specs.World.{clock_of}
use Rattle.sys_procs.specs.Agree.{Agree}
use Rattle.sys_procs.specs.Handed.{AreProcs}
use Rattle.std.specs.List.{list_any}
use Rattle.tty_line.specs.Said.{sends, holds, is_low}
use Rattle.lines_eight.specs.Told.{AllTold, told, each_from, each_line}
use Rattle.abstract_unix.specs.Unix.{Unix}
use Rattle.abstract_unix.specs.Turn.{with_slot, disk_lines, is_sending}
use Rattle.abstract_unix.proofs.Stretches.{nobody_due}
use Rattle.unix_core.specs.declared.world.World.{World}
use Rattle.unix_core.specs.declared.slots.Slots.{Slots}
use Rattle.unix_core.specs.declared.machine.Stage.{Stage}
use Rattle.unix_core.specs.Memory.{kept_in}
use Rattle.unix_core.specs.Slots.{passed_in, timing_in, IsTimed, IsCounted, processes_of, woken_with, AreDueFrom, sent_after, with_sent, slot_items, slot_wakes}
use Rattle.unix_core.specs.Parts.{unix_of, board_in, phase_of, goes_on, one_before, IsGood, IsReady, IsUser, IsCovered, IsKernel}
use Rattle.unix_core.proofs.GoingLemmas.{going_same}
use Rattle.unix_core.proofs.CountLemmas.{counted_one}
use Rattle.unix_core.proofs.DiskWakes.{board_more}
use Rattle.unix_core.proofs.TableLemmas.{RunsImage, with_table, good_table}
use Rattle.unix_core.proofs.TypedLemmas.{with_lines, lines_good}

abbrev pub with_slots : World → Slots → World
with_slots w slots = record w { slots = slots }

module _ (w : World) (slots : Slots) where
  pub good_slots : IsGood w → IsGood (with_slots w slots)
  good_slots good = record {
    agree = good.agree;
    owed = good.owed;
    pending = going_same (unix_of w) (unix_of (with_slots w slots)) refl refl good.pending;
    marks = good.marks;
    mounts = good.mounts;
    running = good.running;
    rooms = good.rooms;
    core = good.core;
  }

  pub ready_slots : (s : ℕ) → IsReady w s → IsReady (with_slots w slots) s
  ready_slots s ready = record { good = good_slots ready.good; runs = ready.runs; user = ready.user }

  user_slots : (s : ℕ) → IsUser s w → IsUser s (with_slots w slots)
  user_slots s user = record { ready = ready_slots s user.ready; user = user.user; settled = user.settled }

  -- and nothing that is kept tells of slots
  covered_slots : IsCovered w → IsCovered (with_slots w slots)
  unfolding kept_in
  covered_slots covered = covered

  pub kernel_slots : (at : Stage) → slots.left ≤ slots.due → (goes_on (phase_of at) ≡ true → IsCounted slots (unix_of (with_slots w slots))) → IsKernel at w
      → IsKernel at (with_slots w slots)
  kernel_slots at within counted kernel = record {
    new = λ e. let was = kernel.new e in record { good = good_slots was.good; runs = was.runs; nobody_out = was.nobody_out };
    stopped = λ e. covered_slots (kernel.stopped e);
    finished = λ e. covered_slots (kernel.finished e);
    running = λ f e. let was = kernel.running f e in record { user = user_slots f.slot was.user; fixed = was.fixed };
    resting = λ e. let was = kernel.resting e in record {
      good = good_slots was.good;
      settled = was.settled;
      idle = was.idle;
      calls = was.calls;
    };
    counted = counted;
    within = within;
  }

-- Where no byte waits, the lines send nothing.
empty_sends : (t : Terminal) → holds t ≡ false → (sends t).terminal ≡ t
empty_sends t none = by t.output none
  where
    by : (output : List ℕ) → nat_lt 0 (length output) ≡ false → record t { output = drop 1 output } ≡ record t { output = output }
    by [] e = refl
    by (x ∷ xs) e = absurd (let some : nat_lt 0 (suc (length xs)) ≡ true = le-leb 1 (suc (length xs)) (omega arith) in cc (some, e))

empty_told : (l : ℕ) (t : Terminal) → holds t ≡ false → told l (sends t) ≡ []
empty_told l t none = by t.output none
  where
    by : (output : List ℕ) → nat_lt 0 (length output) ≡ false → told l (sends (record t { output = output })) ≡ []
    by [] e = refl
    by (x ∷ xs) e = absurd (let some : nat_lt 0 (suc (length xs)) ≡ true = le-leb 1 (suc (length xs)) (omega arith) in cc (some, e))

empty_wakes : (t : Terminal) → holds t ≡ false → (sends t).show ≡ false
empty_wakes t none = ap (λ b. b && is_low (drop 1 t.output)) none

first_none : (a b : Bool) → (a || b) ≡ false → (a ≡ false) × (b ≡ false)
first_none true b e = absurd (cc e)
first_none false b e = (refl, e)

each_empty : (l : ℕ) (lines : List Terminal) → list_any holds lines ≡ false → each_from l sends lines ≡ record { lines = lines; items = []; wakes = false }
each_empty l [] none = refl
each_empty l (t ∷ ts) none =
    let both = first_none (holds t) (list_any holds ts) none in
    let rest : each_from (suc l) sends ts ≡ record { lines = ts; items = []; wakes = false } = each_empty (suc l) ts both.1 in
    let one : (sends t).terminal ≡ t = empty_sends t both.0 in
    let items : told l (sends t) ≡ [] = empty_told l t both.0 in
    let wakes : (sends t).show ≡ false = empty_wakes t both.0 in
    λ i. record { lines = one i ∷ (rest i).lines; items = items i ++ (rest i).items; wakes = wakes i || (rest i).wakes }

none_goes : (b : Bool) (lines : List Terminal) → list_any holds lines ≡ false
    → cond b (each_line sends lines) (record { lines = lines; items = []; wakes = false }) ≡ record { lines = lines; items = []; wakes = false }
none_goes true lines none = each_empty 0 lines none
none_goes false lines none = refl

-- 1. A slot is counted.
module _ (w : World) (counted : IsCounted w.slots (unix_of w)) where
  pub some_left : 0 < w.slots.left
  some_left = let within = counted.timed.within in let next = counted.timed.next in omega (arith, within, next)

  abbrev pub less : World
  less = with_slots w (record w.slots { left = w.slots.left - 1 })

  pub less_unix : unix_of less ≡ with_slot (unix_of w)
  less_unix =
      let within = counted.timed.within in
      let set = counted.timed.set in
      let e : w.slots.due - (w.slots.left - 1) ≡ w.slots.due - w.slots.left + 1 = omega (arith, within, some_left) in
      let f : w.slots.due - (w.slots.left - 1) - w.slots.set_at ≡ w.slots.due - w.slots.left - w.slots.set_at + 1 = omega (arith, within, some_left, set) in
      λ i. record (unix_of w) { timing = record { passed = e i; disk = w.slots.disk; pace = w.slots.pace; since = f i } }

  -- the one that is due
  module _ (none : w.slots.left - 1 ≡ 0) where
    one : w.slots.left ≡ 1
    one = omega (arith, none, some_left)

    pub before_is : one_before less ≡ w
    before_is = λ i. record w { slots = record w.slots { left = sym one i } }

    pub due_fresh : (unix_of w).timing.passed ≤ 3000000000 → w.slots.due ≤ 3000000001
    due_fresh fresh = omega (arith, fresh, one)

  -- one before it: nobody is woken
  module _ (some : w.slots.left - 1 ≢ 0) where
    more : 1 < w.slots.left
    more = omega (arith, some)

    pub none_due : disk_lines (with_slot (unix_of w)) ≡ []
    none_due =
        let within = counted.timed.within in
        let low = counted.timed.low in
        nobody_due w.slots.wake (unix_of w) counted.timed.due (omega (arith, within, more, low))

    -- and no byte goes out
    none_sent : list_any holds w.files.lines ≡ true → is_sending (with_slot (unix_of w)).timing ≡ false
    none_sent some =
        let within = counted.timed.within in
        let set = counted.timed.set in
        let e : w.slots.due - w.slots.left - w.slots.set_at + 1 ≡ (w.slots.due - w.slots.left + 1) - w.slots.set_at = omega (arith, set) in
        ap (λ n. is_sending (record (timing_in w.slots) { since = n })) e
        ∙ counted.sends some (w.slots.due - w.slots.left + 1) (omega arith) (omega (arith, within, more))

    quiet : sent_after (with_slot (unix_of w)) ≡ record { lines = w.files.lines; items = []; wakes = false }
    quiet = by (list_any holds w.files.lines) refl
      where
        by : (b : Bool) → list_any holds w.files.lines ≡ b → sent_after (with_slot (unix_of w)) ≡ record { lines = w.files.lines; items = []; wakes = false }
        by true some = ap (λ b. cond b (each_line sends w.files.lines) (record { lines = w.files.lines; items = []; wakes = false })) (none_sent some)
        by false none = none_goes (is_sending (with_slot (unix_of w)).timing) w.files.lines none

    pub none_shown : slot_items (with_slot (unix_of w)) ≡ []
    none_shown = ap (λ lines. lines ++ (sent_after (with_slot (unix_of w))).items) none_due ∙ ap (λ (a : AllTold). a.items) quiet

    pub less_sent : unix_of less ≡ with_sent (with_slot (unix_of w))
    less_sent = less_unix ∙ ap (λ (a : AllTold). record (with_slot (unix_of w)) { lines = a.lines }) (sym quiet)

    pub less_board : board_in less ≡ (logged {W = Unix} (board_in w) (map Show (slot_items (with_slot (unix_of w))))).board
    less_board = ap (λ items. (logged {W = Unix} (board_in w) (map Show items)).board) (sym none_shown)

    pub less_any : false ≡ slot_wakes (with_slot (unix_of w))
    less_any =
        ap (λ lines. not (length lines == 0) || false) (sym none_due)
        ∙ ap (λ (a : AllTold). not (length (disk_lines (with_slot (unix_of w))) == 0) || a.wakes) (sym quiet)

    pub less_counted : IsCounted less.slots (unix_of less)
    less_counted = subst (IsCounted less.slots) (sym less_unix) (counted_one w.slots (unix_of w) refl more counted)

-- Where the next wake is later, nobody waits up to the end of the slot that is due.
module _ (w : World) (counted : IsCounted (one_before w).slots (unix_of (one_before w))) (later : w.slots.due < w.slots.wake) where
  pub none_woken_now : woken_with w.slots.due (processes_of w.procs) ≡ []
  none_woken_now =
      let timed = counted.timed in
      let within = timed.within in
      let e : w.slots.due ≡ w.slots.due - 1 + 1 = omega (arith, within) in
      ap (λ n. woken_with n (processes_of w.procs)) e
      ∙ nobody_due w.slots.wake (unix_of (one_before w)) timed.due (omega (arith, within, later))

  pub due_later : AreDueFrom w.slots.wake w.slots.due (processes_of w.procs)
  due_later s p is waits = elim (counted.timed.due.each s p is waits) [
    | inl low ↦ inl (omega (arith, low))
    | inr high ↦ inr high
  ]

-- 2. The slot that is due has been taken, and the table has woken who waited up to its end.
module _ (w : World) (left : w.slots.left ≡ 0) (good : IsGood (one_before w)) (counted : IsCounted (one_before w).slots (unix_of (one_before w)))
    (p : Procs) (others : p ≡ record w.procs { table = p.table }) (agree : AreProcs p) (running : p.table.running ≡ w.procs.table.running)
    (clock : clock_of p.table ≡ clock_of w.procs.table) (next : ℕ) (late : w.slots.due < next) where
  abbrev pub anew : Slots
  anew = record w.slots { left = next - w.slots.due; due = next; wake = next }

  abbrev pub reached : World
  reached = record w { procs = p; slots = anew }

  same : reached ≡ with_slots (with_table w p.table) anew
  same = ap (λ (x : Procs). record w { procs = x; slots = anew }) others

  good_before : IsGood w
  good_before = good_slots (one_before w) w.slots good

  its : Agree w.procs.rows p.table w.procs.images.kept
  its = subst (λ (x : Procs). Agree x.rows p.table x.images.kept) others agree

  runs : RunsImage p.table w.procs.images.kept
  runs s e above = good.running s (sym running ∙ e) above

  pub reach_good : IsGood reached
  reach_good = subst IsGood (sym same) (good_slots (with_table w p.table) anew (good_table w p.table its runs good_before))

  pub reach_unix : unix_of reached ≡ unix_of w
  reach_unix =
      let e : next - (next - w.slots.due) ≡ w.slots.due - w.slots.left = omega (arith, late, left) in
      ap unix_of same ∙ (λ i. record (unix_of w) { clock = clock i; timing = record { passed = e i; disk = w.slots.disk; pace = w.slots.pace; since = e i - w.slots.set_at } })

  pub lines_are : woken_with w.slots.due (processes_of w.procs) ≡ disk_lines (unix_of w)
  lines_are = let e : w.slots.due ≡ w.slots.due - w.slots.left = omega (arith, left) in ap (λ n. woken_with n (processes_of w.procs)) e

  -- so many slots have been taken
  pub reach_passed : passed_in anew ≡ w.slots.due
  reach_passed = omega (arith, late)

  reach_set : w.slots.set_at ≤ w.slots.due
  reach_set = let set = counted.timed.set in omega (arith, set)

  pub reach_timed : AreDueFrom next w.slots.due (processes_of w.procs) → IsTimed anew (unix_of reached)
  reach_timed due =
      let timed = counted.timed in
      let passed : passed_in anew ≡ w.slots.due = reach_passed in
      let were : w.slots.set_at ≤ w.slots.due = reach_set in
      subst (IsTimed anew) (sym reach_unix) (record {
        within = omega arith;
        disk = timed.disk;
        set = omega (arith, were, passed);
        next = omega (arith, passed, late);
        low = omega arith;
        due = record {
          next = omega (arith, late, left);
          each = λ s q is waits. elim (due s q is waits) [
            | inl low ↦ inl (omega (arith, low, left))
            | inr high ↦ inr high
          ];
        };
        graves = timed.graves;
      })

  -- Then the lines have sent, where they do.
  module _ (v : World) (sent : unix_of v ≡ with_sent (unix_of reached)) where
    pub sent_unix : unix_of v ≡ with_sent (unix_of w)
    sent_unix = sent ∙ ap with_sent reach_unix

    pub sent_board : board_in reached ≡ (logged {W = Unix} (board_in w) (map Show (woken_with w.slots.due (processes_of w.procs)))).board
        → board_in v ≡ (logged {W = Unix} (board_in reached) (map Show (sent_after (unix_of reached)).items)).board
        → board_in v ≡ (logged {W = Unix} (board_in w) (map Show (slot_items (unix_of w)))).board
    sent_board woken board =
        board ∙ ap (λ (u : Unix). (logged {W = Unix} (board_in reached) (map Show (sent_after u).items)).board) reach_unix
        ∙ ap (λ (b : Board). (logged {W = Unix} b (map Show (sent_after (unix_of w)).items)).board)
        (woken ∙ ap (λ lines. (logged {W = Unix} (board_in w) (map Show lines)).board) lines_are)
        ∙ board_more (board_in w) (disk_lines (unix_of w)) (sent_after (unix_of w)).items

    pub sent_any : (a b : Bool) → a ≡ not (length (woken_with w.slots.due (processes_of w.procs)) == 0) → b ≡ (sent_after (unix_of reached)).wakes
        → (a || b) ≡ slot_wakes (unix_of w)
    sent_any a b woken any =
        let one : a ≡ not (length (disk_lines (unix_of w)) == 0) = woken ∙ ap (λ lines. not (length lines == 0)) lines_are in
        let two : b ≡ (sent_after (unix_of w)).wakes = any ∙ ap (λ (u : Unix). (sent_after u).wakes) reach_unix in
        λ i. one i || two i

    pub sent_took : (a b c : Taken) → Took a (woken_with w.slots.due (processes_of w.procs)) b → Took b (sent_after (unix_of reached)).items c
        → Took a (slot_items (unix_of w)) c
    sent_took a b c first second =
        took_more a b c (disk_lines (unix_of w)) (sent_after (unix_of w)).items (subst (λ lines. Took a lines b) lines_are first)
        (subst (λ (u : Unix). Took b (sent_after u).items c) reach_unix second)

-- what is as it was then
pub reach_others : (w v : World) (p : Procs)
    → v ≡ record w { files = record w.files { lines = v.files.lines }; procs = record p { table = v.procs.table }; slots = v.slots }
    → v ≡ record w { files = record w.files { lines = v.files.lines }; procs = v.procs; slots = v.slots }
reach_others w v p sent =
    let procs : record p { table = v.procs.table } ≡ v.procs = sym (ap (λ (y : World). y.procs) sent) in
    sent ∙ (λ i. record w { files = record w.files { lines = v.files.lines }; procs = procs i; slots = v.slots })

-- where nobody was woken, nothing but the lines and the slots has changed
pub none_woken : (a b : Bool) → (a || b) ≡ false → (a ≡ false) × (b ≡ false)
none_woken true b e = absurd (cc e)
none_woken false true e = absurd (cc e)
none_woken false false e = (refl, refl)

-- 3. The lines and the slots are others: what is so of a kernel still is.
module _ (w : World) (lines : List Terminal) (slots : Slots) where
  abbrev pub told_slots : World
  told_slots = with_slots (with_lines w lines) slots

  good_then : IsGood w → IsGood told_slots
  good_then good = good_slots (with_lines w lines) slots (lines_good w lines good)

  user_lines : (s : ℕ) → IsUser s w → IsUser s told_slots
  user_lines s user = record {
    ready = record { good = good_then user.ready.good; runs = user.ready.runs; user = user.ready.user };
    user = user.user;
    settled = user.settled;
  }

  covered_lines : IsCovered w → IsCovered told_slots
  unfolding kept_in
  covered_lines covered = covered

  pub kernel_lines : (at : Stage) → slots.left ≤ slots.due → (goes_on (phase_of at) ≡ true → IsCounted slots (unix_of told_slots)) → IsKernel at w → IsKernel at told_slots
  kernel_lines at within counted kernel = record {
    new = λ e. let was = kernel.new e in record { good = good_then was.good; runs = was.runs; nobody_out = was.nobody_out };
    stopped = λ e. covered_lines (kernel.stopped e);
    finished = λ e. covered_lines (kernel.finished e);
    running = λ f e. let was = kernel.running f e in record { user = user_lines f.slot was.user; fixed = was.fixed };
    resting = λ e. let was = kernel.resting e in record {
      good = good_then was.good;
      settled = was.settled;
      idle = was.idle;
      calls = was.calls;
    };
    counted = counted;
    within = within;
  }
