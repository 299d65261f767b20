-- The lines send with the end of a slot, or their pace is set: the slots up to the next that is due, and the world then.
use Rattle.std.proofs.Common.{◌≡◌, ◌≢◌, ◌∙◌, ◌<◌, ◌≤◌, ◌+◌, ◌-◌, ◌*◌, ◌/◌, ◌%◌, ◌==◌, ◌&&◌, not, cond, ℕ, Bool, true, false, List, [], map, None, refl, sym, ap, subst, arith}
use Rattle.std.proofs.lemmas.Bool.{ne_eqb}
use Rattle.std.proofs.lemmas.Nat.{div-add-mod', mod-mul-add}
use Rattle.v6_base.specs.Trace.{Took, Taken, entries_of}
use Rattle.v6_base.proofs.Took.{took_nothing}
use Rattle.tty_line.specs.Terminal.{Terminal}
use Rattle.tty_line.specs.Said.{sends}
use Rattle.lines_eight.specs.Told.{AllTold, each_line}
use Rattle.pick_rules.specs.declared.table.Table.{Table}
use Rattle.pick_rules.specs.Effects.{Show}
use Rattle.pick_rules.specs.Logged.{Logged, logged, left_by}
use Rattle.abstract_unix.specs.Unix.{Timing, Unix}
use Rattle.abstract_unix.specs.Turn.{is_sending}
use Rattle.abstract_unix.specs.Outside.{turned_to, paced_of}
use Rattle.unix_core.specs.declared.world.World.{World}
use Rattle.unix_core.specs.declared.slots.Slots.{Slots}
use Rattle.unix_core.specs.Passing.{all_woken}
use Rattle.unix_core.specs.Slots.{passed_in, timing_in, NoneSend, IsTimed, sent_after, with_sent}
use Rattle.unix_core.specs.Parts.{unix_of, board_in, system_at, IsGood}
use Rattle.unix_core.proofs.CountLemmas.{timed_paced}
use Rattle.unix_core.proofs.EachLine.{lines_wake, told_unix, told_board, told_good, told_running}
use Rattle.unix_core.proofs.LoggedLemmas.{logged_shown}
use Rattle.unix_core.proofs.SlotWorlds.{with_slots, good_slots}
use Rattle.unix_core.proofs.TableLemmas.{with_table}

-- 1. Up to which slot no line sends.
and_none : (b : Bool) → (b && false) ≡ false
and_none true = refl
and_none false = refl

since_is : (m p s y r : ℕ) → s ≤ p → p < m → y + r ≡ p - s → m - s ≡ y + (r + (m - p))
since_is m p s y r = omega arith

before_next : (m p r w due : ℕ) → p < m → m < due → due ≤ p + (w - r) → r + (m - p) < w
before_next m p r w due = omega arith

later_not : (m p r : ℕ) → p < m → r + (m - p) ≡ 0 → ⊥
later_not m p r later zero = omega (arith, later, zero)

next_is : (due p w v b c : ℕ) → due ≤ p + (w - b) → v ≡ w → b ≡ c → due ≤ p + (v - c)
next_is due p w v b c = omega arith

-- with a pace: up to the next that is a multiple of it
none_send : (slots : Slots) (p : ℕ) → slots.set_at ≤ p → slots.due ≤ p + (slots.pace - (p - slots.set_at) % slots.pace) → NoneSend p slots
none_send slots p set ends m later sooner =
    let x : ℕ = p - slots.set_at in
    let r : ℕ = x % slots.pace in
    let since : m - slots.set_at ≡ x / slots.pace * slots.pace + (r + (m - p)) =
    since_is m p slots.set_at (x / slots.pace * slots.pace) r set later (div-add-mod' x slots.pace) in
    let at : (m - slots.set_at) % slots.pace ≡ r + (m - p) =
    ap (λ n. n % slots.pace) since ∙ mod-mul-add (x / slots.pace) slots.pace (r + (m - p)) (before_next m p r slots.pace slots.due later sooner ends) in
    ap (λ n. not (slots.pace == 0) && (n == 0)) at
    ∙ ap (λ b. not (slots.pace == 0) && b) (ne_eqb (r + (m - p)) 0 (later_not m p r later)) ∙ and_none (not (slots.pace == 0))

-- where the next of them is due
pub none_until : (old new : Slots) (behind : ℕ) → old.set_at ≤ passed_in old → behind ≡ (passed_in old - old.set_at) % old.pace
    → new.due ≤ passed_in old + (old.pace - behind) → passed_in new ≡ passed_in old → new.pace ≡ old.pace → new.set_at ≡ old.set_at
    → NoneSend (passed_in new) new
none_until old new behind before back ends passed pace set =
    none_send new (passed_in new) (omega (arith, before, passed, set))
    (next_is new.due (passed_in new) old.pace new.pace behind ((passed_in new - new.set_at) % new.pace) (omega (arith, ends, passed)) pace
    (back ∙ (λ i. (sym passed i - sym set i) % sym pace i)))

-- and without one no line sends
pub unpaced_none : (slots : Slots) (p : ℕ) → slots.pace ≡ 0 → NoneSend p slots
unpaced_none slots p none m later sooner = ap (λ n. not (n == 0) && ((m - slots.set_at) % n == 0)) none

-- Whether the lines send with the end of a slot.
pub sends_now : (t : Timing) → t.pace ≢ 0 → t.since % t.pace ≡ 0 → is_sending t ≡ true
sends_now t some here = λ i. not (ne_eqb t.pace 0 some i) && (here i == 0)

pub rests_now : (t : Timing) → t.since % t.pace ≢ 0 → is_sending t ≡ false
rests_now t other = ap (λ b. not (t.pace == 0) && b) (ne_eqb (t.since % t.pace) 0 other) ∙ and_none (not (t.pace == 0))

-- 2. They don't.
abbrev pub nothing_sent : Unix → AllTold
nothing_sent u = record { lines = u.lines; items = []; wakes = false }

pub none_sent : (u : Unix) → is_sending u.timing ≡ false → sent_after u ≡ nothing_sent u
none_sent u rests = ap (λ b. cond b (each_line sends u.lines) (nothing_sent u)) rests

module _ (w : World) (rests : is_sending (unix_of w).timing ≡ false) where
  none : sent_after (unix_of w) ≡ nothing_sent (unix_of w)
  none = none_sent (unix_of w) rests

  pub rest_unix : (slots : Slots) → timing_in slots ≡ timing_in w.slots → unix_of (with_slots w slots) ≡ with_sent (unix_of w)
  rest_unix slots timing = (λ i. record (unix_of w) { timing = timing i }) ∙ ap (λ (a : AllTold). record (unix_of w) { lines = a.lines }) (sym none)

  pub rest_board : board_in w ≡ (logged {W = Unix} (board_in w) (map Show (sent_after (unix_of w)).items)).board
  rest_board = ap (λ (a : AllTold). (logged {W = Unix} (board_in w) (map Show a.items)).board) (sym none)

  pub rest_any : false ≡ (sent_after (unix_of w)).wakes
  rest_any = ap (λ (a : AllTold). a.wakes) (sym none)

  pub rest_took : (a : Taken) → Took a (sent_after (unix_of w)).items a
  rest_took a = took_nothing a (sent_after (unix_of w)).items (ap (λ (x : AllTold). x.items) none)

-- 3. They do.
module _ (w : World) (good : IsGood w) (sending : is_sending (unix_of w).timing ≡ true) (lines : List Terminal)
    (lines_are : lines ≡ (each_line sends w.files.lines).lines) (t : Table)
    (is : t ≡ all_woken w.procs.table (entries_of (each_line sends w.files.lines).items)) where
  all : sent_after (unix_of w) ≡ each_line sends w.files.lines
  all = ap (λ b. cond b (each_line sends w.files.lines) (nothing_sent (unix_of w))) sending

  abbrev after : Slots → World
  after slots = with_slots (with_table (record w { files = record w.files { lines = lines } }) t) slots

  pub send_unix : (slots : Slots) → timing_in slots ≡ timing_in w.slots → unix_of (after slots) ≡ with_sent (unix_of w)
  send_unix slots timing =
      (λ i. record (unix_of (with_table (record w { files = record w.files { lines = lines } }) t)) { timing = timing i })
      ∙ told_unix w good lines (each_line sends w.files.lines).items (lines_wake sends w.files.lines) t is
      ∙ ap (λ ls. record (unix_of w) { lines = ls }) (lines_are ∙ ap (λ (a : AllTold). a.lines) (sym all))

  pub send_board : (slots : Slots) → board_in (after slots) ≡ (logged {W = Unix} (board_in w) (map Show (sent_after (unix_of w)).items)).board
  send_board slots =
      told_board w good lines (each_line sends w.files.lines).items (lines_wake sends w.files.lines) t is
      ∙ ap (λ (a : AllTold). (logged {W = Unix} (board_in w) (map Show a.items)).board) (sym all)

  pub send_any : (b : Bool) → b ≡ (each_line sends w.files.lines).wakes → b ≡ (sent_after (unix_of w)).wakes
  send_any b any = any ∙ ap (λ (a : AllTold). a.wakes) (sym all)

  pub send_good : (slots : Slots) → IsGood (after slots)
  send_good slots =
      good_slots (with_table (record w { files = record w.files { lines = lines } }) t) slots
      (told_good w good lines (each_line sends w.files.lines).items (lines_wake sends w.files.lines) t is)

  pub send_running : t.running ≡ w.procs.table.running
  send_running = told_running w good lines (each_line sends w.files.lines).items (lines_wake sends w.files.lines) t is

  pub send_took : (a b : Taken) → Took a (each_line sends w.files.lines).items b → Took a (sent_after (unix_of w)).items b
  send_took a b took = subst (λ (x : AllTold). Took a x.items b) (sym all) took

-- 4. The pace is set.
pub turned_keys : (on : Bool) (t : Terminal) → (turned_to on t).keys ≡ false
turned_keys true t = refl
turned_keys false t = refl

module _ (w : World) (good : IsGood w) (timed : IsTimed w.slots (unix_of w)) (n : ℕ) (slots : Slots)
    (timing : timing_in slots ≡ record (timing_in w.slots) { pace = n; since = 0 }) (lines : List Terminal)
    (lines_are : lines ≡ (each_line (turned_to (not (n == 0))) w.files.lines).lines) (t : Table)
    (is : t ≡ all_woken w.procs.table (entries_of (each_line (turned_to (not (n == 0))) w.files.lines).items)) where
  abbrev told : AllTold
  told = each_line (turned_to (not (n == 0))) w.files.lines

  abbrev turned : World
  turned = with_slots (with_table (record w { files = record w.files { lines = lines } }) t) slots

  quiet : logged {W = Unix} (board_in w) (map Show told.items) ≡ record (logged {W = Unix} (board_in w) (map Show told.items)) { items = told.items; stop = None }
  quiet = let e = logged_shown {W = Unix} (board_in w) told.items in
      λ i. record (logged {W = Unix} (board_in w) (map Show told.items)) { items = (e i).items; stop = (e i).stop }

  pub pace_unix : unix_of turned ≡ (paced_of (system_at w) n).unix
  pace_unix =
      (λ i. record (unix_of (with_table (record w { files = record w.files { lines = lines } }) t)) { timing = timing i })
      ∙ ap (λ (u : Unix). record u { timing = record u.timing { pace = n; since = 0 } })
      (told_unix w good lines told.items (lines_wake (turned_to (not (n == 0))) w.files.lines) t is)
      ∙ ap (λ ls. record (unix_of w) { lines = ls; timing = record (timing_in w.slots) { pace = n; since = 0 } }) lines_are
      ∙ ap (λ (l : Logged Unix). left_by l.stop (record (unix_of w) { lines = told.lines; timing = record (timing_in w.slots) { pace = n; since = 0 } })) (sym quiet)

  pub pace_board : board_in turned ≡ (paced_of (system_at w) n).log.board
  pace_board = told_board w good lines told.items (lines_wake (turned_to (not (n == 0))) w.files.lines) t is

  pub pace_good : IsGood turned
  pace_good =
      good_slots (with_table (record w { files = record w.files { lines = lines } }) t) slots
      (told_good w good lines told.items (lines_wake (turned_to (not (n == 0))) w.files.lines) t is)

  pub pace_running : t.running ≡ w.procs.table.running
  pace_running = told_running w good lines told.items (lines_wake (turned_to (not (n == 0))) w.files.lines) t is

  pub pace_took : (a b : Taken) → Took a told.items b → Took a (paced_of (system_at w) n).log.items b
  pace_took a b took = subst (λ (l : Logged Unix). Took a l.items b) (sym quiet) took

  pub pace_timed : slots.left ≡ w.slots.left → slots.due ≡ w.slots.due → slots.wake ≡ w.slots.wake → slots.set_at ≡ passed_in w.slots
      → IsTimed slots (unix_of turned)
  pace_timed left due wake set =
      timed_paced w.slots slots n (unix_of w) (unix_of turned) refl (ap (λ (x : Timing). x.passed) timing) left due wake set timing timed
