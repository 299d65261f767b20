-- How many slots have been taken: each slot counts once, and nothing else does.
use Rattle.std.proofs.Common.{◌≡◌, ◌∙◌, ◌+◌, ℕ, zero, suc, Bool, true, false, cond, List, [], ◌∷◌, ◌++◌, map, Option, Some, None, refl, sym, ap}
use Rattle.pick_rules.specs.Effects.{Effect, Show}
use Rattle.pick_rules.specs.Logged.{Stop, logged, left_by}
use Rattle.swap_sched.specs.Pass.{pass, over}
use Rattle.tty_line.specs.Said.{sends}
use Rattle.lines_eight.specs.Told.{AllTold, each_line}
use Rattle.abstract_unix.specs.declared.ends.Ends.TheVariants.{AtEnd}
use Rattle.abstract_unix.specs.Unix.{Timing, Unix, System}
use Rattle.abstract_unix.specs.Endings.{is_early}
use Rattle.abstract_unix.specs.Turn.{Happened, stays, settling, calls_for_settling, settled_after, ending_by, ending_of_pass, end_effects, turn, turn_of, pass_of, slot_of, with_slot, counted, followed, disk_lines, wakes_disks, is_sending, sends_lines, sends_after, after_slot}
use Rattle.abstract_unix.specs.Runs.{Slot, event_of}
use Rattle.abstract_unix.proofs.RunsLemmas.{settled_ending, after_ending}
use Rattle.abstract_unix.proofs.Dues.{times_turn}

-- settling leaves the Unix
pub settled_unix : (h : Happened) → (settled_after h).next.unix ≡ h.unix
settled_unix h = by (calls_for_settling h)
  where
    by : (b : Bool) → (cond b (settling h) (stays h)).next.unix ≡ h.unix
    by true = refl
    by false = refl

followed_timing : (wakes : Bool) (g : Happened) (es : List (Effect Unix)) → (followed wakes g es).unix.timing ≡ g.unix.timing
followed_timing wakes g [] = refl
followed_timing wakes g (e ∷ es) = refl

-- what the lines send counts nothing
sends_timing : (h : Happened) → (sends_after h).unix.timing ≡ h.unix.timing
sends_timing h = by (is_sending h.unix.timing)
  where
    all : AllTold
    all = each_line sends h.unix.lines

    by : (b : Bool) → (cond b (sends_lines h) h).unix.timing ≡ h.unix.timing
    by true = followed_timing all.wakes (record h { unix = record h.unix { lines = all.lines } }) (map Show all.items)
    by false = refl

-- where the run goes on, the slot is counted
after_timing : (h : Happened) → h.ending ≡ AtEnd → (after_slot h).unix.timing ≡ (with_slot h.unix).timing
after_timing h goes =
    ap (λ e. (cond (is_early e) h (sends_after (wakes_disks (counted h)))).unix.timing) goes ∙ sends_timing (wakes_disks (counted h))
    ∙ followed_timing true (counted h) (map Show (disk_lines (with_slot h.unix)))

-- where a turn goes on, nothing was found wanting
turn_timing : (m : System) (s : ℕ) → (turn_of m s (turn m s)).ending ≡ AtEnd → (turn_of m s (turn m s)).unix.timing ≡ m.unix.timing
turn_timing m s goes = by (logged m.board ((turn m s).effects ++ end_effects s (turn m s).ending)).stop goes ∙ times_turn s m
  where
    by : (o : Option (Stop Unix)) → ending_by o (turn m s).ending ≡ AtEnd → (left_by o (turn m s).unix).timing ≡ (turn m s).unix.timing
    by None e = refl
    by (Some stop) e = absurd (cc e)

pub pass_timing : (m : System) → (pass_of m).ending ≡ AtEnd → (pass_of m).unix.timing ≡ m.unix.timing
pass_timing m goes = by (over m.unix (pass m.board)).stop goes
  where
    by : (o : Option (Stop Unix)) → ending_of_pass o ≡ AtEnd → (left_by o m.unix).timing ≡ m.unix.timing
    by None e = refl
    by (Some stop) e = absurd (cc e)

slot_timing : (m : System) (running : Option ℕ) → (slot_of m running).ending ≡ AtEnd → (slot_of m running).unix.timing ≡ m.unix.timing
slot_timing m None goes = refl
slot_timing m (Some zero) goes = pass_timing m goes
slot_timing m (Some (suc s)) goes = turn_timing m (suc s) goes

pub slot_passed : (m : System) → (event_of Slot m).ending ≡ AtEnd → (event_of Slot m).next.unix.timing.passed ≡ m.unix.timing.passed + 1
slot_passed m goes =
    let h : Happened = slot_of m m.board.table.running in
    let on : h.ending ≡ AtEnd = sym (after_ending h) ∙ sym (settled_ending (after_slot h)) ∙ goes in
    ap (λ (u : Unix). u.timing.passed) (settled_unix (after_slot h)) ∙ ap (λ (t : Timing). t.passed) (after_timing h on)
    ∙ ap (λ (t : Timing). t.passed + 1) (slot_timing m m.board.table.running on)
