-- Events that count no slot: what comes from outside, and the start of a run.
use Rattle.std.proofs.Common.{◌≡◌, ◌∙◌, ◌==◌, ℕ, Bool, true, false, not, cond, List, [], ◌∷◌, ◌++◌, map, fold, Option, Some, None, refl, sym, ap}
use Rattle.std.proofs.lemmas.List.Sums.{fold-append}
use Rattle.v6_base.specs.Trace.{Item, Log, sent}
use Rattle.v6_base.specs.declared.entry.Chan.{Chan}
use Rattle.v6_base.specs.declared.entry.Entry.TheVariants.{Wake}
use Rattle.tty_line.specs.declared.line.Keyed.{Keyed}
use Rattle.tty_line.specs.declared.line.Keyed.TheVariants as key
use Rattle.tty_line.specs.Input.{Typed, typed}
use Rattle.tty_line.specs.Said.{Said, flush}
use Rattle.lines_eight.specs.Told.{AllTold, each_line, told, keys_of, show_of}
use Rattle.sig_core.specs.declared.numbers.TheConstants.{SIGHUP}
use Rattle.pick_rules.specs.declared.row.Mode.{Mode}
use Rattle.pick_rules.specs.Effects.{Effect, Show, came}
use Rattle.pick_rules.specs.Logged.{Stop, Logged, nothing_logged, logged, log_one, unless_stopped, with_what_came, left_by}
use Rattle.sys_procs.specs.Signals.{has_line, meant_in, all_signalled, signal_lines}
use Rattle.abstract_unix.specs.declared.ends.Ends.TheVariants.{AtEnd}
use Rattle.abstract_unix.specs.Unix.{Unix, System, terminal_at, with_terminal, process_of, with_process}
use Rattle.abstract_unix.specs.Steps.{returns}
use Rattle.abstract_unix.specs.Turn.{happens, pass_of, ending_of_pass}
use Rattle.abstract_unix.specs.Outside.{mode_of, timed, charged, ticked, wakes, tick_effects, is_as_trap, delivers_to, tick_delivery, tick_of, calls, calls_show, with_key, key_lines, typed_of, hangs_up, hangup_of, turned_to, paced_of}
use Rattle.abstract_unix.specs.Runs.{Tick, Byte, Pace, Hangup, start_of, event_of}
use Rattle.abstract_unix.proofs.RunsLemmas.{settled_ending}
use Rattle.abstract_unix.proofs.Dues.{times_due}
use Rattle.abstract_unix.proofs.Passed.{settled_unix, pass_timing}

pub start_timing : (m : System) → (start_of m).ending ≡ AtEnd → (start_of m).next.unix.timing ≡ m.unix.timing
start_timing m goes =
    ap (λ (u : Unix). u.timing) (settled_unix (pass_of m)) ∙ pass_timing m (sym (settled_ending (pass_of m)) ∙ goes)

pub charged_timing : (u : Unix) (mode : Mode) (running : Option ℕ) → (charged u mode running).timing ≡ u.timing
charged_timing u mode None = refl
charged_timing u mode (Some s) = by (s == 0)
  where
    by : (b : Bool) → (cond b u (with_process u s (timed mode (process_of u s)))).timing ≡ u.timing
    by true = refl
    by false = refl

pub tick_timing : (m : System) → (event_of Tick m).ending ≡ AtEnd → (event_of Tick m).next.unix.timing ≡ m.unix.timing
tick_timing m goes =
    ap (λ (u : Unix). u.timing) (settled_unix (tick_of m))
    ∙ by (logged m.board (tick_effects m ++ (tick_delivery m).effects)).stop (sym (settled_ending (tick_of m)) ∙ goes)
    ∙ delivered (is_as_trap m)
    ∙ charged_timing m.unix (mode_of m) m.board.table.running
  where
    by : (o : Option (Stop Unix)) → ending_of_pass o ≡ AtEnd → (left_by o (tick_delivery m).unix).timing ≡ (tick_delivery m).unix.timing
    by None e = refl
    by (Some stop) e = absurd (cc e)

    to_one : (running : Option ℕ) → (delivers_to (ticked m) running).unix.timing ≡ (ticked m).timing
    to_one None = refl
    to_one (Some s) = times_due s (ticked m)

    delivered : (b : Bool) → (cond b (delivers_to (ticked m) m.board.table.running) (returns (ticked m))).unix.timing ≡ (ticked m).timing
    delivered true = to_one m.board.table.running
    delivered false = refl

-- what only shows stops nothing
shown_goes : (items : List Item) (l : Logged Unix) → l.stop ≡ None → (fold log_one l (map Show items)).stop ≡ None
unfolding log_one came
shown_goes [] l none = none
shown_goes (x ∷ items) l none =
    shown_goes items (log_one l (Show x)) (ap (λ o. (unless_stopped o l (with_what_came l (came l.board (Show x)))).stop) none ∙ none)

key_timing : (l : ℕ) (keyed : Keyed) (u : Unix) → (with_key l keyed u).timing ≡ u.timing
key_timing l key.Nothing u = refl
key_timing l key.Ready u = refl
key_timing l (key.Flushed show) u = refl
key_timing l (key.Signal n show) u = refl

-- nor does a wake
woken_goes : (b : Bool) (chan : Chan) (l : Logged Unix) → l.stop ≡ None → (fold log_one l (wakes b chan)).stop ≡ None
woken_goes true chan l none = shown_goes (Log (Wake chan) ∷ []) l none
woken_goes false chan l none = none

pub byte_timing : (m : System) (l byte : ℕ) → (event_of (Byte l byte) m).next.unix.timing ≡ m.unix.timing
byte_timing m l byte =
    ap (λ (u : Unix). u.timing) (settled_unix (typed_of m l byte))
    ∙ ap (λ o. (left_by o now).timing) stops
    ∙ key_timing l k.keyed (with_terminal m.unix l k.terminal)
  where
    k : Typed
    k = typed (terminal_at m.unix l) byte

    now : Unix
    now = with_key l k.keyed (with_terminal m.unix l k.terminal)

    items : List Item
    items = sent l k.shown ++ key_lines l k.keyed m.unix

    keys : List (Effect Unix)
    keys = wakes (calls k.keyed) (keys_of l)

    room : List (Effect Unix)
    room = wakes (calls_show k.keyed) (show_of l)

    stops : (logged m.board (map Show items ++ (keys ++ room))).stop ≡ None
    stops =
        ap (λ (done : Logged Unix). done.stop) (fold-append log_one (nothing_logged m.board) (map Show items) (keys ++ room)
        ∙ fold-append log_one (fold log_one (nothing_logged m.board) (map Show items)) keys room)
        ∙ woken_goes (calls_show k.keyed) (show_of l) _ (woken_goes (calls k.keyed) (keys_of l) _ (shown_goes items (nothing_logged m.board) refl))

pub hangup_timing : (m : System) (l : ℕ) → (event_of (Hangup l) m).next.unix.timing ≡ m.unix.timing
hangup_timing m l = ap (λ (u : Unix). u.timing) (settled_unix (hangup_of m l)) ∙ by (terminal_at m.unix l).is_open
  where
    s : Said
    s = flush (terminal_at m.unix l)

    items : List Item
    items = signal_lines SIGHUP (meant_in (has_line l) m.unix.processes) ++ told l s

    by : (b : Bool) → (cond b (hangs_up m l) (happens m.unix (nothing_logged m.board))).unix.timing ≡ m.unix.timing
    by true =
        ap (λ o. (left_by o (record (with_terminal m.unix l s.terminal) { processes = all_signalled (has_line l) SIGHUP m.unix.processes })).timing)
        (shown_goes items (nothing_logged m.board) refl)
    by false = refl

-- the pace counts anew, but not the slots
pub pace_passed : (m : System) (n : ℕ) → (event_of (Pace n) m).next.unix.timing.passed ≡ m.unix.timing.passed
pace_passed m n =
    ap (λ (u : Unix). u.timing.passed) (settled_unix (paced_of m n))
    ∙ ap (λ o. (left_by o (record m.unix { lines = all.lines; timing = record m.unix.timing { pace = n; since = 0 } })).timing.passed)
    (shown_goes all.items (nothing_logged m.board) refl)
  where
    all : AllTold
    all = each_line (turned_to (not (n == 0))) m.unix.lines
