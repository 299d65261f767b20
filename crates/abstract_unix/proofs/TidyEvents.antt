-- Each event by which a run goes on leaves a tidy Unix, and a run begins with one.
use Rattle.std.proofs.Common.{◌≡◌, ◌∙◌, ◌≤◌, ◌==◌, ℕ, zero, suc, Bool, true, false, not, cond, ◌++◌, ◌&&◌, List, length, map, set, get_or, get_or-set_same, unwrap_or, Option, Some, None, refl, sym, ap, subst, inl, inr}
use Rattle.std.proofs.lemmas.Bool.{eqb-true, eqb-false}
use Rattle.std.proofs.lemmas.List.FromFn.{length-map-range_with_len}
use Rattle.tty_line.specs.declared.line.Keyed.{Keyed}
use Rattle.tty_line.specs.declared.line.Keyed.TheVariants as key
use Rattle.tty_line.specs.Input.{Typed, typed}
use Rattle.pick_rules.specs.declared.row.Mode.{Mode}
use Rattle.pick_rules.specs.declared.row.Mode.TheVariants.{User, Kernel, Idle}
use Rattle.pick_rules.specs.Lawful.{Seen}
use Rattle.pick_rules.specs.Logged.{Stop, nothing_logged, left_by}
use Rattle.log_laws.proofs.Seats.{RunnerAt, Paused, Holds}
use Rattle.u_area.specs.declared.layout.TheConstants.{NOTHING_PENDING}
use Rattle.sys_files.specs.Sound.{numbers_of}
use Rattle.open_files.specs.Files.{file_at}
use Rattle.sys_procs.specs.Process.{Process, no_process}
use Rattle.sys_procs.specs.Signals.{has_line, meant_in, signalled, signalled_if, all_signalled, signal_lines}
use Rattle.abstract_unix.specs.declared.ends.Ends.{Ends}
use Rattle.abstract_unix.specs.declared.ends.Ends.TheVariants as ends
use Rattle.abstract_unix.specs.declared.ends.Ends.TheVariants.{AtEnd}
use Rattle.abstract_unix.specs.Endings.{is_early}
use Rattle.abstract_unix.specs.Unix.{Unix, System, terminal_at, with_terminal, process_of, with_process}
use Rattle.v6_base.specs.Trace.{Item, sent}
use Rattle.std.proofs.lemmas.List.{length-set}
use Rattle.tty_line.specs.Terminal.{Terminal}
use Rattle.tty_line.specs.Said.{Said, flush, sends}
use Rattle.lines_eight.specs.Told.{AllTold, each_line, told, keys_of, show_of}
use Rattle.sig_core.specs.declared.numbers.TheConstants.{SIGHUP}
use Rattle.fs_nodes.specs.Keys.{Stores, key_count}
use Rattle.pick_rules.specs.Effects.{Effect, Show}
use Rattle.sys_procs.specs.World.{Clock}
use Rattle.abstract_unix.specs.Delivery.{delivers_due}
use Rattle.abstract_unix.specs.Steps.{Steps, returns}
use Rattle.abstract_unix.specs.Turn.{is_user, Happened, happens, with_slot, counted, disk_lines, wakes_disks, is_sending, sends_lines, sends_after, after_slot, whole_slot, stays, settling, calls_for_settling, settled_after, ending_by, ending_of_pass, turn_of, pass_of, slot_of, turn}
use Rattle.abstract_unix.specs.Outside.{is_user_mode, is_second, delivers_to, tick_delivery, tick_of, mode_by, timed, charged, clock_after, with_key, typed_of, key_lines, wakes, calls, calls_show, hangup_of, hangs_up, turned_to, paced_of}
use Rattle.abstract_unix.specs.Runs.{Event, Slot, Tick, Byte, Switch, Disk, Pace, Hangup, event_of}
use Rattle.abstract_unix.specs.Whole.{told_by, told_in, all_names, CanGoOn}
use Rattle.abstract_unix.proofs.RunsLemmas.{settled_ending}
use Rattle.abstract_unix.proofs.Posting.{all_alike}
use Rattle.abstract_unix.proofs.Sitting.{seats_of}
use Rattle.abstract_unix.proofs.Events.{system_at, runs_at, shown_stop, all_shown, followed_unix}
use Rattle.abstract_unix.proofs.Telling.{lines_length}
use Rattle.abstract_unix.proofs.GoingOnLemmas.{AllWaited, all_waited_same, waited_goes_on}
use Rattle.abstract_unix.proofs.GoingOnSteps.{line_goes_on}
use Rattle.abstract_unix.proofs.PipeNumbers.{HasPipe}
use Rattle.abstract_unix.proofs.Owing.{some_within}
use Rattle.abstract_unix.proofs.Outside.{shown_both, shown_items}
use Rattle.abstract_unix.proofs.Tidy.{IsTidy}
use Rattle.abstract_unix.proofs.TidyTurns.{Runs, SameHeld, runs_put}
use Rattle.abstract_unix.proofs.TidySteps.{turn_tidy, due_tidy}

-- Where a run goes on after it, an event has left what it has come to.
settled_unix : (h : Happened) → (settled_after h).next.unix ≡ h.unix
settled_unix h = by (calls_for_settling h)
  where
    by : (b : Bool) → (cond b (settling h) (stays h)).next.unix ≡ h.unix
    by true = refl
    by false = refl

went_on : (o : Option (Stop Unix)) (v : Unix) → IsTidy v → ending_of_pass o ≡ AtEnd → IsTidy (left_by o v)
went_on None v tidy e = tidy
went_on (Some stop) v tidy e = absurd (cc e)

-- other items, and the same of all that is tidy
tidy_clock : (u v : Unix) → v.files ≡ u.files → v.pipes ≡ u.pipes → v.processes ≡ u.processes → v.store ≡ u.store → length v.lines ≡ length u.lines
    → CanGoOn v → IsTidy u → IsTidy v
tidy_clock u v files pipes processes store lines waits tidy = record {
  numbers = λ entry. ap (λ f. numbers_of (file_at f entry)) files ∙ tidy.numbers entry
      ∙ ap (λ ps. all_names (told_in ps) entry) (sym processes);
  fifty = ap length processes ∙ tidy.fifty;
  fifteen = λ s t e. tidy.fifteen s t (ap (λ ps. get_or (told_in ps) s None) (sym processes) ∙ e);
  waits = waits;
  count = subst (λ (s : Stores). key_count s ≤ 65535) (sym store) tidy.count;
  eight = subst (λ n. n ≤ 8) (sym lines) tidy.eight;
  pipes = λ entry file at pipe. subst (λ p. HasPipe p file.ino) (sym pipes)
      (tidy.pipes entry file (ap (λ f. file_at f entry) (sym files) ∙ at) pipe);
}

-- a clock and a terminal are none of it
like_unix : (u v : Unix) → v.files ≡ u.files → v.processes ≡ u.processes → CanGoOn u → CanGoOn v
like_unix u v files processes can =
    waited_goes_on u v can (subst (AllWaited u.processes) (sym processes) (all_waited_same u.processes)) files

tidy_like : (u v : Unix) → v.files ≡ u.files → v.pipes ≡ u.pipes → v.processes ≡ u.processes → v.store ≡ u.store → length v.lines ≡ length u.lines
    → IsTidy u → IsTidy v
tidy_like u v files pipes processes store lines tidy = tidy_clock u v files pipes processes store lines
    (like_unix u v files processes tidy.waits) tidy

-- another terminal on a line
tidy_terminal : (u : Unix) (l : ℕ) (t : Terminal) → IsTidy u → IsTidy (with_terminal u l t)
tidy_terminal u l t tidy = tidy_like u (with_terminal u l t) refl refl refl refl (length-set u.lines l t) tidy

-- a call of each line
tidy_lines : (u : Unix) (call : Terminal → Said) → IsTidy u → IsTidy (record u { lines = (each_line call u.lines).lines })
tidy_lines u call tidy =
    tidy_like u (record u { lines = (each_line call u.lines).lines }) refl refl refl refl (lines_length call u.lines) tidy

-- A tick: the running process has one tick more of its times.
timed_held : (mode : Mode) (p : Process) → SameHeld p (timed mode p)
timed_held User p = record { files = refl; dir = refl; dead = refl; pending = refl; call = refl }
timed_held Kernel p = record { files = refl; dir = refl; dead = refl; pending = refl; call = refl }
timed_held Idle p = record { files = refl; dir = refl; dead = refl; pending = refl; call = refl }

-- Those who have a line have a signal.
signalled_told : (l n r : ℕ) (o : Option Process) → told_by (signalled_if (has_line l) n r o) ≡ told_by o
signalled_told l n r None = refl
signalled_told l n r (Some p) = by ((has_line l) r p)
  where
    by : (b : Bool) → told_by (Some (cond b (signalled n p) p)) ≡ told_by (Some p)
    by true = refl
    by false = refl

line_tidy : (l n : ℕ) (u : Unix) → IsTidy u → IsTidy (record u { processes = all_signalled (has_line l) n u.processes })
line_tidy l n u tidy =
    let told : told_in (all_signalled (has_line l) n u.processes) ≡ told_in u.processes =
    all_alike (has_line l) n u.processes told_by (λ r o. signalled_told l n r o) tidy.fifty in
    record {
      numbers = λ entry. tidy.numbers entry ∙ ap (λ ts. all_names ts entry) (sym told);
      fifty = length-map-range_with_len (λ r. signalled_if (has_line l) n r (get_or u.processes r None)) 0 50;
      fifteen = λ s t e. tidy.fifteen s t (ap (λ ts. get_or ts s None) (sym told) ∙ e);
      waits = line_goes_on l n u tidy.waits;
      count = tidy.count;
      eight = tidy.eight;
      pipes = tidy.pipes;
    }

key_tidy : (l : ℕ) (keyed : Keyed) (u : Unix) → IsTidy u → IsTidy (with_key l keyed u)
key_tidy l key.Nothing u tidy = tidy
key_tidy l key.Ready u tidy = tidy
key_tidy l (key.Flushed show) u tidy = tidy
key_tidy l (key.Signal n show) u tidy = line_tidy l n u tidy

-- Each slot: a turn, a pass of the swapper, or nothing.
pub slot_tidy : (u : Unix) (seen : Seen) → Paused (seats_of u) seen → IsTidy u
    → (slot_of (system_at u seen) seen.board.table.running).ending ≡ AtEnd
    → IsTidy (slot_of (system_at u seen) seen.board.table.running).unix
slot_tidy u seen p tidy = by seen.board.table.running p.runner
  where
    stopped : (s : ℕ) (o : Option (Stop Unix)) (steps : Steps) → IsTidy steps.unix → ending_by o steps.ending ≡ AtEnd
        → IsTidy (left_by o steps.unix)
    stopped s None steps k e = k
    stopped s (Some stop) steps k e = absurd (cc e)

    by : (o : Option ℕ) → RunnerAt (seats_of u) seen.board o → (slot_of (system_at u seen) o).ending ≡ AtEnd
        → IsTidy (slot_of (system_at u seen) o).unix
    by None r e = tidy
    by (Some zero) r e = went_on (pass_of (system_at u seen)).log.stop u tidy e
    by (Some (suc s)) (inl z) e = absurd (cc z)
    by (Some (suc s)) (inr t) e =
        let steps : Steps = turn (system_at u seen) (suc s) in
        stopped (suc s) (turn_of (system_at u seen) (suc s) steps).log.stop steps
        (turn_tidy (suc s) (system_at u seen) (runs_at u (suc s) seen.board tidy t)) e

either_happened : (b : Bool) (x y : Happened) → IsTidy x.unix → IsTidy y.unix → IsTidy (cond b x y).unix
either_happened true x y p q = p
either_happened false x y p q = q

either_tidy : (b : Bool) (x y : Steps) → IsTidy x.unix → IsTidy y.unix → IsTidy (cond b x y).unix
either_tidy true x y p q = p
either_tidy false x y p q = q

-- What a tick has come to.
tick_tidy : (u : Unix) (seen : Seen) → Paused (seats_of u) seen → IsTidy u → IsTidy (tick_delivery (system_at u seen)).unix
tick_tidy u seen p tidy = by seen.board.table.running p.runner
  where
    clock : Clock
    clock = clock_after u.clock

    to : Option ℕ → Steps
    to o =
        let now : Unix = record (charged u (mode_by u o) o) { clock = clock } in
        cond (is_user_mode (mode_by u o) && is_second u.clock) (delivers_to now o) (returns now)

    now : ℕ → Bool → Bool → Unix
    now s b c = record (cond b u (with_process u s (timed (cond b Kernel (cond c User Kernel)) (process_of u s)))) {
      clock =
          clock;
    }

    some : (s : ℕ) → RunnerAt (seats_of u) seen.board (Some s) → (b c : Bool) → (s == 0) ≡ b → is_user (process_of u s) ≡ c
        → IsTidy (cond (is_user_mode (cond b Kernel (cond c User Kernel)) && is_second u.clock) (delivers_due (now s b c) s)
        (returns (now s b c))).unix
    some s runs true c is_zero user = tidy_like u (record u { clock = clock }) refl refl refl refl refl tidy
    some s (inl z) false c is_zero user = absurd (eqb-false s 0 is_zero z)
    some s (inr t) false false is_zero user =
        let r = runs_put s u (timed Kernel (process_of u s)) (timed_held Kernel (process_of u s))
        (runs_at u s seen.board tidy t) in
        tidy_like (with_process u s (timed Kernel (process_of u s))) (now s false false) refl refl refl refl refl r.tidy
    some s (inr t) false true is_zero user =
        let q : Process = timed User (process_of u s) in
        let r = runs_put s u q (timed_held User (process_of u s)) (runs_at u s seen.board tidy t) in
        let v : Unix = now s false true in
        let k : Runs s v = record {
          tidy = tidy_like (with_process u s q) v refl refl refl refl refl r.tidy;
          there = r.there;
          lives = r.lives;
        } in
        let at : get_or (set u.processes s (Some q)) s None ≡ Some q =
        get_or-set_same u.processes s (Some q) None (some_within u.processes s (process_of u s)
        (runs_at u s seen.board tidy t).there) in
        let free : (process_of v s).u.pending ≡ NOTHING_PENDING = ap (λ o. (unwrap_or o no_process).u.pending) at
        ∙ eqb-true (process_of u s).u.pending NOTHING_PENDING user in
        either_tidy (is_second u.clock) (delivers_due v s) (returns v) (due_tidy s v free k) k.tidy

    by : (o : Option ℕ) → RunnerAt (seats_of u) seen.board o → IsTidy (to o).unix
    by None r = tidy_like u (record u { clock = clock }) refl refl refl refl refl tidy
    by (Some s) r = some s r (s == 0) (is_user (process_of u s)) refl refl

-- What follows a slot leaves processes and files as they are.
sends_tidy : (h : Happened) → IsTidy h.unix → IsTidy (sends_after h).unix
sends_tidy h tidy = by (is_sending h.unix.timing)
  where
    all : AllTold
    all = each_line sends h.unix.lines

    by : (b : Bool) → IsTidy (cond b (sends_lines h) h).unix
    by true =
        subst IsTidy (sym (followed_unix all.wakes (record h { unix = record h.unix { lines = all.lines } }) (map Show all.items)))
        (tidy_lines h.unix sends tidy)
    by false = tidy

whole_tidy : (m : System) (h : Happened) → (h.ending ≡ AtEnd → IsTidy h.unix) → (after_slot h).ending ≡ AtEnd
    → IsTidy (after_slot h).unix
whole_tidy m h tidy goes = by h.ending refl goes
  where
    by : (e : Ends) → h.ending ≡ e → (cond (is_early e) h (sends_after (wakes_disks (counted h)))).ending ≡ AtEnd
        → IsTidy (cond (is_early e) h (sends_after (wakes_disks (counted h)))).unix
    by AtEnd is f =
        sends_tidy (wakes_disks (counted h))
        (subst IsTidy (sym (followed_unix true (counted h) (map Show (disk_lines (with_slot h.unix)))))
        (tidy_like h.unix (with_slot h.unix) refl refl refl refl refl (tidy is)))
    by (ends.Panic kind) is f = absurd (let other = sym is ∙ f in cc other)

-- Each event by which the run goes on.
pub event_tidy : (e : Event) (u : Unix) (seen : Seen) → Holds (seats_of u) seen → IsTidy u
    → (event_of e (system_at u seen)).ending ≡ AtEnd
    → IsTidy (event_of e (system_at u seen)).next.unix
event_tidy Slot u seen h tidy ends =
    let m : System = system_at u seen in
    subst IsTidy (sym (settled_unix (whole_slot m))) (whole_tidy m (slot_of m m.board.table.running)
    (λ e. slot_tidy u seen h.paused tidy e) (sym (settled_ending (whole_slot m)) ∙ ends))
event_tidy Tick u seen h tidy ends =
    let m : System = system_at u seen in
    let what : Happened = tick_of m in
    subst IsTidy (sym (settled_unix what)) (went_on what.log.stop (tick_delivery m).unix (tick_tidy u seen h.paused tidy)
    (sym (settled_ending what) ∙ ends))
event_tidy (Byte l byte) u seen h tidy ends =
    let m : System = system_at u seen in
    let what : Happened = typed_of m l byte in
    let k : Typed = typed (terminal_at u l) byte in
    let now : Unix = with_key l k.keyed (with_terminal u l k.terminal) in
    let items : List Item = sent l k.shown ++ key_lines l k.keyed u in
    let woken : List (Effect Unix) = wakes (calls k.keyed) (keys_of l) ++ wakes (calls_show k.keyed) (show_of l) in
    let none : what.log.stop ≡ None =
    shown_stop seen.board (map Show items ++ woken)
    (shown_items items woken (shown_both (calls k.keyed) (calls_show k.keyed) (keys_of l) (show_of l))) in
    subst IsTidy (sym (settled_unix what)) (subst IsTidy (sym (ap (λ o. left_by o now) none))
    (key_tidy l k.keyed (with_terminal u l k.terminal) (tidy_terminal u l k.terminal tidy)))
event_tidy (Switch word) u seen h tidy ends = tidy_like u (record u { switches = word }) refl refl refl refl refl tidy
event_tidy (Disk count) u seen h tidy ends =
    tidy_like u (record u { timing = record u.timing { disk = count } }) refl refl refl refl refl tidy
event_tidy (Pace count) u seen h tidy ends =
    let what : Happened = paced_of (system_at u seen) count in
    let call : Terminal → Said = turned_to (not (count == 0)) in
    let all : AllTold = each_line call u.lines in
    let now : Unix = record u { lines = all.lines; timing = record u.timing { pace = count; since = 0 } } in
    subst IsTidy (sym (settled_unix what))
    (subst IsTidy (sym (ap (λ o. left_by o now) (shown_stop seen.board (map Show all.items) (all_shown all.items))))
    (tidy_like u now refl refl refl refl (lines_length call u.lines) tidy))
event_tidy (Hangup l) u seen h tidy ends =
    let m : System = system_at u seen in
    let s : Said = flush (terminal_at u l) in
    let items : List Item = signal_lines SIGHUP (meant_in (has_line l) u.processes) ++ told l s in
    let now : Unix = record (with_terminal u l s.terminal) { processes = all_signalled (has_line l) SIGHUP u.processes } in
    let hung : IsTidy (hangs_up m l).unix =
    subst IsTidy (sym (ap (λ o. left_by o now) (shown_stop seen.board (map Show items) (all_shown items))))
    (line_tidy l SIGHUP (with_terminal u l s.terminal) (tidy_terminal u l s.terminal tidy)) in
    subst IsTidy (sym (settled_unix (hangup_of m l))) (either_happened (terminal_at u l).is_open (hangs_up m l) (happens u (nothing_logged seen.board)) hung tidy)

-- The pass of the swapper with which a run begins changes nothing.
pub start_tidy : (m : System) → IsTidy m.unix → (settled_after (pass_of m)).ending ≡ AtEnd
    → IsTidy (settled_after (pass_of m)).next.unix
start_tidy m tidy ends =
    let what : Happened = pass_of m in
    subst IsTidy (sym (settled_unix what)) (went_on what.log.stop m.unix tidy (sym (settled_ending what) ∙ ends))
