-- What comes from outside adds lines that fit.
use Rattle.std.proofs.Common.{◌≡◌, ◌≢◌, ◌∙◌, ◌≤◌, ◌<◌, nat_lt, length, arith, ◌==◌, ◌&&◌, ◌+◌, ◌%◌, ◌^◌, inl, inr, ℕ, not, Bool, true, false, cond, if◌then◌else◌, List, [], ◌∷◌, ◌++◌, map, Option, Some, None, refl, sym, ap, subst}
use Rattle.std.proofs.lemmas.Bool.{eqb-false, ltb-true, ltb-false}
use Rattle.std.proofs.lemmas.List.{map-append, append-nil, get_or_past}
use Rattle.std.proofs.lemmas.Option.{same_Some}
use Rattle.v6_base.specs.Trace.{Item, Log, sent}
use Rattle.v6_base.specs.declared.entry.Chan.{Chan}
use Rattle.v6_base.specs.declared.entry.Chan.TheVariants.{Tout}
use Rattle.v6_base.specs.declared.entry.Entry.TheVariants.{Wake}
use Rattle.tty_line.specs.Input as input
use Rattle.tty_line.specs.Input.{Typed, typed, typed_key, key_of}
use Rattle.tty_line.specs.Said.{Said, flush}
use Rattle.lines_eight.specs.Lines as terminals
use Rattle.lines_eight.specs.Told.{AllTold, each_line, told, keys_of, show_of}
use Rattle.sig_core.specs.declared.numbers.TheConstants.{SIGHUP}
use Rattle.pick_rules.specs.declared.row.Mode.{Mode}
use Rattle.pick_rules.specs.declared.row.Mode.TheVariants.{User, Kernel, Idle}
use Rattle.pick_rules.specs.Effects.{Effect, Show, came}
use Rattle.pick_rules.specs.Ranges.{IsChannel}
use Rattle.pick_rules.specs.Fits as fits
use Rattle.pick_rules.specs.Fits.{mode_now}
use Rattle.pick_rules.specs.Lawful.{Seen, Fits, FitAll, seen_after}
use Rattle.log_laws.proofs.Fitting.{seen_items}
use Rattle.log_laws.proofs.Fitting.{Apt, Fitted, apt_append, apt_fits, wake_apt}
use Rattle.log_laws.proofs.Seats.{Seat, Seats, seat_at, InTurn, RunnerAt, Paused, Holds, own, not_zero, busy_agrees}
use Rattle.log_laws.proofs.Lines.{wake_paused, signal_paused}
use Rattle.log_laws.proofs.Clocks.{tick_line, ticked_at, a_tick_later, tick_paused, tick_fits, mode_is}
use Rattle.tty_line.specs.Terminal.{Terminal, first_terminal, flags}
use Rattle.tty_line.specs.declared.line.Keyed.{Keyed}
use Rattle.tty_line.specs.declared.line.Keyed.TheVariants.{Nothing, Ready, Flushed, Signal}
use Rattle.sys_procs.specs.Signals.{has_line, meant_in, all_signalled, signal_lines}
use Rattle.sys_procs.specs.Process.{Process}
use Rattle.sys_procs.specs.World.{Clock}
use Rattle.pick_rules.specs.Logged.{Logged, nothing_logged, logged, left_by}
use Rattle.abstract_unix.specs.Unix.{Unix, System, terminal_at, with_terminal, process_of, with_process}
use Rattle.abstract_unix.specs.Turn.{happens, settled_after, is_user}
use Rattle.pick_rules.specs.Table.{row_at}
use Rattle.pick_rules.specs.Apply.{applied}
use Rattle.pick_rules.proofs.Laws.{passed_running, wakeup_kept}
use Rattle.pick_rules.proofs.TickShapes.{tick_same}
use Rattle.abstract_unix.specs.Steps.{Steps, returns}
use Rattle.abstract_unix.specs.Delivery.{delivers_due}
use Rattle.abstract_unix.specs.Outside.{is_user_mode, is_second, is_as_trap, delivers_to, tick_delivery, mode_by, tick_entry, timed, charged, clock_after, is_due, ticked, wakes, tick_of, calls, calls_show, with_key, key_lines, typed_of, hangs_up, hangup_of, turned_to, paced_of, switched_of, disk_set_of}
use Rattle.abstract_unix.proofs.Sitting.{seat_for, seats_of, seat_in, runner_seat}
use Rattle.abstract_unix.proofs.Posting.{posted_seats, signal_lines_apt, meant_seated}
use Rattle.abstract_unix.proofs.Turning.{same_seats}
use Rattle.abstract_unix.proofs.Events.{system_at, FineTurn, AreShown, shown_stop, all_shown, ends_none, event_by, passes_fine, Came, came_fine}
use Rattle.abstract_unix.proofs.Telling.{keys_channel, show_channel, bytes_then, told_apt, lines_apt, lines_quiet}
use Rattle.abstract_unix.proofs.Ticking.{due_paused}
use Rattle.abstract_unix.proofs.Quiet.{HasNumbers}
use Rattle.abstract_unix.proofs.Tidy.{IsTidy}
use Rattle.abstract_unix.specs.Calls.{handed_of}

-- a wake between two events
wakes_apt : (u : Unix) (seen : Seen) (due : Bool) (chan : Chan) → IsChannel chan → Paused (seats_of u) seen
    → Apt (Paused (seats_of u)) seen (wakes due chan)
unfolding Apt
wakes_apt u seen true chan r p =
    wake_apt (Paused (seats_of u)) seen chan [] p.going r (wake_paused (seats_of u) seen chan p)
wakes_apt u seen false chan r p = p

-- The mode of the system is that of the board.
mode_same : (u : Unix) (seen : Seen) → Paused (seats_of u) seen
    → mode_by u seen.board.table.running ≡ mode_now seen.board
mode_same u seen p = by seen.board.table.running refl p.runner
  where
    user : (s : ℕ) → InTurn s (seats_of u) seen.board
        → (if is_user (process_of u s) then User else Kernel) ≡ mode_now seen.board
    user s t = turned (is_user (process_of u s)) t.seat.calling (ap (λ x. x.calling) (runner_seat u.processes u.clock u.texts u.limit s seen.board t))
        ∙ sym (mode_is s (seats_of u) seen.board p.agrees t)
      where
        turned : (x y : Bool) → not x ≡ y → cond x User Kernel ≡ cond y Kernel User
        turned true y e = subst (λ z. User ≡ cond z Kernel User) e refl
        turned false y e = subst (λ z. Kernel ≡ cond z Kernel User) e refl

    some : (s : ℕ) (z : Bool) → (s == 0) ≡ z → seen.board.table.running ≡ Some s
        → RunnerAt (seats_of u) seen.board (Some s)
        → (if z then Kernel else (if is_user (process_of u s) then User else Kernel)) ≡ mode_now seen.board
    some s true e f r = sym (ap (fits.mode_of seen.board.table) f ∙ rw e refl)
    some s false e f (inl z) = absurd (eqb-false s 0 e z)
    some s false e f (inr t) = user s t

    by : (o : Option ℕ) → seen.board.table.running ≡ o → RunnerAt (seats_of u) seen.board o
        → mode_by u o ≡ mode_now seen.board
    by None f r = sym (ap (fits.mode_of seen.board.table) f)
    by (Some s) f r = some s (s == 0) refl f r

same_line : (mode : Mode) → tick_entry mode ≡ tick_line mode
same_line User = refl
same_line Kernel = refl
same_line Idle = refl

-- who sits where is the same with a tick more of its times
timed_seat : (mode : Mode) (p : Process) → seat_for (timed mode p) ≡ seat_for p
timed_seat User p = refl
timed_seat Kernel p = refl
timed_seat Idle p = refl

charged_seats : (u : Unix) (seen : Seen) (mode : Mode) → RunnerAt (seats_of u) seen.board seen.board.table.running
    → seats_of (charged u mode seen.board.table.running) ≡ seats_of u
charged_seats u seen mode r = by seen.board.table.running r
  where
    some : (s : ℕ) (z : Bool) → (s == 0) ≡ z → RunnerAt (seats_of u) seen.board (Some s)
        → seats_of (cond z u (with_process u s (timed mode (process_of u s)))) ≡ seats_of u
    some s true e r = refl
    some s false e (inl z) = absurd (eqb-false s 0 e z)
    some s false e (inr t) =
        same_seats s seen u.processes u.clock u.texts u.limit (timed mode (process_of u s)) t (timed_seat mode (process_of u s))

    by : (o : Option ℕ) → RunnerAt (seats_of u) seen.board o → seats_of (charged u mode o) ≡ seats_of u
    by None r = refl
    by (Some s) r = some s (s == 0) refl r

clock_seats : (v : Seats) (clock : Clock) → v.time ≡ clock.time → v.ticks ≡ clock.ticks
    → a_tick_later v ≡ record v { time = (clock_after clock).time; ticks = (clock_after clock).ticks }
clock_seats v clock e f = subst (λ n. ticked_at n v ≡ record v { time = (clock_after clock).time; ticks = (clock_after clock).ticks }) (sym f) (by (clock.ticks == 59))
  where
    by : (x : Bool)
        → cond x (record v { ticks = 0; time = (v.time + 1) % 2 ^ 32 }) (record v { ticks = clock.ticks + 1 })
        ≡ record v {
          time = (cond x (record clock { ticks = 0; time = (clock.time + 1) % 2 ^ 32 }) (record clock { ticks = clock.ticks + 1 })).time;
          ticks = (cond x (record clock { ticks = 0; time = (clock.time + 1) % 2 ^ 32 }) (record clock { ticks = clock.ticks + 1 })).ticks;
        }
    by true = rw e refl
    by false = rw e refl

ticked_seats : (u : Unix) (seen : Seen) → Paused (seats_of u) seen
    → a_tick_later (seats_of u) ≡ seats_of (ticked (system_at u seen))
ticked_seats u seen p =
    clock_seats (seats_of u) u.clock refl refl
    ∙ ap {A = Seats} (λ v. record v { time = (clock_after u.clock).time; ticks = (clock_after u.clock).ticks })
    (sym (charged_seats u seen (mode_by u seen.board.table.running) p.runner))

-- a tick
tick_keeps : (u : Unix) (seen : Seen) (mode : Mode) → Paused (seats_of u) seen
    → Paused (seats_of (ticked (system_at u seen))) (seen_after seen (tick_line mode))
tick_keeps u seen mode p =
    subst (λ v. Paused v (seen_after seen (tick_line mode))) (ticked_seats u seen p) (tick_paused (seats_of u) seen mode p)

pub shown_wakes : (due : Bool) (chan : Chan) → AreShown (wakes due chan)
shown_wakes true chan = tt
shown_wakes false chan = tt

first_true : (x y : Bool) → (x && y) ≡ true → x ≡ true
first_true true y e = refl
first_true false y e = absurd (cc e)

mode_user : (x y : Bool) → is_user_mode (cond x Kernel (cond y User Kernel)) ≡ true → (x ≡ false) × (y ≡ true)
mode_user true y e = absurd (cc e)
mode_user false true e = (refl, refl)
mode_user false false e = absurd (cc e)

-- Who runs in user mode isn't process 0, and waits in no call, also with a tick more of its times.
abbrev InUserMode : Unix → ℕ → Type 0
InUserMode u s = (s ≢ 0) × ((seat : Seat) → seat_at (seats_of u) s ≡ Some seat → seat.calling ≡ false)

user_runs : (u : Unix) (seen : Seen) (r : ℕ) → Paused (seats_of u) seen → seen.board.table.running ≡ Some r
    → is_user_mode (mode_by u seen.board.table.running) ≡ true → InUserMode (ticked (system_at u seen)) r
user_runs u seen r p runs user = by (subst (RunnerAt (seats_of u) seen.board) runs p.runner)
  where
    mode : ((r == 0) ≡ false) × (is_user (process_of u r) ≡ true)
    mode = mode_user (r == 0) (is_user (process_of u r)) (subst (λ o. is_user_mode (mode_by u o) ≡ true) runs user)

    by : RunnerAt (seats_of u) seen.board (Some r)
        → (r ≢ 0) × ((seat : Seat) → seat_at (seats_of (ticked (system_at u seen))) r ≡ Some seat → seat.calling ≡ false)
    by (inl z) = absurd (eqb-false r 0 mode.0 z)
    by (inr t) = (
      eqb-false r 0 mode.0,
      λ seat at.
          let slots = ap (λ (v : Seats). seat_at v r) (charged_seats u seen (mode_by u seen.board.table.running) p.runner) in
          let is : seat ≡ t.seat = same_Some _ _ (sym at ∙ slots ∙ t.at) in
          ap (λ (x : Seat). x.calling) is ∙ ap (λ (x : Seat). x.calling) (sym (runner_seat u.processes u.clock u.texts u.limit r seen.board t)) ∙ ap not mode.1,
    )

-- a tick and a wake leave who runs
tick_runs : (u : Unix) (seen : Seen) (mode : Mode) → Paused (seats_of u) seen
    → (seen_after seen (tick_line mode)).board.table.running ≡ seen.board.table.running
unfolding applied
tick_runs u seen mode p = by mode
  where
    by : (m : Mode) → (seen_after seen (tick_line m)).board.table.running ≡ seen.board.table.running
    by User = (tick_same User seen.board.table p.agrees.sleeps).running ∙ passed_running seen.board.table
    by Kernel = (tick_same Kernel seen.board.table p.agrees.sleeps).running ∙ passed_running seen.board.table
    by Idle = (tick_same Idle seen.board.table p.agrees.sleeps).running ∙ passed_running seen.board.table

-- between two events, with the same runner
abbrev RunsOn : Unix → Option ℕ → Seen → Type 0
RunsOn u o seen = Paused (seats_of u) seen × (seen.board.table.running ≡ o)

wakes_on : (u : Unix) (o : Option ℕ) (seen : Seen) (due : Bool) → RunsOn u o seen → Apt (RunsOn u o) seen (wakes due Tout)
unfolding Apt applied
wakes_on u o seen true p =
    wake_apt (RunsOn u o) seen Tout [] p.0.going tt
    (wake_paused (seats_of u) seen Tout p.0, (wakeup_kept seen.board.table Tout).running ∙ p.1)
wakes_on u o seen false p = p

-- A signal comes to who runs, in user mode.
delivery_apt : (u : Unix) (o : Option ℕ) (seen : Seen) (b : Bool) → (b ≡ true → (s : ℕ) → o ≡ Some s → InUserMode u s)
    → ((s : ℕ) → HasNumbers (handed_of u (process_of u s))) → RunsOn u o seen
    → Apt (Paused (seats_of (cond b (delivers_to u o) (returns u)).unix)) seen (cond b (delivers_to u o) (returns u)).effects
unfolding Apt
delivery_apt u o seen false in_user numbers p = p.0
delivery_apt u None seen true in_user numbers p = p.0
delivery_apt u (Some s) seen true in_user numbers p = by (subst (RunnerAt (seats_of u) seen.board) p.1 p.0.runner)
  where
    user : (s ≢ 0) × ((seat : Seat) → seat_at (seats_of u) s ≡ Some seat → seat.calling ≡ false)
    user = in_user refl s refl

    by : RunnerAt (seats_of u) seen.board (Some s) → Apt (Paused (seats_of (delivers_due u s).unix)) seen (delivers_due u s).effects
    by (inl z) = absurd (user.0 z)
    by (inr t) =
        let calls : t.seat.calling ≡ false = user.1 t.seat t.at in
        let out : (row_at seen.board.table s).calling ≡ false =
        (own 0 s (seats_of u) seen.board p.0.agrees t).calling (not_zero s t.user) t.alive ∙ calls in
        due_paused s seen u (numbers s) (record { going = p.0.going; agrees = busy_agrees s (seats_of u) seen.board p.0.agrees; turn = t; calls = calls }) out

-- a tick changes the times of a process alone
ticked_numbers : (u : Unix) (mode : Mode) (o : Option ℕ) → IsTidy u → (r : ℕ) → HasNumbers (handed_of (record (charged u mode o) { clock = clock_after u.clock }) (process_of (charged u mode o) r))
ticked_numbers u mode None tidy r = record { count = tidy.count; eight = tidy.eight; pipes = tidy.pipes }
ticked_numbers u mode (Some s) tidy r = by (s == 0)
  where
    by : (b : Bool) → HasNumbers (handed_of (record (cond b u (with_process u s (timed mode (process_of u s)))) { clock = clock_after u.clock })
        (process_of (cond b u (with_process u s (timed mode (process_of u s)))) r))
    by true = record { count = tidy.count; eight = tidy.eight; pipes = tidy.pipes }
    by false = record { count = tidy.count; eight = tidy.eight; pipes = tidy.pipes }

pub tick_fine : (u : Unix) (seen : Seen) → IsTidy u → Paused (seats_of u) seen
    → FineTurn seen (settled_after (tick_of (system_at u seen)))
unfolding Apt came
tick_fine u seen tidy p =
    passes_fine s.unix seen (Show (Log (tick_entry mode)) ∷ wakes due Tout ++ s.effects)
    (subst (λ x. Fits seen x × Apt (Paused (seats_of s.unix)) (seen_after seen x) (wakes due Tout ++ s.effects)) (sym line_is) (
      tick_fits seen p.going,
      apt_append (RunsOn now runner) (Paused (seats_of s.unix)) (seen_after seen (tick_line (mode_now seen.board))) (wakes due Tout) s.effects
          (wakes_on now runner (seen_after seen (tick_line (mode_now seen.board))) due
          (tick_keeps u seen (mode_now seen.board) p, tick_runs u seen (mode_now seen.board) p))
          (λ at q. delivery_apt now runner at (is_as_trap (system_at u seen)) in_user (λ r. ticked_numbers u mode runner tidy r) q),
    ))
  where
    mode : Mode
    mode = mode_by u seen.board.table.running

    due : Bool
    due = is_due u.clock

    runner : Option ℕ
    runner = seen.board.table.running

    now : Unix
    now = ticked (system_at u seen)

    s : Steps
    s = tick_delivery (system_at u seen)

    line_is : tick_entry mode ≡ tick_line (mode_now seen.board)
    line_is = ap tick_entry (mode_same u seen p) ∙ same_line (mode_now seen.board)

    in_user : is_as_trap (system_at u seen) ≡ true → (r : ℕ) → runner ≡ Some r → InUserMode now r
    in_user is r runs = user_runs u seen r p runs (first_true (is_user_mode mode) (is_second u.clock) is)

-- A key: bytes are shown, a signal is sent, and sleepers wake.
wakes_then : (v : Seats) (seen : Seen) (b : Bool) (chan : Chan) (tail : List (Effect Unix)) → IsChannel chan → Paused v seen
    → ((at : Seen) → Paused v at → Apt (Paused v) at tail) → Apt (Paused v) seen (wakes b chan ++ tail)
wakes_then v seen true chan tail is p next =
    wake_apt (Paused v) seen chan tail p.going is (next (seen_after seen (Wake chan)) (wake_paused v seen chan p))
wakes_then v seen false chan tail is p next = next seen p

-- who waits for keys of a line, and then who waits for room on it
both_apt : (u : Unix) (l : ℕ) (keys room : Bool) (seen : Seen) → l < 8 → Paused (seats_of u) seen
    → Apt (Paused (seats_of u)) seen (wakes keys (keys_of l) ++ wakes room (show_of l))
both_apt u l keys room seen few p =
    wakes_then (seats_of u) seen keys (keys_of l) (wakes room (show_of l)) (keys_channel l few) p
    (λ at q. wakes_apt u at room (show_of l) (show_channel l few) q)

-- The lines are those of the Unix before; its terminal has changed.
key_apt : (u : Unix) (l : ℕ) (terminal : Terminal) (seen : Seen) (keyed : Keyed) → (calls keyed ≡ true → l < 8) → Paused (seats_of u) seen
    → Apt (Paused (seats_of (with_key l keyed (with_terminal u l terminal)))) seen
    (map Show (key_lines l keyed u) ++ (wakes (calls keyed) (keys_of l) ++ wakes (calls_show keyed) (show_of l)))
unfolding Apt
key_apt u l terminal seen Nothing few p = p
key_apt u l terminal seen Ready few p = both_apt (with_terminal u l terminal) l true false seen (few refl) p
key_apt u l terminal seen (Flushed show) few p = both_apt (with_terminal u l terminal) l true show seen (few refl) p
key_apt u l terminal seen (Signal n show) few p =
    let v : Seats = seats_of u in
    let now : Unix = with_key l (Signal n show) (with_terminal u l terminal) in
    let same : seats_of now ≡ v = posted_seats (has_line l) n u.processes u.clock u.texts u.limit p.agrees.seats in
    signal_lines_apt Unix 0 v n (Paused v) (Paused (seats_of now)) (wakes true (keys_of l) ++ wakes show (show_of l))
    (λ at q. (q.going, q.agrees)) (λ at r q. signal_paused v at r n q)
    (λ at q. both_apt now l true show at (few refl) (subst (λ x. Paused x at) (sym same) q))
    (meant_in (has_line l) u.processes) (meant_seated (has_line l) u.processes v (λ r. seat_in u.processes u.clock u.texts u.limit r)) seen p

pub shown_items : (items : List Item) (tail : List (Effect Unix)) → AreShown tail → AreShown (map Show items ++ tail)
shown_items [] tail shown = shown
shown_items (item ∷ items) tail shown = shown_items items tail shown

pub shown_both : (keys room : Bool) (first second : Chan) → AreShown (wakes keys first ++ wakes room second)
shown_both true room first second = shown_wakes room second
shown_both false room first second = shown_wakes room second

-- A line that is open is there.
open_there : (lines : List Terminal) (l : ℕ) → (terminals.terminal_at lines l).is_open ≡ true → l < length lines
open_there lines l is_open = by (nat_lt l (length lines)) refl
  where
    by : (b : Bool) → nat_lt l (length lines) ≡ b → l < length lines
    by true is = ltb-true l (length lines) is
    by false is =
        let past : terminals.terminal_at lines l ≡ first_terminal = get_or_past lines l first_terminal (ltb-false l (length lines) is) in
        absurd (let no : false ≡ true = sym (ap (λ (t : Terminal). t.is_open) past) ∙ is_open in cc no)

-- a key that calls somebody was typed on a line that is open
calls_open : (t : Terminal) (byte : ℕ) → calls (typed t byte).keyed ≡ true → t.is_open ≡ true
calls_open t byte is = by t.is_open refl is
  where
    by : (b : Bool) → t.is_open ≡ b → calls (cond b (typed_key t (key_of (flags t) byte)) (input.quietly t Nothing)).keyed ≡ true → t.is_open ≡ true
    by true e c = e
    by false e c = absurd (cc c)

typed_for : (m : System) (seen : Seen) (l byte : ℕ) → length m.unix.lines ≤ 8 → seen.board ≡ m.board → Paused (seats_of m.unix) seen
    → FineTurn seen (settled_after (typed_of m l byte))
typed_for m seen l byte eight board p =
    let t : Terminal = terminal_at m.unix l in
    let k : Typed = typed t byte in
    let items : List Item = sent l k.shown ++ key_lines l k.keyed m.unix in
    let now : Unix = with_key l k.keyed (with_terminal m.unix l k.terminal) in
    let woken : List (Effect Unix) = wakes (calls k.keyed) (keys_of l) ++ wakes (calls_show k.keyed) (show_of l) in
    let es : List (Effect Unix) = map Show items ++ woken in
    let few : calls k.keyed ≡ true → l < 8 = (λ is. let there = open_there m.unix.lines l (calls_open t byte is) in omega (arith, there, eight)) in
    subst (λ b. FineTurn seen (settled_after (happens now (logged b es)))) board
    (event_by m.unix now seen es
    (bytes_then (Paused (seats_of now)) seen l k.shown (key_lines l k.keyed m.unix) woken (key_apt m.unix l k.terminal seen k.keyed few p))
    (shown_stop seen.board es (shown_items items woken (shown_both (calls k.keyed) (calls_show k.keyed) (keys_of l) (show_of l)))))

pub typed_fine : (u : Unix) (seen : Seen) (l byte : ℕ) → length u.lines ≤ 8 → Paused (seats_of u) seen
    → FineTurn seen (settled_after (typed_of (system_at u seen) l byte))
typed_fine u seen l byte eight p = typed_for (system_at u seen) seen l byte eight refl p

-- A line hangs up: a signal is sent, and sleepers wake.
hung_apt : (u : Unix) (l : ℕ) (seen : Seen) → l < 8 → Paused (seats_of u) seen
    → Apt {W = Unix} (Paused (seats_of (record u { processes = all_signalled (has_line l) SIGHUP u.processes }))) seen
    (map Show (signal_lines SIGHUP (meant_in (has_line l) u.processes) ++ told l (flush (terminal_at u l))))
unfolding Apt
hung_apt u l seen few p =
    let v : Seats = seats_of u in
    let s : Said = flush (terminal_at u l) in
    let now : Seats = seats_of (record u { processes = all_signalled (has_line l) SIGHUP u.processes }) in
    let same : now ≡ v = posted_seats (has_line l) SIGHUP u.processes u.clock u.texts u.limit p.agrees.seats in
    let meant : List ℕ = meant_in (has_line l) u.processes in
    subst (Apt {W = Unix} (Paused now) seen) (sym (map-append Show (signal_lines SIGHUP meant) (told l s)))
    (signal_lines_apt Unix 0 v SIGHUP (Paused v) (Paused now) (map Show (told l s))
    (λ at q. (q.going, q.agrees)) (λ at r q. signal_paused v at r SIGHUP q)
    (λ at q. subst (Apt {W = Unix} (Paused now) at) (append-nil (map Show (told l s)))
    (told_apt now at l s [] few (subst (λ x. Paused x at) (sym same) q) (λ last r. r)))
    meant (meant_seated (has_line l) u.processes v (λ r. seat_in u.processes u.clock u.texts u.limit r)) seen p)

pub hangup_fine : (u : Unix) (seen : Seen) (l : ℕ) → length u.lines ≤ 8 → Paused (seats_of u) seen
    → FineTurn seen (settled_after (hangup_of (system_at u seen) l))
unfolding Apt
hangup_fine u seen l eight p = by (terminal_at u l).is_open refl
  where
    m : System
    m = system_at u seen

    s : Said
    s = flush (terminal_at u l)

    items : List Item
    items = signal_lines SIGHUP (meant_in (has_line l) u.processes) ++ told l s

    by : (b : Bool) → (terminal_at u l).is_open ≡ b → FineTurn seen (settled_after (cond b (hangs_up m l) (happens u (nothing_logged seen.board))))
    by true opened =
        let there = open_there u.lines l opened in
        event_by u (record (with_terminal u l s.terminal) { processes = all_signalled (has_line l) SIGHUP u.processes }) seen (map Show items)
        (hung_apt u l seen (omega (arith, there, eight)) p) (shown_stop seen.board (map Show items) (all_shown items))
    by false opened = event_by u u seen [] p refl

-- The pace: bytes go out, and sleepers wake.
paced_came : (u : Unix) (seen : Seen) (count : ℕ) → length u.lines ≤ 8 → Holds (seats_of u) seen → Came seen (paced_of (system_at u seen) count)
paced_came u seen count eight h = record {
  fit = f.fit;
  board = f.board;
  goes = λ e. subst (λ (x : Unix). Paused (seats_of x) (seen_items seen l.items)) (sym left)
      (ends_none (Paused (seats_of u)) l.stop (seen_items seen l.items) stop f.ends);
  rests = λ e quiet. subst (λ (x : Unix). Holds (seats_of x) (seen_items seen l.items)) (sym left)
      (ends_none (Holds (seats_of u)) l.stop (seen_items seen l.items) stop
      (apt_fits (Holds (seats_of u)) seen es (lines_quiet (Holds (seats_of u)) call u.lines seen quiet h)).ends);
  over = λ kind e. absurd (cc e);
}
  where
    call : Terminal → Said
    call = turned_to (not (count == 0))

    all : AllTold
    all = each_line call u.lines

    now : Unix
    now = record u { lines = all.lines; timing = record u.timing { pace = count; since = 0 } }

    es : List (Effect Unix)
    es = map Show all.items

    l : Logged Unix
    l = logged seen.board es

    stop : l.stop ≡ None
    stop = shown_stop seen.board es (all_shown all.items)

    left : left_by l.stop now ≡ now
    left = ap (λ o. left_by o now) stop

    f : Fitted (Paused (seats_of u)) seen l
    f = apt_fits (Paused (seats_of u)) seen es (lines_apt (seats_of u) call u.lines seen eight h.paused)

pub paced_fine : (u : Unix) (seen : Seen) (count : ℕ) → length u.lines ≤ 8 → Holds (seats_of u) seen
    → FineTurn seen (settled_after (paced_of (system_at u seen) count))
paced_fine u seen count eight h = came_fine seen (paced_of (system_at u seen) count) (paced_came u seen count eight h)

-- the switches, and how long a transfer takes
pub switched_fine : (u : Unix) (seen : Seen) (word : ℕ) → Holds (seats_of u) seen → FineTurn seen (settled_after (switched_of (system_at u seen) word))
unfolding FitAll
switched_fine u seen word h =
    record { fit = tt; stands = λ e. record { board = refl; holds = h }; over = λ kind e. absurd (cc e) }

pub disk_set_fine : (u : Unix) (seen : Seen) (count : ℕ) → Holds (seats_of u) seen → FineTurn seen (settled_after (disk_set_of (system_at u seen) count))
unfolding FitAll
disk_set_fine u seen count h =
    record { fit = tt; stands = λ e. record { board = refl; holds = h }; over = λ kind e. absurd (cc e) }
