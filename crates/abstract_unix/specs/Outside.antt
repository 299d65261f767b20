-- What comes from outside: ticks of the clock, keys and hang-ups of the lines, their pace, the switches of the console, and how
-- long a transfer takes. `clock` and `klrint` in Lions' Commentary, `clock.c` and `kl.c`.
use Rattle.std.specs.Prelude.{ℕ, ◌+◌, ◌%◌, ◌^◌, ◌==◌, ◌&&◌, Bool, true, false, not, List, [], ◌∷◌, ◌++◌, map, Option, Some, None, if◌then◌else◌}
use Rattle.v6_base.specs.Trace.{Item, Log, sent}
use Rattle.v6_base.specs.declared.entry.Chan.{Chan}
use Rattle.v6_base.specs.declared.entry.Chan.TheVariants.{Tout}
use Rattle.v6_base.specs.declared.entry.Entry.{Entry}
use Rattle.v6_base.specs.declared.entry.Entry.TheVariants.{TickUser, TickKernel, TickIdle, Wake}
use Rattle.tty_line.specs.Terminal.{Terminal}
use Rattle.tty_line.specs.declared.line.Keyed.{Keyed}
use Rattle.tty_line.specs.declared.line.Keyed.TheVariants.{Nothing, Ready, Flushed, Signal}
use Rattle.tty_line.specs.Input.{Typed, typed}
use Rattle.tty_line.specs.Said.{Said, flush, paced}
use Rattle.lines_eight.specs.Told.{AllTold, each_line, told, keys_of, show_of}
use Rattle.pick_rules.specs.declared.row.Mode.{Mode}
use Rattle.pick_rules.specs.declared.row.Mode.TheVariants.{User, Kernel, Idle}
use Rattle.pick_rules.specs.Board.{Board}
use Rattle.pick_rules.specs.Effects.{Effect, Show}
use Rattle.pick_rules.specs.Logged.{nothing_logged, logged}
use Rattle.sig_core.specs.declared.numbers.TheConstants.{SIGHUP}
use Rattle.u_area.specs.declared.area.UArea.{UArea}
use Rattle.sys_procs.specs.Process.{Process}
use Rattle.sys_procs.specs.World.{Clock}
use Rattle.abstract_unix.specs.Unix.{Unix, System, terminal_at, with_terminal, process_of, with_process}
use Rattle.sys_procs.specs.Signals.{has_line, meant_in, all_signalled, signal_lines}
use Rattle.abstract_unix.specs.Steps.{Steps, returns}
use Rattle.abstract_unix.specs.Delivery.{delivers_due}
use Rattle.abstract_unix.specs.Turn.{Happened, happens, passes, is_user}

-- where a tick comes
abbrev pub mode_by : Unix → Option ℕ → Mode
mode_by u None = Idle
mode_by u (Some slot) = if slot == 0 then Kernel else (if is_user (process_of u slot) then User else Kernel)

abbrev pub mode_of : System → Mode
mode_of m = mode_by m.unix m.board.table.running

abbrev pub tick_entry : Mode → Entry
tick_entry User = TickUser
tick_entry Kernel = TickKernel
tick_entry Idle = TickIdle

-- A process has one tick more of its own time, or of the system's for it: times(II).
abbrev pub timed_area : Mode → UArea → UArea
timed_area User u = record u { user_time = (u.user_time + 1) % 65536 }
timed_area Kernel u = record u { system_time = (u.system_time + 1) % 65536 }
timed_area Idle u = u

abbrev pub timed : Mode → Process → Process
timed mode p = record p { u = timed_area mode p.u }

-- the swapper has no times
abbrev pub charged : Unix → Mode → Option ℕ → Unix
charged u mode None = u
charged u mode (Some slot) = if slot == 0 then u else with_process u slot (timed mode (process_of u slot))

-- sixty ticks are a second
abbrev pub is_second : Clock → Bool
is_second clock = clock.ticks == 59

abbrev pub clock_after : Clock → Clock
clock_after clock =
    if is_second clock then record clock { ticks = 0; time = (clock.time + 1) % 2 ^ 32 }
    else record clock { ticks = clock.ticks + 1 }

-- a second has brought the time at which sleepers are woken
abbrev pub is_due : Clock → Bool
is_due clock = is_second clock && ((clock.time + 1) % 2 ^ 32 == clock.tout)

abbrev pub ticked : System → Unix
ticked m = let u : Unix = charged m.unix (mode_of m) m.board.table.running in record u { clock = clock_after m.unix.clock }

-- who sleeps for a channel is woken, where that is called for
abbrev pub wakes : Bool → Chan → List (Effect Unix)
wakes true chan = Show (Log (Wake chan)) ∷ []
wakes false chan = []

-- what a tick does to times, and who is woken
abbrev pub tick_effects : System → List (Effect Unix)
tick_effects m = Show (Log (tick_entry (mode_of m))) ∷ wakes (is_due m.unix.clock) Tout

-- A second that ends in user mode is as a trap: a signal that is due is delivered.
abbrev pub is_user_mode : Mode → Bool
is_user_mode User = true
is_user_mode Kernel = false
is_user_mode Idle = false

abbrev pub is_as_trap : System → Bool
is_as_trap m = is_user_mode (mode_of m) && is_second m.unix.clock

abbrev pub delivers_to : Unix → Option ℕ → Steps
delivers_to u None = returns u
delivers_to u (Some slot) = delivers_due u slot

abbrev pub tick_delivery : System → Steps
tick_delivery m = if is_as_trap m then delivers_to (ticked m) m.board.table.running else returns (ticked m)

abbrev pub tick_of : System → Happened
tick_of m =
    let s : Steps = tick_delivery m in
    passes s.unix (logged m.board (tick_effects m ++ s.effects))

-- a key that calls for who waits for keys
abbrev pub calls : Keyed → Bool
calls Nothing = false
calls Ready = true
calls (Flushed show) = true
calls (Signal n show) = true

-- and one that calls for who waits for room: bytes that waited to go out are lost
abbrev pub calls_show : Keyed → Bool
calls_show Nothing = false
calls_show Ready = false
calls_show (Flushed show) = show
calls_show (Signal n show) = show

-- a key that sends a signal to those who have the line, and the lines of the log for it
abbrev pub with_key : ℕ → Keyed → Unix → Unix
with_key l Nothing u = u
with_key l Ready u = u
with_key l (Flushed show) u = u
with_key l (Signal n show) u = record u { processes = all_signalled (has_line l) n u.processes }

abbrev pub key_lines : ℕ → Keyed → Unix → List Item
key_lines l Nothing u = []
key_lines l Ready u = []
key_lines l (Flushed show) u = []
key_lines l (Signal n show) u = signal_lines n (meant_in (has_line l) u.processes)

-- A byte is typed on a line. One that isn't there, as one that isn't open, drops it.
abbrev pub typed_of : System → ℕ → ℕ → Happened
typed_of m l byte =
    let k : Typed = typed (terminal_at m.unix l) byte in
    happens (with_key l k.keyed (with_terminal m.unix l k.terminal))
    (logged m.board (map Show (sent l k.shown ++ key_lines l k.keyed m.unix)
    ++ (wakes (calls k.keyed) (keys_of l) ++ wakes (calls_show k.keyed) (show_of l))))

-- A line hangs up: those whose terminal it is have a signal, and it is flushed. It stays open.
abbrev pub hangs_up : System → ℕ → Happened
hangs_up m l =
    let s : Said = flush (terminal_at m.unix l) in
    happens (record (with_terminal m.unix l s.terminal) { processes = all_signalled (has_line l) SIGHUP m.unix.processes })
    (logged m.board (map Show (signal_lines SIGHUP (meant_in (has_line l) m.unix.processes) ++ told l s)))

-- one that isn't there or isn't open ignores it
abbrev pub hangup_of : System → ℕ → Happened
hangup_of m l = if (terminal_at m.unix l).is_open then hangs_up m l else happens m.unix (nothing_logged m.board)

-- The pace of all lines is set, and counted from here. Where it is turned off what waits goes out, lowest line first, and after
-- each line who waits for room on it is woken. The kernel settles where somebody is.
abbrev pub turned_to : Bool → Terminal → Said
turned_to on t = paced t on

abbrev pub paced_of : System → ℕ → Happened
paced_of m n =
    let all : AllTold = each_line (turned_to (not (n == 0))) m.unix.lines in
    record (happens (record m.unix { lines = all.lines; timing = record m.unix.timing { pace = n; since = 0 } })
    (logged m.board (map Show all.items))) { settles = all.wakes }

-- nothing is logged, and nobody settles
abbrev pub quietly : Unix → Board → Happened
quietly u b = record (happens u (nothing_logged b)) { settles = false }

abbrev pub switched_of : System → ℕ → Happened
switched_of m word = quietly (record m.unix { switches = word }) m.board

abbrev pub disk_set_of : System → ℕ → Happened
disk_set_of m count = quietly (record m.unix { timing = record m.unix.timing { disk = count } }) m.board
