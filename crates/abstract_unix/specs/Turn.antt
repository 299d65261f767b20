-- The turn of a slot, where there is a process: an instruction, or a call that it goes on with, until it exits; and what follows
-- a slot. `trap` and `swtch` in Lions' Commentary, `trap.c` and `slp.c`.
use Rattle.std.specs.Prelude.{◌≡◌, ℕ, zero, suc, ◌+◌, ◌*◌, ◌%◌, ◌==◌, ◌&&◌, ◌||◌, Bool, true, false, not, List, [], ◌∷◌, ◌++◌, map, slice_index, Option, Some, None, Result, Ok, Err, if◌then◌else◌}
use Rattle.v6_base.specs.Trace.{Item, Log}
use Rattle.v6_base.specs.declared.entry.Chan.TheVariants.{Disk}
use Rattle.v6_base.specs.declared.entry.Entry.{Entry}
use Rattle.v6_base.specs.declared.entry.PanicKind.{PanicKind}
use Rattle.v6_base.specs.declared.entry.Entry.TheVariants as entry
use Rattle.pdp_step.specs.declared.outcome.Outcome.{Outcome}
use Rattle.pdp_step.specs.declared.outcome.Kind.{Kind}
use Rattle.pdp_step.specs.declared.outcome.Kind.TheVariants as kind
use Rattle.pdp_step.specs.declared.outcome.Outcome.TheVariants.{Next, Call, Fault}
use Rattle.pdp_step.specs.Machine.{Machine}
use Rattle.pdp_step.specs.Instruction.{Stepped, instr}
use Rattle.pick_rules.specs.declared.table.Table.{Table}
use Rattle.pick_rules.specs.Table.{row_at, is_ready, is_loaded}
use Rattle.pick_rules.specs.Choice.{settle}
use Rattle.pick_rules.specs.Board.{Board}
use Rattle.pick_rules.specs.Apply.{applied}
use Rattle.pick_rules.specs.Effects.{Effect, Show}
use Rattle.pick_rules.specs.Logged.{Logged, Stop, nothing_logged, logged, left_by}
use Rattle.swap_sched.specs.Pass.{pass, over}
use Rattle.u_area.specs.declared.layout.TheConstants.{NOTHING_PENDING}
use Rattle.image_keep.specs.Running.{with_state}
use Rattle.sys_procs.specs.Process.{Process, register, image_of}
use Rattle.abstract_unix.specs.declared.ending.Ending.{Ending}
use Rattle.abstract_unix.specs.declared.ending.Ending.TheVariants as ending
use Rattle.abstract_unix.specs.declared.ends.Ends.{Ends}
use Rattle.abstract_unix.specs.declared.ends.Ends.TheVariants as ends
use Rattle.abstract_unix.specs.declared.ends.Ends.TheVariants.{AtEnd}
use Rattle.abstract_unix.specs.declared.turned.Turned.{Turned}
use Rattle.abstract_unix.specs.declared.turned.Turned.TheVariants.{Ran, Idle, Panic}
use Rattle.tty_line.specs.Said.{sends}
use Rattle.lines_eight.specs.Told.{AllTold, each_line}
use Rattle.abstract_unix.specs.Unix.{Text, Timing, Unix, System, process_of, with_process}
use Rattle.abstract_unix.specs.Endings.{is_early}
use Rattle.abstract_unix.specs.Steps as to
use Rattle.abstract_unix.specs.Steps.{Steps, returns, signals}
use Rattle.sig_core.specs.declared.numbers.TheConstants.{SIGINS, SIGTRC, SIGIOT, SIGEMT, SIGBUS}
use Rattle.sig_core.specs.Signals.{handler_of}
use Rattle.sys_procs.specs.Signals.{meant_in}
use Rattle.u_area.specs.declared.layout.TheConstants.{DISK_WAIT}
use Rattle.abstract_unix.specs.declared.asked.Asked.{Asked}
use Rattle.abstract_unix.specs.Calls.{with_area, entered_area, words_passed, asked, sysent_of, waits_in_call, system_call, grows_to, resumed}
use Rattle.abstract_unix.specs.Delivery.{ends_turn}

-- what an instruction of a process works on, and the process after it
abbrev pub machine_of : List (Option Text) → Process → Machine
machine_of texts p = record { r = p.u.r; cc = p.u.cc; image = image_of texts p }

abbrev pub with_machine : Process → Machine → Process
with_machine p m = record p { u = with_state p.u m.r m.cc; «data» = m.image.data; stack = m.image.stack }

-- The instruction by which a program asks for floating point of double precision. A process that does nothing about illegal
-- instructions passes it.
abbrev pub setd : ℕ
setd = 0o170011

abbrev pub passes_setd : Unix → ℕ → ℕ → Bool
passes_setd u slot word = (word == setd) && (handler_of (process_of u slot).u SIGINS == 0)

-- A fault: the stack may grow for one; all others make signals.
abbrev pub faults : Unix → ℕ → Kind → Steps
faults u slot kind.Odd = signals u slot SIGBUS
faults u slot (kind.Segment sp) = grows_to u slot sp
faults u slot (kind.Illegal word) = if passes_setd u slot word then returns u else signals u slot SIGINS
faults u slot kind.Bpt = signals u slot SIGTRC
faults u slot kind.Iot = signals u slot SIGIOT
faults u slot kind.Emt = signals u slot SIGEMT

abbrev pub comes_to : Unix → ℕ → Outcome → Steps
comes_to u slot Next = to.steps u
comes_to u slot (Call number) = system_call number u slot
comes_to u slot (Fault kind) = faults u slot kind

-- whether what an instruction has come to ends with a wait for the disk
abbrev pub waits_in : Unix → ℕ → Outcome → Bool
waits_in u slot Next = false
waits_in u slot (Call number) =
    let p : Process = process_of u slot in
    let a : Asked = asked (image_of u.texts p) (register p 7) number in
    waits_in_call (with_area u slot (entered_area (words_passed a (sysent_of a.number).count))) slot (sysent_of a.number).call a.args
waits_in u slot (Fault kind) = false

abbrev pub instruction : Unix → ℕ → Steps
instruction u slot =
    let p : Process = process_of u slot in
    let s : Stepped = instr (machine_of u.texts p) in
    comes_to (with_process u slot (with_machine p s.machine)) slot s.outcome

-- a process is in user mode, where it executes instructions, while it has no call to go on with
abbrev pub is_user : Process → Bool
is_user p = p.u.pending == NOTHING_PENDING

abbrev pub begins_turn : System → ℕ → Steps
begins_turn m slot = if is_user (process_of m.unix slot) then instruction m.unix slot else resumed m.unix slot

abbrev pub turn : System → ℕ → Steps
turn m slot = ends_turn slot (begins_turn m slot)

-- the lines of the log with which a turn ends
abbrev pub end_effects : ℕ → Ending → List (Effect Unix)
end_effects slot ending.Next = []
end_effects slot ending.Trapped = Show (Log (entry.Trap slot)) ∷ []
end_effects slot (ending.Slept pri chan) = Show (Log (entry.Sleep slot pri chan)) ∷ []
end_effects slot ending.Ended = []
end_effects slot (ending.Panic kind) = []

-- what settling shows, and the board then
pub record Settled : Type 0 where
  pub items : List Item
  pub board : Board

abbrev pub settled_as : Option Entry → Board → Settled
settled_as None b = record { items = []; board = b }
settled_as (Some e) b = record { items = Log e ∷ []; board = applied b e }

-- The kernel settles: who must gives up, and with nobody running there is a choice.
abbrev pub settled : Board → Settled
settled b = settled_as (settle b.table) b

-- What has happened in an event, before the kernel settles: the Unix and the log then, whether nobody was there to run, whether
-- the kernel settles after it, and how the run ends, as far as the event tells.
pub record Happened : Type 0 where
  pub unix : Unix
  pub log : Logged Unix
  pub is_idle : Bool
  pub settles : Bool
  pub ending : Ends

-- An event leaves this Unix and this log. A panic leaves the Unix that stood before it.
abbrev pub happens : Unix → Logged Unix → Happened
happens u l = record { unix = left_by l.stop u; log = l; is_idle = false; settles = true; ending = AtEnd }

-- what an event comes to: what is shown, the system then, whether nobody was there to run, and how the run ends, as far as
-- the event tells
pub record Turn : Type 0 where
  pub items : List Item
  pub next : System
  pub is_idle : Bool
  pub ending : Ends

-- nothing follows what has happened
abbrev pub stays : Happened → Turn
stays h = record {
  items = h.log.items;
  next = record { unix = h.unix; board = h.log.board };
  is_idle = h.is_idle;
  ending = h.ending;
}

-- the kernel settles after it
abbrev pub settling : Happened → Turn
settling h =
    let now : Settled = settled h.log.board in
    record (stays h) { items = h.log.items ++ now.items; next = record { unix = h.unix; board = now.board } }

-- Settling comes where the event calls for it, and the run goes on.
abbrev pub calls_for_settling : Happened → Bool
calls_for_settling h = not (is_early h.ending) && h.settles

abbrev pub settled_after : Happened → Turn
settled_after h = if calls_for_settling h then settling h else stays h

-- how a turn ends the run, if it does
abbrev pub ending_of : Ending → Ends
ending_of ending.Next = AtEnd
ending_of ending.Trapped = AtEnd
ending_of (ending.Slept pri chan) = AtEnd
ending_of ending.Ended = AtEnd
ending_of (ending.Panic kind) = ends.Panic kind

-- a demand that finds no place ends the run with a panic
abbrev pub ending_by : Option (Stop Unix) → Ending → Ends
ending_by None ending = ending_of ending
ending_by (Some stop) ending = ends.Panic stop.why

abbrev pub turn_of : System → ℕ → Steps → Happened
turn_of m slot steps =
    let l : Logged Unix = logged m.board (steps.effects ++ end_effects slot steps.ending) in
    record (happens steps.unix l) {
      ending = ending_by l.stop steps.ending;
    }

-- how an event ends the run, if it does, that is no turn of a process
abbrev pub ending_of_pass : Option (Stop Unix) → Ends
ending_of_pass None = AtEnd
ending_of_pass (Some stop) = ends.Panic stop.why

-- The pass of the swapper, which moves images and changes no process; or a tick.
abbrev pub passes : Unix → Logged Unix → Happened
passes u l = record (happens u l) { ending = ending_of_pass l.stop }

abbrev pub pass_of : System → Happened
pass_of m = passes m.unix (over m.unix (pass m.board))

abbrev pub slot_by : System → ℕ → Happened
slot_by m zero = pass_of m
slot_by m (suc s) = turn_of m (suc s) (turn m (suc s))

-- In a slot with nobody running there is no turn.
abbrev pub slot_of : System → Option ℕ → Happened
slot_of m None = record (happens m.unix (nothing_logged m.board)) { is_idle = true; settles = false }
slot_of m (Some slot) = slot_by m slot

-- A slot has been taken: it counts.
abbrev pub with_slot : Unix → Unix
with_slot u = record u { timing = record u.timing { passed = u.timing.passed + 1; since = u.timing.since + 1 } }

abbrev pub counted : Happened → Happened
counted h = record h { unix = with_slot h.unix }

-- Effects follow what has happened. Those that wake somebody call for the kernel to settle.
abbrev pub followed : Bool → Happened → List (Effect Unix) → Happened
followed wakes h [] = h
followed wakes h (effect ∷ effects) =
    let l : Logged Unix = logged h.log.board (effect ∷ effects) in
    record h { log = record l { items = h.log.items ++ l.items }; settles = wakes || h.settles }

-- the number of the slot with whose end a wait for the disk ends
abbrev pub disk_end_of : Process → ℕ
disk_end_of p = 65536 * slice_index p.u.call 4 + slice_index p.u.call 5

abbrev pub waits_until : ℕ → ℕ → Process → Bool
waits_until n s p = (p.u.pending == DISK_WAIT) && (disk_end_of p == n)

-- Who has waited for the disk up to the end of this slot is woken, lowest slot first: `iodone` in Lions' Commentary, `bio.c`.
abbrev pub disk_lines : Unix → List Item
disk_lines u = map (λ s. Log (entry.Wake (Disk s))) (meant_in (waits_until u.timing.passed) u.processes)

abbrev pub wakes_disks : Happened → Happened
wakes_disks h = followed true h (map Show (disk_lines h.unix))

-- it is the last of so many slots since the pace was set
abbrev pub is_sending : Timing → Bool
is_sending t = not (t.pace == 0) && (t.since % t.pace == 0)

-- Each line sends, lowest first, and after each who waits for room on it is woken, where that is called for: `ttrstrt` in
-- Lions' Commentary, `tty.c`.
abbrev pub sends_lines : Happened → Happened
sends_lines h =
    let all : AllTold = each_line sends h.unix.lines in
    followed all.wakes (record h { unix = record h.unix { lines = all.lines } }) (map Show all.items)

abbrev pub sends_after : Happened → Happened
sends_after h = if is_sending h.unix.timing then sends_lines h else h

-- What follows a slot. One in which the run stops isn't counted.
abbrev pub after_slot : Happened → Happened
after_slot h = if is_early h.ending then h else sends_after (wakes_disks (counted h))

abbrev pub whole_slot : System → Happened
whole_slot m = after_slot (slot_of m m.board.table.running)

-- what a kernel answers of a turn
abbrev pub turned_by : Ends → Bool → Turned
turned_by AtEnd is_idle = if is_idle then Idle else Ran
turned_by (ends.Panic kind) is_idle = Panic kind

abbrev pub turned : Turn → Turned
turned t = turned_by t.ending t.is_idle

-- and of a tick
abbrev pub ticked_by : Ends → Result (Unit {0}) PanicKind
ticked_by AtEnd = Ok tt
ticked_by (ends.Panic kind) = Err kind

-- no slot is loaded and ready
abbrev pub NobodyCanRun : Table → Type 0
NobodyCanRun t = (s : ℕ) → is_loaded t s ≡ true → is_ready (row_at t s).stat ≡ false
