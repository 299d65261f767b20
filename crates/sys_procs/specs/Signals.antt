-- Signals are sent, and what they do is asked for: kill(II), signal(II) of the UNIX Programmer's Manual; `kill` and `ssig` in
-- Lions' Commentary, `sys4.c`, and `signal` and `psignal` in `sig.c`.
use Rattle.std.specs.Prelude.{ℕ, Bool, false, not, ◌+◌, ◌&&◌, ◌||◌, ◌==◌, nat_lt, if◌then◌else◌, List, [], map, filter, length, Option, Some, None, slice_index_or, slice_set}
use Rattle.std.specs.List.{range_with_len}
use Rattle.v6_base.specs.Trace.{Item, Log}
use Rattle.v6_base.specs.declared.entry.Entry.TheVariants as line
use Rattle.v6_base.specs.declared.errno.Errno.TheVariants.{ESRCH, EINVAL}
use Rattle.proc_tab.specs.Processes.{slots_above_0}
use Rattle.sig_core.specs.declared.numbers.TheConstants.{SIGKIL}
use Rattle.sig_core.specs.Signals.{is_signal, posted, handler_of}
use Rattle.sys_procs.specs.Process.{Process, register, is_super}
use Rattle.sys_procs.specs.World.{World, process_of, change}
use Rattle.sys_procs.specs.Comes.{Comes, gives, returns, fails, shows}

-- a process to which a signal has been sent
abbrev pub signalled : ℕ → Process → Process
signalled n p = record p { row = posted p.row n }

-- the lines of the log for the slots to which one is sent; what is no signal has none
abbrev pub signal_lines : ℕ → List ℕ → List Item
signal_lines n slots = if is_signal n then map (λ s. Log (line.Signal s n)) slots else []

-- Who is meant, by the slot and the process there; one that has ended counts too.
abbrev pub is_meant : (ℕ → Process → Bool) → ℕ → Option Process → Bool
is_meant who s None = false
is_meant who s (Some p) = who s p

-- the slots of those that are meant, lowest first
abbrev pub meant_in : (ℕ → Process → Bool) → List (Option Process) → List ℕ
meant_in who processes = filter (λ s. is_meant who s (slice_index_or processes s None)) slots_above_0

-- and all processes, when a signal has been sent to these
abbrev pub signalled_if : (ℕ → Process → Bool) → ℕ → ℕ → Option Process → Option Process
signalled_if who n s None = None
signalled_if who n s (Some p) = Some (if who s p then signalled n p else p)

abbrev pub all_signalled : (ℕ → Process → Bool) → ℕ → List (Option Process) → List (Option Process)
all_signalled who n processes = map (λ s. signalled_if who n s (slice_index_or processes s None)) (range_with_len 0 50)

-- those whose terminal is this line: their row has one more than its number
abbrev pub has_line : ℕ → ℕ → Process → Bool
has_line l s p = p.row.tty == l + 1

-- Of the number in R0 a kill means the process of this pid; of 0 all that have the terminal of who calls, or none where he has
-- none, above slot 1.
abbrev pub is_named : Process → ℕ → Process → Bool
is_named p s other =
    if register p 0 == 0 then nat_lt 1 s && (other.row.tty == p.row.tty) else other.row.pid == register p 0

-- It reaches those of the same user, or for the super-user all, and never who calls.
abbrev pub is_reached : ℕ → Process → ℕ → Process → Bool
is_reached slot p s other = not (s == slot) && is_named p s other && (is_super p || (p.u.uid == other.row.uid))

-- 37, kill: R0 for whom, and a signal
unfoldable pub kill_to : World → ℕ → ℕ → Comes
kill_to w s n =
    let p : Process = process_of w s in
    let slots : List ℕ = meant_in (is_reached s p) w.processes in
    if length slots == 0 then fails w ESRCH
    else shows (signal_lines n slots) (returns (record w { processes = all_signalled (is_reached s p) n w.processes }) s)

-- a process asks for what a signal shall do; one of this number that waits is forgotten
abbrev pub forgetting : ℕ → Process → Process
forgetting n p = record p { row = if p.row.sig == n then record p.row { sig = 0 } else p.row }

abbrev pub asking : ℕ → ℕ → Process → Process
asking n handler p = record (forgetting n p) { u = record p.u { handlers = slice_set p.u.handlers n handler } }

-- 48, signal: a number and what it shall do; R0 what it did before
unfoldable pub signal_set : World → ℕ → ℕ → ℕ → Comes
signal_set w s n handler =
    if is_signal n && not (n == SIGKIL) then gives (change w s (asking n handler)) s (handler_of (process_of w s).u n)
    else fails w EINVAL
