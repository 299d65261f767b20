-- A signal that is due comes to its process: signal(II), core(V) of the UNIX Programmer's Manual; `psig` and `core` in Lions'
-- Commentary, `sig.c`.
use Rattle.std.specs.Prelude.{ℕ, ◌+◌, ◌==◌, if◌then◌else◌, Option, Some, None}
use Rattle.sig_core.specs.Signals.{handler_of, due}
use Rattle.sig_core.specs.Delivery.{Delivery, makes_core, signal_stack, delivery}
use Rattle.sys_files.specs.Did.{Did}
use Rattle.sys_files.specs.Core.{core_file, is_written}
use Rattle.sys_procs.specs.Process.{Process, image_of}
use Rattle.sys_procs.specs.Break.{grow, grown_or_not}
use Rattle.sys_procs.specs.Exit.{exit_status}
use Rattle.abstract_unix.specs.declared.ending.Ending.{Ending}
use Rattle.abstract_unix.specs.declared.ending.Ending.TheVariants as ending
use Rattle.abstract_unix.specs.Unix.{Unix, process_of, with_process}
use Rattle.abstract_unix.specs.Steps.{Steps, returns, follows}
use Rattle.abstract_unix.specs.Calls.{handed_of, with_handed, world_of, grows, exits_with}

-- a signal has come to a process, and waits no longer
abbrev pub heeding : Process → Process
heeding p = record p { row = record p.row { sig = 0 } }

abbrev pub heeds : Unix → ℕ → Unix
heeds u slot = with_process u slot (heeding (process_of u slot))

-- a process goes on with its routine, where its stack has grown
abbrev pub interrupted : Unix → ℕ → ℕ → Unix
interrupted u slot sig =
    let p : Process = process_of u slot in
    let d : Delivery = delivery p.u sig (image_of u.texts p) in
    with_process u slot (record p { u = d.area; «data» = d.image.data; stack = d.image.stack })

-- The signal is caught: the stack grows first for what is pushed, where it must and can.
abbrev pub calls_routine : ℕ → ℕ → Steps → Steps
calls_routine slot sig grown = record grown { unix = interrupted grown.unix slot sig }

abbrev pub catches : Unix → ℕ → ℕ → Steps
catches u slot sig =
    calls_routine slot sig
    (grows u (grown_or_not (world_of u) slot (grow (world_of u) slot (signal_stack (process_of u slot).u))))

-- The process ends. Its status names the signal, and with 0200 the file `core`, where that was written whole.
abbrev pub signal_status : Unix → ℕ → ℕ → ℕ
signal_status u slot sig = exit_status (process_of u slot) + sig

abbrev pub dumped : ℕ
dumped = 0o200

abbrev pub ends_after : Unix → ℕ → ℕ → Did → Steps
ends_after u slot sig core =
    exits_with (with_handed u slot core.state) slot (signal_status u slot sig + (if is_written core.answer then dumped else 0))

abbrev pub ends_by : Unix → ℕ → ℕ → Steps
ends_by u slot sig =
    if makes_core sig then ends_after u slot sig (core_file (handed_of u (process_of u slot)) u.clock.time)
    else exits_with u slot (signal_status u slot sig)

abbrev pub delivers : Unix → ℕ → ℕ → Steps
delivers u slot sig =
    if handler_of (process_of u slot).u sig == 0 then ends_by (heeds u slot) slot sig else catches (heeds u slot) slot sig

-- a signal is delivered, where one is due
abbrev pub delivers_if : Unix → ℕ → Option ℕ → Steps
delivers_if u slot None = returns u
delivers_if u slot (Some sig) = delivers u slot sig

unfoldable pub delivers_due : Unix → ℕ → Steps
delivers_due u slot = delivers_if u slot (due (process_of u slot).row (process_of u slot).u)

-- A turn ends. Where the process has come out of a trap, a signal that is due is delivered; an instruction that is just done
-- waits for none, and who sleeps, or has ended, gets none.
abbrev pub ends_by_ending : ℕ → Steps → Ending → Steps
ends_by_ending slot s ending.Next = s
ends_by_ending slot s ending.Trapped = follows s (delivers_due s.unix slot)
ends_by_ending slot s (ending.Slept pri chan) = s
ends_by_ending slot s ending.Ended = s
ends_by_ending slot s (ending.Panic kind) = s

abbrev pub ends_turn : ℕ → Steps → Steps
ends_turn slot s = ends_by_ending slot s s.ending
