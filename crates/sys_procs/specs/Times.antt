-- time(II), stime(II), times(II), sleep(II) of the UNIX Programmer's Manual.
use Rattle.std.specs.Prelude.{ℕ, ◌+◌, ◌*◌, ◌/◌, ◌%◌, ◌^◌, ◌||◌, ◌==◌, nat_lt, nat_le, [], ◌∷◌, slice_index, if◌then◌else◌, Option, Some, None}
use Rattle.v6_base.specs.Image.{Image}
use Rattle.v6_base.specs.Copy.{store_bytes}
use Rattle.v6_base.specs.declared.entry.Chan.TheVariants.{Tout}
use Rattle.v6_base.specs.declared.entry.Entry.TheVariants.{Time, Wake}
use Rattle.v6_base.specs.declared.errno.Errno.TheVariants.{EPERM, EFAULT}
use Rattle.fs_codec.specs.Bytes.{bytes_of}
use Rattle.u_area.specs.declared.layout.TheConstants.{SLEEP_CALL}
use Rattle.u_area.specs.Area.{times}
use Rattle.pick_rules.specs.Priority.{pslep}
use Rattle.sys_procs.specs.Process.{Process, register, image_of, is_super}
use Rattle.sys_procs.specs.World.{Clock, World, process_of, change}
use Rattle.sys_procs.specs.Comes.{Comes, gives_two, returns, fails, sleeps, unless_due, logs}

-- 13, time: R0 the high word, R1 the low one
unfoldable pub time_now : World → ℕ → Comes
time_now w s = gives_two w (w.clock.time / 65536) (w.clock.time % 65536)

abbrev pub with_time : World → ℕ → World
with_time w time = record w { clock = record w.clock { time = time } }

-- 25, stime: for the super-user; who sleeps for a time looks at the new one
unfoldable pub set_time : World → ℕ → Comes
set_time w s =
    let p : Process = process_of w s in
    let new = (65536 * register p 0 + register p 1) % 2 ^ 32 in
    if is_super p then
    logs (Time new) (
    logs (Wake Tout) (
    returns (with_time w new) s))
    else fails w EPERM

-- the memory of the process after a write of results, which is whole or EFAULT
abbrev pub stored : World → ℕ → Option Image → Comes
stored w s None = fails w EFAULT
stored w s (Some image) = returns (change w s (λ p. record p { «data» = image.data; stack = image.stack })) s

-- 43, times: the ticks of the process and of its children go to an even address, as six words
unfoldable pub times_to : World → ℕ → ℕ → Comes
times_to w s at =
    let p : Process = process_of w s in
    stored w s (if at % 2 == 1 then None else store_bytes (image_of w.texts p) at (bytes_of (times p.u)))

-- the pending call is a sleep until this time, of which the words keep the two halves
abbrev pub sleeping_until : ℕ → Process → Process
sleeping_until until p =
    record p { u = record p.u { pending = SLEEP_CALL; call = 0 ∷ 0 ∷ 0 ∷ 0 ∷ until / 65536 ∷ until % 65536 ∷ 0 ∷ 0 ∷ [] } }

-- the time until which a pending sleep lasts
abbrev pub until_of : Process → ℕ
until_of p = 65536 * slice_index p.u.call 4 + slice_index p.u.call 5

-- the first time at which a sleeper is due, with one more sleeper
abbrev pub tout_with : Clock → ℕ → ℕ
tout_with clock until = if nat_le clock.tout clock.time || nat_lt until clock.tout then until else clock.tout

-- one more sleeper has come
abbrev pub with_sleeper : World → ℕ → World
with_sleeper w until = record w { clock = record w.clock { tout = tout_with w.clock until } }

-- until this time, from the call and from each time that it goes on
unfoldable pub sleep_until : World → ℕ → ℕ → Comes
sleep_until w s until =
    if nat_le until w.clock.time then returns w s
    else unless_due (with_sleeper w until) s (sleeps (change (with_sleeper w until) s (sleeping_until until)) pslep Tout)

-- 35, sleep: R0 seconds
unfoldable pub sleep_for : World → ℕ → Comes
sleep_for w s = sleep_until w s ((w.clock.time + register (process_of w s) 0) % 2 ^ 32)
