-- getpid(II), setuid(II), setgid(II), getuid(II), getgid(II), csw(II), nice(II) of the UNIX Programmer's Manual.
use Rattle.std.specs.Prelude.{ℕ, ◌+◌, ◌*◌, ◌%◌, ◌||◌, ◌==◌, nat_lt, ℤ, pos, ◌-ℤ◌, if◌then◌else◌}
use Rattle.std.specs.Int.{int_min}
use Rattle.v6_base.specs.declared.entry.Entry.TheVariants.{Nice}
use Rattle.v6_base.specs.declared.errno.Errno.TheVariants.{EPERM}
use Rattle.sys_procs.specs.Process.{Process, register, is_super}
use Rattle.sys_procs.specs.World.{World, process_of, change}
use Rattle.sys_procs.specs.Comes.{Comes, gives, returns, fails, logs}

-- 20, getpid
unfoldable pub pid_of : World → ℕ → Comes
pid_of w s = gives w s (process_of w s).row.pid

-- with another user or group, both the real and the effective one
abbrev pub as_user : ℕ → Process → Process
as_user id p = record p { u = record p.u { uid = id; ruid = id }; row = record p.row { uid = id } }

abbrev pub as_group : ℕ → Process → Process
as_group id p = record p { u = record p.u { gid = id; rgid = id } }

-- the low byte of R0
abbrev pub id_given : Process → ℕ
id_given p = register p 0 % 256

-- 23, setuid: to the real user, or for the super-user to any
unfoldable pub set_uid : World → ℕ → Comes
set_uid w s =
    let p : Process = process_of w s in
    if (id_given p == p.u.ruid) || is_super p then returns (change w s (as_user (id_given p))) s
    else fails w EPERM

-- 46, setgid
unfoldable pub set_gid : World → ℕ → Comes
set_gid w s =
    let p : Process = process_of w s in
    if (id_given p == p.u.rgid) || is_super p then returns (change w s (as_group (id_given p))) s
    else fails w EPERM

-- 24, getuid: the real user in the low byte, the effective one in the high byte
unfoldable pub get_uid : World → ℕ → Comes
get_uid w s = let p : Process = process_of w s in gives w s (p.u.ruid + 256 * p.u.uid)

-- 47, getgid
unfoldable pub get_gid : World → ℕ → Comes
get_gid w s = let p : Process = process_of w s in gives w s (p.u.rgid + 256 * p.u.gid)

-- 38, csw: the switches
unfoldable pub switches : World → ℕ → Comes
switches w s = gives w s w.switches

-- 30, smdate, does nothing any more
unfoldable pub no_op : World → ℕ → Comes
no_op w s = returns w s

-- a number of so many values, of which the upper half counts as negative
abbrev pub signed_in : ℕ → ℕ → ℤ
signed_in range value = if nat_lt (2 * value) range then pos value else pos value -ℤ pos range

-- a nice as it is kept: the low eight bits, signed
abbrev pub kept_nice : ℕ → ℤ
kept_nice value = signed_in 256 (value % 256)

-- 34, nice: R0 as a signed number. Above 20 counts as 20; below 0 is for the super-user, and sets 0 for others.
unfoldable pub nice_to : World → ℕ → Comes
nice_to w s =
    let p : Process = process_of w s in
    let value = register p 0 in
    if nat_lt value 32768 then logs (Nice s (int_min (pos 20) (pos value))) (returns w s) else (
    if is_super p then logs (Nice s (kept_nice value)) (returns w s) else
    logs (Nice s (pos 0)) (fails w EPERM))
