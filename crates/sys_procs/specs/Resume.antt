-- A call that goes on when its process wakes, unless a signal is due: sleep(II), wait(II).
use Rattle.std.specs.Prelude.{ℕ, ◌==◌, replicate, if◌then◌else◌}
use Rattle.u_area.specs.declared.layout.TheConstants.{NOTHING_PENDING, SLEEP_CALL}
use Rattle.sys_procs.specs.Process.{Process}
use Rattle.sys_procs.specs.World.{World, process_of, change}
use Rattle.sys_procs.specs.Comes.{Comes, unless_due}
use Rattle.sys_procs.specs.Times.{until_of, sleep_until}
use Rattle.sys_procs.specs.Wait.{wait_child}

-- no call is pending
abbrev pub awake : Process → Process
awake p = record p { u = record p.u { pending = NOTHING_PENDING; call = replicate 8 0 } }

unfoldable pub resume_proc : World → ℕ → Comes
resume_proc w s =
    let p : Process = process_of w s in
    unless_due (change w s awake) s
    (if p.u.pending == SLEEP_CALL then sleep_until (change w s awake) s (until_of p) else wait_child (change w s awake) s)
