-- wait(II) of the UNIX Programmer's Manual; Lions' Commentary, `wait` in `sys1.c`.
use Rattle.std.specs.Prelude.{ℕ, ◌+◌, ◌%◌, ◌^◌, replicate}
use Rattle.v6_base.specs.declared.entry.Chan.TheVariants.{Wait}
use Rattle.v6_base.specs.declared.entry.Entry.TheVariants.{Reap}
use Rattle.v6_base.specs.declared.errno.Errno.TheVariants.{ECHILD}
use Rattle.u_area.specs.declared.layout.TheConstants.{WAIT_CALL}
use Rattle.u_area.specs.declared.area.UArea.{UArea}
use Rattle.proc_tab.specs.declared.child.Child.{Child}
use Rattle.proc_tab.specs.declared.child.Child.TheVariants.{NoChild, Living, Dead}
use Rattle.proc_tab.specs.Children.{child}
use Rattle.pick_rules.specs.Priority.{pwait}
use Rattle.sys_procs.specs.Process.{Process}
use Rattle.sys_procs.specs.World.{World, process_of, change, without_process, members}
use Rattle.sys_procs.specs.Comes.{Comes, gives_two, fails, sleeps, unless_due, logs}

-- a dead child's times and its children's are added to those of its parent's children
abbrev pub with_times_of : UArea → UArea → UArea
with_times_of own dead = record own {
  child_user = (own.child_user + dead.user_time + dead.child_user) % 2 ^ 32;
  child_system = (own.child_system + dead.system_time + dead.child_system) % 2 ^ 32;
}

-- R0 its pid, R1 its status
abbrev pub buries : World → ℕ → ℕ → Comes
buries w s dead =
    let gone : Process = process_of w dead in
    logs (Reap dead) (
    gives_two (change (without_process w dead) s (λ p. record p { u = with_times_of p.u gone.u })) gone.row.pid gone.u.status)

-- the pending call is a wait
abbrev pub waiting : Process → Process
waiting p = record p { u = record p.u { pending = WAIT_CALL; call = replicate 8 0 } }

abbrev pub waits_for : World → ℕ → Child → Comes
waits_for w s NoChild = fails w ECHILD
waits_for w s Living = unless_due w s (sleeps (change w s waiting) pwait (Wait s))
waits_for w s (Dead dead) = buries w s dead

-- 7, wait: for the lowest dead child, from the call and from each time that it goes on
unfoldable pub wait_child : World → ℕ → Comes
wait_child w s = waits_for w s (child (members w) (process_of w s).row.pid)
