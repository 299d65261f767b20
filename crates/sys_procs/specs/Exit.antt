-- exit(II) of the UNIX Programmer's Manual; `exit` in Lions' Commentary, `sys1.c`. The files of the process are closed
-- before.
use Rattle.std.specs.Prelude.{ℕ, ◌*◌, ◌%◌, ◌==◌, ◌∷◌, map, true, List, [], replicate, is_none, if◌then◌else◌, Option, Some, None}
use Rattle.std.specs.Option.{unwrap_or}
use Rattle.v6_base.specs.declared.entry.Chan.TheVariants.{Wait}
use Rattle.v6_base.specs.declared.entry.Entry.TheVariants.{Wake}
use Rattle.proc_tab.specs.Processes.{lowest, passes}
use Rattle.proc_tab.specs.Pids.{has_pid}
use Rattle.fs_tree.specs.Finding.{put_back}
use Rattle.pick_rules.specs.Effects.{Exit}
use Rattle.sys_procs.specs.Process.{Process, register}
use Rattle.sys_procs.specs.Texts.{xfree}
use Rattle.sys_procs.specs.World.{World, process_of, with_process, change, members}
use Rattle.sys_procs.specs.Comes.{Comes, returns, does, logs}

-- all signals are ignored, the directory is left, and this is what wait(II) tells
abbrev pub ended : ℕ → Process → Process
ended status p = record p { u = record p.u { handlers = 0 ∷ replicate 19 1; dir = 0; status = status } }

abbrev pub leaves : World → ℕ → ℕ → World
leaves w s status = record (change w s (ended status)) { inodes = put_back w.inodes (process_of w s).u.dir }

-- the slot of a pid, where one has it; process 0 has the pid 0
abbrev pub slot_of : World → ℕ → Option ℕ
slot_of w pid = if pid == 0 then Some 0 else lowest (passes (has_pid pid)) (members w)

-- where no slot has the parent's pid, process 1 is the parent
abbrev pub parent_slot : World → ℕ → ℕ
parent_slot w ppid = unwrap_or (slot_of w ppid) 1

abbrev pub adopted : ℕ → Option Process → Option Process
adopted pid None = None
adopted pid (Some p) = Some (if p.row.ppid == pid then record p { row = record p.row { ppid = 1 } } else p)

-- A parent's pid that no slot has becomes 1.
abbrev pub strays_adopted : Option ℕ → ℕ → List (Option Process) → List (Option Process)
strays_adopted parent ppid processes = if is_none parent then map (adopted ppid) processes else processes

-- a zombie, and its children are process 1's
abbrev pub dead : World → ℕ → World
dead w s =
    let p : Process = process_of w s in
    let zombie : World = with_process w s (record p { is_zombie = true; «data» = []; stack = [] }) in
    record zombie { processes = map (adopted p.row.pid) (strays_adopted (slot_of w p.row.ppid) p.row.ppid zombie.processes) }

abbrev pub dies : World → ℕ → Comes
dies w s =
    does (Exit s w) (
    logs (Wake (Wait 1)) (
    logs (Wake (Wait (parent_slot w (process_of w s).row.ppid))) (
    returns (dead w s) s)))

-- the end with a status: the text is left last
unfoldable pub end_proc : World → ℕ → ℕ → Comes
end_proc w s status = xfree (leaves w s status) s (process_of w s).text (λ left. dies left s)

-- the low byte of R0 is the high byte of the status
abbrev pub exit_status : Process → ℕ
exit_status p = 256 * (register p 0 % 256)

-- 1, exit
unfoldable pub exit_now : World → ℕ → Comes
exit_now w s = end_proc w s (exit_status (process_of w s))
