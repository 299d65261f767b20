-- fork(II) of the UNIX Programmer's Manual; `newproc` in Lions' Commentary, `slp.c`.
use Rattle.std.specs.Prelude.{ℕ, ◌+◌, ◌%◌, Option, Some, None, is_none}
use Rattle.v6_base.specs.declared.errno.Errno.TheVariants.{EAGAIN}
use Rattle.proc_tab.specs.Processes.{lowest}
use Rattle.proc_tab.specs.Pids.{fresh_pid, child_of}
use Rattle.fs_tree.specs.Finding.{with_reference}
use Rattle.pick_rules.specs.Effects.{Fork}
use Rattle.sys_procs.specs.Texts.{joined_by_child}
use Rattle.sys_procs.specs.Process.{Process, register, with_register}
use Rattle.sys_procs.specs.World.{World, process_of, with_process, change, members}
use Rattle.sys_procs.specs.Comes.{Comes, gives, fails, does}

-- Its parent's copy: R0 is the parent's pid, it has used no time, and no signal is posted.
abbrev pub copied : Process → ℕ → Process
copied p pid = record (with_register p 0 p.row.pid) {
  row = (child_of p.row pid).row;
  u = record (with_register p 0 p.row.pid).u { user_time = 0; system_time = 0; child_user = 0; child_system = 0 };
}

-- the parent passes the word in which the child begins
abbrev pub past_word : Process → Process
past_word p = with_register p 7 ((register p 7 + 2) % 65536)

abbrev pub next_pid : World → ℕ
next_pid w = fresh_pid (members w) w.last_pid

-- the child is in its slot, refers to the directory in which it is, and shares its parent's text
abbrev pub with_child : World → ℕ → ℕ → ℕ → World
with_child w s child pid =
    let p : Process = process_of w s in
    record (with_process w child (copied p pid)) {
      last_pid = pid;
      inodes = with_reference w.inodes p.u.dir;
      texts = joined_by_child w.texts p.text;
    }

-- 2, fork: R0 the child's pid; EAGAIN where all slots are used
abbrev pub fork_into : World → ℕ → Option ℕ → Comes
fork_into w s None = fails (change w s past_word) EAGAIN
fork_into w s (Some child) =
    does (Fork s child w) (
    gives (change (with_child w s child (next_pid w)) s past_word) s (next_pid w))

unfoldable pub fork_one : World → ℕ → Comes
fork_one w s = fork_into w s (lowest is_none (members w))
