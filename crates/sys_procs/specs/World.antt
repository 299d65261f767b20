-- What a call on processes works on: the parts of the Unix that it is handed. `proc.h`, `user.h` and `systm.h` in Lions'
-- Commentary.
use Rattle.std.specs.Prelude.{ℕ, min, List, map, Option, Some, None, slice_index_or, slice_set}
use Rattle.std.specs.Option.{unwrap_or}
use Rattle.std.specs.List.{range_with_len}
use Rattle.pick_rules.specs.declared.table.Table.{Table}
use Rattle.proc_tab.specs.declared.member.Member.{Member}
use Rattle.proc_tab.specs.Processes.{Processes, member_at}
use Rattle.image_keep.specs.Kept.{Kept, Shared, keeping, text_of}
use Rattle.fs_tree.specs.Finding.{Inodes, put_back}
use Rattle.sys_procs.specs.Process.{Process, no_process, process_in, member_of}
use Rattle.sys_procs.specs.TextTable.{Text}

pub record Clock : Type 0 where
  pub time : ℕ  -- in seconds, from the beginning of 1970 in Greenwich
  pub ticks : ℕ  -- sixtieths of the second that has begun
  pub tout : ℕ  -- when the first of those who wait for a time is woken

pub record World : Type 0 where
  pub processes : List (Option Process)  -- by their slots, of which there are 50; slot 0 is the kernel's own
  pub last_pid : ℕ  -- the number that was given last to a process
  pub clock : Clock
  pub switches : ℕ  -- the console's
  pub inodes : Inodes  -- the store, and how often its inodes are referred to
  pub texts : List (Option Text)  -- 40 entries
  pub limit : ℕ  -- the most clicks of an image

abbrev pub process_at : World → ℕ → Option Process
process_at w s = slice_index_or w.processes s None

abbrev pub process_of : World → ℕ → Process
process_of w s = unwrap_or (process_at w s) no_process

abbrev pub with_process : World → ℕ → Process → World
with_process w s p = record w { processes = slice_set w.processes s (Some p) }

abbrev pub change : World → ℕ → (Process → Process) → World
change w s rule = with_process w s (rule (process_of w s))

abbrev pub with_inodes : World → Inodes → World
with_inodes w inodes = record w { inodes = inodes }

-- the call's reference to an inode goes
abbrev pub let_go : World → ℕ → World
let_go w ino = with_inodes w (put_back w.inodes ino)

-- a slot is empty
abbrev pub without_process : World → ℕ → World
without_process w s = record w { processes = slice_set w.processes s None }

-- who is in which slot
abbrev pub members : World → List (Option Member)
members w = map member_of w.processes

-- the processes as the table of processes and what is kept of their images make them
unfoldable pub processes_in : List (Option Member) → Kept → List (Option Process)
processes_in slots k = map (λ s. process_in (member_at slots s) (keeping k s) (text_of k s)) (range_with_len 0 50)

-- and the texts
abbrev pub text_in : Option Shared → Option Text
text_in None = None
text_in (Some x) = Some (record { ino = x.row.ino; bytes = x.bytes; users = x.row.users })

abbrev pub texts_in : Kept → List (Option Text)
texts_in k = map text_in k.texts

-- the clock is the table's
abbrev pub clock_of : Table → Clock
clock_of t = record { time = t.now; ticks = t.ticks; tout = t.tout }

abbrev pub world_in : Processes → Table → Kept → ℕ → Inodes → World
world_in v t k switches inodes = record {
  processes = processes_in v.slots k;
  last_pid = v.last_pid;
  clock = clock_of t;
  switches = switches;
  inodes = inodes;
  texts = texts_in k;
  limit = min k.core 2048;
}
