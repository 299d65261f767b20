-- All that programs can see of a system: Lions' Commentary, `proc.h`, `user.h`, `file.h`, `text.h`.
use Rattle.std.specs.Prelude.{ℕ, List, Option, Some, None, slice_index_or, slice_set}
use Rattle.std.specs.Option.{unwrap_or}
use Rattle.fs_nodes.specs.Keys.{Stores, second_count}
use Rattle.mount_tab.specs.Mounted.{MountTable}
use Rattle.open_files.specs.declared.file.OpenFile.{OpenFile}
use Rattle.pipe_ends.specs.declared.ends.Pipe.{Pipe}
use Rattle.tty_line.specs.Terminal.{Terminal}
use Rattle.lines_eight.specs.Lines as terminals
use Rattle.pick_rules.specs.Board.{Board}
use Rattle.sys_procs.specs.Process.{Process, no_process}
use Rattle.sys_procs.specs.World.{Clock}
pub use Rattle.sys_procs.specs.TextTable.{Text}
unfoldable pub use Rattle.sys_procs.specs.TextTable.{no_texts}

-- slots, as they are counted
pub record Timing : Type 0 where
  pub passed : ℕ  -- so many have been taken
  pub disk : ℕ  -- a transfer from the disk takes so many: 0 is none
  pub pace : ℕ  -- the lines send after each so many: 0 is at once
  pub since : ℕ  -- so many have been taken since the pace was set

pub record Unix : Type 0 where
  pub store : Stores  -- the file system of each disk
  pub covered : Option ℕ  -- the directory that the second disk covers
  pub processes : List (Option Process)  -- by their slots, of which there are 50; slot 0 is the kernel's own
  pub files : List (Option OpenFile)  -- the table of open files, with 100 entries
  pub pipes : List Pipe  -- that are open: how far each has been read, and which of its ends wait
  pub texts : List (Option Text)  -- 40 entries
  pub lines : List Terminal  -- the terminal lines, one or eight, from line 0 on, which is the console
  pub clock : Clock
  pub switches : ℕ  -- the console's
  pub last_pid : ℕ  -- the number that was given last to a process
  pub limit : ℕ  -- the most clicks of an image
  pub timing : Timing

-- the mount table that this makes
abbrev pub mounts_of : Unix → MountTable
mounts_of u = record { first = u.store.root.count; second = second_count u.store.second; covered = u.covered }

-- all that a kernel holds: what programs can see, and the board that its log tells, by which it chooses who runs
pub record System : Type 0 where
  pub unix : Unix
  pub board : Board

-- how far a run has come
pub data Phase : Type 0 where
  New : Phase  -- it hasn't been started
  Started : Phase
  Stopped : Phase  -- it has come to a panic, and takes no event any more
  Finished : Phase  -- all that has changed is on the disk

-- the terminal of a line, and the Unix with another in its place
abbrev pub terminal_at : Unix → ℕ → Terminal
terminal_at u l = terminals.terminal_at u.lines l

abbrev pub with_terminal : Unix → ℕ → Terminal → Unix
with_terminal u l t = record u { lines = terminals.with_terminal u.lines l t }

abbrev pub process_at : Unix → ℕ → Option Process
process_at u slot = slice_index_or u.processes slot None

abbrev pub process_of : Unix → ℕ → Process
process_of u slot = unwrap_or (process_at u slot) no_process

abbrev pub with_process : Unix → ℕ → Process → Unix
with_process u slot p = record u { processes = slice_set u.processes slot (Some p) }

-- a slot is empty
abbrev pub without_process : Unix → ℕ → Unix
without_process u slot = record u { processes = slice_set u.processes slot None }
