-- What belongs together in a system: open files count the numbers that name them, and inodes who refers to them.
use Rattle.std.specs.Prelude.{◌≡◌, ◌≢◌, ◌≤◌, ◌<◌, ◌⊎◌, ℕ, true, false, ◌+◌, ◌==◌, if◌then◌else◌, List, Option, Some, None, map, count_by, length, slice_index, slice_index_or}
use Rattle.std.specs.List.{sum_by}
use Rattle.open_files.specs.declared.file.OpenFile.{OpenFile}
use Rattle.open_files.specs.Files.{file_at, times}
use Rattle.u_area.specs.Pending.{IsPipeCall, IsFileCall}
use Rattle.mount_tab.specs.Mounted.{is_the}
use Rattle.pipe_ends.specs.declared.ends.Pipe.{Pipe}
use Rattle.sys_files.specs.Pipes.{ArePipes}
use Rattle.sys_files.specs.Sound.{is_of, numbers_of}
use Rattle.sys_procs.specs.Process.{Process}
use Rattle.abstract_unix.specs.Unix.{Text, Unix, process_at}
use Rattle.abstract_unix.specs.References.{is_text_of}
use Rattle.u_area.specs.declared.layout.TheConstants.{DISK_WAIT}
use Rattle.abstract_unix.specs.Turn.{disk_end_of}

-- what the counts see of a process that lives: the numbers of its files, and its directory
pub record Told : Type 0 where
  pub files : List ℕ
  pub dir : ℕ

abbrev pub told_of : Process → Told
told_of p = record { files = p.u.files; dir = p.u.dir }

-- one that has ended has closed its files and left its directory
abbrev pub told_by : Option Process → Option Told
told_by None = None
told_by (Some p) = if p.is_zombie then None else Some (told_of p)

abbrev pub told_in : List (Option Process) → List (Option Told)
told_in processes = map told_by processes

-- how often the numbers of a process name an entry, and whether it stands in a directory
abbrev pub names : ℕ → Option Told → ℕ
names entry None = 0
names entry (Some t) = times t.files entry

abbrev pub stands : ℕ → Option Told → ℕ
stands ino None = 0
stands ino (Some t) = if t.dir == ino then 1 else 0

unfoldable pub all_names : List (Option Told) → ℕ → ℕ
all_names ts entry = sum_by (names entry) ts

unfoldable pub all_stand : List (Option Told) → ℕ → ℕ
all_stand ts ino = sum_by (stands ino) ts

-- Open files, directories and texts refer to an inode, and the kernel to inode 1 as the root and to the directory that the second
-- disk covers.
abbrev pub refer : Option ℕ → List (Option OpenFile) → List (Option Text) → List (Option Told) → ℕ → ℕ
refer covered files texts ts ino =
    count_by (is_of ino) files + all_stand ts ino + count_by (is_text_of ino) texts + (if ino == 1 then 1 else 0)
    + (if is_the covered ino then 1 else 0)

-- The counts of open files and these references are what they have to be, and the pipes are those of the open files.
pub record Owes (covered : Option ℕ) (refs : List ℕ) (files : List (Option OpenFile)) (pipes : List Pipe) (texts : List (Option Text)) (ts : List (Option Told)) : Type 0 where
  pub numbers : (entry : ℕ) → numbers_of (file_at files entry) ≡ all_names ts entry
  pub referred : (ino : ℕ) → slice_index refs ino ≡ refer covered files texts ts ino
  pub piped : ArePipes files pipes
  pub fifteen : (s : ℕ) (t : Told) → slice_index_or ts s None ≡ Some t → length t.files ≡ 15

abbrev pub Owed : List ℕ → Unix → Type 0
Owed refs u = Owes u.covered refs u.files u.pipes u.texts (told_in u.processes)

-- Who waits in a call on an open file has a number for it. So the file stays open, and the call can go on.
pub record IsInCall (files : List (Option OpenFile)) (p : Process) : Type 0 where
  pub file : OpenFile
  pub there : file_at files (slice_index p.u.call 0) ≡ Some file
  pub pipe : IsPipeCall p.u.pending → file.kind.pipe ≡ true
  pub named : 1 ≤ times p.u.files (slice_index p.u.call 0)
  pub left : slice_index p.u.call 3 ≤ slice_index p.u.call 2

pub record CanGoOn (u : Unix) : Type 0 where
  pub waits : (s : ℕ) (p : Process) → process_at u s ≡ Some p → p.is_zombie ≡ false → IsFileCall p.u.pending → IsInCall u.files p

-- Who waits for the disk waits for the end of a slot that has passed, or of one from `due` on.
pub record AreDue (due : ℕ) (u : Unix) : Type 0 where
  pub next : u.timing.passed < due
  pub each : (s : ℕ) (p : Process) → process_at u s ≡ Some p → p.u.pending ≡ DISK_WAIT
      → (disk_end_of p ≤ u.timing.passed) ⊎ (due ≤ disk_end_of p)

-- Who has ended waits for nothing.
abbrev pub NoGraveWaits : Unix → Type 0
NoGraveWaits u = (s : ℕ) (p : Process) → process_at u s ≡ Some p → p.is_zombie ≡ true → p.u.pending ≢ DISK_WAIT
