-- What holds between the calls of a scene: numbers name open files and are counted, and each reference that open files, the current
-- directory and a covered one make is there, with a few more that others make; and the mount table fits the disks.
use Rattle.std.specs.Prelude.{◌≡◌, ℕ, ◌+◌, ◌≤◌, ◌==◌, if◌then◌else◌, List, Option, IsSome, unwrap_or, count_by, slice_index}
use Rattle.fs_nodes.specs.Disks.{Disks}
use Rattle.mount_tab.specs.Mounted.{MountTable, is_the}
use Rattle.open_files.specs.declared.file.OpenFile.{OpenFile}
use Rattle.open_files.specs.Files.{file_at, times, AreOpen}
use Rattle.pipe_ends.specs.declared.ends.Pipe.{Pipe}
use Rattle.sys_files.specs.Pipes.{ArePipes}
use Rattle.sys_files.specs.Sound.{is_of, numbers_of}

-- the references to an inode that are owed
abbrev pub owing : List (Option OpenFile) → ℕ → Option ℕ → ℕ → ℕ
owing files dir covered ino =
    count_by (is_of ino) files + (if dir == ino then 1 else 0) + (if is_the covered ino then 1 else 0)

-- The mount table has the numbers of inodes of each disk.
pub record FitsDisks (mounts : MountTable) (counts : Disks ℕ) : Type 0 where
  pub first : mounts.first ≡ counts.root
  pub second : mounts.second ≡ unwrap_or counts.second 0
  pub covered : IsSome mounts.covered → IsSome counts.second

pub record IsReady (files : List (Option OpenFile)) (pipes : List Pipe) (numbers : List ℕ) (dir : ℕ) (mounts : MountTable)
    (references : List ℕ) (counts : Disks ℕ) : Type 0 where
  pub is_open : AreOpen files numbers
  pub counted : (entry : ℕ) → times numbers entry ≤ numbers_of (file_at files entry)
  pub referred : (ino : ℕ) → owing files dir mounts.covered ino ≤ slice_index references ino
  pub few : (ino : ℕ) → slice_index references ino ≤ owing files dir mounts.covered ino + 9
  pub piped : ArePipes files pipes
  pub fits : FitsDisks mounts counts
