-- What holds of the parts that a call is handed, and what every call keeps.
use Rattle.std.specs.Prelude.{◌≡◌, ℕ, Bool, true, false, ◌+◌, ◌<◌, ◌≤◌, ◌==◌, if◌then◌else◌, List, Option, Some, None, count_by, slice_index}
use Rattle.fs_nodes.specs.Keys.{counts}
use Rattle.fs_tree.specs.Mounting.{AreMounts}
use Rattle.mount_tab.specs.Mounted.{is_the}
use Rattle.open_files.specs.declared.file.OpenFile.{OpenFile}
use Rattle.open_files.specs.Files.{file_at, times, AreOpen, HaveRoom}
use Rattle.u_area.specs.Pending.{IsPipeCall, IsFileCall}
use Rattle.sys_files.specs.Handed.{Handed}
use Rattle.sys_files.specs.Pipes.{ArePipes}

-- an open file of this inode
abbrev pub is_of : ℕ → Option OpenFile → Bool
is_of ino None = false
is_of ino (Some file) = file.ino == ino

-- The references to an inode that open files and the current directory of the process make, and one to the directory that the
-- second disk covers.
abbrev pub owed : Handed → ℕ → ℕ
owed h ino =
    count_by (is_of ino) h.files + (if h.u.dir == ino then 1 else 0) + (if is_the h.mounts.covered ino then 1 else 0)

-- how many numbers of processes name an entry
abbrev pub numbers_of : Option OpenFile → ℕ
numbers_of None = 0
numbers_of (Some file) = file.count

pub record IsSound (h : Handed) : Type 0 where
  pub is_open : AreOpen h.files h.u.files
  pub counted : (entry : ℕ) (file : OpenFile) → file_at h.files entry ≡ Some file → times h.u.files entry ≤ file.count
  pub room : HaveRoom h.files
  pub referred : (ino : ℕ) → owed h ino ≤ slice_index h.inodes.references ino
  pub few : (ino : ℕ) → slice_index h.inodes.references ino ≤ 65500
  pub pipes : ArePipes h.files h.pipes
  pub mounts : AreMounts h.mounts h.inodes.store

-- The call in which a process slept can go on: the entry that it keeps is in use, no more bytes are done, or left in a write of a pipe,
-- than there were, and a call on a pipe has one.
pub record CanGoOn (h : Handed) : Type 0 where
  pub which : IsFileCall h.u.pending
  pub file : OpenFile
  pub there : file_at h.files (slice_index h.u.call 0) ≡ Some file
  pub pipe : IsPipeCall h.u.pending → file.kind.pipe ≡ true
  pub within : slice_index h.u.call 3 ≤ slice_index h.u.call 2

-- A file of which another process has a number too stays open in its entry, of the same inode and kind.
pub record StaysOpen (files : List (Option OpenFile)) (entry : ℕ) (file : OpenFile) : Type 0 where
  pub now : OpenFile
  pub there : file_at files entry ≡ Some now
  pub ino : now.ino ≡ file.ino
  pub kind : now.kind ≡ file.kind

-- A call gives back each reference that it takes for itself, and counts each number that it gives and takes.
pub record IsKept (old new : Handed) : Type 0 where
  pub is_open : AreOpen new.files new.u.files
  pub numbers : (entry : ℕ) → numbers_of (file_at new.files entry) + times old.u.files entry
      ≡ numbers_of (file_at old.files entry) + times new.u.files entry
  pub references : (ino : ℕ) → slice_index new.inodes.references ino + owed old ino
      ≡ slice_index old.inodes.references ino + owed new ino
  pub counts : counts new.inodes.store ≡ counts old.inodes.store
  pub mounts : AreMounts new.mounts new.inodes.store
  pub pipes : ArePipes new.files new.pipes
  pub others : (entry : ℕ) (file : OpenFile) → file_at old.files entry ≡ Some file → times old.u.files entry < file.count
      → StaysOpen new.files entry file
