-- A call leaves the store of a disk alone, where all that it has to do with is on the other one.
use Rattle.std.specs.Prelude.{◌≡◌, ◌<◌, ℕ, List, Some}
use Rattle.std.specs.List.{All}
use Rattle.fs_nodes.specs.Keys.{device_of}
use Rattle.open_files.specs.declared.file.OpenFile.{OpenFile}
use Rattle.open_files.specs.Files.{file_at, times}
use Rattle.sys_files.specs.Handed.{Handed}
use Rattle.sys_files.specs.Did.{Did}

-- The nodes that a call names, those of all open files of the process, and its directory are of one disk.
pub record KeepsTo (h : Handed) (dev : ℕ) (keys : List ℕ) : Type 0 where
  pub named : All (λ key. device_of h.inodes.store key ≡ dev) keys
  pub files : (entry : ℕ) (file : OpenFile) → 0 < times h.u.files entry → file_at h.files entry ≡ Some file
      → device_of h.inodes.store file.ino ≡ dev
  pub dir : device_of h.inodes.store h.u.dir ≡ dev

-- The other disk's store is what it was, with its room, its list of free inodes and its time.
pub record LeavesOther (h : Handed) (did : Did) : Type 0 where
  pub second : KeepsTo h 0 did.named → did.state.inodes.store.second ≡ h.inodes.store.second
  pub root : KeepsTo h 1 did.named → did.state.inodes.store.root ≡ h.inodes.store.root
