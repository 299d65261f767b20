-- What calls leave of two disks: a call changes nothing of the one that all it has to do with isn't on.
use Rattle.std.specs.Prelude.{◌≡◌, ◌≢◌, ◌≤◌, ℕ, true, false, List, [], ◌∷◌, ◌++◌, Option, Some, None, slice_index}
use Rattle.v6_base.specs.Image.{AreBytes}
use Rattle.v6_base.specs.declared.answer.Answer.TheVariants.{Ret}
use Rattle.fs_codec.specs.Store.{Store}
use Rattle.fs_nodes.specs.Disks.{OfSecond}
use Rattle.fs_nodes.specs.Keys.{device_of}
use Rattle.u_area.specs.Pending.{is_on_files, IsPipeCall}
use Rattle.open_files.specs.declared.file.OpenFile.{OpenFile}
use Rattle.open_files.specs.Files.{file_at, times}
use Rattle.mount_tab.specs.Mounted.{MountTable}
use Rattle.fs_tree.specs.Mounting.{AreMounts}
use Rattle.sys_files.specs.Handed.{Handed}
use Rattle.sys_files.specs.Did.{Did}
use Rattle.sys_files.specs.Core.{core_file}
use Rattle.sys_files.specs.Descriptors.{close_all}
use Rattle.sys_files.specs.Frame.{KeepsTo, LeavesOther}
use Rattle.sys_files.specs.Moving.{resumes}
use Rattle.sys_files.specs.Sound.{IsSound}
use Rattle.sys_procs.specs.World.{World, process_of}
use Rattle.sys_procs.specs.Fork.{fork_one}
use Rattle.sys_procs.specs.Resume.{resume_proc}
use Rattle.sys_procs.specs.Exit.{end_proc}
use Rattle.sys_procs.specs.Frame as its
use Rattle.abstract_unix.specs.declared.calls.FileCall.{FileCall}
use Rattle.abstract_unix.specs.declared.calls.FileCall.TheVariants as file
use Rattle.abstract_unix.specs.declared.calls.ProcessCall.{ProcessCall}
use Rattle.abstract_unix.specs.Calls.{file_row, process_row, process_named}
use Rattle.abstract_unix.specs.Runs.{Event, Course, stores_of, finished, run_of, runs}

-- A process goes on with a call on an open file of its own, an end of a pipe where the call is on a pipe.
pub record GoesOn (h : Handed) : Type 0 where
  pub pending : is_on_files h.u.pending ≡ true
  pub file : OpenFile
  pub there : file_at h.files (slice_index h.u.call 0) ≡ Some file
  pub pipe : IsPipeCall h.u.pending → file.kind.pipe ≡ true
  pub named : 1 ≤ times h.u.files (slice_index h.u.call 0)
  pub left : slice_index h.u.call 3 ≤ slice_index h.u.call 2

-- what a process does with its files when it ends
abbrev pub closed : Handed → Did
closed h = record { answer = Ret 0 0; state = (close_all h).state; items = (close_all h).items; named = [] }

-- Nothing is covered, the open files of a process and its directory are on the root's disk, and the super-block of the second disk
-- hasn't changed. Then no call of the process on files changes the store of the second disk.
pub record StandsOnRoot (h : Handed) : Type 0 where
  pub none : h.mounts.covered ≡ None
  pub some : 1 ≤ h.inodes.store.root.count
  pub clean : OfSecond (λ (x : Store). x.mark ≡ false) h.inodes.store.second
  pub keeps : KeepsTo h 0 []

-- Nothing is covered, and the directory and the text of a process are on the root's disk. Then no call of it on processes does.
pub record RunsOnRoot (mounts : MountTable) (w : World) (s : ℕ) : Type 0 where
  pub none : mounts.covered ≡ None
  pub some : 1 ≤ w.inodes.store.root.count
  pub dir : device_of w.inodes.store (process_of w s).u.dir ≡ 0
  pub keeps : its.KeepsTo w s 0 []

-- Nothing is ever mounted: after no part of the events, from the run's start on, is a directory covered.
abbrev pub IsNeverMounted : List ℕ → Option (List ℕ) → ℕ → ℕ → List Event → Type 0
IsNeverMounted image second core lines events =
    (part rest : List Event) → part ++ rest ≡ events → (run_of image second core lines part).system.unix.covered ≡ None

-- Where all nodes that a call names, all open files of its process and its directory are of one disk, the other disk's store is what
-- it was: its files, its room, its lists of free blocks and inodes, its time. So it is of each call on files, but for sync, which
-- writes both disks, and pipe, which makes a node on the root's; of each call on processes where the program that it names and the
-- text of the process are of one disk; and of both when they go on after a sleep. The file `core` is written without a call. A
-- process that ends closes its files, and leaves its directory and its text. While nothing is covered, what a process names that
-- stands on the root's disk is on that disk, and so the second disk's store stays. Where nothing is ever mounted in a run on two disks,
-- also in one that a panic ends, the second disk's store is at the end, when all that has changed is on the disk, that of its image.
pub record CallsLeaveOther : Type 0 where
  pub files : (call : FileCall) (h : Handed) (slot : ℕ) (args : List ℕ) (now : ℕ) → IsSound h → call ≢ file.Sync → call ≢ file.Pipe
      → LeavesOther h (file_row call h slot args now)
  pub files_on : (h : Handed) (slot now : ℕ) → IsSound h → GoesOn h → LeavesOther h (resumes h slot now)
  pub processes : (call : ProcessCall) (mounts : MountTable) (w : World) (s : ℕ) (args : List ℕ)
      → its.LeavesOther w s (process_named call mounts w s args) (process_row call mounts w s args)
  pub processes_on : (w : World) (s : ℕ) → its.LeavesOther w s [] (resume_proc w s)
  pub forks : (w : World) (s : ℕ) → its.LeavesOther w s [] (fork_one w s)
  pub core : (h : Handed) (now : ℕ) → IsSound h → LeavesOther h (core_file h now)
  pub closes : (h : Handed) → IsSound h → LeavesOther h (closed h)
  pub ends : (w : World) (s status : ℕ) → its.LeavesOther w s ((process_of w s).u.dir ∷ []) (end_proc w s status)
  pub files_stay : (call : FileCall) (h : Handed) (slot : ℕ) (args : List ℕ) (now : ℕ) → IsSound h → StandsOnRoot h
      → (file_row call h slot args now).state.inodes.store.second ≡ h.inodes.store.second
  pub processes_stay : (call : ProcessCall) (mounts : MountTable) (w : World) (s : ℕ) (args : List ℕ) → AreMounts mounts w.inodes.store
      → RunsOnRoot mounts w s → (process_row call mounts w s args).state.inodes.store.second ≡ w.inodes.store.second
  pub core_stays : (h : Handed) (now : ℕ) → IsSound h → StandsOnRoot h → (core_file h now).state.inodes.store.second ≡ h.inodes.store.second
  pub runs_stay : (image : List ℕ) (second : Option (List ℕ)) (core lines : ℕ) (events : List Event) (c : Course)
      → AreBytes image → 64 ≤ core → core ≤ 3968 → lines ≤ 8 → runs image second core lines events ≡ Some c
      → IsNeverMounted image second core lines events → (finished c.system).unix.store.second ≡ (stores_of image second).second
