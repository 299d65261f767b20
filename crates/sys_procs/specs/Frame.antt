-- A call on processes leaves the store of a disk alone, where all that it has to do with is on the other one.
use Rattle.std.specs.Prelude.{◌≡◌, ℕ, List, [], ◌∷◌, Some, Result, Ok, Err}
use Rattle.std.specs.List.{All}
use Rattle.v6_base.specs.declared.errno.Errno.{Errno}
use Rattle.fs_nodes.specs.Keys.{device_of}
use Rattle.fs_tree.specs.Name.{name_at}
use Rattle.fs_tree.specs.Finding.{find_in}
use Rattle.mount_tab.specs.Mounted.{MountTable}
use Rattle.sys_procs.specs.Process.{Process, image_of}
use Rattle.sys_procs.specs.TextTable.{text_of}
use Rattle.sys_procs.specs.World.{World, process_of}
use Rattle.sys_procs.specs.Comes.{Comes}
use Rattle.sys_procs.specs.Tests.{user_of}

-- the inode that a search has found
abbrev pub named_by : Result ℕ Errno → List ℕ
named_by (Ok ino) = ino ∷ []
named_by (Err e) = []

-- exec names the inode of its program
abbrev pub exec_named : MountTable → World → ℕ → ℕ → List ℕ
exec_named mounts w s name =
    let p : Process = process_of w s in
    named_by (find_in w.inodes mounts (user_of p) p.u.dir (name_at (image_of w.texts p) name)).answer

-- The nodes that a call names, and that of the text of the process, are of one disk.
pub record KeepsTo (w : World) (s dev : ℕ) (keys : List ℕ) : Type 0 where
  pub named : All (λ key. device_of w.inodes.store key ≡ dev) keys
  pub text : (k : ℕ) → (process_of w s).text ≡ Some k → device_of w.inodes.store (text_of w.texts k).ino ≡ dev

-- The other disk's store is what it was, with its room, its list of free inodes and its time.
pub record LeavesOther (w : World) (s : ℕ) (keys : List ℕ) (c : Comes) : Type 0 where
  pub second : KeepsTo w s 0 keys → c.state.inodes.store.second ≡ w.inodes.store.second
  pub root : KeepsTo w s 1 keys → c.state.inodes.store.root ≡ w.inodes.store.root
