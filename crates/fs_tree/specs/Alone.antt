-- The root's disk alone, as a system of one disk has it.
use Rattle.std.specs.Prelude.{◌≡◌, ◌≤◌, ℕ, List, None}
use Rattle.fs_nodes.specs.Keys.{Stores}
use Rattle.mount_tab.specs.Mounted.{MountTable}
use Rattle.fs_tree.specs.Name.{start_of}
use Rattle.fs_tree.specs.Finding.{Inodes}

-- its file system, and how often the inodes are referred to
abbrev pub alone : Inodes → Inodes
alone n = record n { store = record { root = n.store.root; second = None } }

-- its mount table
abbrev pub table_alone : Stores → MountTable
table_alone s = record { first = s.root.count; second = 0; covered = None }

-- A name starts at an inode of the root's disk, and nothing is covered.
pub record StartsOnRoot (s : Stores) (mounts : MountTable) (dir : ℕ) (bytes : List ℕ) : Type 0 where
  pub none : mounts.covered ≡ None
  pub root : start_of dir bytes ≤ s.root.count
