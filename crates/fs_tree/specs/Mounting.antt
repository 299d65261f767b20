-- The mount table of file systems.
use Rattle.std.specs.Prelude.{◌≡◌, IsSome}
use Rattle.fs_nodes.specs.Keys.{Stores, second_count}
use Rattle.mount_tab.specs.Mounted.{MountTable}

-- It has the numbers of their inodes. Where a directory is covered there is a second disk.
pub record AreMounts (mounts : MountTable) (stores : Stores) : Type 0 where
  pub first : mounts.first ≡ stores.root.count
  pub second : mounts.second ≡ second_count stores.second
  pub covered : IsSome mounts.covered → IsSome stores.second
