-- The tests of a row, and whom and what they ask about.
use Rattle.std.specs.Prelude.{ℕ}
use Rattle.fs_codec.specs.Store.{Node}
use Rattle.fs_tree.specs.declared.user.User.{User}
pub use Rattle.fs_tree.specs.Tests.{must, no_node, node_in}
use Rattle.sys_procs.specs.Process.{Process}
use Rattle.sys_procs.specs.World.{World}

-- who a process is to files
abbrev pub user_of : Process → User
user_of p = record { uid = p.u.uid; gid = p.u.gid }

abbrev pub node_at : World → ℕ → Node
node_at w ino = node_in w.inodes.store ino
