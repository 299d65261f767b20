-- Inodes by their keys: what a key names in a store. With one disk the key of an inode is its number.
use Rattle.std.specs.Prelude.{ℕ, [], unwrap_or}
use Rattle.fs_codec.specs.Store.{Node, Store}
pub use Rattle.fs_codec.specs.Store.{node_numbered}
pub use Rattle.fs_laws.specs.Numbers.{with_node, with_truncated, without_reference}

-- what stands for a node where there is none of this key
abbrev pub no_node : Node
no_node = record { mode = 0; nlink = 0; uid = 0; gid = 0; size = 0; device = 0; actime = 0; modtime = 0; held = []; body = [] }

abbrev pub node_in : Store → ℕ → Node
node_in s key = unwrap_or (node_numbered s key) no_node

-- how many blocks are free on the disk of a key
abbrev pub room_at : Store → ℕ → ℕ
room_at s key = s.room

-- the store with a node at a key, where its blocks stay
abbrev pub with_fields : Store → ℕ → Node → Store
with_fields s key node = with_node s key node (room_at s key)
