-- A file system to those who use it: a store, how often each of its nodes is referred to, and what the disk under it holds.
use Rattle.std.specs.Prelude.{◌≡◌, ◌+◌, ◌/◌, ◌%◌, ◌<◌, ◌≤◌, ◌==◌, ℕ, true, List, length, slice_index, nat_lt, count_by, if◌then◌else◌, Option, Some, None, IsSome}
use Rattle.buf_cache.specs.Blocks.{IsDisk}
use Rattle.fs_codec.specs.Modes.{is_device}
use Rattle.fs_codec.specs.declared.layout.TheConstants.{BLOCK_SIZE}
use Rattle.fs_codec.specs.Store.{Node, Store, node_numbered}
use Rattle.fs_codec.specs.declared.node.DiskNode.{DiskNode}
unfoldable pub use Rattle.fs_blocks.specs.Store.{store_now}
use Rattle.fs_laws.specs.Rest.{SameAround}

-- `references` are by inode numbers, from 0 on. `blocks` are those that the kernel reads and writes, and `stored` what the
-- disk has of them.
pub record FileSystem : Type 0 where
  pub store : Store
  pub references : List ℕ
  pub blocks : List (List ℕ)
  pub stored : List (List ℕ)

-- Nothing has changed but perhaps what the disk has.
pub record SameFiles (old new : FileSystem) : Type 0 where
  pub store : new.store ≡ old.store
  pub references : new.references ≡ old.references
  pub blocks : new.blocks ≡ old.blocks

-- What no change of files changes on the disk is the same.
abbrev pub SameRest : FileSystem → FileSystem → Type 0
SameRest old new = SameAround old.blocks new.blocks

-- how many nodes are referred to
abbrev pub referenced : List ℕ → ℕ
referenced references = count_by (nat_lt 0) references

-- An inode as its node: a device's number is its first address.
pub record Shows (inode : DiskNode) (node : Node) : Type 0 where
  pub mode : inode.mode ≡ node.mode
  pub nlink : inode.nlink ≡ node.nlink
  pub uid : inode.uid ≡ node.uid
  pub gid : inode.gid ≡ node.gid
  pub size : inode.size ≡ node.size
  pub actime : inode.actime ≡ node.actime
  pub modtime : inode.modtime ≡ node.modtime
  pub device : is_device node.mode ≡ true → slice_index inode.addr 0 ≡ node.device

-- There is a node, and the inode shows it.
abbrev pub ShowsNode : Option Node → DiskNode → Type 0
ShowsNode found inode = (node : Node) × (found ≡ Some node) × Shows inode node

-- What is so of every file system: nodes and references are by the same numbers, what is referred to is a node,
-- and there is a root.
pub record IsFileSystem (fs : FileSystem) : Type 0 where
  pub nodes : length fs.store.nodes ≡ fs.store.count + 1
  pub references : length fs.references ≡ fs.store.count + 1
  pub few : referenced fs.references ≤ 100
  pub count : (i : ℕ) → slice_index fs.references i < 65536
  pub used : (i : ℕ) → 0 < slice_index fs.references i → IsSome (node_numbered fs.store i)
  pub none : node_numbered fs.store 0 ≡ None
  pub root : IsSome (node_numbered fs.store 1)
  pub blocks : IsDisk fs.blocks

-- the byte at a place of a file of this size, with zeros behind it
abbrev pub file_byte : ℕ → List ℕ → ℕ → ℕ
file_byte size body at = if nat_lt at size then slice_index body at else 0

-- the same from the block of an offset and the block behind it
abbrev pub near_byte : List ℕ → List ℕ → ℕ → ℕ → ℕ → ℕ
near_byte first second offset size at =
    if nat_lt at size
    then (if at / BLOCK_SIZE == offset / BLOCK_SIZE then slice_index first (at % BLOCK_SIZE)
    else slice_index second (at % BLOCK_SIZE))
    else 0
