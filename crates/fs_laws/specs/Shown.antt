-- An inode and its node, where fields change and the blocks stay.
use Rattle.std.specs.Prelude.{◌≡◌, ◌≢◌, false, slice_index, if◌then◌else◌}
use Rattle.fs_codec.specs.Fields.{Inode}
use Rattle.fs_codec.specs.Modes.{file_type, is_device, is_large}
use Rattle.fs_codec.specs.Disk.{Disk}
use Rattle.fs_codec.specs.Store.{Node}
use Rattle.fs_codec.specs.Stands.{held_of, body_of}

-- the node of an inode that is used
abbrev pub file_of : Disk → Inode → Node
file_of disk node = record {
  mode = node.mode;
  nlink = node.nlink;
  uid = node.uid;
  gid = node.gid;
  size = node.size;
  device = if is_device node.mode then slice_index node.addr 0 else 0;
  actime = node.actime;
  modtime = node.modtime;
  held = held_of disk node;
  body = body_of disk node;
}

-- An inode still holds what it held: its type is the same, and it is large or not as it was. It is used still.
pub record KeepsBlocks (node next : Inode) : Type 0 where
  pub before : node.mode ≢ 0
  pub used : next.mode ≢ 0
  pub kind : file_type next.mode ≡ file_type node.mode
  pub large : is_large next.mode ≡ is_large node.mode
  pub addr : is_device node.mode ≡ false → next.addr ≡ node.addr

-- The fields of an inode are those of its node.
pub record Tells (node : Inode) (file : Node) : Type 0 where
  pub mode : node.mode ≡ file.mode
  pub nlink : node.nlink ≡ file.nlink
  pub uid : node.uid ≡ file.uid
  pub gid : node.gid ≡ file.gid
  pub size : node.size ≡ file.size
  pub device : (if is_device node.mode then slice_index node.addr 0 else 0) ≡ file.device
  pub actime : node.actime ≡ file.actime
  pub modtime : node.modtime ≡ file.modtime

-- A node has the fields of this inode, and the blocks and bytes that a node had.
pub record Renews (next : Inode) (node renewed : Node) : Type 0 where
  pub fields : Tells next renewed
  pub held : renewed.held ≡ node.held
  pub body : renewed.body ≡ node.body
