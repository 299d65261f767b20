-- The super-block, the inode and the directory entry in their bytes: file system(V) and directory(V) of the UNIX
-- Programmer's Manual.
use Rattle.std.specs.Prelude.{ℕ, ◌+◌, ◌*◌, List, slice_index, slice_range}
use Rattle.fs_codec.specs.Words.{word, long, words}
use Rattle.fs_codec.specs.declared.super_block.SuperBlock.{SuperBlock}
use Rattle.fs_codec.specs.declared.node.DiskNode.{DiskNode}
use Rattle.fs_codec.specs.declared.entry.DirEntry.{DirEntry}

-- The super-block is the first 416 bytes of block 1.
abbrev pub super_of : List ℕ → SuperBlock
super_of bytes = record {
  i_size = word bytes 0;
  f_size = word bytes 2;
  nfree = word bytes 4;
  free = words bytes 6 100;
  ninode = word bytes 206;
  inode = words bytes 208 100;
  flock = slice_index bytes 408;
  ilock = slice_index bytes 409;
  fmod = slice_index bytes 410;
  ronly = slice_index bytes 411;
  time = long bytes 412;
}

-- what an inode says
pub record Inode : Type 0 where
  pub mode : ℕ
  pub nlink : ℕ
  pub uid : ℕ
  pub gid : ℕ
  pub size : ℕ
  pub addr : List ℕ
  pub actime : ℕ
  pub modtime : ℕ

abbrev pub fields_of : DiskNode → Inode
fields_of node = record {
  mode = node.mode;
  nlink = node.nlink;
  uid = node.uid;
  gid = node.gid;
  size = node.size;
  addr = node.addr;
  actime = node.actime;
  modtime = node.modtime;
}

-- An inode is 32 bytes. Its size has its high byte at 5 and its low word at 6.
abbrev pub inode_of : List ℕ → Inode
inode_of bytes = record {
  mode = word bytes 0;
  nlink = slice_index bytes 2;
  uid = slice_index bytes 3;
  gid = slice_index bytes 4;
  size = 65536 * slice_index bytes 5 + word bytes 6;
  addr = words bytes 8 8;
  actime = long bytes 24;
  modtime = long bytes 28;
}

-- A directory entry is 16 bytes: an inode number, and a name filled up with NULs.
abbrev pub entry_of : List ℕ → DirEntry
entry_of bytes = record { ino = word bytes 0; name = slice_range bytes 2 16 }
