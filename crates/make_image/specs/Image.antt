-- The image that is built, its regions one after the other: file system(V) of the UNIX Programmer's Manual.
use Rattle.std.specs.Prelude.{ℕ, ◌+◌, ◌-◌, ◌*◌, ◌/◌, List, [], ◌∷◌, ◌++◌, length}
use Rattle.std.specs.List.{range_with_len, flat_map}
use Rattle.fs_codec.specs.Fields.{Inode}
use Rattle.fs_codec.specs.declared.super_block.SuperBlock.{SuperBlock}
use Rattle.fs_codec.specs.declared.layout.TheConstants.{BLOCK_SIZE, LIST_SIZE, SWAP_START}
use Rattle.make_image.specs.declared.files.TheConstants.{INODE_BLOCKS, FIRST_BLOCK}
use Rattle.fs_codec.specs.Bytes.{super_bytes, inode_bytes}
use Rattle.make_image.specs.Padded.{padded}
use Rattle.make_image.specs.Files.{Content, Bytes, Device, Node, nodes}
use Rattle.make_image.specs.FreeList.{FreeList, freed_down}

abbrev pub bytes_in : Content → List ℕ
bytes_in (Bytes bytes) = bytes
bytes_in (Device numbers) = []

-- how many blocks the bytes need
abbrev pub blocks_of : Content → ℕ
blocks_of content = (length (bytes_in content) + (BLOCK_SIZE - 1)) / BLOCK_SIZE

-- The addresses where the blocks stand from `first` on. A device has its numbers in place of the first.
abbrev pub addresses : ℕ → Content → List ℕ
addresses first (Bytes bytes) = padded 8 (range_with_len first (blocks_of (Bytes bytes)))
addresses first (Device numbers) = padded 8 (numbers ∷ [])

-- owner 0, group 0 and times 0
abbrev pub inode : ℕ → Node → Inode
inode first node = record {
  mode = node.mode;
  nlink = node.nlink;
  uid = 0;
  gid = 0;
  size = length (bytes_in node.content);
  addr = addresses first node.content;
  actime = 0;
  modtime = 0;
}

-- the inodes, where the blocks of the first begin at this one
unfoldable pub inodes : ℕ → List Node → List ℕ
inodes first [] = []
inodes first (node ∷ nodes) = inode_bytes (inode first node) ++ inodes (first + blocks_of node.content) nodes

-- what the nodes hold, each padded up to whole blocks
unfoldable pub contents : List Node → List ℕ
contents nodes = flat_map (λ node. padded (BLOCK_SIZE * blocks_of node.content) (bytes_in node.content)) nodes

-- all blocks before the swap area; no list of free inodes, no flag and no time
abbrev pub super_block : FreeList → SuperBlock
super_block list = record {
  i_size = INODE_BLOCKS;
  f_size = SWAP_START;
  nfree = list.nfree;
  free = list.free;
  ninode = 0;
  inode = padded LIST_SIZE [];
  flock = 0;
  ilock = 0;
  fmod = 0;
  ronly = 0;
  time = 0;
}

-- Files have the first blocks after the inodes. Those that are left are freed.
abbrev pub first_free : ℕ → ℕ
first_free n = FIRST_BLOCK + length (contents (nodes n)) / BLOCK_SIZE

-- block 0, the super-block, the blocks of inodes, those of the files and the free ones
unfoldable pub build_of : ℕ → List ℕ
build_of n =
    let list = freed_down (SWAP_START - first_free n) in
    padded BLOCK_SIZE [] ++ padded BLOCK_SIZE (super_bytes (super_block list))
    ++ padded (INODE_BLOCKS * BLOCK_SIZE) (inodes FIRST_BLOCK (nodes n)) ++ contents (nodes n) ++ list.blocks
