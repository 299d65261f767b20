-- What stands where on a disk: file system(V) of the UNIX Programmer's Manual.
use Rattle.std.specs.Prelude.{ℕ, Bool, ◌+◌, ◌*◌, ◌/◌, ◌%◌, ◌&&◌, nat_le, nat_lt, List, slice_range}
use Rattle.std.specs.List.{range_with_len}
use Rattle.fs_codec.specs.Words.{bytes_from}
use Rattle.fs_codec.specs.Fields.{super_of, Inode, inode_of}
use Rattle.fs_codec.specs.declared.super_block.SuperBlock.{SuperBlock}
use Rattle.fs_codec.specs.declared.layout.TheConstants.{BLOCK_SIZE, BLOCK_INODES, INODE_SIZE}

-- the bytes of each block, by the block's number
abbrev pub Disk : Type 0
Disk = ℕ → List ℕ

-- the disk of which these are the first bytes; the others are 0
unfoldable pub disk_of : List ℕ → Disk
disk_of bytes block = bytes_from bytes (BLOCK_SIZE * block) BLOCK_SIZE

-- Block 0 is the boot block, and block 1 the super-block.
abbrev pub head : Disk → SuperBlock
head disk = super_of (disk 1)

-- The inodes begin in block 2. What comes after them, up to the end of the file system, is data.
abbrev pub is_data : Disk → ℕ → Bool
is_data disk block = nat_le ((head disk).i_size + 2) block && nat_lt block (head disk).f_size

-- how many inodes a disk has
abbrev pub inode_count : Disk → ℕ
inode_count disk = BLOCK_INODES * (head disk).i_size

-- their numbers, from 1 on
abbrev pub inode_numbers : Disk → List ℕ
inode_numbers disk = range_with_len 1 (inode_count disk)

-- Inode i is in block (i + 31) / 16, and has 32 bytes there.
abbrev pub inode : Disk → ℕ → Inode
inode disk i =
    let place = INODE_SIZE * ((i + 31) % BLOCK_INODES) in
    inode_of (slice_range (disk ((i + 31) / BLOCK_INODES)) place (place + INODE_SIZE))
