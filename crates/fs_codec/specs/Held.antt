-- The blocks that an inode holds: file system(V) of the UNIX Programmer's Manual.
use Rattle.std.specs.Prelude.{ℕ, ◌-◌, ◌/◌, ◌%◌, nat_lt, if◌then◌else◌, List, [], ◌∷◌, ◌++◌, flat_map, take, slice_index}
use Rattle.fs_codec.specs.Words.{words}
use Rattle.fs_codec.specs.Fields.{Inode}
use Rattle.fs_codec.specs.Modes.{is_large, holds_blocks}
use Rattle.fs_codec.specs.Disk.{Disk, is_data, inode}
use Rattle.bmap_path.specs.declared.BlockName.{BlockName}
use Rattle.bmap_path.specs.declared.BlockName.TheVariants.{Data, Ind, Dbl}
use Rattle.fs_codec.specs.declared.layout.TheConstants.{BLOCK_ADDRESSES}

-- the addresses in an indirect block; there are none in a block that is no data block
abbrev pub entries : Disk → ℕ → List ℕ
entries disk block = if is_data disk block then words (disk block) 0 BLOCK_ADDRESSES else []

-- an indirect block and the blocks that it names
abbrev pub in_indirect : Disk → ℕ → List ℕ
in_indirect disk block = block ∷ entries disk block

-- a double indirect block, the indirect blocks that it names, and theirs
abbrev pub in_double : Disk → ℕ → List ℕ
in_double disk block = block ∷ flat_map (in_indirect disk) (entries disk block)

-- The eight addresses of a small file are its blocks. Seven of a large one are indirect blocks, and the last is a double
-- indirect block. An address 0 is none.
abbrev pub addresses : Disk → Inode → List ℕ
addresses disk node =
    if is_large node.mode
    then flat_map (in_indirect disk) (take 7 node.addr) ++ in_double disk (slice_index node.addr 7)
    else node.addr

abbrev pub held_blocks : Disk → Inode → List ℕ
held_blocks disk node = if holds_blocks node.mode then addresses disk node else []

-- the blocks that the inode of a number holds
abbrev pub held_by : Disk → ℕ → List ℕ
held_by disk i = held_blocks disk (inode disk i)

-- The address of indirect block k of a large file: the double indirect block names those from 7 on.
abbrev pub indirect_at : Disk → Inode → ℕ → ℕ
indirect_at disk node k =
    if nat_lt k 7 then slice_index node.addr k else slice_index (entries disk (slice_index node.addr 7)) (k - 7)

-- the address of the block of this name, or 0 where the file has none
abbrev pub address : Disk → Inode → BlockName → ℕ
address disk node (Data n) =
    if is_large node.mode
    then slice_index (entries disk (indirect_at disk node (n / BLOCK_ADDRESSES))) (n % BLOCK_ADDRESSES)
    else slice_index node.addr n
address disk node (Ind k) = if is_large node.mode then indirect_at disk node k else 0
address disk node Dbl = if is_large node.mode then slice_index node.addr 7 else 0
