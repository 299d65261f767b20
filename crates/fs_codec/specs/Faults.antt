-- The faults of a disk image, as a check of the file system finds them before a run.
use Rattle.std.specs.Prelude.{ℕ, Bool, not, ◌+◌, ◌&&◌, ◌||◌, ◌==◌, nat_le, nat_lt, nat_eq, min, if◌then◌else◌, List, [], ◌∷◌, ◌++◌, length, map, filter, flat_map, count_by, Option, Some, None}
use Rattle.std.specs.Option.{option_map}
use Rattle.fs_codec.specs.Modes.{is_directory}
use Rattle.fs_codec.specs.Disk.{Disk, disk_of, head, is_data, inode, inode_numbers}
use Rattle.fs_codec.specs.Free.{free_walk}
use Rattle.fs_codec.specs.Held.{held_by}
use Rattle.fs_codec.specs.declared.super_block.SuperBlock.{SuperBlock}
use Rattle.fs_codec.specs.declared.layout.TheConstants.{DISK_BYTES, SWAP_START, LIST_SIZE}
use Rattle.fs_codec.specs.declared.fault.ImageFault.{ImageFault}
use Rattle.fs_codec.specs.declared.fault.ImageFault.TheVariants.{TooLong, BadSuper, NoSwap, NodeOutside, BlockTwice, NoRoot}

-- the first that there is
abbrev pub first_some : {X : Type 0} → List (Option X) → Option X
first_some [] = None
first_some (Some x ∷ others) = Some x
first_some (None ∷ others) = first_some others

-- the lesser of two numbers, or the one that there is
abbrev pub lesser : Option ℕ → Option ℕ → Option ℕ
lesser None b = b
lesser (Some a) None = Some a
lesser (Some a) (Some b) = Some (min a b)

-- the least number of a list
abbrev pub least : List ℕ → Option ℕ
least [] = None
least (x ∷ xs) = lesser (Some x) (least xs)

abbrev pub when : Bool → ImageFault → Option ImageFault
when fails fault = if fails then Some fault else None

abbrev pub is_bad_super : SuperBlock → Bool
is_bad_super s = (s.i_size == 0) || nat_lt s.f_size (s.i_size + 2) || nat_lt LIST_SIZE s.nfree || nat_lt LIST_SIZE s.ninode

-- an address that is neither none nor a block that may be held
abbrev pub is_outside : (ℕ → Bool) → ℕ → Bool
is_outside may_be_held address = not (address == 0) && not (may_be_held address)

-- the least of these addresses that is outside
unfoldable pub least_outside : (ℕ → Bool) → List ℕ → Option ℕ
least_outside may_be_held addresses = least (filter (is_outside may_be_held) addresses)

-- the least address that an inode holds and that is no data block
abbrev pub inode_fault : Disk → ℕ → Option ImageFault
inode_fault disk i = option_map (NodeOutside i) (least_outside (is_data disk) (held_by disk i))

-- the blocks of the free list and those that inodes hold
unfoldable pub all_blocks : Disk → List ℕ
all_blocks disk = (free_walk disk).blocks ++ flat_map (held_by disk) (inode_numbers disk)

abbrev pub is_twice : List ℕ → ℕ → Bool
is_twice blocks block = not (block == 0) && nat_le 2 (count_by (nat_eq block) blocks)

-- what the super-block itself has wrong, where a file system may have so many blocks
abbrev pub super_fault : ℕ → SuperBlock → Option ImageFault
super_fault limit s = first_some (when (is_bad_super s) BadSuper ∷ when (nat_lt limit s.f_size) (NoSwap s.f_size) ∷ [])

-- the first fault of such a disk
unfoldable pub disk_fault : ℕ → Disk → Option ImageFault
disk_fault limit disk = first_some (
    super_fault limit (head disk)
    ∷ (free_walk disk).fault
    ∷ first_some (map (inode_fault disk) (inode_numbers disk))
    ∷ option_map BlockTwice (least (filter (is_twice (all_blocks disk)) (all_blocks disk)))
    ∷ when (not (is_directory (inode disk 1).mode)) NoRoot
    ∷ [])

-- the first fault of its image
unfoldable pub fault_within : ℕ → List ℕ → Option ImageFault
fault_within limit bytes = first_some (when (nat_lt DISK_BYTES (length bytes)) TooLong ∷ disk_fault limit (disk_of bytes) ∷ [])

-- The first fault of an image of the disk that has the root. The swap area comes after the file system.
unfoldable pub image_fault : List ℕ → Option ImageFault
image_fault bytes = fault_within SWAP_START bytes
