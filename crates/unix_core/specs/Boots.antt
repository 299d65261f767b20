-- Why there is no kernel for an image, or for two.
use Rattle.std.specs.Prelude.{◌≡◌, ◌++◌, ◌*◌, ◌-◌, ⊤, ℕ, nat_lt, if◌then◌else◌, List, replicate, Option, Some, None}
use Rattle.std.specs.Option.{option_map}
use Rattle.buf_cache.specs.Blocks.{blocks_of}
use Rattle.fs_codec.specs.Faults.{image_fault, fault_within}
use Rattle.fs_codec.specs.declared.fault.ImageFault.{ImageFault}
use Rattle.fs_codec.specs.Words.{bytes_from}
use Rattle.fs_codec.specs.declared.layout.TheConstants.{BLOCK_SIZE, DISK_BLOCKS, SWAP_START}
use Rattle.fs_nodes.specs.Disks.{Disks}
use Rattle.fs_nodes.specs.Keys.{key_count}
use Rattle.image_keep.specs.declared.memory.TheConstants.{SWAP_BYTES}
use Rattle.image_keep.specs.Kept.{clicks_of}
use Rattle.image_keep.specs.Holds.{image_bytes}
use Rattle.abstract_unix.specs.Runs.{stores_of}
use Rattle.unix_core.specs.Parts.{first_held}
use Rattle.unix_core.specs.declared.boot.BootFault.{BootFault}
use Rattle.unix_core.specs.declared.boot.BootFault.TheVariants.{Image, NoMemory}
use Rattle.unix_core.specs.declared.boot.SecondFault.{SecondFault}
use Rattle.unix_core.specs.declared.boot.SecondFault.TheVariants as second
use Rattle.unix_core.specs.declared.boot.Boot2Fault.{Boot2Fault}
use Rattle.unix_core.specs.declared.boot.Boot2Fault.TheVariants as two

-- the blocks of the disks of two images, or of one
abbrev pub blocks_on : List ℕ → Option (List ℕ) → Disks (List (List ℕ))
blocks_on image second = record { root = blocks_of image; second = option_map blocks_of second }

-- what the swap area has at first: the bytes of the image from block 4000 on, and zeros where it ends before
abbrev pub swap_on : List ℕ → List ℕ
swap_on image = bytes_from image (BLOCK_SIZE * SWAP_START) SWAP_BYTES

-- what so many clicks of core have at first: the first image of process 1, and zeros
abbrev pub core_on : ℕ → List ℕ
core_on core = image_bytes first_held ++ replicate (64 * (core - clicks_of first_held.u)) 0

-- The image has this first fault, or there is no memory.
abbrev pub RefusesBoot : List ℕ → BootFault → Type 0
RefusesBoot image (Image fault) = image_fault image ≡ Some fault
RefusesBoot image NoMemory = ⊤

-- What is wrong with a second image beside a first: its first fault, or else that there are so many inodes on both disks, more
-- than there are keys.
abbrev pub counted_fault : ℕ → Option SecondFault
counted_fault n = if nat_lt 65535 n then Some (second.Nodes n) else None

abbrev pub fault_or_count : Option ImageFault → ℕ → Option SecondFault
fault_or_count (Some fault) n = Some (second.Image fault)
fault_or_count None n = counted_fault n

abbrev pub second_fault_of : List ℕ → List ℕ → Option SecondFault
second_fault_of image bytes = fault_or_count (fault_within DISK_BLOCKS bytes) (key_count (stores_of image (Some bytes)))

-- The first image comes first.
abbrev pub RefusesBoot2 : List ℕ → List ℕ → Boot2Fault → Type 0
RefusesBoot2 image bytes (two.Image fault) = image_fault image ≡ Some fault
RefusesBoot2 image bytes (two.Second fault) = (image_fault image ≡ None) × (second_fault_of image bytes ≡ Some fault)
RefusesBoot2 image bytes two.NoMemory = ⊤
