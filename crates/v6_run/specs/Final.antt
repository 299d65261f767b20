-- What a run leaves: its disk, by docs/manual/final-image.md, or its core and its swap area, by docs/manual/memory.md.
use Rattle.std.specs.Prelude.{◌≡◌, ◌<◌, ◌≤◌, ◌*◌, ℕ, Option, Some, None, List, [], ◌++◌, length, flat_map}
use Rattle.std.specs.List.{range_with_len}
use Rattle.fs_codec.specs.Disk.{Disk, disk_of, head}
use Rattle.fs_codec.specs.Stands.{StandsFor}
use Rattle.fs_codec.specs.Store.{Store}
use Rattle.fs_codec.specs.declared.layout.TheConstants.{DISK_BYTES, DISK_BLOCKS, SWAP_START}
use Rattle.buf_cache.specs.Blocks.{block_at}
use Rattle.core_mem.specs.Bytes.{part}
use Rattle.image_keep.specs.declared.memory.TheConstants.{SWAP_BYTES}
use Rattle.image_keep.specs.Holds.{AreRangesApart, SwapHolds, MemoryHolds}
use Rattle.abstract_unix.specs.Unix.{System}
use Rattle.unix_core.specs.Memory.{kept_in}

-- These bytes are a whole disk without a fault, which stands for a system's store. The boot block, the size of the file system
-- and what comes after the file system and before the swap area are as on the disk that the run began with. The swap area
-- holds the images that are out of core, half of the u area of each process that has ended, and all texts, and no two of these
-- ranges meet.
pub record IsFinal (first : Disk) (m : System) (text : List ℕ) : Type 0 where
  pub long : length text ≡ DISK_BYTES
  pub stands : StandsFor SWAP_START (disk_of text) m.unix.store.root
  pub boot : disk_of text 0 ≡ first 0
  pub size : (head (disk_of text)).f_size ≡ (head first).f_size
  pub behind : (n : ℕ) → (head first).f_size ≤ n → n < SWAP_START → disk_of text n ≡ first n
  pub swap : SwapHolds (part text (512 * SWAP_START) SWAP_BYTES) (kept_in m)
  pub apart : AreRangesApart (kept_in m)

-- the bytes of all blocks of a disk before the swap area, in order
unfoldable pub disk_text : List (List ℕ) → List ℕ
disk_text blocks = flat_map (block_at blocks) (range_with_len 0 SWAP_START)

-- The same of a second disk, which has no swap area: all of it but the boot block and what comes after the file system, which
-- are as on the disk that the run began with, stands for the system's second store.
pub record IsFinalSecond (first : Disk) (store : Store) (text : List ℕ) : Type 0 where
  pub long : length text ≡ DISK_BYTES
  pub stands : StandsFor DISK_BLOCKS (disk_of text) store
  pub boot : disk_of text 0 ≡ first 0
  pub size : (head (disk_of text)).f_size ≡ (head first).f_size
  pub behind : (n : ℕ) → (head first).f_size ≤ n → n < DISK_BLOCKS → disk_of text n ≡ first n

-- the bytes of all its blocks, in order, where there is one
unfoldable pub whole_text : List (List ℕ) → List ℕ
whole_text blocks = flat_map (block_at blocks) (range_with_len 0 DISK_BLOCKS)

abbrev pub second_text : Option (List (List ℕ)) → List ℕ
second_text None = []
second_text (Some blocks) = whole_text blocks

-- These bytes are those of core and then those of the swap area, which hold what a system keeps there.
pub record IsMemory (m : System) (text : List ℕ) : Type 0 where
  pub core : List ℕ
  pub swap : List ℕ
  pub split : text ≡ core ++ swap
  pub holds : MemoryHolds core swap (kept_in m)
