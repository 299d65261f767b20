-- The blocks of a second disk's image without a fault are a whole disk. Its file system may go to the end of the disk.
use Rattle.std.proofs.Common.{◌≡◌, ◌≤◌, ℕ, Bool, true, false, List, [], ◌∷◌, length, nat_lt, None, refl, arith}
use Rattle.std.proofs.lemmas.Bool.{ltb-false}
use Rattle.buf_cache.specs.Blocks.{block_at, blocks_of}
use Rattle.fs_codec.specs.Disk.{disk_of, head}
use Rattle.fs_codec.specs.Faults.{when, disk_fault, fault_within}
use Rattle.fs_codec.specs.declared.fault.ImageFault.TheVariants.{TooLong}
use Rattle.fs_codec.specs.declared.layout.TheConstants.{DISK_BLOCKS, DISK_BYTES}
use Rattle.fs_laws.specs.Chain.{IsSound}
use Rattle.fs_laws.specs.Whole.{IsWhole}
use Rattle.fs_laws.proofs.WholeLemmas.{two, within_whole}
use Rattle.fs_laws.proofs.ImageLemmas.{block_of_image}
use Rattle.fs_laws.proofs.AgreeLemmas.{SameFiles, files_whole}

not_longer : (bytes : List ℕ) (t : Bool) → nat_lt DISK_BYTES (length bytes) ≡ t → when t TooLong ≡ None
    → length bytes ≤ DISK_BYTES
not_longer bytes true e h = absurd (cc)
not_longer bytes false e h = ltb-false DISK_BYTES (length bytes) e

-- it is no longer than a disk
pub second_short : (bytes : List ℕ) → fault_within DISK_BLOCKS bytes ≡ None → length bytes ≤ DISK_BYTES
unfolding fault_within
second_short bytes h =
    not_longer bytes (nat_lt DISK_BYTES (length bytes)) refl
    (two (when (nat_lt DISK_BYTES (length bytes)) TooLong) (disk_fault DISK_BLOCKS (disk_of bytes) ∷ []) h).0

pub second_within : (bytes : List ℕ) → fault_within DISK_BLOCKS bytes ≡ None
    → IsWhole (disk_of bytes) × ((head (disk_of bytes)).f_size ≤ DISK_BLOCKS)
unfolding fault_within
second_within bytes h =
    let rest = (two (when (nat_lt DISK_BYTES (length bytes)) TooLong) (disk_fault DISK_BLOCKS (disk_of bytes) ∷ []) h).1 in
    within_whole DISK_BLOCKS (disk_of bytes) (omega arith) (two (disk_fault DISK_BLOCKS (disk_of bytes)) [] rest).0

-- the blocks that a disk keeps are the image's
pub second_files : (bytes : List ℕ) → fault_within DISK_BLOCKS bytes ≡ None
    → SameFiles (disk_of bytes) (block_at (blocks_of bytes))
second_files bytes h = record {
  blocks = λ k low. block_of_image bytes k (let end = (second_within bytes h).1 in omega (arith, low, end));
}

pub second_whole : (bytes : List ℕ) → fault_within DISK_BLOCKS bytes ≡ None → IsWhole (block_at (blocks_of bytes))
second_whole bytes h = files_whole (disk_of bytes) (block_at (blocks_of bytes)) (second_within bytes h).0 (second_files bytes h)

pub second_sound : (bytes : List ℕ) → fault_within DISK_BLOCKS bytes ≡ None → IsSound (block_at (blocks_of bytes))
second_sound bytes h = (second_whole bytes h).sound
