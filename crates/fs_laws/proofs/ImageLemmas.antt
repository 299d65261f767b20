-- The blocks of an image without a fault are a whole disk.
use Rattle.std.proofs.Common.{◌≡◌, ◌<◌, ◌≤◌, ℕ, Bool, true, false, cond, List, [], ◌∷◌, length, nat_lt, None, refl, sym, ap, ◌∙◌, subst, arith}
use Rattle.std.proofs.lemmas.Bool.Decides.{nat_tests}
use Rattle.std.proofs.lemmas.List.FromFn.{get_or-map-range_with_len}
use Rattle.buf_cache.specs.Blocks.{block_at, blocks_of}
use Rattle.fs_codec.specs.Fields.{Inode}
use Rattle.fs_codec.specs.Modes.{holds_blocks}
use Rattle.fs_codec.specs.Disk.{disk_of, head, inode, inode_count}
use Rattle.fs_codec.specs.Held.{addresses, held_by}
use Rattle.fs_codec.specs.Faults.{when, disk_fault, fault_within, image_fault}
use Rattle.fs_codec.specs.declared.fault.ImageFault.TheVariants.{TooLong}
use Rattle.fs_codec.specs.declared.layout.TheConstants.{SWAP_START, DISK_BLOCKS, DISK_BYTES}
use Rattle.fs_laws.specs.Chain.{IsSound}
use Rattle.fs_laws.specs.Whole.{IsWhole, IsApart}
use Rattle.fs_laws.proofs.FreeLemmas.{good_head}
use Rattle.fs_laws.proofs.WholeLemmas.{two, within_whole}
use Rattle.fs_laws.proofs.FileLemmas.{file_apart}
use Rattle.fs_laws.proofs.AgreeLemmas.{SameFiles, files_agree, files_whole, agree_apart}

not_longer : (bytes : List ℕ) (t : Bool) → nat_lt DISK_BYTES (length bytes) ≡ t → when t TooLong ≡ None → length bytes ≤ DISK_BYTES
not_longer bytes true e h = absurd (cc)
not_longer bytes false e h = grind (arith, nat_tests)

-- an image without a fault is no longer than a disk
pub image_short : (bytes : List ℕ) → image_fault bytes ≡ None → length bytes ≤ DISK_BYTES
unfolding image_fault fault_within
image_short bytes h = not_longer bytes (nat_lt DISK_BYTES (length bytes)) refl (two (when (nat_lt DISK_BYTES (length bytes)) TooLong) (disk_fault SWAP_START (disk_of bytes) ∷ []) h).0

pub block_of_image : (bytes : List ℕ) (n : ℕ) → n < DISK_BLOCKS → block_at (blocks_of bytes) n ≡ disk_of bytes n
unfolding blocks_of
block_of_image bytes n h = get_or-map-range_with_len (disk_of bytes) 0 DISK_BLOCKS n n [] h (omega arith)

-- the disk is whole, and its file system ends before the swap area
pub image_within : (bytes : List ℕ) → image_fault bytes ≡ None → IsWhole (disk_of bytes) × ((head (disk_of bytes)).f_size ≤ SWAP_START)
unfolding image_fault fault_within
image_within bytes h =
    let rest = (two (when (nat_lt DISK_BYTES (length bytes)) TooLong) (disk_fault SWAP_START (disk_of bytes) ∷ []) h).1 in
    within_whole SWAP_START (disk_of bytes) (omega arith) (two (disk_fault SWAP_START (disk_of bytes)) [] rest).0

-- the blocks that a disk keeps are the image's
pub image_files : (bytes : List ℕ) → image_fault bytes ≡ None → SameFiles (disk_of bytes) (block_at (blocks_of bytes))
image_files bytes h = record { blocks = λ k low. block_of_image bytes k (let end = (image_within bytes h).1 in omega (arith, low, end)) }

pub image_whole : (bytes : List ℕ) → image_fault bytes ≡ None → IsWhole (block_at (blocks_of bytes))
image_whole bytes h = files_whole (disk_of bytes) (block_at (blocks_of bytes)) (image_within bytes h).0 (image_files bytes h)

pub image_sound : (bytes : List ℕ) → image_fault bytes ≡ None → IsSound (block_at (blocks_of bytes))
image_sound bytes h = (image_whole bytes h).sound

-- the blocks of a file of an image
pub image_apart : (bytes : List ℕ) (i : ℕ) (node : Inode) → image_fault bytes ≡ None → 1 ≤ i → i ≤ 16 → node ≡ inode (disk_of bytes) i → holds_blocks node.mode ≡ true
    → IsApart (block_at (blocks_of bytes)) (addresses (block_at (blocks_of bytes)) node)
image_apart bytes i node h low high is holds =
    let w = (image_within bytes h).0 in
    let some : i ≤ inode_count (disk_of bytes) = let g = (good_head (head (disk_of bytes)) w.sound.super).nodes in omega (arith, g, high) in
    let held : held_by (disk_of bytes) i ≡ addresses (disk_of bytes) node = ap (λ n. cond (holds_blocks n.mode) (addresses (disk_of bytes) n) []) (sym is) ∙ ap (λ t. cond t (addresses (disk_of bytes) node) []) holds in
    let P : List ℕ → Type 0 = IsApart (disk_of bytes) in
    agree_apart (disk_of bytes) (block_at (blocks_of bytes)) node (files_agree (disk_of bytes) (block_at (blocks_of bytes)) w (image_files bytes h)) w.sound (subst P held (file_apart (disk_of bytes) i w low some))
