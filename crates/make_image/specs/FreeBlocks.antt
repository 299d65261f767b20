-- What the list of free blocks and a free block hold where all blocks from one on up to the swap area are free.
use Rattle.std.specs.Prelude.{ℕ, ◌+◌, ◌-◌, ◌==◌, nat_lt, nat_le, if◌then◌else◌, List, [], ◌∷◌}
use Rattle.fs_codec.specs.declared.layout.TheConstants.{BLOCK_SIZE, LIST_SIZE, SWAP_START}
use Rattle.fs_codec.specs.Bytes.{bytes_of}
use Rattle.make_image.specs.Padded.{padded}
use Rattle.make_image.specs.FreeList.{FreeList, freed_down}

-- the words with which a block begins that is freed on this list
abbrev pub words_freed : FreeList → List ℕ
words_freed list = if list.nfree == LIST_SIZE then LIST_SIZE ∷ list.free else []

-- what block b holds, where it and all after it are freed
unfoldable pub free_block : ℕ → List ℕ
free_block b = padded BLOCK_SIZE (bytes_of (words_freed (freed_down (SWAP_START - 1 - b))))

-- Number i of the list whose lowest block is this, where the first hundred at or above it is `top`: the blocks from the top
-- down to the lowest, and after them those of the hundred above. There is none from the swap area on.
unfoldable pub number : ℕ → ℕ → ℕ → ℕ
number lowest top i =
    let block = (if nat_le (lowest + i) top then top - i else top + LIST_SIZE - i) in
    if nat_lt block SWAP_START then block else 0
