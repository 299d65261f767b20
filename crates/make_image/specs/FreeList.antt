-- The list of free blocks, as blocks are given back: file system(V) of the UNIX Programmer's Manual, and free() of alloc.c
-- in Lions' Commentary.
use Rattle.std.specs.Prelude.{ℕ, zero, suc, ◌+◌, ◌-◌, ◌==◌, if◌then◌else◌, List, [], ◌∷◌, ◌++◌, slice_set}
use Rattle.fs_codec.specs.declared.layout.TheConstants.{BLOCK_SIZE, LIST_SIZE, SWAP_START}
use Rattle.fs_codec.specs.Bytes.{bytes_of}
use Rattle.make_image.specs.Padded.{padded}

-- the super-block's count and its numbers, and what the free blocks hold, the lowest first
pub record FreeList : Type 0 where
  pub nfree : ℕ
  pub free : List ℕ
  pub blocks : List ℕ

-- A list that has these numbers takes block b as the next, and the block begins with these words.
abbrev pub pushed : ℕ → List ℕ → ℕ → List ℕ → List ℕ → FreeList
pushed nfree free b words blocks = record {
  nfree = nfree + 1;
  free = slice_set free nfree b;
  blocks = padded BLOCK_SIZE (bytes_of words) ++ blocks;
}

-- Block b is freed. An empty list begins with the number 0. A full list is written into the block, and begins anew.
unfoldable pub freed : FreeList → ℕ → FreeList
freed list b =
    if list.nfree == 0 then pushed 1 (slice_set list.free 0 0) b [] list.blocks else (
    if list.nfree == LIST_SIZE then pushed 0 list.free b (LIST_SIZE ∷ list.free) list.blocks else
    pushed list.nfree list.free b [] list.blocks)

-- So many blocks are freed, from the last one before the swap area downwards.
unfoldable pub freed_down : ℕ → FreeList
freed_down zero = record { nfree = 0; free = padded LIST_SIZE []; blocks = [] }
freed_down (suc count) = freed (freed_down count) (SWAP_START - 1 - count)
