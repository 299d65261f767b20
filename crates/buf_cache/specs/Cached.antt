-- What a cache of blocks is: the disk, and buffers that have some of its blocks. Lions' Commentary, `buf.h` and `bio.c`.
use Rattle.std.specs.Prelude.{◌≡◌, ℕ, ◌<◌, ◌≤◌, ◌==◌, Bool, true, false, not, List, [], ◌∷◌, length, map, filter, take, drop, slice_set, count_by, if◌then◌else◌}
use Rattle.std.specs.List.{range_with_len, All}
use Rattle.fs_codec.specs.declared.layout.TheConstants.{BLOCK_SIZE, DISK_BLOCKS}
use Rattle.buf_cache.specs.Blocks.{block_at, patched, IsDisk}

-- a block in a buffer: its number, its bytes, and whether they have changed since they were read or written
pub record Buffer : Type 0 where
  pub block : ℕ
  pub bytes : List ℕ
  pub is_changed : Bool

-- The buffers stand in order, the one that was used last first.
pub record Cached : Type 0 where
  pub disk : List (List ℕ)
  pub buffers : List Buffer

-- the first buffer of a block, or else this one
abbrev pub find_buffer : List Buffer → ℕ → Buffer → Buffer
find_buffer [] n other = other
find_buffer (b ∷ bs) n other = if b.block == n then b else find_buffer bs n other

-- a block as it is read from the disk
abbrev pub fresh : ℕ → List ℕ → Buffer
fresh n bytes = record { block = n; bytes = bytes; is_changed = false }

-- the buffer of a block: the one that has it, or else one that is read from the disk
abbrev pub buffer_of : Cached → ℕ → Buffer
buffer_of c n = find_buffer c.buffers n (fresh n (block_at c.disk n))

-- the blocks as they are through the cache: of a block in a buffer its bytes, else those on the disk
unfoldable pub cached_blocks : Cached → List (List ℕ)
cached_blocks c = map (λ n. (buffer_of c n).bytes) (range_with_len 0 DISK_BLOCKS)

-- the buffers of other blocks
abbrev pub others_of : List Buffer → ℕ → List Buffer
others_of buffers n = filter (λ b. not (b.block == n)) buffers

-- a disk to which those of these buffers are written that have changed
abbrev pub written : List Buffer → List (List ℕ) → List (List ℕ)
written [] disk = disk
written (b ∷ bs) disk = written bs (if b.is_changed then slice_set disk b.block b.bytes else disk)

-- This buffer of block n comes to the front, and those of other blocks stay behind it in their order. Where they are fifteen
-- the last one goes, and is written to the disk if it has changed.
abbrev pub with_first : Cached → ℕ → Buffer → Cached
with_first c n b = record {
  disk = written (drop 14 (others_of c.buffers n)) c.disk;
  buffers = b ∷ take 14 (others_of c.buffers n);
}

-- Block n is used.
unfoldable pub used : Cached → ℕ → Cached
used c n = with_first c n (buffer_of c n)

-- a buffer with these bytes at a place, which has changed then
abbrev pub patched_buffer : ℕ → List ℕ → Buffer → Buffer
patched_buffer at bytes b = record b { bytes = patched at bytes b.bytes; is_changed = true }

-- Block n is used, and these bytes are put at a place of it.
unfoldable pub changed : Cached → ℕ → ℕ → List ℕ → Cached
changed c n at bytes = with_first c n (patched_buffer at bytes (buffer_of c n))

-- a buffer that has not changed any more
abbrev pub unchanged : Buffer → Buffer
unchanged b = record b { is_changed = false }

-- The buffers that have changed are written to the disk. Each keeps its place.
unfoldable pub flushed : Cached → Cached
flushed c = record { disk = written c.buffers c.disk; buffers = map unchanged c.buffers }

-- how many buffers have a block
abbrev pub buffers_with : List Buffer → ℕ → ℕ
buffers_with buffers n = count_by (λ b. b.block == n) buffers

-- A buffer has a whole block. Where it has not changed, the disk has the same bytes.
pub record IsBuffer (disk : List (List ℕ)) (b : Buffer) : Type 0 where
  pub low : b.block < DISK_BLOCKS
  pub whole : length b.bytes ≡ BLOCK_SIZE
  pub same : b.is_changed ≡ false → b.bytes ≡ block_at disk b.block

-- There are fifteen buffers at most, and one of a block at most.
pub record IsCached (c : Cached) : Type 0 where
  pub disk : IsDisk c.disk
  pub few : length c.buffers ≤ 15
  pub once : (n : ℕ) → buffers_with c.buffers n ≤ 1
  pub each : All (IsBuffer c.disk) c.buffers
