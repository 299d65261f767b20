-- The buffers of a cache as they lie in memory: fifteen slots of bytes, and heads that stand in order.
use Rattle.std.specs.Prelude.{◌≡◌, ℕ, ◌<◌, ◌≤◌, ◌==◌, true, false, List, [], ◌∷◌, length, map, count_by}
use Rattle.std.specs.List.{All}
use Rattle.buf_cache.specs.Blocks.{block_at}
use Rattle.buf_cache.specs.Cached.{Buffer, Cached, written, IsCached}
use Rattle.buf_cache.specs.declared.cache.Head.{Head}

-- a head with the bytes of its slot
abbrev pub buffer_in : List (List ℕ) → Head → Buffer
buffer_in slots head = record { block = head.block; bytes = block_at slots head.slot; is_changed = head.is_changed }

-- the cache that these are
abbrev pub cached_in : List (List ℕ) → List (List ℕ) → List Head → Cached
cached_in disk slots heads = record { disk = disk; buffers = map (buffer_in slots) heads }

-- how many heads have a slot
abbrev pub heads_with : List Head → ℕ → ℕ
heads_with heads s = count_by (λ h. h.slot == s) heads

-- how many heads have a block
abbrev pub blocks_with : List Head → ℕ → ℕ
blocks_with heads n = count_by (λ h. h.block == n) heads

-- a disk to which the block of a head is written if it has changed
abbrev pub written_head : List (List ℕ) → Head → List (List ℕ) → List (List ℕ)
written_head slots head disk = written (buffer_in slots head ∷ []) disk

-- a head whose block has not changed any more
abbrev pub clean : Head → Head
clean head = record head { is_changed = false }

-- a head whose block has changed
abbrev pub dirty : Head → Head
dirty head = record head { is_changed = true }

-- The slots that are taken come first, and each is one head's.
pub record IsSlots (slots : List (List ℕ)) (heads : List Head) : Type 0 where
  pub count : length slots ≡ 15
  pub low : All (λ h. h.slot < length heads) heads
  pub once : (s : ℕ) → heads_with heads s ≤ 1

-- what holds of them between calls
pub record IsKept (disk slots : List (List ℕ)) (heads : List Head) : Type 0 where
  pub cached : IsCached (cached_in disk slots heads)
  pub placed : IsSlots slots heads
