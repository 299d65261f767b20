-- A cache stands for one list of blocks, whichever of them are in buffers.
use Rattle.std.proofs.Common.{◌≡◌, ◌≢◌, ◌⊎◌, ℕ, zero, suc, ◌+◌, ◌<◌, ◌≤◌, ◌==◌, inl, inr, true, false, not, List, [], length, map, take, drop, get_or, set, length-set, length-append, length-drop, ◌++◌, length-take, get_or-set_same, get_or-set_other, refl, sym, ap, ◌∙◌, arith}
use Rattle.std.proofs.lemmas.Bool.Decides.{eqb_tells}
use Rattle.std.proofs.lemmas.List.Sums.{get_or-le-sum_by}
use Rattle.std.proofs.lemmas.List.{length-map, same_lists, get_or_default}
use Rattle.std.proofs.lemmas.List.Elements.{recursion_from_All, All-weaker, All-cons, All-take, All-drop, All-filter, All-map}
use Rattle.std.proofs.lemmas.List.FromFn.{length-map-range_with_len, get_or-map-range_with_len}
use Rattle.std.specs.List.{range_with_len, All, AllByRecursion}
use Rattle.fs_codec.specs.declared.layout.TheConstants.{BLOCK_SIZE, DISK_BLOCKS}
use Rattle.buf_cache.specs.Blocks.{block_at, patched, IsDisk, WritesLate}
use Rattle.buf_cache.specs.Cached.{Buffer, Cached, find_buffer, fresh, buffer_of, cached_blocks, others_of, written, with_first, used, patched_buffer, changed, unchanged, flushed, buffers_with, IsBuffer, IsCached}
use Rattle.buf_cache.proofs.BufferLemmas.{one, with_here, with_other, found_none, found_here, found_behind, found_at, found_is, found_block, found_others, others_with_same, others_with, with_parts, written_length, written_other, Has, written_at, evicted_at, unchanged_with, unchanged_at}

-- the bytes of a block
abbrev bytes_of : Cached → ℕ → List ℕ
bytes_of c n = (buffer_of c n).bytes

pub block_is : (c : Cached) (n : ℕ) → n < DISK_BLOCKS → block_at (cached_blocks c) n ≡ bytes_of c n
unfolding cached_blocks
block_is c n low = get_or-map-range_with_len (bytes_of c) 0 DISK_BLOCKS n n [] low (omega arith)

blocks_long : (c : Cached) → length (cached_blocks c) ≡ DISK_BLOCKS
unfolding cached_blocks
blocks_long c = length-map-range_with_len (bytes_of c) 0 DISK_BLOCKS

-- two caches in which each block has the same bytes
same_blocks : (old new : Cached) → ((n : ℕ) → bytes_of new n ≡ bytes_of old n) → cached_blocks new ≡ cached_blocks old
unfolding cached_blocks
same_blocks old new same = λ j. map (λ n. same n j) (range_with_len 0 DISK_BLOCKS)

has_of : (disk : List (List ℕ)) (k : ℕ) (b : Buffer) → length disk ≡ DISK_BLOCKS → IsBuffer disk b → Has (length disk) k (block_at disk k) b
has_of disk k b count is = record {
  low = λ e. (let low = is.low in omega (arith, count, e, low));
  same = λ e f. is.same f ∙ ap (block_at disk) e;
}

-- the buffer of a block
fresh_is : (disk : List (List ℕ)) (n : ℕ) → IsDisk disk → n < DISK_BLOCKS → IsBuffer disk (fresh n (block_at disk n))
fresh_is disk n is low = record { low = low; whole = is.whole n low; same = λ f. refl }

pub buffer_is : (c : Cached) (n : ℕ) → IsCached c → n < DISK_BLOCKS → IsBuffer c.disk (buffer_of c n)
buffer_is c n is low =
    found_is (IsBuffer c.disk) c.buffers n (fresh n (block_at c.disk n)) (recursion_from_All (IsBuffer c.disk) c.buffers is.each) (fresh_is c.disk n is.disk low)

pub buffer_block : (c : Cached) (n : ℕ) → (buffer_of c n).block ≡ n
buffer_block c n = found_block c.buffers n (fresh n (block_at c.disk n)) refl

pub blocks_are_disk : (c : Cached) → IsCached c → IsDisk (cached_blocks c)
blocks_are_disk c is = record {
  count = blocks_long c;
  whole = λ n low. ap length (block_is c n low) ∙ (buffer_is c n is low).whole;
}

-- A buffer comes to the front: its block has its bytes, and each other block what it had.
first_here : (c : Cached) (n : ℕ) (b : Buffer) → b.block ≡ n → bytes_of (with_first c n b) n ≡ b.bytes
first_here c n b is = elim (eqb_tells b.block n) [
  | inl h ↦ ap (λ (x : Buffer). x.bytes) (found_here b (take 14 (others_of c.buffers n)) n (fresh n (block_at (written (drop 14 (others_of c.buffers n)) c.disk) n)) h.0)
  | inr h ↦ absurd (h.1 is)
]

others_have : (c : Cached) (n k : ℕ) → IsCached c → AllByRecursion (Has (length c.disk) k (block_at c.disk k)) (others_of c.buffers n)
others_have c n k is =
    recursion_from_All (Has (length c.disk) k (block_at c.disk k)) (others_of c.buffers n)
    (All-filter (λ (b : Buffer). not (b.block == n)) (Has (length c.disk) k (block_at c.disk k)) c.buffers
    (All-weaker (IsBuffer c.disk) (Has (length c.disk) k (block_at c.disk k)) (λ b h. has_of c.disk k b is.disk.count h) c.buffers is.each))

others_once : (c : Cached) (n k : ℕ) → IsCached c → buffers_with (others_of c.buffers n) k ≤ 1
others_once c n k is = let o = is.once k in let l = others_with c.buffers n k in omega (arith, o, l)

first_other : (c : Cached) (n k : ℕ) (b : Buffer) → IsCached c → b.block ≡ n → k ≢ n → bytes_of (with_first c n b) k ≡ bytes_of c k
first_other c n k b is here other =
    let test : (b.block == k) ≡ false = elim (eqb_tells b.block k) [ inl g ↦ absurd (other (sym g.1 ∙ here)) | inr g ↦ g.0 ] in
    ap (λ (x : Buffer). x.bytes) (found_behind b (take 14 (others_of c.buffers n)) k (fresh k (block_at (written (drop 14 (others_of c.buffers n)) c.disk) k)) test)
    ∙ evicted_at 14 (others_of c.buffers n) c.disk k (others_have c n k is) (others_once c n k is)
    ∙ ap (λ (x : Buffer). x.bytes) (found_others c.buffers n k (fresh k (block_at c.disk k)) other)

-- a block that is used
pub used_blocks : (c : Cached) (n : ℕ) → IsCached c → cached_blocks (used c n) ≡ cached_blocks c
unfolding used
used_blocks c n is = same_blocks c (with_first c n (buffer_of c n)) (λ k. elim (eqb_tells k n) [
  | inl h ↦
      ap (bytes_of (with_first c n (buffer_of c n))) h.1 ∙ first_here c n (buffer_of c n) (buffer_block c n) ∙ ap (bytes_of c) (sym h.1)
  | inr h ↦ first_other c n k (buffer_of c n) is (buffer_block c n) h.1
])

first_set : (c : Cached) (n : ℕ) (b : Buffer) → IsCached c → b.block ≡ n → n < DISK_BLOCKS → cached_blocks (with_first c n b) ≡ set (cached_blocks c) n b.bytes
first_set c n b is here low =
    let long = blocks_long c in
    let long' = length-set (cached_blocks c) n b.bytes in
    same_lists (cached_blocks (with_first c n b)) (set (cached_blocks c) n b.bytes) (blocks_long (with_first c n b) ∙ sym (long' ∙ long)) (λ k d low'.
    let high : k < DISK_BLOCKS = (let l = blocks_long (with_first c n b) in omega (arith, l, low')) in
    let from : get_or (cached_blocks (with_first c n b)) k d ≡ bytes_of (with_first c n b) k = get_or_default (cached_blocks (with_first c n b)) k d [] low' ∙ block_is (with_first c n b) k high in
    elim (eqb_tells k n) [
      | inl h ↦
          from ∙ ap (bytes_of (with_first c n b)) h.1 ∙ first_here c n b here
          ∙ sym (ap (λ i. get_or (set (cached_blocks c) n b.bytes) i d) h.1 ∙ get_or-set_same (cached_blocks c) n b.bytes d (omega (arith, long, low)))
      | inr h ↦
          from ∙ first_other c n k b is here h.1
          ∙ sym (get_or-set_other (cached_blocks c) n k b.bytes d h.1 ∙ get_or_default (cached_blocks c) k d [] (omega (arith, long, high)) ∙ block_is c k high)
    ])

-- a block that has other bytes at a place
pub changed_blocks : (c : Cached) (n at : ℕ) (bytes : List ℕ) → IsCached c → n < DISK_BLOCKS
    → cached_blocks (changed c n at bytes) ≡ set (cached_blocks c) n (patched at bytes (block_at (cached_blocks c) n))
unfolding changed
changed_blocks c n at bytes is low =
    first_set c n (patched_buffer at bytes (buffer_of c n)) is (buffer_block c n) low
    ∙ ap (λ l. set (cached_blocks c) n (patched at bytes l)) (sym (block_is c n low))

-- What is written to a disk leaves a disk.
list_has : (bs : List Buffer) (disk : List (List ℕ)) (k : ℕ) → IsDisk disk → All (IsBuffer disk) bs → AllByRecursion (Has (length disk) k (block_at disk k)) bs
list_has bs disk k is all =
    recursion_from_All (Has (length disk) k (block_at disk k)) bs
    (All-weaker (IsBuffer disk) (Has (length disk) k (block_at disk k)) (λ b h. has_of disk k b is.count h) bs all)

list_at : (bs : List Buffer) (disk : List (List ℕ)) (k : ℕ) → IsDisk disk → All (IsBuffer disk) bs → buffers_with bs k ≤ 1 → block_at (written bs disk) k ≡ (find_buffer bs k (fresh k (block_at disk k))).bytes
list_at bs disk k is all once = written_at bs disk (length disk) k (block_at disk k) refl refl (list_has bs disk k is all) once

written_disk : (bs : List Buffer) (disk : List (List ℕ)) → IsDisk disk → All (IsBuffer disk) bs → ((k : ℕ) → buffers_with bs k ≤ 1) → IsDisk (written bs disk)
written_disk bs disk is all once = record {
  count = written_length bs disk ∙ is.count;
  whole = λ n low. ap length (list_at bs disk n is all (once n))
      ∙ (found_is (IsBuffer disk) bs n (fresh n (block_at disk n)) (recursion_from_All (IsBuffer disk) bs all) (fresh_is disk n is low)).whole;
}

-- a buffer over a disk that has its block as it was
buffer_over : (disk new : List (List ℕ)) (b : Buffer) → block_at new b.block ≡ block_at disk b.block → IsBuffer disk b → IsBuffer new b
buffer_over disk new b same is = record { low = is.low; whole = is.whole; same = λ f. is.same f ∙ sym same }

-- A buffer that is kept has another block than each that is written.
kept_other : (os : List Buffer) (m j : ℕ) (d : Buffer) → ((k : ℕ) → buffers_with os k ≤ 1) → j < length (take m os) → buffers_with (drop m os) (get_or (take m os) j d).block ≡ 0
kept_other os m j d once low =
    let part = get_or-le-sum_by (λ (x : Buffer). one (x.block == (get_or (take m os) j d).block)) (take m os) j d low in
    let test : one ((get_or (take m os) j d).block == (get_or (take m os) j d).block) ≡ 1 = elim (eqb_tells (get_or (take m os) j d).block (get_or (take m os) j d).block) [ inl h ↦ ap one h.0 | inr h ↦ absurd (h.1 refl) ] in
    let both = with_parts os m (get_or (take m os) j d).block in
    let o = once (get_or (take m os) j d).block in
    omega (arith, part, test, both, o)

-- A buffer comes to the front.
pub first_is : (c : Cached) (n : ℕ) (b : Buffer) → IsCached c → b.block ≡ n → IsBuffer c.disk b → IsCached (with_first c n b)
first_is c n b is here first =
    let os : List Buffer = others_of c.buffers n in
    let all : All (IsBuffer c.disk) os = All-filter (λ (x : Buffer). not (x.block == n)) (IsBuffer c.disk) c.buffers is.each in
    let once : (k : ℕ) → buffers_with os k ≤ 1 = λ k. others_once c n k is in
    let none : (m : ℕ) → buffers_with (take m os) n + buffers_with (drop m os) n ≡ 0 = λ m. with_parts os m n ∙ others_with_same c.buffers n in
    record {
      disk = written_disk (drop 14 os) c.disk is.disk (All-drop (IsBuffer c.disk) 14 os all) (λ k. (let p = with_parts os 14 k in let o = once k in omega (arith, p, o)));
      few = (let l = length-take 14 os in omega (arith, l));
      once = λ k. elim (eqb_tells b.block k) [
        | inl h ↦
            let w = with_here b (take 14 os) k h.0 in
            let e : buffers_with (take 14 os) k ≡ buffers_with (take 14 os) n = ap (buffers_with (take 14 os)) (sym h.1 ∙ here) in
            let z = none 14 in
            omega (arith, w, e, z)
        | inr h ↦
            let w = with_other b (take 14 os) k h.0 in
            let p = with_parts os 14 k in
            let o = once k in
            omega (arith, w, p, o)
      ];
      each = All-cons (IsBuffer (written (drop 14 os) c.disk)) b (take 14 os)
          (buffer_over c.disk (written (drop 14 os) c.disk) b
          (written_other (drop 14 os) c.disk b.block (let z = none 14 in let e : buffers_with (drop 14 os) b.block ≡ buffers_with (drop 14 os) n = ap (buffers_with (drop 14 os)) here in omega (arith, z, e))) first)
          (λ j d low. buffer_over c.disk (written (drop 14 os) c.disk) (get_or (take 14 os) j d)
          (written_other (drop 14 os) c.disk (get_or (take 14 os) j d).block (kept_other os 14 j d once low)) (All-take (IsBuffer c.disk) 14 os all j d low));
    }

-- The changed buffers are written to the disk, which has each block then.
pub flushed_blocks : (c : Cached) → IsCached c → cached_blocks (flushed c) ≡ cached_blocks c
unfolding flushed
flushed_blocks c is = same_blocks c (record { disk = written c.buffers c.disk; buffers = map unchanged c.buffers }) (λ k.
    unchanged_at c.buffers k (fresh k (block_at (written c.buffers c.disk) k)) (fresh k (block_at c.disk k)) (list_at c.buffers c.disk k is.disk is.each (is.once k)))

pub flushed_disk : (c : Cached) → IsCached c → (flushed c).disk ≡ cached_blocks c
unfolding flushed
flushed_disk c is =
    let long = written_length c.buffers c.disk in
    let count = is.disk.count in
    let blocks = blocks_long c in
    same_lists (written c.buffers c.disk) (cached_blocks c) (long ∙ count ∙ sym blocks) (λ k d low.
    let high : k < DISK_BLOCKS = omega (arith, long, count, low) in
    get_or_default (written c.buffers c.disk) k d [] low ∙ list_at c.buffers c.disk k is.disk is.each (is.once k)
    ∙ sym (block_is c k high) ∙ get_or_default (cached_blocks c) k [] d (omega (arith, blocks, high)))

pub flushed_is : (c : Cached) → IsCached c → IsCached (flushed c)
unfolding flushed
flushed_is c is = record {
  disk = written_disk c.buffers c.disk is.disk is.each is.once;
  few = (let l = length-map c.buffers unchanged in let f = is.few in omega (arith, l, f));
  once = λ k. (let u = unchanged_with c.buffers k in let o = is.once k in omega (arith, u, o));
  each = All-map (IsBuffer (written c.buffers c.disk)) unchanged c.buffers (λ j d low. record {
    low = (is.each j d low).low;
    whole = (is.each j d low).whole;
    same = λ f. sym (list_at c.buffers c.disk (get_or c.buffers j d).block is.disk is.each (is.once (get_or c.buffers j d).block)
        ∙ ap (λ (x : Buffer). x.bytes) (found_at c.buffers j (get_or c.buffers j d).block d (fresh (get_or c.buffers j d).block (block_at c.disk (get_or c.buffers j d).block)) low refl (is.once (get_or c.buffers j d).block)));
  });
}

-- What the disk has of a block where another buffer comes to the front: the buffer that goes had it, or it is what it was.
late : (c : Cached) (n k m : ℕ) → IsCached c → k < DISK_BLOCKS → buffers_with (take 14 (others_of c.buffers n)) k ≡ m
    → (block_at (written (drop 14 (others_of c.buffers n)) c.disk) k ≡ block_at c.disk k)
    ⊎ (block_at (written (drop 14 (others_of c.buffers n)) c.disk) k ≡ block_at (cached_blocks c) k)
late c n k (suc m) is low some =
    let p = with_parts (others_of c.buffers n) 14 k in
    let o = others_once c n k is in
    inl (written_other (drop 14 (others_of c.buffers n)) c.disk k (omega (arith, p, o, some)))
late c n k zero is low none =
    let os : List Buffer = others_of c.buffers n in
    let after : List ℕ = block_at (written (drop 14 os) c.disk) k in
    elim (eqb_tells k n) [
      | inl h ↦
          let p = with_parts os 14 k in
          let z : buffers_with os k ≡ 0 = ap (buffers_with os) h.1 ∙ others_with_same c.buffers n in
          inl (written_other (drop 14 os) c.disk k (omega (arith, p, z)))
      | inr h ↦
          inr (ap (λ (x : Buffer). x.bytes) (sym (found_none (take 14 os) k (fresh k after) none))
          ∙ evicted_at 14 os c.disk k (others_have c n k is) (others_once c n k is)
          ∙ ap (λ (x : Buffer). x.bytes) (found_others c.buffers n k (fresh k (block_at c.disk k)) h.1)
          ∙ sym (block_is c k low))
    ]

first_late : (c : Cached) (n : ℕ) (b : Buffer) → IsCached c → WritesLate c.disk (cached_blocks c) (with_first c n b).disk
first_late c n b is = record { count = written_length (drop 14 (others_of c.buffers n)) c.disk; each = λ k low. late c n k _ is low refl }

pub used_late : (c : Cached) (n : ℕ) → IsCached c → WritesLate c.disk (cached_blocks c) (used c n).disk
unfolding used
used_late c n is = first_late c n (buffer_of c n) is

pub changed_late : (c : Cached) (n at : ℕ) (bytes : List ℕ) → IsCached c → WritesLate c.disk (cached_blocks c) (changed c n at bytes).disk
unfolding changed
changed_late c n at bytes is = first_late c n (patched_buffer at bytes (buffer_of c n)) is

-- no block is in a buffer
pub new_blocks : (disk : List (List ℕ)) → IsDisk disk → cached_blocks (record { disk = disk; buffers = [] }) ≡ disk
new_blocks disk is =
    let c : Cached = record { disk = disk; buffers = [] } in
    let blocks = blocks_long c in
    let count = is.count in
    same_lists (cached_blocks c) disk (blocks ∙ sym count) (λ k d low.
    get_or_default (cached_blocks c) k d [] low ∙ block_is c k (omega (arith, blocks, low)) ∙ get_or_default disk k [] d (omega (arith, count, blocks, low)))

patched_long : (at : ℕ) (bytes block : List ℕ) → length block ≡ BLOCK_SIZE → at + length bytes ≤ BLOCK_SIZE → length (patched at bytes block) ≡ BLOCK_SIZE
patched_long at bytes block long within =
    let a = length-append (take at block ++ bytes) (drop (at + length bytes) block) in
    let b = length-append (take at block) bytes in
    let c = length-take at block in
    let d = length-drop (at + length bytes) block in
    omega (arith, a, b, c, d, long, within)

-- What has changed stays a cache.
pub changed_is : (c : Cached) (n at : ℕ) (bytes : List ℕ) → IsCached c → n < DISK_BLOCKS → at + length bytes ≤ BLOCK_SIZE → IsCached (changed c n at bytes)
unfolding changed
changed_is c n at bytes is low within =
    let b = buffer_is c n is low in
    first_is c n (patched_buffer at bytes (buffer_of c n)) is (buffer_block c n)
    (record { low = b.low; whole = patched_long at bytes (buffer_of c n).bytes b.whole within; same = λ f. (let e : true ≡ false = f in cc) })
