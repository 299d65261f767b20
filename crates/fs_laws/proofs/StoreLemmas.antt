-- The store after one file has changed, and the bytes of one inode among those of a block.
use Rattle.std.proofs.Common.{◌≡◌, ◌≢◌, ◌+◌, ◌-◌, ◌*◌, ◌/◌, ◌%◌, ◌<◌, ◌≤◌, inl, inr, ℕ, zero, suc, false, List, ◌∷◌, ◌++◌, map, length, set, slice_set, slice_index, slice_range, take, drop, length-drop, length-append, ◌⊎◌, None, refl, sym, ap, ◌∙◌, arith}
use Rattle.std.proofs.lemmas.Bool.{cases_lt}
use Rattle.std.proofs.lemmas.Bool.Decides.{eqb_tells}
use Rattle.std.proofs.lemmas.List.{get_or-drop, get_or-take, length-take-le, same_lists, get_or_default, get_or_append_left, get_or-append_right}
use Rattle.std.specs.List.{range_with_len}
use Rattle.fs_codec.specs.Fields.{inode_of}
use Rattle.fs_codec.specs.Disk.{Disk, head, inode, inode_count, inode_numbers}
use Rattle.fs_codec.specs.Stands.{node_of, store_of}
use Rattle.buf_cache.specs.Blocks.{patched}
use Rattle.fs_laws.specs.Chain.{free}
use Rattle.fs_laws.specs.Whole.{IsWhole, ChangesFile}
use Rattle.fs_laws.proofs.FileLemmas.{other_node, same_inodes}

pub same_map : {X : Type 0} (f g : ℕ → X) (a n : ℕ) → ((j : ℕ) → a ≤ j → j < a + n → g j ≡ f j) → map g (range_with_len a n) ≡ map f (range_with_len a n)
same_map f g a zero same = refl
same_map f g a (suc n) same = ap (λ x. x ∷ map g (range_with_len (a + 1) n)) (same a (omega arith) (omega arith)) ∙ ap (λ l. f a ∷ l) (same_map f g (a + 1) n (λ j l h. same j (omega (arith, l)) (omega (arith, h))))

-- one element has changed
pub map_set : {X : Type 0} (f g : ℕ → X) (a n m : ℕ) → m < n → ((j : ℕ) → a ≤ j → j < a + n → j ≢ a + m → g j ≡ f j) → map g (range_with_len a n) ≡ set (map f (range_with_len a n)) m (g (a + m))
map_set f g a zero m h same = absurd (omega (arith, h))
map_set f g a (suc n) zero h same =
    ap (λ l. g a ∷ l) (same_map f g (a + 1) n (λ j l h. same j (omega (arith, l)) (omega (arith, h)) (λ is. absurd (omega (arith, is, l))))) ∙ ap (λ x. g x ∷ map f (range_with_len (a + 1) n)) (omega arith)
map_set f g a (suc n) (suc m) h same =
    ap (λ x. x ∷ map g (range_with_len (a + 1) n)) (same a (omega arith) (omega arith) (λ is. absurd (omega (arith, is))))
    ∙ ap (λ l. f a ∷ l) (map_set f g (a + 1) n m (omega (arith, h)) (λ j l h other. same j (omega (arith, l)) (omega (arith, h)) (λ is. other (omega (arith, is)))))
    ∙ ap (λ x. f a ∷ set (map f (range_with_len (a + 1) n)) m (g x)) (omega arith)

nodes_changed : (old new : Disk) (m : ℕ) → IsWhole old → ChangesFile old new (suc m) → suc m ≤ inode_count old
    → map (λ i. node_of new (inode new i)) (inode_numbers new) ≡ set (map (λ i. node_of old (inode old i)) (inode_numbers old)) m (node_of new (inode new (suc m)))
nodes_changed old new m w change high =
    ap (λ n. map (λ i. node_of new (inode new i)) (range_with_len 1 n)) (same_inodes old new change.zone)
    ∙ map_set (λ i. node_of old (inode old i)) (λ i. node_of new (inode new i)) 1 (inode_count old) m (omega (arith, high))
    (λ j l h other. other_node old new (suc m) j w change (omega arith) high l (omega (arith, h)) (λ is. other (omega (arith, is))))
    ∙ (let e : 1 + m ≡ suc m = omega arith in ap (λ i. set (map (λ i. node_of old (inode old i)) (inode_numbers old)) m (node_of new (inode new i))) e)

-- The store after one file has changed: its node, the room, and what the super-block says.
pub store_changed : (old new : Disk) (m : ℕ) → IsWhole old → ChangesFile old new (suc m) → suc m ≤ inode_count old
    → store_of new ≡ record {
      nodes = slice_set (store_of old).nodes (suc m) (node_of new (inode new (suc m)));
      count = (store_of old).count;
      room = length (free new);
      spare = take (head new).ninode (head new).inode;
      stamp = (head new).time;
      mark = false;
    }
unfolding store_of
store_changed old new m w change high i = record {
  nodes = None ∷ nodes_changed old new m w change high i;
  count = same_inodes old new change.zone i;
  room = length (free new);
  spare = take (head new).ninode (head new).inode;
  stamp = (head new).time;
  mark = false;
}

-- A part of a list that was patched.
front_long : (at : ℕ) (bytes block : List ℕ) → at + length bytes ≤ length block → length (take at block ++ bytes) ≡ at + length bytes
front_long at bytes block long = length-append (take at block) bytes ∙ ap (λ n. n + length bytes) (length-take-le at block (omega (arith, long)))

pub patched_at : (at : ℕ) (bytes block : List ℕ) (k : ℕ) → at + length bytes ≤ length block → k < length bytes → slice_index (patched at bytes block) (at + k) ≡ slice_index bytes k
patched_at at bytes block k long h =
    let same : at + k - at ≡ k = omega arith in
    get_or_append_left (take at block ++ bytes) (drop (at + length bytes) block) 0 (at + k) (let l = front_long at bytes block long in omega (arith, l, h))
    ∙ get_or-append_right (take at block) bytes at (at + k) 0 (length-take-le at block (omega (arith, long))) (omega arith) ∙ ap (slice_index bytes) same

pub patched_before : (at : ℕ) (bytes block : List ℕ) (k : ℕ) → at + length bytes ≤ length block → k < at → slice_index (patched at bytes block) k ≡ slice_index block k
patched_before at bytes block k long h =
    get_or_append_left (take at block ++ bytes) (drop (at + length bytes) block) 0 k (let l = front_long at bytes block long in omega (arith, l, h))
    ∙ get_or_append_left (take at block) bytes 0 k (let l = length-take-le at block (omega (arith, long)) in omega (arith, l, h)) ∙ get_or-take at block k 0 h

pub patched_after : (at : ℕ) (bytes block : List ℕ) (k : ℕ) → at + length bytes ≤ length block → at + length bytes ≤ k → slice_index (patched at bytes block) k ≡ slice_index block k
patched_after at bytes block k long h =
    let same : at + length bytes + (k - (at + length bytes)) ≡ k = omega (arith, h) in
    get_or-append_right (take at block ++ bytes) (drop (at + length bytes) block) (at + length bytes) k 0 (front_long at bytes block long) h
    ∙ get_or-drop (at + length bytes) block (k - (at + length bytes)) 0 ∙ ap (slice_index block) same

pub patched_long : (at : ℕ) (bytes block : List ℕ) → at + length bytes ≤ length block → length (patched at bytes block) ≡ length block
patched_long at bytes block long =
    let l = front_long at bytes block long in
    let d = length-drop (at + length bytes) block in
    length-append (take at block ++ bytes) (drop (at + length bytes) block) ∙ omega (arith, l, d, long)

-- a part that has 32 bytes
unfoldable pub part : List ℕ → ℕ → List ℕ
part block at = slice_range block at (at + 32)

pub part_long : (block : List ℕ) (at : ℕ) → at + 32 ≤ length block → length (part block at) ≡ 32
unfolding part
part_long block at h =
    let d = length-drop at block in let n : at + 32 - at ≡ 32 = omega arith in
    length-take-le (at + 32 - at) (drop at block) (omega (arith, d, h)) ∙ n

pub part_byte : (block : List ℕ) (at k : ℕ) → k < 32 → slice_index (part block at) k ≡ slice_index block (at + k)
unfolding part
part_byte block at k h = get_or-take (at + 32 - at) (drop at block) k 0 (omega (arith, h)) ∙ get_or-drop at block k 0

pub same_parts : (xs ys : List ℕ) (n : ℕ) → length xs ≡ n → length ys ≡ n → ((k : ℕ) → k < n → slice_index xs k ≡ slice_index ys k) → xs ≡ ys
same_parts xs ys n long long' each = same_lists xs ys (long ∙ sym long') (λ k d h. get_or_default xs k d 0 h ∙ each k (omega (arith, h, long)) ∙ get_or_default ys k 0 d (omega (arith, h, long, long')))

part_here : (at : ℕ) (bytes block : List ℕ) → length bytes ≡ 32 → at + 32 ≤ length block → part (patched at bytes block) at ≡ bytes
part_here at bytes block size long =
    let fits : at + length bytes ≤ length block = omega (arith, size, long) in
    same_parts (part (patched at bytes block) at) bytes 32 (part_long (patched at bytes block) at (let l = patched_long at bytes block fits in omega (arith, l, long))) size
    (λ k h. part_byte (patched at bytes block) at k h ∙ patched_at at bytes block k fits (omega (arith, h, size)))

part_there : (at there : ℕ) (bytes block : List ℕ) → length bytes ≡ 32 → at + 32 ≤ length block → there + 32 ≤ length block → (there + 32 ≤ at) ⊎ (at + 32 ≤ there) → part (patched at bytes block) there ≡ part block there
part_there at there bytes block size long long' apart =
    let fits : at + length bytes ≤ length block = omega (arith, size, long) in
    same_parts (part (patched at bytes block) there) (part block there) 32 (part_long (patched at bytes block) there (let l = patched_long at bytes block fits in omega (arith, l, long'))) (part_long block there long')
    (λ k h. part_byte (patched at bytes block) there k h ∙ elim apart [
      | inl low ↦ patched_before at bytes block (there + k) fits (omega (arith, low, h))
      | inr high ↦ patched_after at bytes block (there + k) fits (omega (arith, high, h, size))
    ] ∙ sym (part_byte block there k h))

pub other_place : (i j : ℕ) → j ≢ i → 1 ≤ i → 1 ≤ j → (i + 31) / 16 ≡ (j + 31) / 16 → (32 * ((j + 31) % 16) + 32 ≤ 32 * ((i + 31) % 16)) ⊎ (32 * ((i + 31) % 16) + 32 ≤ 32 * ((j + 31) % 16))
other_place i j other low low' same = elim (cases_lt ((j + 31) % 16) ((i + 31) % 16)) [
  | inl h ↦ inl (omega (arith, h))
  | inr h ↦ elim (cases_lt ((i + 31) % 16) ((j + 31) % 16)) [
    | inl g ↦ inr (omega (arith, g))
    | inr g ↦ absurd (other (omega (arith, g, h, same)))
  ]
]

-- One inode is written: it reads as these bytes, and the other inodes as before.
pub inode_written : (old new : Disk) (i : ℕ) (bytes : List ℕ) → length bytes ≡ 32 → length (old ((i + 31) / 16)) ≡ 512 → new ((i + 31) / 16) ≡ patched (32 * ((i + 31) % 16)) bytes (old ((i + 31) / 16)) → inode new i ≡ inode_of bytes
unfolding part
inode_written old new i bytes size long is =
    ap inode_of (ap (λ l. slice_range l (32 * ((i + 31) % 16)) (32 * ((i + 31) % 16) + 32)) is ∙ part_here (32 * ((i + 31) % 16)) bytes (old ((i + 31) / 16)) size (omega (arith, long)))

pub other_inode : (old new : Disk) (i j : ℕ) (bytes : List ℕ) → length bytes ≡ 32 → length (old ((i + 31) / 16)) ≡ 512 → new ((i + 31) / 16) ≡ patched (32 * ((i + 31) % 16)) bytes (old ((i + 31) / 16))
    → ((k : ℕ) → k ≢ (i + 31) / 16 → new k ≡ old k) → 1 ≤ i → 1 ≤ j → j ≢ i → inode new j ≡ inode old j
unfolding part
other_inode old new i j bytes size long is others low low' other = elim (eqb_tells ((j + 31) / 16) ((i + 31) / 16)) [
  | inl e ↦
      let there : ℕ = 32 * ((j + 31) % 16) in
      let same = e.1 in
      let here : new ((j + 31) / 16) ≡ patched (32 * ((i + 31) % 16)) bytes (old ((i + 31) / 16)) = ap new same ∙ is in
      ap inode_of (ap (λ l. slice_range l (32 * ((j + 31) % 16)) (32 * ((j + 31) % 16) + 32)) here
      ∙ part_there (32 * ((i + 31) % 16)) (32 * ((j + 31) % 16)) bytes (old ((i + 31) / 16)) size (omega (arith, long)) (omega (arith, long)) (other_place i j other low low' (sym same))
      ∙ ap (λ b. slice_range (old b) (32 * ((j + 31) % 16)) (32 * ((j + 31) % 16) + 32)) (sym same))
  | inr e ↦ ap (λ l. inode_of (slice_range l (32 * ((j + 31) % 16)) (32 * ((j + 31) % 16) + 32))) (others ((j + 31) / 16) e.1)
]
