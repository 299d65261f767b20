-- The body of a file of which bytes of one data block are written.
use Rattle.std.proofs.Common.{◌≡◌, ◌≢◌, ◌+◌, ◌-◌, ◌*◌, ◌/◌, ◌%◌, ◌<◌, ◌≤◌, ◌==◌, ◌&&◌, inl, inr, ℕ, zero, suc, Bool, true, false, not, cond, List, ◌∷◌, ◌++◌, map, length, take, drop, slice_index, slice_range, replicate, nat_eq, nat_lt, refl, sym, ap, ◌∙◌, subst, arith, length-drop}
use Rattle.std.proofs.lemmas.Bool.{cases_lt, ne_eqb}
use Rattle.std.proofs.lemmas.Bool.Decides.{eqb_tells}
use Rattle.std.proofs.lemmas.List.{get_or-drop, get_or-take, length-take-le}
use Rattle.std.specs.List.{count_by, flat_map, range_with_len}
use Rattle.fs_codec.specs.Modes.{is_large, holds_blocks}
use Rattle.fs_codec.specs.Fields.{Inode, super_of}
use Rattle.fs_codec.specs.Disk.{Disk, is_data}
use Rattle.fs_codec.specs.Held.{entries, in_indirect, in_double, indirect_at, address, addresses}
use Rattle.fs_codec.specs.Stands.{name_of, is_held, held_of, one_past, data_of, body_of}
use Rattle.bmap_path.specs.declared.BlockName.{BlockName}
use Rattle.bmap_path.specs.declared.BlockName.TheVariants.{Data, Ind, Dbl}
use Rattle.buf_cache.specs.Blocks.{patched}
use Rattle.fs_codec.proofs.CountLemmas.{count-append}
use Rattle.fs_laws.specs.Chain.{SameZone}
use Rattle.fs_laws.specs.Tree.{indirects}
use Rattle.fs_laws.proofs.FreeLemmas.{each_in, data_some, same_data}
use Rattle.fs_laws.proofs.PlacesLemmas.{counted_at}
use Rattle.fs_laws.proofs.HeldLemmas.{SameData, flat_same, entries_kept}
use Rattle.fs_laws.proofs.TreeLemmas.{indirect_is}
use Rattle.fs_laws.proofs.BodyLemmas.{data_long, body_long, body_byte, below_past}
use Rattle.fs_laws.proofs.StoreLemmas.{patched_at, patched_before, patched_after, patched_long, same_parts}
use Rattle.fs_laws.specs.Block.{IsBlock}
use Rattle.fs_laws.proofs.PiecePlaces.{block_zone, one_number, no_indirect, data_counted}

-- Bytes are written into data block n of a file, which is block b, and nothing else changes.
pub record Overwrites (old new : Disk) (node : Inode) (n b at : ℕ) (bytes : List ℕ) : Type 0 where
  pub block : IsBlock old node n b
  pub holds : holds_blocks node.mode ≡ true
  pub high : n < 67328
  pub whole : (k : ℕ) → is_data old k ≡ true → length (old k) ≡ 512
  pub fits : at + length bytes ≤ 512
  pub here : new b ≡ patched at bytes (old b)
  pub others : (k : ℕ) → k ≢ b → new k ≡ old k

pub over_zone : (old new : Disk) (node : Inode) (n b at : ℕ) (bytes : List ℕ) → Overwrites old new node n b at bytes → SameZone old new
over_zone old new node n b at bytes o =
    let super : new 1 ≡ old 1 = o.others 1 (λ e. (data_some old b (block_zone old node n b o.block)).1 (sym e)) in
    record { i_size = ap (λ l. (super_of l).i_size) super; f_size = ap (λ l. (super_of l).f_size) super }

over_data : (old new : Disk) (node : Inode) (n b at : ℕ) (bytes : List ℕ) → Overwrites old new node n b at bytes → SameData old new
over_data old new node n b at bytes o = same_data old new (over_zone old new node n b at bytes o)

over_entries : (old new : Disk) (node : Inode) (n b at : ℕ) (bytes : List ℕ) → Overwrites old new node n b at bytes → (x : ℕ) → x ≢ b → entries new x ≡ entries old x
over_entries old new node n b at bytes o x other = entries_kept old new x (over_data old new node n b at bytes o) (λ some. o.others x other)

over_far : (old new : Disk) (node : Inode) (n b at : ℕ) (bytes : List ℕ) → Overwrites old new node n b at bytes → is_large node.mode ≡ true → entries new (slice_index node.addr 7) ≡ entries old (slice_index node.addr 7)
over_far old new node n b at bytes o large = over_entries old new node n b at bytes o (slice_index node.addr 7) (no_indirect old node n b o.block large).1

over_indirect : (old new : Disk) (node : Inode) (n b at : ℕ) (bytes : List ℕ) → Overwrites old new node n b at bytes → is_large node.mode ≡ true → (k : ℕ) → indirect_at new node k ≡ indirect_at old node k
over_indirect old new node n b at bytes o large k = ap (λ l. cond (nat_lt k 7) (slice_index node.addr k) (slice_index l (k - 7))) (over_far old new node n b at bytes o large)

-- each name keeps its block
pub over_address : (old new : Disk) (node : Inode) (n b at : ℕ) (bytes : List ℕ) → Overwrites old new node n b at bytes → (q : BlockName) → address new node q ≡ address old node q
over_address old new node n b at bytes o (Data m) = by (is_large node.mode) refl where
  by : (t : Bool) → is_large node.mode ≡ t
      → cond t (slice_index (entries new (indirect_at new node (m / 256))) (m % 256)) (slice_index node.addr m) ≡ cond t (slice_index (entries old (indirect_at old node (m / 256))) (m % 256)) (slice_index node.addr m)
  by true large =
      let none = (no_indirect old node n b o.block large).0 in
      ap (λ x. slice_index (entries new x) (m % 256)) (over_indirect old new node n b at bytes o large (m / 256))
      ∙ ap (λ l. slice_index l (m % 256)) (over_entries old new node n b at bytes o (indirect_at old node (m / 256)) (λ e.
      let c = counted_at (indirects old node) (m / 256) b (sym (indirect_is old node (m / 256) o.block.long) ∙ e) o.block.some in absurd (omega (arith, c, none))))
  by false small = refl
over_address old new node n b at bytes o (Ind k) = by (is_large node.mode) refl where
  by : (t : Bool) → is_large node.mode ≡ t → cond t (indirect_at new node k) 0 ≡ cond t (indirect_at old node k) 0
  by true large = over_indirect old new node n b at bytes o large k
  by false small = refl
over_address old new node n b at bytes o Dbl = refl

in_same : (old new : Disk) (b : ℕ) (xs : List ℕ) → ((x : ℕ) → x ≢ b → entries new x ≡ entries old x) → count_by (nat_eq b) xs ≡ 0 → flat_map (in_indirect new) xs ≡ flat_map (in_indirect old) xs
in_same old new b xs same none =
    flat_same (in_indirect old) (in_indirect new) xs (each_in (λ x. in_indirect new x ≡ in_indirect old x) xs (λ x comes. ap (λ l. x ∷ l) (same x (λ e.
    let P : ℕ → Type 0 = λ y. 1 ≤ count_by (nat_eq y) xs in let c : 1 ≤ count_by (nat_eq b) xs = subst P e comes in absurd (omega (arith, c, none))))))

pub over_addresses : (old new : Disk) (node : Inode) (n b at : ℕ) (bytes : List ℕ) → Overwrites old new node n b at bytes → addresses new node ≡ addresses old node
over_addresses old new node n b at bytes o = by (is_large node.mode) refl where
  by : (t : Bool) → is_large node.mode ≡ t
      → cond t (flat_map (in_indirect new) (take 7 node.addr) ++ in_double new (slice_index node.addr 7)) node.addr ≡ cond t (flat_map (in_indirect old) (take 7 node.addr) ++ in_double old (slice_index node.addr 7)) node.addr
  by true large =
      let none = (no_indirect old node n b o.block large).0 in
      let parts = count-append b (take 7 node.addr) (entries old (slice_index node.addr 7)) in
      let same = over_entries old new node n b at bytes o in
      ap (λ l. l ++ in_double new (slice_index node.addr 7)) (in_same old new b (take 7 node.addr) same (omega (arith, none, parts)))
      ∙ ap (λ l. flat_map (in_indirect old) (take 7 node.addr) ++ slice_index node.addr 7 ∷ flat_map (in_indirect new) l) (over_far old new node n b at bytes o large)
      ∙ ap (λ l. flat_map (in_indirect old) (take 7 node.addr) ++ slice_index node.addr 7 ∷ l) (in_same old new b (entries old (slice_index node.addr 7)) same (omega (arith, none, parts)))
  by false small = refl

over_held_name : (old new : Disk) (node : Inode) (n b at : ℕ) (bytes : List ℕ) → Overwrites old new node n b at bytes → (q : BlockName) → is_held new node q ≡ is_held old node q
over_held_name old new node n b at bytes o q = ap (λ a. holds_blocks node.mode && not (a == 0)) (over_address old new node n b at bytes o q)

pub over_held : (old new : Disk) (node : Inode) (n b at : ℕ) (bytes : List ℕ) → Overwrites old new node n b at bytes → held_of new node ≡ held_of old node
unfolding held_of
over_held old new node n b at bytes o i = map (λ r. over_held_name old new node n b at bytes o (name_of r) i) (range_with_len 0 67592)

over_end : (old new : Disk) (node : Inode) (n b at : ℕ) (bytes : List ℕ) → Overwrites old new node n b at bytes → one_past (λ n. is_held new node (Data n)) 67328 ≡ one_past (λ n. is_held old node (Data n)) 67328
over_end old new node n b at bytes o i = one_past (λ m. over_held_name old new node n b at bytes o (Data m) i) 67328

-- Where a disk's data blocks are whole, so are those of a file.
pub file_long : (disk : Disk) (node : Inode) → length node.addr ≡ 8 → ((k : ℕ) → k ≢ 0 → 1 ≤ count_by (nat_eq k) (addresses disk node) → length (disk k) ≡ 512) → (j : ℕ) → length (data_of disk node j) ≡ 512
file_long disk node long whole j = data_long disk node j (λ held. by (holds_blocks node.mode) (address disk node (Data j) == 0) refl held) where
  by : (t s : Bool) → (address disk node (Data j) == 0) ≡ s → (t && not s) ≡ true → length (disk (address disk node (Data j))) ≡ 512
  by true true e held = absurd (cc)
  by true false e held =
      let some : address disk node (Data j) ≢ 0 = elim (eqb_tells (address disk node (Data j)) 0) [ inl y ↦ absurd (let a = y.0 in cc) | inr y ↦ y.1 ] in
      whole (address disk node (Data j)) some (data_counted disk node j (address disk node (Data j)) long refl some)
  by false true e held = absurd (cc)
  by false false e held = absurd (cc)

pub old_long : (old new : Disk) (node : Inode) (n b at : ℕ) (bytes : List ℕ) → Overwrites old new node n b at bytes → (j : ℕ) → length (data_of old node j) ≡ 512
old_long old new node n b at bytes o = file_long old node o.block.long (λ k some comes. o.whole k (o.block.apart.inside k some comes))

is_there : (disk : Disk) (node : Inode) (n b : ℕ) → holds_blocks node.mode ≡ true → address disk node (Data n) ≡ b → b ≢ 0 → is_held disk node (Data n) ≡ true
is_there disk node n b holds here some =
    ap (λ t. t && not (address disk node (Data n) == 0)) holds ∙ ap (λ a. not (a == 0)) here ∙ ap not (ne_eqb b 0 some)

-- the bytes of a data block that the file holds
pub data_there : (disk : Disk) (node : Inode) (n b : ℕ) → holds_blocks node.mode ≡ true → address disk node (Data n) ≡ b → b ≢ 0 → data_of disk node n ≡ disk b
data_there disk node n b holds here some =
    ap (λ t. cond t (disk (address disk node (Data n))) (replicate 512 0)) (is_there disk node n b holds here some) ∙ ap disk here

over_block : (old new : Disk) (node : Inode) (n b at : ℕ) (bytes : List ℕ) → Overwrites old new node n b at bytes → data_of new node n ≡ patched at bytes (data_of old node n)
over_block old new node n b at bytes o =
    data_there new node n b o.holds (over_address old new node n b at bytes o (Data n) ∙ o.block.here) o.block.some
    ∙ o.here ∙ ap (patched at bytes) (sym (data_there old node n b o.holds o.block.here o.block.some))

over_other : (old new : Disk) (node : Inode) (n b at : ℕ) (bytes : List ℕ) → Overwrites old new node n b at bytes → (m : ℕ) → m ≢ n → data_of new node m ≡ data_of old node m
over_other old new node n b at bytes o m other =
    ap (λ t. cond t (new (address new node (Data m))) (replicate 512 0)) (over_held_name old new node n b at bytes o (Data m))
    ∙ ap (λ a. cond (is_held old node (Data m)) (new a) (replicate 512 0)) (over_address old new node n b at bytes o (Data m))
    ∙ ap (λ l. cond (is_held old node (Data m)) l (replicate 512 0)) (o.others (address old node (Data m)) (λ e. other (one_number old node n b m o.block e)))

over_long : (old new : Disk) (node : Inode) (n b at : ℕ) (bytes : List ℕ) → Overwrites old new node n b at bytes → (j : ℕ) → length (data_of new node j) ≡ 512
over_long old new node n b at bytes o j = elim (eqb_tells j n) [
  | inl e ↦
      (let l = old_long old new node n b at bytes o n in let f = o.fits in
      ap (λ m. length (data_of new node m)) e.1 ∙ ap length (over_block old new node n b at bytes o) ∙ patched_long at bytes (data_of old node n) (omega (arith, l, f)) ∙ l)
  | inr e ↦ ap length (over_other old new node n b at bytes o j e.1) ∙ old_long old new node n b at bytes o j
]

past_most : (test : ℕ → Bool) (n : ℕ) → one_past test n ≤ n
past_most test zero = omega arith
past_most test (suc n) = by (test n) (past_most test n) where
  by : (t : Bool) → one_past test n ≤ n → cond t (n + 1) (one_past test n) ≤ suc n
  by true h = omega arith
  by false h = omega (arith, h)

-- a byte of a part of a list that is patched, and of the list
patched_within : (base at : ℕ) (bytes block body : List ℕ) (k : ℕ) → at + length bytes ≤ length block → base + at + length bytes ≤ length body → slice_index block k ≡ slice_index body (base + k)
    → slice_index (patched at bytes block) k ≡ slice_index (patched (base + at) bytes body) (base + k)
patched_within base at bytes block body k fits fits' same = elim (cases_lt k at) [
  | inl low ↦ patched_before at bytes block k fits low ∙ same ∙ sym (patched_before (base + at) bytes body (base + k) fits' (omega (arith, low)))
  | inr high ↦ elim (cases_lt k (at + length bytes)) [
    | inl low ↦
        (let here : at + (k - at) ≡ k = omega (arith, high) in
        let there : base + at + (k - at) ≡ base + k = omega (arith, high) in
        ap (slice_index (patched at bytes block)) (sym here) ∙ patched_at at bytes block (k - at) fits (omega (arith, low, high))
        ∙ sym (patched_at (base + at) bytes body (k - at) fits' (omega (arith, low, high))) ∙ ap (slice_index (patched (base + at) bytes body)) there)
    | inr past ↦ patched_after at bytes block k fits past ∙ same ∙ sym (patched_after (base + at) bytes body (base + k) fits' (omega (arith, past)))
  ]
]

-- a body reaches to the end of each block that is held
pub body_reaches : (disk : Disk) (node : Inode) (n b : ℕ) → ((j : ℕ) → length (data_of disk node j) ≡ 512) → holds_blocks node.mode ≡ true → address disk node (Data n) ≡ b → b ≢ 0 → n < 67328 → 512 * n + 512 ≤ length (body_of disk node)
body_reaches disk node n b each holds here some high =
    let l = body_long disk node each in
    let p = below_past (λ n. is_held disk node (Data n)) 67328 n high (is_there disk node n b holds here some) in
    omega (arith, l, p)

-- The body has these bytes at that place, and is else as before.
pub over_body : (old new : Disk) (node : Inode) (n b at : ℕ) (bytes : List ℕ) → Overwrites old new node n b at bytes → body_of new node ≡ patched (512 * n + at) bytes (body_of old node)
over_body old new node n b at bytes o =
    let each = old_long old new node n b at bytes o in
    let each' = over_long old new node n b at bytes o in
    let end : length (body_of new node) ≡ length (body_of old node) = body_long new node each' ∙ ap (λ m. 512 * m) (over_end old new node n b at bytes o) ∙ sym (body_long old node each) in
    let reach = body_reaches old node n b each o.holds o.block.here o.block.some o.high in
    let f = o.fits in
    let fits : 512 * n + at + length bytes ≤ length (body_of old node) = omega (arith, reach, f) in
    let most = past_most (λ n. is_held old node (Data n)) 67328 in
    let long = body_long old node each in
    same_parts (body_of new node) (patched (512 * n + at) bytes (body_of old node)) (length (body_of old node)) end (patched_long (512 * n + at) bytes (body_of old node) fits) (λ i h.
    let place : 512 * (i / 512) + i % 512 ≡ i = omega arith in
    let low : i / 512 < 67328 = omega (arith, h, long, most) in
    let small : i % 512 < 512 = omega arith in
    ap (slice_index (body_of new node)) (sym place) ∙ body_byte new node (i / 512) (i % 512) each' low small ∙ elim (eqb_tells (i / 512) n) [
      | inl e ↦
          (let l = each n in
          let at_n : 512 * n + i % 512 ≡ i = ap (λ m. 512 * m + i % 512) (sym e.1) ∙ place in
          ap (λ m. slice_index (data_of new node m) (i % 512)) e.1 ∙ ap (λ l. slice_index l (i % 512)) (over_block old new node n b at bytes o)
          ∙ patched_within (512 * n) at bytes (data_of old node n) (body_of old node) (i % 512) (omega (arith, l, f)) fits (sym (body_byte old node n (i % 512) each o.high small))
          ∙ ap (slice_index (patched (512 * n + at) bytes (body_of old node))) at_n)
      | inr e ↦
          (let other = e.1 in
          ap (λ l. slice_index l (i % 512)) (over_other old new node n b at bytes o (i / 512) e.1) ∙ sym (body_byte old node (i / 512) (i % 512) each low small) ∙ ap (slice_index (body_of old node)) place
          ∙ sym (elim (cases_lt i (512 * n)) [
            | inl before ↦ patched_before (512 * n + at) bytes (body_of old node) i fits (omega (arith, before))
            | inr behind ↦ patched_after (512 * n + at) bytes (body_of old node) i fits (omega (arith, behind, f, other))
          ]))
    ])

-- The bytes of a piece are those of its data block.
pub piece_bytes : (disk : Disk) (node : Inode) (n b a e : ℕ) → ((j : ℕ) → length (data_of disk node j) ≡ 512) → holds_blocks node.mode ≡ true → address disk node (Data n) ≡ b → b ≢ 0 → n < 67328 → a ≤ e → e ≤ 512
    → slice_range (body_of disk node) (512 * n + a) (512 * n + e) ≡ slice_range (disk b) a e
piece_bytes disk node n b a e each holds here some high low small =
    let reach = body_reaches disk node n b each holds here some high in
    let is : data_of disk node n ≡ disk b = data_there disk node n b holds here some in
    let long : length (disk b) ≡ 512 = ap length (sym is) ∙ each n in
    let size : 512 * n + e - (512 * n + a) ≡ e - a = omega (arith, low) in
    let d = length-drop (512 * n + a) (body_of disk node) in
    let d' = length-drop a (disk b) in
    ap (λ k. take k (drop (512 * n + a) (body_of disk node))) size
    ∙ same_parts (take (e - a) (drop (512 * n + a) (body_of disk node))) (take (e - a) (drop a (disk b))) (e - a)
    (length-take-le (e - a) (drop (512 * n + a) (body_of disk node)) (omega (arith, d, reach, low, small)))
    (length-take-le (e - a) (drop a (disk b)) (omega (arith, d', long, low, small)))
    (λ k h. get_or-take (e - a) (drop (512 * n + a) (body_of disk node)) k 0 h ∙ get_or-drop (512 * n + a) (body_of disk node) k 0
    ∙ ap (slice_index (body_of disk node)) (let place : 512 * n + a + k ≡ 512 * n + (a + k) = omega arith in place) ∙ body_byte disk node n (a + k) each high (omega (arith, h, low, small)) ∙ ap (λ l. slice_index l (a + k)) is
    ∙ sym (get_or-take (e - a) (drop a (disk b)) k 0 h ∙ get_or-drop a (disk b) k 0))
