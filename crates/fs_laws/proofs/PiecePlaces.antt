-- A file's data blocks are different from one another, and none of them is an indirect block.
use Rattle.std.proofs.Common.{◌≡◌, ◌≢◌, ◌-◌, ◌/◌, ◌%◌, ◌≤◌, inl, inr, ℕ, zero, suc, Bool, true, false, cond, List, [], ◌∷◌, length, slice_index, nat_eq, refl, sym, ap, ◌∙◌, arith}
use Rattle.std.proofs.lemmas.Bool.Decides.{eqb_tells}
use Rattle.std.specs.List.{count_by, flat_map}
use Rattle.fs_codec.specs.Modes.{is_large}
use Rattle.fs_codec.specs.Fields.{Inode}
use Rattle.fs_codec.specs.Disk.{Disk, is_data}
use Rattle.fs_codec.specs.Held.{entries, address, addresses}
use Rattle.bmap_path.specs.declared.BlockName.TheVariants.{Data}
use Rattle.fs_codec.proofs.CountLemmas.{count-append}
use Rattle.fs_laws.specs.Chain.{free}
use Rattle.fs_laws.specs.Tree.{indirects}
use Rattle.fs_laws.specs.Block.{IsBlock}
use Rattle.fs_laws.proofs.PlacesLemmas.{counted_at, one_place}
use Rattle.fs_laws.proofs.GainLemmas.{small_addresses, small_address}
use Rattle.fs_laws.proofs.HeldLemmas.{no_entries}
use Rattle.fs_laws.proofs.TreeLemmas.{large_count, indirect_is, large_data}

-- a list of lists has what one of them has
flat_at_most : (f : ℕ → List ℕ) (xs : List ℕ) (i d : ℕ) → f 0 ≡ [] → count_by (nat_eq d) (f (slice_index xs i)) ≤ count_by (nat_eq d) (flat_map f xs)
flat_at_most f [] i d none = let z : count_by (nat_eq d) (f 0) ≡ 0 = ap (count_by (nat_eq d)) none in omega (arith, z)
flat_at_most f (x ∷ xs) zero d none = omega (arith, count-append d (f x) (flat_map f xs))
flat_at_most f (x ∷ xs) (suc i) d none = let rest = flat_at_most f xs i d none in omega (arith, rest, count-append d (f x) (flat_map f xs))

-- a number that comes once in lists comes in one of them
flat_place : (f : ℕ → List ℕ) (xs : List ℕ) (i j d : ℕ) → f 0 ≡ [] → count_by (nat_eq d) (flat_map f xs) ≤ 1 → 1 ≤ count_by (nat_eq d) (f (slice_index xs i)) → 1 ≤ count_by (nat_eq d) (f (slice_index xs j)) → i ≡ j
flat_place f [] i j d none once a b = let z : count_by (nat_eq d) (f 0) ≡ 0 = ap (count_by (nat_eq d)) none in absurd (omega (arith, z, a))
flat_place f (x ∷ xs) zero zero d none once a b = refl
flat_place f (x ∷ xs) zero (suc j) d none once a b = let rest = flat_at_most f xs j d none in absurd (omega (arith, rest, once, a, b, count-append d (f x) (flat_map f xs)))
flat_place f (x ∷ xs) (suc i) zero d none once a b = let rest = flat_at_most f xs i d none in absurd (omega (arith, rest, once, a, b, count-append d (f x) (flat_map f xs)))
flat_place f (x ∷ xs) (suc i) (suc j) d none once a b = ap suc (flat_place f xs i j d none (omega (arith, once, count-append d (f x) (flat_map f xs))) a b)

-- the data blocks of a large file are entries of indirect blocks
large_entry : (disk : Disk) (node : Inode) (j b : ℕ) → is_large node.mode ≡ true → length node.addr ≡ 8 → address disk node (Data j) ≡ b → b ≢ 0 → 1 ≤ count_by (nat_eq b) (entries disk (slice_index (indirects disk node) (j / 256)))
large_entry disk node j b large long is some =
    counted_at (entries disk (slice_index (indirects disk node) (j / 256))) (j % 256) b (ap (λ x. slice_index (entries disk x) (j % 256)) (sym (indirect_is disk node (j / 256) long)) ∙ sym (large_data disk node j large) ∙ is) some

-- A data block is among the addresses of its file.
pub data_counted : (disk : Disk) (node : Inode) (j b : ℕ) → length node.addr ≡ 8 → address disk node (Data j) ≡ b → b ≢ 0 → 1 ≤ count_by (nat_eq b) (addresses disk node)
data_counted disk node j b long is some = by (is_large node.mode) refl where
  by : (t : Bool) → is_large node.mode ≡ t → 1 ≤ count_by (nat_eq b) (addresses disk node)
  by true large =
      let c = large_count disk node b large in
      let e = large_entry disk node j b large long is some in
      let f = flat_at_most (entries disk) (indirects disk node) (j / 256) b (no_entries disk) in
      omega (arith, c, e, f)
  by false small =
      let c = counted_at node.addr j b (sym (small_address disk node j small) ∙ is) some in
      let a : count_by (nat_eq b) (addresses disk node) ≡ count_by (nat_eq b) node.addr = ap (count_by (nat_eq b)) (small_addresses disk node small) in
      omega (arith, c, a)

pub block_zone : (disk : Disk) (node : Inode) (n b : ℕ) → IsBlock disk node n b → is_data disk b ≡ true
block_zone disk node n b is = is.apart.inside b is.some (data_counted disk node n b is.long is.here is.some)

pub block_used : (disk : Disk) (node : Inode) (n b : ℕ) → IsBlock disk node n b → count_by (nat_eq b) (free disk) ≡ 0
block_used disk node n b is = let o = is.apart.once b is.some in let c = data_counted disk node n b is.long is.here is.some in omega (arith, o, c)

-- It is no other data block of the file.
pub one_number : (disk : Disk) (node : Inode) (n b j : ℕ) → IsBlock disk node n b → address disk node (Data j) ≡ b → j ≡ n
one_number disk node n b j is there = by (is_large node.mode) refl where
  by : (t : Bool) → is_large node.mode ≡ t → j ≡ n
  by true large =
      let c = large_count disk node b large in
      let o = is.apart.once b is.some in
      let once : count_by (nat_eq b) (flat_map (entries disk) (indirects disk node)) ≤ 1 = omega (arith, c, o) in
      let block : j / 256 ≡ n / 256 = flat_place (entries disk) (indirects disk node) (j / 256) (n / 256) b (no_entries disk) once (large_entry disk node j b large is.long there is.some) (large_entry disk node n b large is.long is.here is.some) in
      let at_most = flat_at_most (entries disk) (indirects disk node) (n / 256) b (no_entries disk) in
      let at : (m : ℕ) → address disk node (Data m) ≡ b → slice_index (entries disk (slice_index (indirects disk node) (m / 256))) (m % 256) ≡ b =
      λ m e. ap (λ x. slice_index (entries disk x) (m % 256)) (sym (indirect_is disk node (m / 256) is.long)) ∙ sym (large_data disk node m large) ∙ e in
      let entry : j % 256 ≡ n % 256 = one_place (entries disk (slice_index (indirects disk node) (n / 256))) (j % 256) (n % 256) b (omega (arith, at_most, once)) is.some
      (ap (λ k. slice_index (entries disk (slice_index (indirects disk node) k)) (j % 256)) (sym block) ∙ at j there) (at n is.here) in
      omega (arith, block, entry)
  by false small =
      let o = is.apart.once b is.some in
      let a : count_by (nat_eq b) (addresses disk node) ≡ count_by (nat_eq b) node.addr = ap (count_by (nat_eq b)) (small_addresses disk node small) in
      one_place node.addr j n b (omega (arith, o, a)) is.some (sym (small_address disk node j small) ∙ there) (sym (small_address disk node n small) ∙ is.here)

-- It is no indirect block of the file.
pub no_indirect : (disk : Disk) (node : Inode) (n b : ℕ) → IsBlock disk node n b → is_large node.mode ≡ true → (count_by (nat_eq b) (indirects disk node) ≡ 0) × (slice_index node.addr 7 ≢ b)
no_indirect disk node n b is large =
    let c = large_count disk node b large in
    let o = is.apart.once b is.some in
    let e = large_entry disk node n b large is.long is.here is.some in
    let f = flat_at_most (entries disk) (indirects disk node) (n / 256) b (no_entries disk) in (
      omega (arith, c, o, e, f),
      λ s.
          let t : cond {A = ℕ} (nat_eq b (slice_index node.addr 7)) 1 0 ≡ 1 = elim (eqb_tells b (slice_index node.addr 7)) [ inl y ↦ ap (λ t. cond t 1 0) y.0 | inr y ↦ absurd (y.1 (sym s)) ] in
          absurd (omega (arith, c, o, e, f, t)),
    )
