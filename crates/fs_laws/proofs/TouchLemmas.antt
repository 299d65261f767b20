-- Data blocks of a file stay where only a new block and an indirect block change.
use Rattle.std.proofs.Common.{◌≡◌, ◌≢◌, ◌+◌, ◌/◌, ◌%◌, ◌≤◌, ℕ, zero, suc, Bool, true, false, cond, List, [], ◌∷◌, length, slice_index, nat_eq, refl, sym, ap, ◌∙◌, subst, arith}
use Rattle.std.specs.List.{count_by, flat_map}
use Rattle.fs_codec.specs.Modes.{is_large}
use Rattle.fs_codec.specs.Fields.{Inode}
use Rattle.fs_codec.specs.Disk.{Disk}
use Rattle.fs_codec.specs.Held.{entries, address, addresses}
use Rattle.bmap_path.specs.declared.BlockName.TheVariants.{Data}
use Rattle.fs_codec.proofs.CountLemmas.{count-append}
use Rattle.fs_laws.specs.Chain.{free}
use Rattle.fs_laws.specs.Whole.{IsApart}
use Rattle.fs_laws.specs.Tree.{indirects}
use Rattle.fs_laws.proofs.FreeLemmas.{data_some}
use Rattle.fs_laws.proofs.PlacesLemmas.{counted_at}
use Rattle.fs_laws.proofs.HeldLemmas.{no_entries}
use Rattle.fs_laws.proofs.GainLemmas.{small_address, small_addresses}
use Rattle.fs_laws.proofs.TreeLemmas.{large_count, large_data, indirect_is}

-- a number that a list of lists has at a place
flat_counted : (f : ℕ → List ℕ) (xs : List ℕ) (i j d : ℕ) → f 0 ≡ [] → slice_index (f (slice_index xs i)) j ≡ d → d ≢ 0 → 1 ≤ count_by (nat_eq d) (flat_map f xs)
flat_counted f [] i j d none is some = absurd (some (sym is ∙ ap (λ l. slice_index l j) none))
flat_counted f (x ∷ xs) zero j d none is some = let c = counted_at (f x) j d is some in omega (arith, c, count-append d (f x) (flat_map f xs))
flat_counted f (x ∷ xs) (suc i) j d none is some = let r = flat_counted f xs i j d none is some in omega (arith, r, count-append d (f x) (flat_map f xs))

-- a data block of a large file is named by an indirect block
pub data_counted : (disk : Disk) (node : Inode) (n : ℕ) → length node.addr ≡ 8 → is_large node.mode ≡ true → address disk node (Data n) ≢ 0
    → 1 ≤ count_by (nat_eq (address disk node (Data n))) (flat_map (entries disk) (indirects disk node))
data_counted disk node n long large some =
    flat_counted (entries disk) (indirects disk node) (n / 256) (n % 256) (address disk node (Data n)) (no_entries disk)
    (ap (λ x. slice_index (entries disk x) (n % 256)) (sym (indirect_is disk node (n / 256) long)) ∙ sym (large_data disk node n large)) some

-- a data block of a file is one of its blocks
pub data_in : (disk : Disk) (node : Inode) (n : ℕ) → length node.addr ≡ 8 → address disk node (Data n) ≢ 0 → 1 ≤ count_by (nat_eq (address disk node (Data n))) (addresses disk node)
data_in disk node n long some = by (is_large node.mode) refl where
  by : (t : Bool) → is_large node.mode ≡ t → 1 ≤ count_by (nat_eq (address disk node (Data n))) (addresses disk node)
  by true e = let c = data_counted disk node n long e some in let l = large_count disk node (address disk node (Data n)) e in omega (arith, c, l)
  by false e =
      let c : 1 ≤ count_by (nat_eq (address disk node (Data n))) node.addr = counted_at node.addr n (address disk node (Data n)) (sym (small_address disk node n e)) some in
      let P : List ℕ → Type 0 = λ l. 1 ≤ count_by (nat_eq (address disk node (Data n))) l in subst P (sym (small_addresses disk node e)) c

-- a data block of a file is not free, nor the super-block
pub data_apart : (disk : Disk) (node : Inode) (n : ℕ) → IsApart disk (addresses disk node) → length node.addr ≡ 8 → address disk node (Data n) ≢ 0
    → (count_by (nat_eq (address disk node (Data n))) (free disk) ≡ 0) × (address disk node (Data n) ≢ 1)
data_apart disk node n apart long some =
    let c = data_in disk node n long some in
    let o = apart.once (address disk node (Data n)) some in
    (omega (arith, o, c), (data_some disk (address disk node (Data n)) (apart.inside (address disk node (Data n)) some c)).1)

pub not_same : (k b : ℕ) (xs : List ℕ) → count_by (nat_eq k) xs ≡ 0 → 1 ≤ count_by (nat_eq b) xs → k ≢ b
not_same k b xs none some e = let P : ℕ → Type 0 = λ y. 1 ≤ count_by (nat_eq y) xs in let z : 1 ≤ count_by (nat_eq k) xs = subst P (sym e) some in absurd (omega (arith, none, z))

-- an indirect block, or the double indirect block
abbrev pub IsInner : Disk → Inode → ℕ → Type 0
IsInner disk node d = 1 ≤ cond {A = ℕ} (nat_eq d (slice_index node.addr 7)) 1 0 + count_by (nat_eq d) (indirects disk node)

pub data_not_inner : (disk : Disk) (node : Inode) (n d : ℕ) → IsApart disk (addresses disk node) → length node.addr ≡ 8 → is_large node.mode ≡ true → IsInner disk node d → address disk node (Data n) ≢ 0
    → address disk node (Data n) ≢ d
data_not_inner disk node n d apart long large inner some e =
    let a : ℕ = address disk node (Data n) in
    let P : ℕ → Type 0 = λ y. IsInner disk node y in
    let i : IsInner disk node (address disk node (Data n)) = subst P (sym e) inner in
    let c = data_counted disk node n long large some in
    let l = large_count disk node (address disk node (Data n)) large in
    let o = apart.once (address disk node (Data n)) some in
    absurd (omega (arith, i, c, l, o))

-- an indirect block is one of a file's blocks
pub inner_in : (disk : Disk) (node : Inode) (d : ℕ) → is_large node.mode ≡ true → IsInner disk node d → 1 ≤ count_by (nat_eq d) (addresses disk node)
inner_in disk node d large inner = let l = large_count disk node d large in omega (arith, l, inner)

pub data_stays : (old new : Disk) (node : Inode) (b n : ℕ) → IsApart old (addresses old node) → length node.addr ≡ 8 → 1 ≤ count_by (nat_eq b) (free old) → ((k : ℕ) → k ≢ 1 → k ≢ b → new k ≡ old k)
    → address old node (Data n) ≢ 0 → new (address old node (Data n)) ≡ old (address old node (Data n))
data_stays old new node b n apart long taken same some =
    let a = data_apart old node n apart long some in
    same (address old node (Data n)) a.1 (not_same (address old node (Data n)) b (free old) a.0 taken)

pub data_stays_but : (old new : Disk) (node : Inode) (b d n : ℕ) → IsApart old (addresses old node) → length node.addr ≡ 8 → 1 ≤ count_by (nat_eq b) (free old) → is_large node.mode ≡ true → IsInner old node d
    → ((k : ℕ) → k ≢ 1 → k ≢ b → k ≢ d → new k ≡ old k) → address old node (Data n) ≢ 0 → new (address old node (Data n)) ≡ old (address old node (Data n))
data_stays_but old new node b d n apart long taken large inner same some =
    let a = data_apart old node n apart long some in
    same (address old node (Data n)) a.1 (not_same (address old node (Data n)) b (free old) a.0 taken) (data_not_inner old node n d apart long large inner some)
