-- What an inode holds, and what its node is, rest on its fields, on where data are, and on the blocks that it holds.
use Rattle.std.proofs.Common.{◌≡◌, ◌≢◌, ◌-◌, ◌/◌, ◌%◌, ◌==◌, ◌&&◌, inl, inr, ℕ, zero, suc, Bool, true, false, not, cond, List, [], ◌∷◌, ◌++◌, map, take, slice_index, nat_lt, replicate, Some, None, refl, sym, ap, ◌∙◌, subst}
use Rattle.std.proofs.lemmas.Bool.{eqb-false, cases_lt, lt-ltb, le-ltb}
use Rattle.std.proofs.lemmas.List.{get_or-take}
use Rattle.std.specs.List.{flat_map, range_with_len, AllByRecursion}
use Rattle.fs_codec.specs.Words.{words}
use Rattle.fs_codec.specs.Fields.{Inode}
use Rattle.fs_codec.specs.Modes.{is_large, is_device, holds_blocks}
use Rattle.fs_codec.specs.Disk.{Disk, is_data}
use Rattle.fs_codec.specs.Held.{entries, in_indirect, in_double, addresses, held_blocks, indirect_at, address}
use Rattle.bmap_path.specs.declared.BlockName.{BlockName}
use Rattle.bmap_path.specs.declared.BlockName.TheVariants.{Data, Ind, Dbl}
use Rattle.fs_codec.specs.Stands.{name_of, is_held, held_of, one_past, data_of, body_of, node_of}
use Rattle.fs_laws.proofs.FreeLemmas.{data_some}

-- this block is the same, where it is one
abbrev pub Kept : Disk → Disk → ℕ → Type 0
Kept old new b = b ≢ 0 → new b ≡ old b

-- data are where they were
abbrev pub SameData : Disk → Disk → Type 0
SameData old new = (b : ℕ) → is_data new b ≡ is_data old b

pub all_parts : (P : ℕ → Type 0) (xs ys : List ℕ) → AllByRecursion P (xs ++ ys) → AllByRecursion P xs × AllByRecursion P ys
all_parts P [] ys all = (tt, all)
all_parts P (x ∷ xs) ys all = let r = all_parts P xs ys all.1 in ((all.0, r.0), r.1)

pub all_flat : (P : ℕ → Type 0) (f : ℕ → List ℕ) (xs : List ℕ) → AllByRecursion P (flat_map f xs) → AllByRecursion (λ x. AllByRecursion P (f x)) xs
all_flat P f [] all = tt
all_flat P f (x ∷ xs) all = let r = all_parts P (f x) (flat_map f xs) all in (r.0, all_flat P f xs r.1)

pub flat_same : (f g : ℕ → List ℕ) (xs : List ℕ) → AllByRecursion (λ x. g x ≡ f x) xs → flat_map g xs ≡ flat_map f xs
flat_same f g [] all = refl
flat_same f g (x ∷ xs) all = ap (λ l. l ++ flat_map g xs) all.0 ∙ ap (λ l. f x ++ l) (flat_same f g xs all.1)

-- an element, or 0
pub all_at : (P : ℕ → Type 0) (xs : List ℕ) (k : ℕ) → P 0 → AllByRecursion P xs → P (slice_index xs k)
all_at P [] k none all = none
all_at P (x ∷ xs) zero none all = all.0
all_at P (x ∷ xs) (suc k) none all = all_at P xs k none all.1

no_block : (old new : Disk) → Kept old new 0
no_block old new some = absurd (some refl)

pub entries_by : (old new : Disk) (b : ℕ) (s t : Bool) → t ≡ s → (s ≡ true → new b ≡ old b) → cond t (words (new b) 0 256) [] ≡ cond s (words (old b) 0 256) []
entries_by old new b true true is same = ap (λ l. words l 0 256) (same refl)
entries_by old new b false false is same = refl
entries_by old new b true false is same = absurd (cc)
entries_by old new b false true is same = absurd (cc)

pub entries_kept : (old new : Disk) (b : ℕ) → SameData old new → Kept old new b → entries new b ≡ entries old b
entries_kept old new b zone kept = entries_by old new b (is_data old b) (is_data new b) (zone b) (λ d. kept (data_some old b d).0)

indirect_kept : (old new : Disk) (b : ℕ) → SameData old new → AllByRecursion (Kept old new) (in_indirect old b) → in_indirect new b ≡ in_indirect old b
indirect_kept old new b zone all = ap (λ l. b ∷ l) (entries_kept old new b zone all.0)

double_kept : (old new : Disk) (b : ℕ) → SameData old new → AllByRecursion (Kept old new) (in_double old b) → in_double new b ≡ in_double old b
double_kept old new b zone all =
    ap (λ l. b ∷ flat_map (in_indirect new) l) (entries_kept old new b zone all.0)
    ∙ ap (λ l. b ∷ l) (indirects_kept (entries old b) (all_flat (Kept old new) (in_indirect old) (entries old b) all.1)) where
      indirects_kept : (xs : List ℕ) → AllByRecursion (λ x. AllByRecursion (Kept old new) (in_indirect old x)) xs → flat_map (in_indirect new) xs ≡ flat_map (in_indirect old) xs
      indirects_kept [] a = refl
      indirects_kept (x ∷ xs) a = ap (λ l. l ++ flat_map (in_indirect new) xs) (indirect_kept old new x zone a.0) ∙ ap (λ l. in_indirect old x ++ l) (indirects_kept xs a.1)

pub indirects_same : (old new : Disk) (xs : List ℕ) → SameData old new → AllByRecursion (Kept old new) (flat_map (in_indirect old) xs) → flat_map (in_indirect new) xs ≡ flat_map (in_indirect old) xs
indirects_same old new [] zone all = refl
indirects_same old new (x ∷ xs) zone all =
    let r = all_parts (Kept old new) (in_indirect old x) (flat_map (in_indirect old) xs) all in
    ap (λ l. l ++ flat_map (in_indirect new) xs) (indirect_kept old new x zone r.0) ∙ ap (λ l. in_indirect old x ++ l) (indirects_same old new xs zone r.1)

addresses_by : (old new : Disk) (node : Inode) (t : Bool) → SameData old new → AllByRecursion (Kept old new) (cond t (flat_map (in_indirect old) (take 7 node.addr) ++ in_double old (slice_index node.addr 7)) node.addr)
    → cond t (flat_map (in_indirect new) (take 7 node.addr) ++ in_double new (slice_index node.addr 7)) node.addr ≡ cond t (flat_map (in_indirect old) (take 7 node.addr) ++ in_double old (slice_index node.addr 7)) node.addr
addresses_by old new node true zone all =
    let r = all_parts (Kept old new) (flat_map (in_indirect old) (take 7 node.addr)) (in_double old (slice_index node.addr 7)) all in
    ap (λ l. l ++ in_double new (slice_index node.addr 7)) (indirects_same old new (take 7 node.addr) zone r.0)
    ∙ ap (λ l. flat_map (in_indirect old) (take 7 node.addr) ++ l) (double_kept old new (slice_index node.addr 7) zone r.1)
addresses_by old new node false zone all = refl

pub addresses_kept : (old new : Disk) (node : Inode) → SameData old new → AllByRecursion (Kept old new) (addresses old node) → addresses new node ≡ addresses old node
addresses_kept old new node zone all = addresses_by old new node (is_large node.mode) zone all

held_when : (old new : Disk) (node : Inode) (t : Bool) → SameData old new → AllByRecursion (Kept old new) (cond t (addresses old node) []) → cond t (addresses new node) [] ≡ cond t (addresses old node) []
held_when old new node true zone all = addresses_kept old new node zone all
held_when old new node false zone all = refl

pub held_kept : (old new : Disk) (node : Inode) → SameData old new → AllByRecursion (Kept old new) (held_blocks old node) → held_blocks new node ≡ held_blocks old node
held_kept old new node zone all = held_when old new node (holds_blocks node.mode) zone all

-- the indirect blocks, and all that they name
InKept : Disk → Disk → ℕ → Type 0
InKept old new x = AllByRecursion (Kept old new) (in_indirect old x)

pub no_entries : (disk : Disk) → entries disk 0 ≡ []
no_entries disk = by (is_data disk 0) refl where
  by : (t : Bool) → is_data disk 0 ≡ t → cond t (words (disk 0) 0 256) [] ≡ []
  by true e = absurd ((data_some disk 0 e).0 refl)
  by false e = refl

in_none : (old new : Disk) → InKept old new 0
unfolding InKept
in_none old new = (no_block old new, let P : List ℕ → Type 0 = AllByRecursion (Kept old new) in subst P (sym (no_entries old)) tt)

unfoldable pub LargeKept : Disk → Disk → Inode → Type 0
LargeKept old new node = AllByRecursion (Kept old new) (flat_map (in_indirect old) (take 7 node.addr) ++ in_double old (slice_index node.addr 7))

double_ok : (old new : Disk) (node : Inode) → LargeKept old new node → AllByRecursion (Kept old new) (in_double old (slice_index node.addr 7))
unfolding LargeKept
double_ok old new node all = (all_parts (Kept old new) (flat_map (in_indirect old) (take 7 node.addr)) (in_double old (slice_index node.addr 7)) all).1

indirect_ok : (old new : Disk) (node : Inode) (k : ℕ) → LargeKept old new node → InKept old new (indirect_at old node k)
unfolding LargeKept InKept
indirect_ok old new node k all = elim (cases_lt k 7) [
  | inl low ↦
      let near : AllByRecursion (λ x. AllByRecursion (Kept old new) (in_indirect old x)) (take 7 node.addr) =
      all_flat (Kept old new) (in_indirect old) (take 7 node.addr) ((all_parts (Kept old new) (flat_map (in_indirect old) (take 7 node.addr)) (in_double old (slice_index node.addr 7)) all).0) in
      let at = all_at (λ x. AllByRecursion (Kept old new) (in_indirect old x)) (take 7 node.addr) k (in_none old new) near in
      let is : indirect_at old node k ≡ slice_index (take 7 node.addr) k = ap (λ t. cond t (slice_index node.addr k) (slice_index (entries old (slice_index node.addr 7)) (k - 7))) (lt-ltb k 7 low) ∙ sym (get_or-take 7 node.addr k 0 low) in
      let P : ℕ → Type 0 = λ x. AllByRecursion (Kept old new) (in_indirect old x) in subst P (sym is) at
  | inr high ↦
      let far = all_flat (Kept old new) (in_indirect old) (entries old (slice_index node.addr 7)) (double_ok old new node all).1 in
      let at = all_at (λ x. AllByRecursion (Kept old new) (in_indirect old x)) (entries old (slice_index node.addr 7)) (k - 7) (in_none old new) far in
      let is : indirect_at old node k ≡ slice_index (entries old (slice_index node.addr 7)) (k - 7) = ap (λ t. cond t (slice_index node.addr k) (slice_index (entries old (slice_index node.addr 7)) (k - 7))) (le-ltb k 7 high) in
      let P : ℕ → Type 0 = λ x. AllByRecursion (Kept old new) (in_indirect old x) in subst P (sym is) at
]

pub indirect_at_kept : (old new : Disk) (node : Inode) (k : ℕ) → SameData old new → LargeKept old new node → indirect_at new node k ≡ indirect_at old node k
indirect_at_kept old new node k zone all =
    ap (λ l. cond (nat_lt k 7) (slice_index node.addr k) (slice_index l (k - 7))) (entries_kept old new (slice_index node.addr 7) zone (double_ok old new node all).0)

data_at : Disk → Inode → ℕ → ℕ
data_at disk node n = slice_index (entries disk (indirect_at disk node (n / 256))) (n % 256)

data_at_kept : (old new : Disk) (node : Inode) (n : ℕ) → SameData old new → LargeKept old new node → data_at new node n ≡ data_at old node n
unfolding data_at InKept
data_at_kept old new node n zone all =
    ap (λ b. slice_index (entries new b) (n % 256)) (indirect_at_kept old new node (n / 256) zone all)
    ∙ ap (λ l. slice_index l (n % 256)) (entries_kept old new (indirect_at old node (n / 256)) zone (indirect_ok old new node (n / 256) all).0)

data_ok : (old new : Disk) (node : Inode) (n : ℕ) → LargeKept old new node → Kept old new (data_at old node n)
unfolding data_at InKept
data_ok old new node n all = all_at (Kept old new) (entries old (indirect_at old node (n / 256))) (n % 256) (no_block old new) (indirect_ok old new node (n / 256) all).1

data_by_size : (old new : Disk) (node : Inode) (n : ℕ) (large : Bool) → SameData old new
    → AllByRecursion (Kept old new) (cond large (flat_map (in_indirect old) (take 7 node.addr) ++ in_double old (slice_index node.addr 7)) node.addr)
    → cond large (data_at new node n) (slice_index node.addr n) ≡ cond large (data_at old node n) (slice_index node.addr n)
unfolding LargeKept
data_by_size old new node n false zone all = refl
data_by_size old new node n true zone all = data_at_kept old new node n zone all

indirect_by_size : (old new : Disk) (node : Inode) (k : ℕ) (large : Bool) → SameData old new
    → AllByRecursion (Kept old new) (cond large (flat_map (in_indirect old) (take 7 node.addr) ++ in_double old (slice_index node.addr 7)) node.addr)
    → cond large (indirect_at new node k) 0 ≡ cond large (indirect_at old node k) 0
unfolding LargeKept
indirect_by_size old new node k false zone all = refl
indirect_by_size old new node k true zone all = indirect_at_kept old new node k zone all

-- The addresses of a file's blocks stay where the blocks that it holds stay.
pub address_kept : (old new : Disk) (node : Inode) (name : BlockName) → SameData old new → AllByRecursion (Kept old new) (addresses old node) → address new node name ≡ address old node name
unfolding data_at
address_kept old new node (Data n) zone all = data_by_size old new node n (is_large node.mode) zone all
address_kept old new node (Ind k) zone all = indirect_by_size old new node k (is_large node.mode) zone all
address_kept old new node Dbl zone all = refl

address_ok : (old new : Disk) (node : Inode) (n : ℕ) (large : Bool) → AllByRecursion (Kept old new) (cond large (flat_map (in_indirect old) (take 7 node.addr) ++ in_double old (slice_index node.addr 7)) node.addr)
    → Kept old new (cond large (data_at old node n) (slice_index node.addr n))
unfolding LargeKept
address_ok old new node n false all = all_at (Kept old new) node.addr n (no_block old new) all
address_ok old new node n true all = data_ok old new node n all

pub data_block_kept : (old new : Disk) (node : Inode) (n : ℕ) → AllByRecursion (Kept old new) (addresses old node) → Kept old new (address old node (Data n))
unfolding data_at
data_block_kept old new node n all = address_ok old new node n (is_large node.mode) all

held_name_by : (old new : Disk) (node : Inode) (name : BlockName) (t : Bool) → SameData old new → AllByRecursion (Kept old new) (cond t (addresses old node) []) → (t && not (address new node name == 0)) ≡ (t && not (address old node name == 0))
held_name_by old new node name true zone all = ap (λ b. not (b == 0)) (address_kept old new node name zone all)
held_name_by old new node name false zone all = refl

pub held_name_kept : (old new : Disk) (node : Inode) (name : BlockName) → SameData old new → AllByRecursion (Kept old new) (held_blocks old node) → is_held new node name ≡ is_held old node name
held_name_kept old new node name zone all = held_name_by old new node name (holds_blocks node.mode) zone all

data_by : (old new : Disk) (node : Inode) (n : ℕ) (t s : Bool) → SameData old new → AllByRecursion (Kept old new) (cond t (addresses old node) []) → (address old node (Data n) == 0) ≡ s
    → cond (t && not (address new node (Data n) == 0)) (new (address new node (Data n))) (replicate 512 0) ≡ cond (t && not (address old node (Data n) == 0)) (old (address old node (Data n))) (replicate 512 0)
data_by old new node n false s zone all e = refl
data_by old new node n true s zone all e =
    let a : ℕ = address old node (Data n) in
    let same : address new node (Data n) ≡ a = address_kept old new node (Data n) zone all in
    ap (λ b. cond (not (b == 0)) (new b) (replicate 512 0)) same ∙ by s e where
      by : (s : Bool) → (address old node (Data n) == 0) ≡ s → cond (not (address old node (Data n) == 0)) (new (address old node (Data n))) (replicate 512 0) ≡ cond (not (address old node (Data n) == 0)) (old (address old node (Data n))) (replicate 512 0)
      by true z = ap (λ t. cond (not t) (new (address old node (Data n))) (replicate 512 0)) z ∙ sym (ap (λ t. cond (not t) (old (address old node (Data n))) (replicate 512 0)) z)
      by false z = ap (λ l. cond (not (address old node (Data n) == 0)) l (replicate 512 0)) (data_block_kept old new node n all (eqb-false (address old node (Data n)) 0 z))

pub data_kept : (old new : Disk) (node : Inode) (n : ℕ) → SameData old new → AllByRecursion (Kept old new) (held_blocks old node) → data_of new node n ≡ data_of old node n
data_kept old new node n zone all = data_by old new node n (holds_blocks node.mode) (address old node (Data n) == 0) zone all refl

pub names_kept : (old new : Disk) (node : Inode) → SameData old new → AllByRecursion (Kept old new) (held_blocks old node) → held_of new node ≡ held_of old node
unfolding held_of
names_kept old new node zone all i = map (λ r. held_name_kept old new node (name_of r) zone all i) (range_with_len 0 67592)

pub body_kept : (old new : Disk) (node : Inode) → SameData old new → AllByRecursion (Kept old new) (held_blocks old node) → body_of new node ≡ body_of old node
unfolding body_of
body_kept old new node zone all i =
    flat_map (λ n. data_kept old new node n zone all i) (range_with_len 0 (one_past (λ n. held_name_kept old new node (Data n) zone all i) 67328))

-- The node of an inode stays where the blocks that it holds stay.
pub node_kept : (old new : Disk) (node : Inode) → SameData old new → AllByRecursion (Kept old new) (held_blocks old node) → node_of new node ≡ node_of old node
node_kept old new node zone all i = cond (node.mode == 0) None (Some (record {
  mode = node.mode;
  nlink = node.nlink;
  uid = node.uid;
  gid = node.gid;
  size = node.size;
  device = cond (is_device node.mode) (slice_index node.addr 0) 0;
  actime = node.actime;
  modtime = node.modtime;
  held = names_kept old new node zone all i;
  body = body_kept old new node zone all i;
}))
