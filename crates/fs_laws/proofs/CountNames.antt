-- A file holds as many names as it has addresses other than 0.
use Rattle.std.proofs.Common.{◌≡◌, ◌+◌, ◌-◌, ◌*◌, ◌/◌, ◌%◌, ◌<◌, ◌≤◌, ◌==◌, ◌&&◌, not, inl, inr, ℕ, zero, suc, Bool, true, false, cond, List, [], ◌∷◌, ◌++◌, length, length-append, map, take, slice_index, refl, sym, ap, ◌∙◌, arith}
use Rattle.std.proofs.lemmas.Bool.{cases_lt, lt-ltb, le-ltb}
use Rattle.std.proofs.lemmas.List.{length-take-le, get_or-take, get_or_append_left, get_or-append_right}
use Rattle.std.proofs.lemmas.List.Sums.{sum_by-cons, sum_by-append}
use Rattle.std.specs.List.{count_by, sum_by, flat_map, range_with_len}
use Rattle.fs_codec.specs.Words.{words}
use Rattle.fs_codec.specs.Fields.{Inode}
use Rattle.fs_codec.specs.Modes.{is_large, holds_blocks}
use Rattle.fs_codec.specs.Disk.{Disk, is_data}
use Rattle.fs_codec.specs.Held.{entries, in_indirect, in_double, addresses, indirect_at, address}
use Rattle.fs_codec.specs.Stands.{name_of, is_held, held_of}
use Rattle.fs_codec.proofs.WordsLemmas.{length-words}
use Rattle.bmap_path.specs.declared.BlockName.{BlockName}
use Rattle.bmap_path.specs.declared.BlockName.TheVariants.{Data, Ind, Dbl}
use Rattle.fs_laws.specs.Tree.{indirects}
use Rattle.fs_laws.proofs.BodyLemmas.{past}
use Rattle.fs_laws.proofs.HeldLemmas.{no_entries}
use Rattle.fs_laws.proofs.HeldGains.{name_data, name_indirect, name_double}

-- Sums over lists and over their places.

-- what a list of values of a function adds up to
sum_map : {A B : Type 0} (c : B → ℕ) (f : A → B) (xs : List A) → sum_by c (map f xs) ≡ sum_by (λ x. c (f x)) xs
sum_map c f [] = refl
sum_map c f (x ∷ xs) = let rest = sum_map c f xs in omega (arith, rest, sum_by-cons c (f x) (map f xs), sum_by-cons (λ y. c (f y)) x xs)

-- the places of a list, of which those past its end add nothing
sum_places : (c q : ℕ → ℕ) (xs : List ℕ) (s n : ℕ) → c 0 ≡ 0 → length xs ≤ n → ((j : ℕ) → j < n → q (s + j) ≡ c (slice_index xs j)) → sum_by q (range_with_len s n) ≡ sum_by c xs
sum_places c q [] s zero none long each = refl
sum_places c q (x ∷ xs) s zero none long each = absurd (omega (arith, long))
sum_places c q [] s (suc n) none long each =
    let first : q s ≡ c 0 = ap q (omega arith) ∙ each 0 (omega arith) in
    let rest = sum_places c q [] (s + 1) n none (omega arith) (λ j h. ap q (omega arith) ∙ each (suc j) (omega (arith, h))) in
    omega (arith, first, none, rest, sum_by-cons q s (range_with_len (s + 1) n))
sum_places c q (x ∷ xs) s (suc n) none long each =
    let first : q s ≡ c x = ap q (omega arith) ∙ each 0 (omega arith) in
    let rest = sum_places c q xs (s + 1) n none (omega (arith, long)) (λ j h. ap q (omega arith) ∙ each (suc j) (omega (arith, h))) in
    omega (arith, first, rest, sum_by-cons q s (range_with_len (s + 1) n), sum_by-cons c x xs)

-- the first numbers, and those after them
sum_parts : (q : ℕ → ℕ) (s m n : ℕ) → sum_by q (range_with_len s (m + n)) ≡ sum_by q (range_with_len s m) + sum_by q (range_with_len (s + m) n)
sum_parts q s zero n =
    let none : 0 + n ≡ n = omega arith in
    let here : s + 0 ≡ s = omega arith in
    let long : sum_by q (range_with_len s (0 + n)) ≡ sum_by q (range_with_len s n) = ap (λ k. sum_by q (range_with_len s k)) none in
    let there : sum_by q (range_with_len (s + 0) n) ≡ sum_by q (range_with_len s n) = ap (λ k. sum_by q (range_with_len k n)) here in
    omega (arith, long, there)
sum_parts q s (suc m) n =
    let one_more : suc m + n ≡ suc (m + n) = omega arith in
    let whole : sum_by q (range_with_len s (suc m + n)) ≡ sum_by q (s ∷ range_with_len (s + 1) (m + n)) = ap (λ k. sum_by q (range_with_len s k)) one_more in
    let there : sum_by q (range_with_len (s + 1 + m) n) ≡ sum_by q (range_with_len (s + suc m) n) = ap (λ k. sum_by q (range_with_len k n)) (omega arith) in
    let rest = sum_parts q (s + 1) m n in
    omega (arith, whole, there, rest, sum_by-cons q s (range_with_len (s + 1) (m + n)), sum_by-cons q s (range_with_len (s + 1) m))

-- m groups of w numbers each
sum_groups : (f q : ℕ → ℕ) (w a m : ℕ) → ((k : ℕ) → k < a + m → sum_by q (range_with_len (w * k) w) ≡ f k) → sum_by q (range_with_len (w * a) (w * m)) ≡ sum_by f (range_with_len a m)
sum_groups f q w a zero each = let none : w * 0 ≡ 0 = omega arith in ap (λ k. sum_by q (range_with_len (w * a) k)) none
sum_groups f q w a (suc m) each =
    let one_more : w * suc m ≡ w + w * m = omega arith in
    let next : w * a + w ≡ w * (a + 1) = omega arith in
    let whole : sum_by q (range_with_len (w * a) (w * suc m)) ≡ sum_by q (range_with_len (w * a) (w + w * m)) = ap (λ k. sum_by q (range_with_len (w * a) k)) one_more in
    let there : sum_by q (range_with_len (w * a + w) (w * m)) ≡ sum_by q (range_with_len (w * (a + 1)) (w * m)) = ap (λ k. sum_by q (range_with_len k (w * m))) next in
    let rest = sum_groups f q w (a + 1) m (λ k h. each k (omega (arith, h))) in
    let first = each a (omega arith) in
    omega (arith, whole, there, rest, first, sum_parts q (w * a) w (w * m), sum_by-cons f a (range_with_len (a + 1) m))

-- What a name and an address count.

-- 1 for a number that names a block
one_block : ℕ → ℕ
one_block b = cond (not (b == 0)) 1 0

-- 1 for a name that is held
one_name : Disk → Inode → ℕ → ℕ
one_name disk node r = cond (is_held disk node (name_of r)) 1 0

name_counts : (disk : Disk) (node : Inode) (r b : ℕ) (name : BlockName) → holds_blocks node.mode ≡ true → name_of r ≡ name → address disk node name ≡ b → one_name disk node r ≡ one_block b
unfolding one_block one_name
name_counts disk node r b name holds named is =
    ap (λ q. cond {A = ℕ} (is_held disk node q) 1 0) named ∙ ap (λ t. cond {A = ℕ} (t && not (address disk node name == 0)) 1 0) holds ∙ ap (λ x. cond {A = ℕ} (not (x == 0)) 1 0) is

held_counts : (disk : Disk) (node : Inode) → count_by (λ held. held) (held_of disk node) ≡ sum_by (one_name disk node) (range_with_len 0 67592)
unfolding held_of one_name
held_counts disk node = sum_map (λ held. cond held 1 0) (λ r. is_held disk node (name_of r)) (range_with_len 0 67592)

-- A large file: 263 groups of 256 data blocks, as many indirect blocks, and the double indirect block.

large_data : (disk : Disk) (node : Inode) (n : ℕ) → is_large node.mode ≡ true → address disk node (Data n) ≡ slice_index (entries disk (indirect_at disk node (n / 256))) (n % 256)
large_data disk node n large = ap (λ t. cond t (slice_index (entries disk (indirect_at disk node (n / 256))) (n % 256)) (slice_index node.addr n)) large

large_indirect : (disk : Disk) (node : Inode) (k : ℕ) → is_large node.mode ≡ true → address disk node (Ind k) ≡ indirect_at disk node k
large_indirect disk node k large = ap (λ t. cond t (indirect_at disk node k) 0) large

large_double : (disk : Disk) (node : Inode) → is_large node.mode ≡ true → address disk node Dbl ≡ slice_index node.addr 7
large_double disk node large = ap (λ t. cond t (slice_index node.addr 7) 0) large

-- the indirect blocks by their numbers
indirect_is : (disk : Disk) (node : Inode) (k : ℕ) → length node.addr ≡ 8 → indirect_at disk node k ≡ slice_index (indirects disk node) k
indirect_is disk node k long =
    let size : length (take 7 node.addr) ≡ 7 = length-take-le 7 node.addr (omega (arith, long)) in
    elim (cases_lt k 7) [
      | inl low ↦ ap (λ t. cond t (slice_index node.addr k) (slice_index (entries disk (slice_index node.addr 7)) (k - 7))) (lt-ltb k 7 low) ∙ sym (get_or-take 7 node.addr k 0 low)
          ∙ sym (get_or_append_left (take 7 node.addr) (entries disk (slice_index node.addr 7)) 0 k (omega (arith, size, low)))
      | inr high ↦ ap (λ t. cond t (slice_index node.addr k) (slice_index (entries disk (slice_index node.addr 7)) (k - 7))) (le-ltb k 7 high)
          ∙ sym (get_or-append_right (take 7 node.addr) (entries disk (slice_index node.addr 7)) 7 k 0 size high)
    ]

-- an indirect block has at most 256 entries
few_entries : (disk : Disk) (d : ℕ) → length (entries disk d) ≤ 256
few_entries disk d = by (is_data disk d) refl where
  by : (t : Bool) → is_data disk d ≡ t → length (cond t (words (disk d) 0 256) []) ≤ 256
  by true e = let l = length-words (disk d) 0 256 in omega (arith, l)
  by false e = omega arith

few_indirects : (disk : Disk) (node : Inode) → length node.addr ≡ 8 → length (indirects disk node) ≤ 263
few_indirects disk node long =
    let size : length (take 7 node.addr) ≡ 7 = length-take-le 7 node.addr (omega (arith, long)) in
    omega (arith, size, length-append (take 7 node.addr) (entries disk (slice_index node.addr 7)), few_entries disk (slice_index node.addr 7))

-- the names of the data blocks under one indirect block
group_counts : (disk : Disk) (node : Inode) (k : ℕ) → is_large node.mode ≡ true → holds_blocks node.mode ≡ true → length node.addr ≡ 8 → k < 263
    → sum_by (one_name disk node) (range_with_len (256 * k) 256) ≡ sum_by one_block (entries disk (slice_index (indirects disk node) k))
unfolding one_block
group_counts disk node k large holds long low =
    sum_places one_block (one_name disk node) (entries disk (slice_index (indirects disk node) k)) (256 * k) 256 refl (few_entries disk (slice_index (indirects disk node) k))
    (λ j small.
    let n : ℕ = 256 * k + j in
    let over : (256 * k + j) / 256 ≡ k = omega (arith, small) in
    let rest : (256 * k + j) % 256 ≡ j = omega (arith, small) in
    let below : 256 * k + j < 67328 = omega (arith, small, low) in
    name_counts disk node (256 * k + j) (slice_index (entries disk (slice_index (indirects disk node) k)) j) (Data (256 * k + j)) holds (name_data (256 * k + j) below)
    (large_data disk node (256 * k + j) large ∙ ap (λ i. slice_index (entries disk (indirect_at disk node i)) ((256 * k + j) % 256)) over
    ∙ ap (λ d. slice_index (entries disk d) ((256 * k + j) % 256)) (indirect_is disk node k long) ∙ ap (slice_index (entries disk (slice_index (indirects disk node) k))) rest))

-- the names of all data blocks
data_counts : (disk : Disk) (node : Inode) → is_large node.mode ≡ true → holds_blocks node.mode ≡ true → length node.addr ≡ 8
    → sum_by (one_name disk node) (range_with_len 0 67328) ≡ sum_by (λ d. sum_by one_block (entries disk d)) (indirects disk node)
data_counts disk node large holds long =
    sum_groups (λ k. sum_by one_block (entries disk (slice_index (indirects disk node) k))) (one_name disk node) 256 0 263 (λ k low. group_counts disk node k large holds long (omega (arith, low)))
    ∙ sum_places (λ d. sum_by one_block (entries disk d)) (λ k. sum_by one_block (entries disk (slice_index (indirects disk node) k))) (indirects disk node) 0 263
    (ap (sum_by one_block) (no_entries disk)) (few_indirects disk node long)
    (λ j h. let here : 0 + j ≡ j = omega arith in ap (λ k. sum_by one_block (entries disk (slice_index (indirects disk node) k))) here)

-- the names of all indirect blocks
indirect_counts : (disk : Disk) (node : Inode) → is_large node.mode ≡ true → holds_blocks node.mode ≡ true → length node.addr ≡ 8
    → sum_by (one_name disk node) (range_with_len 67328 263) ≡ sum_by one_block (indirects disk node)
unfolding one_block
indirect_counts disk node large holds long =
    sum_places one_block (one_name disk node) (indirects disk node) 67328 263 refl (few_indirects disk node long)
    (λ j h.
    let back : 67328 + j - 67328 ≡ j = omega arith in
    name_counts disk node (67328 + j) (slice_index (indirects disk node) j) (Ind (67328 + j - 67328)) holds (name_indirect (67328 + j) (omega arith) (omega (arith, h)))
    (large_indirect disk node (67328 + j - 67328) large ∙ ap (indirect_at disk node) back ∙ indirect_is disk node j long))

double_counts : (disk : Disk) (node : Inode) → is_large node.mode ≡ true → holds_blocks node.mode ≡ true → sum_by (one_name disk node) (range_with_len 67591 1) ≡ one_block (slice_index node.addr 7)
double_counts disk node large holds =
    let one = name_counts disk node 67591 (slice_index node.addr 7) Dbl holds (name_double 67591 (omega arith)) (large_double disk node large) in
    let last : sum_by (one_name disk node) (range_with_len 67591 1) ≡ one_name disk node 67591 = omega (arith, sum_by-cons (one_name disk node) 67591 []) in
    last ∙ one

-- the addresses, by the double indirect block, the indirect blocks and their entries
sum_indirects : (c : ℕ → ℕ) (disk : Disk) (xs : List ℕ) → sum_by c (flat_map (in_indirect disk) xs) ≡ sum_by c xs + sum_by (λ d. sum_by c (entries disk d)) xs
sum_indirects c disk [] = refl
sum_indirects c disk (x ∷ xs) =
    let rest = sum_indirects c disk xs in
    omega (
      arith,
      rest,
      sum_by-append c (in_indirect disk x) (flat_map (in_indirect disk) xs),
      sum_by-cons c x (entries disk x),
      sum_by-cons c x xs,
      sum_by-cons (λ d. sum_by c (entries disk d)) x xs,
    )

large_addresses : (disk : Disk) (node : Inode) → is_large node.mode ≡ true → addresses disk node ≡ flat_map (in_indirect disk) (take 7 node.addr) ++ in_double disk (slice_index node.addr 7)
large_addresses disk node large = ap (λ t. cond t (flat_map (in_indirect disk) (take 7 node.addr) ++ in_double disk (slice_index node.addr 7)) node.addr) large

pub large_sum : (c : ℕ → ℕ) (disk : Disk) (node : Inode) → is_large node.mode ≡ true
    → sum_by c (addresses disk node) ≡ c (slice_index node.addr 7) + sum_by c (indirects disk node) + sum_by (λ d. sum_by c (entries disk d)) (indirects disk node)
large_sum c disk node large =
    let d : ℕ = slice_index node.addr 7 in
    let near : List ℕ = take 7 node.addr in
    let far : List ℕ = entries disk d in
    let is : sum_by c (addresses disk node) ≡ sum_by c (flat_map (in_indirect disk) near ++ in_double disk d) = ap (sum_by c) (large_addresses disk node large) in
    omega (
      arith,
      is,
      sum_by-append c (flat_map (in_indirect disk) near) (in_double disk d),
      sum_by-cons c d (flat_map (in_indirect disk) far),
      sum_indirects c disk near,
      sum_indirects c disk far,
      sum_by-append c near far,
      sum_by-append (λ e. sum_by c (entries disk e)) near far,
    )

add_up : {whole below above middle last x y z all : ℕ} → whole ≡ below + above → above ≡ middle + last → below ≡ x → middle ≡ y → last ≡ z → all ≡ z + y + x → whole ≡ all
add_up a b c d e f = omega (arith, a, b, c, d, e, f)

large_names : (disk : Disk) (node : Inode) → is_large node.mode ≡ true → holds_blocks node.mode ≡ true → length node.addr ≡ 8
    → sum_by (one_name disk node) (range_with_len 0 67592) ≡ sum_by one_block (addresses disk node)
large_names disk node large holds long =
    add_up
    (sum_parts (one_name disk node) 0 67328 264)
    (sum_parts (one_name disk node) 67328 263 1)
    (data_counts disk node large holds long)
    (indirect_counts disk node large holds long)
    (double_counts disk node large holds)
    (large_sum one_block disk node large)

-- A small file: its addresses are the first eight data blocks.

pub small_data : (disk : Disk) (node : Inode) (n : ℕ) → is_large node.mode ≡ false → address disk node (Data n) ≡ slice_index node.addr n
small_data disk node n small = ap (λ t. cond t (slice_index (entries disk (indirect_at disk node (n / 256))) (n % 256)) (slice_index node.addr n)) small

pub small_is : (disk : Disk) (node : Inode) (r : ℕ) → is_large node.mode ≡ false → length node.addr ≡ 8 → address disk node (name_of r) ≡ slice_index node.addr r
small_is disk node r small long = elim (cases_lt r 67328) [
  | inl low ↦ ap (address disk node) (name_data r low) ∙ small_data disk node r small
  | inr high ↦ elim (cases_lt r 67591) [
    | inl g ↦ ap (address disk node) (name_indirect r high g) ∙ ap (λ t. cond t (indirect_at disk node (r - 67328)) 0) small ∙ sym (past node.addr r (omega (arith, long, high)))
    | inr g ↦ ap (address disk node) (name_double r g) ∙ ap (λ t. cond t (slice_index node.addr 7) 0) small ∙ sym (past node.addr r (omega (arith, long, high)))
  ]
]

small_names : (disk : Disk) (node : Inode) → is_large node.mode ≡ false → holds_blocks node.mode ≡ true → length node.addr ≡ 8
    → sum_by (one_name disk node) (range_with_len 0 67592) ≡ sum_by one_block (addresses disk node)
unfolding one_block
small_names disk node small holds long =
    sum_places one_block (one_name disk node) node.addr 0 67592 refl (omega (arith, long))
    (λ j h. let here : 0 + j ≡ j = omega arith in ap (one_name disk node) here ∙ name_counts disk node j (slice_index node.addr j) (name_of j) holds refl (small_is disk node j small long))
    ∙ ap (λ t. sum_by one_block (cond t (flat_map (in_indirect disk) (take 7 node.addr) ++ in_double disk (slice_index node.addr 7)) node.addr)) (sym small)

-- The names that a used inode holds are as many as the addresses that name blocks.
pub names_counted : (disk : Disk) (node : Inode) → holds_blocks node.mode ≡ true → length node.addr ≡ 8
    → count_by (λ held. held) (held_of disk node) ≡ count_by (λ b. not (b == 0)) (addresses disk node)
unfolding one_block
names_counted disk node holds long = held_counts disk node ∙ by (is_large node.mode) refl where
  by : (t : Bool) → is_large node.mode ≡ t → sum_by (one_name disk node) (range_with_len 0 67592) ≡ sum_by one_block (addresses disk node)
  by true e = large_names disk node e holds long
  by false e = small_names disk node e holds long
