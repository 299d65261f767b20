-- The blocks of a large file: its double indirect block, its indirect blocks, and theirs.
use Rattle.std.proofs.Common.{◌≡◌, ◌≢◌, ◌+◌, ◌-◌, ◌/◌, ◌%◌, ◌<◌, ◌≤◌, inl, inr, ℕ, zero, suc, true, false, cond, List, [], ◌∷◌, ◌++◌, length, take, get_or, set, slice_index, nat_eq, nat_lt, refl, sym, ap, ◌∙◌, subst, arith, get_or-set_same, get_or-set_other}
use Rattle.std.proofs.lemmas.Bool.{ne_eqb, cases_lt, lt-ltb, le-ltb}
use Rattle.std.proofs.lemmas.Bool.Decides.{eqb_tells}
use Rattle.std.proofs.lemmas.List.{length-take-le, get_or-take, get_or_append_left, get_or-append_right}
use Rattle.std.specs.List.{count_by, flat_map}
use Rattle.fs_codec.specs.Modes.{is_large}
use Rattle.fs_codec.specs.Fields.{Inode}
use Rattle.fs_codec.specs.Disk.{Disk}
use Rattle.fs_codec.specs.Held.{entries, in_indirect, in_double, indirect_at, address, addresses}
use Rattle.bmap_path.specs.declared.BlockName.{BlockName}
use Rattle.bmap_path.specs.declared.BlockName.TheVariants.{Data, Ind, Dbl}
use Rattle.fs_codec.proofs.CountLemmas.{count-cons, count-append}
use Rattle.fs_laws.specs.Chain.{free, Takes}
use Rattle.fs_laws.specs.Whole.{IsApart}
use Rattle.fs_laws.specs.Gains.{Gains}
use Rattle.fs_laws.specs.Tree.{indirects}
use Rattle.fs_laws.proofs.ChainLemmas.{count_first}
use Rattle.fs_laws.proofs.PlacesLemmas.{count_set, flat_parts, counted_at, one_place, flat_kept, flat_changed}
use Rattle.fs_laws.proofs.BodyLemmas.{past}
use Rattle.fs_laws.proofs.GainLemmas.{small_addresses, small_address, small_indirect, small_double}
use Rattle.fs_laws.proofs.HeldLemmas.{no_entries}

-- what the indirect blocks and their entries count
count_indirects : (k : ℕ) (disk : Disk) (xs : List ℕ) → count_by (nat_eq k) (flat_map (in_indirect disk) xs) ≡ count_by (nat_eq k) xs + count_by (nat_eq k) (flat_map (entries disk) xs)
count_indirects k disk [] = refl
count_indirects k disk (x ∷ xs) =
    let rest = count_indirects k disk xs in
    omega (arith, rest, count-append k (in_indirect disk x) (flat_map (in_indirect disk) xs), count-cons k x (entries disk x), count-append k (entries disk x) (flat_map (entries disk) xs), count-cons k x xs)

large_addresses : (disk : Disk) (node : Inode) → is_large node.mode ≡ true → addresses disk node ≡ flat_map (in_indirect disk) (take 7 node.addr) ++ in_double disk (slice_index node.addr 7)
large_addresses disk node large = ap (λ t. cond t (flat_map (in_indirect disk) (take 7 node.addr) ++ in_double disk (slice_index node.addr 7)) node.addr) large

pub large_count : (disk : Disk) (node : Inode) (k : ℕ) → is_large node.mode ≡ true
    → count_by (nat_eq k) (addresses disk node) ≡ cond (nat_eq k (slice_index node.addr 7)) 1 0 + count_by (nat_eq k) (indirects disk node) + count_by (nat_eq k) (flat_map (entries disk) (indirects disk node))
large_count disk node k large =
    let d : ℕ = slice_index node.addr 7 in
    let near : List ℕ = take 7 node.addr in
    let far : List ℕ = entries disk d in
    let is : count_by (nat_eq k) (addresses disk node) ≡ count_by (nat_eq k) (flat_map (in_indirect disk) near ++ in_double disk d) = ap (count_by (nat_eq k)) (large_addresses disk node large) in
    omega (
      arith,
      is,
      count-append k (flat_map (in_indirect disk) near) (in_double disk d),
      count-cons k d (flat_map (in_indirect disk) far),
      count_indirects k disk near,
      count_indirects k disk far,
      count-append k near far,
      flat_parts (entries disk) near far k,
    )

pub indirect_is : (disk : Disk) (node : Inode) (k : ℕ) → length node.addr ≡ 8 → indirect_at disk node k ≡ slice_index (indirects disk node) k
indirect_is disk node k long =
    let size : length (take 7 node.addr) ≡ 7 = length-take-le 7 node.addr (omega (arith, long)) in
    elim (cases_lt k 7) [
      | inl low ↦ ap (λ t. cond t (slice_index node.addr k) (slice_index (entries disk (slice_index node.addr 7)) (k - 7))) (lt-ltb k 7 low) ∙ sym (get_or-take 7 node.addr k 0 low)
          ∙ sym (get_or_append_left (take 7 node.addr) (entries disk (slice_index node.addr 7)) 0 k (omega (arith, size, low)))
      | inr high ↦ ap (λ t. cond t (slice_index node.addr k) (slice_index (entries disk (slice_index node.addr 7)) (k - 7))) (le-ltb k 7 high)
          ∙ sym (get_or-append_right (take 7 node.addr) (entries disk (slice_index node.addr 7)) 7 k 0 size high)
    ]

pub large_data : (disk : Disk) (node : Inode) (n : ℕ) → is_large node.mode ≡ true → address disk node (Data n) ≡ slice_index (entries disk (indirect_at disk node (n / 256))) (n % 256)
large_data disk node n large = ap (λ t. cond t (slice_index (entries disk (indirect_at disk node (n / 256))) (n % 256)) (slice_index node.addr n)) large

pub large_indirect : (disk : Disk) (node : Inode) (k : ℕ) → is_large node.mode ≡ true → address disk node (Ind k) ≡ indirect_at disk node k
large_indirect disk node k large = ap (λ t. cond t (indirect_at disk node k) 0) large

pub large_double : (disk : Disk) (node : Inode) → is_large node.mode ≡ true → address disk node Dbl ≡ slice_index node.addr 7
large_double disk node large = ap (λ t. cond t (slice_index node.addr 7) 0) large

same_number : (m n : ℕ) → m / 256 ≡ n / 256 → m % 256 ≡ n % 256 → m ≡ n
same_number m n a b = omega (arith, a, b)

-- what every name keeps, kind by kind
others_by : (old new : Disk) (node next : Inode) (p : BlockName) → is_large node.mode ≡ true → is_large next.mode ≡ true
    → ((m : ℕ) → Data m ≢ p → slice_index (entries new (indirect_at new next (m / 256))) (m % 256) ≡ slice_index (entries old (indirect_at old node (m / 256))) (m % 256))
    → ((k : ℕ) → Ind k ≢ p → indirect_at new next k ≡ indirect_at old node k)
    → (Dbl ≢ p → slice_index next.addr 7 ≡ slice_index node.addr 7)
    → (q : BlockName) → q ≢ p → address new next q ≡ address old node q
others_by old new node next p large large' datas indirect double (Data m) other = large_data new next m large' ∙ datas m other ∙ sym (large_data old node m large)
others_by old new node next p large large' datas indirect double (Ind k) other = large_indirect new next k large' ∙ indirect k other ∙ sym (large_indirect old node k large)
others_by old new node next p large large' datas indirect double Dbl other = large_double new next large' ∙ double other ∙ sym (large_double old node large)

-- A large file gains a data block: an entry of one of its indirect blocks is written.
pub data_gains : (old new : Disk) (node : Inode) (n b d : ℕ) → is_large node.mode ≡ true → length node.addr ≡ 8 → IsApart old (addresses old node) → Takes old b new
    → d ≡ indirect_at old node (n / 256) → d ≢ 0 → b ≢ 0 → n % 256 < length (entries old d) → entries new d ≡ set (entries old d) (n % 256) b → slice_index (entries old d) (n % 256) ≡ 0
    → ((x : ℕ) → x ≢ d → x ≢ b → entries new x ≡ entries old x) → Gains old node new node (Data n) b
data_gains old new node n b d large long apart takes is some some_b fits put none same =
    let seven : ℕ = slice_index node.addr 7 in
    let once : (k : ℕ) → k ≢ 0 → count_by (nat_eq k) (free old) + (cond (nat_eq k (slice_index node.addr 7)) 1 0 + count_by (nat_eq k) (indirects old node) + count_by (nat_eq k) (flat_map (entries old) (indirects old node))) ≤ 1 =
    λ k h. let o = apart.once k h in let c = large_count old node k large in omega (arith, o, c) in
    -- the new block is none of the file's
    let taken : count_by (nat_eq b) (free old) ≡ 1 = let f : count_by (nat_eq b) (free old) ≡ count_by (nat_eq b) (b ∷ free new) = ap (count_by (nat_eq b)) takes.first in let z = takes.fresh in omega (arith, f, z, count_first b (free new)) in
    let not_seven : seven ≢ b = (λ e. let t : cond {A = ℕ} (nat_eq b (slice_index node.addr 7)) 1 0 ≡ 1 = elim (eqb_tells b (slice_index node.addr 7)) [ inl y ↦ ap (λ t. cond t 1 0) y.0 | inr y ↦ absurd (y.1 (sym e)) ] in
    let o = once b some_b in absurd (omega (arith, o, t, taken))) in
    let not_in : count_by (nat_eq b) (indirects old node) ≡ 0 = let o = once b some_b in omega (arith, o, taken) in
    let at : slice_index (indirects old node) (n / 256) ≡ d = sym (indirect_is old node (n / 256) long) ∙ sym is in
    let comes : 1 ≤ count_by (nat_eq d) (indirects old node) = counted_at (indirects old node) (n / 256) d at some in
    let one : count_by (nat_eq d) (indirects old node) ≡ 1 = let o = once d some in omega (arith, o, comes) in
    let seven_other : seven ≢ d = (λ e. let t : cond {A = ℕ} (nat_eq d (slice_index node.addr 7)) 1 0 ≡ 1 = elim (eqb_tells d (slice_index node.addr 7)) [ inl y ↦ ap (λ t. cond t 1 0) y.0 | inr y ↦ absurd (y.1 (sym e)) ] in
    let o = once d some in absurd (omega (arith, o, t, comes))) in
    let far : entries new (slice_index node.addr 7) ≡ entries old (slice_index node.addr 7) = same (slice_index node.addr 7) seven_other not_seven in
    let list : indirects new node ≡ indirects old node = ap (λ l. take 7 node.addr ++ l) far in
    let there : (k : ℕ) → indirect_at new node k ≡ indirect_at old node k = λ k. ap (λ l. cond (nat_lt k 7) (slice_index node.addr k) (slice_index l (k - 7))) far in
    let kept : (x : ℕ) → 1 ≤ count_by (nat_eq x) (indirects old node) → x ≢ d → entries new x ≡ entries old x =
    λ x c other. same x other (λ e. let P : ℕ → Type 0 = λ y. 1 ≤ count_by (nat_eq y) (indirects old node) in let z : 1 ≤ count_by (nat_eq b) (indirects old node) = subst P e c in absurd (omega (arith, z, not_in))) in
    let index_of : (m : ℕ) → m / 256 ≡ n / 256 → m % 256 ≡ n % 256 → m ≡ n = λ m. same_number m n in
    let entry : (m : ℕ) → m ≢ n → slice_index (entries new (indirect_at new node (m / 256))) (m % 256) ≡ slice_index (entries old (indirect_at old node (m / 256))) (m % 256) = λ m other.
    ap (λ x. slice_index (entries new x) (m % 256)) (there (m / 256)) ∙ elim (eqb_tells (indirect_at old node (m / 256)) d) [
      | inl f ↦
          (let place : m / 256 ≡ n / 256 = one_place (indirects old node) (m / 256) (n / 256) d (omega (arith, one)) some (sym (indirect_is old node (m / 256) long) ∙ f.1) at in
          let index : m % 256 ≢ n % 256 = (λ s. other (index_of m place s)) in
          ap (λ x. slice_index (entries new x) (m % 256)) f.1 ∙ ap (λ l. slice_index l (m % 256)) put ∙ get_or-set_other (entries old d) (n % 256) (m % 256) b 0 index ∙ sym (ap (λ x. slice_index (entries old x) (m % 256)) f.1))
      | inr f ↦ elim (eqb_tells (indirect_at old node (m / 256)) b) [
        | inl z ↦ (let c : 1 ≤ count_by (nat_eq b) (indirects old node) = counted_at (indirects old node) (m / 256) b (sym (indirect_is old node (m / 256) long) ∙ z.1) some_b in absurd (omega (arith, c, not_in)))
        | inr z ↦ ap (λ l. slice_index l (m % 256)) (same (indirect_at old node (m / 256)) f.1 z.1)
      ]
    ] in
    record {
      takes = takes;
      here = large_data new node n large ∙ ap (λ x. slice_index (entries new x) (n % 256)) (there (n / 256) ∙ sym is) ∙ ap (λ l. slice_index l (n % 256)) put ∙ get_or-set_same (entries old d) (n % 256) b 0 fits;
      others = others_by old new node node (Data n) large large (λ m other. entry m (λ e. other (ap Data e))) (λ k other. there k) (λ other. refl);
      count = λ k some_k.
          let c_new = large_count new node k large in
          let c_old = large_count old node k large in
          let l : count_by (nat_eq k) (indirects new node) ≡ count_by (nat_eq k) (indirects old node) = ap (count_by (nat_eq k)) list in
          let f : count_by (nat_eq k) (flat_map (entries new) (indirects new node)) ≡ count_by (nat_eq k) (flat_map (entries new) (indirects old node)) = ap (λ l. count_by (nat_eq k) (flat_map (entries new) l)) list in
          let g = flat_changed (entries old) (entries new) (indirects old node) k d one kept in
          let p : count_by (nat_eq k) (entries new d) ≡ count_by (nat_eq k) (set (entries old d) (n % 256) b) = ap (count_by (nat_eq k)) put in
          let s = count_set k (entries old d) (n % 256) b fits in
          let z : cond {A = ℕ} (nat_eq k (get_or (entries old d) (n % 256) 0)) 1 0 ≡ 0 = ap (λ x. cond (nat_eq k x) 1 0) none ∙ ap (λ t. cond t 1 0) (ne_eqb k 0 some_k) in
          omega (arith, c_new, c_old, l, f, g, p, s, z);
    }

-- one element of a list of lists has changed, and none of the others
flat_set : (f g : ℕ → List ℕ) (xs : List ℕ) (k m b : ℕ) → m < length xs → ((x : ℕ) → 1 ≤ count_by (nat_eq x) xs → x ≢ 0 → g x ≡ f x) → g 0 ≡ f 0
    → count_by (nat_eq k) (flat_map g (set xs m b)) + count_by (nat_eq k) (f (get_or xs m 0)) ≡ count_by (nat_eq k) (flat_map f xs) + count_by (nat_eq k) (g b)
flat_set f g [] k m b h same none = absurd (omega (arith, h))
flat_set f g (x ∷ xs) k zero b h same none =
    let rest = flat_all f g xs k (λ y c o. same y (omega (arith, c, count-cons y x xs)) o) none in
    omega (arith, rest, count-append k (f x) (flat_map f xs), count-append k (g b) (flat_map g xs)) where
      flat_all : (f g : ℕ → List ℕ) (xs : List ℕ) (k : ℕ) → ((x : ℕ) → 1 ≤ count_by (nat_eq x) xs → x ≢ 0 → g x ≡ f x) → g 0 ≡ f 0 → count_by (nat_eq k) (flat_map g xs) ≡ count_by (nat_eq k) (flat_map f xs)
      flat_all f g [] k same none = refl
      flat_all f g (x ∷ xs) k same none =
          let here : count_by (nat_eq k) (g x) ≡ count_by (nat_eq k) (f x) = ap (count_by (nat_eq k)) (elim (eqb_tells x 0) [ inl e ↦ ap g e.1 ∙ none ∙ ap f (sym e.1) | inr e ↦ same x (omega (arith, count_first x xs)) e.1 ]) in
          let rest = flat_all f g xs k (λ y c o. same y (omega (arith, c, count-cons y x xs)) o) none in
          omega (arith, here, rest, count-append k (g x) (flat_map g xs), count-append k (f x) (flat_map f xs))
flat_set f g (x ∷ xs) k (suc m) b h same none =
    let here : count_by (nat_eq k) (g x) ≡ count_by (nat_eq k) (f x) = ap (count_by (nat_eq k)) (elim (eqb_tells x 0) [ inl e ↦ ap g e.1 ∙ none ∙ ap f (sym e.1) | inr e ↦ same x (omega (arith, count_first x xs)) e.1 ]) in
    let rest = flat_set f g xs k m b (omega (arith, h)) (λ y c o. same y (omega (arith, c, count-cons y x xs)) o) none in
    omega (arith, here, rest, count-append k (g x) (flat_map g (set xs m b)), count-append k (f x) (flat_map f xs))

-- A large file gains an indirect block without entries: its list of indirect blocks has it at one place.
pub indirect_gains : (old new : Disk) (node next : Inode) (m b : ℕ) → is_large node.mode ≡ true → is_large next.mode ≡ true → length node.addr ≡ 8 → length next.addr ≡ 8 → IsApart old (addresses old node) → Takes old b new → b ≢ 0
    → slice_index next.addr 7 ≡ slice_index node.addr 7 → indirects new next ≡ set (indirects old node) m b → m < length (indirects old node) → slice_index (indirects old node) m ≡ 0
    → ((x : ℕ) → x ≢ b → x ≢ slice_index node.addr 7 → entries new x ≡ entries old x) → ((j : ℕ) → slice_index (entries new b) j ≡ 0) → ((k : ℕ) → k ≢ 0 → count_by (nat_eq k) (entries new b) ≡ 0)
    → Gains old node new next (Ind m) b
indirect_gains old new node next m b large large' long long' apart takes some_b seven list fits none same zeros no_counts =
    let once : (k : ℕ) → k ≢ 0 → count_by (nat_eq k) (free old) + (cond (nat_eq k (slice_index node.addr 7)) 1 0 + count_by (nat_eq k) (indirects old node) + count_by (nat_eq k) (flat_map (entries old) (indirects old node))) ≤ 1 =
    λ k h. let o = apart.once k h in let c = large_count old node k large in omega (arith, o, c) in
    let taken : count_by (nat_eq b) (free old) ≡ 1 = let f : count_by (nat_eq b) (free old) ≡ count_by (nat_eq b) (b ∷ free new) = ap (count_by (nat_eq b)) takes.first in let z = takes.fresh in omega (arith, f, z, count_first b (free new)) in
    let not_in : count_by (nat_eq b) (indirects old node) ≡ 0 = let o = once b some_b in omega (arith, o, taken) in
    let kept : (x : ℕ) → 1 ≤ count_by (nat_eq x) (indirects old node) → x ≢ 0 → entries new x ≡ entries old x = λ x c some. same x
    (λ e. let P : ℕ → Type 0 = λ y. 1 ≤ count_by (nat_eq y) (indirects old node) in let z : 1 ≤ count_by (nat_eq b) (indirects old node) = subst P e c in absurd (omega (arith, z, not_in)))
    (λ e. let t : cond {A = ℕ} (nat_eq x (slice_index node.addr 7)) 1 0 ≡ 1 = elim (eqb_tells x (slice_index node.addr 7)) [ inl y ↦ ap (λ t. cond t 1 0) y.0 | inr y ↦ absurd (y.1 e) ] in let o = once x some in absurd (omega (arith, o, t, c))) in
    let empty : entries new 0 ≡ entries old 0 = no_entries new ∙ sym (no_entries old) in
    let place : (j : ℕ) → indirect_at new next j ≡ slice_index (set (indirects old node) m b) j = λ j. indirect_is new next j long' ∙ ap (λ l. slice_index l j) list in
    let here : indirect_at new next m ≡ b = place m ∙ get_or-set_same (indirects old node) m b 0 fits in
    let there : (j : ℕ) → j ≢ m → indirect_at new next j ≡ indirect_at old node j = λ j other. place j ∙ get_or-set_other (indirects old node) m j b 0 other ∙ sym (indirect_is old node j long) in
    let entry : (n : ℕ) → slice_index (entries new (indirect_at new next (n / 256))) (n % 256) ≡ slice_index (entries old (indirect_at old node (n / 256))) (n % 256) = λ n. elim (eqb_tells (n / 256) m) [
      | inl f ↦
          (let was : indirect_at old node (n / 256) ≡ 0 = indirect_is old node (n / 256) long ∙ ap (slice_index (indirects old node)) f.1 ∙ none in
          ap (λ j. slice_index (entries new (indirect_at new next j)) (n % 256)) f.1 ∙ ap (λ x. slice_index (entries new x) (n % 256)) here ∙ zeros (n % 256)
          ∙ sym (ap (λ x. slice_index (entries old x) (n % 256)) was ∙ ap (λ l. slice_index l (n % 256)) (no_entries old)))
      | inr f ↦
          ap (λ x. slice_index (entries new x) (n % 256)) (there (n / 256) f.1) ∙ ap (λ l. slice_index l (n % 256)) (elim (eqb_tells (indirect_at old node (n / 256)) 0) [
            | inl z ↦ ap (entries new) z.1 ∙ empty ∙ ap (entries old) (sym z.1)
            | inr z ↦ kept (indirect_at old node (n / 256)) (counted_at (indirects old node) (n / 256) (indirect_at old node (n / 256)) (sym (indirect_is old node (n / 256) long)) z.1) z.1
          ])
    ] in
    record {
      takes = takes;
      here = large_indirect new next m large' ∙ here;
      others = others_by old new node next (Ind m) large large' (λ n other. entry n) (λ k other. there k (λ e. other (ap Ind e))) (λ other. seven);
      count = λ k some_k.
          let c_new = large_count new next k large' in
          let c_old = large_count old node k large in
          let s7 : cond {A = ℕ} (nat_eq k (slice_index next.addr 7)) 1 0 ≡ cond {A = ℕ} (nat_eq k (slice_index node.addr 7)) 1 0 = ap (λ x. cond (nat_eq k x) 1 0) seven in
          let l : count_by (nat_eq k) (indirects new next) ≡ count_by (nat_eq k) (set (indirects old node) m b) = ap (count_by (nat_eq k)) list in
          let f : count_by (nat_eq k) (flat_map (entries new) (indirects new next)) ≡ count_by (nat_eq k) (flat_map (entries new) (set (indirects old node) m b)) = ap (λ l. count_by (nat_eq k) (flat_map (entries new) l)) list in
          let g = flat_set (entries old) (entries new) (indirects old node) k m b fits kept empty in
          let w : count_by (nat_eq k) (entries old (get_or (indirects old node) m 0)) ≡ 0 = ap (λ x. count_by (nat_eq k) (entries old x)) none ∙ ap (count_by (nat_eq k)) (no_entries old) in
          let z : count_by (nat_eq k) (entries new b) ≡ 0 = no_counts k some_k in
          let s = count_set k (indirects old node) m b fits in
          let t : cond {A = ℕ} (nat_eq k (get_or (indirects old node) m 0)) 1 0 ≡ 0 = ap (λ x. cond (nat_eq k x) 1 0) none ∙ ap (λ t. cond t 1 0) (ne_eqb k 0 some_k) in
          omega (arith, c_new, c_old, s7, l, f, g, w, z, s, t);
    }

-- where all are 0, nothing is named
flat_zero : (disk : Disk) (xs : List ℕ) (k : ℕ) → ((j : ℕ) → slice_index xs j ≡ 0) → count_by (nat_eq k) (flat_map (entries disk) xs) ≡ 0
flat_zero disk [] k zeros = refl
flat_zero disk (x ∷ xs) k zeros =
    let none : count_by (nat_eq k) (entries disk x) ≡ 0 = ap (λ y. count_by (nat_eq k) (entries disk y)) (zeros 0) ∙ ap (count_by (nat_eq k)) (no_entries disk) in
    let rest = flat_zero disk xs k (λ j. zeros (suc j)) in
    omega (arith, none, rest, count-append k (entries disk x) (flat_map (entries disk) xs))

-- A large file gains its double indirect block, without entries.
pub double_gains : (old new : Disk) (node next : Inode) (b : ℕ) → is_large node.mode ≡ true → is_large next.mode ≡ true → length node.addr ≡ 8 → length next.addr ≡ 8 → IsApart old (addresses old node) → Takes old b new → b ≢ 0
    → slice_index node.addr 7 ≡ 0 → slice_index next.addr 7 ≡ b → take 7 next.addr ≡ take 7 node.addr
    → ((x : ℕ) → x ≢ b → entries new x ≡ entries old x) → ((j : ℕ) → slice_index (entries new b) j ≡ 0) → ((k : ℕ) → k ≢ 0 → count_by (nat_eq k) (entries new b) ≡ 0)
    → Gains old node new next Dbl b
double_gains old new node next b large large' long long' apart takes some_b none seven near same zeros no_counts =
    let once : (k : ℕ) → k ≢ 0 → count_by (nat_eq k) (free old) + (cond (nat_eq k (slice_index node.addr 7)) 1 0 + count_by (nat_eq k) (indirects old node) + count_by (nat_eq k) (flat_map (entries old) (indirects old node))) ≤ 1 =
    λ k h. let o = apart.once k h in let c = large_count old node k large in omega (arith, o, c) in
    let taken : count_by (nat_eq b) (free old) ≡ 1 = let f : count_by (nat_eq b) (free old) ≡ count_by (nat_eq b) (b ∷ free new) = ap (count_by (nat_eq b)) takes.first in let z = takes.fresh in omega (arith, f, z, count_first b (free new)) in
    let not_in : count_by (nat_eq b) (indirects old node) ≡ 0 = let o = once b some_b in omega (arith, o, taken) in
    let kept : (x : ℕ) → 1 ≤ count_by (nat_eq x) (indirects old node) → x ≢ 0 → entries new x ≡ entries old x = λ x c some. same x
    (λ e. let P : ℕ → Type 0 = λ y. 1 ≤ count_by (nat_eq y) (indirects old node) in let z : 1 ≤ count_by (nat_eq b) (indirects old node) = subst P e c in absurd (omega (arith, z, not_in))) in
    let empty : entries new 0 ≡ entries old 0 = no_entries new ∙ sym (no_entries old) in
    let was : indirects old node ≡ take 7 node.addr ++ [] = ap (λ x. take 7 node.addr ++ entries old x) none ∙ ap (λ l. take 7 node.addr ++ l) (no_entries old) in
    let is : indirects new next ≡ take 7 node.addr ++ entries new b = ap (λ l. l ++ entries new (slice_index next.addr 7)) near ∙ ap (λ x. take 7 node.addr ++ entries new x) seven in
    let size : length (take 7 node.addr) ≡ 7 = length-take-le 7 node.addr (omega (arith, long)) in
    let there : (j : ℕ) → indirect_at new next j ≡ indirect_at old node j = λ j.
    indirect_is new next j long' ∙ ap (λ l. slice_index l j) is ∙ elim (cases_lt j 7) [
      | inl low ↦ get_or_append_left (take 7 node.addr) (entries new b) 0 j (omega (arith, size, low)) ∙ sym (get_or_append_left (take 7 node.addr) [] 0 j (omega (arith, size, low)))
      | inr high ↦ get_or-append_right (take 7 node.addr) (entries new b) 7 j 0 size high ∙ zeros (j - 7) ∙ sym (get_or-append_right (take 7 node.addr) [] 7 j 0 size high)
    ] ∙ ap (λ l. slice_index l j) (sym was) ∙ sym (indirect_is old node j long) in
    let entry : (n : ℕ) → slice_index (entries new (indirect_at new next (n / 256))) (n % 256) ≡ slice_index (entries old (indirect_at old node (n / 256))) (n % 256) = λ n.
    ap (λ x. slice_index (entries new x) (n % 256)) (there (n / 256)) ∙ ap (λ l. slice_index l (n % 256)) (elim (eqb_tells (indirect_at old node (n / 256)) 0) [
      | inl z ↦ ap (entries new) z.1 ∙ empty ∙ ap (entries old) (sym z.1)
      | inr z ↦ kept (indirect_at old node (n / 256)) (counted_at (indirects old node) (n / 256) (indirect_at old node (n / 256)) (sym (indirect_is old node (n / 256) long)) z.1) z.1
    ]) in
    record {
      takes = takes;
      here = large_double new next large' ∙ seven;
      others = others_by old new node next Dbl large large' (λ n other. entry n) (λ k other. there k) (λ other. absurd (other refl));
      count = λ k some_k.
          let c_new = large_count new next k large' in
          let c_old = large_count old node k large in
          let s7 : cond {A = ℕ} (nat_eq k (slice_index next.addr 7)) 1 0 ≡ cond {A = ℕ} (nat_eq k b) 1 0 = ap (λ x. cond (nat_eq k x) 1 0) seven in
          let o7 : cond {A = ℕ} (nat_eq k (slice_index node.addr 7)) 1 0 ≡ 0 = ap (λ x. cond (nat_eq k x) 1 0) none ∙ ap (λ t. cond t 1 0) (ne_eqb k 0 some_k) in
          let z : count_by (nat_eq k) (entries new b) ≡ 0 = no_counts k some_k in
          let l : count_by (nat_eq k) (indirects new next) ≡ count_by (nat_eq k) (take 7 node.addr ++ entries new b) = ap (count_by (nat_eq k)) is in
          let m : count_by (nat_eq k) (indirects old node) ≡ count_by (nat_eq k) (take 7 node.addr ++ []) = ap (count_by (nat_eq k)) was in
          let f : count_by (nat_eq k) (flat_map (entries new) (indirects new next)) ≡ count_by (nat_eq k) (flat_map (entries new) (take 7 node.addr ++ entries new b)) = ap (λ l. count_by (nat_eq k) (flat_map (entries new) l)) is in
          let g : count_by (nat_eq k) (flat_map (entries old) (indirects old node)) ≡ count_by (nat_eq k) (flat_map (entries old) (take 7 node.addr ++ [])) = ap (λ l. count_by (nat_eq k) (flat_map (entries old) l)) was in
          let n : count_by (nat_eq b) (take 7 node.addr) ≡ 0 = let w : count_by (nat_eq b) (indirects old node) ≡ count_by (nat_eq b) (take 7 node.addr ++ []) = ap (count_by (nat_eq b)) was in omega (arith, w, not_in, count-append b (take 7 node.addr) []) in
          let h = flat_kept (entries old) (entries new) (take 7 node.addr) k b n (λ x c o. same x o) in
          let y = flat_zero new (entries new b) k zeros in
          omega (arith, c_new, c_old, s7, o7, z, l, m, f, g, h, y, count-append k (take 7 node.addr) (entries new b), count-append k (take 7 node.addr) [], flat_parts (entries new) (take 7 node.addr) (entries new b) k, flat_parts (entries old) (take 7 node.addr) [] k);
    }

-- what every name but the first indirect block keeps where a small file becomes large
converted : (old new : Disk) (node next : Inode) → is_large node.mode ≡ false → is_large next.mode ≡ true
    → ((m : ℕ) → slice_index (entries new (indirect_at new next (m / 256))) (m % 256) ≡ slice_index node.addr m)
    → ((j : ℕ) → j ≢ 0 → indirect_at new next j ≡ 0) → slice_index next.addr 7 ≡ 0
    → (q : BlockName) → q ≢ Ind 0 → address new next q ≡ address old node q
converted old new node next small large entry later seven (Data m) other = large_data new next m large ∙ entry m ∙ sym (small_address old node m small)
converted old new node next small large entry later seven (Ind k) other = large_indirect new next k large ∙ later k (λ e. other (ap Ind e)) ∙ sym (small_indirect old node k small)
converted old new node next small large entry later seven Dbl other = large_double new next large ∙ seven ∙ sym (small_double old node small)

-- A small file becomes large: its first indirect block has its addresses.
pub convert_gains : (old new : Disk) (node next : Inode) (b : ℕ) → is_large node.mode ≡ false → is_large next.mode ≡ true → length node.addr ≡ 8 → Takes old b new
    → next.addr ≡ b ∷ 0 ∷ 0 ∷ 0 ∷ 0 ∷ 0 ∷ 0 ∷ 0 ∷ [] → ((j : ℕ) → slice_index (entries new b) j ≡ slice_index node.addr j) → ((k : ℕ) → k ≢ 0 → count_by (nat_eq k) (entries new b) ≡ count_by (nat_eq k) node.addr)
    → Gains old node new next (Ind 0) b
convert_gains old new node next b small large long takes is same counts =
    let long' : length next.addr ≡ 8 = ap length is in
    let seven : slice_index next.addr 7 ≡ 0 = ap (λ l. slice_index l 7) is in
    let list : indirects new next ≡ b ∷ 0 ∷ 0 ∷ 0 ∷ 0 ∷ 0 ∷ 0 ∷ [] = ap (λ l. take 7 l ++ entries new (slice_index l 7)) is ∙ ap (λ l. b ∷ 0 ∷ 0 ∷ 0 ∷ 0 ∷ 0 ∷ 0 ∷ l) (no_entries new) in
    let place : (j : ℕ) → indirect_at new next j ≡ slice_index (b ∷ 0 ∷ 0 ∷ 0 ∷ 0 ∷ 0 ∷ 0 ∷ []) j = λ j. indirect_is new next j long' ∙ ap (λ l. slice_index l j) list in
    let later : (j : ℕ) → j ≢ 0 → indirect_at new next j ≡ 0 = λ j other. place j ∙ behind b j other in
    let entry : (m : ℕ) → slice_index (entries new (indirect_at new next (m / 256))) (m % 256) ≡ slice_index node.addr m = λ m. elim (eqb_tells (m / 256) 0) [
      | inl f ↦ (let n = f.1 in let low : m % 256 ≡ m = omega (arith, n) in
          ap (λ j. slice_index (entries new (indirect_at new next j)) (m % 256)) f.1 ∙ ap (λ x. slice_index (entries new x) (m % 256)) (place 0) ∙ same (m % 256) ∙ ap (slice_index node.addr) low)
      | inr f ↦ (let n = f.1 in let high : 8 ≤ m = elim (cases_lt m 256) [ inl h ↦ absurd (n (omega (arith, h))) | inr h ↦ omega (arith, h) ] in
          ap (λ x. slice_index (entries new x) (m % 256)) (later (m / 256) f.1) ∙ ap (λ l. slice_index l (m % 256)) (no_entries new) ∙ sym (past node.addr m (omega (arith, long, high))))
    ] in
    record {
      takes = takes;
      here = large_indirect new next 0 large ∙ place 0;
      others = converted old new node next small large entry later seven;
      count = λ k some_k.
          let c = large_count new next k large in
          let o : count_by (nat_eq k) (addresses old node) ≡ count_by (nat_eq k) node.addr = ap (count_by (nat_eq k)) (small_addresses old node small) in
          let no : cond {A = ℕ} (nat_eq k 0) 1 0 ≡ 0 = ap (λ t. cond t 1 0) (ne_eqb k 0 some_k) in
          let s7 : cond {A = ℕ} (nat_eq k (slice_index next.addr 7)) 1 0 ≡ 0 = ap (λ x. cond (nat_eq k x) 1 0) seven ∙ no in
          let zs : List ℕ = 0 ∷ 0 ∷ 0 ∷ 0 ∷ 0 ∷ 0 ∷ [] in
          let l : count_by (nat_eq k) (indirects new next) ≡ count_by (nat_eq k) (b ∷ 0 ∷ 0 ∷ 0 ∷ 0 ∷ 0 ∷ 0 ∷ []) = ap (count_by (nat_eq k)) list in
          let none : count_by (nat_eq k) (0 ∷ 0 ∷ 0 ∷ 0 ∷ 0 ∷ 0 ∷ []) ≡ 0 = zeros_count k no in
          let f : count_by (nat_eq k) (flat_map (entries new) (indirects new next)) ≡ count_by (nat_eq k) (entries new b ++ flat_map (entries new) (0 ∷ 0 ∷ 0 ∷ 0 ∷ 0 ∷ 0 ∷ [])) = ap (λ l. count_by (nat_eq k) (flat_map (entries new) l)) list in
          let y : count_by (nat_eq k) (flat_map (entries new) (0 ∷ 0 ∷ 0 ∷ 0 ∷ 0 ∷ 0 ∷ [])) ≡ 0 = flat_zero new (0 ∷ 0 ∷ 0 ∷ 0 ∷ 0 ∷ 0 ∷ []) k six in
          let w = counts k some_k in
          omega (arith, c, o, s7, l, none, f, y, w, count-cons k b (0 ∷ 0 ∷ 0 ∷ 0 ∷ 0 ∷ 0 ∷ []), count-append k (entries new b) (flat_map (entries new) (0 ∷ 0 ∷ 0 ∷ 0 ∷ 0 ∷ 0 ∷ [])));
    } where
      six : (j : ℕ) → slice_index (0 ∷ 0 ∷ 0 ∷ 0 ∷ 0 ∷ 0 ∷ []) j ≡ 0
      six zero = refl
      six (suc zero) = refl
      six (suc (suc zero)) = refl
      six (suc (suc (suc zero))) = refl
      six (suc (suc (suc (suc zero)))) = refl
      six (suc (suc (suc (suc (suc zero))))) = refl
      six (suc (suc (suc (suc (suc (suc j)))))) = refl

      behind : (b j : ℕ) → j ≢ 0 → slice_index (b ∷ 0 ∷ 0 ∷ 0 ∷ 0 ∷ 0 ∷ 0 ∷ []) j ≡ 0
      behind b zero other = absurd (other refl)
      behind b (suc j) other = six j

      zeros_count : (k : ℕ) → cond {A = ℕ} (nat_eq k 0) 1 0 ≡ 0 → count_by (nat_eq k) (0 ∷ 0 ∷ 0 ∷ 0 ∷ 0 ∷ 0 ∷ []) ≡ 0
      zeros_count k e = omega (arith, e, count-cons k 0 (0 ∷ 0 ∷ 0 ∷ 0 ∷ 0 ∷ []), count-cons k 0 (0 ∷ 0 ∷ 0 ∷ 0 ∷ []), count-cons k 0 (0 ∷ 0 ∷ 0 ∷ []), count-cons k 0 (0 ∷ 0 ∷ []), count-cons k 0 (0 ∷ []), count-cons k 0 [])
