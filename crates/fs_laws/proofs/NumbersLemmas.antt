-- Free numbers, and how they are drawn.
use Rattle.std.proofs.Common.{◌≡◌, ◌+◌, ◌-◌, ◌<◌, ◌≤◌, ◌==◌, ◌&&◌, ℕ, zero, suc, Bool, true, false, not, cond, List, [], ◌∷◌, ◌++◌, nat_le, Some, None, refl, sym, ap, ◌∙◌, arith, length, take, min}
use Rattle.std.proofs.lemmas.Bool.Decides.{nat_tests}
use Rattle.std.proofs.lemmas.List.{take-append-le, append-nil}
use Rattle.std.proofs.lemmas.List.Elements.{filter-append}
use Rattle.std.proofs.lemmas.List.FromFn.{get_or-map-range_with_len}
use Rattle.std.proofs.Math.Seq.{take-length}
use Rattle.std.specs.Option.{is_none}
use Rattle.std.specs.List.{filter, range_with_len}
use Rattle.fs_codec.specs.Fields.{Inode}
use Rattle.fs_codec.specs.Disk.{Disk, inode, inode_count}
use Rattle.fs_codec.specs.Store.{Node, Store, node_numbered}
use Rattle.fs_codec.specs.Stands.{node_of, store_of}
use Rattle.fs_laws.specs.Numbers.{is_free_number, refill}

none_when : (t : Bool) (node : Node) → is_none (cond t None (Some node)) ≡ t
none_when true node = refl
none_when false node = refl

-- an inode is no node exactly where its mode is 0
pub no_node : (disk : Disk) (node : Inode) → is_none (node_of disk node) ≡ (node.mode == 0)
no_node disk node = none_when (node.mode == 0) _

-- the node of a number
pub node_at : (disk : Disk) (i : ℕ) → 1 ≤ i → i ≤ inode_count disk → node_numbered (store_of disk) i ≡ node_of disk (inode disk i)
unfolding store_of
node_at disk zero low high = absurd (omega (arith, low))
node_at disk (suc m) low high =
    get_or-map-range_with_len (λ i. node_of disk (inode disk i)) 1 (inode_count disk) m (suc m) None (omega (arith, high)) (omega arith)

count_of : (disk : Disk) → (store_of disk).count ≡ inode_count disk
unfolding store_of
count_of disk = refl

le_true : (a b : ℕ) → a ≤ b → nat_le a b ≡ true
le_true a b h = grind (arith, nat_tests)

le_false : (a b : ℕ) → b < a → nat_le a b ≡ false
le_false a b h = grind (arith, nat_tests)

three : (a b c d : Bool) → a ≡ true → b ≡ true → c ≡ d → a && b && c ≡ d
three true true c d p q r = r
three true false c d p q r = absurd (cc)
three false b c d p q r = absurd (cc)

second_false : (a b c : Bool) → b ≡ false → a && b && c ≡ false
second_false true true c h = absurd (cc)
second_false true false c h = refl
second_false false b c h = refl

-- whether a number is free
pub free_within : (disk : Disk) (i : ℕ) → 1 ≤ i → i ≤ inode_count disk → is_free_number (store_of disk) i ≡ ((inode disk i).mode == 0)
free_within disk i low high =
    three (nat_le 1 i) (nat_le i (store_of disk).count) (is_none (node_numbered (store_of disk) i)) ((inode disk i).mode == 0) (le_true 1 i low)
    (ap (nat_le i) (count_of disk) ∙ le_true i (inode_count disk) high) (ap is_none (node_at disk i low high) ∙ no_node disk (inode disk i))

pub free_none : (disk : Disk) (i : ℕ) → i < 1 → is_free_number (store_of disk) i ≡ false
free_none disk i low = ap (λ t. t && nat_le i (store_of disk).count && is_none (node_numbered (store_of disk) i)) (le_false 1 i low)

pub free_above : (disk : Disk) (i : ℕ) → inode_count disk < i → is_free_number (store_of disk) i ≡ false
free_above disk i high =
    second_false (nat_le 1 i) (nat_le i (store_of disk).count) (is_none (node_numbered (store_of disk) i)) (ap (nat_le i) (count_of disk) ∙ le_false i (inode_count disk) high)

-- the numbers from a on, and more of them
range_parts : (a n m : ℕ) → range_with_len a (n + m) ≡ range_with_len a n ++ range_with_len (a + n) m
range_parts a zero m = let e : 0 + m ≡ m = omega arith in let b : a ≡ a + 0 = omega arith in ap (λ k. range_with_len a k) e ∙ ap (λ x. range_with_len x m) b
range_parts a (suc n) m =
    let e : suc n + m ≡ suc (n + m) = omega arith in
    let b : a + 1 + n ≡ a + suc n = omega arith in
    ap (λ k. range_with_len a k) e ∙ ap (λ l. a ∷ l) (range_parts (a + 1) n m) ∙ ap (λ x. a ∷ (range_with_len (a + 1) n ++ range_with_len x m)) b

-- the numbers that pass a test, one number on
pub passing_more : (p : ℕ → Bool) (n : ℕ) → filter p (range_with_len 1 (n + 1)) ≡ filter p (range_with_len 1 n) ++ filter p ((n + 1) ∷ [])
passing_more p n =
    let e : 1 + n ≡ n + 1 = omega arith in
    ap (filter p) (range_parts 1 n 1) ∙ filter-append p (range_with_len 1 n) (range_with_len (1 + n) 1) ∙ ap (λ b. filter p (range_with_len 1 n) ++ filter p (b ∷ [])) e

-- Once there are a hundred, those that follow do not count.
pub passing_enough : (p : ℕ → Bool) (n m : ℕ) (xs : List ℕ) → xs ≡ filter p (range_with_len 1 n) → length xs ≡ 100 → n ≤ m → xs ≡ take 100 (filter p (range_with_len 1 m))
passing_enough p n m xs is long h =
    let far : n + (m - n) ≡ m = omega (arith, h) in
    let all : filter p (range_with_len 1 m) ≡ xs ++ filter p (range_with_len (1 + n) (m - n)) =
    ap (λ k. filter p (range_with_len 1 k)) (sym far) ∙ ap (filter p) (range_parts 1 n (m - n)) ∙ filter-append p (range_with_len 1 n) (range_with_len (1 + n) (m - n))
    ∙ ap (λ l. l ++ filter p (range_with_len (1 + n) (m - n))) (sym is) in
    sym (ap (take 100) all ∙ take-append-le 100 xs (filter p (range_with_len (1 + n) (m - n))) (omega (arith, long)) ∙ ap (λ k. take k xs) (sym long) ∙ take-length xs)

pub passing_few : (p : ℕ → Bool) (m : ℕ) (xs : List ℕ) → xs ≡ filter p (range_with_len 1 m) → length xs ≤ 100 → xs ≡ take 100 (filter p (range_with_len 1 m))
passing_few p m xs is few = sym (ap (take 100) (sym is) ∙ take_few xs 100 few) where
  take_few : (xs : List ℕ) (n : ℕ) → length xs ≤ n → take n xs ≡ xs
  take_few [] zero h = refl
  take_few [] (suc n) h = refl
  take_few (x ∷ xs) zero h = absurd (omega (arith, h))
  take_few (x ∷ xs) (suc n) h = ap (λ l. x ∷ l) (take_few xs n (omega (arith, h)))

pub passing_yes : (p : ℕ → Bool) (n : ℕ) → p (n + 1) ≡ true → filter p (range_with_len 1 (n + 1)) ≡ filter p (range_with_len 1 n) ++ (n + 1) ∷ []
passing_yes p n is = passing_more p n ∙ ap (λ t. filter p (range_with_len 1 n) ++ cond t ((n + 1) ∷ []) []) is

pub passing_no : (p : ℕ → Bool) (n : ℕ) → p (n + 1) ≡ false → filter p (range_with_len 1 (n + 1)) ≡ filter p (range_with_len 1 n)
passing_no p n is = passing_more p n ∙ ap (λ t. filter p (range_with_len 1 n) ++ cond t ((n + 1) ∷ []) []) is ∙ append-nil (filter p (range_with_len 1 n))

-- what has been found up to a number is what fills the list, where it is a hundred, or where no number is left
pub refill_full : (store : Store) (r : ℕ → Bool) (n : ℕ) (xs : List ℕ) → xs ≡ filter (λ i. is_free_number store i && not (r i)) (range_with_len 1 n) → length xs ≡ 100 → n ≤ min store.count 65535 → xs ≡ refill store r
refill_full store r n xs is long h = passing_enough (λ i. is_free_number store i && not (r i)) n (min store.count 65535) xs is long h

pub refill_end : (store : Store) (r : ℕ → Bool) (n : ℕ) (xs : List ℕ) → xs ≡ filter (λ i. is_free_number store i && not (r i)) (range_with_len 1 n) → length xs ≤ 100 → n ≡ min store.count 65535 → xs ≡ refill store r
refill_end store r n xs is few e = passing_few (λ i. is_free_number store i && not (r i)) (min store.count 65535) xs (is ∙ ap (λ m. filter (λ i. is_free_number store i && not (r i)) (range_with_len 1 m)) e) few
