-- The body of a node, byte by byte.
use Rattle.std.proofs.Common.{◌≡◌, ◌+◌, ◌-◌, ◌*◌, ◌<◌, ◌≤◌, ◌++◌, inl, inr, ℕ, zero, suc, Bool, true, false, cond, List, [], ◌∷◌, length, length-append, replicate, slice_index, refl, sym, ap, ◌∙◌, arith}
use Rattle.std.proofs.lemmas.Bool.{cases_lt}
use Rattle.std.proofs.lemmas.List.{get_or_append_left, get_or-append_right, length-replicate}
use Rattle.std.specs.List.{flat_map, range_with_len}
use Rattle.fs_codec.specs.Fields.{Inode}
use Rattle.fs_codec.specs.Disk.{Disk}
use Rattle.fs_codec.specs.Held.{address}
use Rattle.bmap_path.specs.declared.BlockName.TheVariants.{Data}
use Rattle.fs_codec.specs.Stands.{is_held, one_past, data_of, body_of}

flat_long : (f : ℕ → List ℕ) (a n : ℕ) → ((j : ℕ) → length (f j) ≡ 512) → length (flat_map f (range_with_len a n)) ≡ 512 * n
flat_long f a zero each = refl
flat_long f a (suc n) each = length-append (f a) (flat_map f (range_with_len (a + 1) n)) ∙ (let h = each a in let r = flat_long f (a + 1) n each in omega (arith, h, r))

flat_byte : (f : ℕ → List ℕ) (a n i k : ℕ) → ((j : ℕ) → length (f j) ≡ 512) → i < n → k < 512 → slice_index (flat_map f (range_with_len a n)) (512 * i + k) ≡ slice_index (f (a + i)) k
flat_byte f a zero i k each h small = absurd (omega (arith, h))
flat_byte f a (suc n) zero k each h small =
    let here : 512 * zero + k ≡ k = omega arith in
    let first : a + 0 ≡ a = omega arith in
    ap (slice_index (f a ++ flat_map f (range_with_len (a + 1) n))) here ∙ get_or_append_left (f a) (flat_map f (range_with_len (a + 1) n)) 0 k (let l = each a in omega (arith, l, small)) ∙ ap (λ j. slice_index (f j) k) (sym first)
flat_byte f a (suc n) (suc i) k each h small =
    let there : 512 * suc i + k - 512 ≡ 512 * i + k = omega arith in
    let next : a + 1 + i ≡ a + suc i = omega arith in
    get_or-append_right (f a) (flat_map f (range_with_len (a + 1) n)) 512 (512 * suc i + k) 0 (each a) (omega arith)
    ∙ ap (slice_index (flat_map f (range_with_len (a + 1) n))) there ∙ flat_byte f (a + 1) n i k each (omega (arith, h)) small ∙ ap (λ j. slice_index (f j) k) next

pub past : (xs : List ℕ) (j : ℕ) → length xs ≤ j → slice_index xs j ≡ 0
past [] j h = refl
past (x ∷ xs) zero h = absurd (omega (arith, h))
past (x ∷ xs) (suc j) h = past xs j (omega (arith, h))

pub zero_at : (n k : ℕ) → slice_index (replicate n 0) k ≡ 0
zero_at zero k = refl
zero_at (suc n) zero = refl
zero_at (suc n) (suc k) = zero_at n k

past_step : (test : ℕ → Bool) (n m : ℕ) → m < suc n → test m ≡ true → (m < n → test m ≡ true → m < one_past test n) → m < one_past test (suc n)
past_step test n m h is rest = by (test n) refl where
  by : (t : Bool) → test n ≡ t → m < cond t (n + 1) (one_past test n)
  by true e = omega (arith, h)
  by false e = rest (elim (cases_lt m n) [ inl y ↦ y | inr y ↦ (let s : m ≡ n = omega (arith, h, y) in let z : test n ≡ true = ap test (sym s) ∙ is in absurd (cc)) ]) is

-- what passes a test lies below the end
pub below_past : (test : ℕ → Bool) (n m : ℕ) → m < n → test m ≡ true → m < one_past test n
below_past test zero m h is = absurd (omega (arith, h))
below_past test (suc n) m h is = past_step test n m h is (below_past test n m)

-- a data block that is held is a block of the disk
pub data_long : (disk : Disk) (node : Inode) (n : ℕ) → (is_held disk node (Data n) ≡ true → length (disk (address disk node (Data n))) ≡ 512) → length (data_of disk node n) ≡ 512
data_long disk node n each = by (is_held disk node (Data n)) refl where
  by : (t : Bool) → is_held disk node (Data n) ≡ t → length (cond t (disk (address disk node (Data n))) (replicate 512 0)) ≡ 512
  by true e = each e
  by false e = length-replicate {A = ℕ} 512 0

-- The body has 512 bytes for each block up to the last that is held.
pub body_long : (disk : Disk) (node : Inode) → ((j : ℕ) → length (data_of disk node j) ≡ 512) → length (body_of disk node) ≡ 512 * one_past (λ n. is_held disk node (Data n)) 67328
unfolding body_of
body_long disk node each = flat_long (data_of disk node) 0 (one_past (λ n. is_held disk node (Data n)) 67328) each

-- Each byte of the body is the byte of the data block that is held there, or 0.
pub body_byte : (disk : Disk) (node : Inode) (n k : ℕ) → ((j : ℕ) → length (data_of disk node j) ≡ 512) → n < 67328 → k < 512 → slice_index (body_of disk node) (512 * n + k) ≡ slice_index (data_of disk node n) k
unfolding body_of
body_byte disk node n k each h small =
    let test : ℕ → Bool = λ n. is_held disk node (Data n) in
    let end : ℕ = one_past (λ n. is_held disk node (Data n)) 67328 in
    let first : 0 + n ≡ n = omega arith in
    elim (cases_lt n (one_past (λ n. is_held disk node (Data n)) 67328)) [
      | inl low ↦ flat_byte (data_of disk node) 0 (one_past (λ n. is_held disk node (Data n)) 67328) n k each low small ∙ ap (λ j. slice_index (data_of disk node j) k) first
      | inr high ↦ past (flat_map (data_of disk node) (range_with_len 0 (one_past (λ n. is_held disk node (Data n)) 67328))) (512 * n + k)
          (let l = flat_long (data_of disk node) 0 (one_past (λ n. is_held disk node (Data n)) 67328) each in omega (arith, l, high))
          ∙ sym (none (is_held disk node (Data n)) refl high)
    ] where
      none : (t : Bool) → is_held disk node (Data n) ≡ t → one_past (λ n. is_held disk node (Data n)) 67328 ≤ n → slice_index (data_of disk node n) k ≡ 0
      none true e high = let low = below_past (λ n. is_held disk node (Data n)) 67328 n h e in absurd (omega (arith, low, high))
      none false e high = ap (λ t. slice_index (cond t (disk (address disk node (Data n))) (replicate 512 0)) k) e ∙ zero_at 512 k
