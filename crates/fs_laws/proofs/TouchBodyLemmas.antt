-- The body of a file that gains a block.
use Rattle.std.proofs.Common.{◌≡◌, ◌≢◌, ◌+◌, ◌-◌, ◌*◌, ◌<◌, ◌≤◌, ◌&&◌, ◌==◌, not, inl, inr, ℕ, zero, suc, Bool, true, false, cond, List, ◌++◌, length, replicate, append_assoc, refl, sym, ap, ◌∙◌, arith}
use Rattle.std.proofs.lemmas.Bool.{cases_lt, ne_eqb}
use Rattle.std.proofs.lemmas.Bool.Decides.{eqb_tells}
use Rattle.std.proofs.lemmas.List.{append-nil, replicate-append-replicate}
use Rattle.std.specs.List.{flat_map, range_with_len}
use Rattle.bmap_path.specs.declared.BlockName.{BlockName}
use Rattle.bmap_path.specs.declared.BlockName.TheVariants.{Data, Ind, Dbl}
use Rattle.fs_codec.specs.Fields.{Inode}
use Rattle.fs_codec.specs.Modes.{holds_blocks}
use Rattle.fs_codec.specs.Disk.{Disk}
use Rattle.fs_codec.specs.Held.{address}
use Rattle.fs_codec.specs.Stands.{is_held, one_past, data_of, body_of}
use Rattle.fs_laws.specs.Touch.{grown}
use Rattle.fs_laws.specs.Grows.{Grows}
use Rattle.fs_laws.proofs.BodyLemmas.{body_long, below_past}

pub other_data : (n m : ℕ) → n ≢ m → Data n ≢ Data m
other_data n m other e = let same : n ≡ m = cc in other same

pub not_indirect : (n k : ℕ) → Data n ≢ Ind k
not_indirect n k e = cc

pub not_double : (n : ℕ) → Data n ≢ Dbl
not_double n e = cc

-- whether a block is held, where a file holds blocks
pub held_is : (disk : Disk) (node : Inode) (q : BlockName) → holds_blocks node.mode ≡ true → is_held disk node q ≡ not (address disk node q == 0)
held_is disk node q holds = ap (λ t. t && not (address disk node q == 0)) holds

data_is : (disk : Disk) (node : Inode) (n : ℕ) → holds_blocks node.mode ≡ true → data_of disk node n ≡ cond (not (address disk node (Data n) == 0)) (disk (address disk node (Data n))) (replicate 512 0)
data_is disk node n holds = ap (λ t. cond t (disk (address disk node (Data n))) (replicate 512 0)) (held_is disk node (Data n) holds)

or_zeros : (disk : Disk) (a : ℕ) → a ≡ 0 → cond (not (a == 0)) (disk a) (replicate 512 0) ≡ replicate 512 0
or_zeros disk a none = ap (λ x. cond (not (x == 0)) (disk x) (replicate 512 0)) none

or_block : (disk : Disk) (a : ℕ) → a ≢ 0 → cond (not (a == 0)) (disk a) (replicate 512 0) ≡ disk a
or_block disk a some = ap (λ t. cond (not t) (disk a) (replicate 512 0)) (ne_eqb a 0 some)

same_block : (old new : Disk) (a b : ℕ) → b ≡ a → (a ≢ 0 → new a ≡ old a) → cond (not (b == 0)) (new b) (replicate 512 0) ≡ cond (not (a == 0)) (old a) (replicate 512 0)
same_block old new a b is same = ap (λ x. cond (not (x == 0)) (new x) (replicate 512 0)) is ∙ elim (eqb_tells a 0) [
  | inl e ↦ or_zeros new a e.1 ∙ sym (or_zeros old a e.1)
  | inr e ↦ or_block new a e.1 ∙ same e.1 ∙ sym (or_block old a e.1)
]

-- the bytes of each data block are as before, since a new one is all zeros
pub data_same : (old new : Disk) (node next : Inode) (p : BlockName) (b : ℕ) → Grows old node new next p b → address old node p ≡ 0 → b ≢ 0 → holds_blocks node.mode ≡ true → holds_blocks next.mode ≡ true
    → (n : ℕ) → data_of new next n ≡ data_of old node n
data_same old new node next (Data m) b g none some holds holds' n = data_is new next n holds' ∙ elim (eqb_tells n m) [
  | inl e ↦
      ap (λ j. cond (not (address new next (Data j) == 0)) (new (address new next (Data j))) (replicate 512 0)) e.1 ∙ ap (λ x. cond (not (x == 0)) (new x) (replicate 512 0)) g.gains.here ∙ or_block new b some ∙ g.fresh m refl
      ∙ sym (ap (λ j. cond (not (address old node (Data j) == 0)) (old (address old node (Data j))) (replicate 512 0)) e.1 ∙ or_zeros old (address old node (Data m)) none)
  | inr e ↦ same_block old new (address old node (Data n)) (address new next (Data n)) (g.gains.others (Data n) (other_data n m e.1)) (g.bytes n)
] ∙ sym (data_is old node n holds)
data_same old new node next (Ind k) b g none some holds holds' n =
    data_is new next n holds' ∙ same_block old new (address old node (Data n)) (address new next (Data n)) (g.gains.others (Data n) (not_indirect n k)) (g.bytes n) ∙ sym (data_is old node n holds)
data_same old new node next Dbl b g none some holds holds' n =
    data_is new next n holds' ∙ same_block old new (address old node (Data n)) (address new next (Data n)) (g.gains.others (Data n) (not_double n)) (g.bytes n) ∙ sym (data_is old node n holds)

past_low_by : (t : Bool) (n e : ℕ) → e ≤ n → cond t (n + 1) e ≤ suc n
past_low_by true n e h = omega arith
past_low_by false n e h = omega (arith, h)

past_low : (test : ℕ → Bool) (n : ℕ) → one_past test n ≤ n
past_low test zero = omega arith
past_low test (suc n) = past_low_by (test n) n (one_past test n) (past_low test n)

-- where a test passes one number more, what is past the greatest is past this one too
past_more : (test more : ℕ → Bool) (n m : ℕ) → m < n → more m ≡ true → test m ≡ false → ((k : ℕ) → k ≢ m → more k ≡ test k)
    → (m < one_past test n → one_past more n ≡ one_past test n) × (one_past test n ≤ m → one_past more n ≡ m + 1)
past_more test more zero m h is not same = absurd (omega (arith, h))
past_more test more (suc n) m h is not same = elim (eqb_tells n m) [
  | inl e ↦
      (let low = past_low test n in
      let here : more n ≡ true = ap more e.1 ∙ is in
      let was : test n ≡ false = ap test e.1 ∙ not in
      let a : cond (more n) (n + 1) (one_past more n) ≡ n + 1 = ap (λ t. cond t (n + 1) (one_past more n)) here in
      let b : cond (test n) (n + 1) (one_past test n) ≡ one_past test n = ap (λ t. cond t (n + 1) (one_past test n)) was in
      let s = e.1 in
      (λ c. absurd (omega (arith, b, c, low, s)), λ c. omega (arith, a, s)))
  | inr e ↦
      (let s = e.1 in
      let below : m < n = elim (cases_lt m n) [ inl y ↦ y | inr y ↦ absurd (s (omega (arith, h, y))) ] in
      by (test n) refl (past_more test more n m below is not same) s below)
] where
  by : (t : Bool) → test n ≡ t → (m < one_past test n → one_past more n ≡ one_past test n) × (one_past test n ≤ m → one_past more n ≡ m + 1) → n ≢ m → m < n
      → (m < cond (test n) (n + 1) (one_past test n) → cond (more n) (n + 1) (one_past more n) ≡ cond (test n) (n + 1) (one_past test n)) × (cond (test n) (n + 1) (one_past test n) ≤ m → cond (more n) (n + 1) (one_past more n) ≡ m + 1)
  by true e r other below =
      let a : cond (more n) (n + 1) (one_past more n) ≡ n + 1 = ap (λ t. cond t (n + 1) (one_past more n)) (same n other ∙ e) in
      let b : cond (test n) (n + 1) (one_past test n) ≡ n + 1 = ap (λ t. cond t (n + 1) (one_past test n)) e in
      (λ c. a ∙ sym b, λ c. absurd (omega (arith, b, c, below)))
  by false e r other below =
      let a : cond (more n) (n + 1) (one_past more n) ≡ one_past more n = ap (λ t. cond t (n + 1) (one_past more n)) (same n other ∙ e) in
      let b : cond (test n) (n + 1) (one_past test n) ≡ one_past test n = ap (λ t. cond t (n + 1) (one_past test n)) e in
      (λ c. a ∙ r.0 (omega (arith, b, c)) ∙ sym b, λ c. a ∙ r.1 (omega (arith, b, c)))

-- lists one after the other
flat_range : (f : ℕ → List ℕ) (a n k : ℕ) → flat_map f (range_with_len a (n + k)) ≡ flat_map f (range_with_len a n) ++ flat_map f (range_with_len (a + n) k)
flat_range f a zero k = let e : zero + k ≡ k = omega arith in let s : a + zero ≡ a = omega arith in ap (λ j. flat_map f (range_with_len a j)) e ∙ ap (λ j. flat_map f (range_with_len j k)) (sym s)
flat_range f a (suc n) k =
    let e : suc n + k ≡ suc (n + k) = omega arith in
    let s : a + 1 + n ≡ a + suc n = omega arith in
    ap (λ j. flat_map f (range_with_len a j)) e ∙ ap (λ l. f a ++ l) (flat_range f (a + 1) n k ∙ ap (λ j. flat_map f (range_with_len (a + 1) n) ++ flat_map f (range_with_len j k)) s)
    ∙ sym (append_assoc (f a) (flat_map f (range_with_len (a + 1) n)) (flat_map f (range_with_len (a + suc n) k)))

flat_zeros : (f : ℕ → List ℕ) (a k : ℕ) → ((j : ℕ) → a ≤ j → j < a + k → f j ≡ replicate 512 0) → flat_map f (range_with_len a k) ≡ replicate (512 * k) 0
flat_zeros f a zero each = refl
flat_zeros f a (suc k) each =
    let n : 512 + 512 * k ≡ 512 * suc k = omega arith in
    ap (λ l. l ++ flat_map f (range_with_len (a + 1) k)) (each a (omega arith) (omega arith)) ∙ ap (λ l. replicate 512 0 ++ l) (flat_zeros f (a + 1) k (λ j low high. each j (omega (arith, low)) (omega (arith, high))))
    ∙ replicate-append-replicate {A = ℕ} 512 (512 * k) 0 ∙ ap (λ j. replicate j 0) n

-- the body of a file that gains another block than a data block
other_body : (old new : Disk) (node next : Inode) → ((n : ℕ) → data_of new next n ≡ data_of old node n) → ((n : ℕ) → is_held new next (Data n) ≡ is_held old node (Data n)) → body_of new next ≡ body_of old node
unfolding body_of
other_body old new node next same held i = flat_map (λ n. same n i) (range_with_len 0 (one_past (λ n. held n i) 67328))

flat_pointwise : (f g : ℕ → List ℕ) (xs : List ℕ) → ((n : ℕ) → g n ≡ f n) → flat_map g xs ≡ flat_map f xs
flat_pointwise f g xs same i = flat_map (λ n. same n i) xs

-- where the test of one number more passes
data_body : (f g : ℕ → List ℕ) (test more : ℕ → Bool) (m : ℕ) → ((n : ℕ) → g n ≡ f n) → m < 67328 → more m ≡ true → test m ≡ false → ((k : ℕ) → k ≢ m → more k ≡ test k) → ((n : ℕ) → test n ≡ false → f n ≡ replicate 512 0)
    → length (flat_map f (range_with_len 0 (one_past test 67328))) ≡ 512 * one_past test 67328
    → flat_map g (range_with_len 0 (one_past more 67328)) ≡ flat_map f (range_with_len 0 (one_past test 67328)) ++ replicate (512 * (m + 1) - length (flat_map f (range_with_len 0 (one_past test 67328)))) 0
data_body f g test more m same h is not others zeros long =
    by (one_past test 67328) (one_past more 67328) (past_more test more 67328 m h is not others) (λ j low. below_past test 67328 j low) long where
      none : (end : ℕ) → ((j : ℕ) → j < 67328 → test j ≡ true → j < end) → (j : ℕ) → end ≤ j → j < 67328 → (t : Bool) → test j ≡ t → f j ≡ replicate 512 0
      none end below j low high true e = let b = below j high e in absurd (omega (arith, b, low))
      none end below j low high false e = zeros j e

      by : (end far : ℕ) → (m < end → far ≡ end) × (end ≤ m → far ≡ m + 1) → ((j : ℕ) → j < 67328 → test j ≡ true → j < end) → length (flat_map f (range_with_len 0 end)) ≡ 512 * end
          → flat_map g (range_with_len 0 far) ≡ flat_map f (range_with_len 0 end) ++ replicate (512 * (m + 1) - length (flat_map f (range_with_len 0 end))) 0
      by end far ends below size = flat_pointwise f g (range_with_len 0 far) same ∙ elim (cases_lt m end) [
        | inl low ↦
            (let nothing : 512 * (m + 1) - length (flat_map f (range_with_len 0 end)) ≡ 0 = omega (arith, size, low) in
            ap (λ j. flat_map f (range_with_len 0 j)) (ends.0 low) ∙ sym (append-nil (flat_map f (range_with_len 0 end))) ∙ ap (λ j. flat_map f (range_with_len 0 end) ++ replicate j 0) (sym nothing))
        | inr high ↦
            (let far_is : far ≡ end + (m + 1 - end) = (let e = ends.1 high in omega (arith, e, high)) in
            let zero_end : 0 + end ≡ end = omega arith in
            let much : 512 * (m + 1 - end) ≡ 512 * (m + 1) - length (flat_map f (range_with_len 0 end)) = omega (arith, size, high) in
            ap (λ j. flat_map f (range_with_len 0 j)) far_is ∙ flat_range f 0 end (m + 1 - end)
            ∙ ap (λ j. flat_map f (range_with_len 0 end) ++ flat_map f (range_with_len j (m + 1 - end))) zero_end
            ∙ ap (λ l. flat_map f (range_with_len 0 end) ++ l) (flat_zeros f end (m + 1 - end) (λ j from to. none end below j from (omega (arith, to, h, high)) (test j) refl) ∙ ap (λ j. replicate j 0) much))
      ]

-- The body of a file that gains a block.
pub grown_body : (old new : Disk) (node next : Inode) (p : BlockName) (b : ℕ) → Grows old node new next p b → address old node p ≡ 0 → b ≢ 0 → holds_blocks node.mode ≡ true → holds_blocks next.mode ≡ true
    → ((n : ℕ) → p ≡ Data n → n < 67328) → ((j : ℕ) → length (data_of old node j) ≡ 512) → body_of new next ≡ grown (body_of old node) p
unfolding body_of
grown_body old new node next (Ind k) b g none some holds holds' place each =
    other_body old new node next (data_same old new node next (Ind k) b g none some holds holds') (λ n. held_is new next (Data n) holds' ∙ ap (λ x. not (x == 0)) (g.gains.others (Data n) (not_indirect n k)) ∙ sym (held_is old node (Data n) holds))
grown_body old new node next Dbl b g none some holds holds' place each =
    other_body old new node next (data_same old new node next Dbl b g none some holds holds') (λ n. held_is new next (Data n) holds' ∙ ap (λ x. not (x == 0)) (g.gains.others (Data n) (not_double n)) ∙ sym (held_is old node (Data n) holds))
grown_body old new node next (Data m) b g none some holds holds' place each =
    data_body (data_of old node) (data_of new next) (λ n. is_held old node (Data n)) (λ n. is_held new next (Data n)) m (data_same old new node next (Data m) b g none some holds holds') (place m refl)
    (held_is new next (Data m) holds' ∙ ap (λ x. not (x == 0)) g.gains.here ∙ ap not (ne_eqb b 0 some))
    (held_is old node (Data m) holds ∙ ap (λ x. not (x == 0)) none)
    (λ n other. held_is new next (Data n) holds' ∙ ap (λ x. not (x == 0)) (g.gains.others (Data n) (other_data n m other)) ∙ sym (held_is old node (Data n) holds))
    (λ n e. ap (λ t. cond t (old (address old node (Data n))) (replicate 512 0)) e)
    (body_long old node each)
