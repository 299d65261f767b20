-- The free list after a block is taken, given back, or written.
use Rattle.std.proofs.Common.{◌≡◌, ◌≢◌, ◌+◌, ◌<◌, ◌≤◌, ◌&&◌, inl, inr, ℕ, Bool, true, false, cond, List, [], ◌∷◌, length, eqb, nat_eq, nat_lt, nat_le, None, refl, sym, ap, ◌∙◌, subst, arith}
use Rattle.std.proofs.lemmas.Bool.{ne_eqb, ltb-true, cases_lt}
use Rattle.std.proofs.lemmas.Bool.Decides.{eqb_tells, nat_tests}
use Rattle.std.proofs.lemmas.Map.Steps.{length-le_from_distinct_below}
use Rattle.std.specs.List.{count_by, list_any, IsDistinct, AllByRecursion}
use Rattle.fs_codec.specs.Disk.{Disk, head, is_data}
use Rattle.fs_codec.specs.Free.{Group, Walk, free_walk, top, after}
use Rattle.fs_codec.specs.Faults.{super_fault}
use Rattle.fs_codec.specs.declared.super_block.SuperBlock.{SuperBlock}
use Rattle.fs_codec.proofs.CountLemmas.{any_count, count-cons}
use Rattle.fs_laws.specs.Chain.{IsChain, first_group, SameGroup, free, IsSound, IsGood, SameZone, Takes}
use Rattle.fs_codec.proofs.FreeLemmas.{free_is_data}
use Rattle.fs_laws.proofs.ChainLemmas.{chain_same, walk_lists, walk_chain, count_first}
use Rattle.fs_codec.specs.declared.layout.TheConstants.{DISK_BLOCKS}

pub good_head : (s : SuperBlock) → super_fault DISK_BLOCKS s ≡ None → IsGood s
good_head s h = record { nodes = grind (arith, nat_tests); zone = grind (arith, nat_tests); nfree = grind (arith, nat_tests); ninode = grind (arith, nat_tests); end = grind (arith, nat_tests) }

pub head_good : (s : SuperBlock) → IsGood s → super_fault DISK_BLOCKS s ≡ None
head_good s g = let a = g.nodes in let b = g.zone in let c = g.nfree in let d = g.ninode in let e = g.end in grind (arith, nat_tests)

-- a list's elements, by count
pub each_in : (P : ℕ → Type 0) (bs : List ℕ) → ((k : ℕ) → 1 ≤ count_by (nat_eq k) bs → P k) → AllByRecursion P bs
each_in P [] h = tt
each_in P (b ∷ bs) h = (h b (omega (arith, count_first b bs)), each_in P bs (λ k c. h k (omega (arith, c, count-cons k b bs))))

pub distinct_by_count : (bs : List ℕ) → ((k : ℕ) → count_by (nat_eq k) bs ≤ 1) → IsDistinct nat_eq bs
unfolding IsDistinct
distinct_by_count [] once = tt
distinct_by_count (b ∷ bs) once = (
  each_in (λ y. nat_eq b y ≡ false) bs (λ k c. ne_eqb b k (λ e. let o = once b in let P : ℕ → Type 0 = λ n. 1 ≤ count_by (nat_eq n) bs in let c' : 1 ≤ count_by (nat_eq b) bs = subst P (sym e) c in omega (arith, o, c', count_first b bs))),
  distinct_by_count bs (λ k. let o = once k in omega (arith, o, count-cons k b bs)),
)

counted : (k : ℕ) (bs : List ℕ) → list_any (eqb k) bs ≡ true → 1 ≤ count_by (nat_eq k) bs
counted k bs any = ltb-true 0 (count_by (nat_eq k) bs) (sym (any_count k bs) ∙ any)

-- so many different numbers below n, and none of them 0
pub few_below : (bs : List ℕ) (n : ℕ) → 0 < n → ((k : ℕ) → count_by (nat_eq k) bs ≤ 1) → ((k : ℕ) → 1 ≤ count_by (nat_eq k) bs → (k ≢ 0) × (k < n)) → length bs < n
few_below bs n some once below =
    let none : count_by (nat_eq 0) bs ≡ 0 = elim (cases_lt 0 (count_by (nat_eq 0) bs)) [ inl c ↦ absurd ((below 0 c).0 refl) | inr c ↦ omega arith ] in
    let once' : (k : ℕ) → count_by (nat_eq k) (0 ∷ bs) ≤ 1 = λ k. elim (eqb_tells k 0) [
      | inl e ↦ (let c : count_by (nat_eq k) bs ≡ 0 = ap (λ n. count_by (nat_eq n) bs) e.1 ∙ none in let t : cond {A = ℕ} (nat_eq k 0) 1 0 ≡ 1 = ap (λ t. cond t 1 0) e.0 in omega (arith, c, t, count-cons k 0 bs))
      | inr e ↦ (let o = once k in let t : cond {A = ℕ} (nat_eq k 0) 1 0 ≡ 0 = ap (λ t. cond t 1 0) e.0 in omega (arith, o, t, count-cons k 0 bs))
    ] in
    let below' : (q : ℕ) → list_any (eqb q) (0 ∷ bs) ≡ true → q < n = λ q any. elim (eqb_tells q 0) [
      | inl e ↦ omega (arith, e.1)
      | inr e ↦ (below q (let c = counted q (0 ∷ bs) any in let t : cond {A = ℕ} (nat_eq q 0) 1 0 ≡ 0 = ap (λ t. cond t 1 0) e.0 in omega (arith, c, t, count-cons q 0 bs))).1
    ] in
    let few : length (0 ∷ bs) ≤ n = length-le_from_distinct_below (0 ∷ bs) n (distinct_by_count (0 ∷ bs) once') below' in
    omega (arith, few)

-- where a data block is
both_true : (s t : Bool) → s && t ≡ true → (s ≡ true) × (t ≡ true)
both_true true true h = (refl, refl)
both_true true false h = absurd (cc)
both_true false t h = absurd (cc)

pub data_place : (disk : Disk) (b : ℕ) → is_data disk b ≡ true → ((head disk).i_size + 2 ≤ b) × (b < (head disk).f_size)
data_place disk b h = let p = both_true (nat_le ((head disk).i_size + 2) b) (nat_lt b (head disk).f_size) h in let low = p.0 in (grind (arith, nat_tests), ltb-true b (head disk).f_size p.1)

pub data_some : (disk : Disk) (b : ℕ) → is_data disk b ≡ true → (b ≢ 0) × (b ≢ 1)
data_some disk b h = let p = data_place disk b h in let low = p.0 in ((λ e. absurd (omega (arith, e, low))), (λ e. absurd (omega (arith, e, low))))

pub same_data : (old new : Disk) → SameZone old new → (b : ℕ) → is_data new b ≡ is_data old b
same_data old new same b = ap (λ n. nat_le (n + 2) b && nat_lt b (head new).f_size) same.i_size ∙ ap (λ n. nat_le ((head old).i_size + 2) b && nat_lt b n) same.f_size

-- the blocks of a chain are data blocks
pub chain_data : (disk : Disk) (g : Group) (bs : List ℕ) → IsChain disk g bs → (k : ℕ) → 1 ≤ count_by (nat_eq k) bs → is_data disk k ≡ true
chain_data disk g [] c k comes = absurd (omega (arith, comes))
chain_data disk g (b ∷ bs) c k comes = elim (eqb_tells k b) [
  | inl e ↦ ap (is_data disk) e.1 ∙ c.2
  | inr e ↦ chain_data disk (after disk g) bs c.4 k (let t : cond {A = ℕ} (nat_eq k b) 1 0 ≡ 0 = ap (λ t. cond t 1 0) e.0 in omega (arith, comes, t, count-cons k b bs))
]

-- The walk finds a chain, and a chain is what the walk finds.
pub chain_sound : (disk : Disk) (bs : List ℕ) → super_fault DISK_BLOCKS (head disk) ≡ None → IsChain disk (first_group disk) bs → ((k : ℕ) → count_by (nat_eq k) bs ≤ 1) → (free disk ≡ bs) × IsSound disk
unfolding free_walk
chain_sound disk bs super c once =
    let g = good_head (head disk) super in
    let room : 0 < (head disk).f_size = (let z = g.zone in omega (arith, z)) in
    let few : length bs < (head disk).f_size = few_below bs (head disk).f_size room once (λ k comes. let d = chain_data disk (first_group disk) bs c k comes in ((data_some disk k d).0, (data_place disk k d).1)) in
    let is : free_walk disk ≡ record { blocks = bs; fault = None } = walk_lists (head disk).f_size disk (first_group disk) [] bs c (omega (arith, few)) (λ k. let o = once k in omega (arith, o)) in
    let blocks : free disk ≡ bs = ap (λ (w : Walk). w.blocks) is in
    (blocks, record { super = super; walk = ap (λ (w : Walk). w.fault) is; once = λ k. let o = once k in let P : List ℕ → Type 0 = λ l. count_by (nat_eq k) l ≤ 1 in subst P (sym blocks) o })

pub sound_chain : (disk : Disk) → IsSound disk → IsChain disk (first_group disk) (free disk)
unfolding free_walk
sound_chain disk s =
    let g = good_head (head disk) s.super in
    let room : 0 < (head disk).f_size = (let z = g.zone in omega (arith, z)) in
    let few : length (free disk) < (head disk).f_size = few_below (free disk) (head disk).f_size room s.once (λ k comes. let d = free_is_data disk k comes in ((data_some disk k d).0, (data_place disk k d).1)) in
    walk_chain (head disk).f_size disk (first_group disk) [] s.walk (λ k. let o = s.once k in omega (arith, o)) few

-- The free list rests on the numbers of the super-block's group, on where data are, and on its own blocks.
pub free_kept : (old new : Disk) → IsSound old → SameZone old new → super_fault DISK_BLOCKS (head new) ≡ None → SameGroup old (first_group old) new (first_group new)
    → AllByRecursion (λ b. new b ≡ old b) (free old) → (free new ≡ free old) × IsSound new
free_kept old new s zone super group blocks =
    chain_sound new (free old) super (chain_same old new (first_group old) (first_group new) (free old) (same_data old new zone) blocks group (sound_chain old s)) s.once

-- nothing is free where the group has no number, or a 0 is the next
pub none_free : (disk : Disk) → IsSound disk → top disk (first_group disk) ≡ 0 → free disk ≡ []
none_free disk s none = ends (free disk) (sound_chain disk s) where
  ends : (bs : List ℕ) → IsChain disk (first_group disk) bs → bs ≡ []
  ends [] c = refl
  ends (b ∷ bs) c = absurd (c.1 (sym c.0 ∙ none))

-- the list stays empty where the group is emptied
pub still_none : (old new : Disk) → IsSound old → super_fault DISK_BLOCKS (head new) ≡ None → top new (first_group new) ≡ 0 → (free new ≡ []) × IsSound new
still_none old new s super none = chain_sound new [] super none (λ k. omega arith)

pub record Taken (old : Disk) (b : ℕ) (new : Disk) : Type 0 where
  pub takes : Takes old b new
  pub sound : IsSound new

-- The first block is taken: its group is left, and no other free block has changed.
pub free_taken : (old new : Disk) (b : ℕ) → IsSound old → SameZone old new → super_fault DISK_BLOCKS (head new) ≡ None → top old (first_group old) ≡ b → b ≢ 0
    → SameGroup old (after old (first_group old)) new (first_group new) → ((k : ℕ) → k ≢ 1 → k ≢ b → new k ≡ old k) → Taken old b new
free_taken old new b s zone super is some group others = from (free old) refl (sound_chain old s) where
  from : (l : List ℕ) → l ≡ free old → IsChain old (first_group old) l → Taken old b new
  from [] e c = absurd (some (sym is ∙ c))
  from (x ∷ bs) e c =
      let same : x ≡ b = sym c.0 ∙ is in
      let o : (k : ℕ) → count_by (nat_eq k) (x ∷ bs) ≤ 1 = λ k. let P : List ℕ → Type 0 = λ l. count_by (nat_eq k) l ≤ 1 in subst P (sym e) (s.once k) in
      let once : (k : ℕ) → count_by (nat_eq k) bs ≤ 1 = λ k. let h = o k in omega (arith, h, count-cons k x bs) in
      let fresh : count_by (nat_eq x) bs ≡ 0 = let h = o x in omega (arith, h, count_first x bs) in
      let fresh_b : count_by (nat_eq b) bs ≡ 0 = ap (λ n. count_by (nat_eq n) bs) (sym same) ∙ fresh in
      let kept : AllByRecursion (λ k. new k ≡ old k) bs = each_in (λ k. new k ≡ old k) bs (λ k comes. others k (data_some old k (chain_data old (after old (first_group old)) bs c.4 k comes)).1
      (λ is_b. let none : count_by (nat_eq k) bs ≡ 0 = ap (λ n. count_by (nat_eq n) bs) is_b ∙ fresh_b in absurd (omega (arith, comes, none)))) in
      let found = chain_sound new bs super (chain_same old new (after old (first_group old)) (first_group new) bs (same_data old new zone) kept group c.4) once in
      record {
        takes = record {
          first = sym e ∙ ap (λ n. n ∷ bs) same ∙ ap (λ l. b ∷ l) (sym found.0);
          zone = ap (is_data old) (sym same) ∙ c.2;
          fresh = ap (count_by (nat_eq b)) found.0 ∙ fresh_b;
          still = zone;
        };
        sound = found.1;
      }

-- A block that is not free is put in front: what was there is left behind it.
pub free_pushed : (old new : Disk) (b : ℕ) → IsSound old → SameZone old new → super_fault DISK_BLOCKS (head new) ≡ None → is_data old b ≡ true → count_by (nat_eq b) (free old) ≡ 0
    → top new (first_group new) ≡ b → (after new (first_group new)).left ≤ 100 → IsChain new (after new (first_group new)) (free old) → (free new ≡ b ∷ free old) × IsSound new
free_pushed old new b s zone super inside fresh is few rest =
    chain_sound new (b ∷ free old) super (is, (data_some old b inside).0, same_data old new zone b ∙ inside, few, rest)
    (λ k. elim (eqb_tells k b) [
      | inl e ↦ (let c : count_by (nat_eq k) (free old) ≡ 0 = ap (λ n. count_by (nat_eq n) (free old)) e.1 ∙ fresh in let t : cond {A = ℕ} (nat_eq k b) 1 0 ≡ 1 = ap (λ t. cond t 1 0) e.0 in omega (arith, c, t, count-cons k b (free old)))
      | inr e ↦ (let o = s.once k in let t : cond {A = ℕ} (nat_eq k b) 1 0 ≡ 0 = ap (λ t. cond t 1 0) e.0 in omega (arith, o, t, count-cons k b (free old)))
    ])

-- the chain that was, behind the new block
pub pushed_rest : (old new : Disk) (b : ℕ) → IsSound old → SameZone old new → count_by (nat_eq b) (free old) ≡ 0 → SameGroup old (first_group old) new (after new (first_group new))
    → ((k : ℕ) → k ≢ 1 → k ≢ b → new k ≡ old k) → IsChain new (after new (first_group new)) (free old)
pushed_rest old new b s zone fresh group others =
    let c = sound_chain old s in
    chain_same old new (first_group old) (after new (first_group new)) (free old) (same_data old new zone)
    (each_in (λ k. new k ≡ old k) (free old) (λ k comes. others k (data_some old k (chain_data old (first_group old) (free old) c k comes)).1
    (λ is_b. let none : count_by (nat_eq k) (free old) ≡ 0 = ap (λ n. count_by (nat_eq n) (free old)) is_b ∙ fresh in absurd (omega (arith, comes, none)))))
    group c

-- where there was none
pub pushed_none : (old new : Disk) → IsSound old → top old (first_group old) ≡ 0 → top new (after new (first_group new)) ≡ 0 → IsChain new (after new (first_group new)) (free old)
pushed_none old new s none end = let P : List ℕ → Type 0 = IsChain new (after new (first_group new)) in subst P (sym (none_free old s none)) end
