-- One file among the files of a disk.
use Rattle.std.proofs.Common.{◌≡◌, ◌≢◌, ◌+◌, ◌*◌, ◌<◌, ◌≤◌, inl, inr, ℕ, zero, suc, true, cond, List, [], nat_eq, refl, sym, ap, ◌∙◌, arith}
use Rattle.std.proofs.lemmas.Bool.{ne_eqb, cases_lt}
use Rattle.std.proofs.lemmas.Bool.Decides.{eqb_tells}
use Rattle.std.specs.List.{count_by, flat_map, range_with_len, AllByRecursion}
use Rattle.fs_codec.specs.Modes.{is_directory}
use Rattle.fs_codec.specs.Disk.{Disk, is_data, inode, inode_count}
use Rattle.fs_codec.specs.Held.{held_by, held_blocks}
use Rattle.fs_codec.specs.Stands.{node_of}
use Rattle.fs_codec.proofs.CountLemmas.{count-append}
use Rattle.fs_laws.specs.Chain.{free, IsSound, SameZone}
use Rattle.fs_laws.specs.Whole.{held, IsWhole, IsApart, ChangesFile}
use Rattle.fs_laws.proofs.FreeLemmas.{same_data, each_in}
use Rattle.fs_laws.proofs.HeldLemmas.{Kept, held_kept, node_kept}

-- how often a number comes in the lists of the numbers from a on
many : ℕ → (ℕ → List ℕ) → ℕ → ℕ → ℕ
many k f a n = count_by (nat_eq k) (flat_map f (range_with_len a n))

many_more : (k : ℕ) (f : ℕ → List ℕ) (a n : ℕ) → many k f a (suc n) ≡ count_by (nat_eq k) (f a) + many k f (a + 1) n
unfolding many
many_more k f a n = count-append k (f a) (flat_map f (range_with_len (a + 1) n))

same_many : (k : ℕ) (f g : ℕ → List ℕ) (a n : ℕ) → ((j : ℕ) → a ≤ j → j < a + n → g j ≡ f j) → many k g a n ≡ many k f a n
unfolding many
same_many k f g a zero same = refl
same_many k f g a (suc n) same =
    let one : count_by (nat_eq k) (g a) ≡ count_by (nat_eq k) (f a) = ap (count_by (nat_eq k)) (same a (omega arith) (omega arith)) in
    let rest = same_many k f g (a + 1) n (λ j l h. same j (omega (arith, l)) (omega (arith, h))) in
    omega (arith, one, rest, many_more k f a n, many_more k g a n)

-- one list has changed
one_changed : (k : ℕ) (f g : ℕ → List ℕ) (a n i : ℕ) → a ≤ i → i < a + n → ((j : ℕ) → a ≤ j → j < a + n → j ≢ i → g j ≡ f j)
    → many k g a n + count_by (nat_eq k) (f i) ≡ many k f a n + count_by (nat_eq k) (g i)
one_changed k f g a zero i low high same = absurd (omega (arith, low, high))
one_changed k f g a (suc n) i low high same = elim (eqb_tells i a) [
  | inl e ↦
      let rest : many k g (a + 1) n ≡ many k f (a + 1) n = same_many k f g (a + 1) n (λ j l h. same j (omega (arith, l)) (omega (arith, h)) (λ is. let x = e.1 in absurd (omega (arith, l, is, x)))) in
      let fi : count_by (nat_eq k) (f i) ≡ count_by (nat_eq k) (f a) = ap (λ j. count_by (nat_eq k) (f j)) e.1 in
      let gi : count_by (nat_eq k) (g i) ≡ count_by (nat_eq k) (g a) = ap (λ j. count_by (nat_eq k) (g j)) e.1 in
      omega (arith, rest, fi, gi, many_more k f a n, many_more k g a n)
  | inr e ↦
      let other = e.1 in
      let above : a + 1 ≤ i = elim (cases_lt a i) [ inl h ↦ omega (arith, h) | inr h ↦ absurd (other (omega (arith, h, low))) ] in
      let first : count_by (nat_eq k) (g a) ≡ count_by (nat_eq k) (f a) = ap (count_by (nat_eq k)) (same a (omega arith) (omega arith) (λ is. other (sym is))) in
      let rest = one_changed k f g (a + 1) n i above (omega (arith, high)) (λ j l h. same j (omega (arith, l)) (omega (arith, h))) in
      omega (arith, first, rest, many_more k f a n, many_more k g a n)
]

part_of : (k : ℕ) (f : ℕ → List ℕ) (a n i : ℕ) → a ≤ i → i < a + n → count_by (nat_eq k) (f i) ≤ many k f a n
part_of k f a n i low high =
    let g : ℕ → List ℕ = λ j. cond (nat_eq j i) [] (f j) in
    let none : count_by (nat_eq k) (g i) ≡ 0 = elim (eqb_tells i i) [ inl e ↦ ap (λ t. count_by (nat_eq k) (cond t [] (f i))) e.0 | inr e ↦ absurd (e.1 refl) ] in
    let c = one_changed k f g a n i low high (λ j l h other. ap (λ t. cond t [] (f j)) (ne_eqb j i other)) in
    omega (arith, none, c)

two_parts : (k : ℕ) (f : ℕ → List ℕ) (a n i j : ℕ) → a ≤ i → i < a + n → a ≤ j → j < a + n → j ≢ i → count_by (nat_eq k) (f i) + count_by (nat_eq k) (f j) ≤ many k f a n
two_parts k f a n i j low high low' high' other =
    let g : ℕ → List ℕ = λ j. cond (nat_eq j i) [] (f j) in
    let none : count_by (nat_eq k) (g i) ≡ 0 = elim (eqb_tells i i) [ inl e ↦ ap (λ t. count_by (nat_eq k) (cond t [] (f i))) e.0 | inr e ↦ absurd (e.1 refl) ] in
    let c = one_changed k f g a n i low high (λ j l h other. ap (λ t. cond t [] (f j)) (ne_eqb j i other)) in
    let gj : count_by (nat_eq k) (g j) ≡ count_by (nat_eq k) (f j) = ap (λ t. count_by (nat_eq k) (cond t [] (f j))) (ne_eqb j i other) in
    let p = part_of k g a n j low' high' in
    omega (arith, none, c, gj, p)

-- The blocks of a file are apart from the free blocks, and from those of another file.
pub file_apart : (disk : Disk) (i : ℕ) → IsWhole disk → 1 ≤ i → i ≤ inode_count disk → IsApart disk (held_by disk i)
unfolding many
file_apart disk i w low high = record {
  inside = λ k some comes. let p = part_of k (held_by disk) 1 (inode_count disk) i low (omega (arith, high)) in w.inside k some (omega (arith, comes, p));
  once = λ k some. let p = part_of k (held_by disk) 1 (inode_count disk) i low (omega (arith, high)) in let o = w.once k some in omega (arith, o, p);
}

pub files_apart : (disk : Disk) (i j k : ℕ) → IsWhole disk → 1 ≤ i → i ≤ inode_count disk → 1 ≤ j → j ≤ inode_count disk → j ≢ i → k ≢ 0
    → count_by (nat_eq k) (free disk) + count_by (nat_eq k) (held_by disk i) + count_by (nat_eq k) (held_by disk j) ≤ 1
unfolding many
files_apart disk i j k w low high low' high' other some =
    let p = two_parts k (held_by disk) 1 (inode_count disk) i j low (omega (arith, high)) low' (omega (arith, high')) other in
    let o = w.once k some in omega (arith, o, p)

-- what another file holds has not changed
other_kept : (old new : Disk) (i j : ℕ) → IsWhole old → ChangesFile old new i → 1 ≤ i → i ≤ inode_count old → 1 ≤ j → j ≤ inode_count old → j ≢ i → AllByRecursion (Kept old new) (held_by old j)
other_kept old new i j w change low high low' high' other =
    each_in (Kept old new) (held_by old j) (λ k comes some.
    let o = files_apart old i j k w low high low' high' other some in
    let inside = (file_apart old j w low' high').inside k some comes in
    change.blocks k inside (omega (arith, o, comes)) (omega (arith, o, comes)))

-- Another file holds what it held, and its node is what it was.
pub other_held : (old new : Disk) (i j : ℕ) → IsWhole old → ChangesFile old new i → 1 ≤ i → i ≤ inode_count old → 1 ≤ j → j ≤ inode_count old → j ≢ i → held_by new j ≡ held_by old j
other_held old new i j w change low high low' high' other =
    ap (held_blocks new) (change.nodes j low' high' other) ∙ held_kept old new (inode old j) (same_data old new change.zone) (other_kept old new i j w change low high low' high' other)

pub other_node : (old new : Disk) (i j : ℕ) → IsWhole old → ChangesFile old new i → 1 ≤ i → i ≤ inode_count old → 1 ≤ j → j ≤ inode_count old → j ≢ i → node_of new (inode new j) ≡ node_of old (inode old j)
other_node old new i j w change low high low' high' other =
    ap (node_of new) (change.nodes j low' high' other) ∙ node_kept old new (inode old j) (same_data old new change.zone) (other_kept old new i j w change low high low' high' other)

pub same_inodes : (old new : Disk) → SameZone old new → inode_count new ≡ inode_count old
same_inodes old new zone = ap (λ n. 16 * n) zone.i_size

-- A disk stays whole where one file changes, takes free blocks and gives blocks back.
pub whole_changed : (old new : Disk) (i : ℕ) → IsWhole old → ChangesFile old new i → IsSound new → 1 ≤ i → i ≤ inode_count old
    → ((k : ℕ) → k ≢ 0 → 1 ≤ count_by (nat_eq k) (held_by new i) → is_data old k ≡ true)
    → ((k : ℕ) → k ≢ 0 → count_by (nat_eq k) (free new) + count_by (nat_eq k) (held_by new i) ≤ count_by (nat_eq k) (free old) + count_by (nat_eq k) (held_by old i))
    → is_directory (inode new 1).mode ≡ true → IsWhole new
unfolding many
whole_changed old new i w change sound low high inside few root =
    let total : (k : ℕ) → count_by (nat_eq k) (held new) + count_by (nat_eq k) (held_by old i) ≡ count_by (nat_eq k) (held old) + count_by (nat_eq k) (held_by new i) = λ k.
    ap (λ n. count_by (nat_eq k) (flat_map (held_by new) (range_with_len 1 n)) + count_by (nat_eq k) (held_by old i)) (same_inodes old new change.zone)
    ∙ one_changed k (held_by old) (held_by new) 1 (inode_count old) i low (omega (arith, high)) (λ j l h other. other_held old new i j w change low high l (omega (arith, h)) other) in
    let part : (k : ℕ) → count_by (nat_eq k) (held_by old i) ≤ count_by (nat_eq k) (held old) = λ k. part_of k (held_by old) 1 (inode_count old) i low (omega (arith, high)) in
    record {
      sound = sound;
      inside = λ k some comes. same_data old new change.zone k ∙ elim (cases_lt 0 (count_by (nat_eq k) (held_by new i))) [
        | inl here ↦ inside k some here
        | inr none ↦ (let t = total k in w.inside k some (omega (arith, t, none, comes)))
      ];
      once = λ k some. let t = total k in let f = few k some in let o = w.once k some in let p = part k in omega (arith, t, f, o, p);
      root = root;
    }
