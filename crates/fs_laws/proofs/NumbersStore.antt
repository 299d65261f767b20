-- A disk where only the super-block has changed, outside the list of free blocks.
use Rattle.std.proofs.Common.{◌≡◌, ◌≢◌, ◌+◌, ◌*◌, ◌/◌, ◌%◌, ◌≤◌, inl, inr, ℕ, false, List, ◌∷◌, map, length, take, slice_range, nat_eq, None, ap, ◌∙◌, subst, arith}
use Rattle.std.proofs.lemmas.Bool.Decides.{eqb_tells}
use Rattle.std.specs.List.{count_by, range_with_len}
use Rattle.fs_codec.specs.Modes.{is_directory}
use Rattle.fs_codec.specs.Fields.{inode_of}
use Rattle.fs_codec.specs.Disk.{Disk, head, inode, inode_count}
use Rattle.fs_codec.specs.Held.{held_by}
use Rattle.fs_codec.specs.Stands.{node_of, store_of}
use Rattle.fs_laws.specs.Chain.{free, IsSound, SameZone}
use Rattle.fs_laws.specs.Whole.{IsWhole, ChangesFile}
use Rattle.fs_laws.proofs.FreeLemmas.{good_head, data_some}
use Rattle.fs_laws.proofs.FileLemmas.{other_node, other_held, same_inodes, whole_changed, file_apart}
use Rattle.fs_laws.proofs.StoreLemmas.{same_map}

pub record ChangesHead (old new : Disk) : Type 0 where
  pub zone : SameZone old new
  pub sound : IsSound new
  pub free : free new ≡ free old
  pub blocks : (k : ℕ) → k ≢ 1 → new k ≡ old k

pub same_inode : (old new : Disk) → ChangesHead old new → (j : ℕ) → 1 ≤ j → inode new j ≡ inode old j
same_inode old new c j low =
    ap (λ l. inode_of (slice_range l (32 * ((j + 31) % 16)) (32 * ((j + 31) % 16) + 32))) (c.blocks ((j + 31) / 16) (λ is. absurd (omega (arith, is, low))))

pub head_changes : (old new : Disk) → ChangesHead old new → (i : ℕ) → ChangesFile old new i
head_changes old new c i = record {
  zone = c.zone;
  nodes = λ j low high other. same_inode old new c j low;
  blocks = λ k inside none apart. c.blocks k (data_some old k inside).1;
}

pub two_inodes : (disk : Disk) → IsSound disk → 2 ≤ inode_count disk
two_inodes disk s = let g = (good_head (head disk) s.super).nodes in omega (arith, g)

-- each file is what it was
pub same_held : (old new : Disk) → IsWhole old → ChangesHead old new → (j : ℕ) → 1 ≤ j → j ≤ inode_count old → held_by new j ≡ held_by old j
same_held old new w c j low high =
    let two = two_inodes old w.sound in
    elim (eqb_tells j 1) [
      | inl e ↦ other_held old new 2 j w (head_changes old new c 2) (omega arith) two low high (λ is. let one = e.1 in absurd (omega (arith, is, one)))
      | inr e ↦ other_held old new 1 j w (head_changes old new c 1) (omega arith) (omega (arith, two)) low high e.1
    ]

pub same_node : (old new : Disk) → IsWhole old → ChangesHead old new → (j : ℕ) → 1 ≤ j → j ≤ inode_count old → node_of new (inode new j) ≡ node_of old (inode old j)
same_node old new w c j low high =
    let two = two_inodes old w.sound in
    elim (eqb_tells j 1) [
      | inl e ↦ other_node old new 2 j w (head_changes old new c 2) (omega arith) two low high (λ is. let one = e.1 in absurd (omega (arith, is, one)))
      | inr e ↦ other_node old new 1 j w (head_changes old new c 1) (omega arith) (omega (arith, two)) low high e.1
    ]

pub head_whole : (old new : Disk) → IsWhole old → ChangesHead old new → IsWhole new
head_whole old new w c =
    let two = two_inodes old w.sound in
    let same = same_held old new w c 1 (omega arith) (omega (arith, two)) in
    let apart = file_apart old 1 w (omega arith) (omega (arith, two)) in
    whole_changed old new 1 w (head_changes old new c 1) c.sound (omega arith) (omega (arith, two))
    (λ k some comes. apart.inside k some (let P : List ℕ → Type 0 = λ l. 1 ≤ count_by (nat_eq k) l in subst P same comes))
    (λ k some. let a : count_by (nat_eq k) (free new) ≡ count_by (nat_eq k) (free old) = ap (count_by (nat_eq k)) c.free in
    let b : count_by (nat_eq k) (held_by new 1) ≡ count_by (nat_eq k) (held_by old 1) = ap (count_by (nat_eq k)) same in omega (arith, a, b))
    (ap (λ i. is_directory i.mode) (same_inode old new c 1 (omega arith)) ∙ w.root)

-- the store, but for what the super-block says
pub head_store : (old new : Disk) → IsWhole old → ChangesHead old new
    → store_of new ≡ record (store_of old) { spare = take (head new).ninode (head new).inode; stamp = (head new).time }
unfolding store_of
head_store old new w c i = record {
  nodes = None ∷ ((ap (λ n. map (λ j. node_of new (inode new j)) (range_with_len 1 n)) (same_inodes old new c.zone)
      ∙ same_map (λ j. node_of old (inode old j)) (λ j. node_of new (inode new j)) 1 (inode_count old) (λ j low high. same_node old new w c j low (omega (arith, high)))) i);
  count = same_inodes old new c.zone i;
  room = length (c.free i);
  spare = take (head new).ninode (head new).inode;
  stamp = (head new).time;
  mark = false;
}
