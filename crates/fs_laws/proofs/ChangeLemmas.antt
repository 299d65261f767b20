-- A file whose inode is written after its blocks have changed.
use Rattle.std.proofs.Common.{◌≡◌, ◌≢◌, ◌+◌, ◌*◌, ◌/◌, ◌%◌, ◌<◌, ◌≤◌, inl, inr, ℕ, true, List, count_by, nat_eq, slice_range, refl, sym, ap, ◌∙◌, subst, arith}
use Rattle.std.proofs.lemmas.Bool.{cases_lt}
use Rattle.std.proofs.lemmas.Bool.Decides.{eqb_tells}
use Rattle.fs_codec.specs.Fields.{Inode, inode_of}
use Rattle.fs_codec.specs.Modes.{is_directory}
use Rattle.fs_codec.specs.Disk.{Disk, head, is_data, inode, inode_count}
use Rattle.fs_codec.specs.Held.{held_by, held_blocks}
use Rattle.fs_codec.specs.Stands.{node_of}
use Rattle.fs_codec.specs.declared.layout.TheConstants.{DISK_BLOCKS}
use Rattle.fs_laws.specs.Chain.{free, IsSound, SameZone}
use Rattle.fs_laws.specs.Whole.{IsWhole, ChangesFile, Rewrites}
use Rattle.fs_codec.proofs.FreeLemmas.{free_is_data}
use Rattle.fs_laws.proofs.FreeLemmas.{each_in, good_head, same_data, data_some, data_place}
use Rattle.fs_laws.proofs.HeldLemmas.{Kept, held_kept}
use Rattle.fs_laws.proofs.FileLemmas.{file_apart, whole_changed}
use Rattle.fs_laws.proofs.AgreeLemmas.{Agree, agree_node}

-- The block of an inode is before the data, and on the disk.
pub record IsPlace (disk : Disk) (b : ℕ) : Type 0 where
  pub after : 2 ≤ b
  pub before : b < (head disk).i_size + 2
  pub end : (head disk).i_size + 2 ≤ (head disk).f_size
  pub low : (head disk).f_size ≤ DISK_BLOCKS

pub place_is : (disk : Disk) (i : ℕ) → IsSound disk → 1 ≤ i → i ≤ inode_count disk → IsPlace disk ((i + 31) / 16)
place_is disk i sound low high =
    let g = good_head (head disk) sound.super in
    record { after = omega (arith, low); before = omega (arith, low, high); end = g.zone; low = g.end }

-- No block of inodes is a data block.
pub place_no_data : (disk : Disk) (b k : ℕ) → IsPlace disk b → is_data disk k ≡ true → k ≢ b
place_no_data disk b k p inside is = let d = (data_place disk k inside).0 in let e = p.before in absurd (omega (arith, d, e, is))

-- A block that is no data block is not free, and no file holds it.
pub not_free : (disk : Disk) (k : ℕ) → (is_data disk k ≡ true → ⊥) → count_by (nat_eq k) (free disk) ≡ 0
not_free disk k outside = elim (cases_lt 0 (count_by (nat_eq k) (free disk))) [
  | inl some ↦ absurd (outside (free_is_data disk k some))
  | inr none ↦ omega (arith, none)
]

pub not_held : (disk : Disk) (i k : ℕ) → IsWhole disk → 1 ≤ i → i ≤ inode_count disk → (is_data disk k ≡ true → ⊥) → k ≢ 0 → count_by (nat_eq k) (held_by disk i) ≡ 0
not_held disk i k w low high outside some = elim (cases_lt 0 (count_by (nat_eq k) (held_by disk i))) [
  | inl comes ↦ absurd (outside ((file_apart disk i w low high).inside k some comes))
  | inr none ↦ omega (arith, none)
]

-- a block that is no data block stays
kept_outside : (old between new : Disk) (i k : ℕ) (node next : Inode) → IsWhole old → 1 ≤ i → i ≤ inode_count old → Rewrites old between new i node next → (is_data old k ≡ true → ⊥) → k ≢ 1 → between k ≡ old k
kept_outside old between new i k node next w low high r outside other =
    r.others k other (not_free old k outside) (λ some. ap (λ n. count_by (nat_eq k) (held_blocks old n)) (sym r.first) ∙ not_held old i k w low high outside some)

-- the disk before and after the inode is written
rewritten_agrees : (old between new : Disk) (i : ℕ) (node next : Inode) → IsWhole old → 1 ≤ i → i ≤ inode_count old → Rewrites old between new i node next → Agree between new
rewritten_agrees old between new i node next w low high r =
    let p = place_is old i w.sound low high in
    record {
      super = r.blocks 1 (λ is. let a = p.after in absurd (omega (arith, a, is)));
      zone = λ b inside. r.blocks b (place_no_data old ((i + 31) / 16) b p (sym (same_data old between r.zone b) ∙ inside));
    }

inside_between : (old between new : Disk) (i : ℕ) (node next : Inode) → Rewrites old between new i node next → (k : ℕ) → k ≢ 0 → 1 ≤ count_by (nat_eq k) (held_blocks between next) → is_data between k ≡ true
inside_between old between new i node next r k some comes = same_data old between r.zone k ∙ r.inside k some comes

-- The file holds the same, and its node is the same, before and after the inode is written.
pub rewritten_held : (old between new : Disk) (i : ℕ) (node next : Inode) → IsWhole old → 1 ≤ i → i ≤ inode_count old → Rewrites old between new i node next → held_by new i ≡ held_blocks between next
rewritten_held old between new i node next w low high r =
    let a = rewritten_agrees old between new i node next w low high r in
    let zone : SameZone between new = record { i_size = ap (λ l. (head (λ b. l)).i_size) a.super; f_size = ap (λ l. (head (λ b. l)).f_size) a.super } in
    ap (held_blocks new) r.here
    ∙ held_kept between new next (same_data between new zone) (each_in (Kept between new) (held_blocks between next) (λ k comes some. a.zone k (inside_between old between new i node next r k some comes)))

pub rewritten_node : (old between new : Disk) (i : ℕ) (node next : Inode) → IsWhole old → 1 ≤ i → i ≤ inode_count old → Rewrites old between new i node next → node_of new (inode new i) ≡ node_of between next
rewritten_node old between new i node next w low high r =
    ap (node_of new) r.here ∙ agree_node between new next (rewritten_agrees old between new i node next w low high r) (inside_between old between new i node next r)

-- another inode stays
other_inode_kept : (old between new : Disk) (i j : ℕ) (node next : Inode) → IsWhole old → 1 ≤ i → i ≤ inode_count old → Rewrites old between new i node next → 1 ≤ j → j ≤ inode_count old → j ≢ i → inode new j ≡ inode old j
other_inode_kept old between new i j node next w low high r low' high' other =
    let p = place_is old j w.sound low' high' in
    let after = p.after in
    let block : between ((j + 31) / 16) ≡ old ((j + 31) / 16) =
    kept_outside old between new i ((j + 31) / 16) node next w low high r (λ inside. place_no_data old ((j + 31) / 16) ((j + 31) / 16) p inside refl) (λ is. absurd (omega (arith, is, after))) in
    r.nodes j low' other ∙ ap (λ l. inode_of (slice_range l (32 * ((j + 31) % 16)) (32 * ((j + 31) % 16) + 32))) block

-- Only this file has changed.
pub rewritten_changes : (old between new : Disk) (i : ℕ) (node next : Inode) → IsWhole old → 1 ≤ i → i ≤ inode_count old → Rewrites old between new i node next → ChangesFile old new i
rewritten_changes old between new i node next w low high r =
    let a = rewritten_agrees old between new i node next w low high r in
    let p = place_is old i w.sound low high in
    record {
      zone = record {
        i_size = ap (λ l. (head (λ b. l)).i_size) a.super ∙ r.zone.i_size;
        f_size = ap (λ l. (head (λ b. l)).f_size) a.super ∙ r.zone.f_size;
      };
      nodes = λ j low' high' other. other_inode_kept old between new i j node next w low high r low' high' other;
      blocks = λ k inside none free_of. r.blocks k (place_no_data old ((i + 31) / 16) k p inside)
          ∙ r.others k (data_some old k inside).1 none (λ some. ap (λ n. count_by (nat_eq k) (held_blocks old n)) (sym r.first) ∙ free_of);
    }

-- The disk stays without a fault.
pub rewritten_whole : (old between new : Disk) (i : ℕ) (node next : Inode) → IsWhole old → 1 ≤ i → i ≤ inode_count old → Rewrites old between new i node next → IsWhole new
rewritten_whole old between new i node next w low high r =
    let held_new = rewritten_held old between new i node next w low high r in
    let held_old : held_by old i ≡ held_blocks old node = ap (held_blocks old) r.first in
    whole_changed old new i w (rewritten_changes old between new i node next w low high r) r.sound low high
    (λ k some comes. r.inside k some (let P : List ℕ → Type 0 = λ l. 1 ≤ count_by (nat_eq k) l in subst P held_new comes))
    (λ k some.
    let c = r.count k some in
    let f : count_by (nat_eq k) (free new) ≡ count_by (nat_eq k) (free between) = ap (count_by (nat_eq k)) r.free in
    let h : count_by (nat_eq k) (held_by new i) ≡ count_by (nat_eq k) (held_blocks between next) = ap (count_by (nat_eq k)) held_new in
    let o : count_by (nat_eq k) (held_by old i) ≡ count_by (nat_eq k) (held_blocks old node) = ap (count_by (nat_eq k)) held_old in
    omega (arith, c, f, h, o))
    (elim (eqb_tells i 1) [
      | inl e ↦ ap (λ j. is_directory (inode new j).mode) (sym e.1) ∙ ap (λ (n : Inode). is_directory n.mode) r.here ∙ r.root e.1
      | inr e ↦ ap (λ (n : Inode). is_directory n.mode) (other_inode_kept old between new i 1 node next w low high r (omega arith) (omega (arith, low, high)) (λ is. e.1 (sym is))) ∙ w.root
    ])
