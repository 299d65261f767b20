-- Two disks that agree on the super-block and on the data blocks, or on all blocks of the file system.
use Rattle.std.proofs.Common.{◌≡◌, ◌≢◌, ◌+◌, ◌*◌, ◌/◌, ◌%◌, ◌<◌, ◌≤◌, ℕ, zero, suc, true, false, List, ◌∷◌, map, take, length, slice_range, count_by, nat_eq, None, refl, sym, ap, ◌∙◌, subst, arith}
use Rattle.std.specs.List.{flat_map, range_with_len}
use Rattle.fs_codec.specs.Words.{word}
use Rattle.fs_codec.specs.Fields.{Inode, super_of, inode_of}
use Rattle.fs_codec.specs.Modes.{is_directory}
use Rattle.fs_codec.specs.Disk.{Disk, head, is_data, inode, inode_count}
use Rattle.fs_codec.specs.Faults.{super_fault}
use Rattle.fs_codec.specs.Held.{addresses, held_blocks, held_by}
use Rattle.fs_codec.specs.Stands.{node_of, store_of}
use Rattle.fs_laws.specs.Chain.{SameZone, free, IsSound}
use Rattle.fs_laws.specs.Whole.{held, IsWhole, IsApart}
use Rattle.fs_codec.proofs.FreeLemmas.{free_is_data}
use Rattle.fs_laws.proofs.FreeLemmas.{each_in, free_kept, good_head, data_place, same_data}
use Rattle.fs_laws.proofs.HeldLemmas.{Kept, addresses_kept, held_kept, node_kept}
use Rattle.fs_laws.proofs.FileLemmas.{file_apart, same_inodes}
use Rattle.fs_laws.proofs.StoreLemmas.{same_map}
use Rattle.fs_laws.proofs.SyncLemmas.{same_flat}
use Rattle.fs_codec.specs.declared.layout.TheConstants.{DISK_BLOCKS}

pub record Agree (old new : Disk) : Type 0 where
  pub super : new 1 ≡ old 1
  pub zone : (b : ℕ) → is_data old b ≡ true → new b ≡ old b

pub agree_zone : (old new : Disk) → Agree old new → SameZone old new
agree_zone old new a = record { i_size = ap (λ l. (super_of l).i_size) a.super; f_size = ap (λ l. (super_of l).f_size) a.super }

pub agree_back : (old new : Disk) → Agree old new → Agree new old
agree_back old new a = record { super = sym a.super; zone = λ b inside. sym (a.zone b (sym (same_data old new (agree_zone old new a) b) ∙ inside)) }

pub agree_free : (old new : Disk) → Agree old new → IsSound old → (free new ≡ free old) × IsSound new
agree_free old new a s =
    free_kept old new s (agree_zone old new a) (ap (λ l. super_fault DISK_BLOCKS (super_of l)) a.super ∙ s.super)
    (record { left = ap (λ l. (super_of l).nfree) a.super; numbers = λ k low high. ap (λ l. word l (4 + 2 * k)) a.super })
    (each_in (λ b. new b ≡ old b) (free old) (λ k comes. a.zone k (free_is_data old k comes)))

-- what a file without an address outside holds, by a test of its blocks
pub agree_addresses : (old new : Disk) (node : Inode) → Agree old new → ((k : ℕ) → k ≢ 0 → 1 ≤ count_by (nat_eq k) (addresses old node) → is_data old k ≡ true) → addresses new node ≡ addresses old node
agree_addresses old new node a inside =
    addresses_kept old new node (same_data old new (agree_zone old new a)) (each_in (Kept old new) (addresses old node) (λ k comes some. a.zone k (inside k some comes)))

pub agree_node : (old new : Disk) (node : Inode) → Agree old new → ((k : ℕ) → k ≢ 0 → 1 ≤ count_by (nat_eq k) (held_blocks old node) → is_data old k ≡ true) → node_of new node ≡ node_of old node
agree_node old new node a inside =
    node_kept old new node (same_data old new (agree_zone old new a)) (each_in (Kept old new) (held_blocks old node) (λ k comes some. a.zone k (inside k some comes)))

pub agree_apart : (old new : Disk) (node : Inode) → Agree old new → IsSound old → IsApart old (addresses old node) → IsApart new (addresses new node)
agree_apart old new node a s apart =
    let is = agree_addresses old new node a apart.inside in
    let f = (agree_free old new a s).0 in
    record {
      inside = λ k some comes. same_data old new (agree_zone old new a) k ∙ apart.inside k some (let P : List ℕ → Type 0 = λ l. 1 ≤ count_by (nat_eq k) l in subst P is comes);
      once = λ k some. let o = apart.once k some in
          let x : count_by (nat_eq k) (free new) ≡ count_by (nat_eq k) (free old) = ap (count_by (nat_eq k)) f in
          let y : count_by (nat_eq k) (addresses new node) ≡ count_by (nat_eq k) (addresses old node) = ap (count_by (nat_eq k)) is in
          omega (arith, o, x, y);
    }

pub agree_held : (old new : Disk) (node : Inode) → Agree old new → ((k : ℕ) → k ≢ 0 → 1 ≤ count_by (nat_eq k) (held_blocks old node) → is_data old k ≡ true) → held_blocks new node ≡ held_blocks old node
agree_held old new node a inside = held_kept old new node (same_data old new (agree_zone old new a)) (each_in (Kept old new) (held_blocks old node) (λ k comes some. a.zone k (inside k some comes)))

-- Two disks that agree, and on which each inode is the same, stand for the same store.
pub record SameInodes (old new : Disk) : Type 0 where
  pub agree : Agree old new
  pub inodes : (j : ℕ) → 1 ≤ j → j ≤ inode_count old → inode new j ≡ inode old j

same_held : (old new : Disk) (j : ℕ) → IsWhole old → SameInodes old new → 1 ≤ j → j ≤ inode_count old → held_by new j ≡ held_by old j
same_held old new j w s low high = ap (held_blocks new) (s.inodes j low high) ∙ agree_held old new (inode old j) s.agree (file_apart old j w low high).inside

same_node : (old new : Disk) (j : ℕ) → IsWhole old → SameInodes old new → 1 ≤ j → j ≤ inode_count old → node_of new (inode new j) ≡ node_of old (inode old j)
same_node old new j w s low high = ap (node_of new) (s.inodes j low high) ∙ agree_node old new (inode old j) s.agree (file_apart old j w low high).inside

some_inode : (n : ℕ) → n ≢ 0 → 1 ≤ 16 * n
some_inode zero some = absurd (some refl)
some_inode (suc n) some = omega arith

pub same_whole : (old new : Disk) → IsWhole old → SameInodes old new → IsWhole new
same_whole old new w s =
    let zone = agree_zone old new s.agree in
    let f = agree_free old new s.agree w.sound in
    let h : held new ≡ held old =
    ap (λ n. flat_map (held_by new) (range_with_len 1 n)) (same_inodes old new zone)
    ∙ same_flat (held_by old) (held_by new) 1 (inode_count old) (λ j l h. same_held old new j w s l (omega (arith, h))) in
    record {
      sound = f.1;
      inside = λ k some comes. same_data old new zone k ∙ w.inside k some (let P : List ℕ → Type 0 = λ l. 1 ≤ count_by (nat_eq k) l in subst P h comes);
      once = λ k some. let o = w.once k some in
          let x : count_by (nat_eq k) (free new) ≡ count_by (nat_eq k) (free old) = ap (count_by (nat_eq k)) f.0 in
          let y : count_by (nat_eq k) (held new) ≡ count_by (nat_eq k) (held old) = ap (count_by (nat_eq k)) h in
          omega (arith, o, x, y);
      root = ap (λ (n : Inode). is_directory n.mode) (s.inodes 1 (omega arith) (some_inode (head old).i_size (good_head (head old) w.sound.super).nodes)) ∙ w.root;
    }

pub same_store : (old new : Disk) → IsWhole old → SameInodes old new → store_of new ≡ store_of old
unfolding store_of
same_store old new w s i =
    let zone = agree_zone old new s.agree in
    record {
      nodes = None ∷ (ap (λ n. map (λ j. node_of new (inode new j)) (range_with_len 1 n)) (same_inodes old new zone)
          ∙ same_map (λ j. node_of old (inode old j)) (λ j. node_of new (inode new j)) 1 (inode_count old) (λ j l h. same_node old new j w s l (omega (arith, h)))) i;
      count = same_inodes old new zone i;
      room = length ((agree_free old new s.agree w.sound).0 i);
      spare = take (super_of (s.agree.super i)).ninode (super_of (s.agree.super i)).inode;
      stamp = (super_of (s.agree.super i)).time;
      mark = false;
    }

-- The blocks of the file system are the same: all that stands on a disk is.
pub record SameFiles (old new : Disk) : Type 0 where
  pub blocks : (k : ℕ) → k < (head old).f_size → new k ≡ old k

pub files_agree : (old new : Disk) → IsWhole old → SameFiles old new → Agree old new
files_agree old new w same =
    let zone = (good_head (head old) w.sound.super).zone in
    record { super = same.blocks 1 (omega (arith, zone)); zone = λ b inside. same.blocks b (data_place old b inside).1 }

files_inode : (old new : Disk) (j : ℕ) → IsWhole old → SameFiles old new → 1 ≤ j → j ≤ inode_count old → inode new j ≡ inode old j
files_inode old new j w same low high =
    let zone = (good_head (head old) w.sound.super).zone in
    ap (λ l. inode_of (slice_range l (32 * ((j + 31) % 16)) (32 * ((j + 31) % 16) + 32))) (same.blocks ((j + 31) / 16) (omega (arith, low, high, zone)))

files_same : (old new : Disk) → IsWhole old → SameFiles old new → SameInodes old new
files_same old new w same = record { agree = files_agree old new w same; inodes = λ j low high. files_inode old new j w same low high }

pub files_whole : (old new : Disk) → IsWhole old → SameFiles old new → IsWhole new
files_whole old new w same = same_whole old new w (files_same old new w same)

pub files_store : (old new : Disk) → IsWhole old → SameFiles old new → store_of new ≡ store_of old
files_store old new w same = same_store old new w (files_same old new w same)
