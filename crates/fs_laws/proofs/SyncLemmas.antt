-- Disks that read alike stand for the same store, and have the same faults.
use Rattle.std.proofs.Common.{◌≡◌, ◌+◌, ◌*◌, ◌/◌, ◌%◌, ◌<◌, ◌≤◌, ℕ, zero, suc, false, not, cond, List, [], ◌∷◌, ◌++◌, map, filter, length, take, slice_index, slice_range, nat_lt, Option, None, refl, sym, ap, ◌∙◌, arith}
use Rattle.std.proofs.lemmas.Bool.Decides.{nat_tests}
use Rattle.std.specs.Option.{option_map}
use Rattle.std.specs.List.{flat_map, range_with_len}
use Rattle.fs_codec.specs.Fields.{Inode, inode_of}
use Rattle.fs_codec.specs.Modes.{is_large, is_directory, holds_blocks}
use Rattle.fs_codec.specs.Disk.{Disk, head, is_data, inode, inode_count, inode_numbers}
use Rattle.fs_codec.specs.Free.{free_walk}
use Rattle.fs_codec.specs.Held.{entries, addresses, held_blocks, held_by}
use Rattle.fs_codec.specs.Stands.{node_of, store_of}
use Rattle.fs_codec.specs.Faults.{first_some, least, when, is_bad_super, least_outside, inode_fault, all_blocks, is_twice, super_fault, disk_fault}
use Rattle.fs_codec.specs.declared.super_block.SuperBlock.{SuperBlock}
use Rattle.fs_codec.specs.declared.fault.ImageFault.{ImageFault}
use Rattle.fs_codec.specs.declared.fault.ImageFault.TheVariants.{BadSuper, NoSwap, NodeOutside, BlockTwice, NoRoot}
use Rattle.fs_laws.specs.Chain.{free, IsGood, SameZone}
use Rattle.fs_laws.specs.Whole.{IsWhole}
use Rattle.fs_laws.specs.Sync.{ReadsAlike}
use Rattle.fs_laws.proofs.FreeLemmas.{each_in, good_head, same_data, data_some}
use Rattle.fs_laws.proofs.HeldLemmas.{Kept, entries_by, node_kept}
use Rattle.fs_laws.proofs.FileLemmas.{file_apart, same_inodes}
use Rattle.fs_laws.proofs.StoreLemmas.{same_map}
use Rattle.fs_laws.proofs.WholeLemmas.{whole_is, whole_has_none}
use Rattle.fs_codec.specs.declared.layout.TheConstants.{DISK_BLOCKS}

pub alike_zone : (old new : Disk) → ReadsAlike old new → SameZone old new
alike_zone old new a = record { i_size = a.super.i_size; f_size = a.super.f_size }

-- Inodes are not in the super-block, and what they hold is read from data blocks alone.
alike_inode : (old new : Disk) (j : ℕ) → ReadsAlike old new → 1 ≤ j → inode new j ≡ inode old j
alike_inode old new j a low =
    ap (λ l. inode_of (slice_range l (32 * ((j + 31) % 16)) (32 * ((j + 31) % 16) + 32))) (a.blocks ((j + 31) / 16) (λ is. absurd (omega (arith, is, low))))

alike_entries : (old new : Disk) → ReadsAlike old new → (b : ℕ) → entries new b ≡ entries old b
alike_entries old new a b =
    entries_by old new b (is_data old b) (is_data new b) (same_data old new (alike_zone old new a) b) (λ d. a.blocks b (data_some old b d).1)

alike_addresses : (old new : Disk) (node : Inode) → ReadsAlike old new → addresses new node ≡ addresses old node
alike_addresses old new node a i =
    cond (is_large node.mode)
    (flat_map (λ b. b ∷ alike_entries old new a b i) (take 7 node.addr) ++ (slice_index node.addr 7 ∷ flat_map (λ b. b ∷ alike_entries old new a b i) (alike_entries old new a (slice_index node.addr 7) i)))
    node.addr

alike_blocks : (old new : Disk) (node : Inode) → ReadsAlike old new → held_blocks new node ≡ held_blocks old node
alike_blocks old new node a i = cond (holds_blocks node.mode) (alike_addresses old new node a i) []

alike_held : (old new : Disk) (j : ℕ) → ReadsAlike old new → 1 ≤ j → held_by new j ≡ held_by old j
alike_held old new j a low = ap (held_blocks new) (alike_inode old new j a low) ∙ alike_blocks old new (inode old j) a

-- the same lists for all numbers from one on
pub same_flat : (f g : ℕ → List ℕ) (a n : ℕ) → ((j : ℕ) → a ≤ j → j < a + n → g j ≡ f j) → flat_map g (range_with_len a n) ≡ flat_map f (range_with_len a n)
same_flat f g a zero same = refl
same_flat f g a (suc n) same =
    ap (λ l. l ++ flat_map g (range_with_len (a + 1) n)) (same a (omega arith) (omega arith))
    ∙ ap (λ l. f a ++ l) (same_flat f g (a + 1) n (λ j l h. same j (omega (arith, l)) (omega (arith, h))))

alike_all : (old new : Disk) → ReadsAlike old new → all_blocks new ≡ all_blocks old
unfolding all_blocks
alike_all old new a =
    ap (λ l. l ++ flat_map (held_by new) (inode_numbers new)) a.free
    ∙ ap (λ n. free old ++ flat_map (held_by new) (range_with_len 1 n)) (same_inodes old new (alike_zone old new a))
    ∙ ap (λ l. free old ++ l) (same_flat (held_by old) (held_by new) 1 (inode_count old) (λ j l h. alike_held old new j a l))

alike_outside : (old new : Disk) (j : ℕ) → ReadsAlike old new → 1 ≤ j → inode_fault new j ≡ inode_fault old j
alike_outside old new j a low i = option_map (NodeOutside j) (least_outside (λ b. same_data old new (alike_zone old new a) b i) (alike_held old new j a low i))

alike_nodes : (old new : Disk) → ReadsAlike old new → first_some (map (inode_fault new) (inode_numbers new)) ≡ first_some (map (inode_fault old) (inode_numbers old))
alike_nodes old new a =
    ap (λ n. first_some (map (inode_fault new) (range_with_len 1 n))) (same_inodes old new (alike_zone old new a))
    ∙ ap first_some (same_map (inode_fault old) (inode_fault new) 1 (inode_count old) (λ j l h. alike_outside old new j a l))

not_bad : (s : SuperBlock) → IsGood s → is_bad_super s ≡ false
not_bad s g = let a = g.nodes in let b = g.zone in let c = g.nfree in let d = g.ninode in grind (arith, nat_tests)

alike_super : (limit : ℕ) (s n : SuperBlock) → IsGood s → IsGood n → n.f_size ≡ s.f_size → super_fault limit n ≡ super_fault limit s
alike_super limit s n gs gn same =
    ap (λ t. first_some (when t BadSuper ∷ when (nat_lt limit n.f_size) (NoSwap n.f_size) ∷ [])) (not_bad n gn ∙ sym (not_bad s gs))
    ∙ ap (λ m. first_some (when (is_bad_super s) BadSuper ∷ when (nat_lt limit m) (NoSwap m) ∷ [])) same

twice_in : List ℕ → Option ImageFault
twice_in blocks = option_map BlockTwice (least (filter (is_twice blocks) blocks))

five_same : (a b c d e a' b' c' d' e' : Option ImageFault) → a' ≡ a → b' ≡ b → c' ≡ c → d' ≡ d → e' ≡ e
    → first_some (a' ∷ b' ∷ c' ∷ d' ∷ e' ∷ []) ≡ first_some (a ∷ b ∷ c ∷ d ∷ e ∷ [])
five_same a b c d e a' b' c' d' e' p q r s t i = first_some (p i ∷ q i ∷ r i ∷ s i ∷ t i ∷ [])

-- the same first fault
pub alike_fault : (limit : ℕ) (old new : Disk) → ReadsAlike old new → disk_fault limit new ≡ disk_fault limit old
unfolding disk_fault twice_in
alike_fault limit old new a =
    five_same (super_fault limit (head old)) (free_walk old).fault (first_some (map (inode_fault old) (inode_numbers old))) (twice_in (all_blocks old)) (when (not (is_directory (inode old 1).mode)) NoRoot)
    (super_fault limit (head new)) (free_walk new).fault (first_some (map (inode_fault new) (inode_numbers new))) (twice_in (all_blocks new)) (when (not (is_directory (inode new 1).mode)) NoRoot)
    (alike_super limit (head old) (head new) (good_head (head old) a.was_sound.super) (good_head (head new) a.is_sound.super) a.super.f_size)
    (a.is_sound.walk ∙ sym a.was_sound.walk)
    (alike_nodes old new a)
    (ap twice_in (alike_all old new a))
    (ap (λ (n : Inode). when (not (is_directory n.mode)) NoRoot) (alike_inode old new 1 a (omega arith)))

alike_node : (old new : Disk) (j : ℕ) → ReadsAlike old new → IsWhole old → 1 ≤ j → j ≤ inode_count old → node_of new (inode new j) ≡ node_of old (inode old j)
alike_node old new j a w low high =
    ap (node_of new) (alike_inode old new j a low)
    ∙ node_kept old new (inode old j) (same_data old new (alike_zone old new a))
    (each_in (Kept old new) (held_by old j) (λ k comes some. a.blocks k (data_some old k ((file_apart old j w low high).inside k some comes)).1))

-- the same store, where no inode holds the super-block's block
pub alike_store : (old new : Disk) → ReadsAlike old new → IsWhole old → store_of new ≡ store_of old
unfolding store_of
alike_store old new a w i = record {
  nodes = None ∷ (ap (λ n. map (λ j. node_of new (inode new j)) (range_with_len 1 n)) (same_inodes old new (alike_zone old new a))
      ∙ same_map (λ j. node_of old (inode old j)) (λ j. node_of new (inode new j)) 1 (inode_count old) (λ j l h. alike_node old new j a w l (omega (arith, h)))) i;
  count = same_inodes old new (alike_zone old new a) i;
  room = length (a.free i);
  spare = take (a.super.ninode i) (a.super.inode i);
  stamp = a.super.time i;
  mark = false;
}

-- the other way round
pub alike_back : (old new : Disk) → ReadsAlike old new → ReadsAlike new old
alike_back old new a = record {
  was_sound = a.is_sound;
  is_sound = a.was_sound;
  super = record { i_size = sym a.super.i_size; f_size = sym a.super.f_size; ninode = sym a.super.ninode; inode = sym a.super.inode; time = sym a.super.time };
  free = sym a.free;
  blocks = λ k other. sym (a.blocks k other);
}

-- A disk that reads as a whole one is whole.
pub alike_whole : (old new : Disk) → ReadsAlike old new → IsWhole old → IsWhole new
alike_whole old new a w = whole_is new (alike_fault DISK_BLOCKS old new a ∙ whole_has_none old w)
