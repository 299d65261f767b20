-- A disk without a fault is one that is whole.
use Rattle.std.proofs.Common.{◌≡◌, ◌≢◌, ◌+◌, ◌≤◌, ◌==◌, ◌&&◌, inl, inr, ℕ, Bool, true, false, not, cond, List, [], ◌∷◌, ◌++◌, map, nat_eq, nat_le, nat_lt, Option, Some, None, refl, sym, ap, ◌∙◌, subst, arith}
use Rattle.std.proofs.lemmas.Bool.{eqb-false, ne_eqb, cases_lt}
use Rattle.std.proofs.lemmas.Bool.Decides.{eqb_tells, nat_tests}
use Rattle.std.specs.List.{filter, count_by, flat_map}
use Rattle.std.specs.Option.{option_map}
use Rattle.fs_codec.specs.Modes.{is_directory}
use Rattle.fs_codec.specs.Disk.{Disk, head, is_data, inode, inode_numbers}
use Rattle.fs_codec.specs.Free.{free_walk}
use Rattle.fs_codec.specs.Held.{held_by}
use Rattle.fs_codec.specs.Faults.{least, least_outside, first_some, when, is_bad_super, is_outside, inode_fault, all_blocks, is_twice, super_fault, disk_fault}
use Rattle.fs_codec.specs.declared.fault.ImageFault.{ImageFault}
use Rattle.fs_codec.specs.declared.super_block.SuperBlock.{SuperBlock}
use Rattle.fs_codec.specs.declared.fault.ImageFault.TheVariants.{BadSuper, NoSwap, NodeOutside, BlockTwice, NoRoot}
use Rattle.fs_codec.proofs.CountLemmas.{count-cons, count-append}
use Rattle.fs_codec.proofs.LeastLemmas.{IsLeast, least_is}
use Rattle.fs_laws.specs.Chain.{free}
use Rattle.fs_laws.specs.Whole.{held, IsWhole}
use Rattle.fs_codec.proofs.FreeLemmas.{free_is_data}
use Rattle.fs_laws.proofs.ChainLemmas.{count_first}
use Rattle.fs_laws.proofs.FreeLemmas.{data_some}
use Rattle.fs_codec.specs.declared.layout.TheConstants.{DISK_BLOCKS}

pub five : (a b c d e : Option ImageFault) → first_some (a ∷ b ∷ c ∷ d ∷ e ∷ []) ≡ None → (a ≡ None) × (b ≡ None) × (c ≡ None) × (d ≡ None) × (e ≡ None)
five (Some f) b c d e h = absurd (cc)
five None (Some f) c d e h = absurd (cc)
five None None (Some f) d e h = absurd (cc)
five None None None (Some f) e h = absurd (cc)
five None None None None (Some f) h = absurd (cc)
five None None None None None h = (refl, refl, refl, refl, refl)

pub five_none : (a b c d e : Option ImageFault) → a ≡ None → b ≡ None → c ≡ None → d ≡ None → e ≡ None → first_some (a ∷ b ∷ c ∷ d ∷ e ∷ []) ≡ None
five_none a b c d e p q r s t =
    ap (λ o. first_some (o ∷ b ∷ c ∷ d ∷ e ∷ [])) p ∙ ap (λ o. first_some (o ∷ c ∷ d ∷ e ∷ [])) q ∙ ap (λ o. first_some (o ∷ d ∷ e ∷ [])) r ∙ ap (λ o. first_some (o ∷ e ∷ [])) s ∙ ap (λ o. first_some (o ∷ [])) t

pub two : (a : Option ImageFault) (rest : List (Option ImageFault)) → first_some (a ∷ rest) ≡ None → (a ≡ None) × (first_some rest ≡ None)
two None rest h = (refl, h)
two (Some f) rest h = absurd (cc)

unmapped : (f : ℕ → ImageFault) (o : Option ℕ) → option_map f o ≡ None → o ≡ None
unmapped f None h = refl
unmapped f (Some b) h = absurd (cc)

no_least : (p : ℕ → Bool) (xs : List ℕ) → least (filter p xs) ≡ None → (k : ℕ) → 1 ≤ count_by (nat_eq k) xs → p k ≡ false
no_least p xs h = let P : Option ℕ → Type 0 = IsLeast p xs in subst P h (least_is p xs)

none_least : (p : ℕ → Bool) (xs : List ℕ) → ((k : ℕ) → p k ≡ true → ⊥) → least (filter p xs) ≡ None
none_least p xs none = by (least (filter p xs)) (least_is p xs) where
  by : (o : Option ℕ) → IsLeast p xs o → o ≡ None
  by None is = refl
  by (Some m) is = absurd (none m is.0)

some_least : (p : ℕ → Bool) (xs : List ℕ) (o : Option ℕ) → o ≡ least (filter p xs) → ((k : ℕ) → 1 ≤ count_by (nat_eq k) xs → p k ≡ false) → o ≡ None
some_least p [] o is none = is
some_least p (x ∷ xs) o is none =
    is ∙ (let no : p x ≡ false = none x (omega (arith, count_first x xs)) in
    ap (λ t. least (cond t (x ∷ filter p xs) (filter p xs))) no ∙ some_least p xs (least (filter p xs)) refl (λ k c. none k (omega (arith, c, count-cons k x xs))))

nodes_inside : (disk : Disk) (xs : List ℕ) → first_some (map (inode_fault disk) xs) ≡ None → (k : ℕ) → 1 ≤ count_by (nat_eq k) (flat_map (held_by disk) xs) → is_outside (is_data disk) k ≡ false
unfolding least_outside
nodes_inside disk [] h k comes = absurd (omega (arith, comes))
nodes_inside disk (i ∷ xs) h k comes =
    let parts = two (inode_fault disk i) (map (inode_fault disk) xs) h in
    elim (eqb_tells (count_by (nat_eq k) (held_by disk i)) 0) [
      | inl e ↦ nodes_inside disk xs parts.1 k (omega (arith, e.1, comes, count-append k (held_by disk i) (flat_map (held_by disk) xs)))
      | inr e ↦ no_least (is_outside (is_data disk)) (held_by disk i) (unmapped (NodeOutside i) (least (filter (is_outside (is_data disk)) (held_by disk i))) parts.0) k (let n = e.1 in elim (cases_lt 0 (count_by (nat_eq k) (held_by disk i))) [ inl s ↦ s | inr z ↦ absurd (n (omega (arith, z))) ])
    ]

inside_nodes : (disk : Disk) (xs : List ℕ) → ((k : ℕ) → 1 ≤ count_by (nat_eq k) (flat_map (held_by disk) xs) → is_outside (is_data disk) k ≡ false) → first_some (map (inode_fault disk) xs) ≡ None
unfolding least_outside
inside_nodes disk [] h = refl
inside_nodes disk (i ∷ xs) h =
    ap (λ o. first_some (o ∷ map (inode_fault disk) xs)) (ap (option_map (NodeOutside i)) (some_least (is_outside (is_data disk)) (held_by disk i) (least (filter (is_outside (is_data disk)) (held_by disk i))) refl
    (λ k c. h k (omega (arith, c, count-append k (held_by disk i) (flat_map (held_by disk) xs))))))
    ∙ inside_nodes disk xs (λ k c. h k (omega (arith, c, count-append k (held_by disk i) (flat_map (held_by disk) xs))))

not_outside : (z d : Bool) → not z && not d ≡ false → z ≡ false → d ≡ true
not_outside true d h e = absurd (cc)
not_outside false true h e = refl
not_outside false false h e = absurd (cc)

both_true : (s t : Bool) → s && t ≡ true → (s ≡ true) × (t ≡ true)
both_true true true h = (refl, refl)
both_true true false h = absurd (cc)
both_true false t h = absurd (cc)

le_true : (a b : ℕ) → nat_le a b ≡ true → a ≤ b
le_true a b h = grind (arith, nat_tests)

true_le : (a b : ℕ) → a ≤ b → nat_le a b ≡ true
true_le a b h = grind (arith, nat_tests)

not_true : (t : Bool) → not t ≡ true → t ≡ false
not_true true h = absurd (cc)
not_true false h = refl

no_root : (t : Bool) → when (not t) NoRoot ≡ None → t ≡ true
no_root true h = refl
no_root false h = absurd (cc)

at_most_one : (xs : List ℕ) → least (filter (is_twice xs) xs) ≡ None → (k : ℕ) → k ≢ 0 → count_by (nat_eq k) xs ≤ 1
at_most_one xs h k some = elim (cases_lt (count_by (nat_eq k) xs) 2) [
  | inl few ↦ omega (arith, few)
  | inr many ↦ (let is : is_twice xs k ≡ true = ap (λ t. not t && nat_le 2 (count_by (nat_eq k) xs)) (ne_eqb k 0 some) ∙ true_le 2 (count_by (nat_eq k) xs) many in
      let no : is_twice xs k ≡ false = no_least (is_twice xs) xs h k (omega (arith, many)) in absurd (cc))
]

not_less : (a b : ℕ) → b ≤ a → nat_lt a b ≡ false
not_less a b h = grind (arith, nat_tests)

less_not : (a b : ℕ) (fault : ImageFault) → first_some (when (nat_lt a b) fault ∷ []) ≡ None → b ≤ a
less_not a b fault h = by (nat_lt a b) refl h where
  by : (t : Bool) → nat_lt a b ≡ t → first_some (when t fault ∷ []) ≡ None → b ≤ a
  by true e n = absurd (cc)
  by false e n = grind (arith, nat_tests)

pub whole_is : (disk : Disk) → disk_fault DISK_BLOCKS disk ≡ None → IsWhole disk
unfolding disk_fault all_blocks
whole_is disk h =
    let parts = five (super_fault DISK_BLOCKS (head disk)) (free_walk disk).fault (first_some (map (inode_fault disk) (inode_numbers disk)))
    (option_map BlockTwice (least (filter (is_twice (free disk ++ held disk)) (free disk ++ held disk)))) (when (not (is_directory (inode disk 1).mode)) NoRoot) h in
    let single : (k : ℕ) → k ≢ 0 → count_by (nat_eq k) (free disk ++ held disk) ≤ 1 =
    at_most_one (free disk ++ held disk) (unmapped BlockTwice (least (filter (is_twice (free disk ++ held disk)) (free disk ++ held disk))) parts.3) in
    let once : (k : ℕ) → k ≢ 0 → count_by (nat_eq k) (free disk) + count_by (nat_eq k) (held disk) ≤ 1 =
    λ k some. let s = single k some in omega (arith, s, count-append k (free disk) (held disk)) in
    record {
      sound = record {
        super = parts.0;
        walk = parts.1;
        once = λ k. elim (eqb_tells k 0) [
          | inl e ↦ elim (cases_lt 0 (count_by (nat_eq k) (free disk))) [ inl c ↦ absurd ((data_some disk k (free_is_data disk k c)).0 e.1) | inr c ↦ omega (arith, c) ]
          | inr e ↦ (let o = once k e.1 in omega (arith, o))
        ];
      };
      inside = λ k some comes. not_outside (k == 0) (is_data disk k) (nodes_inside disk (inode_numbers disk) parts.2 k comes) (ne_eqb k 0 some);
      once = once;
      root = no_root (is_directory (inode disk 1).mode) parts.4;
    }

outside_not : (disk : Disk) (k : ℕ) → (k ≢ 0 → is_data disk k ≡ true) → is_outside (is_data disk) k ≡ false
outside_not disk k h = elim (eqb_tells k 0) [
  | inl e ↦ ap (λ t. not t && not (is_data disk k)) e.0
  | inr e ↦ ap (λ t. not t && not (is_data disk k)) e.0 ∙ ap not (h e.1)
]

pub whole_has_none : (disk : Disk) → IsWhole disk → disk_fault DISK_BLOCKS disk ≡ None
unfolding disk_fault all_blocks
whole_has_none disk w =
    let xs : List ℕ = free disk ++ held disk in
    five_none (super_fault DISK_BLOCKS (head disk)) (free_walk disk).fault (first_some (map (inode_fault disk) (inode_numbers disk)))
    (option_map BlockTwice (least (filter (is_twice xs) xs))) (when (not (is_directory (inode disk 1).mode)) NoRoot)
    w.sound.super w.sound.walk
    (inside_nodes disk (inode_numbers disk) (λ k comes. outside_not disk k (λ some. w.inside k some comes)))
    (ap (option_map BlockTwice) (none_least (is_twice xs) xs (λ k is.
    let p = both_true (not (k == 0)) (nat_le 2 (count_by (nat_eq k) xs)) is in
    let some : k ≢ 0 = eqb-false k 0 (not_true (k == 0) p.0) in
    let many = le_true 2 (count_by (nat_eq k) xs) p.1 in
    let o = w.once k some in
    absurd (omega (arith, many, o, count-append k (free disk) (held disk))))))
    (ap (λ t. when (not t) NoRoot) w.root)

super_within : (limit : ℕ) (s : SuperBlock) → super_fault DISK_BLOCKS s ≡ None → s.f_size ≤ limit → super_fault limit s ≡ None
super_within limit s good high =
    let b = two (when (is_bad_super s) BadSuper) (when (nat_lt DISK_BLOCKS s.f_size) (NoSwap s.f_size) ∷ []) good in
    ap (λ o. first_some (o ∷ when (nat_lt limit s.f_size) (NoSwap s.f_size) ∷ [])) b.0
    ∙ ap (λ t. first_some (None ∷ when t (NoSwap s.f_size) ∷ [])) (not_less limit s.f_size high)

super_below : (limit : ℕ) (s : SuperBlock) → limit ≤ DISK_BLOCKS → super_fault limit s ≡ None → (super_fault DISK_BLOCKS s ≡ None) × (s.f_size ≤ limit)
super_below limit s few good =
    let b = two (when (is_bad_super s) BadSuper) (when (nat_lt limit s.f_size) (NoSwap s.f_size) ∷ []) good in
    let end : s.f_size ≤ limit = less_not limit s.f_size (NoSwap s.f_size) b.1 in (
      ap (λ o. first_some (o ∷ when (nat_lt DISK_BLOCKS s.f_size) (NoSwap s.f_size) ∷ [])) b.0
          ∙ ap (λ t. first_some (None ∷ when t (NoSwap s.f_size) ∷ [])) (not_less DISK_BLOCKS s.f_size (omega (arith, few, end))),
      end,
    )

-- A disk has no fault under a limit where its file system is whole and keeps to the limit.
pub whole_within : (limit : ℕ) (disk : Disk) → IsWhole disk → (head disk).f_size ≤ limit → disk_fault limit disk ≡ None
unfolding disk_fault
whole_within limit disk w high =
    ap (λ o. first_some (o ∷ (free_walk disk).fault ∷ first_some (map (inode_fault disk) (inode_numbers disk)) ∷ option_map BlockTwice (least (filter (is_twice (all_blocks disk)) (all_blocks disk))) ∷ when (not (is_directory (inode disk 1).mode)) NoRoot ∷ []))
    (super_within limit (head disk) w.sound.super high ∙ sym w.sound.super)
    ∙ whole_has_none disk w

pub within_whole : (limit : ℕ) (disk : Disk) → limit ≤ DISK_BLOCKS → disk_fault limit disk ≡ None → IsWhole disk × ((head disk).f_size ≤ limit)
unfolding disk_fault
within_whole limit disk few h =
    let parts = two (super_fault limit (head disk)) ((free_walk disk).fault ∷ first_some (map (inode_fault disk) (inode_numbers disk)) ∷ option_map BlockTwice (least (filter (is_twice (all_blocks disk)) (all_blocks disk))) ∷ when (not (is_directory (inode disk 1).mode)) NoRoot ∷ []) h in
    let s = super_below limit (head disk) few parts.0 in
    (whole_is disk (ap (λ o. first_some (o ∷ (free_walk disk).fault ∷ first_some (map (inode_fault disk) (inode_numbers disk)) ∷ option_map BlockTwice (least (filter (is_twice (all_blocks disk)) (all_blocks disk))) ∷ when (not (is_directory (inode disk 1).mode)) NoRoot ∷ [])) (s.0 ∙ sym parts.0) ∙ h), s.1)
