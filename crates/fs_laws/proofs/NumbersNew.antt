-- A new inode: eight addresses that are 0, whether it is large or not.
use Rattle.std.proofs.Common.{◌≡◌, ◌≢◌, ◌-◌, ◌/◌, ◌%◌, ◌==◌, ℕ, zero, suc, Bool, true, false, cond, nat_lt, nat_eq, bit_and, bit_or, List, [], ◌∷◌, ◌++◌, replicate, slice_index, Some, None, refl, ap, ◌∙◌, arith}
use Rattle.std.proofs.lemmas.Bool.{ne_eqb}
use Rattle.std.proofs.lemmas.Nat.{and_or_self}
use Rattle.std.specs.List.{count_by, flat_map, range_with_len}
use Rattle.fs_codec.specs.Fields.{Inode}
use Rattle.fs_codec.specs.Modes.{is_large, is_device, holds_blocks}
use Rattle.fs_codec.specs.Disk.{Disk}
use Rattle.fs_codec.specs.Held.{entries, in_indirect, in_double, addresses, held_blocks, indirect_at, address}
use Rattle.fs_codec.specs.Store.{Node}
use Rattle.fs_codec.specs.Stands.{name_of, is_held, held_of, data_of, body_of, node_of}
use Rattle.bmap_path.specs.declared.BlockName.{BlockName}
use Rattle.bmap_path.specs.declared.BlockName.TheVariants.{Data, Ind, Dbl}
use Rattle.fs_codec.proofs.CountLemmas.{count-cons}
use Rattle.fs_laws.specs.Truncation.{no_names}
use Rattle.fs_laws.specs.Numbers.{new_node}
use Rattle.fs_laws.proofs.HeldLemmas.{no_entries}
use Rattle.fs_laws.proofs.TruncationLemmas.{all_false, past_none, not_held}

-- the inode that is written for it
abbrev pub new_inode : ℕ → ℕ → ℕ → ℕ → Inode
new_inode mode uid gid time = record {
  mode = bit_or mode 32768;
  nlink = 0;
  uid = uid;
  gid = gid;
  size = 0;
  addr = 0 ∷ 0 ∷ 0 ∷ 0 ∷ 0 ∷ 0 ∷ 0 ∷ 0 ∷ [];
  actime = time;
  modtime = time;
}

zeros_at : (k : ℕ) → slice_index (0 ∷ 0 ∷ 0 ∷ 0 ∷ 0 ∷ 0 ∷ 0 ∷ 0 ∷ []) k ≡ 0
zeros_at zero = refl
zeros_at (suc zero) = refl
zeros_at (suc (suc zero)) = refl
zeros_at (suc (suc (suc zero))) = refl
zeros_at (suc (suc (suc (suc zero)))) = refl
zeros_at (suc (suc (suc (suc (suc zero))))) = refl
zeros_at (suc (suc (suc (suc (suc (suc zero)))))) = refl
zeros_at (suc (suc (suc (suc (suc (suc (suc zero))))))) = refl
zeros_at (suc (suc (suc (suc (suc (suc (suc (suc k)))))))) = refl

either : (t : Bool) (m n : ℕ) → m ≡ 0 → n ≡ 0 → cond t m n ≡ 0
either true m n a b = a
either false m n a b = b

no_indirect : (disk : Disk) (mode uid gid time k : ℕ) → indirect_at disk (new_inode mode uid gid time) k ≡ 0
no_indirect disk mode uid gid time k =
    either (nat_lt k 7) (slice_index (new_inode mode uid gid time).addr k) (slice_index (entries disk 0) (k - 7)) (zeros_at k) (ap (λ l. slice_index l (k - 7)) (no_entries disk))

-- no name has a block
no_address : (disk : Disk) (mode uid gid time : ℕ) (name : BlockName) → address disk (new_inode mode uid gid time) name ≡ 0
no_address disk mode uid gid time (Data n) =
    either (is_large (bit_or mode 32768)) (slice_index (entries disk (indirect_at disk (new_inode mode uid gid time) (n / 256))) (n % 256)) (slice_index (new_inode mode uid gid time).addr n)
    (ap (λ b. slice_index (entries disk b) (n % 256)) (no_indirect disk mode uid gid time (n / 256)) ∙ ap (λ l. slice_index l (n % 256)) (no_entries disk)) (zeros_at n)
no_address disk mode uid gid time (Ind k) = either (is_large (bit_or mode 32768)) (indirect_at disk (new_inode mode uid gid time) k) 0 (no_indirect disk mode uid gid time k) refl
no_address disk mode uid gid time Dbl = either (is_large (bit_or mode 32768)) 0 0 refl refl

zeros_counted : (k n : ℕ) → k ≢ 0 → count_by (nat_eq k) (replicate n 0) ≡ 0
zeros_counted k zero some = refl
zeros_counted k (suc n) some =
    let c = count-cons k 0 (replicate n 0) in
    let r = zeros_counted k n some in
    let t : (let one : Bool → ℕ = λ t. cond t 1 0 in one (nat_eq k 0)) ≡ 0 = ap (λ t. cond t 1 0) (ne_eqb k 0 some) in
    omega (arith, c, r, t)

large_counted : (disk : Disk) (k : ℕ) → k ≢ 0 → count_by (nat_eq k) (flat_map (in_indirect disk) (0 ∷ 0 ∷ 0 ∷ 0 ∷ 0 ∷ 0 ∷ 0 ∷ []) ++ in_double disk 0) ≡ 0
large_counted disk k some =
    ap (λ (e : List ℕ). count_by (nat_eq k) (flat_map (λ (b : ℕ). b ∷ e) (0 ∷ 0 ∷ 0 ∷ 0 ∷ 0 ∷ 0 ∷ 0 ∷ []) ++ 0 ∷ flat_map (in_indirect disk) e)) (no_entries disk) ∙ zeros_counted k 8 some

-- It holds no block.
pub new_holds : (disk : Disk) (mode uid gid time k : ℕ) → k ≢ 0 → count_by (nat_eq k) (held_blocks disk (new_inode mode uid gid time)) ≡ 0
new_holds disk mode uid gid time k some = outer (holds_blocks (bit_or mode 32768)) where
  inner : (t : Bool) → count_by (nat_eq k) (cond t (flat_map (in_indirect disk) (0 ∷ 0 ∷ 0 ∷ 0 ∷ 0 ∷ 0 ∷ 0 ∷ []) ++ in_double disk 0) (0 ∷ 0 ∷ 0 ∷ 0 ∷ 0 ∷ 0 ∷ 0 ∷ 0 ∷ [])) ≡ 0
  inner true = large_counted disk k some
  inner false = zeros_counted k 8 some

  outer : (t : Bool) → count_by (nat_eq k) (cond t (addresses disk (new_inode mode uid gid time)) []) ≡ 0
  outer true = inner (is_large (bit_or mode 32768))
  outer false = refl

pub new_used : (mode : ℕ) → bit_or mode 32768 ≢ 0
new_used mode e = let x : bit_and (bit_or mode 32768) 32768 ≡ 0 = ap (λ y. bit_and y 32768) e in let y : bit_and (bit_or mode 32768) 32768 ≡ 32768 = and_or_self 32768 mode in absurd (omega (arith, x, y))

new_names : (disk : Disk) (mode uid gid time : ℕ) → held_of disk (new_inode mode uid gid time) ≡ no_names
unfolding held_of no_names
new_names disk mode uid gid time =
    all_false (λ r. is_held disk (new_inode mode uid gid time) (name_of r)) 0 67592
    (λ r. not_held (holds_blocks (bit_or mode 32768)) (address disk (new_inode mode uid gid time) (name_of r)) (no_address disk mode uid gid time (name_of r)))

new_body : (disk : Disk) (mode uid gid time : ℕ) → body_of disk (new_inode mode uid gid time) ≡ []
unfolding body_of
new_body disk mode uid gid time =
    ap (λ n. flat_map (data_of disk (new_inode mode uid gid time)) (range_with_len 0 n))
    (past_none (λ n. is_held disk (new_inode mode uid gid time) (Data n)) 67328
    (λ n. not_held (holds_blocks (bit_or mode 32768)) (address disk (new_inode mode uid gid time) (Data n)) (no_address disk mode uid gid time (Data n))))

used_when : (t : Bool) (node : Node) → t ≡ false → cond t None (Some node) ≡ Some node
used_when true node e = absurd (cc)
used_when false node e = refl

as_new : ℕ → ℕ → ℕ → ℕ → ℕ → List Bool → List ℕ → Node
as_new mode uid gid time device held body = record {
  mode = bit_or mode 32768;
  nlink = 0;
  uid = uid;
  gid = gid;
  size = 0;
  device = device;
  actime = time;
  modtime = time;
  held = held;
  body = body;
}

-- Its node.
pub new_is : (disk : Disk) (mode uid gid time : ℕ) → node_of disk (new_inode mode uid gid time) ≡ Some (new_node mode uid gid time)
unfolding as_new
new_is disk mode uid gid time =
    used_when (bit_or mode 32768 == 0) (as_new mode uid gid time (cond (is_device (bit_or mode 32768)) 0 0) (held_of disk (new_inode mode uid gid time)) (body_of disk (new_inode mode uid gid time))) (ne_eqb (bit_or mode 32768) 0 (new_used mode))
    ∙ (λ i. Some (as_new mode uid gid time (either (is_device (bit_or mode 32768)) 0 0 refl refl i) (new_names disk mode uid gid time i) (new_body disk mode uid gid time i)))
