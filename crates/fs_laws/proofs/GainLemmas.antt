-- A file gains a block; a small file gains one of its eight.
use Rattle.std.proofs.Common.{◌≡◌, ◌≢◌, ◌/◌, ◌%◌, ◌<◌, inl, inr, ℕ, false, cond, ◌∷◌, ◌++◌, length, take, get_or, set, slice_index, nat_eq, sym, ap, ◌∙◌, arith, get_or-set_same, get_or-set_other}
use Rattle.std.proofs.lemmas.Bool.{ne_eqb}
use Rattle.std.proofs.lemmas.Bool.Decides.{eqb_tells}
use Rattle.std.specs.List.{count_by, flat_map}
use Rattle.fs_codec.specs.Modes.{is_large}
use Rattle.fs_codec.specs.Fields.{Inode}
use Rattle.fs_codec.specs.Disk.{Disk, is_data}
use Rattle.fs_codec.specs.Held.{entries, in_indirect, in_double, indirect_at, address, addresses}
use Rattle.bmap_path.specs.declared.BlockName.{BlockName}
use Rattle.bmap_path.specs.declared.BlockName.TheVariants.{Data, Ind, Dbl}
use Rattle.fs_codec.proofs.CountLemmas.{count-cons}
use Rattle.fs_laws.specs.Chain.{free, Takes}
use Rattle.fs_laws.specs.Whole.{IsApart}
use Rattle.fs_laws.specs.Gains.{Gains}
use Rattle.fs_laws.proofs.FreeLemmas.{same_data}
use Rattle.fs_laws.proofs.PlacesLemmas.{count_set}

-- A block that a file gains leaves the file's blocks apart.
pub gains_apart : (old new : Disk) (node next : Inode) (p : BlockName) (b : ℕ) → IsApart old (addresses old node) → Gains old node new next p b → IsApart new (addresses new next)
gains_apart old new node next p b apart g = record {
  inside = λ k some comes. same_data old new g.takes.still k ∙ (let c = g.count k some in elim (eqb_tells k b) [
    | inl e ↦ ap (is_data old) e.1 ∙ g.takes.zone
    | inr e ↦ (let t : cond {A = ℕ} (nat_eq k b) 1 0 ≡ 0 = ap (λ t. cond t 1 0) e.0 in apart.inside k some (omega (arith, c, t, comes)))
  ]);
  once = λ k some.
      let c = g.count k some in
      let o = apart.once k some in
      let f : count_by (nat_eq k) (free old) ≡ count_by (nat_eq k) (b ∷ free new) = ap (count_by (nat_eq k)) g.takes.first in
      omega (arith, c, o, f, count-cons k b (free new));
}

pub small_addresses : (disk : Disk) (node : Inode) → is_large node.mode ≡ false → addresses disk node ≡ node.addr
small_addresses disk node small = ap (λ t. cond t (flat_map (in_indirect disk) (take 7 node.addr) ++ in_double disk (slice_index node.addr 7)) node.addr) small

pub small_address : (disk : Disk) (node : Inode) (n : ℕ) → is_large node.mode ≡ false → address disk node (Data n) ≡ slice_index node.addr n
small_address disk node n small = ap (λ t. cond t (slice_index (entries disk (indirect_at disk node (n / 256))) (n % 256)) (slice_index node.addr n)) small

pub small_indirect : (disk : Disk) (node : Inode) (k : ℕ) → is_large node.mode ≡ false → address disk node (Ind k) ≡ 0
small_indirect disk node k small = ap (λ t. cond t (indirect_at disk node k) 0) small

pub small_double : (disk : Disk) (node : Inode) → is_large node.mode ≡ false → address disk node Dbl ≡ 0
small_double disk node small = ap (λ t. cond t (slice_index node.addr 7) 0) small

small_others : (old new : Disk) (node next : Inode) (n b : ℕ) → is_large node.mode ≡ false → is_large next.mode ≡ false → next.addr ≡ set node.addr n b → (q : BlockName) → q ≢ Data n → address new next q ≡ address old node q
small_others old new node next n b small small' is (Data m) other =
    small_address new next m small' ∙ ap (λ l. slice_index l m) is ∙ get_or-set_other node.addr n m b 0 (λ e. other (ap Data e)) ∙ sym (small_address old node m small)
small_others old new node next n b small small' is (Ind k) other = small_indirect new next k small' ∙ sym (small_indirect old node k small)
small_others old new node next n b small small' is Dbl other = small_double new next small' ∙ sym (small_double old node small)

-- a small file gains a block
pub small_gains : (old new : Disk) (node next : Inode) (n b : ℕ) → is_large node.mode ≡ false → next.mode ≡ node.mode → length node.addr ≡ 8 → n < 8 → next.addr ≡ set node.addr n b
    → slice_index node.addr n ≡ 0 → Takes old b new → Gains old node new next (Data n) b
small_gains old new node next n b small mode long low is none takes =
    let small' : is_large next.mode ≡ false = ap is_large mode ∙ small in
    record {
      takes = takes;
      here = small_address new next n small' ∙ ap (λ l. slice_index l n) is ∙ get_or-set_same node.addr n b 0 (omega (arith, long, low));
      others = small_others old new node next n b small small' is;
      count = λ k some.
          let c = count_set k node.addr n b (omega (arith, long, low)) in
          let z : cond {A = ℕ} (nat_eq k (get_or node.addr n 0)) 1 0 ≡ 0 = ap (λ x. cond (nat_eq k x) 1 0) none ∙ ap (λ t. cond t 1 0) (ne_eqb k 0 some) in
          let a : count_by (nat_eq k) (addresses new next) ≡ count_by (nat_eq k) (set node.addr n b) = ap (count_by (nat_eq k)) (small_addresses new next small' ∙ is) in
          let o : count_by (nat_eq k) (addresses old node) ≡ count_by (nat_eq k) node.addr = ap (count_by (nat_eq k)) (small_addresses old node small) in
          omega (arith, c, z, a, o);
    }
