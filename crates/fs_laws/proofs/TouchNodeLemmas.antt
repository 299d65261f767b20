-- The node of a file that gains a block.
use Rattle.std.proofs.Common.{◌≡◌, ◌≢◌, ◌+◌, ◌-◌, ◌<◌, ◌&&◌, ◌||◌, ◌==◌, not, ℕ, Bool, true, false, cond, length, slice_index, nat_lt, Some, bit_or, refl, sym, ap, ◌∙◌, arith}
use Rattle.std.proofs.lemmas.Bool.{ne_eqb, lt-ltb, le-ltb}
use Rattle.std.proofs.lemmas.List.FromFn.{get_or-map-range_with_len}
use Rattle.bmap_path.specs.declared.BlockName.{BlockName}
use Rattle.bmap_path.specs.declared.BlockName.TheVariants.{Data, Ind, Dbl}
use Rattle.fs_codec.specs.Fields.{Inode}
use Rattle.fs_codec.specs.Modes.{is_large, is_device, holds_blocks}
use Rattle.fs_codec.specs.Disk.{Disk}
use Rattle.fs_codec.specs.Held.{address}
use Rattle.fs_codec.specs.Store.{Node, rank, holds}
use Rattle.fs_codec.specs.Stands.{name_of, is_held, held_of, data_of, node_of}
use Rattle.fs_laws.specs.Shown.{file_of}
use Rattle.fs_laws.specs.Touch.{mode_with, gained}
use Rattle.fs_laws.specs.Grows.{Grows, IsPlace}
use Rattle.fs_laws.proofs.HeldGains.{held_gains}
use Rattle.fs_laws.proofs.ShownLemmas.{node_shown, node_some}
use Rattle.fs_laws.proofs.TouchModeLemmas.{still_holds, same_type}
use Rattle.fs_laws.proofs.TouchBodyLemmas.{held_is, grown_body, not_indirect, not_double}

-- a name is the name of its rank
pub name_rank : (p : BlockName) → IsPlace p → p ≡ name_of (rank p)
name_rank (Data n) h = sym (ap (λ t. cond t (Data n) (cond (nat_lt n 67591) (Ind (n - 67328)) Dbl)) (lt-ltb n 67328 h))
name_rank (Ind k) h =
    let back : 67328 + k - 67328 ≡ k = omega arith in
    sym (ap (λ t. cond t (Data (67328 + k)) (cond (nat_lt (67328 + k) 67591) (Ind (67328 + k - 67328)) Dbl)) (le-ltb (67328 + k) 67328 (omega arith))
    ∙ ap (λ t. cond t (Ind (67328 + k - 67328)) Dbl) (lt-ltb (67328 + k) 67591 (omega (arith, h))) ∙ ap Ind back)
name_rank Dbl h = refl

pub rank_low : (p : BlockName) → IsPlace p → rank p < 67592
rank_low (Data n) h = omega (arith, h)
rank_low (Ind k) h = omega (arith, h)
rank_low Dbl h = omega arith

pub holds_when : (mode : ℕ) → mode ≢ 0 → is_device mode ≡ false → holds_blocks mode ≡ true
holds_when mode some plain = ap (λ t. not t && not (is_device mode)) (ne_eqb mode 0 some) ∙ ap not plain

large_holds : (mode : ℕ) (t : Bool) → holds_blocks mode ≡ true → holds_blocks (cond t mode (bit_or mode 0o010000)) ≡ true
large_holds mode true h = h
large_holds mode false h = still_holds mode h

-- A file that takes a block still holds blocks, and is no device.
pub mode_holds : (mode : ℕ) (p : BlockName) → holds_blocks mode ≡ true → holds_blocks (mode_with mode p) ≡ true
mode_holds mode (Data n) h = h
mode_holds mode (Ind k) h = large_holds mode (is_large mode) h
mode_holds mode Dbl h = h

large_plain : (mode : ℕ) (t : Bool) → is_device mode ≡ false → is_device (cond t mode (bit_or mode 0o010000)) ≡ false
large_plain mode true h = h
large_plain mode false h = ap (λ t. (t == 0o020000) || (t == 0o060000)) (same_type mode) ∙ h

pub mode_plain : (mode : ℕ) (p : BlockName) → is_device mode ≡ false → is_device (mode_with mode p) ≡ false
mode_plain mode (Data n) h = h
mode_plain mode (Ind k) h = large_plain mode (is_large mode) h
mode_plain mode Dbl h = h

-- a node holds a block where its inode has its address
pub node_holds : (disk : Disk) (node : Inode) (file : Node) (p : BlockName) → node_of disk node ≡ Some file → is_device node.mode ≡ false → IsPlace p → holds file p ≡ not (address disk node p == 0)
unfolding held_of
node_holds disk node file p is plain place =
    let f = node_some disk node file is in
    ap (λ (n : Node). holds n p) f.1 ∙ get_or-map-range_with_len (λ r. is_held disk node (name_of r)) 0 67592 (rank p) (rank p) false (rank_low p place) (omega arith)
    ∙ ap (is_held disk node) (sym (name_rank p place)) ∙ held_is disk node p (holds_when node.mode f.0 plain)

place_data : (p : BlockName) → IsPlace p → (n : ℕ) → p ≡ Data n → n < 67328
place_data (Data m) h n e = let same : m ≡ n = cc in omega (arith, h, same)
place_data (Ind k) h n e = absurd (not_indirect n k (sym e))
place_data Dbl h n e = absurd (not_double n (sym e))

-- the fields of the node that gains the block
grown_fields : (old new : Disk) (node next : Inode) (p : BlockName) (b : ℕ) → Grows old node new next p b → address old node p ≡ 0 → b ≢ 0 → node.mode ≢ 0 → is_device node.mode ≡ false → IsPlace p
    → ((j : ℕ) → length (data_of old node j) ≡ 512) → file_of new next ≡ gained (file_of old node) p
grown_fields old new node next p b g none some used plain place each =
    let h : holds_blocks node.mode ≡ true = holds_when node.mode used plain in
    let h' : holds_blocks next.mode ≡ true = ap holds_blocks g.mode ∙ mode_holds node.mode p h in
    let plain' : is_device next.mode ≡ false = ap is_device g.mode ∙ mode_plain node.mode p plain in
    let device : cond (is_device next.mode) (slice_index next.addr 0) 0 ≡ cond (is_device node.mode) (slice_index node.addr 0) 0 =
    ap (λ t. cond t (slice_index next.addr 0) 0) plain' ∙ sym (ap (λ t. cond t (slice_index node.addr 0) 0) plain) in
    let held = held_gains old new node next p b (rank p) g.gains some h h' (name_rank p place) (rank_low p place) in
    let body = grown_body old new node next p b g none some h h' (place_data p place) each in
    λ i. record {
      mode = g.mode i;
      nlink = g.fields.nlink i;
      uid = g.fields.uid i;
      gid = g.fields.gid i;
      size = g.fields.size i;
      device = device i;
      actime = g.fields.actime i;
      modtime = g.fields.modtime i;
      held = held i;
      body = body i;
    }

-- A file that gains a block is the node that gains it.
pub grown_node : (old new : Disk) (node next : Inode) (p : BlockName) (b : ℕ) (file : Node) → Grows old node new next p b → address old node p ≡ 0 → b ≢ 0 → node_of old node ≡ Some file → is_device node.mode ≡ false → IsPlace p
    → ((j : ℕ) → length (data_of old node j) ≡ 512) → node_of new next ≡ Some (gained file p)
grown_node old new node next p b file g none some is plain place each =
    let f = node_some old node file is in
    let h : holds_blocks next.mode ≡ true = ap holds_blocks g.mode ∙ mode_holds node.mode p (holds_when node.mode f.0 plain) in
    node_shown new next (used next.mode h) ∙ ap Some (grown_fields old new node next p b g none some f.0 plain place each ∙ ap (λ n. gained n p) (sym f.1)) where
      used : (mode : ℕ) → holds_blocks mode ≡ true → mode ≢ 0
      used mode h e = let z : holds_blocks 0 ≡ true = ap holds_blocks (sym e) ∙ h in absurd (cc)
