-- The node of an inode of which fields have changed, and no address that counts.
use Rattle.std.proofs.Common.{◌≡◌, ◌≢◌, ◌-◌, ◌/◌, ◌%◌, ◌==◌, ◌&&◌, ◌||◌, ℕ, Bool, true, false, not, cond, map, slice_index, nat_lt, replicate, take, [], ◌++◌, Some, None, refl, sym, ap, ◌∙◌}
use Rattle.std.proofs.lemmas.Bool.{ne_eqb, eqb-false}
use Rattle.std.proofs.lemmas.Option.{none-some, same_Some}
use Rattle.std.specs.List.{flat_map, range_with_len}
use Rattle.fs_codec.specs.Fields.{Inode}
use Rattle.fs_codec.specs.Modes.{is_device, is_large, holds_blocks}
use Rattle.fs_codec.specs.Disk.{Disk}
use Rattle.fs_codec.specs.Held.{entries, addresses, held_blocks, in_indirect, in_double, address}
use Rattle.bmap_path.specs.declared.BlockName.{BlockName}
use Rattle.bmap_path.specs.declared.BlockName.TheVariants.{Data, Ind, Dbl}
use Rattle.fs_codec.specs.Store.{Node}
use Rattle.fs_codec.specs.Stands.{name_of, is_held, held_of, one_past, data_of, body_of, node_of}
use Rattle.fs_laws.specs.Shown.{file_of, KeepsBlocks, Tells, Renews}
use Rattle.fs_codec.specs.declared.modes.TheConstants.{IFCHR, IFBLK}

same_device : (node next : Inode) → KeepsBlocks node next → is_device next.mode ≡ is_device node.mode
same_device node next k = ap (λ t. (t == IFCHR) || (t == IFBLK)) k.kind

holds_kept : (node next : Inode) → KeepsBlocks node next → holds_blocks next.mode ≡ holds_blocks node.mode
holds_kept node next k =
    ap (λ t. not t && not (is_device next.mode)) (ne_eqb next.mode 0 k.used) ∙ ap not (same_device node next k)
    ∙ sym (ap (λ t. not t && not (is_device node.mode)) (ne_eqb node.mode 0 k.before))

no_device : (node : Inode) → holds_blocks node.mode ≡ true → is_device node.mode ≡ false
no_device node holds = by (is_device node.mode) refl where
  by : (t : Bool) → is_device node.mode ≡ t → is_device node.mode ≡ false
  by false e = e
  by true e = (let h : not (node.mode == 0) && not true ≡ true = ap (λ t. not (node.mode == 0) && not t) (sym e) ∙ holds in absurd (never (not (node.mode == 0)) h)) where
    never : (t : Bool) → (t && false) ≡ true → ⊥
    never true h = cc
    never false h = cc

-- the addresses rest on whether the file is large, and on those in the inode
address_same : (disk : Disk) (node next : Inode) (name : BlockName) → is_large next.mode ≡ is_large node.mode → next.addr ≡ node.addr → address disk next name ≡ address disk node name
address_same disk node next (Data n) large addr i =
    cond (large i) (slice_index (entries disk (cond (nat_lt (n / 256) 7) (slice_index (addr i) (n / 256)) (slice_index (entries disk (slice_index (addr i) 7)) (n / 256 - 7)))) (n % 256)) (slice_index (addr i) n)
address_same disk node next (Ind k) large addr i = cond (large i) (cond (nat_lt k 7) (slice_index (addr i) k) (slice_index (entries disk (slice_index (addr i) 7)) (k - 7))) 0
address_same disk node next Dbl large addr i = cond (large i) (slice_index (addr i) 7) 0

addresses_same : (disk : Disk) (node next : Inode) → is_large next.mode ≡ is_large node.mode → next.addr ≡ node.addr → addresses disk next ≡ addresses disk node
addresses_same disk node next large addr i =
    cond (large i) (flat_map (in_indirect disk) (take 7 (addr i)) ++ in_double disk (slice_index (addr i) 7)) (addr i)

held_when : (s t : Bool) (a b : ℕ) → s ≡ t → (t ≡ true → a ≡ b) → (s && not (a == 0)) ≡ (t && not (b == 0))
held_when true true a b e same = ap (λ n. not (n == 0)) (same refl)
held_when false false a b e same = refl
held_when true false a b e same = absurd (cc)
held_when false true a b e same = absurd (cc)

held_same : (disk : Disk) (node next : Inode) (name : BlockName) → KeepsBlocks node next → is_held disk next name ≡ is_held disk node name
held_same disk node next name k =
    held_when (holds_blocks next.mode) (holds_blocks node.mode) (address disk next name) (address disk node name) (holds_kept node next k)
    (λ holds. address_same disk node next name k.large (k.addr (no_device node holds)))

data_when : (disk : Disk) (s t : Bool) (a b : ℕ) → s ≡ t → (t ≡ true → a ≡ b) → cond (s && not (a == 0)) (disk a) (replicate 512 0) ≡ cond (t && not (b == 0)) (disk b) (replicate 512 0)
data_when disk true true a b e same = ap (λ n. cond (not (n == 0)) (disk n) (replicate 512 0)) (same refl)
data_when disk false false a b e same = refl
data_when disk true false a b e same = absurd (cc)
data_when disk false true a b e same = absurd (cc)

data_same : (disk : Disk) (node next : Inode) (n : ℕ) → KeepsBlocks node next → data_of disk next n ≡ data_of disk node n
data_same disk node next n k =
    data_when disk (holds_blocks next.mode) (holds_blocks node.mode) (address disk next (Data n)) (address disk node (Data n)) (holds_kept node next k)
    (λ holds. address_same disk node next (Data n) k.large (k.addr (no_device node holds)))

names_same : (disk : Disk) (node next : Inode) → KeepsBlocks node next → held_of disk next ≡ held_of disk node
unfolding held_of
names_same disk node next k i = map (λ r. held_same disk node next (name_of r) k i) (range_with_len 0 67592)

body_same : (disk : Disk) (node next : Inode) → KeepsBlocks node next → body_of disk next ≡ body_of disk node
unfolding body_of
body_same disk node next k i =
    flat_map (λ n. data_same disk node next n k i) (range_with_len 0 (one_past (λ n. held_same disk node next (Data n) k i) 67328))

held_blocks_when : (disk : Disk) (node next : Inode) (s t : Bool) → s ≡ t → (t ≡ true → addresses disk next ≡ addresses disk node) → cond s (addresses disk next) [] ≡ cond t (addresses disk node) []
held_blocks_when disk node next true true e same = same refl
held_blocks_when disk node next false false e same = refl
held_blocks_when disk node next true false e same = absurd (cc)
held_blocks_when disk node next false true e same = absurd (cc)

-- Such an inode holds the same blocks.
pub blocks_same : (disk : Disk) (node next : Inode) → KeepsBlocks node next → held_blocks disk next ≡ held_blocks disk node
blocks_same disk node next k =
    held_blocks_when disk node next (holds_blocks next.mode) (holds_blocks node.mode) (holds_kept node next k)
    (λ holds. addresses_same disk node next k.large (k.addr (no_device node holds)))

-- An inode that is used has a node, and no other inode has one.
pub node_shown : (disk : Disk) (node : Inode) → node.mode ≢ 0 → node_of disk node ≡ Some (file_of disk node)
node_shown disk node used = ap (λ t. cond t None (Some (file_of disk node))) (ne_eqb node.mode 0 used)

pub node_some : (disk : Disk) (node : Inode) (file : Node) → node_of disk node ≡ Some file → (node.mode ≢ 0) × (file ≡ file_of disk node)
node_some disk node file is = by (node.mode == 0) refl is where
  by : (t : Bool) → (node.mode == 0) ≡ t → cond t None (Some (file_of disk node)) ≡ Some file → (node.mode ≢ 0) × (file ≡ file_of disk node)
  by true e none = absurd (none-some file none)
  by false e some = (eqb-false node.mode 0 e, sym (same_Some (file_of disk node) file some))

-- The fields of an inode are those of its node.
pub node_tells : (disk : Disk) (node : Inode) (file : Node) → node.mode ≢ 0 → node_of disk node ≡ Some file → Tells node file
node_tells disk node file used is =
    let f : file_of disk node ≡ file = sym (node_some disk node file is).1 in
    record {
      mode = ap (λ (x : Node). x.mode) f;
      nlink = ap (λ (x : Node). x.nlink) f;
      uid = ap (λ (x : Node). x.uid) f;
      gid = ap (λ (x : Node). x.gid) f;
      size = ap (λ (x : Node). x.size) f;
      device = ap (λ (x : Node). x.device) f;
      actime = ap (λ (x : Node). x.actime) f;
      modtime = ap (λ (x : Node). x.modtime) f;
    }

-- Its node has the fields that have changed, and the blocks and bytes that it had.
pub node_renews : (disk : Disk) (node next : Inode) (file renewed : Node) → KeepsBlocks node next → node_of disk node ≡ Some file → Renews next file renewed → node_of disk next ≡ Some renewed
node_renews disk node next file renewed k is r =
    let f : file_of disk node ≡ file = sym (node_some disk node file is).1 in
    node_shown disk next k.used ∙ ap Some (λ i. record {
      mode = r.fields.mode i;
      nlink = r.fields.nlink i;
      uid = r.fields.uid i;
      gid = r.fields.gid i;
      size = r.fields.size i;
      device = r.fields.device i;
      actime = r.fields.actime i;
      modtime = r.fields.modtime i;
      held = (names_same disk node next k ∙ ap (λ (x : Node). x.held) f ∙ sym r.held) i;
      body = (body_same disk node next k ∙ ap (λ (x : Node). x.body) f ∙ sym r.body) i;
    })

pub node_body : (disk : Disk) (node : Inode) (file : Node) → node_of disk node ≡ Some file → file.body ≡ body_of disk node
node_body disk node file is = ap (λ (x : Node). x.body) (node_some disk node file is).1
