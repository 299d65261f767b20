-- An inode without addresses is the node of its file, truncated.
use Rattle.std.proofs.Common.{◌≡◌, ◌+◌, ◌-◌, ◌==◌, ◌&&◌, not, ℕ, zero, suc, Bool, true, false, cond, bit_and, List, [], ◌∷◌, length, map, replicate, slice_index, Some, None, refl, sym, ap, ◌∙◌, arith}
use Rattle.std.proofs.lemmas.Bool.{ne_eqb}
use Rattle.std.proofs.lemmas.Nat.{and_or_self, and_or_apart, and_assoc, and_le_r}
use Rattle.std.specs.List.{count_by, flat_map, range_with_len}
use Rattle.fs_codec.specs.Fields.{Inode}
use Rattle.fs_codec.specs.Modes.{is_large, is_device, holds_blocks, file_type}
use Rattle.fs_codec.specs.declared.modes.TheConstants.{ILARG, IALLOC, IFMT}
use Rattle.fs_codec.specs.Disk.{Disk}
use Rattle.fs_codec.specs.Held.{address, addresses}
use Rattle.fs_codec.specs.Store.{Node}
use Rattle.fs_codec.specs.Stands.{name_of, is_held, held_of, one_past, data_of, body_of, node_of}
use Rattle.bmap_path.specs.declared.BlockName.TheVariants.{Data}
use Rattle.fs_laws.specs.Shown.{file_of}
use Rattle.fs_laws.specs.Truncation.{truncated_mode, truncated, no_names, names_held}
use Rattle.fs_laws.proofs.CountNames.{small_data, small_is, names_counted}
use Rattle.fs_laws.proofs.ShownLemmas.{node_some}

pub truncated_small : (mode : ℕ) → is_large (truncated_mode mode) ≡ false
truncated_small mode =
    let cleared : bit_and (bit_and mode (65535 - ILARG)) ILARG ≡ bit_and mode 0 = and_assoc ILARG mode (65535 - ILARG) in
    let none : bit_and mode 0 ≡ 0 = omega (arith, and_le_r mode 0) in
    ap (λ x. not (x == 0)) (and_or_apart ILARG (bit_and mode (65535 - ILARG)) IALLOC refl ∙ cleared ∙ none)

pub truncated_used : (mode : ℕ) → (truncated_mode mode == 0) ≡ false
truncated_used mode =
    ne_eqb (truncated_mode mode) 0 (λ e. let x : bit_and (truncated_mode mode) IALLOC ≡ 0 = ap (λ y. bit_and y IALLOC) e in let y : bit_and (truncated_mode mode) IALLOC ≡ IALLOC = and_or_self IALLOC (bit_and mode (65535 - ILARG)) in absurd (omega (arith, x, y)))

-- The type of a file stays where it is truncated.
pub truncated_kind : (mode : ℕ) → file_type (truncated_mode mode) ≡ file_type mode
truncated_kind mode = and_or_apart IFMT (bit_and mode (65535 - ILARG)) IALLOC refl ∙ and_assoc IFMT mode (65535 - ILARG)

-- An inode that is small and has no address but 0.
pub record IsBare (node : Inode) : Type 0 where
  pub small : is_large node.mode ≡ false
  pub long : length node.addr ≡ 8
  pub none : (k : ℕ) → slice_index node.addr k ≡ 0

pub all_false : (f : ℕ → Bool) (s n : ℕ) → ((r : ℕ) → f r ≡ false) → map f (range_with_len s n) ≡ replicate n false
all_false f s zero none = refl
all_false f s (suc n) none = ap (λ x. x ∷ map f (range_with_len (s + 1) n)) (none s) ∙ ap (λ l. false ∷ l) (all_false f (s + 1) n none)

pub past_none : (test : ℕ → Bool) (n : ℕ) → ((r : ℕ) → test r ≡ false) → one_past test n ≡ 0
past_none test zero none = refl
past_none test (suc n) none = ap (λ t. cond t (n + 1) (one_past test n)) (none n) ∙ past_none test n none

pub not_held : (t : Bool) (b : ℕ) → b ≡ 0 → (t && not (b == 0)) ≡ false
not_held true b none = ap (λ x. not (x == 0)) none
not_held false b none = refl

bare_name : (disk : Disk) (node : Inode) → IsBare node → (r : ℕ) → is_held disk node (name_of r) ≡ false
bare_name disk node bare r = not_held (holds_blocks node.mode) (address disk node (name_of r)) (small_is disk node r bare.small bare.long ∙ bare.none r)

bare_data : (disk : Disk) (node : Inode) → IsBare node → (n : ℕ) → is_held disk node (Data n) ≡ false
bare_data disk node bare n = not_held (holds_blocks node.mode) (address disk node (Data n)) (small_data disk node n bare.small ∙ bare.none n)

bare_names : (disk : Disk) (node : Inode) → IsBare node → held_of disk node ≡ no_names
unfolding held_of no_names
bare_names disk node bare = all_false (λ r. is_held disk node (name_of r)) 0 67592 (bare_name disk node bare)

bare_body : (disk : Disk) (node : Inode) → IsBare node → body_of disk node ≡ []
unfolding body_of
bare_body disk node bare = ap (λ n. flat_map (data_of disk node) (range_with_len 0 n)) (past_none (λ n. is_held disk node (Data n)) 67328 (bare_data disk node bare))

-- a small inode without addresses, and otherwise as the file's
cut : Inode → List ℕ → Inode
cut node addr = record node { mode = truncated_mode node.mode; size = 0; addr = addr }

cut_bare : (node : Inode) (addr : List ℕ) → length addr ≡ 8 → ((k : ℕ) → slice_index addr k ≡ 0) → IsBare (cut node addr)
unfolding cut
cut_bare node addr long none = record { small = truncated_small node.mode; long = long; none = none }

no_device : (t : Bool) (n : ℕ) → n ≡ 0 → cond t n 0 ≡ 0
no_device true n none = none
no_device false n none = refl

emptied : (file : Node) (mode device : ℕ) (held : List Bool) (body : List ℕ) → device ≡ file.device → held ≡ no_names → body ≡ []
    → record file { mode = mode; size = 0; device = device; held = held; body = body } ≡ record file { mode = mode; size = 0; held = no_names; body = [] }
emptied file mode device held body same names none i = record file { mode = mode; size = 0; device = same i; held = names i; body = none i }

cut_node : (old new : Disk) (node : Inode) (addr : List ℕ) → is_device node.mode ≡ false → length addr ≡ 8 → ((k : ℕ) → slice_index addr k ≡ 0) → file_of new (cut node addr) ≡ truncated (file_of old node)
unfolding cut
cut_node old new node addr file long none =
    let bare : IsBare (cut node addr) = cut_bare node addr long none in
    let before : cond (is_device node.mode) (slice_index node.addr 0) 0 ≡ 0 = ap (λ t. cond t (slice_index node.addr 0) 0) file in
    let device : cond (is_device (truncated_mode node.mode)) (slice_index addr 0) 0 ≡ cond (is_device node.mode) (slice_index node.addr 0) 0 = no_device (is_device (truncated_mode node.mode)) (slice_index addr 0) (none 0) ∙ sym before in
    let names = bare_names new (cut node addr) bare in
    let body = bare_body new (cut node addr) bare in
    emptied (file_of old node) (truncated_mode node.mode) (cond (is_device (truncated_mode node.mode)) (slice_index addr 0) 0) (held_of new (cut node addr)) (body_of new (cut node addr)) device names body
    ∙ sym (ap (λ t. cond t (file_of old node) (record (file_of old node) { mode = truncated_mode node.mode; size = 0; held = no_names; body = [] })) file)

-- The inode that is left is the file, truncated.
pub truncated_node : (old new : Disk) (node : Inode) (addr : List ℕ) (file : Node) → is_device node.mode ≡ false → length addr ≡ 8 → ((k : ℕ) → slice_index addr k ≡ 0) → node_of old node ≡ Some file
    → node_of new (record node { mode = truncated_mode node.mode; size = 0; addr = addr }) ≡ Some (truncated file)
unfolding cut
truncated_node old new node addr file plain long none is =
    ap (λ t. cond t None (Some (file_of new (cut node addr)))) (truncated_used node.mode)
    ∙ ap (λ n. Some n) (cut_node old new node addr plain long none)
    ∙ ap (λ n. Some (truncated n)) (sym (node_some old node file is).1)

-- A file holds as many names as its inode has addresses other than 0.
pub file_counted : (disk : Disk) (node : Inode) (file : Node) → is_device node.mode ≡ false → length node.addr ≡ 8 → node_of disk node ≡ Some file → names_held file ≡ count_by (λ b. not (b == 0)) (addresses disk node)
file_counted disk node file plain long is =
    let u = node_some disk node file is in
    let holds : holds_blocks node.mode ≡ true = ap (λ t. not t && not (is_device node.mode)) (ne_eqb node.mode 0 u.0) ∙ ap not plain in
    ap names_held u.1 ∙ names_counted disk node holds long
