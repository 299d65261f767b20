-- Files and devices as they are added, and the lists that they make.
use Rattle.std.proofs.Common.{◌≡◌, ◌+◌, ◌*◌, ◌/◌, ◌%◌, ◌<◌, ◌≤◌, inl, inr, ℕ, List, [], ◌∷◌, ◌++◌, length, drop, slice_index, refl, sym, ap, ◌∙◌, append_assoc, append-nil, arith, length-append, subst}
use Rattle.std.specs.Prelude.{Result, Ok, Err, OnOk, map, replicate}
use Rattle.std.specs.List.{range_with_len, flat_map}
use Rattle.std.proofs.lemmas.Bool.{cases_lt}
use Rattle.std.proofs.lemmas.List.{drop-replicate}
use Rattle.std.proofs.Math.ListN.{get_or-eq_default}
use Rattle.std.proofs.lemmas.Grind.{same_number_lists}
use Rattle.std.proofs.lemmas.List.FromFn.{get_or-range_with_len, length-range_with_len, map-range_with_len_more}
use Rattle.std.proofs.lemmas.Grind.{flat_map-append}
use Rattle.fs_codec.specs.Fields.{Inode}
use Rattle.fs_codec.specs.declared.entry.DirEntry.{DirEntry}
use Rattle.fs_codec.specs.Bytes.{inode_bytes}
use Rattle.make_image.specs.Padded.{padded}
use Rattle.make_image.specs.Files.{Bytes, Node, device}
use Rattle.make_image.specs.declared.files.Files.{Files}
use Rattle.make_image.specs.Image.{bytes_in, blocks_of, inode, inodes, contents}
use Rattle.make_image.specs.Adding.{AddsNode, Holds}
use Rattle.make_image.proofs.PaddedLemmas.{length-padded, get_or-padded}

-- two facts of a value, if there is one, make a third
pub on_ok_weaker2 : {T E P Q R : Type 0} (r : Result T E) → (P → Q → R) → OnOk r P → OnOk r Q → OnOk r R
on_ok_weaker2 (Ok x) f p q = f p q
on_ok_weaker2 (Err e) f p q = tt

-- so many numbers from the first on, and zeros
pub addresses_padded : (list : List ℕ) (first blocks size : ℕ) → length list ≡ size → blocks ≤ size → ((k : ℕ) → k < blocks → slice_index list k ≡ first + k) → ((k : ℕ) → blocks ≤ k → slice_index list k ≡ 0) → list ≡ padded size (range_with_len first blocks)
addresses_padded list first blocks size long few each rest =
    let counted : length (range_with_len first blocks) ≡ blocks = length-range_with_len first blocks in
    let whole : length (padded size (range_with_len first blocks)) ≡ size = length-padded size (range_with_len first blocks) (omega arith) in
    same_number_lists list (padded size (range_with_len first blocks)) (omega arith) (λ k h.
    let read : slice_index (padded size (range_with_len first blocks)) k ≡ slice_index (range_with_len first blocks) k = get_or-padded size (range_with_len first blocks) k in
    elim (cases_lt k blocks) [
      | inl below ↦ each k below ∙ sym (get_or-range_with_len first blocks k 0 below) ∙ sym read
      | inr above ↦ rest k above ∙ sym (get_or-eq_default (range_with_len first blocks) 0 {n = k} (omega arith)) ∙ sym read
    ])

spelled : (mode nlink size : ℕ) (addr : List ℕ) → Inode
spelled mode nlink size addr = record { mode = mode; nlink = nlink; uid = 0; gid = 0; size = size; addr = addr; actime = 0; modtime = 0 }

pub padded_numbers : (numbers : ℕ) → numbers ∷ 0 ∷ 0 ∷ 0 ∷ 0 ∷ 0 ∷ 0 ∷ 0 ∷ [] ≡ padded 8 (numbers ∷ [])
unfolding padded
padded_numbers numbers = refl

padded_none : padded 0 [] ≡ []
unfolding padded
padded_none = refl

pub added_device : (numbers : ℕ) (old new : Files) → new.inodes.items ≡ old.inodes.items ++ inode_bytes (record { mode = 0o120666; nlink = 1; uid = 0; gid = 0; size = 0; addr = numbers ∷ 0 ∷ 0 ∷ 0 ∷ 0 ∷ 0 ∷ 0 ∷ 0 ∷ []; actime = 0; modtime = 0 }) → length new.inodes.items ≡ length old.inodes.items + 32 → new.contents.items ≡ old.contents.items → AddsNode (device numbers) old new
unfolding spelled
added_device numbers old new is one same =
    let long : length new.contents.items ≡ length old.contents.items = ap length same in
    record {
      inode = is ∙ ap (λ addr. old.inodes.items ++ inode_bytes (spelled 0o120666 1 0 addr)) (padded_numbers numbers);
      content = same ∙ sym (append-nil old.contents.items) ∙ ap (λ l. old.contents.items ++ l) (sym padded_none);
      one = one;
      small = omega arith;
    }

-- a list of so many items more is so much longer
pub longer : (more old_count new_count : ℕ) (old new : List ℕ) → old_count ≡ length old → new_count ≡ length new → new_count ≡ old_count + more → length new ≡ length old + more
longer more old_count new_count old new was is grown = omega arith

pub added_file : (mode nlink first blocks : ℕ) (addr bytes : List ℕ) (old new : Files) → length bytes ≤ 4096 → first ≡ 62 + length old.contents.items / 512 → blocks ≡ (length bytes + 511) / 512 → addr ≡ padded 8 (range_with_len first blocks) → new.inodes.items ≡ old.inodes.items ++ inode_bytes (record { mode = mode; nlink = nlink; uid = 0; gid = 0; size = length bytes; addr = addr; actime = 0; modtime = 0 }) → length new.inodes.items ≡ length old.inodes.items + 32 → new.contents.items ≡ old.contents.items ++ padded (512 * blocks) bytes → AddsNode (record { mode = mode; nlink = nlink; content = Bytes bytes }) old new
unfolding spelled
added_file mode nlink first blocks addr bytes old new small next count named node one content =
    let placed : addr ≡ padded 8 (range_with_len (62 + length old.contents.items / 512) ((length bytes + 511) / 512)) = cc in
    let whole : length (padded (512 * blocks) bytes) ≡ 512 * blocks = length-padded (512 * blocks) bytes (omega arith) in
    let grown : length new.contents.items ≡ length old.contents.items + length (padded (512 * blocks) bytes) = ap length content ∙ length-append old.contents.items (padded (512 * blocks) bytes) in
    record {
      inode = node ∙ ap (λ a. old.inodes.items ++ inode_bytes (spelled mode nlink (length bytes) a)) placed;
      content = content ∙ ap (λ b. old.contents.items ++ padded (512 * b) bytes) count;
      one = one;
      small = omega arith;
    }

unfoldable pub named : ℕ → List ℕ → DirEntry
named ino name = record { ino = ino; name = name }

-- a name in a field of zeros is padded up
pub named_field : (name field : List ℕ) → length name ≤ 14 → field ≡ name → field ++ drop (length name) (replicate 14 0) ≡ padded 14 name
unfolding padded
named_field name field h is = ap (λ l. l ++ drop (length name) (replicate 14 0)) is ∙ ap (λ l. name ++ l) (drop-replicate (length name) 14 0)

pub range_more : {X : Type 0} (front : List X) (f : ℕ → X) (k : ℕ) → front ++ map f (range_with_len 0 (k + 1)) ≡ front ++ map f (range_with_len 0 k) ++ f k ∷ []
range_more front f k = ap (λ l. front ++ l) (map-range_with_len_more f 0 k k (omega arith)) ∙ sym (append_assoc front (map f (range_with_len 0 k)) (f k ∷ []))

pub flat_map_one_more : {X : Type 0} (g : X → List ℕ) (front : List X) (f : ℕ → X) (k : ℕ) → flat_map g (front ++ map f (range_with_len 0 (k + 1))) ≡ flat_map g (front ++ map f (range_with_len 0 k)) ++ g (f k)
flat_map_one_more g front f k =
    ap (flat_map g) (range_more front f k) ∙ flat_map-append g (front ++ map f (range_with_len 0 k)) (f k ∷ []) ∙ ap (λ l. flat_map g (front ++ map f (range_with_len 0 k)) ++ l) (append-nil (g (f k)))

-- how many blocks the nodes have
abbrev pub blocks_in : List Node → ℕ
blocks_in [] = 0
blocks_in (node ∷ nodes) = blocks_of node.content + blocks_in nodes

pub length-contents : (nodes : List Node) → length (contents nodes) ≡ 512 * blocks_in nodes
unfolding contents
length-contents [] = refl
length-contents (node ∷ nodes) =
    let rest : length (contents nodes) ≡ 512 * blocks_in nodes = length-contents nodes in
    let first : length (padded (512 * blocks_of node.content) (bytes_in node.content)) ≡ 512 * blocks_of node.content = length-padded (512 * blocks_of node.content) (bytes_in node.content) (omega arith) in
    length-append (padded (512 * blocks_of node.content) (bytes_in node.content)) (contents nodes) ∙ omega arith

inodes_more : (first : ℕ) (nodes : List Node) (node : Node) → inodes first (nodes ++ node ∷ []) ≡ inodes first nodes ++ inode_bytes (inode (first + blocks_in nodes) node)
unfolding inodes
inodes_more first [] node =
    let place : first ≡ first + 0 = omega arith in
    append-nil (inode_bytes (inode first node)) ∙ ap (λ f. inode_bytes (inode f node)) place
inodes_more first (n ∷ nodes) node =
    let place : first + blocks_of n.content + blocks_in nodes ≡ first + (blocks_of n.content + blocks_in nodes) = omega arith in
    ap (λ l. inode_bytes (inode first n) ++ l) (inodes_more (first + blocks_of n.content) nodes node ∙ ap (λ f. inodes (first + blocks_of n.content) nodes ++ inode_bytes (inode f node)) place)
    ∙ sym (append_assoc (inode_bytes (inode first n)) (inodes (first + blocks_of n.content) nodes) (inode_bytes (inode (first + (blocks_of n.content + blocks_in nodes)) node)))

contents_more : (nodes : List Node) (node : Node) → contents (nodes ++ node ∷ []) ≡ contents nodes ++ padded (512 * blocks_of node.content) (bytes_in node.content)
unfolding contents
contents_more nodes node =
    let block : Node → List ℕ = λ node. padded (512 * blocks_of node.content) (bytes_in node.content) in
    flat_map-append block nodes (node ∷ []) ∙ ap (λ l. flat_map block nodes ++ l) (append-nil (block node))

pub holds_none : (files : Files) → files.inodes.items ≡ [] → files.contents.items ≡ [] → Holds [] files
unfolding inodes contents
holds_none files no_inodes no_contents = record { inodes = no_inodes; contents = no_contents }

next_place : (nodes : List Node) (files : Files) → Holds nodes files → 62 + length files.contents.items / 512 ≡ 62 + blocks_in nodes
next_place nodes files h =
    let long : length files.contents.items ≡ 512 * blocks_in nodes = ap length h.contents ∙ length-contents nodes in
    omega arith

pub holds_more : (nodes : List Node) (node : Node) (old new : Files) → Holds nodes old → AddsNode node old new → Holds (nodes ++ node ∷ []) new
holds_more nodes node old new h a =
    let place : 62 + length old.contents.items / 512 ≡ 62 + blocks_in nodes = next_place nodes old h in
    let table : inodes 62 (nodes ++ node ∷ []) ≡ inodes 62 nodes ++ inode_bytes (inode (62 + blocks_in nodes) node) = inodes_more 62 nodes node in
    let held : contents (nodes ++ node ∷ []) ≡ contents nodes ++ padded (512 * blocks_of node.content) (bytes_in node.content) = contents_more nodes node in
    record {
      inodes = a.inode ∙ ap (λ l. l ++ inode_bytes (inode (62 + length old.contents.items / 512) node)) h.inodes ∙ ap (λ f. inodes 62 nodes ++ inode_bytes (inode f node)) place ∙ sym table;
      contents = a.content ∙ ap (λ l. l ++ padded (512 * blocks_of node.content) (bytes_in node.content)) h.contents ∙ sym held;
    }

pub holds_file : {mode nlink : ℕ} {bytes want : List ℕ} (nodes : List Node) (old new : Files) → Holds nodes old → bytes ≡ want → AddsNode (record { mode = mode; nlink = nlink; content = Bytes bytes }) old new → Holds (nodes ++ record { mode = mode; nlink = nlink; content = Bytes want } ∷ []) new
holds_file {mode} {nlink} {bytes} nodes old new h is added =
    subst (λ b. Holds (nodes ++ record { mode = mode; nlink = nlink; content = Bytes b } ∷ []) new) is (holds_more nodes (record { mode = mode; nlink = nlink; content = Bytes bytes }) old new h added)

-- the contents are whole blocks
pub whole_blocks : (nodes : List Node) (files : Files) → Holds nodes files → length files.contents.items % 512 ≡ 0
whole_blocks nodes files h =
    let long : length files.contents.items ≡ 512 * blocks_in nodes = ap length h.contents ∙ length-contents nodes in
    omega arith
