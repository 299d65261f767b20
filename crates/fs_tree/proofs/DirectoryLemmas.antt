-- Entries of a directory, one after another.
use Rattle.std.proofs.Common.{◌≡◌, ◌≢◌, ◌+◌, ◌-◌, ◌*◌, ◌/◌, ◌%◌, ◌<◌, ◌≤◌, ◌==◌, ◌&&◌, ℕ, zero, suc, Bool, true, false, not, cond, List, map, length, slice_index, slice_range, take, drop, length-drop, length-take-le, Option, Some, None, is_some, refl, sym, ap, ◌∙◌, subst, arith}
use Rattle.std.specs.Str.{bytes_eq}
use Rattle.std.specs.Option.{unwrap_or}
use Rattle.std.specs.List.{range_with_len}
use Rattle.std.proofs.lemmas.Bool.{lt-ltb}
use Rattle.std.proofs.lemmas.List.{ext_get_or, get_or-take, get_or-drop}
use Rattle.std.proofs.lemmas.List.FromFn.{length-map-range_with_len, get_or-map-range_with_len}
use Rattle.fs_codec.specs.Fields.{entry_of}
use Rattle.fs_codec.specs.Store.{Node}
use Rattle.fs_codec.specs.declared.entry.DirEntry.{DirEntry}
use Rattle.fs_nodes.specs.FileSystem.{file_byte}
use Rattle.fs_tree.specs.declared.directory.Looked.TheVariants.{Entry, Room}
use Rattle.fs_tree.specs.Directory.{entry_at, entry_count, first_below, is_empty, is_named, entry_or_room, looked, HasBlock}

-- bytes by their places
pub same_bytes : (bytes : List ℕ) (f : ℕ → ℕ) → length bytes ≡ 16 → ((k : ℕ) → k < 16 → slice_index bytes k ≡ f k) → bytes ≡ map f (range_with_len 0 16)
same_bytes bytes f long each =
    ext_get_or 0 bytes (map f (range_with_len 0 16)) (long ∙ sym (length-map-range_with_len f 0 16))
    (λ k low. let h : k < 16 = omega (arith, long, low) in each k h ∙ sym (get_or-map-range_with_len f 0 16 k k 0 h (omega arith)))

pub entry_is : (node : Node) (place : ℕ) (bytes : List ℕ) (entry : DirEntry) → entry ≡ entry_of bytes → length bytes ≡ 16
    → ((k : ℕ) → k < 16 → slice_index bytes k ≡ file_byte node.size node.body (16 * place + k)) → entry ≡ entry_at node place
unfolding entry_at
entry_is node place bytes entry is long each = is ∙ ap entry_of (same_bytes bytes (λ k. file_byte node.size node.body (16 * place + k)) long each)

-- An entry is made of the sixteen bytes of its place in the block where it stands.
pub entry_at_place : (node : Node) (place : ℕ) (block : List ℕ) (entry : DirEntry) → HasBlock node (place / 32) block → length block ≡ 512 → 16 * place + 16 ≤ node.size
    → entry ≡ entry_of (slice_range block (16 * (place % 32)) (16 * (place % 32) + 16)) → entry ≡ entry_at node place
entry_at_place node place block entry has long within is =
    let sixteen : 16 * (place % 32) + 16 - 16 * (place % 32) ≡ 16 = omega arith in
    let part : slice_range block (16 * (place % 32)) (16 * (place % 32) + 16) ≡ take 16 (drop (16 * (place % 32)) block) = ap (λ n. take n (drop (16 * (place % 32)) block)) sixteen in
    let left : 16 ≤ length (drop (16 * (place % 32)) block) = (let d = length-drop (16 * (place % 32)) block in omega (arith, d, long)) in
    entry_is node place (take 16 (drop (16 * (place % 32)) block)) entry (is ∙ ap entry_of part) (length-take-le 16 (drop (16 * (place % 32)) block) left)
    (λ k low.
    let there : 512 * (place / 32) + (16 * (place % 32) + k) ≡ 16 * place + k = omega arith in
    get_or-take 16 (drop (16 * (place % 32)) block) k 0 low ∙ get_or-drop (16 * (place % 32)) block k 0
    ∙ has.bytes (16 * (place % 32) + k) (omega (arith, low)) ∙ ap (slice_index node.body) there
    ∙ sym (ap (λ t. cond t (slice_index node.body (16 * place + k)) 0) (lt-ltb (16 * place + k) node.size (omega (arith, low, within)))))

-- the block of the next place, where it isn't the first of its block
pub same_block : (node : Node) (place : ℕ) (block : List ℕ) → HasBlock node (place / 32) block → (place + 1) % 32 ≢ 0 → HasBlock node ((place + 1) / 32) block
same_block node place block has more =
    let P : ℕ → Type 0 = λ n. HasBlock node n block in
    subst P (omega (arith, more)) has

-- one number more
below_more : (test : ℕ → Bool) (n : ℕ) → first_below test (n + 1) ≡ cond (is_some (first_below test n)) (first_below test n) (cond (test n) (Some n) None)
unfolding first_below
below_more test n = let e : n + 1 ≡ suc n = omega arith in ap (first_below test) e

pub none_more : (test : ℕ → Bool) (n : ℕ) → first_below test n ≡ None → test n ≡ false → first_below test (n + 1) ≡ None
none_more test n none fails =
    below_more test n ∙ ap (λ o. cond (is_some o) o (cond (test n) (Some n) None)) none ∙ ap (λ t. cond t (Some n) None) fails

pub some_more : (test : ℕ → Bool) (n : ℕ) → first_below test n ≡ None → test n ≡ true → first_below test (n + 1) ≡ Some n
some_more test n none holds =
    below_more test n ∙ ap (λ o. cond (is_some o) o (cond (test n) (Some n) None)) none ∙ ap (λ t. cond t (Some n) None) holds

pub some_stays : (test : ℕ → Bool) (n i m : ℕ) → first_below test n ≡ Some i → first_below test (m + n) ≡ Some i
unfolding first_below
some_stays test n i zero is = ap (first_below test) (zero_add n) ∙ is where
  zero_add : (k : ℕ) → 0 + k ≡ k
  zero_add k = omega arith
some_stays test n i (suc m) is =
    let e : suc m + n ≡ suc (m + n) = omega arith in
    ap (first_below test) e ∙ ap (λ o. cond (is_some o) o (cond (test (m + n)) (Some (m + n)) None)) (some_stays test n i m is)

-- what is known of the entries in front of a place
pub record Passed (node : Node) (name : List ℕ) (place : ℕ) (slot : Option ℕ) : Type 0 where
  pub none : first_below (is_named node name) place ≡ None
  pub empty : slot ≡ first_below (is_empty node) place

pub passed_none : (node : Node) (name : List ℕ) → Passed node name 0 None
unfolding first_below
passed_none node name = record { none = refl; empty = refl }

named_is : (node : Node) (name : List ℕ) (place : ℕ) (entry : DirEntry) (t : Bool) → entry ≡ entry_at node place
    → t ≡ (not (entry.ino == 0) && bytes_eq entry.name name) → is_named node name place ≡ t
unfolding is_named is_empty
named_is node name place entry t is test = ap (λ (e : DirEntry). not (e.ino == 0) && bytes_eq e.name name) (sym is) ∙ sym test

empty_is : (node : Node) (place : ℕ) (entry : DirEntry) → entry ≡ entry_at node place → is_empty node place ≡ (entry.ino == 0)
unfolding is_empty
empty_is node place entry is = ap (λ (e : DirEntry). e.ino == 0) (sym is)

pub passed_more : (node : Node) (name : List ℕ) (place : ℕ) (empty next : Option ℕ) (entry : DirEntry) (t : Bool) → Passed node name place empty
    → entry ≡ entry_at node place → next ≡ cond (is_some empty) empty (cond (entry.ino == 0) (Some place) None)
    → t ≡ (not (entry.ino == 0) && bytes_eq entry.name name) → t ≡ false → Passed node name (place + 1) next
passed_more node name place empty next entry t p is next_is test fails = record {
  none = none_more (is_named node name) place p.none (named_is node name place entry t is test ∙ fails);
  empty = next_is ∙ ap (λ o. cond (is_some o) o (cond (entry.ino == 0) (Some place) None)) p.empty
      ∙ ap (λ b. cond (is_some (first_below (is_empty node) place)) (first_below (is_empty node) place) (cond b (Some place) None)) (sym (empty_is node place entry is))
      ∙ sym (below_more (is_empty node) place);
}

pub found_here : (node : Node) (name : List ℕ) (place size : ℕ) (empty : Option ℕ) (entry : DirEntry) (t : Bool) → Passed node name place empty
    → entry ≡ entry_at node place → t ≡ (not (entry.ino == 0) && bytes_eq entry.name name) → t ≡ true
    → node.size ≡ size → place < entry_count size → Entry place entry.ino ≡ looked node name
unfolding looked
found_here node name place size empty entry t p is test holds size_is low =
    let now = some_more (is_named node name) place p.none (named_is node name place entry t is test ∙ holds) in
    let rest : entry_count size ≡ (entry_count size - (place + 1)) + (place + 1) = omega (arith, low) in
    let stays = some_stays (is_named node name) (place + 1) place (entry_count size - (place + 1)) now in
    ap (λ (e : DirEntry). Entry place e.ino) is
    ∙ sym (ap (λ s. entry_or_room node (first_below (is_named node name) (entry_count s))) size_is
    ∙ ap (λ n. entry_or_room node (first_below (is_named node name) n)) rest ∙ ap (entry_or_room node) stays)

pub room_here : (node : Node) (name : List ℕ) (place size room : ℕ) (empty : Option ℕ) → Passed node name place empty
    → node.size ≡ size → place ≡ entry_count size → room ≡ unwrap_or empty (entry_count size) → Room room ≡ looked node name
unfolding looked
room_here node name place size room empty p size_is end room_is =
    let last : place ≡ entry_count node.size = end ∙ sym (ap entry_count size_is) in
    let none : first_below (is_named node name) (entry_count node.size) ≡ None = ap (first_below (is_named node name)) (sym last) ∙ p.none in
    ap Room (room_is ∙ ap (λ s. unwrap_or empty (entry_count s)) (sym size_is) ∙ ap (λ o. unwrap_or o (entry_count node.size)) (p.empty ∙ ap (first_below (is_empty node)) last))
    ∙ sym (ap (entry_or_room node) none)
